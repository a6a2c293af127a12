-- The promise of `explain`: its answer, and what it leaves in the words that were lent, as equations of the inputs.
use Rattle.std.specs.Prelude.{ℕ, ◌≡◌, List, [], ◌∷◌, ltb, length}
use Rattle.numbers.specs.declared.Refusal.{Refusal}
use Rattle.numbers.specs.Number.{pick, none, nowhere}
use Rattle.numbers.specs.Limits.{max_update}
use Rattle.numbers.specs.Output.{padded}
use Rattle.grammar.specs.Course.{ending}
use Rattle.decoder.specs.Update.{blocks_of, delete_set}
use Rattle.origins.specs.declared.Line.{Line}
use Rattle.explainer.specs.Explanation.{explanation, words}
use Rattle.explains.specs.declared.Explained.{Explained}

-- a refusal, or none, and the lines that are told with it
pub record Outcome : Type 0 where
  pub why : Refusal
  pub lines : List Line

unfoldable pub refused : Refusal → Outcome
refused why = record { why = why; lines = [] }

-- 11 where there is no such block, 10 where its lines find no room
unfoldable pub fitting : ℕ → List Line → Outcome
fitting room [] = refused (nowhere 11)
fitting room (l ∷ ls) = pick (ltb room (length (words (l ∷ ls)))) (refused (nowhere 10)) (record { why = none; lines = l ∷ ls })

-- the form first (12), then the update's length (3), then what reading the whole update says, then the block and the room
unfoldable pub explain_of : ℕ → List ℕ → ℕ → ℕ → Outcome
explain_of form u n room =
    pick (ltb form 1) (refused (nowhere 12))
    (pick (ltb 2 form) (refused (nowhere 12))
    (pick (ltb max_update (length u)) (refused (nowhere 3))
    (ending (blocks_of form u) (λ at. ending (delete_set form u at) (λ e. fitting room (explanation form u n)) refused) refused)))

unfoldable pub answer_of : Outcome → Explained
answer_of o = record { refusal = o.why; lines = length o.lines }

-- an outcome as an answer, and what it leaves in words that were out: the lines, then zeros
abbrev pub Gives : Outcome → List ℕ → Explained → List ℕ → Type 0
Gives o out r out₁ = (r ≡ answer_of o) × (out₁ ≡ padded (length out) (words o.lines))

-- what `explain` answers for block n of the update u
abbrev pub Explains : ℕ → List ℕ → ℕ → List ℕ → Explained → List ℕ → Type 0
Explains form u n out r out₁ = Gives (explain_of form u n (length out)) out r out₁
