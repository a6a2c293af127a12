-- Reading on: what k reads of a reader give, one after the other, and the same said of a column that is read by value.
use Rattle.std.specs.Prelude.{ℕ, zero, suc, ◌+◌, List, [], ◌∷◌, map}
use Rattle.std.proofs.Math.Seq.{slice}
use Rattle.numbers.specs.declared.Refusal.{Refusal}
use Rattle.numbers.specs.Number.{none}
use Rattle.columns.specs.Reading.{Reading}
use Rattle.string.specs.StringInner.{Texts}
use Rattle.readers.specs.declared.Column.{Column}
use Rattle.readers.specs.declared.Answer.{Answer}
use Rattle.readers.specs.Readers.{valued, refused, answer_of, after}

unfoldable pub answers : ℕ → Column → List Answer
answers zero c = []
answers (suc k) c = answer_of c ∷ answers k (after c)

-- the first k of these: xs, then y again and again
unfoldable pub onwards : {A : Type 0} → ℕ → List A → A → List A
onwards zero xs y = []
onwards (suc k) [] y = y ∷ onwards k [] y
onwards (suc k) (x ∷ xs) y = x ∷ onwards k xs y

-- the values that were drawn, and then the refusal that ended them
abbrev pub told : ℕ → Reading → List Answer
told k r = onwards k (map valued r.values) (refused r.refusal)

-- of texts, each answer as its refusal and its text: where the part lies in the column's bytes s is left out
abbrev pub worded : List ℕ → Answer → Refusal × List ℕ
worded s a = (a.refusal, slice a.part.place (a.part.place + a.part.bytes.0) s)

abbrev pub told_texts : ℕ → Texts → List (Refusal × List ℕ)
told_texts k r = onwards k (map (λ t. (none, t)) r.texts) (r.refusal, [])
