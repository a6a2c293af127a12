-- No other answer fits: two answers, and all that was lent, that meet the promise of `sort_held_slowly` are the same.
use Prim.Native.Nat.{ℕ}
use mathlib.Core.Path.{◌≡◌, sym, ◌∙◌}
use mathlib.Core.List.{List}
use Rattle.block.specs.declared.Block.{Block}
use Rattle.held_answers.specs.declared.SortedHeld.{SortedHeld}
use Rattle.slow_held_sorts.specs.Promises.{SortHeldSlowly}

pub sort-held-slowly-unique : (form : ℕ) (u v : List ℕ) (rows : List Block) (ranges given order counts pending : List ℕ)
    (r s : SortedHeld) (rows₁ rows₂ : List Block) (ranges₁ ranges₂ given₁ given₂ order₁ order₂ counts₁ counts₂ pending₁ pending₂ : List ℕ)
    → SortHeldSlowly form u v rows ranges given order counts pending r rows₁ ranges₁ given₁ order₁ counts₁ pending₁
    → SortHeldSlowly form u v rows ranges given order counts pending s rows₂ ranges₂ given₂ order₂ counts₂ pending₂
    → (r ≡ s) × (rows₁ ≡ rows₂) × (ranges₁ ≡ ranges₂) × (given₁ ≡ given₂) × (order₁ ≡ order₂) × (counts₁ ≡ counts₂) × (pending₁ ≡ pending₂)
sort-held-slowly-unique form u v rows ranges given order counts pending r s rows₁ rows₂ ranges₁ ranges₂ given₁ given₂ order₁ order₂ counts₁ counts₂ pending₁ pending₂ a b = (
  a.0 ∙ sym b.0,
  a.1 ∙ sym b.1,
  a.2 ∙ sym b.2,
  a.3 ∙ sym b.3,
  a.4 ∙ sym b.4,
  a.5 ∙ sym b.5,
  a.6 ∙ sym b.6,
)
