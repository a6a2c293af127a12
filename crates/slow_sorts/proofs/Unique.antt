-- No other answer fits: two answers, and all that was lent, that meet the promise of `sort_slowly` are the same.
use Prim.Native.Nat.{ℕ}
use mathlib.Core.Path.{◌≡◌, sym, ◌∙◌}
use mathlib.Core.List.{List}
use Rattle.block.specs.declared.Block.{Block}
use Rattle.sort_answers.specs.declared.Sorted.{Sorted}
use Rattle.slow_sorts.specs.Promises.{SortSlowly}

pub sort-slowly-unique : (rule form : ℕ) (u v : List ℕ) (rows : List Block) (ranges order counts reaches pending : List ℕ)
    (r s : Sorted) (rows₁ rows₂ : List Block) (ranges₁ ranges₂ order₁ order₂ counts₁ counts₂ reaches₁ reaches₂ pending₁ pending₂ : List ℕ)
    → SortSlowly rule form u v rows ranges order counts reaches pending r rows₁ ranges₁ order₁ counts₁ reaches₁ pending₁
    → SortSlowly rule form u v rows ranges order counts reaches pending s rows₂ ranges₂ order₂ counts₂ reaches₂ pending₂
    → (r ≡ s) × (rows₁ ≡ rows₂) × (ranges₁ ≡ ranges₂) × (order₁ ≡ order₂) × (counts₁ ≡ counts₂) × (reaches₁ ≡ reaches₂) × (pending₁ ≡ pending₂)
sort-slowly-unique rule form u v rows ranges order counts reaches pending r s rows₁ rows₂ ranges₁ ranges₂ order₁ order₂ counts₁ counts₂ reaches₁ reaches₂ pending₁ pending₂ a b = (
  a.0 ∙ sym b.0,
  a.1 ∙ sym b.1,
  a.2 ∙ sym b.2,
  a.3 ∙ sym b.3,
  a.4 ∙ sym b.4,
  a.5 ∙ sym b.5,
  a.6 ∙ sym b.6,
)
