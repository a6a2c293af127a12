-- No other answer fits: two answers, and all that is lent back, that meet the promise of `sort` are the same, whatever stood in what was lent, if it was as
-- long.
use Prim.Native.Nat.{ℕ}
use mathlib.Core.Path.{◌≡◌}
use mathlib.Core.List.{List}
use lib.ListN.{length}
use Rattle.block.specs.declared.Block.{Block}
use Rattle.sort_answers.specs.declared.Sorted.{Sorted}
use Rattle.sorts.specs.Promises.{SortUpdate}

pub sort-unique : (rule form : ℕ) (u v : List ℕ) (rows rows' : List Block)
    (ranges ranges' order order' counts counts' reaches reaches' pending pending' : List ℕ)
    (r s : Sorted) (rows₁ rows₂ : List Block) (ranges₁ ranges₂ order₁ order₂ counts₁ counts₂ reaches₁ reaches₂ pending₁ pending₂ : List ℕ)
    → length rows ≡ length rows' → length ranges ≡ length ranges' → length order ≡ length order'
    → length counts ≡ length counts' → length reaches ≡ length reaches' → length pending ≡ length pending'
    → SortUpdate rule form u v rows ranges order counts reaches pending r rows₁ ranges₁ order₁ counts₁ reaches₁ pending₁
    → SortUpdate rule form u v rows' ranges' order' counts' reaches' pending' s rows₂ ranges₂ order₂ counts₂ reaches₂ pending₂
    → (r ≡ s) × (rows₁ ≡ rows₂) × (ranges₁ ≡ ranges₂) × (order₁ ≡ order₂) × (counts₁ ≡ counts₂) × (reaches₁ ≡ reaches₂) × (pending₁ ≡ pending₂)
sort-unique rule form u v rows rows' ranges ranges' order order' counts counts' reaches reaches' pending pending' r s rows₁ rows₂ ranges₁ ranges₂ order₁ order₂ counts₁ counts₂ reaches₁ reaches₂ pending₁ pending₂ e₁ e₂ e₃ e₄ e₅ e₆ a b =
    (cc, cc, cc, cc, cc, cc, cc)
