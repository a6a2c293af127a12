-- No other answer fits: two answers, and all that is lent back, that meet the promise of `encode_diff` are the same, whatever stood in what was lent, if it
-- was as long.
use Prim.Native.Nat.{ℕ}
use mathlib.Core.Path.{◌≡◌}
use mathlib.Core.List.{List}
use lib.ListN.{length}
use Rattle.block.specs.declared.Block.{Block}
use Rattle.diffs.specs.declared.Diff.{Diff}
use Rattle.diffs.specs.Promises.{Diffs}

-- `encode_update` is the case of the vector that names no client
pub diff-unique : (form : ℕ) (u v : List ℕ) (to : ℕ) (rows rows' : List Block) (ranges ranges' out out' : List ℕ)
    (r s : Diff) (rows₁ rows₂ : List Block) (ranges₁ ranges₂ out₁ out₂ : List ℕ)
    → length rows ≡ length rows' → length ranges ≡ length ranges' → length out ≡ length out'
    → Diffs form u v to rows ranges out r rows₁ ranges₁ out₁ → Diffs form u v to rows' ranges' out' s rows₂ ranges₂ out₂
    → (r ≡ s) × (rows₁ ≡ rows₂) × (ranges₁ ≡ ranges₂) × (out₁ ≡ out₂)
diff-unique form u v to rows rows' ranges ranges' out out' r s rows₁ rows₂ ranges₁ ranges₂ out₁ out₂ same_rows same-ranges same_out a b = (cc, cc, cc, cc)
