-- The rows as they are seen: as many as there are, each by number or as it is.
use Prim.Native.Nat.{ℕ, zero, suc, ◌+◌, ◌<◌}
use mathlib.Core.Path.{◌≡◌, refl, sym, ap, ◌∙◌}
use mathlib.Core.Bool.{Bool, true, false}
use mathlib.Core.List.{List, [], ◌∷◌}
use native.Mathlib.Omega.{arith}
use lib.ListN.{length, get_or}
use Rattle.block.specs.declared.Block.{Block}
use Rattle.block.specs.Row.{no_block}
use Rattle.slots.specs.Slots.{Slot}
use Rattle.placing.specs.Placing.{row_by, rows_by}
use Rattle.sweeper.specs.Sweeper.{seen_by}

module _ (w : List ℕ) (h : ℕ) (ss : List Slot) (rows : List Block) where
  rows-length : (i : ℕ) (bs : List Block) → length (rows_by w h ss rows i bs) ≡ length bs
  unfolding rows_by
  rows-length i [] = refl
  rows-length i (b ∷ bs) = ap suc (rows-length (suc i) bs)

  rows-from : (i : ℕ) (bs : List Block) (x : ℕ) → x < length bs → get_or (rows_by w h ss rows i bs) x no_block ≡ row_by w h ss rows (i + x) (get_or bs x no_block)
  unfolding rows_by
  rows-from i [] x l = absurd (omega arith)
  rows-from i (b ∷ bs) zero l = let e : i + 0 ≡ i = omega arith in rw e refl
  rows-from i (b ∷ bs) (suc x) l = let e : i + suc x ≡ suc i + x = omega arith in rw e (rows-from (suc i) bs x (omega arith))

  pub seen-length : (numbered : Bool) → length (seen_by numbered w h ss rows) ≡ length rows
  unfolding seen_by
  seen-length true = rows-length 0 rows
  seen-length false = refl

  pub seen-numbered : (numbered : Bool) → numbered ≡ true → (x : ℕ) → x < length rows → row_by w h ss rows x (get_or rows x no_block) ≡ get_or (seen_by numbered w h ss rows) x no_block
  unfolding seen_by
  seen-numbered numbered e x l = rw e
      (ap (λ (k : ℕ). row_by w h ss rows k (get_or rows x no_block)) (let p : x ≡ 0 + x = omega arith in p) ∙ sym (rows-from 0 rows x l))

  pub seen_plain : (numbered : Bool) → numbered ≡ false → (x : ℕ) → get_or rows x no_block ≡ get_or (seen_by numbered w h ss rows) x no_block
  unfolding seen_by
  seen_plain numbered e x = rw e refl
