-- With bytes behind an update its blocks and its delete ranges stay, as many as there are rows for, and so does what follows them.
use Prim.Native.Nat.{ℕ, zero, suc}
use mathlib.Core.Path.{◌≡◌, ap, ◌∙◌}
use mathlib.Core.Logic.{◌≢◌}
use mathlib.Core.List.{List, ◌++◌}
use lib.Dec.{eqb}
use Rattle.numbers.specs.declared.Refusal.{Refusal}
use Rattle.grammar.specs.Course.{CourseTo, thing, over, stopped, fit, ending}
use Rattle.grammar.specs.Blocks.{all_blocks}
use Rattle.grammar.specs.Deletes.{all_ranges}
use Rattle.grammar.proofs.Runs.{both}
use Rattle.decoder.specs.Update.{blocks_of, delete_set}
use Rattle.places.specs.Appended.{Stays}
use Rattle.places.proofs.AppendedRuns.{line_stays}
use Rattle.places.proofs.AppendedColumns.{columns-stay}

pub blocks-stay : (form : ℕ) (u w : List ℕ) → Stays (blocks_of form u) (blocks_of form (u ++ w))
unfolding blocks_of
blocks-stay form u w = both Stays (eqb form 1) (line_stays 1 u w all_blocks 0) (columns-stay u w)

pub ranges-stay : (form : ℕ) (u w : List ℕ) (at : ℕ) → Stays (delete_set form u at) (delete_set form (u ++ w) at)
unfolding delete_set
ranges-stay form u w at = line_stays form u w all_ranges at

-- ---- what rows take of a run, and what follows it

pub fit_stays : {S E A : Type 0} (n : ℕ) (x y : CourseTo S E A) → Stays x y → Stays (fit n x) (fit n y)
unfolding fit Stays
fit_stays zero (thing e p c) y h = λ q. ap (fit zero) h.1
fit_stays (suc n) (thing e p c) y h = (fit n h.0, ap (fit (suc n)) h.1, fit_stays n c h.0 h.2)
fit_stays n (over a s) y h = ap (fit n) h
fit_stays n (stopped why) y h = λ q. ap (fit n) (h q)

-- what P holds of is no refusal with 1: there the runs are the same, and so is what follows them, if it is the same then
module _ {S E A X : Type 0} (f f' : S → X) (g : Refusal → X) (P : X → Type 0) (other : (why : Refusal) → P (g why) → why.number ≢ 1) where
  pub ending-stays : (x y : CourseTo S E A) → Stays x y → (y ≡ x → (s : S) → P (f s) → f' s ≡ f s) → P (ending x f g) → ending y f' g ≡ ending x f g
  unfolding ending Stays
  ending-stays (thing e p c) y h next q =
      ap (λ (z : CourseTo S E A). ending z f' g) h.1 ∙ ending-stays c h.0 h.2 (λ same. next (h.1 ∙ ap (thing e p) same)) q
  ending-stays (over a s) y h next q = ap (λ (z : CourseTo S E A). ending z f' g) h ∙ next h s q
  ending-stays (stopped why) y h next q = ap (λ (z : CourseTo S E A). ending z f' g) (h (other why q))
