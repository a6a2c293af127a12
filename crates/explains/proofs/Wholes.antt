-- A whole update read, by what each part of the reading gave.
use Rattle.std.specs.Prelude.{Result, Ok, Err}
use Prim.Native.Nat.{ℕ}
use native.Mathlib.Omega.{arith}
use mathlib.Core.Path.{◌≡◌, refl, sym, ap, ◌∙◌}
use mathlib.Core.Bool.{true, false}
use mathlib.Core.List.{List}
use Rattle.numbers.specs.declared.Refusal.{Refusal}
use Rattle.block.specs.declared.Block.{Block}
use Rattle.grammar.specs.Course.{Course, thing, over, stopped, ending}
use Rattle.decoder.specs.Update.{blocks_of, delete_set}
use Rattle.ranges.specs.Ranges.{Range}
use Rattle.content.specs.ContentInner.{scanned_of}
use Rattle.content.proofs.Seek.{scanned-row, scanned-refused}
use Rattle.explainer.specs.Following.{is_whole, Readable}
use Rattle.explains.specs.Whole.{whole_of}

-- ---- the delete set, by what its check gave

abbrev on_checked : {X : Type 0} → (ℕ → X) → (Refusal → X) → Result ℕ Refusal → X
on_checked f g (Ok v) = f v
on_checked f g (Err why) = g why

checked-is : {X : Type 0} (c : Course Range) (x : Result ℕ Refusal) (f : ℕ → X) (g : Refusal → X) → ending c Ok Err ≡ x → ending c f g ≡ on_checked f g x
unfolding ending
checked-is (thing a p c) x f g e = checked-is c x f g e
checked-is (over a t) x f g e = ap (on_checked f g) e
checked-is (stopped why) x f g e = ap (on_checked f g) e

-- ---- all of it

module _ (form : ℕ) (u : List ℕ) where
  pub not-begun : (why : Refusal) → blocks_of form u ≡ stopped why → Err why ≡ whole_of form u
  unfolding whole_of ending
  not-begun why e = sym (rw e)

  -- c: the blocks of the update, as they come
  module _ (n : ℕ) (c : Course Block) (b : blocks_of form u ≡ c) where
    pub not-scanned : (why : Refusal) → scanned_of n c ≡ Err why → Err why ≡ whole_of form u
    unfolding whole_of
    not-scanned why e = sym (scanned-refused n (blocks_of form u) why _ _ (ap (scanned_of n) b ∙ e))

    module _ (row : Block) (at : ℕ) (r : scanned_of n c ≡ Ok (row, at)) (x : Result ℕ Refusal) (d : ending (delete_set form u at) Ok Err ≡ x) where
      behind : whole_of form u ≡ on_checked (λ v. Ok tt) (λ why. Err why) x
      unfolding whole_of
      behind = (scanned-row n (blocks_of form u) row at _ _ (ap (scanned_of n) b ∙ r)).0 ∙ checked-is (delete_set form u at) x _ _ d

      pub not-checked : (why : Refusal) → x ≡ Err why → Err why ≡ whole_of form u
      not-checked why e = sym (behind ∙ ap (on_checked (λ v. Ok tt) (λ w. Err w)) e)

      pub reads : (v : ℕ) → x ≡ Ok v → Ok tt ≡ whole_of form u
      reads v e = sym (behind ∙ ap (on_checked (λ w. Ok tt) (λ why. Err why)) e)

-- ---- what follows it

abbrev on_whole : {X : Type 0} → X → (Refusal → X) → Result (Unit {0}) Refusal → X
on_whole x g (Ok v) = x
on_whole x g (Err why) = g why

whole-ends : {X : Type 0} (c : Course Block) (d : ℕ → Course Range) (x : X) (g : Refusal → X)
    → ending c (λ at. ending (d at) (λ e. x) g) g ≡ on_whole x g (ending c (λ at. ending (d at) (λ e. Ok tt) (λ why. Err why)) (λ why. Err why))
unfolding ending
whole-ends (thing a p c) d x g = whole-ends c d x g
whole-ends (over a at) d x g = go (d at)
  where
    go : (y : Course Range) → ending y (λ e. x) g ≡ on_whole x g (ending y (λ e. Ok tt) (λ why. Err why))
    go (thing r p y) = go y
    go (over r t) = refl
    go (stopped why) = refl
whole-ends (stopped why) d x g = refl

pub by_whole : {X : Type 0} (form : ℕ) (u : List ℕ) (x : X) (g : Refusal → X) (w : Result (Unit {0}) Refusal) → w ≡ whole_of form u
    → ending (blocks_of form u) (λ at. ending (delete_set form u at) (λ e. x) g) g ≡ on_whole x g w
unfolding whole_of
by_whole form u x g w e = whole-ends (blocks_of form u) (delete_set form u) x g ∙ ap (on_whole x g) (sym e)

-- where all of it reads, its blocks do
pub readable : (form : ℕ) (u : List ℕ) → Ok (tt {0}) ≡ whole_of form u → Readable form u
unfolding whole_of is_whole ending
readable form u e = go (blocks_of form u) e
  where
    go : (c : Course Block) → Ok (tt {0}) ≡ ending c (λ at. ending (delete_set form u at) (λ v. Ok (tt {0})) (λ why. Err why)) (λ why. Err why) → ending c (λ s. true) (λ why. false) ≡ true
    go (thing a p c) h = go c h
    go (over a s) h = refl
    go (stopped why) h = absurd (let z : ◌≡◌ {A = ℕ} 0 1 = cc in omega arith)
