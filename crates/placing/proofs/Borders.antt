-- Where halving ends: the row before is past, and the row there is not.
use Prim.Native.Nat.{ℕ, zero, suc, ◌+◌, ◌-◌, ◌≤◌, ◌<◌}
use mathlib.Core.Path.{◌≡◌, refl, sym, subst}
use mathlib.Core.Bool.{Bool, true, false}
use mathlib.Core.Logic.{◌⊎◌, inl, inr}
use native.Mathlib.Omega.{arith}
use lib.Dec.{ltb}
use borrow.Author.Tests.{ltb-true, ltb-false}
use Rattle.numbers.specs.Number.{pick}
use Rattle.numbers.proofs.Laws.{below_or}
use Rattle.placing.specs.Halving.{middle, halved, found}

pub record Border (past : ℕ → Bool) (lo hi r : ℕ) : Type 0 where
  pub from : lo ≤ r
  pub upto : r ≤ hi
  pub before : (i : ℕ) → lo ≤ i → suc i ≡ r → past i ≡ true
  pub after : r < hi → past r ≡ false

module _ (past : ℕ → Bool) where
  border-past : (lo hi r : ℕ) → lo < hi → past (middle lo hi) ≡ true → Border past (middle lo hi + 1) hi r → Border past lo hi r
  border-past lo hi r l e b = record {
    from = omega (arith, b.from);
    upto = b.upto;
    before = λ i h p. go i h p (below_or i (middle lo hi + 1));
    after = b.after;
  }
    where
      go : (i : ℕ) → lo ≤ i → suc i ≡ r → (i < middle lo hi + 1) ⊎ (middle lo hi + 1 ≤ i) → past i ≡ true
      go i h p (inl q) = let m : i ≡ middle lo hi = omega (arith, b.from) in subst (λ (x : ℕ). past x ≡ true) (sym m) e
      go i h p (inr q) = b.before i q p

  border-not : (lo hi r : ℕ) → lo < hi → past (middle lo hi) ≡ false → Border past lo (middle lo hi) r → Border past lo hi r
  border-not lo hi r l e b = record {
    from = b.from;
    upto = omega (arith, b.upto);
    before = b.before;
    after = λ h. go (below_or r (middle lo hi));
  }
    where
      go : (r < middle lo hi) ⊎ (middle lo hi ≤ r) → past r ≡ false
      go (inl q) = b.after q
      go (inr q) = let m : r ≡ middle lo hi = omega (arith, b.upto) in subst (λ (x : ℕ). past x ≡ false) (sym m) e

  borders : (f lo hi : ℕ) → lo ≤ hi → hi - lo ≤ f → Border past lo hi (halved past f lo hi)
  unfolding halved
  borders zero lo hi l h = record { from = omega arith; upto = l; before = λ i g p. absurd (omega arith); after = λ g. absurd (omega arith) }
  borders (suc f) lo hi l h = go (ltb lo hi) refl (past (middle lo hi)) refl (borders f)
    where
      go : (x : Bool) → ltb lo hi ≡ x → (y : Bool) → past (middle lo hi) ≡ y → ((a b : ℕ) → a ≤ b → b - a ≤ f → Border past a b (halved past f a b))
          → Border past lo hi (pick x (pick y (halved past f (middle lo hi + 1) hi) (halved past f lo (middle lo hi))) lo)
      go true e true g rec =
          let q = ltb-true lo hi e in
          border-past lo hi _ q g (rec (middle lo hi + 1) hi (omega arith) (omega arith))
      go true e false g rec =
          let q = ltb-true lo hi e in
          border-not lo hi _ q g (rec lo (middle lo hi) (omega arith) (omega arith))
      go false e y g rec =
          let q = ltb-false lo hi e in
          record { from = omega arith; upto = l; before = λ i m p. absurd (omega arith); after = λ m. absurd (omega arith) }

  pub found-borders : (lo hi : ℕ) → lo ≤ hi → Border past lo hi (found past lo hi)
  unfolding found
  found-borders lo hi l = borders (hi - lo) lo hi l (omega arith)
