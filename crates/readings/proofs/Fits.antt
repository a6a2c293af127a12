-- What rows take of a course that ends well is all of it, and the rows are enough.
use Prim.Native.Nat.{ℕ, zero, suc, ◌≤◌}
use mathlib.Core.Path.{◌≡◌, refl, sym, ap, subst}
use mathlib.Core.Bool.{true, false}
use mathlib.Core.List.{List}
use native.Mathlib.Omega.{arith}
use lib.ListN.{length}
use Rattle.grammar.specs.Course.{CourseTo, thing, over, stopped, fit, things, ending}
use Rattle.readings.specs.Sound.{All}

module _ {S E A : Type 0} where
  fit-whole : (n : ℕ) (c : CourseTo S E A) → ending (fit n c) (λ s. true) (λ why. false) ≡ true → fit n c ≡ c
  unfolding fit ending
  fit-whole zero (thing a p c) e = absurd (let z : ◌≡◌ {A = ℕ} 0 1 = cc in omega arith)
  fit-whole (suc n) (thing a p c) e = ap (thing a p) (fit-whole n c e)
  fit-whole n (over a s) e = refl
  fit-whole n (stopped why) e = refl

  pub fit-items : (n : ℕ) (c : CourseTo S E A) → ending (fit n c) (λ s. true) (λ why. false) ≡ true → things (fit n c) ≡ things c
  fit-items n c e = ap things (fit-whole n c e)

  -- so it has what all of it has
  pub fit_has : (P : List E → Type 0) (n : ℕ) (c : CourseTo S E A) → ending (fit n c) (λ s. true) (λ why. false) ≡ true → P (things c) → P (things (fit n c))
  fit_has P n c e h = subst P (sym (fit-items n c e)) h

  -- and never are there more than rows
  pub fit_count : (n : ℕ) (c : CourseTo S E A) → length (things (fit n c)) ≤ n
  unfolding fit things
  fit_count zero (thing a p c) = omega arith
  fit_count (suc n) (thing a p c) = omega (arith, fit_count n c)
  fit_count n (over a s) = omega arith
  fit_count n (stopped why) = omega arith

  -- what each has, each that rows take has
  pub fit_all : (P : E → Type 0) (n : ℕ) (c : CourseTo S E A) → All P (things c) → All P (things (fit n c))
  unfolding fit things
  fit_all P zero (thing a p c) h = tt
  fit_all P (suc n) (thing a p c) h = (h.0, fit_all P n c h.1)
  fit_all P n (over a s) h = tt
  fit_all P n (stopped why) h = tt
