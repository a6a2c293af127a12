-- How held ids that were read are told: by what the delete set's reader says of them.
use Rattle.std.specs.Prelude.{Result, Ok, Err}
use Prim.Native.Nat.{ℕ}
use mathlib.Core.Path.{◌≡◌, ap}
use mathlib.Core.List.{List}
use native.Mathlib.Omega.{arith}
use lib.ListN.{length}
use Rattle.numbers.specs.declared.Refusal.{Refusal}
use Rattle.grammar.specs.Course.{Course, thing, over, stopped, things, ending}
use Rattle.ranges.specs.Ranges.{Range, normal}
use Rattle.deletes.specs.DeleteSet.{taken, set_of}
use Rattle.held_answers.specs.AnswersInner.{given, not_given, read_held}

-- how a course ends, told with a count of ranges
abbrev told_with : ℕ → Course Range → Result (ℕ × ℕ) Refusal
told_with m c = ending c (λ e. Ok (m, e)) Err

module _ (m : ℕ) where
  by-ranges : (c : Course Range) (n t : ℕ) → Ok (n, t) ≡ told_with m c → given n ≡ ending c (λ e. given m) (λ why. not_given why.number)
  unfolding ending
  by-ranges (thing a p c) n t e = by-ranges c n t e
  by-ranges (over x v) n t e = ap given (let q : ◌≡◌ {A = ℕ × ℕ} (n, t) (m, v) = cc in ap (λ (p : ℕ × ℕ). p.0) q)
  by-ranges (stopped w) n t e = absurd (let z : ◌≡◌ {A = ℕ} 0 1 = cc in omega arith)

  by-refusal : (c : Course Range) (why : Refusal) → Err why ≡ told_with m c
      → not_given why.number ≡ ending c (λ e. given m) (λ r. not_given r.number)
  unfolding ending
  by-refusal (thing a p c) why e = by-refusal c why e
  by-refusal (over x v) why e = absurd (let z : ◌≡◌ {A = ℕ} 0 1 = cc in omega arith)
  by-refusal (stopped w) why e = let q : why ≡ w = cc in ap (λ (r : Refusal). not_given r.number) q

module _ (v : List ℕ) (n : ℕ) where
  pub given_is : (k t : ℕ) → Ok (k, t) ≡ set_of 1 v 0 n → given k ≡ read_held v n
  unfolding read_held set_of
  given_is k t e = by-ranges (length (normal (things (taken 1 v 0 n)))) (taken 1 v 0 n) k t e

  pub refused-is : (why : Refusal) → Err why ≡ set_of 1 v 0 n → not_given why.number ≡ read_held v n
  unfolding read_held set_of
  refused-is why e = by-refusal (length (normal (things (taken 1 v 0 n)))) (taken 1 v 0 n) why e
