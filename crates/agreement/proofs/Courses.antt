-- What is read: where all of it can be read, bytes behind it change nothing; what rows take of it; what follows its end.
use Prim.Native.Nat.{ℕ, zero, suc}
use mathlib.Core.Path.{◌≡◌, ap, ◌∙◌}
use native.Mathlib.Omega.{arith}
use Rattle.numbers.specs.declared.Refusal.{Refusal}
use Rattle.grammar.specs.Course.{CourseTo, thing, over, stopped, fit, ending}
use Rattle.grammar.specs.Whole.{Ends}
use Rattle.grammar.specs.Numbered as grammar
use Rattle.places.specs.Appended.{Stays}
use Rattle.agreement.specs.Numbered.{Low, Stops}

low8 : Low 8
low8 = (omega arith, omega arith)

module _ {S E A : Type 0} where
  -- where all of it is read, no bytes were wanting, so it is the same
  pub same-to-end : (c d : CourseTo S E A) (s : S) → Stays c d → Ends c s → d ≡ c
  unfolding Stays Ends
  same-to-end (thing a p c) d s h e = h.1 ∙ ap (thing a p) (same-to-end c h.0 s h.2 e)
  same-to-end (over a t) d s h e = h
  same-to-end (stopped why) d s h e = absurd e

  -- what fits in n rows and reads, reads
  pub fit-ends : (n : ℕ) (c : CourseTo S E A) (s : S) → Ends (fit n c) s → Ends c s
  unfolding Ends fit
  fit-ends zero (thing a p c) s e = absurd e
  fit-ends (suc n) (thing a p c) s e = fit-ends n c s e
  fit-ends n (over a t) s e = e
  fit-ends n (stopped why) s e = e

  -- what follows its end is all
  pub ending_at : {X : Type 0} (c : CourseTo S E A) (f : S → X) (g : Refusal → X) (s : S) → Ends c s → ending c f g ≡ f s
  unfolding ending Ends
  ending_at (thing a p c) f g s e = ending_at c f g s e
  ending_at (over a t) f g s e = ap f e
  ending_at (stopped why) f g s e = absurd e

  -- one thing more than n rows take is 8
  pub fit-stops : (n : ℕ) (c : CourseTo S E A) → Stops c → Stops (fit n c)
  unfolding fit grammar.Stops
  fit-stops zero (thing a p c) h = low8
  fit-stops (suc n) (thing a p c) h = fit-stops n c h
  fit-stops n (over a s) h = tt
  fit-stops n (stopped why) h = h
