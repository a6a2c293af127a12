-- The ranges of a delete set are not more than the bytes of the update: each has drawn at least one of them.
use Prim.Native.Nat.{ℕ, zero, suc, ◌+◌, ◌-◌, ◌≤◌, ◌<◌}
use mathlib.Core.Logic.{⊎_elim}
use mathlib.Core.Bool.{Bool, true, false}
use mathlib.Core.List.{List}
use native.Mathlib.Omega.{arith}
use lib.Dec.{ltb, eqb}
use lib.ListN.{length}
use Rattle.numbers.specs.declared.Read.{Read}
use Rattle.numbers.specs.declared.Refusal.{Refusal}
use Rattle.numbers.specs.declared.Read.TheVariants as read
use Rattle.numbers.specs.Number.{pick, answer_at, read_unsigned}
use Rattle.numbers.specs.Limits.{max_clock, max_value, max_clients}
use Rattle.numbers.proofs.Inside.{Reads, unsigned-inside}
use Rattle.numbers.proofs.Laws.{at-end, below_or}
use Rattle.ranges.specs.Ranges.{Range, normal}
use Rattle.ranges.specs.Table.{range}
use Rattle.ranges.proofs.Theory.{normal-length}
use Rattle.grammar.specs.Grammar.{Grammar}
use Rattle.grammar.specs.Grammar.{◌>>=◌}
use Rattle.grammar.specs.Course.{Drawn, got, not, Course, thing, over, stopped, on_drawn, run, fit, things}
use Rattle.grammar.specs.Deletes.{ranges, deleted_clients, all_ranges}
use Rattle.decoder.specs.Line.{number_at, var_at, bounded, up_to, restored, delete_at, number_by, line}
use Rattle.decoder.specs.Update.{delete_set}

chosen : {A : Type 0} (P : A → Type 0) (b : Bool) {x y : A} → P x → P y → P (pick b x y)
chosen P true p q = p
chosen P false p q = q

-- ---- a number drawn moves forward and stays inside

module _ (form : ℕ) (u : List ℕ) (at : ℕ) where
  abbrev Forward : Drawn ℕ (ℕ × ℕ) → Type 0
  Forward (got a e) = (at < e) × (e ≤ length u)
  Forward (not why) = Unit {0}

  var-forward : Forward (var_at u at)
  unfolding var_at number_at read_unsigned answer_at
  var-forward = ⊎_elim
      (λ l. go (read_unsigned u at) (unsigned-inside u at (omega arith)))
      (λ g. rw (at-end u 9 at (omega arith) g) tt)
      (below_or at (length u))
    where
      go : (r : Read) → Reads u at r → Forward (number_at at r)
      go (read.Number x e) h = h
      go (read.Refused why) h = tt

  bounded-forward : (most : ℕ) (d : Drawn ℕ (ℕ × ℕ)) → Forward d → Forward (bounded most d)
  unfolding bounded
  bounded-forward most (got a e) h = chosen Forward (ltb most a.0) tt h
  bounded-forward most (not why) h = tt

  restored-forward : (by : ℕ) (d : Drawn ℕ (ℕ × ℕ)) → Forward d → Forward (restored by d)
  unfolding restored
  restored-forward by (got a e) h = chosen Forward (ltb max_clock (by + a.0)) tt h
  restored-forward by (not why) h = tt

  up-to-forward : (most : ℕ) → Forward (up_to most u at)
  unfolding up_to
  up-to-forward most = bounded-forward most (var_at u at) var-forward

  delete-forward : (by : ℕ) → Forward (delete_at form by u at)
  unfolding delete_at
  delete-forward by = chosen Forward (eqb form 1) (up-to-forward max_clock) (restored-forward by (var_at u at) var-forward)

-- ---- what comes after a draw may be one more than the bytes that are left

module _ (form : ℕ) (u : List ℕ) where
  abbrev Few : ℕ → Course Range → Type 0
  Few at c = length (things c) ≤ length u - at

  abbrev OneMore : ℕ → Course Range → Type 0
  OneMore at c = length (things c) ≤ suc (length u - at)

  one_more : (at : ℕ) (c : Course Range) → Few at c → OneMore at c
  one_more at c h = omega arith

  none_more : (at : ℕ) (why : Refusal) → OneMore at (stopped why)
  unfolding things
  none_more at why = omega arith

  over-few : (at : ℕ) → Few at (over tt at)
  unfolding things
  over-few at = omega arith

  item-more : (at : ℕ) (r : Range) (p : ℕ) (c : Course Range) → Few at c → OneMore at (thing r p c)
  unfolding things
  item-more at r p c h = omega arith

  drawn-few : (at : ℕ) (d : Drawn ℕ (ℕ × ℕ)) (then : ℕ × ℕ → ℕ → Course Range) → Forward form u at d → ((a : ℕ × ℕ) (t : ℕ) → OneMore t (then a t)) → Few at (on_drawn d then)
  unfolding on_drawn things
  drawn-few at (got a e) then f h = omega (arith, f.0, f.1, h a e)
  drawn-few at (not why) then f h = omega arith

  -- a choice of grammars, and what follows either
  picked : (b : Bool) (x y : Grammar Range (Unit {0})) (g : Unit {0} → Grammar Range (Unit {0})) (at : ℕ)
      → OneMore at (run (line form u) (x >>= g) at) → OneMore at (run (line form u) (y >>= g) at) → OneMore at (run (line form u) (pick b x y >>= g) at)
  picked true x y g at p q = p
  picked false x y g at p q = q

  module _ (client : ℕ) (g : Unit {0} → Grammar Range (Unit {0})) (rest : (t : ℕ) → Few t (run (line form u) (g tt) t)) where
    ranges-left : (k end at : ℕ) → Few at (run (line form u) (ranges k client end >>= g) at)
    unfolding ranges run line number_by ◌>>=◌
    ranges-left zero end at = rest at
    ranges-left (suc k) end at =
        drawn-few at (delete_at form end u at) _ (delete-forward form u at end) (λ c t.
        one_more t _ (drawn-few t (delete_at form 1 u t) _ (delete-forward form u t 1) (λ l v.
        picked (ltb max_clock (c.0 + l.0)) _ _ g v (none_more v _)
        (picked (eqb l.0 0) _ _ g v (one_more v _ (ranges-left k (c.0 + l.0) v))
        (item-more v (range client c.0 l.0) c.1 _ (ranges-left k (c.0 + l.0) v))))))

  clients-left : (n at : ℕ) → Few at (run (line form u) (deleted_clients n) at)
  unfolding deleted_clients run line number_by ◌>>=◌
  clients-left zero at = over-few at
  clients-left (suc n) at =
      drawn-few at (up_to max_value u at) _ (up-to-forward form u at max_value) (λ c t.
      one_more t _ (drawn-few t (var_at u t) _ (var-forward form u t) (λ k v. one_more v _ (ranges-left c.0 (λ _. deleted_clients n) (λ w. clients-left n w) k.0 0 v))))

  set-left : (at : ℕ) → Few at (delete_set form u at)
  unfolding delete_set all_ranges run line number_by ◌>>=◌
  set-left at = drawn-few at (up_to max_clients u at) _ (up-to-forward form u at max_clients) (λ n t. one_more t _ (clients-left n.0 t))

  pub ranges-few : (at : ℕ) → length (things (delete_set form u at)) ≤ length u
  ranges-few at = omega (arith, set-left at)

-- ---- rows, and the normal form

fit-less : {A : Type 0} (c : Course A) (n : ℕ) → length (things (fit n c)) ≤ length (things c)
unfolding fit things
fit-less (thing a p c) zero = omega arith
fit-less (thing a p c) (suc n) = omega (arith, fit-less c n)
fit-less (over x s) zero = omega arith
fit-less (over x s) (suc n) = omega arith
fit-less (stopped why) zero = omega arith
fit-less (stopped why) (suc n) = omega arith

module _ (form : ℕ) (u : List ℕ) (at : ℕ) (n : ℕ) where
  pub fit-few : length (things (fit n (delete_set form u at))) ≤ length u
  fit-few = omega (arith, fit-less (delete_set form u at) n, ranges-few form u at)

  pub found-few : length (normal (things (fit n (delete_set form u at)))) ≤ length u
  found-few = omega (arith, normal-length (things (fit n (delete_set form u at))), fit-few)
