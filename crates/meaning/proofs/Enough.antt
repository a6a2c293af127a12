-- How many rows are enough: as many as there are things; for a delete set as many as the update has bytes, since each range is drawn from bytes of its own.
use Prim.Native.Nat.{ℕ, zero, suc, ◌+◌, ◌-◌, ◌≤◌, ◌<◌}
use mathlib.Core.Path.{◌≡◌, refl, ap}
use mathlib.Core.Bool.{Bool, true, false}
use mathlib.Core.List.{List}
use native.Mathlib.Omega.{arith}
use lib.Dec.{ltb, leb, eqb}
use lib.ListN.{length}
use borrow.Author.Tests.{leb-false}
use Rattle.numbers.specs.declared.Read.{Read}
use Rattle.numbers.specs.declared.Read.TheVariants as read
use Rattle.numbers.specs.Number.{pick, read_unsigned}
use Rattle.numbers.specs.Limits.{max_clock}
use Rattle.anys.proofs.Places.{read-ends}
use Rattle.grammar.specs.Grammar as grammar
use Rattle.grammar.specs.Grammar.{Number, Field, Answer, Grammar, ask, emit, stop, done}
use Rattle.grammar.specs.Grammar.{◌>>=◌}
use Rattle.grammar.specs.Course.{Drawn, got, not, Reader, CourseTo, thing, over, stopped, on_drawn, run, fit, things}
use Rattle.grammar.specs.Deletes.{ranges, deleted_clients, all_ranges}
use Rattle.decoder.specs.Line.{number_at, var_at, bounded, up_to, byte_at, restored, delete_at, number_by, line}
use Rattle.decoder.specs.Update.{delete_set}

pub fit-enough : {S E A : Type 0} (n : ℕ) (c : CourseTo S E A) → length (things c) ≤ n → fit n c ≡ c
unfolding fit things
fit-enough zero (thing e p c) h = absurd (omega (arith, h))
fit-enough (suc n) (thing e p c) h = ap (thing e p) (fit-enough n c (omega (arith, h)))
fit-enough n (over a s) h = refl
fit-enough n (stopped why) h = refl

-- ---- a grammar that draws a number for each thing, when it has drawn so many more than it has kept

unfoldable Numeric : Field → Type 0
Numeric (grammar.number n) = Unit {0}
Numeric grammar.text = ⊥
Numeric grammar.bytes = ⊥
Numeric grammar.key = ⊥
Numeric (grammar.value blame) = ⊥
Numeric (grammar.values blame n) = ⊥

unfoldable Paid : {E A : Type 0} → ℕ → Grammar E A → Type 0
Paid n (ask f k) = Numeric f × ((a : Answer f) → Paid (suc n) (k a))
Paid zero (emit e p x) = ⊥
Paid (suc n) (emit e p x) = Paid n x
Paid n (stop m p) = Unit {0}
Paid n (done a) = Unit {0}

paid-bind : {E A B : Type 0} (n : ℕ) (x : Grammar E A) (g : A → Grammar E B) → Paid n x → ((m : ℕ) (a : A) → Paid m (g a)) → Paid n (x >>= g)
unfolding Paid ◌>>=◌
paid-bind n (ask f k) g h then = (h.0, λ a. paid-bind (suc n) (k a) g (h.1 a) then)
paid-bind zero (emit e p x) g h then = absurd h
paid-bind (suc n) (emit e p x) g h then = paid-bind n x g h then
paid-bind n (stop m p) g h then = tt
paid-bind n (done a) g h then = then n a

paid-if : {E A : Type 0} (n : ℕ) (b : Bool) (x y : Grammar E A) → Paid n x → Paid n y → Paid n (pick b x y)
paid-if n true x y p q = p
paid-if n false x y p q = q

-- a draw that moves on, up to an end
unfoldable Moved : {X : Type 0} → ℕ → ℕ → Drawn ℕ X → Type 0
Moved end at (got a e) = (at < e) × (e ≤ end)
Moved end at (not why) = Unit {0}

few : {E A : Type 0} (r : Reader ℕ) (end : ℕ) → ((f : Field) → Numeric f → (at : ℕ) → Moved end at (r f at)) → (n : ℕ) (x : Grammar E A) → Paid n x → (at : ℕ)
    → length (things (run r x at)) ≤ n + (end - at)
unfolding Paid Moved run on_drawn things
few {E} {A} r end moves n (ask f k) h at = go (r f at) (moves f h.0 at) (λ a e. few r end moves (suc n) (k a) (h.1 a) e)
  where
    go : (d : Drawn ℕ (Answer f)) → Moved end at d → ((a : Answer f) (e : ℕ) → length (things (run r (k a) e)) ≤ suc n + (end - e))
        → length (things (on_drawn d (λ a e. run r (k a) e))) ≤ n + (end - at)
    go (got a e) m more = omega (arith, more a e, m.0, m.1)
    go (not why) m more = omega arith
few r end moves zero (emit e p x) h at = absurd h
few r end moves (suc n) (emit e p x) h at = omega (arith, few r end moves n x h at)
few r end moves n (stop m p) h at = omega arith
few r end moves n (done a) h at = omega arith

-- ---- the delete set

ranges-paid : (k c end n : ℕ) → Paid n (ranges k c end)
unfolding ranges Paid Numeric ◌>>=◌
ranges-paid zero c end n = tt
ranges-paid (suc k) c end n = (
  tt,
  λ clock. (
    tt,
    λ len.
        paid-if (suc (suc n)) (ltb max_clock (clock.0 + len.0)) _ _ tt
        (paid-if (suc (suc n)) (eqb len.0 0) _ _ (ranges-paid k c (clock.0 + len.0) (suc (suc n))) (ranges-paid k c (clock.0 + len.0) (suc n))),
  ),
)

clients-paid : (k n : ℕ) → Paid n (deleted_clients k)
unfolding deleted_clients Paid Numeric ◌>>=◌
clients-paid zero n = tt
clients-paid (suc k) n = (
  tt,
  λ c. (
    tt,
    λ m.
        paid-bind (suc (suc n)) (ranges m.0 c.0 0) _ (ranges-paid m.0 c.0 0 (suc (suc n))) (λ i _. clients-paid k i),
  ),
)

all_paid : Paid 0 all_ranges
unfolding all_ranges Paid Numeric ◌>>=◌
all_paid = (tt, λ n. clients-paid n.0 1)

module _ (form : ℕ) (u : List ℕ) where
  var-moves : (at : ℕ) → Moved (length u) at (var_at u at)
  unfolding Moved var_at number_at
  var-moves at = go (read_unsigned u at) refl
    where
      go : (r : Read) → read_unsigned u at ≡ r → Moved (length u) at (number_at at r)
      go (read.Number v e) q = read-ends u at v e q
      go (read.Refused why) q = tt

  moved-if : (b : Bool) (at : ℕ) (x y : Drawn ℕ (ℕ × ℕ)) → Moved (length u) at x → Moved (length u) at y → Moved (length u) at (pick b x y)
  moved-if true at x y p q = p
  moved-if false at x y p q = q

  bounded-moves : (most at : ℕ) (d : Drawn ℕ (ℕ × ℕ)) → Moved (length u) at d → Moved (length u) at (bounded most d)
  unfolding Moved bounded
  bounded-moves most at (got a e) h = moved-if (ltb most a.0) at _ _ tt h
  bounded-moves most at (not why) h = tt

  restored-moves : (by at : ℕ) (d : Drawn ℕ (ℕ × ℕ)) → Moved (length u) at d → Moved (length u) at (restored by d)
  unfolding Moved restored
  restored-moves by at (got a e) h = moved-if (ltb max_clock (by + a.0)) at _ _ tt h
  restored-moves by at (not why) h = tt

  up-to-moves : (most at : ℕ) → Moved (length u) at (up_to most u at)
  unfolding up_to
  up-to-moves most at = bounded-moves most at (var_at u at) (var-moves at)

  delete-moves : (by at : ℕ) → Moved (length u) at (delete_at form by u at)
  unfolding delete_at
  delete-moves by at = moved-if (eqb form 1) at _ _ (up-to-moves max_clock at) (restored-moves by at (var_at u at) (var-moves at))

  byte-moves : (at : ℕ) → Moved (length u) at (byte_at u at)
  unfolding Moved byte_at
  byte-moves at = go (leb (length u) at) refl
    where
      go : (b : Bool) → leb (length u) at ≡ b → Moved (length u) at (byte_at u at)
      go true e = rw e tt
      go false e = rw e (omega arith, omega (arith, leb-false (length u) at e))

  line-moves : (f : Field) → Numeric f → (at : ℕ) → Moved (length u) at (line form u f at)
  unfolding Numeric line number_by
  line-moves (grammar.number grammar.byte) h at = byte-moves at
  line-moves (grammar.number (grammar.up_to most)) h at = up-to-moves most at
  line-moves (grammar.number grammar.any) h at = var-moves at
  line-moves (grammar.number grammar.client) h at = up-to-moves _ at
  line-moves (grammar.number grammar.left_clock) h at = up-to-moves _ at
  line-moves (grammar.number grammar.right_clock) h at = up-to-moves _ at
  line-moves (grammar.number grammar.info) h at = byte-moves at
  line-moves (grammar.number grammar.parent_info) h at = up-to-moves _ at
  line-moves (grammar.number grammar.len) h at = up-to-moves _ at
  line-moves (grammar.number (grammar.delete_clock end)) h at = delete-moves end at
  line-moves (grammar.number grammar.delete_len) h at = delete-moves 1 at
  line-moves (grammar.number grammar.type_number) h at = var-moves at
  line-moves grammar.text h at = absurd h
  line-moves grammar.bytes h at = absurd h
  line-moves grammar.key h at = absurd h
  line-moves (grammar.value blame) h at = absurd h
  line-moves (grammar.values blame n) h at = absurd h

  pub ranges-enough : (at : ℕ) → fit (length u) (delete_set form u at) ≡ delete_set form u at
  unfolding delete_set
  ranges-enough at = fit-enough (length u) (delete_set form u at) (omega (arith, few (line form u) (length u) line-moves 0 all_ranges all_paid at))
