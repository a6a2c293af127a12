-- A clock that is drawn is within its limit: in line the limit is tested, and a difference column answers with clocks.
use Prim.Native.Nat.{ℕ, ◌+◌, ◌-◌, ◌%◌, ◌≤◌}
use mathlib.Core.Path.{◌≡◌, refl, ap}
use mathlib.Core.Bool.{Bool, true, false}
use mathlib.Core.List.{List}
use native.Mathlib.Omega.{arith}
use lib.Dec.{ltb, eqb}
use lib.ListN.{take}
use borrow.Author.Tests.{ltb-false}
use Rattle.numbers.specs.declared.Read.{Read}
use Rattle.numbers.specs.declared.Read.TheVariants as read
use Rattle.numbers.specs.declared.Signed.{Signed}
use Rattle.numbers.specs.declared.Signed.TheVariants.{Value, Wrong}
use Rattle.numbers.specs.Number.{pick, read_unsigned, read_signed}
use Rattle.numbers.specs.Limits.{max_clock, max_count}
use Rattle.columns.specs.declared.difference.Place as difference-place
use Rattle.columns.specs.declared.difference.Answer as difference-answer
use Rattle.columns.specs.declared.difference.Answer.TheVariants as answer
use Rattle.columns.specs.Difference as difference
use Rattle.grammar.specs.Grammar as grammar
use Rattle.grammar.specs.Course.{Drawn, got, not}
use Rattle.decoder.specs.Line.{bounded, var_at, up_to, line, number_by}
use Rattle.decoder.specs.States.{Differences, State}
use Rattle.decoder.specs.Columned.{difference_drawn, from_differences, onto, number_in, columned}
use Rattle.decoder.specs.ColumnedInner.{fields}
use Rattle.fields.specs.Fields.{clock_at}

-- what a draw gives, if it gives a number, is a clock
abbrev Clock : {S : Type 0} → Drawn S (ℕ × ℕ) → Type 0
Clock (got a s) = a.0 ≤ max_clock
Clock (not why) = Unit {0}

abbrev Answered : difference-answer.Answer → Type 0
Answered (answer.Next v c) = v ≤ max_clock
Answered (answer.Bad why) = Unit {0}

either : {A : Type 0} (P : A → Type 0) (b : Bool) (x y : A) → (b ≡ true → P x) → (b ≡ false → P y) → P (pick b x y)
either P true x y p q = p refl
either P false x y p q = q refl

-- ---- in line

bounded-clock : {S : Type 0} (d : Drawn S (ℕ × ℕ)) → Clock (bounded max_clock d)
unfolding bounded
bounded-clock (got a s) = either Clock (ltb max_clock a.0) (not (record { number = 3; place = a.1 })) (got a s) (λ _. tt) (λ l. ltb-false max_clock a.0 l)
bounded-clock (not why) = tt

onto-clock : (s : State) (d : Drawn ℕ (ℕ × ℕ)) → Clock d → Clock (onto s d)
unfolding onto
onto-clock s (got a e) h = h
onto-clock s (not why) h = tt

-- ---- from a column

drawn-clock : (c : difference-place.Place) → Answered (difference.drawn c)
unfolding difference.drawn
drawn-clock c = either Answered (ltb (c.last + c.key) 2147483648) _ _ (λ _. tt) (λ _. either Answered (ltb max_clock (c.last + c.key - 2147483648)) _ _ (λ _. tt) (λ l. ltb-false max_clock (c.last + c.key - 2147483648) l))

counted-clock : (from last key e : ℕ) (r : Read) → Answered (difference.counted from last key e r)
unfolding difference.counted
counted-clock from last key e (read.Refused why) = tt
counted-clock from last key e (read.Number c f) = either Answered (ltb max_count c) _ _ (λ _. tt) (λ _. drawn-clock (difference.place_at f from last key (c + 2)))

begun-clock : (s : List ℕ) (at last : ℕ) (r : Signed) → Answered (difference.begun s at last r)
unfolding difference.begun
begun-clock s at last (Wrong why) = tt
begun-clock s at last (Value m x e) =
    either Answered (difference.outside m x) _ _ (λ _. tt)
    (λ _. either Answered (eqb (x % 2) 0) _ _ (λ _. drawn-clock (difference.place_at e at last (difference.key_read m x) 1)) (λ _. counted-clock at last (difference.key_read m x) e (read_unsigned s e)))

next-clock : (s : List ℕ) (c : difference-place.Place) → Answered (difference.next_difference s c)
unfolding difference.next_difference
next-clock s c = either Answered (ltb 0 c.count) _ _ (λ _. drawn-clock c) (λ _. begun-clock s c.at c.last (read_signed s c.at))

column-clock : (u : List ℕ) (c : Differences) (put : Differences → State) → Clock (from_differences u c put)
unfolding difference_drawn
column-clock u c put = go (difference.next_difference (take c.to u) c.place) (next-clock (take c.to u) c.place)
  where
    go : (a : difference-answer.Answer) → Answered a → Clock (difference_drawn put c.to a)
    go (answer.Next v p) h = h
    go (answer.Bad why) h = tt

-- ---- in either form

module _ (form : ℕ) (u : List ℕ) (s : State) where
  left-clock : Clock (fields form u (grammar.number grammar.left_clock) s)
  unfolding fields line number_by up_to columned number_in
  left-clock = either Clock (eqb form 1) _ _ (λ _. onto-clock s (up_to max_clock u s.at) (bounded-clock (var_at u s.at))) (λ _. column-clock u s.left _)

  right-clock : Clock (fields form u (grammar.number grammar.right_clock) s)
  unfolding fields line number_by up_to columned number_in
  right-clock = either Clock (eqb form 1) _ _ (λ _. onto-clock s (up_to max_clock u s.at) (bounded-clock (var_at u s.at))) (λ _. column-clock u s.right _)

  clock-is : (b : Bool) → Clock (fields form u (grammar.number (pick b grammar.left_clock grammar.right_clock)) s)
  clock-is true = left-clock
  clock-is false = right-clock

  pub clock-fits : (k v p : ℕ) (t : State) → got (v, p) t ≡ fields form u (grammar.number (clock_at k)) s → v ≤ max_clock
  unfolding clock_at
  clock-fits k v p t e = within (fields form u (grammar.number (clock_at k)) s) (clock-is (eqb k 2)) e
    where
      number_of : Drawn State (ℕ × ℕ) → ℕ
      number_of (got a t) = a.0
      number_of (not why) = 0

      within : (d : Drawn State (ℕ × ℕ)) → Clock d → got (v, p) t ≡ d → v ≤ max_clock
      within (got a z) h e = let q : v ≡ a.0 = ap number_of e in omega (arith, h)
      within (not why) h e = let q : v ≡ 0 = ap number_of e in omega arith
