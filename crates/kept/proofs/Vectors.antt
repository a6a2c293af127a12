-- What every vector has: clocks within their limit, and, where it is refused, a number other than 0, so 0 says that all of it was read.
use Prim.Native.Nat.{ℕ, zero, suc, ◌≤◌}
use mathlib.Core.Path.{◌≡◌, refl}
use mathlib.Core.Bool.{Bool, true, false}
use mathlib.Core.List.{List, [], ◌∷◌, ◌++◌}
use native.Mathlib.Omega.{arith}
use lib.Dec.{ltb, eqb}
use lib.ListN.{drop}
use borrow.Author.Tests.{ltb-false, ne_eqb}
use Rattle.numbers.specs.declared.Refusal.{Refusal}
use Rattle.numbers.specs.declared.Read.{Read}
use Rattle.numbers.specs.declared.Read.TheVariants as read
use Rattle.numbers.specs.Number.{pick, Spelt, got, short, long, spelt, answer_at, read_unsigned}
use Rattle.numbers.specs.Limits.{max_clients, max_value, max_clock}
use Rattle.grammar.specs.Grammar.{Grammar}
use Rattle.grammar.specs.Grammar.{◌>>=◌}
use Rattle.grammar.specs.Course.{Drawn, got as drew, not, Course, thing, over, stopped, on_drawn, run, things, ending}
use Rattle.decoder.specs.Line.{number_at, var_at, bounded, up_to, number_by, line}
use Rattle.vector.specs.Vector.{Entry, entry, holds, entries, a_vector, vector_of}
use Rattle.readings.specs.Sound.{All}
use Rattle.readings.proofs.Columns.{chosen}

-- ---- numbers

abbrev Some : Refusal → Type 0
Some why = 1 ≤ why.number

abbrev SomeRead : Read → Type 0
SomeRead (read.Number v e) = Unit {0}
SomeRead (read.Refused why) = Some why

abbrev Within : ℕ → Drawn ℕ (ℕ × ℕ) → Type 0
Within most (drew a e) = a.0 ≤ most
Within most (not why) = Some why

placed-some : (s : List ℕ) (at : ℕ) (x : Spelt) → SomeRead (answer_at s at x)
unfolding answer_at
placed-some s at (got v e) = tt
placed-some s at short = omega arith
placed-some s at long = omega arith

up-to-within : (most : ℕ) (u : List ℕ) (at : ℕ) → Within most (up_to most u at)
unfolding up_to var_at number_at bounded read_unsigned
up-to-within most u at = go (read_unsigned u at) (placed-some u at (spelt 9 at (drop at u)))
  where
    go : (x : Read) → SomeRead x → Within most (bounded most (number_at at x))
    go (read.Number v e) h = chosen (Within most) (ltb most v) (λ _. omega arith) (λ l. ltb-false most v l)
    go (read.Refused why) h = h

-- ---- the whole of it

abbrev Fair : Course Entry → Type 0
Fair (thing e p c) = (e.clock ≤ max_clock) × Fair c
Fair (over x s) = Unit {0}
Fair (stopped why) = Some why

drawn-fair : (most : ℕ) (d : Drawn ℕ (ℕ × ℕ)) (then : ℕ × ℕ → ℕ → Course Entry) → Within most d → ((a : ℕ × ℕ) (s : ℕ) → a.0 ≤ most → Fair (then a s))
    → Fair (on_drawn d then)
unfolding on_drawn
drawn-fair most (drew a e) then h k = k a e h
drawn-fair most (not why) then h k = h

module _ (v : List ℕ) where
  picked : (b : Bool) (x y : Grammar Entry (Unit {0})) (at : ℕ) → Fair (run (line 1 v) x at) → Fair (run (line 1 v) y at) → Fair (run (line 1 v) (pick b x y) at)
  picked true x y at p q = p
  picked false x y at p q = q

  entries-fair : (n : ℕ) (seen : List Entry) (at : ℕ) → Fair (run (line 1 v) (entries n seen) at)
  unfolding entries run line number_by ◌>>=◌
  entries-fair zero seen at = tt
  entries-fair (suc n) seen at =
      drawn-fair max_value (up_to max_value v at) _ (up-to-within max_value v at) (λ c t _.
      picked (holds c.0 seen) _ _ t (omega arith)
      (drawn-fair max_clock (up_to max_clock v t) _ (up-to-within max_clock v t) (λ k w h. (h, entries-fair n (seen ++ (entry c.0 k.0 ∷ [])) w))))

  vector-fair : Fair (vector_of v)
  unfolding vector_of a_vector run line number_by ◌>>=◌
  vector-fair = drawn-fair max_clients (up_to max_clients v 0) _ (up-to-within max_clients v 0) (λ n s _. entries-fair n.0 [] s)

pub vector-clocks : (v : List ℕ) → All (λ (e : Entry). e.clock ≤ max_clock) (things (vector_of v))
unfolding things
vector-clocks v = go (vector_of v) (vector-fair v)
  where
    go : (c : Course Entry) → Fair c → All (λ (e : Entry). e.clock ≤ max_clock) (things c)
    go (thing e p c) h = (h.0, go c h.1)
    go (over x s) h = tt
    go (stopped why) h = tt

-- ---- its number

unfoldable pub why_vector : List ℕ → ℕ
why_vector v = ending (vector_of v) (λ s. 0) (λ why. why.number)

pub by_number : {X : Type 0} (v : List ℕ) (x : X) (g : ℕ → X)
    → ending (vector_of v) (λ s. x) (λ why. g why.number) ≡ pick (eqb (why_vector v) 0) x (g (why_vector v))
unfolding why_vector ending
by_number {X} v x g = go (vector_of v) (vector-fair v)
  where
    go : (c : Course Entry) → Fair c
        → ending c (λ s. x) (λ why. g why.number) ≡ pick (eqb (ending c (λ s. 0) (λ why. why.number)) 0) x (g (ending c (λ s. 0) (λ why. why.number)))
    go (thing a p c) h = go c h.1
    go (over y s) h = refl
    go (stopped why) h = rw (ne_eqb why.number 0 (λ e. omega (arith, e, h))) refl
