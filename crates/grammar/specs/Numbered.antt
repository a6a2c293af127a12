-- Of each refusal that a run ends with, and of each that a grammar has of its own, P holds.
use Rattle.std.specs.Prelude.{ℕ, ◌≤◌}
use Rattle.grammar.specs.Grammar.{Grammar, ask, emit, stop, done, Answer}
use Rattle.grammar.specs.Course.{Drawn, got, not, CourseTo, thing, over, stopped}

module _ (P : ℕ → Type 0) where
  unfoldable pub Stops : {S E A : Type 0} → CourseTo S E A → Type 0
  Stops (thing e p c) = Stops c
  Stops (over a s) = Unit {0}
  Stops (stopped why) = P why.number

  unfoldable pub Refuses : {S X : Type 0} → Drawn S X → Type 0
  Refuses (got x s) = Unit {0}
  Refuses (not why) = P why.number

  unfoldable pub Owns : {E A : Type 0} → Grammar E A → Type 0
  Owns (ask f k) = (a : Answer f) → Owns (k a)
  Owns (emit e p x) = Owns x
  Owns (stop n p) = P n
  Owns (done a) = Unit {0}

-- what reading refuses with: a number from 1 to 8, so never 0, which says done
abbrev pub Low : ℕ → Type 0
Low n = (1 ≤ n) × (n ≤ 8)
