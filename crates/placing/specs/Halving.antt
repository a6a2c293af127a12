-- Halving: the first row of a span that is not past what is sought, where all that are past come first.
use Rattle.std.specs.Prelude.{ℕ, zero, suc, ◌+◌, ◌-◌, ◌/◌, Bool, ltb}
use Rattle.numbers.specs.Number.{pick}
use Rattle.placing.specs.declared.Span.{Span}

abbrev pub span : ℕ → ℕ → Span
span lo hi = record { lo = lo; hi = hi }

abbrev pub middle : ℕ → ℕ → ℕ
middle lo hi = lo + (hi - lo) / 2

unfoldable pub narrowed : Span → ℕ → Bool → Span
narrowed s mid past = pick past (span (mid + 1) s.hi) (span s.lo mid)

unfoldable pub clipped : Span → ℕ → Span
clipped s n = pick (ltb n s.hi) (span s.lo n) s

-- so many halvings at most
unfoldable pub halved : (ℕ → Bool) → ℕ → ℕ → ℕ → ℕ
halved past zero lo hi = lo
halved past (suc f) lo hi =
    pick (ltb lo hi) (pick (past (middle lo hi)) (halved past f (middle lo hi + 1) hi) (halved past f lo (middle lo hi))) lo

-- as many as there are rows are enough
unfoldable pub found : (ℕ → Bool) → ℕ → ℕ → ℕ
found past lo hi = halved past (hi - lo) lo hi
