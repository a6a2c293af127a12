-- The number column: a signed number. Plus or plain zero: one value. Minus, minus zero too: an unsigned c follows and the magnitude stands c + 2
-- times.
use Rattle.std.specs.Prelude.{ℕ, ◌+◌, ◌-◌, List, ltb}
use Rattle.numbers.specs.declared.Read.{Read}
use Rattle.numbers.specs.declared.Read.TheVariants.{Number, Refused}
use Rattle.numbers.specs.declared.Signed.{Signed}
use Rattle.numbers.specs.declared.Signed.TheVariants.{Value, Wrong}
use Rattle.numbers.specs.Number.{pick, read_unsigned, read_signed}
use Rattle.numbers.specs.Limits.{max_value, max_count}
use Rattle.columns.specs.declared.number.Place.{Place}
use Rattle.columns.specs.declared.number.Answer.{Answer}
use Rattle.columns.specs.declared.number.Answer.TheVariants.{Next, Bad}

-- the next byte at `at`, in a run whose first byte is at `from` and whose value x still stands n times
abbrev pub place_at : ℕ → ℕ → ℕ → ℕ → Place
place_at at from x n = record { at = at; from = from; last = x; count = n }

abbrev pub start_at : ℕ → Place
start_at at = place_at at at 0 0

abbrev pub refuse : ℕ → ℕ → Answer
refuse n p = Bad (record { number = n; place = p })

-- a value is drawn from the run under way: its limit is tested now
unfoldable pub drawn : Place → Answer
drawn c = pick (ltb max_value c.last) (refuse 3 c.from) (Next c.last (place_at c.at c.from c.last (c.count - 1)))

-- the run of x from place `from`, whose count is what was read at place e
unfoldable pub counted : ℕ → ℕ → ℕ → Read → Answer
counted from x e (Refused why) = Bad why
counted from x e (Number c f) = pick (ltb max_count c) (refuse 3 e) (drawn (place_at f from x (c + 2)))

-- the run that begins with what was read at place `at`
unfoldable pub begun : List ℕ → ℕ → Signed → Answer
begun s at (Wrong why) = Bad why
begun s at (Value m x e) = pick m (counted at x e (read_unsigned s e)) (drawn (place_at e at x 1))

unfoldable pub next_number : List ℕ → Place → Answer
next_number s c = pick (ltb 0 c.count) (drawn c) (begun s c.at (read_signed s c.at))
