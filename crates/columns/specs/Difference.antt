-- The difference column: a signed e from -2^31 to 2^31-1. The difference is e/2 rounded down; odd e: an unsigned c follows and it applies c + 2
-- times; even e, minus zero too: once. The base is the value before, starting at 0; each value must be a legal clock. A difference d is kept as its
-- key d + 2^31, so that it is a natural number.
use Rattle.std.specs.Prelude.{ℕ, ◌+◌, ◌-◌, ◌/◌, ◌%◌, List, Bool, ltb, leb, eqb}
use Rattle.numbers.specs.declared.Read.{Read}
use Rattle.numbers.specs.declared.Read.TheVariants.{Number, Refused}
use Rattle.numbers.specs.declared.Signed.{Signed}
use Rattle.numbers.specs.declared.Signed.TheVariants.{Value, Wrong}
use Rattle.numbers.specs.Number.{pick, read_unsigned, read_signed}
use Rattle.numbers.specs.Limits.{max_clock, max_count}
use Rattle.runs.specs.Difference.{zero_key}
use Rattle.columns.specs.declared.difference.Place.{Place}
use Rattle.columns.specs.declared.difference.Answer.{Answer}
use Rattle.columns.specs.declared.difference.Answer.TheVariants.{Next, Bad}

-- the next byte at `at`, in a run whose first byte is at `from`; the value before is `last`, and the difference of `key` still applies n times
abbrev pub place_at : ℕ → ℕ → ℕ → ℕ → ℕ → Place
place_at at from last key n = record { at = at; from = from; last = last; key = key; count = n }

abbrev pub start_at : ℕ → Place
start_at at = place_at at at 0 zero_key 0

abbrev pub refuse : ℕ → ℕ → Answer
refuse n p = Bad (record { number = n; place = p })

-- a value is drawn: the value before and the difference, which must be a clock
unfoldable pub drawn : Place → Answer
drawn c =
    pick (ltb (c.last + c.key) zero_key) (refuse 3 c.from)
    (pick (ltb max_clock (c.last + c.key - zero_key)) (refuse 3 c.from)
    (Next (c.last + c.key - zero_key) (place_at c.at c.from (c.last + c.key - zero_key) c.key (c.count - 1))))

-- e is outside -2^31 to 2^31-1; the key of e/2 rounded down
unfoldable pub outside : Bool → ℕ → Bool
outside m x = pick m (ltb 2147483648 x) (leb 2147483648 x)

unfoldable pub key_read : Bool → ℕ → ℕ
key_read m x = pick m (zero_key - (x + 1) / 2) (zero_key + x / 2)

-- the run from place `from`, whose count is what was read at place e
unfoldable pub counted : ℕ → ℕ → ℕ → ℕ → Read → Answer
counted from last key e (Refused why) = Bad why
counted from last key e (Number c f) = pick (ltb max_count c) (refuse 3 e) (drawn (place_at f from last key (c + 2)))

-- the run that begins with what was read at place `at`, onto the value before
unfoldable pub begun : List ℕ → ℕ → ℕ → Signed → Answer
begun s at last (Wrong why) = Bad why
begun s at last (Value m x e) =
    pick (outside m x) (refuse 3 at)
    (pick (eqb (x % 2) 0) (drawn (place_at e at last (key_read m x) 1)) (counted at last (key_read m x) e (read_unsigned s e)))

unfoldable pub next_difference : List ℕ → Place → Answer
next_difference s c = pick (ltb 0 c.count) (drawn c) (begun s c.at c.last (read_signed s c.at))
