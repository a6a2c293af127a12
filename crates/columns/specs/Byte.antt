-- The byte column: a value, then c, and it stands c + 1 times. If no byte is left after the value, it stands without end.
use Rattle.std.specs.Prelude.{ℕ, ◌+◌, ◌-◌, List, true, false, ltb, leb, length, get_or}
use Rattle.numbers.specs.declared.Read.{Read}
use Rattle.numbers.specs.declared.Read.TheVariants.{Number, Refused}
use Rattle.numbers.specs.Number.{pick, read_unsigned}
use Rattle.numbers.specs.Limits.{max_count}
use Rattle.columns.specs.declared.byte.Place.{Place}
use Rattle.columns.specs.declared.byte.Answer.{Answer}
use Rattle.columns.specs.declared.byte.Answer.TheVariants.{Next, Bad}

-- the next byte at `at`, in a run whose first byte is at `from` and whose value b still stands n times
abbrev pub place_at : ℕ → ℕ → ℕ → ℕ → Place
place_at at from b n = record { at = at; from = from; last = b; count = n; endless = false }

-- the same without end
abbrev pub endless_at : ℕ → ℕ → ℕ → Place
endless_at at from b = record { at = at; from = from; last = b; count = 0; endless = true }

abbrev pub start_at : ℕ → Place
start_at at = place_at at at 0 0

abbrev pub refuse : ℕ → ℕ → Answer
refuse n p = Bad (record { number = n; place = p })

-- the run of b from place `from`, whose count is what was read at place e
unfoldable pub counted : ℕ → ℕ → ℕ → Read → Answer
counted from b e (Refused why) = Bad why
counted from b e (Number c f) = pick (ltb max_count c) (refuse 3 e) (Next b (place_at f from b c))

-- the run that begins at place `at`
unfoldable pub begun : List ℕ → ℕ → Answer
begun s at =
    pick (leb (length s) at) (refuse 1 (length s))
    (pick (leb (length s) (at + 1)) (Next (get_or s at 0) (endless_at (at + 1) at (get_or s at 0)))
    (counted at (get_or s at 0) (at + 1) (read_unsigned s (at + 1))))

unfoldable pub next_byte : List ℕ → Place → Answer
next_byte s c =
    pick c.endless (Next c.last c)
    (pick (ltb 0 c.count) (Next c.last (place_at c.at c.from c.last (c.count - 1))) (begun s c.at))
