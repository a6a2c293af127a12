-- The delete set of an update, in document 01's words.
use Rattle.std.specs.Prelude.{ℕ, zero, suc, ◌+◌, ltb, eqb}
use Rattle.numbers.specs.Number.{pick}
use Rattle.numbers.specs.Limits.{max_clock, max_value, max_clients}
use Rattle.ranges.specs.Ranges.{Range}
use Rattle.ranges.specs.Table.{range}
use Rattle.grammar.specs.Grammar.{up_to, any, delete_clock, delete_len, number, Grammar, emit, stop, done, draw}
use Rattle.grammar.specs.Grammar.{◌>>=◌}

-- the last k ranges of a client, the range before them ended at `end`; an empty range is none, but has an end, which is a clock
unfoldable pub ranges : ℕ → ℕ → ℕ → Grammar Range (Unit {0})
ranges zero client end = done tt
ranges (suc k) client end = do
  (clock, at) ← draw (number (delete_clock end))
  (len, _) ← draw (number delete_len)
  pick (ltb max_clock (clock + len)) (stop 3 at)
      (pick (eqb len 0) (ranges k client (clock + len)) (emit (range client clock len) at (ranges k client (clock + len))))

unfoldable pub deleted_clients : ℕ → Grammar Range (Unit {0})
deleted_clients zero = done tt
deleted_clients (suc n) = do
  (client, _) ← draw (number (up_to max_value))
  (k, _) ← draw (number any)
  _ ← ranges k client 0
  deleted_clients n

unfoldable pub all_ranges : Grammar Range (Unit {0})
all_ranges = draw (number (up_to max_clients)) >>= λ (n, _). deleted_clients n
