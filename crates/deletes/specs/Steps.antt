-- The delete set a step at a time, a client's head or one range: what is to come before a step is what it gives, and then what is to come after it.
use Rattle.numbers.specs.declared.Refusal.{Refusal}
use Rattle.std.specs.Prelude.{ℕ, ◌+◌, ◌*◌, ◌≤◌, ◌<◌, ◌≡◌, List, ltb, length, Result, Ok, Err}
use Rattle.numbers.specs.declared.Read.{Read}
use Rattle.numbers.specs.declared.Read.TheVariants as read
use Rattle.numbers.specs.Number.{pick}
use Rattle.numbers.specs.Limits.{max_value}
use Rattle.ranges.specs.Ranges.{Range}
use Rattle.ranges.specs.Table.{range}
use Rattle.ranges.specs.TableInner.{rows_from, Fine, AllFine}
use Rattle.grammar.specs.Grammar.{Grammar}
use Rattle.grammar.specs.Grammar.{◌>>=◌}
use Rattle.grammar.specs.Course.{Course, thing, over, stopped, run, things, ending}
use Rattle.grammar.specs.Deletes.{ranges, deleted_clients}
use Rattle.decoder.specs.Line.{line}
use Rattle.deletes.specs.declared.Spot.{Spot}
use Rattle.deletes.specs.declared.Move.{Move}
use Rattle.deletes.specs.declared.Move.TheVariants as move

-- a number that is stored less `by`: restored, it is at most `most`; blamed where it stands
unfoldable pub restored_to : ℕ → ℕ → ℕ → Read → Read
restored_to most by at (read.Number v e) = pick (ltb most (by + v)) (read.Refused (record { number = 3; place = at })) (read.Number (by + v) e)
restored_to most by at (read.Refused why) = read.Refused why

abbrev pub first_of : ℕ → ℕ → Spot
first_of n at = record { at = at; clients = n; ranges = 0; client = 0; end = 0 }

-- the ranges left of this client, and the clients left
unfoldable pub to_come : Spot → Grammar Range (Unit {0})
to_come p = ranges p.ranges p.client p.end >>= λ _. deleted_clients p.clients

unfoldable pub comes : ℕ → List ℕ → Spot → Course Range
comes form u p = run (line form u) (to_come p) p.at

unfoldable pub after : ℕ → List ℕ → Result Move Refusal → Course Range
after form u (Ok (move.Range client clock len p t)) = thing (range client clock len) p (comes form u t)
after form u (Ok (move.On t)) = comes form u t
after form u (Ok (move.Done at)) = over tt at
after form u (Err why) = stopped why

-- every count is below 2^64, so each step leaves less
unfoldable pub left : Spot → ℕ
left p = p.clients * 18446744073709551616 + p.ranges

-- from client to client within the limit, a range can be stored
unfoldable pub Keeps : Spot → Result Move Refusal → Type 0
Keeps p (Ok (move.Range client clock len place t)) = (left t < left p) × (p.client ≤ max_value → Fine (range client clock len) × (t.client ≤ max_value))
Keeps p (Ok (move.On t)) = (left t < left p) × (p.client ≤ max_value → t.client ≤ max_value)
Keeps p (Ok (move.Done at)) = Unit {0}
Keeps p (Err why) = Unit {0}

abbrev pub Follows : ℕ → List ℕ → Spot → Result Move Refusal → Type 0
Follows form u p r = (comes form u p ≡ after form u r) × Keeps p r

-- the rows of the words w that were e: what the course c has, with its ending
pub record Kept (e w : List ℕ) (c : Course Range) (r : Result (ℕ × ℕ) Refusal) : Type 0 where
  pub size : length w ≡ length e
  pub fits : 3 * length (things c) ≤ length w
  pub rows : rows_from w 0 (length (things c)) ≡ things c
  pub fine : AllFine w (length (things c))
  pub told : r ≡ ending c (λ t. Ok (length (things c), t)) Err
