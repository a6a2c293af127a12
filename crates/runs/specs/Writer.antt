-- The state of a column writer, as its functions and their callers' loops go by it.
use Rattle.std.specs.Prelude.{ℕ, ◌+◌, ◌-◌, ◌≤◌, ◌≡◌, List, [], ◌++◌, Bool, true, false, ltb, leb, eqb, length, take}
use Rattle.numbers.specs.declared.Written.{Written}
use Rattle.numbers.specs.Number.{pick}
use Rattle.numbers.specs.Output.{written, put}
use Rattle.runs.specs.declared.ColumnKind.{ColumnKind}
use Rattle.runs.specs.declared.writer.Writer.{Writer}
use Rattle.runs.specs.Runs.{coding, runs_on, column}
use Rattle.runs.specs.RunsInner.{key_most}

abbrev pub fresh : ColumnKind → ℕ → Writer
fresh column at = record { column = column; at = at; last = 0; key = 0; count = 0 }

-- the key k ends the run that is under way
unfoldable pub ends : ℕ → Writer → Bool
ends k w = pick (eqb w.count 0) false (pick (eqb k w.key) false true)

-- the key of v after the last value
unfoldable pub key_after : Writer → ℕ → ℕ
key_after w v = (coding w.column).key_of w.last v

-- the bytes that a value has written, and those that the end has written
unfoldable pub emitted : Writer → ℕ → List ℕ
emitted w v = pick (ends (key_after w v) w) ((coding w.column).spell w.key (w.count - 1)) []

unfoldable pub finished : Writer → List ℕ
finished w = pick (eqb w.count 0) [] ((coding w.column).final w.key (w.count - 1))

-- the state with key k of value v, at place `at`
unfoldable pub moved : Writer → ℕ → ℕ → ℕ → Writer
moved w at k v = record { column = w.column; at = at; last = v; key = k; count = pick (ends k w) 1 (w.count + 1) }

unfoldable pub pushed : Writer → ℕ → Writer
pushed w v = moved w (w.at + length (emitted w v)) (key_after w v) v

-- what a state has at all times
abbrev pub Sound : Writer → Type 0
Sound w = (w.last ≤ (coding w.column).most) × (w.key ≤ key_most w.column)

-- ---- refusals, a value at a time

-- what the values so far allow: their state, whether a difference could not be spelled, and whether something was over a limit
pub record Judge : Type 0 where
  pub writer : Writer
  pub far : Bool
  pub over : Bool

abbrev pub unjudged : ColumnKind → Judge
unjudged col = record { writer = fresh col 0; far = false; over = false }

-- the run that k ends, if it ends one, can be stored; so can the last
unfoldable pub run_fits : Writer → ℕ → Bool
run_fits w k = pick (ends k w) ((coding w.column).fits (w.count - 1)) true

unfoldable pub last_fits_in : Writer → Bool
last_fits_in w = pick (eqb w.count 0) true ((coding w.column).last_fits (w.count - 1))

abbrev pub over_limit : Judge → Judge
over_limit j = record { writer = j.writer; far = j.far; over = true }

abbrev pub goes_on : Judge → ℕ → Judge
goes_on j v = record {
  writer = moved j.writer j.writer.at (key_after j.writer v) v;
  far = pick ((coding j.writer.column).near (key_after j.writer v)) j.far true;
  over = false;
}

unfoldable pub judged : Judge → ℕ → Judge
judged j v =
    pick j.over j
    (pick (ltb (coding j.writer.column).most v) (over_limit j) (pick (run_fits j.writer (key_after j.writer v)) (goes_on j v) (over_limit j)))

unfoldable pub sentence : Judge → ℕ
sentence j = pick j.over 3 (pick (last_fits_in j.writer) (pick j.far 13 0) 3)

-- ---- the end

-- what the end of a column answers, and leaves of e: the last run behind what stands before the place, or 10
abbrev pub Closes : List ℕ → Writer → Written → List ℕ → Type 0
Closes e w r x = (r ≡ written 0 (length e) (take w.at e ++ finished w)) × (x ≡ put 0 (length e) (take w.at e ++ finished w))
