-- A lane that is being written: its state, a token at a time. It is written where there is room and measured where there is none: the state is the
-- same.
use Rattle.std.specs.Prelude.{ℕ, ◌+◌, Bool, true, false, List, [], ◌∷◌, ltb, leb, length}
use Rattle.std.proofs.lemmas.List.Edits.{sets}
use Rattle.numbers.specs.Number.{pick}
use Rattle.runs.specs.declared.writer.Writer.{Writer}
use Rattle.runs.specs.Runs.{coding}
use Rattle.runs.specs.Writer.{fresh, key_after, emitted, finished, pushed}
use Rattle.parts.specs.Brim.{brim}
use Rattle.tokens.specs.Tokens.{Token, taken, in_line, column_in}

-- which lane, its writer, whose `at` is the next place in lanes without runs too, and whether a difference could not be spelled
pub record Lane : Type 0 where
  pub lane : ℕ
  pub run : Writer
  pub far : Bool

abbrev pub fresh_lane : ℕ → ℕ → Lane
fresh_lane k at = record { lane = k; run = fresh (column_in k) at; far = false }

-- bytes b at a place, if there is room for them
unfoldable pub lay : List ℕ → ℕ → List ℕ → List ℕ
lay out at b = pick (leb (at + length b) (length out)) (sets out at b) out

abbrev pub moved_to : Lane → ℕ → Lane
moved_to e at = record {
  lane = e.lane;
  run = record { column = e.run.column; at = at; last = e.run.last; key = e.run.key; count = e.run.count };
  far = e.far;
}

-- the place after bytes b in line, and the bytes lent then; at the brim nothing moves
unfoldable pub ahead : ℕ → List ℕ → ℕ
ahead at b = pick (ltb at brim) (at + length b) at

unfoldable pub laid_at : List ℕ → ℕ → List ℕ → List ℕ
laid_at out at b = pick (ltb at brim) (lay out at b) out

unfoldable pub forward : Lane → List ℕ → Lane
forward e b = pick (ltb e.run.at brim) (moved_to e (e.run.at + length b)) e

unfoldable pub laid_bytes : List ℕ → Lane → List ℕ → List ℕ
laid_bytes out e b = pick (ltb e.run.at brim) (lay out e.run.at b) out

-- a value is taken if it is one of the column's
unfoldable pub takes : Writer → ℕ → Bool
takes w v = pick (ltb w.at brim) (pick (ltb w.count brim) (leb v (coding w.column).most) false) false

unfoldable pub pushed_on : Lane → ℕ → Lane
pushed_on e v =
    pick (takes e.run v)
    (record { lane = e.lane; run = pushed e.run v; far = pick ((coding e.run.column).near (key_after e.run v)) e.far true }) e

unfoldable pub laid_value : List ℕ → Lane → ℕ → List ℕ
laid_value out e v = pick (takes e.run v) (lay out e.run.at (emitted e.run v)) out

unfoldable pub pushed_all : Lane → List ℕ → Lane
pushed_all e [] = e
pushed_all e (v ∷ vs) = pushed_all (pushed_on e v) vs

unfoldable pub laid_values : List ℕ → Lane → List ℕ → List ℕ
laid_values out e [] = out
laid_values out e (v ∷ vs) = laid_values (laid_value out e v) (pushed_on e v) vs

-- the state after a token, and the bytes lent then
unfoldable pub put : Lane → Token → Lane
put e t = pick (in_line e.lane) (forward e (taken e.lane t)) (pushed_all e (taken e.lane t))

unfoldable pub laid : List ℕ → Lane → Token → List ℕ
laid out e t = pick (in_line e.lane) (laid_bytes out e (taken e.lane t)) (laid_values out e (taken e.lane t))

unfoldable pub put_all : Lane → List Token → Lane
put_all e [] = e
put_all e (t ∷ ts) = put_all (put e t) ts

unfoldable pub laid_all : List ℕ → Lane → List Token → List ℕ
laid_all out e [] = out
laid_all out e (t ∷ ts) = laid_all (laid out e t) (put e t) ts

-- the end: a column's last run
unfoldable pub last_run : Lane → List ℕ
last_run e = pick (in_line e.lane) [] (finished e.run)

abbrev pub closed : Lane → Lane
closed e = forward e (last_run e)

abbrev pub laid_end : List ℕ → Lane → List ℕ
laid_end out e = laid_bytes out e (last_run e)
