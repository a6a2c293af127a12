-- A diff read again: the same delete ranges, and for each piece kept a block that is like its record.
use Rattle.std.specs.Prelude.{ℕ, ◌≡◌, List}
use Rattle.numbers.specs.Number.{none}
use Rattle.updates.specs.Promises.{Reading}
use Rattle.kept.specs.Kept.{Section, sections_of}
use Rattle.written.specs.Written.{AllAlike, sections_read}
use Rattle.diffs.specs.Promises.{Diffed}
use Rattle.rereading.specs.Vectors.{entries_in}

-- the sections that a diff keeps, against the vector v, of what was read
abbrev pub kept_by : List ℕ → Reading → List Section
kept_by v r = sections_of (entries_in v) r.blocks

-- r is a reading of the bytes of d, a diff of the update u against v
pub record ReadAgain (u v : List ℕ) (d : Diffed) (r : Reading) : Type 0 where
  pub refusal : r.refusal ≡ none
  pub ranges : r.ranges ≡ d.reading.ranges
  pub blocks : AllAlike d.bytes r.blocks u (sections_read u (kept_by v d.reading))

-- r, read of the bytes d, and s, read of the bytes e, say the same
pub record Agree (d e : List ℕ) (r s : Reading) : Type 0 where
  pub refusal : r.refusal ≡ s.refusal
  pub ranges : r.ranges ≡ s.ranges
  pub blocks : AllAlike d r.blocks e s.blocks
