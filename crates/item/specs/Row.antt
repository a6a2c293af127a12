-- The row of a block while it is read, and what reading leaves: beside what an item holds, an id, a whole block.
use Rattle.std.specs.Prelude.{Option, Some, None}
use Rattle.std.specs.Prelude.{ℕ, ◌+◌, ◌≤◌, ◌≡◌, List, get_or}
use Rattle.block.specs.declared.Id.{Id}
use Rattle.block.specs.declared.Block.{Block}
use Rattle.block.specs.Rows.{plain}
use Rattle.grammar.specs.Grammar.{Number, Grammar}
use Rattle.grammar.specs.Blocks.{bare, body}
use Rattle.grammar.specs.Course as course
use Rattle.grammar.specs.Course.{CourseTo}
use Rattle.decoder.specs.States.{State}
use Rattle.cells.specs.Cells.{state_in, why_in, Small, Beside}
pub use Rattle.held.specs.Row.{Narrow, Reads, Put}
unfoldable pub use Rattle.held.specs.Row.{id_in, row_in, onto}

-- nothing of it is read yet but its client and its clock
abbrev pub Begun : List ℕ → Type 0
Begun r = row_in r ≡ plain (row_in r).client (row_in r).clock 0 0

abbrev pub bare_in : List ℕ → ℕ → Number → Grammar Block Block
bare_in r kind n = bare (row_in r).client (row_in r).clock kind n

abbrev pub body_in : List ℕ → ℕ → ℕ → Grammar Block Block
body_in r info place = body (row_in r).client (row_in r).clock info place

-- ---- an answer, with the words v and the row q that it leaves

-- the block, and the place of its info byte
unfoldable pub block_onto : List ℕ → List ℕ → Option ℕ → CourseTo State Block (Block × ℕ)
block_onto v q (Some p) = course.over (row_in q, p) (state_in v)
block_onto v q None = course.stopped (why_in v)

-- the id in words k and k + 1 of the row
unfoldable pub id_onto : ℕ → List ℕ → List ℕ → Option (Unit {0}) → CourseTo State Block Id
id_onto k v q (Some tt) = course.over (id_in q k) (state_in v)
id_onto k v q None = course.stopped (why_in v)

abbrev pub PutId : ℕ → List ℕ → ℕ → List ℕ → List ℕ → List ℕ → List ℕ → Option (Unit {0}) → Grammar Block Id → Type 0
PutId form u k w v r q f x = Small v × Beside k r q × (get_or q (k + 1) 0 ≤ 4294967295) × (id_onto k v q f ≡ Reads form u w x)

abbrev pub PutBlock : ℕ → List ℕ → List ℕ → List ℕ → List ℕ → Option ℕ → Grammar Block (Block × ℕ) → Type 0
PutBlock form u w v q d x = Small v × Narrow q × (block_onto v q d ≡ Reads form u w x)
