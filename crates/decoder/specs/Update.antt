-- What an update means: the grammar's blocks, read as its form has them; then its delete ranges, from there on.
use Rattle.std.specs.Prelude.{ℕ, List, eqb}
use Rattle.numbers.specs.Number.{pick}
use Rattle.block.specs.declared.Block.{Block}
use Rattle.ranges.specs.Ranges.{Range}
use Rattle.grammar.specs.Course.{CourseTo, thing, over, stopped, Course, on_drawn, run}
use Rattle.grammar.specs.Blocks.{all_blocks}
use Rattle.grammar.specs.Deletes.{all_ranges}
use Rattle.decoder.specs.Line.{line}
use Rattle.decoder.specs.States.{State}
use Rattle.decoder.specs.Columned.{columned}
use Rattle.decoder.specs.Opening.{opened_of}

-- of a state of form 2 its place in the rest
unfoldable pub rest_places : {E A : Type 0} → CourseTo State E A → CourseTo ℕ E A
rest_places (thing e p c) = thing e p (rest_places c)
rest_places (over a s) = over a s.at
rest_places (stopped why) = stopped why

unfoldable pub in_columns : List ℕ → CourseTo State Block (Unit {0})
in_columns u = on_drawn (opened_of u) (λ _ s. run (columned u) all_blocks s)

-- the blocks of an update, up to its delete set: form 1 from its first byte, form 2 behind its columns
unfoldable pub blocks_of : ℕ → List ℕ → Course Block
blocks_of form u = pick (eqb form 1) (run (line 1 u) all_blocks 0) (rest_places (in_columns u))

-- the delete set at a place: all of it is in line
unfoldable pub delete_set : ℕ → List ℕ → ℕ → Course Range
delete_set form u at = run (line form u) all_ranges at
