-- `reader::read_sections`: at each turn the blocks in the first n rows, and those still to come, are those that came at first; and where the words stand.
use Rattle.std.proofs.Common.{length, replicate}
use Rattle.cells.specs.Cells.{Small}
use Rattle.update.specs.Steps.{reads, comes, Fine, left}
use Rattle.reader.proofs.Course.{Known, Onward}
use Rattle.reader.proofs.read_sections.Given as goal

abbrev pub invariant-loop-place : goal.invariant-loop-place
invariant-loop-place l =
    Small l.w × Fine l.seen l.s × Known (length l.initial.rows) (comes l.initial.form l.initial.update (replicate 64 0) l.initial.w l.initial.s) l.n l.rows (comes l.initial.form l.initial.update l.seen l.w l.s)
    × Onward (length l.initial.rows) (reads l.initial.form l.initial.update (replicate 64 0) l.initial.w l.initial.s) l.n (reads l.initial.form l.initial.update l.seen l.w l.s)

abbrev pub decreases-loop-place : goal.decreases-loop-place
decreases-loop-place l = left l.s
