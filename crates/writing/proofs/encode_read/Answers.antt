-- `encode_read` meets its contract: the vector is read; then it is its refusal, or what is kept against it is written.
use Rattle.std.proofs.Common.{sym, ◌∙◌}
use Rattle.ranges.specs.TableInner.{rows_from}
use Rattle.vector.specs.Vector.{vector_of}
use Rattle.writing.proofs.Entries.{exit_read, exit-refused}
use Rattle.writing.proofs.encode_read.Goals as goal

pub returns-in-Ok : goal.returns-in-Ok
returns-in-Ok c = let a = c.args in
    rw (c.encode_kept.ensures.0, c.encode_kept.ensures.1, c.read_entries.ensures.1, c.read_entries.ensures.2)
    (exit_read a.update.now (vector_of a.vector.now) a.from a.form a.rows.now a.blocks (rows_from a.ranges.now 0 a.n) a.out.now c.in-Ok.m 64 64
    (sym c.read_entries.ensures.0 ∙ c.in-Ok.is))

pub returns-in-Err : goal.returns-in-Err
returns-in-Err c = let a = c.args in
    rw (c.refuse.ensures.0, c.refuse.ensures.1)
    (exit-refused a.update.now (vector_of a.vector.now) a.from a.form a.rows.now a.blocks (rows_from a.ranges.now 0 a.n) a.out.now c.in-Err.why
    (sym c.read_entries.ensures.0 ∙ c.in-Err.is))
