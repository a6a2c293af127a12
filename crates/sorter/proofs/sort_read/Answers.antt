-- `sorter::sort_read` meets its contract: what was read is the vector's entries, and a refusal writes nothing.
use Rattle.std.proofs.Common.{sym, ◌∙◌, length, replicate, ℕ}
use Rattle.vector.specs.Vector.{vector_of}
use Rattle.sorter.proofs.Exits.{names-fit, exit_read, exit-refused}
use Rattle.sorter.proofs.sort_read.Goals as goal

pub sort_kept-requires : goal.sort_kept-requires
sort_kept-requires c =
    let r = c.read_entries.ensures in
    (c.requires, rw r.1 (names-fit (vector_of c.args.vector.now) c.in-Ok.m (length (replicate {A = ℕ} 64 0)) (sym r.0 ∙ c.in-Ok.is)))

pub returns-in-Ok : goal.returns-in-Ok
returns-in-Ok c =
    let r = c.read_entries.ensures in
    let s = c.sort_kept.ensures in
    rw (s.0, s.1, s.2, s.3, s.4, r.1, r.2)
    (exit_read c.args.rule (vector_of c.args.vector.now) c.args.rows.now c.args.blocks c.args.order.now c.args.counts.now c.args.reaches.now c.args.pending.now c.in-Ok.m (length (replicate {A = ℕ} 64 0)) (sym r.0 ∙ c.in-Ok.is))

pub returns-in-Err : goal.returns-in-Err
returns-in-Err c =
    rw c.refused.ensures
    (exit-refused c.args.rule (vector_of c.args.vector.now) c.args.rows.now c.args.blocks c.args.order.now c.args.counts.now c.args.reaches.now c.args.pending.now c.in-Err.why (sym c.read_entries.ensures.0 ∙ c.in-Err.is))
