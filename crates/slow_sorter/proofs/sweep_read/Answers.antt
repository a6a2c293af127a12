-- `slow_sorter::sweep_read` meets its contract: what was read is the vector's entries, and a refusal writes nothing.
use Rattle.std.proofs.Common.{sym, ◌∙◌, length, replicate, ℕ}
use Rattle.vector.specs.Vector.{vector_of}
use Rattle.sorter.proofs.Exits.{names-fit}
use Rattle.slow_sorter.proofs.Exits.{exit_read, exit-refused}
use Rattle.slow_sorter.proofs.sweep_read.Goals as goal

pub sweep_kept-requires : goal.sweep_kept-requires
sweep_kept-requires c =
    let r = c.read_entries.ensures in
    (c.requires, rw r.1 (names-fit (vector_of c.args.vector.now) c.in-Ok.m (length (replicate {A = ℕ} 64 0)) (sym r.0 ∙ c.in-Ok.is)))

pub returns-in-Ok : goal.returns-in-Ok
returns-in-Ok c =
    let r = c.read_entries.ensures in
    let s = c.sweep_kept.ensures in
    rw (s.0, s.1, s.2, s.3, s.4, r.1, r.2)
    (exit_read c.args.rule (vector_of c.args.vector.now) c.args.rows.now c.args.blocks c.args.order.now c.args.counts.now c.args.reaches.now c.args.pending.now c.in-Ok.m (length (replicate {A = ℕ} 64 0)) (sym r.0 ∙ c.in-Ok.is))

pub returns-in-Err : goal.returns-in-Err
returns-in-Err c =
    rw c.refused.ensures
    (exit-refused c.args.rule (vector_of c.args.vector.now) c.args.rows.now c.args.blocks c.args.order.now c.args.counts.now c.args.reaches.now c.args.pending.now c.in-Err.why (sym c.read_entries.ensures.0 ∙ c.in-Err.is))
