-- `encode_kept` meets its contract: the rows are planned against the entries; then they are measured and written, with words for keys only where there may
-- be keys.
use Rattle.std.proofs.Common.{arith, sym}
use Rattle.ranges.specs.TableInner.{rows_from}
use Rattle.kept.specs.Plan.{entries_of}
use Rattle.writing.specs.Writing.{no_plan}
use Rattle.writing.proofs.Room.{plan-room}
use Rattle.writing.proofs.Exits.{exit-kept, blank-zeros, wide-zeros}
use Rattle.writing.proofs.encode_kept.Goals as goal
use lib.ListN.{take}

pub is_plain-plain-requires : goal.is_plain-plain-requires
is_plain-plain-requires c = let a = c.args in
    rw (c.plan_rows-planned.ensures.0, c.plan_rows-planned.ensures.1)
    (plan-room a.update.now (entries_of a.m a.clients.now a.clocks.now) no_plan (take a.blocks a.rows.now))

pub encode_measured-requires : goal.encode_measured-requires
encode_measured-requires c = let a = c.args in
    (c.requires.1, rw (c.plan_rows-planned.ensures.0, c.plan_rows-planned.ensures.1) (plan-room c.args.update.now (entries_of c.args.m c.args.clients.now c.args.clocks.now) no_plan (take c.args.blocks c.args.rows.now)), blank-zeros 52 (omega arith), c.is_plain-plain.ensures c.if-plain.true a.update.now _)

pub encode_measured-requires-2 : goal.encode_measured-requires-2
encode_measured-requires-2 c =
    (c.requires.1, rw (c.plan_rows-planned.ensures.0, c.plan_rows-planned.ensures.1) (plan-room c.args.update.now (entries_of c.args.m c.args.clients.now c.args.clocks.now) no_plan (take c.args.blocks c.args.rows.now)), blank-zeros 1333 (omega arith), wide-zeros c.args.form _)

pub returns-then-plain : goal.returns-then-plain
returns-then-plain c = let a = c.args in
    exit-kept a.update.now (entries_of a.m a.clients.now a.clocks.now) a.from a.form a.rows.now a.blocks (rows_from a.ranges.now 0 a.n) a.out.now
    (rw (sym c.plan_rows-planned.ensures.0, sym c.plan_rows-planned.ensures.1) c.encode_measured.ensures)

pub returns : goal.returns
returns c = let a = c.args in
    exit-kept a.update.now (entries_of a.m a.clients.now a.clocks.now) a.from a.form a.rows.now a.blocks (rows_from a.ranges.now 0 a.n) a.out.now
    (rw (sym c.plan_rows-planned.ensures.0, sym c.plan_rows-planned.ensures.1) c.encode_measured-2.ensures)
