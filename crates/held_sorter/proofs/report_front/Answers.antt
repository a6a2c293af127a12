-- `held_sorter::report_front` meets its contract: a front that has a block left waits for its first id that is not met.
use Rattle.std.proofs.Common.{sym, ◌∙◌}
use Rattle.slots.specs.Slots.{slot_at, slots_from}
use Rattle.held_sorter.proofs.Exits.{front_below, front-waits, front-done}
use Rattle.held_sorter.proofs.report_front.Goals as goal

pub fetch-a-requires : goal.fetch-a-requires
fetch-a-requires c =
    front_below c.args.held.now c.args.ranges (slots_from c.args.slots.now 0 c.args.n) c.args.rows.now c.args.reach.now (slot_at c.args.slots.now c.args.i) c.front_at-f.result c.args.out.now c.args.at
    (sym c.is_left.ensures ∙ c.if-is_left.true)

pub number_row-b-requires : goal.number_row-b-requires
number_row-b-requires c = (
  front_below c.args.held.now c.args.ranges (slots_from c.args.slots.now 0 c.args.n) c.args.rows.now c.args.reach.now (slot_at c.args.slots.now c.args.i) c.front_at-f.result c.args.out.now c.args.at
      (sym c.is_left.ensures ∙ c.if-is_left.true),
  c.requires.0,
  c.requires.1,
  c.requires.2,
)

pub returns-then-is_left : goal.returns-then-is_left
returns-then-is_left c =
    rw (c.put_waiting.ensures.0, c.put_waiting.ensures.1, c.first_unmet-id.ensures, c.number_row-b.ensures, c.fetch-a.ensures, sym c.front_at-f.ensures)
    (front-waits c.args.held.now c.args.ranges (slots_from c.args.slots.now 0 c.args.n) c.args.rows.now c.args.reach.now (slot_at c.args.slots.now c.args.i) c.front_at-f.result c.args.out.now c.args.at
    (sym c.is_left.ensures ∙ c.if-is_left.true))

pub returns : goal.returns
returns c =
    rw (sym c.front_at-f.ensures)
    (front-done c.args.held.now c.args.ranges (slots_from c.args.slots.now 0 c.args.n) c.args.rows.now c.args.reach.now (slot_at c.args.slots.now c.args.i) c.front_at-f.result c.args.out.now c.args.at
    (sym c.is_left.ensures ∙ c.if-is_left.false))
