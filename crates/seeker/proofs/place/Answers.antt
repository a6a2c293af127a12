-- `seeker::place` meets its contract: an id that is asked for has its holder sought.
use Rattle.std.proofs.Common.{sym, ◌∙◌}
use Rattle.slots.specs.Slots.{slots_from}
use Rattle.seeker.proofs.Seeking.{place-asked, place_none}
use Rattle.seeker.proofs.place.Goals as goal

pub returns-then-asked : goal.returns-then-asked
returns-then-asked c = let l = c.args.l.now in
    c.on_number.ensures ∙ rw (c.number-k.ensures, c.span_for-s.ensures, c.clock_of-clock.ensures)
    (place-asked l.held.now l.ranges (slots_from l.slots.now 0 l.n) l.rows.now c.args.a (sym c.is_asked-asked.ensures ∙ c.if-asked.true))

pub returns : goal.returns
returns c = let l = c.args.l.now in
    c.none.ensures ∙ place_none l.held.now l.ranges (slots_from l.slots.now 0 l.n) l.rows.now c.args.a (sym c.is_asked-asked.ensures ∙ c.if-asked.false)
