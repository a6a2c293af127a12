-- `nearby::settle` meets its contract: what is not there, is taken, or is held waits for nothing; the next block, or what is sought.
use Rattle.std.proofs.Common.{sym, ◌∙◌}
use borrow.Author.Tests.{not-true, not-false}
use Rattle.slots.specs.Slots.{slots_from}
use Rattle.nearby.proofs.Ways.{settled-off, settled-held, settled-taken, settled-sought, settled-next}
use Rattle.nearby.proofs.settle.Goals as goal

pub returns-then-not-a : goal.returns-then-not-a
returns-then-not-a c = let l = c.args.l.now in
    let a = c.args.a in
    settled-off l.held.now l.ranges (slots_from l.slots.now 0 l.n) l.rows.now l.chains.now l.reach.now a.there a.client a.clock (not-true a.there c.if-not-a.true)

pub returns-then-how-eq-TAKEN : goal.returns-then-how-eq-TAKEN
returns-then-how-eq-TAKEN c = let l = c.args.l.now in
    let a = c.args.a in
    settled-taken l.held.now l.ranges (slots_from l.slots.now 0 l.n) l.rows.now l.chains.now l.reach.now a.there a.client a.clock (not-false a.there c.if-not-a.false)
    c.requires.3 (rw (sym c.stand_of-t.ensures) (sym c.near-how.ensures ∙ c.if-how-eq-TAKEN.true))

pub returns-then-gone : goal.returns-then-gone
returns-then-gone c = let l = c.args.l.now in
    let a = c.args.a in
    settled-held l.held.now l.ranges (slots_from l.slots.now 0 l.n) l.rows.now l.chains.now l.reach.now a.there a.client a.clock (not-false a.there c.if-not-a.false)
    (sym c.is_held-gone.ensures ∙ c.if-gone.true)

pub returns-then-how-eq-NEXT : goal.returns-then-how-eq-NEXT
returns-then-how-eq-NEXT c = let l = c.args.l.now in
    let a = c.args.a in
    c.unmet_word.ensures
    ∙ rw (c.next_number-next.ensures, c.stand_of-t.ensures)
    (settled-next l.held.now l.ranges (slots_from l.slots.now 0 l.n) l.rows.now l.chains.now l.reach.now a.there a.client a.clock (not-false a.there c.if-not-a.false)
    (sym c.is_held-gone.ensures ∙ c.if-gone.false) c.requires.3 (rw (sym c.stand_of-t.ensures) (sym c.near-how.ensures ∙ c.if-how-eq-NEXT.true)))

pub returns : goal.returns
returns c = let l = c.args.l.now in
    let a = c.args.a in
    c.unmet_word-2.ensures
    ∙ rw (c.number-number.ensures, c.span_of-s.ensures)
    (settled-sought l.held.now l.ranges (slots_from l.slots.now 0 l.n) l.rows.now l.chains.now l.reach.now a.there a.client a.clock (not-false a.there c.if-not-a.false)
    (sym c.is_held-gone.ensures ∙ c.if-gone.false))
