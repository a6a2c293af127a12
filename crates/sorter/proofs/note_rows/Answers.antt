-- `sorter::note_rows` meets its contract: a turn notes one row more, and at the end there is none left to note.
use Rattle.sorter.proofs.Noting.{begins, asked, turns, state-is, words_are}
use Rattle.sorter.proofs.note_rows.Goals as goal

pub loop-i-init : goal.loop-i-init
loop-i-init c = rw c.begin-s.ensures (begins c.args.slots.now c.args.rows.now c.args.blocks)

pub note-s-requires : goal.note-s-requires
note-s-requires c = asked c.args.slots.now c.args.rows.now c.args.blocks c.loop-i.s c.loop-i.i c.loop-i.slots c.loop-i.invariant

pub loop-i-preserved : goal.loop-i-preserved
loop-i-preserved c =
    rw (c.note-s.ensures.0, c.note-s.ensures.1, c.fetch-b.ensures) (turns c.args.slots.now c.args.rows.now c.args.blocks c.loop-i.s c.loop-i.i c.loop-i.slots c.loop-i.invariant c.requires c.loop-i-test.true)

pub returns : goal.returns
returns c =
    let g = c.loop-i.invariant in
    (state-is c.args.slots.now c.args.rows.now c.args.blocks c.loop-i.s c.loop-i.i c.loop-i.slots g c.loop-i-test.false, words_are c.args.slots.now c.args.rows.now c.args.blocks c.loop-i.s c.loop-i.i c.loop-i.slots g c.loop-i-test.false)
