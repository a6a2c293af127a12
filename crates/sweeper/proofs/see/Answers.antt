-- `sweeper::see` meets its contract: a row by number or as it is.
use Rattle.std.proofs.Common.{◌∙◌}
use Rattle.slots.specs.Slots.{slots_from}
use Rattle.sweeper.proofs.Seen.{seen-numbered, seen_plain}
use Rattle.sweeper.proofs.see.Goals as goal

pub returns-then-numbered : goal.returns-then-numbered
returns-then-numbered c = let a = c.args in
    c.number_row.ensures ∙ seen-numbered a.held.now a.ranges (slots_from a.slots.now 0 a.n) a.rows.now a.numbered c.if-numbered.true a.row c.requires.0

pub returns : goal.returns
returns c = let a = c.args in
    c.fetch.ensures ∙ seen_plain a.held.now a.ranges (slots_from a.slots.now 0 a.n) a.rows.now a.numbered c.if-numbered.false a.row
