-- `write_left` meets its contract: two tokens, or none.
use borrow.Author.Tests.{not-true, not-false}
use mathlib.Core.List.{[]}
use Rattle.tokens.proofs.Wrote.{wrote_none, wrote_then, wrote-is}
use Rattle.records.proofs.Writes.{left-none, left-some}
use Rattle.records.proofs.write_left.Goals as goal

pub returns-then-not-b : goal.returns-then-not-b
returns-then-not-b c = let p4 = c in
    let a = p4.args in
    wrote-is (left-none [] a.b (not-true a.b.has_left c.if-not-b.true)) (wrote_none p4.requires)

pub returns : goal.returns
returns c = let p4 = c in
    let p12 = c in
    let p15 = c in
    let p19 = c in
    let a = p19.args in
    wrote-is (left-some [] a.b (not-false a.b.has_left p15.if-not-b.false))
    (wrote_then p12.write_client-mid.ensures p4.write_left_clock.ensures)
