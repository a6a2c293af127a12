-- `write_key` meets its contract: one token, or none.
use borrow.Author.Tests.{not-true, not-false}
use Rattle.tokens.proofs.Wrote.{wrote_none, wrote-is}
use Rattle.records.proofs.Writes.{key-none, key-some}
use Rattle.records.proofs.write_key.Goals as goal

pub returns-then-not-b : goal.returns-then-not-b
returns-then-not-b c = let p5 = c in
    let a = p5.args in
    wrote-is (key-none a.update.now a.b (not-true a.b.has_key c.if-not-b.true)) (wrote_none p5.requires)

pub returns : goal.returns
returns c = let p4 = c in
    let p8 = c in
    let p13 = c in
    let a = p13.args in
    wrote-is (key-some a.update.now a.b (not-false a.b.has_key p8.if-not-b.false)) p4.write_name.ensures
