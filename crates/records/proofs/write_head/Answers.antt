-- `write_head` meets its contract: three tokens, or none.
use Prim.Native.Nat.{◌+◌}
use mathlib.Core.List.{[]}
use Rattle.tokens.proofs.Wrote.{wrote_none, wrote_then, wrote-var, wrote-is}
use Rattle.records.proofs.Writes.{head-none, head-some}
use Rattle.records.proofs.write_head.Goals as goal

pub returns-then-count-eq0 : goal.returns-then-count-eq0
returns-then-count-eq0 c = let p3 = c in
    let a = p3.args in
    wrote-is (head-none [] a.b a.count a.from.0 c.if-count-eq0.true) (wrote_none p3.requires.0)

pub returns : goal.returns
returns c = let p2 = c in
    let p8 = c in
    let p13 = c in
    let p17 = c in
    let p20 = c in
    let a = p20.args in
    wrote-is (head-some [] a.b a.count a.from.0 p17.if-count-eq0.false)
    (wrote_then (wrote-var a.count p20.requires.0 p13.number-counted.ensures)
    (wrote_then p8.write_client-named.ensures (wrote-var (a.b.clock + a.from.0) p8.write_client-named.ensures.tidy p2.number.ensures)))
