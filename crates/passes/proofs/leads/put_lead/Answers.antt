-- `leads::put_lead` meets its contract, lane by lane: numbers in line.
use lib.ListN.{get_or}
use Rattle.records.proofs.Lines.{line-none, line-var, line-then}
use Rattle.passes.proofs.Places.{lead_is, units-tokens, keys-tokens, texts-tokens, other-tokens}
use Rattle.passes.proofs.leads.put_lead.Goals as goal

pub returns-then-k-eq-UNITS : goal.returns-then-k-eq-UNITS
returns-then-k-eq-UNITS c = let a = c.args in
    lead_is a.sizes.now a.k (units-tokens a.sizes.now a.k c.if-k-eq-UNITS.true) line-none

pub returns-then-k-eq-KEYS : goal.returns-then-k-eq-KEYS
returns-then-k-eq-KEYS c = let p2 = c in
    let p6 = c in
    let p8 = c in
    let a = p8.args in
    let z = a.sizes.now in
    lead_is z a.k (keys-tokens z a.k p8.if-k-eq-KEYS.true)
    (line-then (line-var 0 p6.number-flag.ensures) (line-var (get_or z a.k 0) p2.number.ensures))

pub returns-then-k-eq-TEXTS : goal.returns-then-k-eq-TEXTS
returns-then-k-eq-TEXTS c = let p2 = c in
    let p6 = c in
    let p8 = c in
    let p9 = c in
    let a = p9.args in
    let z = a.sizes.now in
    lead_is z a.k (rw c.text_size-column.ensures (texts-tokens z a.k p9.if-k-eq-TEXTS.true))
    (line-then (line-var c.text_size-column.result p6.number-led.ensures) (line-var (get_or z a.k 0) p2.number-then-k-eq-TEXTS.ensures))

pub returns : goal.returns
returns c = let p2 = c in
    let p4 = c in
    let p5 = c in
    let p6 = c in
    let p10 = c in
    let a = p10.args in
    let z = a.sizes.now in
    lead_is z a.k (other-tokens z a.k p10.requires.1 p6.if-k-eq-UNITS.false p5.if-k-eq-KEYS.false p4.if-k-eq-TEXTS.false)
    (line-var (get_or z a.k 0) p2.number-2.ensures)
