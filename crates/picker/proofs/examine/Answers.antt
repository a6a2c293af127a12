-- `picker::examine` meets its contract: what is found from each stage on is what is found, until one holds the block or none is left.
use Rattle.slots.specs.Slots.{slots_from}
use Rattle.picker.proofs.StageLaws.{count_most}
use Rattle.picker.proofs.Looks.{reached-none, look-waits, look-on, look-last}
use Rattle.picker.proofs.examine.Goals as goal

pub returns-then-left-ne0 : goal.returns-then-left-ne0
returns-then-left-ne0 c =
    let a = c.args in
    let ss = slots_from a.slots.now 0 a.n in
    look-waits a.rule ss a.reach.now a.f a.b 0 c.at-first.result c.consider-left.result c.at-first.ensures c.consider-left.ensures c.if-left-ne0.true (reached-none a.rule ss a.reach.now a.f a.b)

pub returns-then-right-ne0 : goal.returns-then-right-ne0
returns-then-right-ne0 c =
    let a = c.args in
    let ss = slots_from a.slots.now 0 a.n in
    let past-1 = look-on a.rule ss a.reach.now a.f a.b 0 c.at-first.result c.consider-left.result c.at-first.ensures c.consider-left.ensures c.if-left-ne0.false (reached-none a.rule ss a.reach.now a.f a.b) in
    look-waits a.rule ss a.reach.now a.f a.b 1 c.at-second.result c.consider-right.result c.at-second.ensures c.consider-right.ensures c.if-right-ne0.true past-1

pub returns-then-parent-ne0 : goal.returns-then-parent-ne0
returns-then-parent-ne0 c =
    let a = c.args in
    let ss = slots_from a.slots.now 0 a.n in
    let past-1 = look-on a.rule ss a.reach.now a.f a.b 0 c.at-first.result c.consider-left.result c.at-first.ensures c.consider-left.ensures c.if-left-ne0.false (reached-none a.rule ss a.reach.now a.f a.b) in
    let past-2 = look-on a.rule ss a.reach.now a.f a.b 1 c.at-second.result c.consider-right.result c.at-second.ensures c.consider-right.ensures c.if-right-ne0.false past-1 in
    look-waits a.rule ss a.reach.now a.f a.b 2 c.at-third.result c.consider-parent.result c.at-third.ensures c.consider-parent.ensures c.if-parent-ne0.true past-2

pub returns : goal.returns
returns c =
    let a = c.args in
    let ss = slots_from a.slots.now 0 a.n in
    let past-1 = look-on a.rule ss a.reach.now a.f a.b 0 c.at-first.result c.consider-left.result c.at-first.ensures c.consider-left.ensures c.if-left-ne0.false (reached-none a.rule ss a.reach.now a.f a.b) in
    let past-2 = look-on a.rule ss a.reach.now a.f a.b 1 c.at-second.result c.consider-right.result c.at-second.ensures c.consider-right.ensures c.if-right-ne0.false past-1 in
    let past-3 = look-on a.rule ss a.reach.now a.f a.b 2 c.at-third.result c.consider-parent.result c.at-third.ensures c.consider-parent.ensures c.if-parent-ne0.false past-2 in
    look-last a.rule ss a.reach.now a.f a.b 3 c.at-fourth.result c.consider.result c.at-fourth.ensures c.consider.ensures (count_most a.rule) past-3
