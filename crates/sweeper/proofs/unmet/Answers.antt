-- `sweeper::unmet` meets its contract: what was asked for before stage k does not hold the block.
use Prim.Native.Nat.{◌≤◌}
use mathlib.Core.Path.{sym, ap, ◌∙◌}
use native.Mathlib.Omega.{arith}
use native.Mathlib.Numerals.{add-one}
use lib.ListN.{length}
use Rattle.slots.specs.Slots.{slots_from}
use Rattle.picker.specs.Picker.{holds}
use Rattle.picker.specs.Stages.{stages, stage_at}
use Rattle.picker.proofs.StageLaws.{stages-most}
use Rattle.sweeper.specs.Sweeper.{unmet_by}
use Rattle.sweeper.proofs.Fronts.{held_at, free-at, held_none}
use Rattle.sweeper.proofs.unmet.Goals as goal

pub loop-k-preserved : goal.loop-k-preserved
unfolding stage_at
loop-k-preserved c = let a = c.args in
    let ss = slots_from a.slots.now 0 a.n in
    let ds = stages a.rule a.b in
    let free = sym (c.is_held.ensures ∙ ap (holds ss a.reach.now) c.at-a.ensures) ∙ c.if-is_held.false in
    rw add-one (free-at ss a.reach.now ds c.loop-k.k free ∙ c.loop-k.invariant)

pub returns-then-is_held : goal.returns-then-is_held
unfolding stage_at unmet_by
returns-then-is_held c = let a = c.args in
    let ss = slots_from a.slots.now 0 a.n in
    let ds = stages a.rule a.b in
    let held = sym (c.is_held.ensures ∙ ap (holds ss a.reach.now) c.at-a.ensures) ∙ c.if-is_held.true in
    c.at-a.ensures ∙ sym (held_at ss a.reach.now ds c.loop-k.k held) ∙ c.loop-k.invariant

pub returns : goal.returns
unfolding unmet_by
returns c = let a = c.args in
    let ss = slots_from a.slots.now 0 a.n in
    let ds = stages a.rule a.b in
    let all : length ds ≤ c.loop-k.k = omega (arith, c.loop-k-test.false, c.count-k-end.ensures, stages-most a.rule a.b) in
    c.none.ensures ∙ sym (held_none ss a.reach.now ds c.loop-k.k all) ∙ c.loop-k.invariant
