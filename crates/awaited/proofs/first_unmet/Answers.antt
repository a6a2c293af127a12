-- `awaited::first_unmet` meets its contract: the first stage that holds, or the third.
use mathlib.Core.Path.{◌≡◌, sym, ap, ◌∙◌}
use Rattle.slots.specs.Slots.{slots_from}
use Rattle.picker.specs.declared.stages.Dependency.{Dependency}
use Rattle.picker.specs.Picker.{holds}
use Rattle.picker.specs.Stages.{stage_at}
use mathlib.Core.Bool.{true, false}
use Rattle.awaited.specs.Awaited.{first_unmet}
use Rattle.awaited.proofs.first_unmet.Goals as goal

pub returns-then-is_held_up : goal.returns-then-is_held_up
unfolding first_unmet
returns-then-is_held_up c = let a = c.args in
    let ss = slots_from a.slots.now 0 a.n in
    let held : holds ss a.reach.now (stage_at 28 a.b 0) ≡ true =
    ap (holds ss a.reach.now) (sym c.at-first.ensures) ∙ sym c.is_held_up.ensures ∙ c.if-is_held_up.true in
    rw held (ap (λ (d : Dependency). d.id) c.at-left.ensures)

pub returns-then-is_held_up-2 : goal.returns-then-is_held_up-2
unfolding first_unmet
returns-then-is_held_up-2 c = let a = c.args in
    let ss = slots_from a.slots.now 0 a.n in
    let free : holds ss a.reach.now (stage_at 28 a.b 0) ≡ false =
    ap (holds ss a.reach.now) (sym c.at-first.ensures) ∙ sym c.is_held_up.ensures ∙ c.if-is_held_up.false in
    let second : holds ss a.reach.now (stage_at 28 a.b 1) ≡ true =
    ap (holds ss a.reach.now) (sym c.at-second.ensures) ∙ sym c.is_held_up-2.ensures ∙ c.if-is_held_up-2.true in
    rw (free, second) (ap (λ (d : Dependency). d.id) c.at-right.ensures)

pub returns : goal.returns
unfolding first_unmet
returns c = let a = c.args in
    let ss = slots_from a.slots.now 0 a.n in
    let free : holds ss a.reach.now (stage_at 28 a.b 0) ≡ false =
    ap (holds ss a.reach.now) (sym c.at-first.ensures) ∙ sym c.is_held_up.ensures ∙ c.if-is_held_up.false in
    let second : holds ss a.reach.now (stage_at 28 a.b 1) ≡ false =
    ap (holds ss a.reach.now) (sym c.at-second.ensures) ∙ sym c.is_held_up-2.ensures ∙ c.if-is_held_up-2.false in
    rw (free, second) (ap (λ (d : Dependency). d.id) c.at-parent.ensures)
