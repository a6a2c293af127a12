-- `picker::offer` meets its contract: the front waits, or its block is taken.
use mathlib.Core.Path.{refl}
use Rattle.picker.specs.Picker.{pushed}
use Rattle.picker.proofs.Looks.{offer-waits, offer-takes}
use Rattle.picker.proofs.offer.Goals as goal

pub returns-then-g-ne0 : goal.returns-then-g-ne0
returns-then-g-ne0 c = let a = c.args in
    let e = offer-waits a.rule a.slots.now a.n a.p a.reach.now a.fronts.now a.order.now a.b c.front_at-f.result c.examine-g.result c.front_at-f.ensures
    c.examine-g.ensures c.if-g-ne0.true in
    rw e (rw (← c.put_front.ensures, ← c.saturating_sub-left.ensures) c.point.ensures, refl, c.put_front.ensures, refl)

pub returns : goal.returns
unfolding pushed
returns c = let a = c.args in
    let e = offer-takes a.rule a.slots.now a.n a.p a.reach.now a.fronts.now a.order.now a.b c.front_at-f.result c.examine-g.result c.front_at-f.ensures
    c.examine-g.ensures c.if-g-ne0.false in
    rw (e, ← c.move_on-m.ensures, ← c.put_front-2.ensures, ← c.raise.ensures) (
      rw (← c.one_more-steps.ensures, ← c.saturating_sub-left.ensures) c.point-2.ensures,
      refl,
      refl,
      c.put_word.ensures,
    )
