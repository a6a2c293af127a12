-- `picker::is_met` meets its contract: a client without a slot, a slot without a reach, or a reach.
use mathlib.Core.Path.{refl, ◌∙◌}
use mathlib.Core.Logic.{inl, inr}
use native.Mathlib.Omega.{arith}
use lib.ListN.{length, get_or-eq_default}
use borrow.Author.Tests.{le-ltb}
use Rattle.picker.specs.Picker.{met_at}
use Rattle.picker.proofs.is_met.Goals as goal
use Rattle.picker.proofs.is_met.Goals.{then-named, else-named}

pub returns-then-p-reach : goal.returns-then-p-reach
unfolding met_at
returns-then-p-reach c = rw (c.if-p-reach.true.0, c.from.ensures) refl

pub returns-else-p-reach : goal.returns-else-p-reach
unfolding met_at
returns-else-p-reach c = let a = c.args in
    elim c.if-p-reach.either [
      | inl h ↦ elim c.if-named.branch [
        | then-named w ↦ w.t-6-is
            ∙ rw (le-ltb a.p (length a.reach.now) h.1, h.0, get_or-eq_default a.reach.now 0 {n = a.p} h.1, le-ltb a.id.clock 0 (omega arith)) refl
        | else-named w ↦ let e = w.if-named.false in cc
      ]
      | inr e ↦ elim c.if-named.branch [ then-named w ↦ let f = w.if-named.true in cc | else-named w ↦ w.t-6-is ∙ rw e refl ]
    ]
