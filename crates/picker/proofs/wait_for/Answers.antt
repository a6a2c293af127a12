-- `picker::wait_for` meets its contract: a client with a slot, or without.
use mathlib.Core.Path.{refl}
use Rattle.picker.specs.Picker.{awaiting_at}
use Rattle.picker.proofs.wait_for.Goals as goal

pub returns-then-named : goal.returns-then-named
unfolding awaiting_at
returns-then-named c = rw (c.if-named.true, c.from.ensures) refl

pub returns-else-named : goal.returns-else-named
unfolding awaiting_at
returns-else-named c = rw c.if-named.false refl
