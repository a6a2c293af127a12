-- `picker::set_ready` meets its contract.
use mathlib.Core.Path.{refl}
use Rattle.picker.specs.Picker.{ready}
use Rattle.picker.proofs.set_ready.Goals as goal

pub returns : goal.returns
unfolding ready
returns c = refl
