-- `updates::none` meets its contract: a refusal's answer, spelled out.
use mathlib.Core.Path.{refl}
use Rattle.updates.specs.Promises.{answer}
use Rattle.updates.proofs.none.Goals as goal

pub returns : goal.returns
unfolding answer
returns c = refl
