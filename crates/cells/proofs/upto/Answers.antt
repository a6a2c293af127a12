-- `cells::upto` meets its contract: what ends past the bytes is all of them.
use lib.Seq.{take_all, length-take-le}
use mathlib.Core.Path.{sym}
use native.Mathlib.Omega.{arith}
use Rattle.cells.proofs.upto.Goals as goal

pub returns-then-update-to : goal.returns-then-update-to
returns-then-update-to c = sym (take_all c.args.to c.args.update.now c.if-update-to.true)

pub slice_bounds-result-end : goal.slice_bounds-result-end
slice_bounds-result-end c = sym (length-take-le _ _ (omega arith))
