-- `deletes::move_on` meets its contract: a range of this client while there is one, else the next client.
use native.Mathlib.Omega.{arith}
use Rattle.deletes.proofs.Steps.{no_more}
use Rattle.deletes.proofs.move_on.Goals as goal

pub returns-then-p-gt0 : goal.returns-then-p-gt0
returns-then-p-gt0 c = c.next_range.ensures

pub returns-then-p-gt0-2 : goal.returns-then-p-gt0-2
returns-then-p-gt0-2 c = c.next_client.ensures

pub returns : goal.returns
returns c = let a = c.args in no_more a.form a.update.now a.p (omega (arith, c.if-p-gt0.false)) (omega (arith, c.if-p-gt0-2.false))
