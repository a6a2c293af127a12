-- `put_run` meets its contract, column by column.
use native.Mathlib.Omega.{arith}
use Rattle.runs.specs.Runs.{coding}
use Rattle.runs.specs.RunsInner.{key_most}
use Rattle.runs.proofs.put_run.Goals as goal

pub put_run-requires : goal.put_run-requires
unfolding coding
put_run-requires c = rw c.in-Number.is at c.requires.0

pub put_run-requires-in-Difference : goal.put_run-requires-in-Difference
unfolding coding key_most
put_run-requires-in-Difference c = let p = rw c.in-Difference.is at c.requires in (p.0, omega arith)

pub put_run-requires-in-Byte : goal.put_run-requires-in-Byte
unfolding coding key_most
put_run-requires-in-Byte c = let p = rw c.in-Byte.is at c.requires in (p.0, omega arith)

pub returns-in-Number : goal.returns-in-Number
unfolding coding
returns-in-Number c = rw c.in-Number.is c.put_run.ensures

pub returns-in-Difference : goal.returns-in-Difference
unfolding coding
returns-in-Difference c = rw c.in-Difference.is c.put_run-in-Difference.ensures

pub returns-in-Byte : goal.returns-in-Byte
unfolding coding
returns-in-Byte c = rw c.in-Byte.is c.put_run-in-Byte.ensures
