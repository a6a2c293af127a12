-- `last_size` meets its contract, column by column.
use native.Mathlib.Omega.{arith}
use mathlib.Core.Path.{refl}
use Rattle.runs.specs.Runs.{coding}
use Rattle.runs.specs.RunsInner.{key_most}
use Rattle.runs.proofs.last_size.Goals as goal

pub run_size-requires-in-Difference : goal.run_size-requires-in-Difference
unfolding coding key_most
run_size-requires-in-Difference c = let p = rw c.in-Difference.is at c.requires in omega arith

pub returns-in-Number : goal.returns-in-Number
unfolding coding
returns-in-Number c = rw c.in-Number.is c.run_size.ensures

pub returns-in-Difference : goal.returns-in-Difference
unfolding coding
returns-in-Difference c = rw c.in-Difference.is c.run_size-in-Difference.ensures

pub returns-in-Byte : goal.returns-in-Byte
unfolding coding
returns-in-Byte c = rw c.in-Byte.is (refl, omega arith)
