-- `note` meets its contract: four stores to a lane's own words.
use native.Mathlib.Omega.{arith}
use lib.ListN.{length-set}
use Rattle.tokens.proofs.Words.{notes}
use Rattle.tokens.proofs.lanes.note.Goals as goal

pub bounds-lanes-base : goal.bounds-lanes-base
bounds-lanes-base c = let start = c in
    omega (arith, start.requires.0.size, start.requires.1)

pub bounds-lanes-base-2 : goal.bounds-lanes-base-2
bounds-lanes-base-2 c = let start = c in
    simp length-set (omega (arith, start.requires.0.size, start.requires.1))

pub bounds-lanes-base-3 : goal.bounds-lanes-base-3
bounds-lanes-base-3 c = let start = c in
    simp length-set (omega (arith, start.requires.0.size, start.requires.1))

pub bounds-lanes-base-4 : goal.bounds-lanes-base-4
bounds-lanes-base-4 c = let start = c in
    simp length-set (omega (arith, start.requires.0.size, start.requires.1))

pub returns : goal.returns
returns c = let start = c in
    let a = start.args in
    notes a.k a.lanes.now start.requires.0 start.requires.1 a.at a.last a.key a.count start.requires.2 start.requires.3
