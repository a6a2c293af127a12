-- `push` meets its contract, by the ways that a push goes.
use Prim.Native.Nat.{◌+◌, ◌*◌}
use native.Mathlib.Omega.{arith}
use mathlib.Core.Path.{◌≡◌, refl, sym, ◌∙◌}
use lib.ListN.{get_or}
use Rattle.runs.specs.Runs.{coding}
use Rattle.tokens.specs.Tokens.{column_in}
use Rattle.tokens.proofs.Words.{last-low, key-low}
use Rattle.tokens.proofs.Pushes.{Takes, way-shut, way-over, way-begun, way_same, way-ended, low, may-note, far-after}
use Rattle.tokens.proofs.lanes.push.Goals as goal
use Rattle.tokens.proofs.lanes.push.Goals.{After-note_far, Start}

step : (c : After-note_far) → c.key_of-step.result ≡ (coding (column_in c.args.k)).key_of
    (get_or c.args.lanes.now (5 * c.args.k + 1) 0) c.args.v
step c = rw c.requires.2 c.key_of-step.ensures

-- it is taken
taking : (c : After-note_far) → Takes c.args.lanes.now c.note_far.new.lanes c.args.k
    c.args.v c.args.v c.key_of-step.result
taking c =
    let start = c in
    let a = start.args in
    record {
      tidy = start.requires.0;
      lane = start.requires.1;
      fits = sym c.is_open.ensures ∙ c.if-not-is_open.false;
      most = rw start.requires.2 (omega (arith, c.most.ensures, c.if-most-v.false));
      far = far-after a.lanes.now a.k a.v a.column start.requires.2 c.note_far.new.lanes c.key_of-step.result
          (step c) c.note_far.ensures;
      newest = refl;
      step = step c;
    }

pub bounds-lanes-base : goal.bounds-lanes-base
bounds-lanes-base c = let start = c in
    omega (arith, start.requires.0.size, start.requires.1)

pub bounds-lanes-base-2 : goal.bounds-lanes-base-2
bounds-lanes-base-2 c = let start = c in
    omega (arith, start.requires.0.size, start.requires.1)

pub bounds-lanes-base-3 : goal.bounds-lanes-base-3
bounds-lanes-base-3 c = let start = c in
    omega (arith, start.requires.0.size, start.requires.1)

pub bounds-lanes-base-4 : goal.bounds-lanes-base-4
bounds-lanes-base-4 c = let start = c in
    omega (arith, start.requires.0.size, start.requires.1)

pub returns-then-not-is_open : goal.returns-then-not-is_open
returns-then-not-is_open c = let start = c in
    let a = start.args in
    way-shut a.out.now a.lanes.now a.k a.v start.requires.0 start.requires.1
    (sym c.is_open.ensures ∙ c.if-not-is_open.true)

pub returns-then-most-v : goal.returns-then-most-v
returns-then-most-v c = let start = c in
    let a = start.args in
    way-over a.out.now a.lanes.now a.k a.v start.requires.0 start.requires.1 (rw start.requires.2 (omega (arith, c.most.ensures, c.if-most-v.true)))

pub key_of-step-requires : goal.key_of-step-requires
key_of-step-requires c = let start = c in
    (rw start.requires.2 at (last-low start.args.lanes.now start.args.k start.requires.0 start.requires.1), omega (arith, c.most.ensures, c.if-most-v.false))

pub note_far-requires : goal.note_far-requires
note_far-requires c = let start = c in
    (start.requires.0, start.requires.1)

pub note-requires : goal.note-requires
note-requires c = may-note (taking (goal.at.note-requires c).After-note_far)

pub returns-then-count-eq0 : goal.returns-then-count-eq0
returns-then-count-eq0 c = way-begun (taking (goal.at.returns-then-count-eq0 c).After-note_far)
    c.args.out.now
    c.note.new.lanes c.if-count-eq0.true c.note.ensures

pub overflow_add-count-then-key-step : goal.overflow_add-count-then-key-step
overflow_add-count-then-key-step c = omega (arith, low (taking (goal.at.overflow_add-count-then-key-step c).After-note_far))

pub note-requires-then-key-step : goal.note-requires-then-key-step
note-requires-then-key-step c = may-note (taking (goal.at.note-requires-then-key-step c).After-note_far)

pub returns-then-key-step : goal.returns-then-key-step
returns-then-key-step c = way_same (taking (goal.at.returns-then-key-step c).After-note_far)
    c.args.out.now
    c.note-then-key-step.new.lanes c.if-key-step.true c.note-then-key-step.ensures

pub overflow_sub-count : goal.overflow_sub-count
overflow_sub-count c = omega (arith, c.if-count-eq0.false)

pub lay_run-next-requires : goal.lay_run-next-requires
lay_run-next-requires c = let start = c in
    ((low (taking (goal.at.lay_run-next-requires c).After-note_far)).0, rw start.requires.2 at (key-low start.args.lanes.now start.args.k start.requires.0 start.requires.1))

pub note-requires-2 : goal.note-requires-2
note-requires-2 c = may-note (taking (goal.at.note-requires-2 c).After-note_far)

pub returns : goal.returns
returns c = let start = c in
    way-ended (taking (goal.at.returns c).After-note_far) start.args.out.now
    c.lay_run-next.result c.note-2.new.lanes c.lay_run-next.new.out
    c.if-count-eq0.false
    c.if-key-step.false (rw start.requires.2 c.lay_run-next.ensures.0)
    (rw start.requires.2 c.lay_run-next.ensures.1) c.note-2.ensures
