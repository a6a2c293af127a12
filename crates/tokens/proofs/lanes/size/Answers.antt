-- `size` meets its contract, by the ways that a push goes.
use Prim.Native.Nat.{ℕ, ◌+◌, ◌*◌}
use native.Mathlib.Omega.{arith}
use mathlib.Core.Path.{◌≡◌, refl, sym, ap, ◌∙◌}
use mathlib.Core.List.{[]}
use lib.ListN.{get_or}
use Rattle.runs.specs.Runs.{coding}
use Rattle.tokens.specs.Tokens.{column_in}
use Rattle.tokens.proofs.Words.{last-low, key-low}
use Rattle.tokens.proofs.Pushes.{Takes, way-shut, way-over, way-begun, way_same, lane-ended, low, may-note, far-after}
use Rattle.tokens.proofs.lanes.size.Goals as goal
use Rattle.tokens.proofs.lanes.size.Goals.{After-note_far, Start}

step : (c : After-note_far) → c.key_of-step.result ≡ (coding (column_in c.args.k)).key_of
    (get_or c.args.lanes.now (5 * c.args.k + 1) 0) c.args.v
step c = rw c.requires.2 c.key_of-step.ensures

-- it is taken
taking : (c : After-note_far) → Takes c.args.lanes.now c.note_far.new.lanes c.args.k
    c.args.v c.args.v c.key_of-step.result
taking c =
    let start = c in
    let a = start.args in
    record {
      tidy = start.requires.0;
      lane = start.requires.1;
      fits = sym c.is_open.ensures ∙ c.if-not-is_open.false;
      most = rw start.requires.2 (omega (arith, c.most.ensures, c.if-most-v.false));
      far = far-after a.lanes.now a.k a.v a.column start.requires.2 c.note_far.new.lanes c.key_of-step.result
          (step c) c.note_far.ensures;
      newest = refl;
      step = step c;
    }

pub returns-then-not-is_open : goal.returns-then-not-is_open
returns-then-not-is_open c = let start = c in
    let a = start.args in
    (way-shut [] a.lanes.now a.k a.v start.requires.0 start.requires.1
    (sym c.is_open.ensures ∙ c.if-not-is_open.true)).0

pub returns-then-most-v : goal.returns-then-most-v
returns-then-most-v c = let start = c in
    let a = start.args in
    (way-over [] a.lanes.now a.k a.v start.requires.0 start.requires.1 (rw start.requires.2 (omega (arith, c.most.ensures, c.if-most-v.true)))).0

pub key_of-step-requires : goal.key_of-step-requires
key_of-step-requires c = let start = c in
    (rw start.requires.2 at (last-low start.args.lanes.now start.args.k start.requires.0 start.requires.1), omega (arith, c.most.ensures, c.if-most-v.false))

pub note-requires : goal.note-requires
note-requires c = may-note (taking (goal.at.note-requires c).After-note_far)

pub returns-then-count-eq0 : goal.returns-then-count-eq0
returns-then-count-eq0 c = (way-begun (taking (goal.at.returns-then-count-eq0 c).After-note_far) [] c.note.new.lanes
    c.if-count-eq0.true c.note.ensures).0

pub overflow_add-count-then-key-step : goal.overflow_add-count-then-key-step
overflow_add-count-then-key-step c = omega (arith, low (taking (goal.at.overflow_add-count-then-key-step c).After-note_far))

pub note-requires-then-key-step : goal.note-requires-then-key-step
note-requires-then-key-step c = may-note (taking (goal.at.note-requires-then-key-step c).After-note_far)

pub returns-then-key-step : goal.returns-then-key-step
returns-then-key-step c = (way_same (taking (goal.at.returns-then-key-step c).After-note_far) [] c.note-then-key-step.new.lanes
    c.if-key-step.true c.note-then-key-step.ensures).0

pub run_size-requires : goal.run_size-requires
run_size-requires c = let start = c in
    rw start.requires.2 at (key-low start.args.lanes.now start.args.k start.requires.0 start.requires.1)

pub overflow_add-end : goal.overflow_add-end
overflow_add-end c = omega (arith, low (taking (goal.at.overflow_add-end c).After-note_far), c.run_size.ensures.1)

pub note-requires-2 : goal.note-requires-2
note-requires-2 c = may-note (taking (goal.at.note-requires-2 c).After-note_far)

pub returns : goal.returns
returns c = let start = c in
    let a = start.args in
    let at = get_or a.lanes.now (5 * a.k) 0 in
    lane-ended (taking (goal.at.returns c).After-note_far) []
    (at + c.run_size.result) c.note-2.new.lanes c.if-count-eq0.false c.if-key-step.false
    (rw start.requires.2 (ap (λ (n : ℕ). at + n) c.run_size.ensures.0)) c.note-2.ensures
