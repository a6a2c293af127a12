-- `close` meets its contract: lane after lane.
use native.Mathlib.Omega.{arith}
use mathlib.Core.Path.{refl}
use Rattle.tokens.specs.Tokens.{in_line, column_in}
use Rattle.tokens.proofs.Ends.{ended-none, ended-on, ended-line, ended-all}
use Rattle.tokens.proofs.lanes.close.Goals as goal

pub close_lane-requires : goal.close_lane-requires
unfolding in_line column_in
close_lane-requires c = (c.requires, omega arith, refl, refl)

pub close_lane-requires-2 : goal.close_lane-requires-2
unfolding in_line column_in
close_lane-requires-2 c =
    let e1 = ended-on (ended-none c.args.out.now c.args.lanes.now c.requires) (omega arith) c.close_lane.new.out c.close_lane.new.lanes c.close_lane.ensures in
    (e1.tidy, omega arith, refl, refl)

pub close_lane-requires-3 : goal.close_lane-requires-3
unfolding in_line column_in
close_lane-requires-3 c =
    let e1 = ended-on (ended-none c.args.out.now c.args.lanes.now c.requires) (omega arith) c.close_lane.new.out c.close_lane.new.lanes c.close_lane.ensures in
    let e2 = ended-on e1 (omega arith) c.close_lane-2.new.out c.close_lane-2.new.lanes c.close_lane-2.ensures in
    (e2.tidy, omega arith, refl, refl)

pub close_lane-requires-4 : goal.close_lane-requires-4
unfolding in_line column_in
close_lane-requires-4 c =
    let e1 = ended-on (ended-none c.args.out.now c.args.lanes.now c.requires) (omega arith) c.close_lane.new.out c.close_lane.new.lanes c.close_lane.ensures in
    let e2 = ended-on e1 (omega arith) c.close_lane-2.new.out c.close_lane-2.new.lanes c.close_lane-2.ensures in
    let e3 = ended-on e2 (omega arith) c.close_lane-3.new.out c.close_lane-3.new.lanes c.close_lane-3.ensures in
    (e3.tidy, omega arith, refl, refl)

pub close_lane-requires-5 : goal.close_lane-requires-5
unfolding in_line column_in
close_lane-requires-5 c =
    let e1 = ended-on (ended-none c.args.out.now c.args.lanes.now c.requires) (omega arith) c.close_lane.new.out c.close_lane.new.lanes c.close_lane.ensures in
    let e2 = ended-on e1 (omega arith) c.close_lane-2.new.out c.close_lane-2.new.lanes c.close_lane-2.ensures in
    let e3 = ended-on e2 (omega arith) c.close_lane-3.new.out c.close_lane-3.new.lanes c.close_lane-3.ensures in
    let e4 = ended-on e3 (omega arith) c.close_lane-4.new.out c.close_lane-4.new.lanes c.close_lane-4.ensures in
    (e4.tidy, omega arith, refl, refl)

pub close_lane-requires-6 : goal.close_lane-requires-6
unfolding in_line column_in
close_lane-requires-6 c =
    let e1 = ended-on (ended-none c.args.out.now c.args.lanes.now c.requires) (omega arith) c.close_lane.new.out c.close_lane.new.lanes c.close_lane.ensures in
    let e2 = ended-on e1 (omega arith) c.close_lane-2.new.out c.close_lane-2.new.lanes c.close_lane-2.ensures in
    let e3 = ended-on e2 (omega arith) c.close_lane-3.new.out c.close_lane-3.new.lanes c.close_lane-3.ensures in
    let e4 = ended-on e3 (omega arith) c.close_lane-4.new.out c.close_lane-4.new.lanes c.close_lane-4.ensures in
    let e5 = ended-on e4 (omega arith) c.close_lane-5.new.out c.close_lane-5.new.lanes c.close_lane-5.ensures in
    let e6 = ended-line e5 (omega arith) refl in
    (e6.tidy, omega arith, refl, refl)

pub close_lane-requires-7 : goal.close_lane-requires-7
unfolding in_line column_in
close_lane-requires-7 c =
    let e1 = ended-on (ended-none c.args.out.now c.args.lanes.now c.requires) (omega arith) c.close_lane.new.out c.close_lane.new.lanes c.close_lane.ensures in
    let e2 = ended-on e1 (omega arith) c.close_lane-2.new.out c.close_lane-2.new.lanes c.close_lane-2.ensures in
    let e3 = ended-on e2 (omega arith) c.close_lane-3.new.out c.close_lane-3.new.lanes c.close_lane-3.ensures in
    let e4 = ended-on e3 (omega arith) c.close_lane-4.new.out c.close_lane-4.new.lanes c.close_lane-4.ensures in
    let e5 = ended-on e4 (omega arith) c.close_lane-5.new.out c.close_lane-5.new.lanes c.close_lane-5.ensures in
    let e6 = ended-line e5 (omega arith) refl in
    let e7 = ended-on e6 (omega arith) c.close_lane-6.new.out c.close_lane-6.new.lanes c.close_lane-6.ensures in
    (e7.tidy, omega arith, refl, refl)

pub close_lane-requires-8 : goal.close_lane-requires-8
unfolding in_line column_in
close_lane-requires-8 c =
    let e1 = ended-on (ended-none c.args.out.now c.args.lanes.now c.requires) (omega arith) c.close_lane.new.out c.close_lane.new.lanes c.close_lane.ensures in
    let e2 = ended-on e1 (omega arith) c.close_lane-2.new.out c.close_lane-2.new.lanes c.close_lane-2.ensures in
    let e3 = ended-on e2 (omega arith) c.close_lane-3.new.out c.close_lane-3.new.lanes c.close_lane-3.ensures in
    let e4 = ended-on e3 (omega arith) c.close_lane-4.new.out c.close_lane-4.new.lanes c.close_lane-4.ensures in
    let e5 = ended-on e4 (omega arith) c.close_lane-5.new.out c.close_lane-5.new.lanes c.close_lane-5.ensures in
    let e6 = ended-line e5 (omega arith) refl in
    let e7 = ended-on e6 (omega arith) c.close_lane-6.new.out c.close_lane-6.new.lanes c.close_lane-6.ensures in
    let e8 = ended-on e7 (omega arith) c.close_lane-7.new.out c.close_lane-7.new.lanes c.close_lane-7.ensures in
    (e8.tidy, omega arith, refl, refl)

pub close_lane-requires-9 : goal.close_lane-requires-9
unfolding in_line column_in
close_lane-requires-9 c =
    let e1 = ended-on (ended-none c.args.out.now c.args.lanes.now c.requires) (omega arith) c.close_lane.new.out c.close_lane.new.lanes c.close_lane.ensures in
    let e2 = ended-on e1 (omega arith) c.close_lane-2.new.out c.close_lane-2.new.lanes c.close_lane-2.ensures in
    let e3 = ended-on e2 (omega arith) c.close_lane-3.new.out c.close_lane-3.new.lanes c.close_lane-3.ensures in
    let e4 = ended-on e3 (omega arith) c.close_lane-4.new.out c.close_lane-4.new.lanes c.close_lane-4.ensures in
    let e5 = ended-on e4 (omega arith) c.close_lane-5.new.out c.close_lane-5.new.lanes c.close_lane-5.ensures in
    let e6 = ended-line e5 (omega arith) refl in
    let e7 = ended-on e6 (omega arith) c.close_lane-6.new.out c.close_lane-6.new.lanes c.close_lane-6.ensures in
    let e8 = ended-on e7 (omega arith) c.close_lane-7.new.out c.close_lane-7.new.lanes c.close_lane-7.ensures in
    let e9 = ended-on e8 (omega arith) c.close_lane-8.new.out c.close_lane-8.new.lanes c.close_lane-8.ensures in
    (e9.tidy, omega arith, refl, refl)

pub returns : goal.returns
unfolding in_line
returns c =
    let e1 = ended-on (ended-none c.args.out.now c.args.lanes.now c.requires) (omega arith) c.close_lane.new.out c.close_lane.new.lanes c.close_lane.ensures in
    let e2 = ended-on e1 (omega arith) c.close_lane-2.new.out c.close_lane-2.new.lanes c.close_lane-2.ensures in
    let e3 = ended-on e2 (omega arith) c.close_lane-3.new.out c.close_lane-3.new.lanes c.close_lane-3.ensures in
    let e4 = ended-on e3 (omega arith) c.close_lane-4.new.out c.close_lane-4.new.lanes c.close_lane-4.ensures in
    let e5 = ended-on e4 (omega arith) c.close_lane-5.new.out c.close_lane-5.new.lanes c.close_lane-5.ensures in
    let e6 = ended-line e5 (omega arith) refl in
    let e7 = ended-on e6 (omega arith) c.close_lane-6.new.out c.close_lane-6.new.lanes c.close_lane-6.ensures in
    let e8 = ended-on e7 (omega arith) c.close_lane-7.new.out c.close_lane-7.new.lanes c.close_lane-7.ensures in
    let e9 = ended-on e8 (omega arith) c.close_lane-8.new.out c.close_lane-8.new.lanes c.close_lane-8.ensures in
    let e10 = ended-on e9 (omega arith) c.close_lane-9.new.out c.close_lane-9.new.lanes c.close_lane-9.ensures in
    ended-all c.args.out.now c.args.lanes.now c.close_lane-9.new.out c.close_lane-9.new.lanes e10
