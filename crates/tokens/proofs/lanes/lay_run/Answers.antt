-- `lay_run` meets its contract: with plenty of room, without room, with room.
use Prim.Native.Nat.{◌+◌, ◌≤◌}
use native.Mathlib.Omega.{arith}
use mathlib.Core.Path.{◌≡◌, refl, sym, ◌∙◌}
use mathlib.Core.Bool.{true}
use borrow.Author.Tests.{leb-true, le-leb}
use lib.Dec.{leb}
use lib.ListN.{length}
use Rattle.runs.specs.Runs.{coding}
use Rattle.tokens.proofs.Sizes.{spell-le}
use Rattle.tokens.proofs.Places.{lay-short, lay-whole}
use Rattle.tokens.proofs.lanes.lay_run.Goals as goal
use Rattle.tokens.proofs.lanes.lay_run.Goals.{Then-fits, Else-not-fits}

-- there is plenty of room, or room
plenty : (c : Then-fits) → c.args.at + length ((coding c.args.column).spell c.args.key c.args.n) ≤ length c.args.out.now
plenty c = let a = c.args in
    omega (arith, leb-true (a.at + 21) (length a.out.now) (sym c.fits.ensures ∙ c.if-fits.true), spell-le a.column a.key a.n)

room : (c : Else-not-fits) → leb (c.args.at + c.run_size-size.result) (length c.args.out.now) ≡ true
room c = sym c.fits-2.ensures ∙ c.if-not-fits.false

pub put_run-requires : goal.put_run-requires
put_run-requires c = (plenty (goal.at.put_run-requires c).Then-fits, c.requires.1)

pub returns-then-fits : goal.returns-then-fits
returns-then-fits c = let a = c.args in
    let b = (coding a.column).spell a.key a.n in
    let p = c.put_run.ensures in
    (p.0, p.1 ∙ lay-whole a.out.now a.at b (length b) refl (le-leb (a.at + length b) (length a.out.now) (plenty (goal.at.returns-then-fits c).Then-fits)))

pub overflow_add-result : goal.overflow_add-result
overflow_add-result c = omega (arith, c.run_size-size.ensures.1, c.requires.0)

pub returns-then-not-fits : goal.returns-then-not-fits
returns-then-not-fits c = let a = c.args in
    let e = c.run_size-size.ensures.0 in
    (omega (arith, e), lay-short a.out.now a.at ((coding a.column).spell a.key a.n) c.run_size-size.result e (sym c.fits-2.ensures ∙ c.if-not-fits.true))

pub put_run-requires-2 : goal.put_run-requires-2
put_run-requires-2 c = let a = c.args in
    (omega (arith, c.run_size-size.ensures.0, leb-true (a.at + c.run_size-size.result) (length a.out.now) (room (goal.at.put_run-requires-2 c).Else-not-fits)), c.requires.1)

pub returns : goal.returns
returns c = let a = c.args in
    let p = c.put_run-2.ensures in
    (p.0, p.1 ∙ lay-whole a.out.now a.at ((coding a.column).spell a.key a.n) c.run_size-size.result c.run_size-size.ensures.0 (room (goal.at.returns c).Else-not-fits))
