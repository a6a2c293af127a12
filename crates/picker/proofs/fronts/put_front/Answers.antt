-- `picker::put_front` meets its contract: six words, if the front is there.
use mathlib.Core.Path.{refl, sym}
use Prim.Native.Nat.{◌/◌}
use native.Mathlib.Omega.{arith}
use lib.ListN.{length}
use borrow.Author.Tests.{lt-ltb}
use Rattle.picker.specs.Fronts.{put_front}
use Rattle.picker.proofs.FrontLaws.{put-nowhere}
use Rattle.picker.proofs.fronts.put_front.Goals as goal

pub returns-then-fronts-i : goal.returns-then-fronts-i
returns-then-fronts-i c = let a = c.args in
    sym (put-nowhere a.fronts.now a.i c.if-fronts-i.true a.f)

pub returns : goal.returns
unfolding put_front
returns c = let a = c.args in
    rw (lt-ltb a.i (length a.fronts.now / 6) (omega arith)) refl
