-- `byte` meets its contract: at the brim, with room, without room.
use Prim.Native.Nat.{◌+◌}
use native.Mathlib.Omega.{arith}
use mathlib.Core.Path.{refl}
use mathlib.Core.List.{[], ◌∷◌}
use borrow.Author.Tests.{le-leb, lt-leb}
use lib.ListN.{length}
use Rattle.tokens.proofs.Places.{place-brim, place-on, place_short, place-laid}
use Rattle.tokens.proofs.line.byte.Goals as goal

pub returns-then-at-ge-BRIM : goal.returns-then-at-ge-BRIM
returns-then-at-ge-BRIM c = let a = c.args in place-brim a.out.now a.at (a.v ∷ []) c.if-at-ge-BRIM.true

pub returns-then-at-out : goal.returns-then-at-out
returns-then-at-out c = let a = c.args in
    let o = a.out.now in (
      place-on o a.at (a.v ∷ []) (a.at + 1) c.if-at-ge-BRIM.false refl,
      place-laid o a.at (a.v ∷ []) 1 c.if-at-ge-BRIM.false refl (le-leb (a.at + 1) (length o) (omega (arith, c.if-at-out.true))),
    )

pub returns : goal.returns
returns c = let a = c.args in
    let o = a.out.now in (
      place-on o a.at (a.v ∷ []) (a.at + 1) c.if-at-ge-BRIM.false refl,
      place_short o a.at (a.v ∷ []) 1 refl (lt-leb (a.at + 1) (length o) (omega (arith, c.if-at-out.false))),
    )
