-- `number` meets its contract: at the brim, with plenty of room, without room, with room.
use Prim.Native.Nat.{◌+◌, ◌≤◌}
use native.Mathlib.Omega.{arith}
use mathlib.Core.Path.{◌≡◌, refl, sym, ◌∙◌}
use mathlib.Core.Bool.{true}
use borrow.Author.Tests.{leb-true, le-leb}
use lib.Dec.{leb}
use lib.ListN.{length}
use Rattle.numbers.specs.Number.{unsigned}
use Rattle.numbers.proofs.Laws.{unsigned-le}
use Rattle.tokens.proofs.Places.{place-brim, place-on, place_short, place-laid}
use Rattle.tokens.proofs.line.number.Goals as goal
use Rattle.tokens.proofs.line.number.Goals.{Else-not-fits, Start, Then-fits}

-- no number has more than ten bytes
plenty : (c : Then-fits) → c.args.at + length (unsigned c.args.v) ≤ length c.args.out.now
plenty c =
    let a = c.args in omega (arith, leb-true (a.at + 10) (length a.out.now) (sym c.fits.ensures ∙ c.if-fits.true), unsigned-le a.v)

-- there is room
room : (c : Else-not-fits) → leb (c.args.at + c.size_unsigned-n.result) (length c.args.out.now) ≡ true
room c = sym c.fits-2.ensures ∙ c.if-not-fits.false

pub returns-then-at-ge-BRIM : goal.returns-then-at-ge-BRIM
returns-then-at-ge-BRIM c = let a = c.args in place-brim a.out.now a.at (unsigned a.v) c.if-at-ge-BRIM.true

pub write_number-requires : goal.write_number-requires
write_number-requires c = plenty (goal.at.write_number-requires c).Then-fits

pub returns-then-fits : goal.returns-then-fits
returns-then-fits c = let a = c.args in
    let b = unsigned a.v in
    let w = c.write_number.ensures in (
      place-on a.out.now a.at b c.write_number.result c.if-at-ge-BRIM.false
          w.0,
      w.1 ∙ place-laid a.out.now a.at b (length b) c.if-at-ge-BRIM.false refl
          (le-leb (a.at + length b) (length a.out.now) (plenty (goal.at.returns-then-fits c).Then-fits)),
    )

pub returns-then-not-fits : goal.returns-then-not-fits
returns-then-not-fits c = let a = c.args in (
  place-on a.out.now a.at (unsigned a.v) (a.at + c.size_unsigned-n.result) c.if-at-ge-BRIM.false
      (omega (arith, c.size_unsigned-n.ensures.0)),
  place_short a.out.now a.at (unsigned a.v) c.size_unsigned-n.result c.size_unsigned-n.ensures.0 (sym c.fits-2.ensures ∙ c.if-not-fits.true),
)

pub write_unsigned-requires : goal.write_unsigned-requires
write_unsigned-requires c = let a = c.args in
    omega (arith, c.size_unsigned-n.ensures.0, leb-true (a.at + c.size_unsigned-n.result) (length a.out.now) (room (goal.at.write_unsigned-requires c).Else-not-fits))

pub returns : goal.returns
returns c = let a = c.args in
    let w = c.write_unsigned.ensures in
    let low = c.if-at-ge-BRIM.false in (
      place-on a.out.now a.at (unsigned a.v) c.write_unsigned.result low w.0,
      w.1 ∙ place-laid a.out.now a.at (unsigned a.v) c.size_unsigned-n.result low c.size_unsigned-n.ensures.0 (room (goal.at.returns c).Else-not-fits),
    )
