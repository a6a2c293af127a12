-- `part` meets its contract: at the brim, without room, with room.
use Prim.Native.Nat.{◌+◌}
use native.Mathlib.Omega.{arith}
use mathlib.Core.Path.{◌≡◌, sym, ap, ◌∙◌}
use mathlib.Core.Bool.{true}
use borrow.Author.Tests.{leb-true}
use lib.Dec.{leb}
use lib.ListN.{length}
use lib.Seq.{sets}
use Rattle.readings.specs.Sound.{bytes_in}
use Rattle.tokens.proofs.Places.{place-brim, place-on, place_short, place-laid}
use Rattle.tokens.proofs.line.part.Goals as goal

pub returns-then-at-ge-BRIM : goal.returns-then-at-ge-BRIM
returns-then-at-ge-BRIM c = let a = c.args in place-brim a.out.now a.at (bytes_in a.update.now a.p) c.if-at-ge-BRIM.true

pub returns-then-not-fits : goal.returns-then-not-fits
returns-then-not-fits c = let a = c.args in
    let b = bytes_in a.update.now a.p in
    let n = length c.bytes-bytes.result.now in
    let size = ap length c.bytes-bytes.ensures in (
      place-on a.out.now a.at b (a.at + n) c.if-at-ge-BRIM.false (omega (arith, size)),
      place_short a.out.now a.at b n size (sym c.fits.ensures ∙ c.if-not-fits.true),
    )

pub copy-requires : goal.copy-requires
copy-requires c = let a = c.args in
    let n = length c.bytes-bytes.result.now in
    let room : leb (a.at + n) (length a.out.now) ≡ true = sym c.fits.ensures ∙ c.if-not-fits.false in leb-true (a.at + n) (length a.out.now) room

pub returns : goal.returns
returns c = let a = c.args in
    let o = a.out.now in
    let b = bytes_in a.update.now a.p in
    let n = length c.bytes-bytes.result.now in
    let size = ap length c.bytes-bytes.ensures in
    let low = c.if-at-ge-BRIM.false in
    let room : leb (a.at + n) (length o) ≡ true = sym c.fits.ensures ∙ c.if-not-fits.false in (
      place-on o a.at b (a.at + n) low (omega (arith, size)),
      c.copy.ensures ∙ ap (sets o a.at) c.bytes-bytes.ensures ∙ place-laid o a.at b n low size room,
    )
