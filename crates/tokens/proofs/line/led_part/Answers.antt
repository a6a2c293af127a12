-- `led_part` meets its contract: at the brim, without room, with room.
use Prim.Native.Nat.{ℕ, ◌+◌, ◌≤◌}
use native.Mathlib.Omega.{arith}
use mathlib.Core.Path.{◌≡◌, sym, ap, ◌∙◌}
use mathlib.Core.Bool.{true}
use borrow.Author.Tests.{leb-true}
use lib.Dec.{leb}
use lib.ListN.{length}
use Rattle.numbers.specs.Number.{unsigned}
use Rattle.readings.specs.Sound.{bytes_in}
use Rattle.tokens.specs.Tokens.{led}
use Rattle.tokens.proofs.Places.{place-brim, place-on, place_short, place-laid}
use Rattle.tokens.proofs.Parts.{led-length, led-sets}
use Rattle.tokens.proofs.line.led_part.Goals as goal
use Rattle.tokens.proofs.line.led_part.Goals.{After-size_unsigned, Else-not-fits, Start}

-- head and bytes
size : (c : After-size_unsigned) → c.size_unsigned.result + length c.bytes-bytes.result.now ≡ length (led (bytes_in c.args.update.now c.args.p))
size c =
    let b = bytes_in c.args.update.now c.args.p in
    let n = ap length c.bytes-bytes.ensures in
    omega (arith, c.size_unsigned.ensures.0, ap (λ (k : ℕ). length (unsigned k)) n, n, led-length b)

-- there is room
room : (c : Else-not-fits) → leb (c.args.at + (c.size_unsigned.result + length c.bytes-bytes.result.now)) (length c.args.out.now) ≡ true
room c = sym c.fits.ensures ∙ c.if-not-fits.false

fit : (c : Else-not-fits) → c.args.at + (c.size_unsigned.result + length c.bytes-bytes.result.now) ≤ length c.args.out.now
fit c = leb-true (c.args.at + (c.size_unsigned.result + length c.bytes-bytes.result.now)) (length c.args.out.now) (room c)

pub returns-then-at-ge-BRIM : goal.returns-then-at-ge-BRIM
returns-then-at-ge-BRIM c = let a = c.args in place-brim a.out.now a.at (led (bytes_in a.update.now a.p)) c.if-at-ge-BRIM.true

pub returns-then-not-fits : goal.returns-then-not-fits
returns-then-not-fits c = let a = c.args in
    let b = led (bytes_in a.update.now a.p) in
    let s = c.size_unsigned.result + length c.bytes-bytes.result.now in
    let same = size (goal.at.returns-then-not-fits c).After-size_unsigned in (
      place-on a.out.now a.at b (a.at + s) c.if-at-ge-BRIM.false (ap (λ (k : ℕ). a.at + k) same),
      place_short a.out.now a.at b s same (sym c.fits.ensures ∙ c.if-not-fits.true),
    )

pub copy-requires : goal.copy-requires
copy-requires c = omega (arith, c.write_unsigned-mid.ensures.0, c.write_unsigned-mid.auto.out, c.size_unsigned.ensures.0, fit (goal.at.copy-requires c).Else-not-fits)

pub returns : goal.returns
returns c = let a = c.args in
    let o = a.out.now in
    let b = bytes_in a.update.now a.p in
    let bytes = c.bytes-bytes.ensures in
    let w = c.write_unsigned-mid.ensures in
    let s = c.size_unsigned.result + length c.bytes-bytes.result.now in
    let same = size (goal.at.returns c).After-size_unsigned in
    let low = c.if-at-ge-BRIM.false in (
      place-on o a.at (led b) (a.at + s) low (ap (λ (k : ℕ). a.at + k) same),
      c.copy.ensures
          ∙ rw (w.1, w.0, bytes) (sym (led-sets o a.at b) ∙ place-laid o a.at (led b) s low same (room (goal.at.returns c).Else-not-fits)),
    )
