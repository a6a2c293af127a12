-- `lines::put_decimal` meets its contract: one digit, or the digits of a tenth and one more. The measure is the number.
use Prim.Native.Nat.{◌+◌, ◌/◌, ◌%◌}
use mathlib.Core.Path.{ap, sym, ◌∙◌}
use mathlib.Core.List.{[], ◌∷◌}
use native.Mathlib.Omega.{arith}
use lib.ListN.{length, length-append}
use Rattle.lines.specs.Lines.{decimal}
use Rattle.lines.specs.LinesInner.{overlay}
use Rattle.lines.proofs.Laws.{overlay-on, decimal-last, decimal-more, decimal-short}
use Rattle.lines.proofs.+put_decimal.Goals as goal

pub returns-then-v-lt10 : goal.returns-then-v-lt10
returns-then-v-lt10 t c =
    let a = c.args in let e = decimal-last a.v c.if-v-lt10.true in let p = c.put_byte.ensures in
    (p.0 ∙ ap (λ l. a.used + length l) (sym e), p.1 ∙ ap (overlay a.out.now a.used) (sym e))

pub put_byte-requires-2 : goal.put_byte-requires-2
put_byte-requires-2 t c =
    let e = decimal-more c.args.v c.ranges.v.fits c.if-v-lt10.false in
    omega (arith, c.requires, c.put_decimal-at.ensures.0, decimal-short c.args.v, simp length-append at (ap length e))

pub returns : goal.returns
returns t c =
    let a = c.args in let e = decimal-more a.v c.ranges.v.fits c.if-v-lt10.false in let d = c.put_decimal-at in let p = c.put_byte-2 in (
      omega (arith, p.ensures.0, d.ensures.0, simp length-append at (ap length e)),
      p.ensures.1
          ∙ ap (λ o. overlay o d.result ((a.v % 10 + 48) ∷ [])) d.ensures.1
          ∙ overlay-on a.out.now a.used d.result (decimal (a.v / 10)) ((a.v % 10 + 48) ∷ []) d.ensures.0
          ∙ ap (overlay a.out.now a.used) (sym e),
    )
