-- `lines::put_text` meets its contract: so far the first bytes of the text are put.
use Prim.Native.Nat.{◌+◌}
use mathlib.Core.Path.{sym, ap, ◌∙◌}
use mathlib.Core.List.{[], ◌∷◌}
use native.Mathlib.Numerals.{add-one}
use native.Mathlib.Omega.{arith}
use lib.ListN.{take, get_or}
use lib.Seq.{take-suc, length-take-le}
use Rattle.lines.specs.LinesInner.{overlay}
use Rattle.lines.proofs.Laws.{overlay-nil, overlay-on}
use Rattle.lines.proofs.put_text.Goals as goal

pub loop-b-init : goal.loop-b-init
loop-b-init c = let a = c.args in
    (omega arith, sym (overlay-nil a.out.now a.used))

pub loop-b-preserved : goal.loop-b-preserved
loop-b-preserved c = let a = c.args in
    let s = a.text.now in
    let i = c.loop-b.b-index in (
      omega (arith, c.put_byte-at.ensures.0),
      c.put_byte-at.ensures.1
          ∙ ap (λ o. overlay o c.loop-b.at (get_or s i 0 ∷ [])) c.loop-b.invariant.1
          ∙ overlay-on a.out.now a.used c.loop-b.at (take i s) (get_or s i 0 ∷ []) (c.loop-b.invariant.0 ∙ ap (λ n. a.used + n) (sym (length-take-le i s (omega arith))))
          ∙ ap (overlay a.out.now a.used) (sym (take-suc s i 0 (omega arith)) ∙ ap (λ n. take n s) (sym (add-one i))),
    )
