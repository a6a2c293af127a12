-- `once::put_head` meets its contract: the length and the bytes have room, or the place is the one past the end.
use Prim.Native.Nat.{◌+◌, ◌≤◌, ◌<◌}
use mathlib.Core.Path.{sym, ◌∙◌}
use native.Mathlib.Nat.{zero-add}
use native.Mathlib.Omega.{arith}
use lib.ListN.{length}
use Rattle.string.specs.String.{text_head}
use Rattle.once.proofs.Laws.{went-in, went-past, out-in, out-past}
use Rattle.once.proofs.Texts.{head-length}
use Rattle.once.proofs.put_head.Goals as goal

pub returns-then-out-size : goal.returns-then-out-size
returns-then-out-size c = let a = c.args in
    let h : length a.out.now < 0 + length (text_head a.text.now) = omega (arith, head-length a.text.now, c.size_unsigned-size.ensures.0, c.if-out-size.true) in
    (sym (went-past _ _ _ h), sym (out-past _ _ _ h))

pub returns-then-out-size-2 : goal.returns-then-out-size-2
returns-then-out-size-2 c = let a = c.args in
    let h : length a.out.now < 0 + length (text_head a.text.now) = omega (arith, head-length a.text.now, c.size_unsigned-size.ensures.0, c.if-out-size.false, c.if-out-size-2.true) in
    (sym (went-past _ _ _ h), sym (out-past _ _ _ h))

pub put_text-requires : goal.put_text-requires
put_text-requires c = let a = c.args in
    omega (arith, head-length a.text.now, c.size_unsigned-size.ensures.0, c.if-out-size.false, c.if-out-size-2.false)

pub returns : goal.returns
returns c = let a = c.args in
    let h : 0 + length (text_head a.text.now) ≤ length a.out.now = omega (arith, head-length a.text.now, c.size_unsigned-size.ensures.0, c.if-out-size.false, c.if-out-size-2.false) in
    let p = c.put_text.ensures in
    (p.0 ∙ sym (went-in _ _ _ h ∙ zero-add _), p.1 ∙ sym (out-in _ _ _ h))
