-- `writer::close` meets its contract: the last run where there is room, and zeros.
use Prim.Native.Nat.{◌+◌, ◌≤◌}
use native.Mathlib.Omega.{arith}
use mathlib.Core.Path.{◌≡◌, refl, sym, ap, ◌∙◌}
use mathlib.Core.List.{◌++◌}
use lib.ListN.{length, take, length-append}
use lib.Seq.{length-take-le, length-sets}
use Rattle.runs.specs.Writer.{finished}
use Rattle.numbers.specs.Output.{verdict}
use Rattle.numbers.specs.OutputInner.{done}
use Rattle.numbers.proofs.Output.{verdict-room, verdict-done, refused-answer, refused-bytes, done-answer, done-bytes, take-sets}
use Rattle.runs.proofs.writer.close.Goals as goal

pub returns-then-room-size : goal.returns-then-room-size
returns-then-room-size c = let a = c.args in
    let e = a.out.now in
    let b = take a.w.at e ++ finished a.w in
    let n : length b ≡ a.w.at + length (finished a.w) = length-append (take a.w.at e) (finished a.w) ∙ rw (length-take-le a.w.at e c.requires.0) in
    let v : verdict 0 (length e) b ≡ 10 = verdict-room 0 (length e) b refl (omega (arith, n, c.size_end-size.ensures.0, c.if-room-size.true)) in
    let r = c.refuse.ensures in
    (r.0 ∙ refused-answer 0 (length e) b 10 v (λ z. omega arith), r.1 ∙ refused-bytes 0 (length e) b 10 v (λ z. omega arith))

pub finish-end-requires : goal.finish-end-requires
finish-end-requires c = (omega (arith, c.size_end-size.ensures.0, c.if-room-size.false), c.requires.1)

pub finish-requires : goal.finish-requires
finish-requires c = omega (arith, c.finish-end.ensures.0, c.finish-end.auto.out, c.size_end-size.ensures.0, c.if-room-size.false, c.requires.0)

pub returns : goal.returns
returns c = let a = c.args in
    let e = a.out.now in
    let b = take a.w.at e ++ finished a.w in
    let n : length b ≡ a.w.at + length (finished a.w) = length-append (take a.w.at e) (finished a.w) ∙ rw (length-take-le a.w.at e c.requires.0) in
    let fits : a.w.at + length (finished a.w) ≤ length e = omega (arith, c.size_end-size.ensures.0, c.if-room-size.false, c.requires.0) in
    let v : verdict 0 (length e) b ≡ 0 = verdict-done 0 (length e) b refl (omega (arith, n)) in
    let end : c.finish-end.result ≡ length b = c.finish-end.ensures.0 ∙ sym n in
    (c.finish.ensures.0 ∙ ap done end ∙ done-answer 0 (length e) b v, c.finish.ensures.1 ∙ rw (c.finish-end.ensures.1, c.finish-end.ensures.0, length-sets, take-sets e (finished a.w) a.w.at fits) (done-bytes 0 (length e) b v))
