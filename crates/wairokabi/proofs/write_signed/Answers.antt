-- `write_signed` meets its contract: the limit, the room, then the shortest spelling and zeros.
use Prim.Native.Nat.{ℕ, ◌≤◌}
use native.Mathlib.Nat.{zero-add}
use native.Mathlib.Omega.{arith}
use mathlib.Core.Path.{◌≡◌, refl, ap, ◌∙◌}
use borrow.Author.Tests.{lt-ltb, le-ltb}
use lib.ListN.{length}
use lib.Seq.{length-sets}
use Rattle.numbers.specs.Number.{signed}
use Rattle.numbers.specs.Limits.{max_signed}
use Rattle.numbers.specs.OutputInner.{done}
use Rattle.numbers.proofs.Output.{verdict-why, verdict-room, verdict-done, refused-answer, refused-bytes, done-answer, done-bytes, take-sets}
use Rattle.wairokabi.specs.Promises.{why_over}
use Rattle.wairokabi.proofs.write_signed.Goals as goal

pub returns-then-magnitude-gt-MAX_SIGNED : goal.returns-then-magnitude-gt-MAX_SIGNED
unfolding why_over
returns-then-magnitude-gt-MAX_SIGNED c = let a = c.args in
    let n = length a.out.now in
    let b = signed a.minus a.magnitude in
    let ne : ◌≡◌ {A = ℕ} 3 0 → ⊥ = λ z. omega arith in
    let v = verdict-why 3 n b ne in
    let r = c.refuse.ensures in
    rw (lt-ltb max_signed a.magnitude c.if-magnitude-gt-MAX_SIGNED.true) (r.0 ∙ refused-answer 3 n b 3 v ne, r.1 ∙ refused-bytes 3 n b 3 v ne)

pub returns-then-out-size : goal.returns-then-out-size
unfolding why_over
returns-then-out-size c = let a = c.args in
    let n = length a.out.now in
    let b = signed a.minus a.magnitude in
    let ne : ◌≡◌ {A = ℕ} 10 0 → ⊥ = λ z. omega arith in
    let v = verdict-room 0 n b refl (omega (arith, c.size_signed-size.ensures.0 a.minus, c.if-out-size.true)) in
    let r = c.refuse-then-out-size.ensures in
    rw (le-ltb max_signed a.magnitude c.if-magnitude-gt-MAX_SIGNED.false) (r.0 ∙ refused-answer 0 n b 10 v ne, r.1 ∙ refused-bytes 0 n b 10 v ne)

pub write_signed-end-requires : goal.write_signed-end-requires
write_signed-end-requires c = let a = c.args in
    omega (arith, c.size_signed-size.ensures.0 a.minus, c.if-out-size.false)

pub finish-requires : goal.finish-requires
finish-requires c = let a = c.args in
    omega (arith, c.write_signed-end.ensures.0, c.write_signed-end.auto.out, c.size_signed-size.ensures.0 a.minus, c.if-out-size.false)

pub returns : goal.returns
unfolding why_over
returns c = let a = c.args in
    let e = a.out.now in
    let b = signed a.minus a.magnitude in
    let fits : length b ≤ length e = omega (arith, c.size_signed-size.ensures.0 a.minus, c.if-out-size.false) in
    let v = verdict-done 0 (length e) b refl fits in
    let end : c.write_signed-end.result ≡ length b = c.write_signed-end.ensures.0 ∙ zero-add (length b) in
    let front = take-sets e b 0 (omega arith) in
    rw (le-ltb max_signed a.magnitude c.if-magnitude-gt-MAX_SIGNED.false)
    (c.finish.ensures.0 ∙ ap done end ∙ done-answer 0 (length e) b v, c.finish.ensures.1 ∙ rw (c.write_signed-end.ensures.1, c.write_signed-end.ensures.0, length-sets, front) (done-bytes 0 (length e) b v))
