-- `listed::list` meets its contract: the text, with zeros after it, where it fits.
use Prim.Native.Nat.{ℕ, ◌≤◌}
use native.Mathlib.Omega.{arith}
use mathlib.Core.Path.{◌≡◌, refl, ap, ◌∙◌}
use lib.ListN.{length}
use Rattle.numbers.specs.OutputInner.{done}
use Rattle.numbers.proofs.Output.{verdict-room, verdict-done, refused-answer, refused-bytes, done-answer, done-bytes}
use Rattle.lines.proofs.Laws.{length-overlay}
use Rattle.listed.specs.Listed.{listed}
use Rattle.listed.proofs.Laws.{front}
use Rattle.listed.proofs.list.Goals as goal

pub returns-then-out-used : goal.returns-then-out-used
returns-then-out-used c = let a = c.args in
    let n = length a.out.now in
    let b = listed a.input.now in
    let ne : ◌≡◌ {A = ℕ} 10 0 → ⊥ = λ z. omega arith in
    let v = verdict-room 0 n b refl (omega (arith, c.put_listed-used.ensures.0, c.put_listed-used.auto.out, c.if-out-used.true)) in
    let r = c.refuse.ensures in
    (r.0 ∙ refused-answer 0 n b 10 v ne, r.1 ∙ rw (c.put_listed-used.ensures.1, length-overlay a.out.now 0 b) (refused-bytes 0 n b 10 v ne))

pub returns : goal.returns
returns c = let a = c.args in
    let e = a.out.now in
    let b = listed a.input.now in
    let fits : length b ≤ length e = omega (arith, c.put_listed-used.ensures.0, c.put_listed-used.auto.out, c.if-out-used.false) in
    let v = verdict-done 0 (length e) b refl fits in
    let g = c.finish.ensures in
    (g.0 ∙ ap done c.put_listed-used.ensures.0 ∙ done-answer 0 (length e) b v, g.1 ∙ rw (c.put_listed-used.ensures.1, c.put_listed-used.ensures.0, length-overlay e 0 b, front e b fits) (done-bytes 0 (length e) b v))
