-- `bits::window` meets its contract: the first eight bytes from `at` on.
use mathlib.Core.Path.{◌≡◌, ap, ◌∙◌}
use Rattle.std.specs.Int.{w64, from_be_bytes}
use Prim.Native.Nat.{◌+◌, ◌-◌}
use native.Mathlib.Omega.{arith}
use lib.ListN.{length, take, drop, length-drop}
use lib.Seq.{take_all, get_or-drop}
use Rattle.bits.proofs.Words.{from-eight}
use Rattle.bits.proofs.window.Goals as goal

pub returns : goal.returns
returns c = let s = c.args.s.now in let at = c.args.at in
    let first = c.in-Some.ensures.cases in
    let rest : take (length s - at) (drop at s) ≡ drop at s = take_all (length s - at) (drop at s) (omega (arith, length-drop at s)) in
    c.from_be_bytes.ensures
    ∙ ap (from_be_bytes w64) (first.same ∙ ap (take 8) rest)
    ∙ from-eight (drop at s) (omega (arith, first.enough, ap length rest)) (λ i. rw (get_or-drop at s i 0) (c.type_inv.s (at + i)).fits)
