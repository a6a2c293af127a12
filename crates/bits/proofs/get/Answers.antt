-- `bits::get` meets its contract: k bits from the bits of a window.
use Prim.Native.Nat.{ℕ, ◌%◌, ◌/◌, ◌*◌, ◌-◌, ◌^◌}
use mathlib.Core.Path.{ap, ◌∙◌}
use lib.ListN.{drop}
use borrow.Author.Rules.{rules}
use Rattle.bits.specs.Bits.{value_of, of_bytes}
use Rattle.bits.proofs.Places.{taken, taken-from}
use Rattle.bits.proofs.get.Goals as goal

pub returns : goal.returns
returns c = let a = c.args in
    let o = a.o in
    let k = a.k in
    ap (λ (w : ℕ). w * 2 ^ (o % 8) % 2 ^ 64 / 2 ^ (64 - k)) c.window-w.ensures
    ∙ taken (of_bytes (drop (o / 8) a.s.now)) (o % 8) k (search rules) ∙ ap (value_of k) (taken-from a.s.now o)
