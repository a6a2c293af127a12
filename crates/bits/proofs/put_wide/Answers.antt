-- `bits::put_wide` meets its contract: each word that is stored is the number of 64 bits.
use Prim.Native.Nat.{ℕ, ◌+◌, ◌-◌, ◌*◌, ◌/◌, ◌%◌, ◌^◌}
use mathlib.Core.Path.{ap, ◌∙◌}
use native.Mathlib.Nat.{mod-eq_of_lt}
use borrow.Author.Rules.{rules}
use Rattle.bits.proofs.Passing.{puts-wide}
use Rattle.bits.proofs.put_wide.Goals as goal

pub returns : goal.returns
returns c = let a = c.before.args in
    let f = c.before.ranges in
    let ex = c.behind-first.ensures ∙ ap (λ (j : ℕ). j * 2 ^ (64 - a.o % 8) + a.a / 2 ^ (a.o % 8)) (mod-eq_of_lt c.begun-high.ensures.1 ∙ c.begun-high.ensures.0) in
    rw (c.store.ensures, c.store_word-2.ensures, c.store_word.ensures)
    (puts-wide a.out.now a.o a.a a.b a.c f.a.fits f.b.fits (search rules) c.behind-first.result c.behind-second.result c.behind-third.result ex c.behind-second.ensures c.behind-third.ensures)
