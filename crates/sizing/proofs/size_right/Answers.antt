-- `size_right` meets its contract: two tokens, or none.
use borrow.Author.Tests.{not-true, not-false}
use mathlib.Core.Path.{refl}
use mathlib.Core.List.{[]}
use native.Mathlib.Omega.{arith}
use Rattle.tokens.specs.Tokens.{clients, rights, in_line, column_in}
use Rattle.tokens.proofs.Sized.{gauged-none, gauged-then, gauged-is, gauged-field}
use Rattle.records.proofs.Writes.{right-none, right-some}
use Rattle.sizing.proofs.size_right.Goals as goal

pub returns-then-not-b : goal.returns-then-not-b
returns-then-not-b c = let p3 = c in
    let b = p3.args.b in
    gauged-is (right-none [] b (not-true b.has_right c.if-not-b.true)) (gauged-none p3.requires)

pub size_number-requires : goal.size_number-requires
unfolding column_in
size_number-requires c = (c.requires, omega arith, refl)

pub size_difference-requires : goal.size_difference-requires
unfolding column_in
size_difference-requires c = (c.size_number.ensures.tidy, omega arith, refl)

pub returns : goal.returns
unfolding in_line
returns c = let p2 = c in
    let p7 = c in
    let p9 = c in
    let b = p9.args.b in
    gauged-is (right-some [] b (not-false b.has_right p9.if-not-b.false))
    (gauged-then (gauged-field clients b.right_client (omega arith) refl p7.size_number.ensures)
    (gauged-field rights b.right_clock (omega arith) refl p2.size_difference.ensures))
