-- `size_left` meets its contract: two tokens, or none.
use borrow.Author.Tests.{not-true, not-false}
use mathlib.Core.Path.{refl}
use mathlib.Core.List.{[]}
use native.Mathlib.Omega.{arith}
use Rattle.tokens.specs.Tokens.{clients, lefts, in_line, column_in}
use Rattle.tokens.proofs.Sized.{gauged-none, gauged-then, gauged-is, gauged-field}
use Rattle.records.proofs.Writes.{left-none, left-some}
use Rattle.sizing.proofs.size_left.Goals as goal

pub returns-then-not-b : goal.returns-then-not-b
returns-then-not-b c = let p3 = c in
    let b = p3.args.b in
    gauged-is (left-none [] b (not-true b.has_left c.if-not-b.true)) (gauged-none p3.requires)

pub size_number-requires : goal.size_number-requires
unfolding column_in
size_number-requires c = (c.requires, omega arith, refl)

pub size_difference-requires : goal.size_difference-requires
unfolding column_in
size_difference-requires c = (c.size_number.ensures.tidy, omega arith, refl)

pub returns : goal.returns
unfolding in_line
returns c = let p2 = c in
    let p7 = c in
    let p9 = c in
    let b = p9.args.b in
    gauged-is (left-some [] b (not-false b.has_left p9.if-not-b.false))
    (gauged-then (gauged-field clients b.left_client (omega arith) refl p7.size_number.ensures)
    (gauged-field lefts b.left_clock (omega arith) refl p2.size_difference.ensures))
