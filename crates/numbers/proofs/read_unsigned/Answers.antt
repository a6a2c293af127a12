-- `numbers::read_unsigned` meets its contract: the first byte is all, or the first two are, or `rest` goes on from the first.
use Prim.Native.Nat.{◌+◌}
use native.Mathlib.Omega.{arith}
use lib.Dec.{lit<}
use Rattle.numbers.specs.Number.{read_unsigned, answer_at, low_part}
use Rattle.numbers.proofs.Laws.{at-end, at_last, at_more}
use Rattle.numbers.proofs.read_unsigned.Goals as goal

pub returns-then-s-at : goal.returns-then-s-at
unfolding read_unsigned answer_at
returns-then-s-at c = rw (at-end _ 9 _ (lit< tt) c.if-s-at.true)

pub overflow_cast-b : goal.overflow_cast-b
overflow_cast-b c = omega (arith, c.type_inv.s c.args.at)

pub returns-then-b-lt128 : goal.returns-then-b-lt128
unfolding read_unsigned answer_at
returns-then-b-lt128 c = rw (at_last _ 9 _ (lit< tt) c.if-s-at.false c.if-b-lt128.true)

pub returns-then-s-next : goal.returns-then-s-next
unfolding read_unsigned answer_at low_part
returns-then-s-next c = rw (at_more _ 9 _ (lit< tt) c.if-s-at.false c.if-b-lt128.false, at-end _ 8 _ (lit< tt) c.if-s-next.true)

pub overflow_cast-c : goal.overflow_cast-c
overflow_cast-c c = omega (arith, c.type_inv.s (c.args.at + 1))

pub overflow_mul-whole : goal.overflow_mul-whole
overflow_mul-whole c = omega (arith, c.if-c-lt128.true)

pub overflow_add-whole : goal.overflow_add-whole
overflow_add-whole c = omega (arith, c.if-c-lt128.true, c.type_inv.s c.args.at)

pub returns-then-c-lt128 : goal.returns-then-c-lt128
unfolding read_unsigned answer_at low_part
returns-then-c-lt128 c = rw (at_more _ 9 _ (lit< tt) c.if-s-at.false c.if-b-lt128.false, at_last _ 8 _ (lit< tt) c.if-s-next.false c.if-c-lt128.true)

pub rest-requires : goal.rest-requires
rest-requires c = (omega arith, omega arith, omega (arith, c.type_inv.s c.args.at))

pub returns : goal.returns
unfolding read_unsigned
returns c = rw (c.rest.ensures, at_more _ 9 _ (lit< tt) c.if-s-at.false c.if-b-lt128.false)
