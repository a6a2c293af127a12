-- `placing::span_at` meets its contract: the words of a slot as rows.
use mathlib.Core.Path.{refl}
use Prim.Native.Nat.{◌+◌, ◌*◌}
use lib.ListN.{get_or}
use borrow.Author.Tests.{lt-ltb, le-ltb}
use Rattle.numbers.specs.Limits.{max_clock}
use Rattle.slots.specs.Slots.{slot_at}
use Rattle.placing.specs.Placing.{span_at}
use Rattle.placing.proofs.span_at.Goals as goal

pub returns-then-first-gt-MAX_CLOCK : goal.returns-then-first-gt-MAX_CLOCK
unfolding span_at slot_at
returns-then-first-gt-MAX_CLOCK c = let a = c.args in rw (lt-ltb max_clock (get_or a.slots.now (3 * a.p + 1) 0) c.if-first-gt-MAX_CLOCK.true) refl

pub returns-then-count-gt-MAX_CLOCK : goal.returns-then-count-gt-MAX_CLOCK
unfolding span_at slot_at
returns-then-count-gt-MAX_CLOCK c = let a = c.args in rw (le-ltb max_clock (get_or a.slots.now (3 * a.p + 1) 0) c.if-first-gt-MAX_CLOCK.false, lt-ltb max_clock (get_or a.slots.now (3 * a.p + 2) 0) c.if-count-gt-MAX_CLOCK.true) refl

pub returns : goal.returns
unfolding span_at slot_at
returns c = let a = c.args in rw (le-ltb max_clock (get_or a.slots.now (3 * a.p + 1) 0) c.if-first-gt-MAX_CLOCK.false, le-ltb max_clock (get_or a.slots.now (3 * a.p + 2) 0) c.if-count-gt-MAX_CLOCK.false) refl
