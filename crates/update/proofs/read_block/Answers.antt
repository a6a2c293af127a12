-- `update::read_block` meets its contract: the block read, its end tested, an item of length 0 dropped.
use Prim.Native.Nat.{◌+◌, ◌≤◌}
use native.Mathlib.Omega.{arith}
use mathlib.Core.Path.{refl, sym, ap, ◌∙◌}
use Rattle.numbers.specs.Limits.{max_clock}
use Rattle.item.specs.Row.{row_in, block_onto}
use Rattle.update.proofs.Laws.{refuses, goes_on, keeps, no_block, too_far, drops, has, end-fine, end-less}
use Rattle.update.proofs.read_block.Goals as goal

pub returns-in_default : goal.returns-in_default
returns-in_default c = let a = c.args in
    let p = c.requires in
    let u = a.update.now in
    let m = a.memory.now in
    let s = a.s in
    let v = c.read_block.new.w in
    let q = c.read_block.new.r in
    let law = no_block a.form u m a.w.now s p.3 v q (ap (block_onto v q) (sym c.in_default.is) ∙ c.read_block.ensures.2) in
    rw c.why.ensures (refuses a.form u m a.w.now a.r.now s m v q c.read_block.ensures.0 refl (c.read_block.ensures.1.size ∙ sym p.1) _ law)

pub returns-then-len-gt-MAX_CLOCK : goal.returns-then-len-gt-MAX_CLOCK
returns-then-len-gt-MAX_CLOCK c = let a = c.args in
    let p = c.requires in
    let u = a.update.now in
    let m = a.memory.now in
    let s = a.s in
    let v = c.read_block.new.w in
    let q = c.read_block.new.r in
    let b = ap (block_onto v q) (sym c.in-Some.is) ∙ c.read_block.ensures.2 in
    let law = too_far a.form u m a.w.now s p.3 v q _ b (omega (arith, c.if-len-gt-MAX_CLOCK.true, c.length_in-len.ensures)) in
    refuses a.form u m a.w.now a.r.now s m v q c.read_block.ensures.0 refl (c.read_block.ensures.1.size ∙ sym p.1) _ law

pub overflow_add-end : goal.overflow_add-end
overflow_add-end c = omega (arith, c.requires.2.clock, c.if-len-gt-MAX_CLOCK.false)

pub returns-then-end-gt-MAX_CLOCK : goal.returns-then-end-gt-MAX_CLOCK
returns-then-end-gt-MAX_CLOCK c = let a = c.args in
    let p = c.requires in
    let u = a.update.now in
    let m = a.memory.now in
    let s = a.s in
    let v = c.read_block.new.w in
    let q = c.read_block.new.r in
    let b = ap (block_onto v q) (sym c.in-Some.is) ∙ c.read_block.ensures.2 in
    let law = too_far a.form u m a.w.now s p.3 v q _ b (omega (arith, c.if-end-gt-MAX_CLOCK.true, c.length_in-len.ensures)) in
    refuses a.form u m a.w.now a.r.now s m v q c.read_block.ensures.0 refl (c.read_block.ensures.1.size ∙ sym p.1) _ law

pub returns-then-is_dropped : goal.returns-then-is_dropped
returns-then-is_dropped c = let a = c.args in
    let p = c.requires in
    let u = a.update.now in
    let m = a.memory.now in
    let s = a.s in
    let v = c.read_block.new.w in
    let q = c.read_block.new.r in
    let b = ap (block_onto v q) (sym c.in-Some.is) ∙ c.read_block.ensures.2 in
    let near : s.clock + (row_in q).length.0 ≤ max_clock = omega (arith, c.if-end-gt-MAX_CLOCK.false, c.length_in-len.ensures) in
    rw c.length_in-len.ensures
    (goes_on a.form u m a.w.now a.r.now s m v q c.read_block.ensures.0 refl (c.read_block.ensures.1.size ∙ sym p.1) _
    (drops a.form u m a.w.now s p.3 v q _ b near (sym c.is_dropped.ensures ∙ c.if-is_dropped.true))
    (end-fine a.form u m a.w.now s p.3 v q _ b near p.2) (end-less a.form u m a.w.now s p.3 v q _ b near))

pub returns : goal.returns
returns c = let a = c.args in
    let p = c.requires in
    let u = a.update.now in
    let m = a.memory.now in
    let s = a.s in
    let v = c.read_block.new.w in
    let q = c.read_block.new.r in
    let b = ap (block_onto v q) (sym c.in-Some.is) ∙ c.read_block.ensures.2 in
    let near : s.clock + (row_in q).length.0 ≤ max_clock = omega (arith, c.if-end-gt-MAX_CLOCK.false, c.length_in-len.ensures) in
    rw c.length_in-len.ensures
    (keeps a.form u m a.w.now a.r.now s m v q c.read_block.ensures.0 refl (c.read_block.ensures.1.size ∙ sym p.1) _ _
    (has a.form u m a.w.now s p.3 v q _ b near (sym c.is_dropped.ensures ∙ c.if-is_dropped.false))
    (end-fine a.form u m a.w.now s p.3 v q _ b near p.2) c.read_block.ensures.1 (end-less a.form u m a.w.now s p.3 v q _ b near))
