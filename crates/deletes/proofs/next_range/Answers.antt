-- `deletes::next_range` meets its contract: clock, length and end within the limit, and a range less is left.
use native.Mathlib.Omega.{arith}
use Rattle.numbers.specs.Limits.{max_clock}
use Rattle.deletes.proofs.Steps.{reads-delete, reads-low, drew, drew-not, range-no-clock, range-no-len, range-over, range-empty, range-some}
use Rattle.deletes.proofs.next_range.Goals as goal

pub returns-in_default : goal.returns-in_default
returns-in_default c = let a = c.args in let u = a.update.now in
    range-no-clock a.form u a.p c.requires _ (drew-not _ _ _ (reads-delete u _ _ a.form _ _ c.base-before.ensures c.read_at-d.ensures) _ _ c.in_default.is c.why_read.ensures)

pub returns-in_default-e : goal.returns-in_default-e
returns-in_default-e c = let a = c.args in let u = a.update.now in
    range-no-len a.form u a.p c.requires _ _ (drew _ _ _ (reads-delete u _ _ a.form _ _ c.base-before.ensures c.read_at-d.ensures) _ _ c.in-Number.is)
    _ (drew-not _ _ _ (reads-delete u _ _ a.form _ _ c.base-one.ensures c.read_at-e.ensures) _ _ c.in_default-e.is c.why_read-in_default-e.ensures)

pub overflow_add-end : goal.overflow_add-end
overflow_add-end c = let u = c.args.update.now in
    omega (arith, reads-low u _ _ max_clock _ _ _ c.read_at-d.ensures c.in-Number.is, reads-low u _ _ max_clock _ _ _ c.read_at-e.ensures c.in-Number-e.is)

pub returns-then-end-gt-MAX_CLOCK : goal.returns-then-end-gt-MAX_CLOCK
returns-then-end-gt-MAX_CLOCK c = let a = c.args in let u = a.update.now in
    range-over a.form u a.p c.requires _ _ (drew _ _ _ (reads-delete u _ _ a.form _ _ c.base-before.ensures c.read_at-d.ensures) _ _ c.in-Number.is)
    _ _ (drew _ _ _ (reads-delete u _ _ a.form _ _ c.base-one.ensures c.read_at-e.ensures) _ _ c.in-Number-e.is) c.if-end-gt-MAX_CLOCK.true

pub returns-then-len-eq0 : goal.returns-then-len-eq0
returns-then-len-eq0 c = let a = c.args in let u = a.update.now in
    range-empty a.form u a.p c.requires _ _ (drew _ _ _ (reads-delete u _ _ a.form _ _ c.base-before.ensures c.read_at-d.ensures) _ _ c.in-Number.is)
    _ _ (drew _ _ _ (reads-delete u _ _ a.form _ _ c.base-one.ensures c.read_at-e.ensures) _ _ c.in-Number-e.is) c.if-end-gt-MAX_CLOCK.false c.if-len-eq0.true

pub returns : goal.returns
returns c = let a = c.args in let u = a.update.now in
    range-some a.form u a.p c.requires _ _ (drew _ _ _ (reads-delete u _ _ a.form _ _ c.base-before.ensures c.read_at-d.ensures) _ _ c.in-Number.is)
    _ _ (drew _ _ _ (reads-delete u _ _ a.form _ _ c.base-one.ensures c.read_at-e.ensures) _ _ c.in-Number-e.is) c.if-end-gt-MAX_CLOCK.false c.if-len-eq0.false
