-- `is_plain` meets its contract: form 1 remembers no key, and of rows without keys none is remembered.
use Rattle.std.proofs.Common.{sym, ap, subst, ◌∙◌, arith}
use borrow.Author.Tests.{leb-true}
use Rattle.block.specs.declared.Block.{Block}
use Rattle.block.specs.KindsInner.{is_marked}
use Rattle.kept.specs.declared.cursor.Cursor.{Cursor}
use Rattle.encoder.proofs.Keyless.{Seen, begins, turns, plain}
use Rattle.encoder.proofs.is_plain.Goals as goal

pub loop-init : goal.loop-init
loop-init c = let a = c.args in
    subst (λ (x : Cursor). Seen a.rows.now a.plan.now a.sections x) (sym c.open-c.ensures)
    (begins a.rows.now a.plan.now a.sections (omega arith) c.requires)

pub loop-preserved : goal.loop-preserved
loop-preserved c = let a = c.args in
    subst (λ (x : Cursor). Seen a.rows.now a.plan.now a.sections x) (sym c.advance-c.ensures)
    (turns a.rows.now a.plan.now a.sections (omega arith) c.requires c.loop.c c.loop.invariant (omega arith)
    (sym (ap (λ (b : Block). is_marked b.kind b.type_number) c.fetch-b.ensures) ∙ sym c.has_key.ensures ∙ c.if-has_key.false))

pub returns-then-rows-c : goal.returns-then-rows-c
returns-then-rows-c c = let a = c.args in λ _.
    plain a.rows.now a.plan.now a.sections (omega arith) c.requires a.form c.loop.c c.loop.invariant (omega arith)

pub returns : goal.returns
returns c = let a = c.args in λ h.
    plain a.rows.now a.plan.now a.sections (omega arith) c.requires a.form c.loop.c c.loop.invariant (leb-true _ _ h)
