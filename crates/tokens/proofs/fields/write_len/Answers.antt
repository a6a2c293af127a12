-- `write_len` meets its contract: a length in line, or onto its lane.
use native.Mathlib.Omega.{arith}
use mathlib.Core.Path.{refl}
use Rattle.numbers.specs.Number.{unsigned}
use Rattle.tokens.specs.Tokens.{field, lens, whole, in_line, column_in}
use Rattle.tokens.proofs.Taking.{field-line}
use Rattle.tokens.proofs.Deskwise.{wrote-whole, wrote-field}
use Rattle.tokens.proofs.fields.write_len.Goals as goal

pub returns-then-form-eq1 : goal.returns-then-form-eq1
returns-then-form-eq1 c = let start = c in
    let a = start.args in
    wrote-whole a.form a.at a.out.now a.lanes.now (field lens a.v) c.if-form-eq1.true start.requires
    (unsigned a.v) c.number.new.out c.number.result
    (field-line whole lens a.v refl (λ h. absurd (omega arith))) c.number.ensures.0 c.number.ensures.1

pub push_number-requires : goal.push_number-requires
unfolding column_in
push_number-requires c = (c.requires, omega arith, refl)

pub returns : goal.returns
unfolding in_line
returns c = let a = c.args in
    wrote-field a.form a.at a.out.now a.lanes.now c.if-form-eq1.false lens a.v
    (omega arith) refl c.push_number.new.out c.push_number.new.lanes c.push_number.ensures.0
    c.push_number.ensures.1
