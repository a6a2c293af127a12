-- `write_info` meets its contract: an info is a byte, in line too.
use native.Mathlib.Omega.{arith}
use mathlib.Core.Path.{refl}
use mathlib.Core.List.{[], ◌∷◌}
use Rattle.tokens.specs.Tokens.{field, infos, whole, in_line, column_in}
use Rattle.tokens.proofs.Taking.{info-line}
use Rattle.tokens.proofs.Deskwise.{wrote-whole, wrote-field}
use Rattle.tokens.proofs.fields.write_info.Goals as goal

pub returns-then-form-eq1 : goal.returns-then-form-eq1
returns-then-form-eq1 c = let start = c in
    let a = start.args in
    wrote-whole a.form a.at a.out.now a.lanes.now (field infos a.v) c.if-form-eq1.true start.requires
    (a.v ∷ []) c.byte.new.out c.byte.result
    (info-line whole a.v refl) c.byte.ensures.0 c.byte.ensures.1

pub push_byte-requires : goal.push_byte-requires
unfolding column_in
push_byte-requires c = (c.requires, omega arith, refl)

pub returns : goal.returns
unfolding in_line
returns c = let a = c.args in
    wrote-field a.form a.at a.out.now a.lanes.now c.if-form-eq1.false infos a.v
    (omega arith) refl c.push_byte.new.out c.push_byte.new.lanes c.push_byte.ensures.0
    c.push_byte.ensures.1
