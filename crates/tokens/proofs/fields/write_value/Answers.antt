-- `write_value` meets its contract: a mark's value is a text in form 1 and stands as it is in form 2.
use mathlib.Core.Path.{refl}
use Rattle.readings.specs.Sound.{bytes_in}
use Rattle.tokens.specs.Tokens.{value, whole, led}
use Rattle.tokens.proofs.Taking.{value_line}
use Rattle.tokens.proofs.Deskwise.{wrote-whole}
use Rattle.tokens.proofs.Wrote.{wrote-value-rest}
use Rattle.tokens.proofs.fields.write_value.Goals as goal

pub returns-then-form-eq1 : goal.returns-then-form-eq1
returns-then-form-eq1 c = let start = c in
    let a = start.args in
    let b = bytes_in a.update.now a.part in
    wrote-whole a.form a.at a.out.now a.lanes.now (value b) c.if-form-eq1.true start.requires (led b)
    c.led_part.new.out c.led_part.result (value_line whole b refl)
    c.led_part.ensures.0 c.led_part.ensures.1

pub returns : goal.returns
returns c = let start = c in
    let a = start.args in
    wrote-value-rest (bytes_in a.update.now a.part) c.if-form-eq1.false start.requires c.part.ensures
