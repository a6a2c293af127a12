-- `write_string` meets its contract: a text in line, or its bytes and its units.
use native.Mathlib.Omega.{arith}
use mathlib.Core.Path.{refl}
use Rattle.readings.specs.Sound.{bytes_in}
use Rattle.tokens.specs.Tokens.{text, whole, led, column_in}
use Rattle.tokens.proofs.Taking.{text-line}
use Rattle.tokens.proofs.Deskwise.{wrote-whole, wrote-text}
use Rattle.tokens.proofs.fields.write_string.Goals as goal

pub returns-then-form-eq1 : goal.returns-then-form-eq1
returns-then-form-eq1 c = let start = c in
    let a = start.args in
    let b = bytes_in a.update.now a.part in
    let n = a.units.0 in
    wrote-whole a.form a.at a.out.now a.lanes.now (text b n) c.if-form-eq1.true start.requires (led b)
    c.led_part.new.out c.led_part.result (text-line whole b n refl)
    c.led_part.ensures.0 c.led_part.ensures.1

pub push_number-requires : goal.push_number-requires
unfolding column_in
push_number-requires c = (c.put_text.ensures.0.tidy, omega arith, refl)

pub returns : goal.returns
returns c = let a = c.args in
    let b = bytes_in a.update.now a.part in
    wrote-text a.form a.at a.out.now a.lanes.now
    c.if-form-eq1.false b a.units.0
    c.put_text.new.out c.put_text.new.lanes c.push_number.new.out c.push_number.new.lanes
    c.put_text.ensures.0 c.put_text.ensures.1 c.push_number.ensures.0 c.push_number.ensures.1
