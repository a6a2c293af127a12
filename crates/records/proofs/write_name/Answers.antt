-- `write_name` meets its contract: form 1 has no use for the units.
use Rattle.text.specs.Utf8.{counted_in}
use Rattle.readings.specs.Sound.{bytes_in}
use Rattle.tokens.proofs.Wrote.{wrote-text-line}
use Rattle.records.proofs.write_name.Goals as goal

pub returns-then-form-eq1 : goal.returns-then-form-eq1
returns-then-form-eq1 c = let p2 = c in
    let p4 = c in
    let p8 = c in
    let a = p8.args in
    let b = bytes_in a.update.now a.part in
    wrote-text-line b (counted_in b).units.0 p4.if-form-eq1.true p8.requires p2.led_part.ensures

pub returns : goal.returns
returns c = let p4 = c in
    let p7 = c in
    rw (← p7.count_units-units.ensures) p4.write_string.ensures
