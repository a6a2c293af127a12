-- `write_key` meets its contract: in line in form 1; in form 2 its number, and its text if it is new.
use native.Mathlib.Omega.{arith}
use mathlib.Core.Path.{◌≡◌, refl, sym, ap, ◌∙◌}
use mathlib.Core.List.{[], ◌∷◌}
use Rattle.text.specs.Utf8.{counted_in}
use Rattle.readings.specs.Sound.{bytes_in}
use Rattle.tokens.specs.Tokens.{field, key, keys, whole, led, in_line, column_in}
use Rattle.tokens.specs.Keys.{number_of}
use Rattle.tokens.specs.Desk.{key_count, known_in, Wrote}
use Rattle.tokens.proofs.Taking.{key-line}
use Rattle.tokens.proofs.Deskwise.{wrote-whole, wrote-field}
use Rattle.tokens.proofs.Keyed.{wrote-keys-line}
use Rattle.tokens.proofs.Rooms.{room-key}
use Rattle.numbering.proofs.Noted.{known-below, wrote-below}
use Rattle.numbering.proofs.Writes.{key-known, key-new}
use Rattle.numbering.proofs.write_key.Goals as goal
use Rattle.numbering.proofs.write_key.Goals.{After-push_difference}

-- its number is pushed
pushed : (c : After-push_difference) → Wrote c.args.form (field keys c.look-number.result ∷ []) c.args.out.now
    c.look-number.new.lanes c.args.at c.push_difference.new.out c.push_difference.new.lanes c.args.at
unfolding in_line
pushed c =
    let a = c.args in
    wrote-field a.form a.at a.out.now c.look-number.new.lanes c.if-form-eq1.false keys c.look-number.result (omega arith) refl c.push_difference.new.out
    c.push_difference.new.lanes c.push_difference.ensures.0 c.push_difference.ensures.1

-- it is the number among the keys that are known then
its-number : (c : After-push_difference) → c.look-number.result
    ≡ number_of (bytes_in c.args.update.now c.args.part) (known_in c.args.update.now c.look-number.new.lanes)
its-number c =
    let a = c.args in
    let l = c.look-number in
    l.ensures.0
    ∙ ap (number_of (bytes_in a.update.now a.part)) (sym (known-below a.update.now a.lanes.now c.look-number.new.lanes l.ensures.1 c.requires.0.tidy))

pub returns-then-form-eq1 : goal.returns-then-form-eq1
returns-then-form-eq1 c = let start = c in
    let a = start.args in
    let b = bytes_in a.update.now a.part in
    let n = (counted_in b).units.0 in
    let one = c.if-form-eq1.true in
    wrote-keys-line one
    (wrote-whole a.form a.at a.out.now a.lanes.now (key b n) one start.requires.0.tidy (led b) c.led_part.new.out c.led_part.result
    (key-line whole b n refl) c.led_part.ensures.0 c.led_part.ensures.1)

pub look-number-requires : goal.look-number-requires
look-number-requires c = let start = c in
    (start.requires.0, room-key c.if-form-eq1.false start.requires.1)

pub push_difference-requires : goal.push_difference-requires
unfolding column_in
push_difference-requires c = (c.look-number.ensures.2.tidy, omega arith, refl)

pub returns-then-number-count : goal.returns-then-number-count
returns-then-number-count c = let p = c in
    let a = c.args in
    let u = a.update.now in
    let b = bytes_in u a.part in
    let l = c.look-number in
    wrote-below u a.lanes.now c.look-number.new.lanes l.ensures.1 c.requires.0.tidy l.ensures.2
    (key-known u c.if-form-eq1.false b (counted_in b).units.0 (its-number (goal.at.returns-then-number-count c).After-push_difference) (pushed (goal.at.returns-then-number-count c).After-push_difference) (rw (l.ensures.1 50 (omega arith)) c.if-number-count.true))

pub remember-requires : goal.remember-requires
unfolding key_count
remember-requires c = let p = c in
    let w = pushed (goal.at.remember-requires c).After-push_difference in
    let wide = room-key c.if-form-eq1.false c.requires.1 in
    (w.tidy, omega (arith, p.push_difference.auto.lanes, c.look-number.auto.lanes, wide), sym (w.keys 50 (omega arith) ∙ c.look-number.ensures.1 50 (omega arith)))

pub returns : goal.returns
returns c = let p4 = c in
    let p7 = c in
    let p10 = c in
    let p = c in
    let a = c.args in
    let u = a.update.now in
    let b = bytes_in u a.part in
    let l = c.look-number in
    wrote-below u a.lanes.now c.look-number.new.lanes l.ensures.1 c.requires.0.tidy l.ensures.2
    (key-new u c.if-form-eq1.false b (counted_in b).units.0 (its-number (goal.at.returns c).After-push_difference) (pushed (goal.at.returns c).After-push_difference)
    (rw (l.ensures.1 50 (omega arith)) p10.if-number-count.false) a.part refl p10.remember.ensures
    (rw p7.count_units-units.ensures at p4.write_string.ensures))
