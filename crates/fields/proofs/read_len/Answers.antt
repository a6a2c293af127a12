-- `fields::read_len` meets its contract: in line, or from its column and within its limit.
use Rattle.std.specs.Prelude.{Some, None}
use mathlib.Core.Path.{◌≡◌, refl, ap, ◌∙◌}
use borrow.Author.Tests.{lt-ltb, le-ltb}
use Rattle.numbers.specs.Limits.{max_clock}
use Rattle.grammar.specs.Grammar as grammar
use Rattle.grammar.specs.Course.{not}
use Rattle.decoder.specs.Line.{bounded, line, number_by}
use Rattle.cells.specs.Cells.{place_in, given}
use Rattle.fields.proofs.Laws.{in-line, given-refused, len-drawn}
use Rattle.fields.proofs.read_len.Goals as goal

pub returns-then-form-eq1 : goal.returns-then-form-eq1
unfolding line number_by
returns-then-form-eq1 c = let b = c in
    let u = b.args.update.now in
    let w = b.args.w.now in
    let k = c.read_var.ensures in
    (k.0, k.1 ∙ in-line b.args.form u w c.if-form-eq1.true (grammar.number grammar.len))

pub returns-in_err-v : goal.returns-in_err-v
unfolding given bounded
returns-in_err-v c = let b = c in
    let u = b.args.update.now in
    let w = b.args.w.now in
    let v = c.draw_number.new.w in
    let r = c.draw_number.result in
    let k = c.draw_number.ensures in
    let e : given v None ≡ bounded max_clock (given v r) = rw c.in_err-v.was refl in
    (k.0, ap (given v) c.from_residual.ensures ∙ e ∙ len-drawn b.args.form u w v c.if-form-eq1.false r k)

pub returns-then-v-gt-MAX_CLOCK : goal.returns-then-v-gt-MAX_CLOCK
unfolding given bounded place_in
returns-then-v-gt-MAX_CLOCK c = let b = c in
    let u = b.args.update.now in
    let w = b.args.w.now in
    let v = c.draw_number.new.w in
    let r = c.draw_number.result in
    let f = c.refuse.ensures in
    let e : not (record { number = 3; place = place_in v }) ≡ bounded max_clock (given v r) = rw (c.in_ok-v.was, lt-ltb max_clock _ c.if-v-gt-MAX_CLOCK.true) refl in
    (f.1, given-refused c.refuse.new.w f.0 f.3 ∙ e ∙ len-drawn b.args.form u w v c.if-form-eq1.false r c.draw_number.ensures)

pub returns : goal.returns
unfolding given bounded
returns c = let b = c in
    let u = b.args.update.now in
    let w = b.args.w.now in
    let v = c.draw_number.new.w in
    let r = c.draw_number.result in
    let k = c.draw_number.ensures in
    let e : given v (Some c.in_ok-v.v) ≡ bounded max_clock (given v r) = rw (c.in_ok-v.was, le-ltb max_clock _ c.if-v-gt-MAX_CLOCK.false) refl in
    (k.0, e ∙ len-drawn b.args.form u w v c.if-form-eq1.false r k)
