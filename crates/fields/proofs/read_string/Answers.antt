-- `fields::read_string` meets its contract: the bytes are there, and the check decides.
use borrow.Author.Tests.{not-true, not-false}
use native.Mathlib.Omega.{arith}
use mathlib.Core.Path.{sym, ap, ◌∙◌}
use Rattle.grammar.specs.Course.{got}
use Rattle.decoder.specs.Line.{bytes_at}
use Rattle.cells.specs.Cells.{at_in, state_in, why_in, part_in}
use Rattle.fields.specs.Fields.{part_given, text_given}
use Rattle.fields.proofs.Laws.{buf-ends, text-missing, text-broken, text-whole, text-refused, units-broken, units-whole}
use Rattle.fields.proofs.read_string.Goals as goal

pub returns-in_err-read_buf : goal.returns-in_err-read_buf
unfolding part_given text_given
returns-in_err-read_buf c = let b = c in
    let u = b.args.update.now in
    let w = b.args.w.now in
    let v = c.read_buf.new.w in
    let q = c.read_buf.new.r in
    let k = c.read_buf.ensures in
    (k.0, k.1, ap (text_given b.args.k v q) c.from_residual.ensures ∙ text-missing u (state_in w) (bytes_at u (at_in w)) (why_in v) (ap (part_given b.args.k v q) (sym c.in_err-read_buf.was) ∙ k.2))

pub overflow_add-end-2 : goal.overflow_add-end-2
unfolding part_in part_given
overflow_add-end-2 c = let b = c in
    let u = b.args.update.now in
    let w = b.args.w.now in
    let v = c.read_buf.new.w in
    let q = c.read_buf.new.r in
    let e = buf-ends u (state_in w) (at_in w) (part_in q b.args.k) (state_in v) (ap (part_given b.args.k v q) (sym c.in_ok-read_buf.was) ∙ c.read_buf.ensures.2) in
    omega (arith, e)

pub count_units-c-requires : goal.count_units-c-requires
unfolding part_in part_given
count_units-c-requires c = let b = c in
    let u = b.args.update.now in
    let w = b.args.w.now in
    let v = c.read_buf.new.w in
    let q = c.read_buf.new.r in
    let e = buf-ends u (state_in w) (at_in w) (part_in q b.args.k) (state_in v) (ap (part_given b.args.k v q) (sym c.in_ok-read_buf.was) ∙ c.read_buf.ensures.2) in
    (omega arith, omega (arith, e))

pub returns-then-not-c : goal.returns-then-not-c
unfolding part_in part_given
returns-then-not-c c = let b = c in
    let u = b.args.update.now in
    let w = b.args.w.now in
    let v = c.read_buf.new.w in
    let q = c.read_buf.new.r in
    let k = c.read_buf.ensures in
    let f = c.refuse.ensures in (
      f.1,
      k.1,
      text-refused c.refuse.new.w f.0 f.3 b.args.k q
          ∙ text-broken u (state_in w) (bytes_at u (at_in w)) (part_in q b.args.k) (state_in v) (ap (part_given b.args.k v q) (sym c.in_ok-read_buf.was) ∙ k.2)
          (units-broken _ c.count_units-c.result c.count_units-c.ensures (not-true c.count_units-c.result.whole c.if-not-c.true)),
    )

pub returns : goal.returns
unfolding part_in part_given text_given
returns c = let b = c in
    let u = b.args.update.now in
    let w = b.args.w.now in
    let v = c.read_buf.new.w in
    let q = c.read_buf.new.r in
    let k = c.read_buf.ensures in
    let whole = units-whole _ c.count_units-c.result c.count_units-c.ensures (not-false c.count_units-c.result.whole c.if-not-c.false) in (
      k.0,
      k.1,
      ap (λ x. got (part_in q b.args.k, record { 0 = x }) (state_in v)) whole.1
          ∙ text-whole u (state_in w) (bytes_at u (at_in w)) (part_in q b.args.k) (state_in v) (ap (part_given b.args.k v q) (sym c.in_ok-read_buf.was) ∙ k.2) whole.0,
    )
