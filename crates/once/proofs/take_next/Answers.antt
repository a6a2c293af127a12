-- `once::take_next` meets its contract: nothing is taken any more, or plain bytes, or what `take_units` says.
use native.Mathlib.Omega.{arith}
use borrow.Author.Tests.{not-true, not-false}
use mathlib.Core.Path.{sym, ap, ◌∙◌}
use lib.ListN.{length, drop}
use lib.Seq.{take-length}
use Rattle.text.specs.Utf8.{take_units}
use Rattle.text.proofs.Cutting.{cut_at}
use Rattle.once.specs.Texts.{took_text, take_next}
use Rattle.once.proofs.take_next.Goals as goal

pub returns-then-not-t : goal.returns-then-not-t
unfolding take_next
returns-then-not-t c = (rw (not-true c.args.t.found c.if-not-t.true), c.requires)

pub returns-then-is_plain : goal.returns-then-is_plain
unfolding take_next took_text
returns-then-is_plain c = let p = c.is_plain.ensures c.if-is_plain.true in
    (rw (not-false c.args.t.found c.if-not-t.false, p.1), p.0)

pub overflow_add-past : goal.overflow_add-past
overflow_add-past c = let a = c.args in
    let w = (cut_at 7 a.u c.in-Took.bytes.0 a.t.at (length a.text.now) a.text.now c.requires (omega arith) (sym c.take_units.ensures ∙ c.in-Took.is)).within in
    omega (arith, w)

pub returns-in-Took : goal.returns-in-Took
unfolding take_next took_text
returns-in-Took c = let a = c.args in
    let e = sym c.take_units.ensures ∙ c.in-Took.is in
    let w = (cut_at 7 a.u c.in-Took.bytes.0 a.t.at (length a.text.now) a.text.now c.requires (omega arith) e).within in
    let d = ap (take_units 7 a.u) (sym (ap (drop a.t.at) (take-length a.text.now))) ∙ e in
    (rw (not-false c.args.t.found c.if-not-t.false, d), w)

pub returns-in-Refused : goal.returns-in-Refused
unfolding take_next took_text
returns-in-Refused c = let a = c.args in
    let e = sym c.take_units.ensures ∙ c.in-Refused.is in
    let d = ap (take_units 7 a.u) (sym (ap (drop a.t.at) (take-length a.text.now))) ∙ e in
    (rw (not-false c.args.t.found c.if-not-t.false, d), c.requires)
