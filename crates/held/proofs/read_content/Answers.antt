-- `held::read_content` meets its contract: the content number decides.
use mathlib.Core.Path.{sym, ap, ◌∙◌}
use borrow.Author.Tests.{ne_eqb}
use Rattle.grammar.specs.Course.{stopped}
use Rattle.grammar.specs.Blocks.{content_of, content}
use Rattle.decoder.specs.ColumnedInner.{fields}
use Rattle.cells.specs.Cells.{state_in}
use Rattle.held.specs.Row.{onto}
use Rattle.held.proofs.Laws.{stop_is}
use Rattle.held.proofs.read_content.Goals as goal

pub returns-in-1 : goal.returns-in-1
unfolding content content_of
returns-in-1 c = let k = c.read_deleted.ensures in
    (k.0, k.1, rw c.in-1.is k.2)

pub returns-in-3 : goal.returns-in-3
unfolding content content_of
returns-in-3 c = let k = c.read_binary.ensures in
    (k.0, k.1, rw c.in-3.is k.2)

pub returns-in-4 : goal.returns-in-4
unfolding content content_of
returns-in-4 c = let k = c.read_string.ensures in
    (k.0, k.1, rw c.in-4.is k.2)

pub returns-in-6 : goal.returns-in-6
unfolding content content_of
returns-in-6 c = let k = c.read_format.ensures in
    (k.0, k.1, rw c.in-6.is k.2)

pub returns-in-7 : goal.returns-in-7
unfolding content content_of
returns-in-7 c = let k = c.read_type.ensures in
    (k.0, k.1, rw c.in-7.is k.2)

pub returns-in-8 : goal.returns-in-8
unfolding content content_of
returns-in-8 c = let k = c.read_any.ensures in
    (k.0, k.1, rw c.in-8.is k.2)

pub returns-in_default : goal.returns-in_default
unfolding content content_of onto
returns-in_default c = let b = c in
    let form = b.args.form in
    let u = b.args.update.now in
    let w = b.args.w.now in
    let k = c.refuse.ensures in (
      k.1,
      b.requires.1,
      rw (
        ne_eqb _ 1 c.in_default.in_default-own.rest.0.0.0.0.0.1,
        ne_eqb _ 3 c.in_default.in_default-own.rest.0.0.0.0.1,
        ne_eqb _ 4 c.in_default.in_default-own.rest.0.0.0.1,
        ne_eqb _ 6 c.in_default.in_default-own.rest.0.0.1,
        ne_eqb _ 7 c.in_default.in_default-own.rest.0.1,
        ne_eqb _ 8 c.in_default.in_default-own.rest.1,
      ) (ap stopped k.3 ∙ sym (stop_is (fields form u) 5 b.args.place (state_in w))),
    )
