-- `fields::read_buf` meets its contract: so many bytes are left, or not.
use mathlib.Core.Path.{sym, ap, ◌∙◌}
use Prim.Native.Nat.{◌+◌}
use Rattle.numbers.specs.NumberInner.{why_read}
use Rattle.string.proofs.Texts.{read-ends}
use Rattle.grammar.specs.Course.{not}
use Rattle.cells.specs.Cells.{at_in, state_in}
use Rattle.cells.proofs.States.{small_at, beside_none, beside-put}
use Rattle.fields.specs.Fields.{part_given}
use Rattle.fields.proofs.Laws.{buf-refused, buf-short, buf-read, part_moved}
use Rattle.fields.proofs.read_buf.Goals as goal

pub returns-in_default : goal.returns-in_default
unfolding at_in part_given
returns-in_default c = let b = c in
    let u = b.args.update.now in
    let w = b.args.w.now in
    let told = c.in_default.is in
    let k = c.refuse.ensures in (
      k.1,
      beside_none b.args.k b.args.r.now,
      ap not (k.3 ∙ c.why_read-why.ensures ∙ ap why_read told) ∙ buf-refused u (state_in w) (at_in w) _ (sym c.read_unsigned-n.ensures ∙ told),
    )

pub overflow_sub-left : goal.overflow_sub-left
overflow_sub-left c = let b = c in
    read-ends b.args.update.now _ _ _ (sym c.read_unsigned-n.ensures ∙ c.in-Number.is)

pub returns-then-left-size : goal.returns-then-left-size
unfolding at_in part_given
returns-then-left-size c = let b = c in
    let u = b.args.update.now in
    let w = b.args.w.now in
    let k = c.refuse-then-left-size.ensures in (
      k.1,
      beside_none b.args.k b.args.r.now,
      ap not k.3 ∙ buf-short u (state_in w) (at_in w) _ _ (sym c.read_unsigned-n.ensures ∙ c.in-Number.is) c.if-left-size.true,
    )

pub returns : goal.returns
unfolding at_in
returns c = let b = c in
    let u = b.args.update.now in
    let w = b.args.w.now in
    let size = c.in-Number.size in
    let from = c.in-Number.from in
    let k = b.args.k in
    let r = b.args.r.now in (
      small_at w b.requires.0 (from + size),
      beside-put k from size r b.requires.1,
      part_moved w b.requires.0 (from + size) k from size r b.requires.1
          ∙ buf-read u (state_in w) (at_in w) size from (sym c.read_unsigned-n.ensures ∙ c.in-Number.is) c.if-left-size.false,
    )
