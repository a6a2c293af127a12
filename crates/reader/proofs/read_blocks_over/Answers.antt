-- `reader::read_blocks_over` meets its contract: the blocks are those from the first section on, with the state that they end in.
use Rattle.std.proofs.Common.{length, refl, replicate, ap, subst, sym, ◌∙◌, arith}
use Rattle.block.specs.declared.Block.{Block}
use Rattle.decoder.specs.States.{State}
use Rattle.decoder.specs.Update.{blocks_of}
use Rattle.grammar.specs.Course.{CourseTo, fit}
use Rattle.update.proofs.Answers.{begun-at, begun-refused, columns-at, columns-refused}
use Rattle.reader.specs.Reader.{filled_of, rows_of, Stands}
use Rattle.reader.proofs.Course.{on_none, stands-none}
use Rattle.reader.proofs.read_blocks_over.Goals as goal

pub read_sections-requires : goal.read_sections-requires
read_sections-requires c = (c.begin.ensures.small, (begun-at _ _ _ _ c.begin.ensures (replicate 64 0) (omega (arith)) _ c.in-Ok.is).1)

pub returns-in-Ok : goal.returns-in-Ok
returns-in-Ok c =
    let h = c.read_sections.ensures in
    let same = sym (begun-at _ _ _ _ c.begin.ensures (replicate 64 0) (omega (arith)) _ c.in-Ok.is).0 in (
      h.0 ∙ ap (filled_of (length c.args.rows.now)) same,
      h.1 ∙ ap (rows_of (length c.args.rows.now)) same,
      λ other. subst (λ (x : CourseTo State Block (Unit {0})). Stands (fit (length c.args.rows.now) x) c.read_sections.new.w) (sym (columns-at _ _ _ _ c.begin.ensures (replicate 64 0) _ other c.in-Ok.is)) h.2,
      h.3,
    )

pub returns-in-Err : goal.returns-in-Err
returns-in-Err c =
    let h = on_none (length c.args.rows.now) (blocks_of c.args.form c.args.update.now) c.args.rows.now c.in-Err.why refl (begun-refused _ _ _ _ c.begin.ensures (replicate 64 0) _ c.in-Err.is) in (
      h.0,
      c.clear.ensures ∙ h.1,
      λ other. stands-none _ _ _ (columns-refused _ _ _ _ c.begin.ensures (replicate 64 0) _ other c.in-Err.is) _,
      c.begin.ensures.small,
    )
