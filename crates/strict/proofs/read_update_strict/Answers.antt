-- `strict::read_update_strict` meets its contract: what is refused beforehand, then the reading over fresh words.
use Rattle.std.proofs.Common.{ℕ, length, ap, sym, ◌∙◌}
use lib.Dec.{eqb}
use borrow.Author.Tests.{ne_eqb}
use Rattle.numbers.specs.Number.{nowhere}
use Rattle.updates.specs.Promises.{refused, answer, table_of, range_words}
use Rattle.update.proofs.Laws.{fresh, fresh-enough}
use Rattle.strict.proofs.Laws.{on-first}
use Rattle.strict.proofs.read_update_strict.Goals as goal

pub returns-then-early-ne0 : goal.returns-then-early-ne0
returns-then-early-ne0 c =
    let e = c.refused_beforehand-early.ensures in
    let h = on-first c.args.form c.args.update.now c.args.rows.now c.args.ranges.now (ap (λ (k : ℕ). eqb k 0) (sym e) ∙ ne_eqb _ 0 c.if-early-ne0.true) in (
      c.refuse.ensures.0 ∙ ap (λ (k : ℕ). answer (refused (nowhere k))) e ∙ h.0,
      c.refuse.ensures.1 ∙ ap (λ (k : ℕ). table_of (length c.args.rows.now) (refused (nowhere k))) e ∙ h.1,
      c.refuse.ensures.2 ∙ ap (λ (k : ℕ). range_words (length c.args.ranges.now) (refused (nowhere k))) e ∙ h.2,
    )

pub read_over-requires : goal.read_over-requires
read_over-requires c = (fresh, (λ other. fresh-enough c.args.update.now), sym c.refused_beforehand-early.ensures ∙ c.if-early-ne0.false)
