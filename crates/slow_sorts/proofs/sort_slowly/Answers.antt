-- `slow_sorts::sort_slowly` meets its contract: the ways out of `sort` with the sorter that sweeps (Exits).
use Rattle.std.proofs.Common.{ℕ, List, [], true, length, ap, sym, ◌∙◌, ◌≡◌, ◌≢◌, ◌/◌, ◌≤◌, arith}
use Rattle.block.specs.declared.Block.{Block}
use Rattle.numbers.specs.Number.{nowhere}
use Rattle.numbers.specs.Output.{padded}
use Rattle.picker.specs.Picker.{nowhere as no_row}
use Rattle.vector.specs.Vector.{vector_of}
use Rattle.sorter.specs.declared.Sorting.{Sorting}
use Rattle.slow_sorter.specs.Slowly.{swept_read, Leaves}
use Rattle.updates.specs.declared.Update.{Update}
use Rattle.updates.specs.Promises.{Reading, refused, reading, answer, table_of, range_words}
use Rattle.updates.proofs.Read.{rows_fit, rows-length}
use Rattle.sort_answers.specs.declared.Sorted.{Sorted}
use Rattle.sort_answers.specs.Answers.{is_rule, refused_with, answered}
use Rattle.sort_answers.specs.AnswersInner.{judged, answer_to}
use Rattle.slow_sorts.specs.Promises.{slowly, SortSlowly}
use Rattle.sorts.proofs.Ways.{exit-unknown, exit-unread, exit-refused, exit-done, Gives}
use Rattle.slow_sorts.proofs.Exits.{gives}
use Rattle.slow_sorts.proofs.sort_slowly.Goals as goal

module _ (rule form : ℕ) (u v : List ℕ) (rows₀ : List Block) (ranges₀ order₀ counts₀ reaches₀ pending₀ : List ℕ) where
  abbrev R : Reading
  R = reading form u (length rows₀) (length ranges₀ / 3)

  abbrev Right : Sorted → List Block → List ℕ → List ℕ → List ℕ → List ℕ → List ℕ → Type 0
  Right = SortSlowly rule form u v rows₀ ranges₀ order₀ counts₀ reaches₀ pending₀

  -- what was read
  module _ (read : Update) (rows : List Block) (ranges : List ℕ) (er : read ≡ answer R) (ew : rows ≡ table_of (length rows₀) R) (eg : ranges ≡ range_words (length ranges₀) R) where
    blocks_fit : read.blocks ≤ length rows
    unfolding answer
    blocks_fit = rw (er, ew) (omega (arith, rows_fit form u (length rows₀) (length ranges₀), rows-length form u (length rows₀) (length ranges₀)))

    module _ (named : is_rule rule ≡ true) where
      unread : read.refusal.number ≢ 0
          → Right (answered (refused_with read.refusal)) (table_of (length rows) (refused read.refusal)) (range_words (length ranges) (refused read.refusal)) (padded (length order₀) [])
          (padded (length counts₀) []) (padded (length reaches₀) []) (padded (length pending₀) [])
      unfolding answer
      unread n = rw (er, ew, eg) (exit-unread slowly rule form u v rows₀ ranges₀ order₀ counts₀ reaches₀ pending₀ named (λ z. n (ap (λ (x : Update). x.refusal.number) er ∙ z)))

      -- what was sorted
      module _ (z : read.refusal.number ≡ 0) (short : length rows₀ ≤ no_row) (S : Sorting) (O C P Q : List ℕ)
          (left : Leaves (swept_read rule (vector_of v) rows read.blocks order₀ counts₀ reaches₀ pending₀) S O C P Q) where
        given : Gives slowly rule form u v rows₀ ranges₀ order₀ counts₀ reaches₀ pending₀ S O C P Q
        unfolding answer
        given = rw (left.0, left.1, left.2, left.3, left.4, er, ew) (gives rule form u v rows₀ ranges₀ order₀ counts₀ reaches₀ pending₀ short)

        read_well : R.refusal.number ≡ 0
        unfolding answer
        read_well = sym (ap (λ (x : Update). x.refusal.number) er) ∙ z

        module _ (o c p q : ℕ) (ao : length order₀ ≡ o) (ac : length counts₀ ≡ c) (ap' : length reaches₀ ≡ p) (aq : length pending₀ ≡ q) (number : ℕ) (en : number ≡ judged S o c p q) where
          unsorted : number ≢ 0
              → Right (answered (refused_with (nowhere number))) (table_of (length rows) (refused (nowhere number))) (range_words (length ranges) (refused (nowhere number)))
              (padded (length O) []) (padded (length C) []) (padded (length P) []) (padded (length Q) [])
          unsorted n = rw (en, ew, eg) (exit-refused slowly rule form u v rows₀ ranges₀ order₀ counts₀ reaches₀ pending₀ named read_well given o c p q ao ac ap' aq (λ x. n (en ∙ x)))

          sorted : number ≡ 0 → Right (answer_to read S) rows ranges O C P Q
          sorted n = rw (er, ew, eg) (exit-done slowly rule form u v rows₀ ranges₀ order₀ counts₀ reaches₀ pending₀ named read_well given o c p q ao ac ap' aq (sym en ∙ n))

pub returns-then-not-is_rule : goal.returns-then-not-is_rule
returns-then-not-is_rule c =
    let a = c.args in
    let h = exit-unknown slowly a.rule a.form a.update.now a.vector.now a.rows.now a.ranges.now a.order.now a.counts.now a.reaches.now a.pending.now (sym c.is_rule.ensures ∙ c.if-not-is_rule.true) in
    let r = c.refuse.ensures in
    (r.0 ∙ h.0, r.1 ∙ h.1, r.2 ∙ h.2, r.3 ∙ h.3, r.4 ∙ h.4, r.5 ∙ h.5, r.6 ∙ h.6)

pub returns-then-read-ne0 : goal.returns-then-read-ne0
returns-then-read-ne0 c =
    let a = c.args in
    let e = c.read_update-read.ensures in
    let h = unread a.rule a.form a.update.now a.vector.now a.rows.now a.ranges.now a.order.now a.counts.now a.reaches.now a.pending.now _ _ _ e.0 e.1 e.2 (sym c.is_rule.ensures ∙ c.if-not-is_rule.false) c.if-read-ne0.true in
    let r = c.refuse-then-read-ne0.ensures in
    (r.0 ∙ h.0, r.1 ∙ h.1, r.2 ∙ h.2, r.3 ∙ h.3, r.4 ∙ h.4, r.5 ∙ h.5, r.6 ∙ h.6)

pub sweep_read-sorted-requires : goal.sweep_read-sorted-requires
sweep_read-sorted-requires c =
    let a = c.args in
    let e = c.read_update-read.ensures in
    blocks_fit a.rule a.form a.update.now a.vector.now a.rows.now a.ranges.now a.order.now a.counts.now a.reaches.now a.pending.now _ _ _ e.0 e.1 e.2

pub returns-then-number-ne0 : goal.returns-then-number-ne0
returns-then-number-ne0 c =
    let a = c.args in
    let e = c.read_update-read.ensures in
    let s = c.sweep_read-sorted.ensures in
    let l = c.sweep_read-sorted.auto in
    let h = unsorted a.rule a.form a.update.now a.vector.now a.rows.now a.ranges.now a.order.now a.counts.now a.reaches.now a.pending.now _ _ _ e.0 e.1 e.2 (sym c.is_rule.ensures ∙ c.if-not-is_rule.false)
    c.if-read-ne0.false (omega (arith, c.well_formed.1.1.1.1.0.0)) _ _ _ _ _ s _ _ _ _ (sym l.order) (sym l.counts) (sym l.reaches) (sym l.pending) _ c.judge-number.ensures c.if-number-ne0.true in
    let r = c.refuse-then-number-ne0.ensures in
    (r.0 ∙ h.0, r.1 ∙ h.1, r.2 ∙ h.2, r.3 ∙ h.3, r.4 ∙ h.4, r.5 ∙ h.5, r.6 ∙ h.6)

pub returns : goal.returns
returns c =
    let a = c.args in
    let e = c.read_update-read.ensures in
    let s = c.sweep_read-sorted.ensures in
    let l = c.sweep_read-sorted.auto in
    let h = sorted a.rule a.form a.update.now a.vector.now a.rows.now a.ranges.now a.order.now a.counts.now a.reaches.now a.pending.now _ _ _ e.0 e.1 e.2 (sym c.is_rule.ensures ∙ c.if-not-is_rule.false)
    c.if-read-ne0.false (omega (arith, c.well_formed.1.1.1.1.0.0)) _ _ _ _ _ s _ _ _ _ (sym l.order) (sym l.counts) (sym l.reaches) (sym l.pending) _ c.judge-number.ensures c.if-number-ne0.false in
    (c.done.ensures ∙ h.0, h.1, h.2, h.3, h.4, h.5, h.6)
