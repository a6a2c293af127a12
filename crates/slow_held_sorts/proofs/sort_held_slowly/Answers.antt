-- `slow_held_sorts::sort_held_slowly` meets its contract: the ways out of `sort_held` with the sorter that sweeps (Exits).
use Rattle.std.proofs.Common.{ℕ, List, [], true, false, length, take, ap, sym, ◌∙◌, ◌≡◌, ◌≢◌, ◌*◌, ◌/◌, ◌≤◌, arith}
use Rattle.block.specs.declared.Block.{Block}
use Rattle.numbers.specs.Number.{nowhere}
use Rattle.numbers.specs.Output.{padded}
use Rattle.picker.specs.Picker.{nowhere as no_row}
use Rattle.reports.specs.Reports.{fitted}
use Rattle.slots.specs.Slots.{Slot}
use Rattle.sorter.specs.declared.Sorting.{Sorting}
use Rattle.sorter.specs.Sorter.{slots_for, max_reaches}
use Rattle.updates.specs.declared.Update.{Update}
use Rattle.updates.specs.Promises.{Reading, refused, reading, answer, table_of, range_words}
use Rattle.sort_answers.specs.AnswersInner.{judged}
use Rattle.slow_held_sorter.specs.SlowHeld.{sorting_at, order_by, counts_by, pending_by}
use Rattle.held_answers.specs.declared.HeldRead.{HeldRead}
use Rattle.held_answers.specs.declared.SortedHeld.{SortedHeld}
use Rattle.held_answers.specs.Answers.{refused_with, answered}
use Rattle.held_answers.specs.AnswersInner.{read_held, words_given, answer_to}
use Rattle.held_sorts.proofs.Ways.{exit-unread, exit-ungiven, exit-refused, exit-done, asks, Gives}
use Rattle.slow_held_sorts.specs.Promises.{slowly, SortHeldSlowly}
use Rattle.slow_held_sorts.proofs.Exits.{gives}
use Rattle.slow_held_sorts.proofs.sort_held_slowly.Goals as goal

module _ (form : ℕ) (u v : List ℕ) (rows₀ : List Block) (ranges₀ given₀ order₀ counts₀ pending₀ : List ℕ) where
  abbrev R : Reading
  R = reading form u (length rows₀) (length ranges₀ / 3)

  abbrev Right : SortedHeld → List Block → List ℕ → List ℕ → List ℕ → List ℕ → List ℕ → Type 0
  Right = SortHeldSlowly form u v rows₀ ranges₀ given₀ order₀ counts₀ pending₀

  -- what was read
  module _ (read : Update) (rows : List Block) (ranges : List ℕ) (er : read ≡ answer R) (ew : rows ≡ table_of (length rows₀) R) (eg : ranges ≡ range_words (length ranges₀) R) where
    unread : read.refusal.number ≢ 0
        → Right (answered (refused_with read.refusal)) (table_of (length rows) (refused read.refusal)) (range_words (length ranges) (refused read.refusal)) (padded (length given₀) [])
        (padded (length order₀) []) (padded (length counts₀) []) (padded (length pending₀) [])
    unfolding answer
    unread n = rw (er, ew, eg) (exit-unread slowly form u v rows₀ ranges₀ given₀ order₀ counts₀ pending₀ (λ z. n (ap (λ (x : Update). x.refusal.number) er ∙ z)))

    read_well : read.refusal.number ≡ 0 → R.refusal.number ≡ 0
    unfolding answer
    read_well z = sym (ap (λ (x : Update). x.refusal.number) er) ∙ z

    -- the held ids
    module _ (z : R.refusal.number ≡ 0) (ids : HeldRead) (words : List ℕ) (ei : ids ≡ read_held v (length given₀)) (ed : words ≡ words_given v (length given₀)) where
      ungiven : ids.refused ≡ true
          → Right (answered (refused_with (nowhere ids.number))) (table_of (length rows) (refused (nowhere ids.number))) (range_words (length ranges) (refused (nowhere ids.number)))
          (padded (length words) []) (padded (length order₀) []) (padded (length counts₀) []) (padded (length pending₀) [])
      ungiven y = rw (ew, eg, ei, ed) (exit-ungiven slowly form u v rows₀ ranges₀ given₀ order₀ counts₀ pending₀ z (sym (ap (λ (x : HeldRead). x.refused) ei) ∙ y))

      given_well : ids.refused ≡ false → (read_held v (length given₀)).refused ≡ false
      given_well y = sym (ap (λ (x : HeldRead). x.refused) ei) ∙ y

      module _ (y : (read_held v (length given₀)).refused ≡ false) where
        asked : (read.blocks ≤ length rows) × (3 * ids.ranges ≤ length words)
        asked = rw (er, ew, ei, ed) (asks slowly form u v rows₀ ranges₀ given₀ order₀ counts₀ pending₀ z y)

        abbrev ss : List Slot
        ss = slots_for max_reaches (take read.blocks rows) []

        -- what was sorted
        module _ (short : length rows₀ ≤ no_row) (S : Sorting) (O C Q : List ℕ) (eS : S ≡ sorting_at words ids.ranges ss rows order₀)
            (eO : O ≡ order_by words ids.ranges ss rows order₀) (eC : C ≡ fitted (length counts₀) (counts_by words ids.ranges ss rows order₀))
            (eQ : Q ≡ fitted (length pending₀) (pending_by words ids.ranges ss rows order₀)) where
          found : Gives slowly form u v rows₀ ranges₀ given₀ order₀ counts₀ pending₀ z y S O C Q
          found = rw (eS, eO, eC, eQ, er, ew, ei, ed) (gives form u v rows₀ ranges₀ given₀ order₀ counts₀ pending₀ z y short)

          module _ (o c q : ℕ) (ao : length order₀ ≡ o) (ac : length counts₀ ≡ c) (aq : length pending₀ ≡ q) (number : ℕ) (en : number ≡ judged S o c 0 q) where
            unsorted : number ≢ 0
                → Right (answered (refused_with (nowhere number))) (table_of (length rows) (refused (nowhere number))) (range_words (length ranges) (refused (nowhere number)))
                (padded (length words) []) (padded (length O) []) (padded (length C) []) (padded (length Q) [])
            unsorted n = rw (en, ew, eg, ed) (exit-refused slowly form u v rows₀ ranges₀ given₀ order₀ counts₀ pending₀ z y found o c q ao ac aq (λ x. n (en ∙ x)))

            sorted : number ≡ 0 → Right (answer_to read ids.ranges S) rows ranges words O C Q
            sorted n = rw (er, ew, eg, ei, ed) (exit-done slowly form u v rows₀ ranges₀ given₀ order₀ counts₀ pending₀ z y found o c q ao ac aq (sym en ∙ n))

pub returns-then-read-ne0 : goal.returns-then-read-ne0
returns-then-read-ne0 c =
    let a = c.args in
    let e = c.read_update-read.ensures in
    let h = unread a.form a.update.now a.held.now a.rows.now a.ranges.now a.given.now a.order.now a.counts.now a.pending.now _ _ _ e.0 e.1 e.2 c.if-read-ne0.true in
    let r = c.refuse.ensures in
    (r.0 ∙ h.0, r.1 ∙ h.1, r.2 ∙ h.2, r.3 ∙ h.3, r.4 ∙ h.4, r.5 ∙ h.5, r.6 ∙ h.6)

pub returns-then-ids : goal.returns-then-ids
returns-then-ids c =
    let a = c.args in
    let e = c.read_update-read.ensures in
    let g = c.read_held-ids.ensures in
    let z = read_well a.form a.update.now a.held.now a.rows.now a.ranges.now a.given.now a.order.now a.counts.now a.pending.now _ _ _ e.0 e.1 e.2 c.if-read-ne0.false in
    let h = ungiven a.form a.update.now a.held.now a.rows.now a.ranges.now a.given.now a.order.now a.counts.now a.pending.now _ _ _ e.0 e.1 e.2 z _ _ g.0 g.1 c.if-ids.true in
    let r = c.refuse-then-ids.ensures in
    (r.0 ∙ h.0, r.1 ∙ h.1, r.2 ∙ h.2, r.3 ∙ h.3, r.4 ∙ h.4, r.5 ∙ h.5, r.6 ∙ h.6)

pub sweep_kept-sorted-requires : goal.sweep_kept-sorted-requires
sweep_kept-sorted-requires c =
    let a = c.args in
    let e = c.read_update-read.ensures in
    let g = c.read_held-ids.ensures in
    let z = read_well a.form a.update.now a.held.now a.rows.now a.ranges.now a.given.now a.order.now a.counts.now a.pending.now _ _ _ e.0 e.1 e.2 c.if-read-ne0.false in
    let y = given_well a.form a.update.now a.held.now a.rows.now a.ranges.now a.given.now a.order.now a.counts.now a.pending.now _ _ _ e.0 e.1 e.2 z _ _ g.0 g.1 c.if-ids.false in
    asked a.form a.update.now a.held.now a.rows.now a.ranges.now a.given.now a.order.now a.counts.now a.pending.now _ _ _ e.0 e.1 e.2 z _ _ g.0 g.1 y

pub returns-then-number-ne0 : goal.returns-then-number-ne0
returns-then-number-ne0 c =
    let a = c.args in
    let e = c.read_update-read.ensures in
    let g = c.read_held-ids.ensures in
    let z = read_well a.form a.update.now a.held.now a.rows.now a.ranges.now a.given.now a.order.now a.counts.now a.pending.now _ _ _ e.0 e.1 e.2 c.if-read-ne0.false in
    let y = given_well a.form a.update.now a.held.now a.rows.now a.ranges.now a.given.now a.order.now a.counts.now a.pending.now _ _ _ e.0 e.1 e.2 z _ _ g.0 g.1 c.if-ids.false in
    let s = c.sweep_kept-sorted.ensures in
    let l = c.sweep_kept-sorted.auto in
    let h = unsorted a.form a.update.now a.held.now a.rows.now a.ranges.now a.given.now a.order.now a.counts.now a.pending.now _ _ _ e.0 e.1 e.2 z _ _ g.0 g.1 y
    (omega arith) _ _ _ _ s.0 s.1 s.2 s.3 _ _ _ (sym l.order) (sym l.counts) (sym l.pending) _ c.judge-number.ensures c.if-number-ne0.true in
    let r = c.refuse-then-number-ne0.ensures in
    (r.0 ∙ h.0, r.1 ∙ h.1, r.2 ∙ h.2, r.3 ∙ h.3, r.4 ∙ h.4, r.5 ∙ h.5, r.6 ∙ h.6)

pub returns : goal.returns
returns c =
    let a = c.args in
    let e = c.read_update-read.ensures in
    let g = c.read_held-ids.ensures in
    let z = read_well a.form a.update.now a.held.now a.rows.now a.ranges.now a.given.now a.order.now a.counts.now a.pending.now _ _ _ e.0 e.1 e.2 c.if-read-ne0.false in
    let y = given_well a.form a.update.now a.held.now a.rows.now a.ranges.now a.given.now a.order.now a.counts.now a.pending.now _ _ _ e.0 e.1 e.2 z _ _ g.0 g.1 c.if-ids.false in
    let s = c.sweep_kept-sorted.ensures in
    let l = c.sweep_kept-sorted.auto in
    let h = sorted a.form a.update.now a.held.now a.rows.now a.ranges.now a.given.now a.order.now a.counts.now a.pending.now _ _ _ e.0 e.1 e.2 z _ _ g.0 g.1 y
    (omega arith) _ _ _ _ s.0 s.1 s.2 s.3 _ _ _ (sym l.order) (sym l.counts) (sym l.pending) _ c.judge-number.ensures c.if-number-ne0.false in
    (c.done.ensures ∙ h.0, h.1, h.2, h.3, h.4, h.5, h.6)
