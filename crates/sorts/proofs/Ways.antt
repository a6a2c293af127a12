-- The ways out of a public call that sorts, whatever order its sorter takes, with no machine: what is given and left at each keeps the promise.
use Prim.Native.Nat.{ℕ, ◌/◌, ◌≤◌}
use mathlib.Core.Path.{◌≡◌, refl, sym, ap, ◌∙◌}
use mathlib.Core.Bool.{Bool, true, false}
use mathlib.Core.List.{List, []}
use native.Mathlib.Omega.{arith}
use lib.Dec.{ltb, eqb}
use lib.ListN.{length}
use borrow.Author.Tests.{eqb-false, eq-eqb, ne_eqb, ltb-false}
use Rattle.numbers.specs.declared.Refusal.{Refusal}
use Rattle.numbers.specs.Number.{pick, nowhere}
use Rattle.numbers.specs.Output.{padded}
use Rattle.block.specs.declared.Block.{Block}
use Rattle.grammar.specs.Course.{things}
use Rattle.vector.specs.Vector.{Entry, vector_of}
use Rattle.kept.proofs.Vectors.{why_vector, by_number}
use Rattle.reports.specs.Reports.{fitted}
use Rattle.reports.proofs.Fitted.{fitted-padded, fitted-length}
use Rattle.sorting.specs.Named.{rule_of}
use Rattle.sorter.specs.declared.Sorting.{Sorting}
use Rattle.sorter.specs.Sorter.{no_sorting}
use Rattle.updates.specs.Promises.{Reading, refused, reading, answer, table_of, range_words}
use Rattle.updates.proofs.Read.{rows-length, words-length}
use Rattle.sort_answers.specs.declared.Sorted.{Sorted}
use Rattle.sort_answers.specs.Answers.{is_rule, Sort, refused_with, Room, why_not}
use Rattle.sorts.specs.Promises.{lent, Findings, Finder, sorted_all, why_sort, fitting, against, after_reading, sort_by, Leaves}
use Rattle.sort_answers.specs.Answers.{answered}
use Rattle.sort_answers.specs.AnswersInner.{judged, answer_to}

-- ---- 0 says that there is room for all of it

module _ (m : Room) (o c p q : ℕ) where
  abbrev Fits : Type 0
  Fits = (o ≤ m.order) × (c ≤ m.counts) × (p ≤ m.reaches) × (q ≤ m.pending)

  all_fit : why_not m o c p q ≡ 0 → Fits
  unfolding why_not
  all_fit = go (ltb m.order o) refl (ltb m.counts c) refl (ltb m.reaches p) refl (ltb m.pending q) refl
    where
      go : (x : Bool) → ltb m.order o ≡ x → (y : Bool) → ltb m.counts c ≡ y → (z : Bool) → ltb m.reaches p ≡ z
          → (t : Bool) → ltb m.pending q ≡ t → ◌≡◌ {A = ℕ} (pick x 8 (pick y 10 (pick z 10 (pick t 10 0)))) 0 → Fits
      go true ex y ey z ez t et h = absurd (omega (arith, h))
      go false ex true ey z ez t et h = absurd (omega (arith, h))
      go false ex false ey true ez t et h = absurd (omega (arith, h))
      go false ex false ey false ez true et h = absurd (omega (arith, h))
      go false ex false ey false ez false et h =
          (ltb-false m.order o ex, ltb-false m.counts c ey, ltb-false m.reaches p ez, ltb-false m.pending q et)

module _ (F : Finder) (rule form : ℕ) (u v : List ℕ) (rows₀ : List Block) (ranges₀ order₀ counts₀ reaches₀ pending₀ : List ℕ) where
  abbrev M : ℕ
  M = length rows₀

  abbrev N : ℕ
  N = length ranges₀

  abbrev room : Room
  room = lent order₀ counts₀ reaches₀ pending₀

  abbrev R : Reading
  R = reading form u M (N / 3)

  abbrev es : List Entry
  es = things (vector_of v)

  abbrev s : Sort
  s = sort_by F rule form u v M (N / 3) room

  abbrev Right : Sorted → List Block → List ℕ → List ℕ → List ℕ → List ℕ → List ℕ → Type 0
  Right r rows ranges order counts reaches pending =
      Leaves s rows₀ ranges₀ order₀ counts₀ reaches₀ pending₀ r rows ranges order counts reaches pending

  -- a refusal leaves nothing
  by-refusal : (why : Refusal) (m k : ℕ) (order counts reaches pending : List ℕ) → s ≡ refused_with why → m ≡ M → k ≡ N
      → length order ≡ length order₀ → length counts ≡ length counts₀ → length reaches ≡ length reaches₀ → length pending ≡ length pending₀
      → Right (answered (refused_with why)) (table_of m (refused why)) (range_words k (refused why)) (padded (length order) []) (padded (length counts) [])
      (padded (length reaches) []) (padded (length pending) [])
  by-refusal why m k order counts reaches pending e p q a b c d = (
    ap answered (sym e),
    ap (λ (x : ℕ). table_of x (refused why)) p ∙ ap (λ (x : Sort). table_of M x.reading) (sym e),
    ap (λ (x : ℕ). range_words x (refused why)) q ∙ ap (λ (x : Sort). range_words N x.reading) (sym e),
    ap (λ (x : ℕ). padded x []) a ∙ ap (λ (x : Sort). padded (length order₀) x.order) (sym e),
    ap (λ (x : ℕ). padded x []) b ∙ ap (λ (x : Sort). padded (length counts₀) x.counts) (sym e),
    ap (λ (x : ℕ). padded x []) c ∙ ap (λ (x : Sort). padded (length reaches₀) x.reaches) (sym e),
    ap (λ (x : ℕ). padded x []) d ∙ ap (λ (x : Sort). padded (length pending₀) x.pending) (sym e),
  )

  -- the rule is unknown
  pub exit-unknown : is_rule rule ≡ false
      → Right (answered (refused_with (nowhere 12))) (table_of M (refused (nowhere 12))) (range_words N (refused (nowhere 12))) (padded (length order₀) [])
      (padded (length counts₀) []) (padded (length reaches₀) []) (padded (length pending₀) [])
  unfolding sort_by
  exit-unknown e =
      by-refusal (nowhere 12) M N order₀ counts₀ reaches₀ pending₀
      (ap (λ (x : Bool). pick x (after_reading F (rule_of rule) room (vector_of v) R) (refused_with (nowhere 12))) e) refl refl refl refl refl refl

  abbrev bs : List Block
  bs = R.blocks

  -- what the sorter finds
  abbrev found : Findings
  found = F (rule_of rule) bs es

  -- the vector's refusal, then that of the room
  abbrev w : ℕ
  w = why_vector v

  abbrev last : ℕ
  last = why_sort room (sorted_all F (rule_of rule) es R)

  abbrev all : ℕ
  all = pick (eqb w 0) last w

  abbrev made : Sorting
  made =
      record {
        number = 0;
        steps = length found.order;
        counts = length found.counts;
        reaches = length found.reaches;
        pending = length found.pending;
      }

  -- the sorter gives S and leaves these words
  pub record Gives (S : Sorting) (O C P Q : List ℕ) : Type 0 where
    pub sorting : S ≡ pick (eqb w 0) made (no_sorting w)
    pub order : O ≡ pick (eqb w 0) (fitted (length order₀) found.order) order₀
    pub counts : C ≡ pick (eqb w 0) (fitted (length counts₀) found.counts) counts₀
    pub reaches : P ≡ pick (eqb w 0) (fitted (length reaches₀) found.reaches) reaches₀
    pub pending : Q ≡ pick (eqb w 0) (fitted (length pending₀) found.pending) pending₀

  -- it is known
  module _ (named : is_rule rule ≡ true) where
    known-rule : s ≡ after_reading F (rule_of rule) room (vector_of v) R
    unfolding sort_by
    known-rule = ap (λ (x : Bool). pick x (after_reading F (rule_of rule) room (vector_of v) R) (refused_with (nowhere 12))) named

    pub exit-unread : (R.refusal.number ≡ 0 → ⊥)
        → Right (answered (refused_with R.refusal)) (table_of (length (table_of M R)) (refused R.refusal)) (range_words (length (range_words N R)) (refused R.refusal))
        (padded (length order₀) []) (padded (length counts₀) []) (padded (length reaches₀) []) (padded (length pending₀) [])
    unfolding after_reading
    exit-unread z =
        by-refusal R.refusal (length (table_of M R)) (length (range_words N R)) order₀ counts₀ reaches₀ pending₀
        (known-rule ∙ ap (λ (x : Bool). pick x (against F (rule_of rule) room (vector_of v) R) (refused_with R.refusal)) (ne_eqb R.refusal.number 0 z))
        (rows-length form u M N) (words-length form u M N) refl refl refl refl

    -- ---- the update was read

    module _ (z : R.refusal.number ≡ 0) {S : Sorting} {O C P Q : List ℕ} (g : Gives S O C P Q) where
      sort-at : s ≡ pick (eqb all 0) (sorted_all F (rule_of rule) es R) (refused_with (nowhere all))
      unfolding after_reading against fitting
      sort-at =
          known-rule
          ∙ ap (λ (x : Bool). pick x (against F (rule_of rule) room (vector_of v) R) (refused_with R.refusal)) (eq-eqb R.refusal.number 0 z)
          ∙ by_number v (pick (eqb last 0) (sorted_all F (rule_of rule) es R) (refused_with (nowhere last))) (λ n. refused_with (nowhere n)) ∙ go (eqb w 0) refl
        where
          go : (x : Bool) → eqb w 0 ≡ x
              → pick x (pick (eqb last 0) (sorted_all F (rule_of rule) es R) (refused_with (nowhere last))) (refused_with (nowhere w))
              ≡ pick (eqb (pick x last w) 0) (sorted_all F (rule_of rule) es R) (refused_with (nowhere (pick x last w)))
          go true e = refl
          go false e = rw e refl

      -- what was lent is as long as it was
      same_size : (l ws before : List ℕ) → l ≡ pick (eqb w 0) (fitted (length before) ws) before → length l ≡ length before
      same_size l ws before e = ap length e ∙ go (eqb w 0)
        where
          go : (x : Bool) → length (pick x (fitted (length before) ws) before) ≡ length before
          go true = fitted-length (length before) ws
          go false = refl

      -- ---- judged with so many words

      module _ (order counts reaches pending : ℕ) (a : length order₀ ≡ order) (b : length counts₀ ≡ counts) (c : length reaches₀ ≡ reaches)
          (d : length pending₀ ≡ pending) where
        abbrev why : ℕ
        why = judged S order counts reaches pending

        why-at : why ≡ all
        unfolding judged why_sort sorted_all
        why-at = rw (← a, ← b, ← c, ← d, g.sorting) (go (eqb w 0) refl)
          where
            go : (x : Bool) → eqb w 0 ≡ x
                → judged (pick x made (no_sorting w)) (length order₀) (length counts₀) (length reaches₀) (length pending₀) ≡ pick x last w
            go true e = refl
            go false e = rw e refl

        pub exit-refused : (why ≡ 0 → ⊥)
            → Right (answered (refused_with (nowhere why))) (table_of (length (table_of M R)) (refused (nowhere why)))
            (range_words (length (range_words N R)) (refused (nowhere why))) (padded (length O) []) (padded (length C) []) (padded (length P) []) (padded (length Q) [])
        exit-refused h =
            by-refusal (nowhere why) (length (table_of M R)) (length (range_words N R)) O C P Q
            (sort-at ∙ ap (λ (x : Bool). pick x (sorted_all F (rule_of rule) es R) (refused_with (nowhere all))) (ne_eqb all 0 (λ e. h (why-at ∙ e)))
            ∙ ap (λ (n : ℕ). refused_with (nowhere n)) (sym why-at))
            (rows-length form u M N) (words-length form u M N) (same_size O _ order₀ g.order) (same_size C _ counts₀ g.counts)
            (same_size P _ reaches₀ g.reaches) (same_size Q _ pending₀ g.pending)

        pub exit-done : why ≡ 0 → Right (answer_to (answer R) S) (table_of M R) (range_words N R) O C P Q
        unfolding answer_to answer answered sorted_all why_sort
        exit-done h = (
          ap (answer_to (answer R)) (g.sorting ∙ ap (λ (x : Bool). pick x made (no_sorting w)) read) ∙ ap answered (sym done-is),
          ap (λ (x : Sort). table_of M x.reading) (sym done-is),
          ap (λ (x : Sort). range_words N x.reading) (sym done-is),
          stands O found.order order₀ g.order fits.0 ∙ ap (λ (x : Sort). padded (length order₀) x.order) (sym done-is),
          stands C found.counts counts₀ g.counts fits.1 ∙ ap (λ (x : Sort). padded (length counts₀) x.counts) (sym done-is),
          stands P found.reaches reaches₀ g.reaches fits.2 ∙ ap (λ (x : Sort). padded (length reaches₀) x.reaches) (sym done-is),
          stands Q found.pending pending₀ g.pending fits.3 ∙ ap (λ (x : Sort). padded (length pending₀) x.pending) (sym done-is),
        )
          where
            fine : all ≡ 0
            fine = sym why-at ∙ h

            both : (eqb w 0 ≡ true) × (last ≡ 0)
            both = go (eqb w 0) refl fine
              where
                go : (x : Bool) → eqb w 0 ≡ x → pick x last w ≡ 0 → (x ≡ true) × (last ≡ 0)
                go true e h = (refl, h)
                go false e h = absurd (eqb-false w 0 e h)

            read : eqb w 0 ≡ true
            read = both.0

            fits : Fits room (length found.order) (length found.counts) (length found.reaches) (length found.pending)
            fits = all_fit room (length found.order) (length found.counts) (length found.reaches) (length found.pending) both.1

            done-is : s ≡ sorted_all F (rule_of rule) es R
            done-is = sort-at ∙ ap (λ (x : Bool). pick x (sorted_all F (rule_of rule) es R) (refused_with (nowhere all))) (eq-eqb all 0 fine)

            stands : (l ws before : List ℕ) → l ≡ pick (eqb w 0) (fitted (length before) ws) before → length ws ≤ length before → l ≡ padded (length before) ws
            stands l ws before e f = e ∙ ap (λ (x : Bool). pick x (fitted (length before) ws) before) read ∙ fitted-padded (length before) ws f
