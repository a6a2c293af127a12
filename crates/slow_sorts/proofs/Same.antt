-- W-211: what is sorted slowly is an allowed run, carried to its end, and it is the run of sweeps; and where `sort` and `sort_slowly` are asked the same, their
-- answers, tables and reports are the same, refusals too. Only the order differs.
use Prim.Native.Nat.{ℕ, ◌/◌}
use mathlib.Core.Path.{◌≡◌, refl, sym, ap, subst, ◌∙◌}
use mathlib.Core.Bool.{Bool, true, false}
use mathlib.Core.List.{List}
use native.Mathlib.Omega.{arith}
use lib.Dec.{eqb}
use lib.ListN.{length}
use Rattle.numbers.specs.Number.{pick, nowhere}
use Rattle.numbers.specs.Output.{padded}
use Rattle.block.specs.declared.Block.{Block}
use Rattle.grammar.specs.Course.{Course, things, ending}
use Rattle.vector.specs.Vector.{Entry, vector_of}
use Rattle.kept.specs.Kept.{remote}
use Rattle.kept.proofs.Vectors.{why_vector}
use Rattle.sorting.specs.Steps.{start, Sorts}
use Rattle.sorting.specs.Rules.{Rule}
use Rattle.sorting.specs.Named.{asks_of, rule_of}
use Rattle.sorting.specs.Sorted.{all_clients, steps, numbers_by, counts_in, reaches_in, pending_in}
use Rattle.sorting.specs.Slow.{slow, slow_steps as slow_run, slow_outcome, slow_order_of, slow_counts_of, slow_reaches_of, slow_pending_of}
use Rattle.sorting.proofs.Rules.{RuleMonotone, reaches-mono}
use Rattle.sorting.proofs.Clients.{clients-blocks}
use Rattle.sorting.proofs.Slow.{slow-sorted, same-counts, same-reaches, same-pending, same-steps}
use Rattle.updates.specs.Promises.{Reading, reading, table_of, range_words}
use Rattle.sort_answers.specs.declared.Sorted.{Sorted}
use Rattle.sort_answers.specs.Answers.{is_rule, Sort, refused_with, Room, why_not, answered}
use Rattle.sorts.specs.Promises.{lent, quickly, sorted_all, why_sort, fitting, against, after_reading, sort_by, sort_of, SortUpdate}
use Rattle.sorts.specs.Demand.{end_state}
use Rattle.sorts.proofs.Demand.{against-is, after-done}
use Rattle.slow_sorts.specs.Promises.{slowly, slow_sort_of, SortSlowly}

-- ---- the order

-- the slow sort s of r against c by R
pub record Swept (R : Rule ℕ) (r : Reading) (c : Course Entry) (s : Sort) : Type 0 where
  -- both were read whole
  pub read : (r.refusal.number ≡ 0) × (ending c (λ _. true) (λ _. false) ≡ true)
  pub reading : s.reading ≡ r
  -- the client of each step: an allowed run, carried to its end, and the run of sweeps
  pub run : List ℕ
  pub sorts : Sorts (steps R r.blocks) (remote (things c)) run
  pub sweeps : run ≡ slow (steps R r.blocks) (all_clients r.blocks (things c)) (start (remote (things c)))
  -- the numbers of the blocks that it takes, and the reports on where it ends
  pub order : s.order ≡ numbers_by R r.blocks (start (remote (things c))) run
  pub counts : s.counts ≡ counts_in r.blocks (end_state R r c run) (all_clients r.blocks (things c))
  pub reaches : s.reaches ≡ reaches_in (end_state R r c run) (all_clients r.blocks (things c))
  pub pending : s.pending ≡ pending_in R r.blocks (end_state R r c run) (all_clients r.blocks (things c))

whole-swept : (R : Rule ℕ) → RuleMonotone R → (r : Reading) (c : List ℕ) → r.refusal.number ≡ 0 → ending (vector_of c) (λ _. true) (λ _. false) ≡ true
    → Swept R r (vector_of c) (sorted_all slowly R (things (vector_of c)) r)
unfolding sorted_all slow_outcome slow_order_of slow_counts_of slow_reaches_of slow_pending_of slow_run
whole-swept R mono r c z ends =
    let bs = r.blocks in
    let v = things (vector_of c) in
    record {
      read = (z, ends);
      reading = refl;
      run = slow (steps R bs) (all_clients bs v) (start (remote v));
      sorts = slow-sorted R mono bs (all_clients bs v) (clients-blocks bs v) (remote v);
      sweeps = refl;
      order = refl;
      counts = refl;
      reaches = refl;
      pending = refl;
    }

-- a slow sort that refuses nothing is the run of sweeps, by the rule that the caller names
pub swept-by : (rule form : ℕ) (u v : List ℕ) (block_rows range_rows : ℕ) (m : Room) → (slow_sort_of rule form u v block_rows range_rows m).refusal.number ≡ 0
    → Swept (rule_of rule) (reading form u block_rows range_rows) (vector_of v) (slow_sort_of rule form u v block_rows range_rows m)
unfolding sort_by
swept-by rule form u v block_rows range_rows m h = go (is_rule rule) h
  where
    r : Reading
    r = reading form u block_rows range_rows

    go : (x : Bool) → (pick x (after_reading slowly (rule_of rule) m (vector_of v) r) (refused_with (nowhere 12))).refusal.number ≡ 0
        → Swept (rule_of rule) r (vector_of v) (pick x (after_reading slowly (rule_of rule) m (vector_of v) r) (refused_with (nowhere 12)))
    go true h =
        let (z, ends, is) = after-done slowly (rule_of rule) m v r h in
        subst (Swept (rule_of rule) r (vector_of v)) (sym is) (whole-swept (rule_of rule) (reaches-mono (asks_of rule)) r v z ends)
    go false h = absurd (omega (arith, h))

-- ---- the same but for the order

pub record Alike (s t : Sort) : Type 0 where
  pub refusal : s.refusal ≡ t.refusal
  pub steps : length s.order ≡ length t.order
  pub counts : s.counts ≡ t.counts
  pub reaches : s.reaches ≡ t.reaches
  pub pending : s.pending ≡ t.pending
  pub reading : s.reading ≡ t.reading

same : (s : Sort) → Alike s s
same s = record { refusal = refl; steps = refl; counts = refl; reaches = refl; pending = refl; reading = refl }

alike-pick : (x : Bool) (s t r q : Sort) → Alike s t → Alike r q → Alike (pick x s r) (pick x t q)
alike-pick true s t r q a b = a
alike-pick false s t r q a b = b

module _ (R : Rule ℕ) (mono : RuleMonotone R) (m : Room) (v : List ℕ) (r : Reading) where
  abbrev es : List Entry
  es = things (vector_of v)

  whole-alike : Alike (sorted_all slowly R es r) (sorted_all quickly R es r)
  unfolding sorted_all
  whole-alike = record {
    refusal = refl;
    steps = same-steps R mono r.blocks es;
    counts = same-counts R mono r.blocks es;
    reaches = same-reaches R mono r.blocks es;
    pending = same-pending R mono r.blocks es;
    reading = refl;
  }

  judged-alike : (why : ℕ) (s t : Sort) → Alike s t → Alike (pick (eqb why 0) s (refused_with (nowhere why))) (pick (eqb why 0) t (refused_with (nowhere why)))
  judged-alike why s t a = alike-pick (eqb why 0) s t (refused_with (nowhere why)) (refused_with (nowhere why)) a (same _)

  why-same : (s t : Sort) → Alike s t → why_sort m s ≡ why_sort m t
  unfolding why_sort
  why-same s t a = λ i. why_not m (a.steps i) (length (a.counts i)) (length (a.reaches i)) (length (a.pending i))

  fitting-alike : (s t : Sort) → Alike s t → Alike (fitting m s) (fitting m t)
  unfolding fitting
  fitting-alike s t a =
      subst (λ (why : ℕ). Alike (pick (eqb why 0) s (refused_with (nowhere why))) (pick (eqb (why_sort m t) 0) t (refused_with (nowhere (why_sort m t)))))
      (sym (why-same s t a)) (judged-alike (why_sort m t) s t a)

  against-alike : Alike (against slowly R m (vector_of v) r) (against quickly R m (vector_of v) r)
  against-alike = rw (against-is slowly R m v r, against-is quickly R m v r)
      (alike-pick (eqb (why_vector v) 0) _ _ _ _ (fitting-alike _ _ whole-alike) (same (refused_with (nowhere (why_vector v)))))

  reading-alike : Alike (after_reading slowly R m (vector_of v) r) (after_reading quickly R m (vector_of v) r)
  unfolding after_reading
  reading-alike = alike-pick (eqb r.refusal.number 0) _ _ _ _ against-alike (same (refused_with r.refusal))

sorts-alike : (rule form : ℕ) (u v : List ℕ) (block_rows range_rows : ℕ) (m : Room)
    → Alike (slow_sort_of rule form u v block_rows range_rows m) (sort_of rule form u v block_rows range_rows m)
unfolding sort_by
sorts-alike rule form u v block_rows range_rows m =
    alike-pick (is_rule rule) _ _ _ _ (reading-alike (rule_of rule) (reaches-mono (asks_of rule)) m v (reading form u block_rows range_rows)) (same (refused_with (nowhere 12)))

answers-alike : (s t : Sort) → Alike s t → answered s ≡ answered t
unfolding answered
answers-alike s t a = rw (a.refusal, a.steps, a.counts, a.reaches, a.pending, a.reading) refl

-- from both promises: bytes in, words out
pub same-reports : (rule form : ℕ) (u v : List ℕ) (rows : List Block) (ranges order counts reaches pending : List ℕ)
    (r s : Sorted) (rows₁ rows₂ : List Block) (ranges₁ ranges₂ order₁ order₂ counts₁ counts₂ reaches₁ reaches₂ pending₁ pending₂ : List ℕ)
    → SortSlowly rule form u v rows ranges order counts reaches pending r rows₁ ranges₁ order₁ counts₁ reaches₁ pending₁
    → SortUpdate rule form u v rows ranges order counts reaches pending s rows₂ ranges₂ order₂ counts₂ reaches₂ pending₂
    → (r ≡ s) × (rows₁ ≡ rows₂) × (ranges₁ ≡ ranges₂) × (counts₁ ≡ counts₂) × (reaches₁ ≡ reaches₂) × (pending₁ ≡ pending₂)
same-reports rule form u v rows ranges order counts reaches pending r s rows₁ rows₂ ranges₁ ranges₂ order₁ order₂ counts₁ counts₂ reaches₁ reaches₂ pending₁ pending₂ a b =
    let e = sorts-alike rule form u v (length rows) (length ranges / 3) (lent order counts reaches pending) in (
      a.0 ∙ answers-alike _ _ e ∙ sym b.0,
      a.1 ∙ ap (table_of (length rows)) e.reading ∙ sym b.1,
      a.2 ∙ ap (range_words (length ranges)) e.reading ∙ sym b.2,
      a.4 ∙ ap (padded (length counts)) e.counts ∙ sym b.4,
      a.5 ∙ ap (padded (length reaches)) e.reaches ∙ sym b.5,
      a.6 ∙ ap (padded (length pending)) e.pending ∙ sym b.6,
    )
