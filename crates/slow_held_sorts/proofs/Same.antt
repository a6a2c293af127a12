-- W-211: what is sorted slowly by held ids is an allowed run, carried to its end, and it is the run of sweeps; and where `sort_held` and `sort_held_slowly` are
-- asked the same, their answers, tables and reports are the same, refusals too. Only the order differs.
use Prim.Native.Nat.{ℕ, ◌/◌}
use mathlib.Core.Path.{◌≡◌, refl, sym, ap, subst, ◌∙◌}
use mathlib.Core.Bool.{Bool, true, false}
use mathlib.Core.List.{List}
use lib.Dec.{eqb}
use lib.ListN.{length}
use Rattle.numbers.specs.Number.{pick, nowhere}
use Rattle.numbers.specs.Output.{padded}
use Rattle.block.specs.declared.Block.{Block}
use Rattle.grammar.specs.Course.{Course, thing, over, stopped, fit, things, ending}
use Rattle.ranges.specs.Ranges.{Range, normal}
use Rattle.ranges.specs.Table.{flat}
use Rattle.decoder.specs.Update.{delete_set}
use Rattle.sorting.specs.Steps.{start, after, Sorts}
use Rattle.sorting.specs.Sorted.{steps, numbers_by, counts_in, pending_in}
use Rattle.sorting.specs.Slow.{slow, slow_steps as slow_run, slow_outcome}
use Rattle.sorting.specs.Held.{rule_held, held_in, owners}
use Rattle.updates.specs.Promises.{Reading, reading, table_of, range_words}
use Rattle.sort_answers.specs.Answers.{Room, why_not}
use Rattle.held_answers.specs.declared.SortedHeld.{SortedHeld}
use Rattle.held_answers.specs.Answers.{SortHeld, refused_with, answered}
use Rattle.held_swept.specs.HeldSlowly.{slow_order_held, slow_counts_held, slow_pending_held}
use Rattle.held_swept.proofs.Same.{held-slowly, same-counts, same-pending, same-steps}
use Rattle.held_sorts.specs.Promises.{lent, quickly, sorted_all, why_sort, fitting, against, after_reading, sort_held_by, sort_held_of, SortUpdateHeld}
use Rattle.held_sorts.proofs.Demand.{after-done}
use Rattle.slow_held_sorts.specs.Promises.{slowly, slow_sort_held_of, SortHeldSlowly}

-- ---- the order

-- the slow sort s of r by the held ids c
pub record Swept (r : Reading) (c : Course Range) (s : SortHeld) : Type 0 where
  -- both were read whole, and the held ids stand as they were given, in normal form
  pub read : (r.refusal.number ≡ 0) × (ending c (λ _. true) (λ _. false) ≡ true)
  pub reading : s.reading ≡ r
  pub held : s.held ≡ normal (things c)
  -- the client of each step: an allowed run, carried to its end, and the run of sweeps
  pub run : List ℕ
  pub sorts : Sorts (steps rule_held r.blocks) (held_in (normal (things c))) run
  pub sweeps : run ≡ slow (steps rule_held r.blocks) (owners r.blocks) (start (held_in (normal (things c))))
  -- the numbers of the blocks that it takes, and the reports on where it ends
  pub order : s.order ≡ numbers_by rule_held r.blocks (start (held_in (normal (things c)))) run
  pub counts : s.counts ≡ counts_in r.blocks (after (steps rule_held r.blocks) (start (held_in (normal (things c)))) run) (owners r.blocks)
  pub pending : s.pending ≡ pending_in rule_held r.blocks (after (steps rule_held r.blocks) (start (held_in (normal (things c)))) run) (owners r.blocks)

whole-swept : (r : Reading) (c : Course Range) → r.refusal.number ≡ 0 → ending c (λ _. true) (λ _. false) ≡ true → Swept r c (sorted_all slowly (normal (things c)) r)
unfolding sorted_all slow_outcome slow_order_held slow_counts_held slow_pending_held slow_run
whole-swept r c z ends = record {
  read = (z, ends);
  reading = refl;
  held = refl;
  run = slow (steps rule_held r.blocks) (owners r.blocks) (start (held_in (normal (things c))));
  sorts = held-slowly r.blocks (normal (things c));
  sweeps = refl;
  order = refl;
  counts = refl;
  pending = refl;
}

-- a slow sort that refuses nothing is the run of sweeps
pub swept-by : (form : ℕ) (u v : List ℕ) (block_rows range_rows held_rows : ℕ) (m : Room) → (slow_sort_held_of form u v block_rows range_rows held_rows m).refusal.number ≡ 0
    → Swept (reading form u block_rows range_rows) (fit held_rows (delete_set 1 v 0)) (slow_sort_held_of form u v block_rows range_rows held_rows m)
swept-by form u v block_rows range_rows held_rows m h =
    let w = after-done slowly form u v block_rows range_rows held_rows m h in
    subst (Swept (reading form u block_rows range_rows) (fit held_rows (delete_set 1 v 0))) (sym w.2)
    (whole-swept (reading form u block_rows range_rows) (fit held_rows (delete_set 1 v 0)) w.0 w.1)

-- ---- the same but for the order

pub record Alike (s t : SortHeld) : Type 0 where
  pub refusal : s.refusal ≡ t.refusal
  pub steps : length s.order ≡ length t.order
  pub counts : s.counts ≡ t.counts
  pub pending : s.pending ≡ t.pending
  pub held : s.held ≡ t.held
  pub reading : s.reading ≡ t.reading

same : (s : SortHeld) → Alike s s
same s = record { refusal = refl; steps = refl; counts = refl; pending = refl; held = refl; reading = refl }

alike-pick : (x : Bool) (s t r q : SortHeld) → Alike s t → Alike r q → Alike (pick x s r) (pick x t q)
alike-pick true s t r q a b = a
alike-pick false s t r q a b = b

whole-alike : (rs : List Range) (r : Reading) → Alike (sorted_all slowly rs r) (sorted_all quickly rs r)
unfolding sorted_all
whole-alike rs r = record {
  refusal = refl;
  steps = same-steps r.blocks rs;
  counts = same-counts r.blocks rs;
  pending = same-pending r.blocks rs;
  held = refl;
  reading = refl;
}

module _ (m : Room) where
  why-same : (s t : SortHeld) → Alike s t → why_sort m s ≡ why_sort m t
  unfolding why_sort
  why-same s t a = λ i. why_not m (a.steps i) (length (a.counts i)) 0 (length (a.pending i))

  fitting-alike : (s t : SortHeld) → Alike s t → Alike (fitting m s) (fitting m t)
  unfolding fitting
  fitting-alike s t a =
      subst (λ (why : ℕ). Alike (pick (eqb why 0) s (refused_with (nowhere why))) (pick (eqb (why_sort m t) 0) t (refused_with (nowhere (why_sort m t)))))
      (sym (why-same s t a)) (alike-pick (eqb (why_sort m t) 0) s t _ _ a (same (refused_with (nowhere (why_sort m t)))))

  -- held ids that are read or refused alike
  ending-alike : (c : Course Range) (s t : SortHeld) → Alike s t
      → Alike (ending c (λ _. s) (λ why. refused_with (nowhere why.number))) (ending c (λ _. t) (λ why. refused_with (nowhere why.number)))
  unfolding ending
  ending-alike (thing r p c) s t a = ending-alike c s t a
  ending-alike (over x e) s t a = a
  ending-alike (stopped why) s t a = same (refused_with (nowhere why.number))

  reading-alike : (c : Course Range) (r : Reading) → Alike (after_reading slowly m c r) (after_reading quickly m c r)
  unfolding after_reading against
  reading-alike c r =
      alike-pick (eqb r.refusal.number 0) _ _ _ _ (ending-alike c _ _ (fitting-alike _ _ (whole-alike (normal (things c)) r))) (same (refused_with r.refusal))

sorts-alike : (form : ℕ) (u v : List ℕ) (block_rows range_rows held_rows : ℕ) (m : Room)
    → Alike (slow_sort_held_of form u v block_rows range_rows held_rows m) (sort_held_of form u v block_rows range_rows held_rows m)
unfolding sort_held_by
sorts-alike form u v block_rows range_rows held_rows m = reading-alike m (fit held_rows (delete_set 1 v 0)) (reading form u block_rows range_rows)

answers-alike : (s t : SortHeld) → Alike s t → answered s ≡ answered t
unfolding answered
answers-alike s t a = rw (a.refusal, a.steps, a.counts, a.pending, a.held, a.reading) refl

-- from both promises: bytes in, words out
pub same-reports : (form : ℕ) (u v : List ℕ) (rows : List Block) (ranges given order counts pending : List ℕ)
    (r s : SortedHeld) (rows₁ rows₂ : List Block) (ranges₁ ranges₂ given₁ given₂ order₁ order₂ counts₁ counts₂ pending₁ pending₂ : List ℕ)
    → SortHeldSlowly form u v rows ranges given order counts pending r rows₁ ranges₁ given₁ order₁ counts₁ pending₁
    → SortUpdateHeld form u v rows ranges given order counts pending s rows₂ ranges₂ given₂ order₂ counts₂ pending₂
    → (r ≡ s) × (rows₁ ≡ rows₂) × (ranges₁ ≡ ranges₂) × (given₁ ≡ given₂) × (counts₁ ≡ counts₂) × (pending₁ ≡ pending₂)
same-reports form u v rows ranges given order counts pending r s rows₁ rows₂ ranges₁ ranges₂ given₁ given₂ order₁ order₂ counts₁ counts₂ pending₁ pending₂ a b =
    let e = sorts-alike form u v (length rows) (length ranges / 3) (length given / 3) (lent order counts pending) in (
      a.0 ∙ answers-alike _ _ e ∙ sym b.0,
      a.1 ∙ ap (table_of (length rows)) e.reading ∙ sym b.1,
      a.2 ∙ ap (range_words (length ranges)) e.reading ∙ sym b.2,
      a.3 ∙ ap (λ (x : List Range). padded (length given) (flat x)) e.held ∙ sym b.3,
      a.5 ∙ ap (padded (length counts)) e.counts ∙ sym b.5,
      a.6 ∙ ap (padded (length pending)) e.pending ∙ sym b.6,
    )
