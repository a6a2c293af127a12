-- What `sort` promises is demand 3: a sort that refuses nothing is the one that demand 3 asks for, by the rule that is named.
use Prim.Native.Nat.{ℕ, ◌≤◌, ◌<◌}
use mathlib.Core.Path.{◌≡◌, refl, sym, ap, subst}
use mathlib.Core.Logic.{◌≢◌}
use mathlib.Core.Bool.{Bool, true, false}
use mathlib.Core.List.{List}
use mathlib.Core.Option.{some}
use native.Mathlib.Omega.{arith}
use lib.Dec.{eqb}
use lib.ListN.{length}
use borrow.Author.Tests.{eqb-true, eqb-false}
use Rattle.numbers.specs.Number.{pick, nowhere}
use Rattle.block.specs.declared.Id.{Id}
use Rattle.block.specs.declared.Block.{Block}
use Rattle.grammar.specs.Course.{Course, things, ending}
use Rattle.vector.specs.Vector.{Entry, vector_of}
use Rattle.kept.specs.Kept.{remote}
use Rattle.kept.proofs.Vectors.{why_vector, by_number}
use Rattle.sorting.specs.Steps.{State, start, after, Ends}
use Rattle.sorting.specs.Rules.{queue, Rule, report}
use Rattle.sorting.specs.Rule28Inner.{rule28}
use Rattle.sorting.specs.Rule13Inner.{rule13}
use Rattle.sorting.specs.Named.{asks_of, rule_of}
use Rattle.sorting.specs.Sorted.{all_clients, steps, order, outcome, numbers_by, order_of, counts_in, counts_of, reaches_in, reaches_of, pending_in, pending_of}
use Rattle.sorting.proofs.Rules.{RuleMonotone, reaches-mono}
use Rattle.sorting.proofs.Rule28.{reported-28}
use Rattle.sorting.proofs.Rule13.{Behind, reported-13}
use Rattle.sorting.proofs.Clients.{clients-blocks}
use Rattle.sorting.proofs.Demand.{sorted, highest, is-order, left-waits, front}
use Rattle.sorting.proofs.Taken.{whole_takes, whole-leaves, numbers-once, numbers-below}
use Rattle.sorting.specs.Quick.{Listed}
use Rattle.updates.specs.Promises.{Reading, reading}
use Rattle.sort_answers.specs.Answers.{is_rule, Sort, refused_with, Room}
use Rattle.sorts.specs.Promises.{Finder, quickly, sorted_all, why_sort, fitting, against, after_reading, sort_by, sort_of}
use Rattle.sorts.specs.Demand.{end_state, Demanded, Demand3}

-- ---- what 0 says

module _ (F : Finder) (R : Rule ℕ) (m : Room) (v : List ℕ) (r : Reading) where
  abbrev es : List Entry
  es = things (vector_of v)

  fitting-done : (s : Sort) → (fitting m s).refusal.number ≡ 0 → fitting m s ≡ s
  unfolding fitting
  fitting-done s h = go (eqb (why_sort m s) 0) refl h
    where
      go : (x : Bool) → eqb (why_sort m s) 0 ≡ x → (pick x s (refused_with (nowhere (why_sort m s)))).refusal.number ≡ 0
          → pick x s (refused_with (nowhere (why_sort m s))) ≡ s
      go true e h = refl
      go false e h = absurd (eqb-false (why_sort m s) 0 e h)

  pub against-is : against F R m (vector_of v) r ≡ pick (eqb (why_vector v) 0) (fitting m (sorted_all F R es r)) (refused_with (nowhere (why_vector v)))
  unfolding against
  against-is = by_number v (fitting m (sorted_all F R es r)) (λ n. refused_with (nowhere n))

  ends_is : ending (vector_of v) (λ _. true) (λ _. false) ≡ pick (eqb (why_vector v) 0) true false
  ends_is = by_number v true (λ _. false)

  against-done : (against F R m (vector_of v) r).refusal.number ≡ 0
      → (ending (vector_of v) (λ _. true) (λ _. false) ≡ true) × (against F R m (vector_of v) r ≡ sorted_all F R es r)
  against-done h = rw (against-is, ends_is) (go (eqb (why_vector v) 0) refl (subst (λ (s : Sort). s.refusal.number ≡ 0) against-is h))
    where
      go : (x : Bool) → eqb (why_vector v) 0 ≡ x → (pick x (fitting m (sorted_all F R es r)) (refused_with (nowhere (why_vector v)))).refusal.number ≡ 0
          → (pick x true false ≡ true) × (pick x (fitting m (sorted_all F R es r)) (refused_with (nowhere (why_vector v))) ≡ sorted_all F R es r)
      go true e h = (refl, fitting-done (sorted_all F R es r) h)
      go false e h = absurd (eqb-false (why_vector v) 0 e h)

  pub after-done : (after_reading F R m (vector_of v) r).refusal.number ≡ 0
      → (r.refusal.number ≡ 0) × (ending (vector_of v) (λ _. true) (λ _. false) ≡ true) × (after_reading F R m (vector_of v) r ≡ sorted_all F R es r)
  unfolding after_reading
  after-done h = go (eqb r.refusal.number 0) refl h
    where
      go : (x : Bool) → eqb r.refusal.number 0 ≡ x → (pick x (against F R m (vector_of v) r) (refused_with r.refusal)).refusal.number ≡ 0
          → (r.refusal.number ≡ 0)
          × (ending (vector_of v) (λ _. true) (λ _. false) ≡ true)
          × (pick x (against F R m (vector_of v) r) (refused_with r.refusal) ≡ sorted_all F R es r)
      go true e h = (eqb-true r.refusal.number 0 e, (against-done h).0, (against-done h).1)
      go false e h = absurd (eqb-false r.refusal.number 0 e h)

-- ---- of any rule under which more knowledge holds nothing back

module _ {A : Type 0} (R : Rule A) (mono : RuleMonotone R) (bs : List Block) (κ : A → ℕ) (cs : List ℕ) (all : (c : ℕ) → 0 < length (queue bs c) → Listed c cs) where
  abbrev by : List ℕ
  by = order R bs cs κ

  ends : Ends (steps R bs) (start κ) by
  ends = (sorted R mono bs cs all κ).ends

  same : {X : Type 0} (f : State A → X) (ds : List ℕ) → Ends (steps R bs) (start κ) ds → f (outcome R bs cs κ) ≡ f (after (steps R bs) (start κ) ds)
  unfolding outcome
  same f ds e = ap f (sym ((sorted R mono bs cs all κ).same ds e))

  pub demanded : Demanded R bs κ cs (numbers_by R bs (start κ) by) (counts_in bs (outcome R bs cs κ) cs) (pending_in R bs (outcome R bs cs κ) cs)
  unfolding outcome
  demanded = record {
    run = by;
    sorts = sorted R mono bs cs all κ;
    highest = highest R mono bs cs all κ;
    only = is-order R mono bs cs all κ;
    numbers = refl;
    taken = whole_takes R mono bs κ by ends;
    missing = whole-leaves R mono bs κ by ends;
    once = numbers-once R bs (start κ) by ends.run;
    inside = numbers-below R bs (start κ) by ends.run;
    counted = same (λ (s : State A). counts_in bs s cs);
    waiting = same (λ (s : State A). pending_in R bs s cs);
    waits = left-waits R mono bs cs all κ;
  }

-- ---- a sort against a vector

module _ (R : Rule ℕ) (mono : RuleMonotone R) where
  whole-demanded : (r : Reading) (c : List ℕ) → r.refusal.number ≡ 0 → ending (vector_of c) (λ _. true) (λ _. false) ≡ true
      → Demand3 R r (vector_of c) (sorted_all quickly R (things (vector_of c)) r)
  unfolding sorted_all outcome order_of counts_of reaches_of pending_of
  whole-demanded r c z ends =
      let bs = r.blocks in
      let v = things (vector_of c) in
      record {
        read = (z, ends);
        reading = refl;
        demanded = demanded R mono bs (remote v) (all_clients bs v) (clients-blocks bs v);
        reaches = same R mono bs (remote v) (all_clients bs v) (clients-blocks bs v) (λ (s : State ℕ). reaches_in s (all_clients bs v));
      }

-- ---- the rule that is named

-- Demand 3, by the rule that the caller names
pub demand-3 : (rule form : ℕ) (u v : List ℕ) (block_rows range_rows : ℕ) (m : Room) → (sort_of rule form u v block_rows range_rows m).refusal.number ≡ 0
    → Demand3 (rule_of rule) (reading form u block_rows range_rows) (vector_of v) (sort_of rule form u v block_rows range_rows m)
unfolding sort_by
demand-3 rule form u v block_rows range_rows m h = go (is_rule rule) h
  where
    r : Reading
    r = reading form u block_rows range_rows

    go : (x : Bool) → (pick x (after_reading quickly (rule_of rule) m (vector_of v) r) (refused_with (nowhere 12))).refusal.number ≡ 0
        → Demand3 (rule_of rule) r (vector_of v) (pick x (after_reading quickly (rule_of rule) m (vector_of v) r) (refused_with (nowhere 12)))
    go true h =
        let (z, ends, is) = after-done quickly (rule_of rule) m v r h in
        subst (Demand3 (rule_of rule) r (vector_of v)) (sym is) (whole-demanded (rule_of rule) (reaches-mono (asks_of rule)) r v z ends)
    go false h = absurd (omega (arith, h))

-- what a client that is left waits for, in the words of each rule

module _ (r : Reading) (c : Course Entry) (s : Sort) (k : ℕ) where
  -- by rule 28: something of another client that is not below that client's reach
  pub waits-28 : (p : Demand3 rule28 r c s) → (end_state rule28 r c p.demanded.run).taken k < length (queue r.blocks k)
      → (d : Id) × (report rule28 (queue r.blocks) (end_state rule28 r c p.demanded.run) k ≡ some d)
      × (d.client ≢ k) × ((end_state rule28 r c p.demanded.run).known d.client ≤ d.clock)
  waits-28 p h =
      let (d, is, _) = p.demanded.waits k h in
      let (other, above) = reported-28 (queue r.blocks) (end_state rule28 r c p.demanded.run) k d is in
      (d, is, other, above)

  -- by rule 13: what rule 28 waits for; or that waits for nothing, and the block lies behind a gap: its own client's reach is below its clock
  pub waits-13 : (p : Demand3 rule13 r c s) → (end_state rule13 r c p.demanded.run).taken k < length (queue r.blocks k)
      → (d : Id) × (report rule13 (queue r.blocks) (end_state rule13 r c p.demanded.run) k ≡ some d)
      × Behind (end_state rule13 r c p.demanded.run).known k (front r.blocks (end_state rule13 r c p.demanded.run) k) d
  waits-13 p h =
      let (d, is, _) = p.demanded.waits k h in
      (d, is, reported-13 (queue r.blocks) (end_state rule13 r c p.demanded.run) k d is)
