-- The slow plain order is a run that ends, so it sorts: it comes to the outcome of the order of highest clients, in as many steps, by every rule under
-- which more knowledge holds nothing back.
use mathlib.Core.Path.{◌≡◌, refl, sym, ap, ◌∙◌}
use mathlib.Core.Bool.{Bool, true, false}
use mathlib.Core.List.{List, [], ◌∷◌, ◌++◌}
use mathlib.Core.Logic.{inl, inr, ◌≢◌}
use Prim.Native.Nat.{ℕ, zero, suc, ◌+◌, ◌-◌, ◌≤◌, ◌<◌}
use native.Mathlib.Omega.{arith}
use lib.Dec.{T}
use lib.ListN.{length}
use Rattle.numbers.specs.Number.{pick}
use Rattle.block.specs.declared.Block.{Block}
use Rattle.vector.specs.Vector.{Entry}
use Rattle.kept.specs.Kept.{remote}
use Rattle.sorting.specs.Steps.{System, State, start, can, step, after, Run, Stuck, Ends, Sorts}
use Rattle.sorting.specs.Quick.{Listed, remaining}
use Rattle.sorting.specs.Rules.{queue, Rule, system}
use Rattle.sorting.specs.Sorted.{all_clients, steps, order, outcome, outcome_of, order_of, counts_in, counts_of, reaches_in, reaches_of, pending_in, pending_of}
use Rattle.sorting.specs.Slow.{lowest_first, again, fronts, drain, sweep, sweeps, slow, slow_steps, slow_outcome, slow_outcome_of}
use Rattle.sorting.specs.Slow.{slow_order_of, slow_counts_of, slow_reaches_of, slow_pending_of}
use Rattle.sorting.proofs.Outcome.{can-fits, step-own, Moved, step-taken, sorts}
use Rattle.sorting.proofs.Quick.{run-append, after-append, left-run, no-listed}
use Rattle.sorting.proofs.Rules.{RuleMonotone, system-monotone}
use Rattle.sorting.proofs.Clients.{Falls, Below, clients-blocks, clients-fall}
use Rattle.sorting.proofs.Numbers.{numbers_by-length}
use Rattle.sorting.proofs.Demand.{sorted}

-- ---- lowest first, all the same clients

listed-left : (c : ℕ) (cs ds : List ℕ) → Listed c cs → Listed c (cs ++ ds)
listed-left c [] ds l = absurd l
listed-left c (x ∷ cs) ds (inl p) = inl p
listed-left c (x ∷ cs) ds (inr l) = inr (listed-left c cs ds l)

listed-last : (c : ℕ) (cs : List ℕ) → Listed c (cs ++ (c ∷ []))
listed-last c [] = inl refl
listed-last c (x ∷ cs) = inr (listed-last c cs)

lowest-listed : (c : ℕ) (cs : List ℕ) → Listed c cs → Listed c (lowest_first cs)
unfolding lowest_first
lowest-listed c [] l = l
lowest-listed c (x ∷ cs) (inl p) = rw (← p) (listed-last c (lowest_first cs))
lowest-listed c (x ∷ cs) (inr l) = listed-left c (lowest_first cs) (x ∷ []) (lowest-listed c cs l)

module _ {A : Type 0} (S : System A) where
  -- ---- each step is allowed

  fronts-run : (k : ℕ) (s : State A) (c : ℕ) → Run S s (fronts S k s c)
  unfolding fronts Run
  fronts-run zero s c = tt
  fronts-run (suc k) s c = go (can S s c) refl (fronts-run k (step S s c) c)
    where
      go : (x : Bool) → can S s c ≡ x → Run S (step S s c) (fronts S k (step S s c) c) → Run S s (pick x (c ∷ fronts S k (step S s c) c) [])
      go true e rest = (rw e tt, rest)
      go false e rest = tt

  drain-run : (s : State A) (c : ℕ) → Run S s (drain S s c)
  unfolding drain
  drain-run s c = fronts-run (S.size c - s.taken c) s c

  pub sweep-run : (s : State A) (cs : List ℕ) → Run S s (sweep S s cs)
  unfolding sweep Run
  sweep-run s [] = tt
  sweep-run s (c ∷ cs) = run-append S s (drain S s c) (sweep S (after S s (drain S s c)) cs) (drain-run s c) (sweep-run (after S s (drain S s c)) cs)

  sweeps-run : (k : ℕ) (cs : List ℕ) (s : State A) → Run S s (sweeps S k cs s)
  unfolding sweeps Run
  sweeps-run zero cs s = tt
  sweeps-run (suc k) cs s = go (sweep S s cs) (sweep-run s cs) (λ d. sweeps-run k cs (after S s d))
    where
      go : (d : List ℕ) → Run S s d → ((d : List ℕ) → Run S (after S s d) (sweeps S k cs (after S s d)))
          → Run S s (again d (λ d. sweeps S k cs (after S s d)))
      go [] r rec = tt
      go (x ∷ d) r rec = run-append S s (x ∷ d) (sweeps S k cs (after S s (x ∷ d))) r (rec (x ∷ d))

  -- ---- a sweep that takes nothing finds nothing to take

  fronts-none : (k : ℕ) (s : State A) (c : ℕ) → 0 < k → fronts S k s c ≡ [] → T (can S s c) → ⊥
  unfolding fronts
  fronts-none zero s c h = absurd (omega arith)
  fronts-none (suc k) s c h = go (can S s c)
    where
      go : (x : Bool) → pick x (c ∷ fronts S k (step S s c) c) [] ≡ [] → T x → ⊥
      go true e t = let z : ◌≡◌ {A = ℕ} 0 1 = cc in omega arith
      go false e t = t

  drain-none : (s : State A) (c : ℕ) → drain S s c ≡ [] → T (can S s c) → ⊥
  unfolding drain
  drain-none s c e t = fronts-none (S.size c - s.taken c) s c (omega (arith, can-fits S s c t)) e t

  sweep-none : (s : State A) (cs : List ℕ) → sweep S s cs ≡ [] → (c : ℕ) → Listed c cs → T (can S s c) → ⊥
  unfolding sweep after
  sweep-none s [] e c l t = l
  sweep-none s (d ∷ cs) e c l t = go (drain S s d) refl e (λ p m. sweep-none s cs p c m t)
    where
      go : (x : List ℕ) → drain S s d ≡ x → x ++ sweep S (after S s x) cs ≡ [] → (sweep S s cs ≡ [] → Listed c cs → ⊥) → ⊥
      go [] q p rec = elim l [ inl m ↦ drain-none s d q (rw (← m) t) | inr m ↦ rec p m ]
      go (x ∷ xs) q p rec = let z : ◌≡◌ {A = ℕ} 0 1 = cc in omega arith

  -- ---- how many steps a run has: a step leaves one block less

  module _ (s : State A) (c : ℕ) where
    taken-other : (d : ℕ) → d ≢ c → (step S s c).taken d ≡ s.taken d
    taken-other d ne = go (step-taken S s c d)
      where
        go : Moved S s c d → (step S s c).taken d ≡ s.taken d
        go (inl w) = absurd (ne w.0)
        go (inr w) = w.1

    -- clients below c
    left_below : (d : ℕ) (cs : List ℕ) → Below d cs → Falls cs → d ≤ c → remaining S (step S s c) cs ≡ remaining S s cs
    unfolding remaining
    left_below d [] b f h = refl
    left_below d (x ∷ cs) b f h = λ i. (S.size x - taken-other x (λ e. omega arith) i) + left_below x cs f.0 f.1 (omega arith) i

    left_one : (cs : List ℕ) → Falls cs → T (can S s c) → Listed c cs → suc (remaining S (step S s c) cs) ≡ remaining S s cs
    unfolding remaining
    left_one [] f t l = absurd l
    left_one (x ∷ cs) f t (inl p) =
        rw (← p) (omega (arith, step-own S s c, can-fits S s c t, left_below x cs f.0 f.1 (omega arith)))
    left_one (x ∷ cs) f t (inr l) = omega (arith, ap (λ (n : ℕ). S.size x - n) (taken-other x (above x cs f.0 f.1 l)), left_one cs f.1 t l)
      where
        above : (d : ℕ) (cs : List ℕ) → Below d cs → Falls cs → Listed c cs → d ≢ c
        above d [] b f l = absurd l
        above d (y ∷ cs) b f (inl p) = λ e. omega arith
        above d (y ∷ cs) b f (inr l) = λ e. higher y cs b f.0 f.1 l e
          where
            higher : (y : ℕ) (cs : List ℕ) → y < d → Below y cs → Falls cs → Listed c cs → d ≡ c → ⊥
            higher y [] h b f l e = l
            higher y (z ∷ cs) h b f (inl p) e = omega arith
            higher y (z ∷ cs) h b f (inr l) e = higher z cs (omega arith) f.0 f.1 l e

  module _ (clients : List ℕ) (listed : (c : ℕ) → 0 < S.size c → Listed c clients) where
    pub run_length : Falls clients → (s : State A) (cs : List ℕ) → Run S s cs → remaining S (after S s cs) clients + length cs ≡ remaining S s clients
    unfolding Run after
    run_length f s [] r = omega arith
    run_length f s (c ∷ cs) r =
        omega (arith, left_one s c clients f r.0 (listed c (omega (arith, can-fits S s c r.0))), run_length f (step S s c) cs r.1)

    -- ---- the sweeps end

    sweeps-stuck : (k : ℕ) (s : State A) → remaining S s clients < k → Stuck S (after S s (sweeps S k (lowest_first clients) s))
    unfolding sweeps after
    sweeps-stuck zero s h = absurd (omega arith)
    sweeps-stuck (suc k) s h = go (sweep S s (lowest_first clients)) refl (sweep-run s (lowest_first clients)) (λ d. sweeps-stuck k (after S s d))
      where
        go : (d : List ℕ) → sweep S s (lowest_first clients) ≡ d → Run S s d
            → ((d : List ℕ) → remaining S (after S s d) clients < k → Stuck S (after S (after S s d) (sweeps S k (lowest_first clients) (after S s d))))
            → Stuck S (after S s (again d (λ d. sweeps S k (lowest_first clients) (after S s d))))
        go [] e r rec = no-listed S clients listed s (λ c l. sweep-none s (lowest_first clients) e c (lowest-listed c clients l))
        go (x ∷ d) e r rec =
            rw (after-append S s (x ∷ d) (sweeps S k (lowest_first clients) (after S s (x ∷ d))))
            (rec (x ∷ d) (omega (arith, left-run S clients listed s (x ∷ d) r)))

    pub slow-ends : (s : State A) → Ends S s (slow S clients s)
    unfolding slow
    slow-ends s = record {
      run = sweeps-run (suc (remaining S s clients)) (lowest_first clients) s;
      end = sweeps-stuck (suc (remaining S s clients)) s (omega arith);
    }

-- ---- W-211: an update's blocks, sorted slowly by any rule under which more knowledge holds nothing back

module _ {A : Type 0} (R : Rule A) (mono : RuleMonotone R) (bs : List Block) (cs : List ℕ) (all : (c : ℕ) → 0 < length (queue bs c) → Listed c cs)
    (κ : A → ℕ) where
  some_of : (c : ℕ) → 0 < (steps R bs).size c → Listed c cs
  unfolding system
  some_of = all

  -- Demand 3 of the slow order: an allowed run, carried to its end, of the one outcome
  pub slow-sorted : Sorts (steps R bs) κ (slow_steps R bs cs κ)
  unfolding slow_steps
  slow-sorted = sorts (steps R bs) (system-monotone R (queue bs) mono) κ (slow (steps R bs) cs (start κ)) (slow-ends (steps R bs) cs some_of (start κ))

  -- the state that the order of highest clients ends in
  pub same_outcome : slow_outcome R bs cs κ ≡ outcome R bs cs κ
  unfolding slow_outcome outcome
  same_outcome = (sorted R mono bs cs all κ).same (slow_steps R bs cs κ) slow-sorted.ends

  -- in as many steps
  pub same_length : Falls cs → length (slow_steps R bs cs κ) ≡ length (order R bs cs κ)
  unfolding slow_outcome outcome
  same_length f =
      let s = run_length (steps R bs) cs some_of f (start κ) (slow_steps R bs cs κ) slow-sorted.ends.run in
      let q = run_length (steps R bs) cs some_of f (start κ) (order R bs cs κ) (sorted R mono bs cs all κ).ends.run in
      omega (arith, s, q, ap (λ t. remaining (steps R bs) t cs) same_outcome)

-- against a state vector, by a rule by reaches
module _ (R : Rule ℕ) (mono : RuleMonotone R) (bs : List Block) (v : List Entry) where
  same-state : slow_outcome_of R bs v ≡ outcome_of R bs v
  same-state = same_outcome R mono bs (all_clients bs v) (clients-blocks bs v) (remote v)

  pub same-counts : slow_counts_of R bs v ≡ counts_of R bs v
  unfolding slow_counts_of counts_of
  same-counts = ap (λ (s : State ℕ). counts_in bs s (all_clients bs v)) same-state

  pub same-reaches : slow_reaches_of R bs v ≡ reaches_of R bs v
  unfolding slow_reaches_of reaches_of
  same-reaches = ap (λ (s : State ℕ). reaches_in s (all_clients bs v)) same-state

  pub same-pending : slow_pending_of R bs v ≡ pending_of R bs v
  unfolding slow_pending_of pending_of
  same-pending = ap (λ (s : State ℕ). pending_in R bs s (all_clients bs v)) same-state

  pub same-steps : length (slow_order_of R bs v) ≡ length (order_of R bs v)
  unfolding slow_order_of order_of
  same-steps =
      numbers_by-length R bs (start (remote v)) (slow_steps R bs (all_clients bs v) (remote v))
      ∙ same_length R mono bs (all_clients bs v) (clients-blocks bs v) (remote v) (clients-fall bs v)
      ∙ sym (numbers_by-length R bs (start (remote v)) (order R bs (all_clients bs v) (remote v)))
