-- What is read off slots, fronts and reaches, where no step is possible, is what is reported of the state of sorting that they show.
use mathlib.Core.Path.{◌≡◌, refl, sym, ap, subst, ◌∙◌}
use mathlib.Core.Logic.{inl, inr}
use mathlib.Core.Bool.{Bool, true, false}
use mathlib.Core.List.{List, [], ◌∷◌, ◌++◌}
use mathlib.Core.Option.{none, some}
use Prim.Native.Nat.{ℕ, suc, ◌+◌, ◌-◌, ◌≤◌, ◌<◌}
use native.Mathlib.Omega.{arith}
use lib.Dec.{ltb, eqb}
use lib.ListN.{length, get_or}
use borrow.Author.Tests.{ltb-true, ltb-false, le-ltb, eq-eqb, ne_eqb}
use Rattle.numbers.specs.Number.{pick}
use Rattle.block.specs.declared.Id.{Id}
use Rattle.block.specs.declared.Block.{Block}
use Rattle.vector.specs.Vector.{Entry}
use Rattle.slots.specs.Slots.{Slot, rank}
use Rattle.slots.proofs.Ranks.{named-slot}
use Rattle.slots.proofs.Clients.{clients_of}
use Rattle.picker.specs.declared.fronts.Front.{Front}
use Rattle.picker.specs.Fronts.{never, front_at}
use Rattle.reports.specs.Reports.{count_of, reach_of, pending_of, counts_from, reaches_from, pending_from}
use Rattle.sorting.specs.Steps.{State}
use Rattle.sorting.specs.Rules.{queue, report, by_reaches}
use Rattle.sorting.specs.Named.{rule_of}
use Rattle.sorting.specs.Sorted.{all_clients, counts_in, reaches_in, waiting, pending_in}
use Rattle.outcome.specs.Tie.{slot_of, Slotted, Awaits, Ended}

-- ---- slots one after another

-- each of these slots, the first of which is slot i
abbrev pub Each : (ℕ → Slot → Type 0) → ℕ → List Slot → Type 0
Each P i [] = Unit {0}
Each P i (s ∷ ss) = P i s × Each P (suc i) ss

each_from : (P : ℕ → Slot → Type 0) (n : ℕ) (ss : List Slot) → ((i : ℕ) → i < length ss → P (n + i) (slot_of ss i)) → Each P n ss
each_from P n [] h = tt
each_from P n (s ∷ ss) h = (
  subst (λ (k : ℕ). P k s) (omega arith) (h 0 (omega arith)),
  each_from P (suc n) ss (λ i g. subst (λ (k : ℕ). P k (slot_of ss i)) (omega arith) (h (suc i) (omega arith))),
)

pub each : (P : ℕ → Slot → Type 0) (ss : List Slot) → ((i : ℕ) → i < length ss → P i (slot_of ss i)) → Each P 0 ss
each P ss h = each_from P 0 ss (λ i g. subst (λ (k : ℕ). P k (slot_of ss i)) (omega arith) (h i g))

-- ---- words of one slot after another: before any others, a slot's are those that its client is reported with

module _ (bs : List Block) (s : State ℕ) (fronts : List ℕ) where
  abbrev Counted : ℕ → Slot → Type 0
  Counted i t = (rest : List ℕ)
      → count_of t (front_at fronts i) ++ rest ≡ pick (ltb 0 (length (queue bs t.client))) (t.client ∷ (s.taken t.client ∷ rest)) rest

  counts_each : (i : ℕ) (ss : List Slot) → Each Counted i ss → counts_from i ss fronts ≡ counts_in bs s (clients_of ss)
  unfolding counts_from counts_in
  counts_each i [] h = refl
  counts_each i (t ∷ ss) h =
      ap (λ (l : List ℕ). count_of t (front_at fronts i) ++ l) (counts_each (suc i) ss h.1) ∙ h.0 (counts_in bs s (clients_of ss))

  counted : (i : ℕ) (t : Slot) → t.count ≡ length (queue bs t.client) → (front_at fronts i).left + s.taken t.client ≡ t.count → Counted i t
  unfolding count_of
  counted i t n l rest =
      let e : t.count - (front_at fronts i).left ≡ s.taken t.client = omega arith in
      rw (e, n) (go (ltb 0 (length (queue bs t.client))))
    where
      go : (x : Bool) → pick x (t.client ∷ (s.taken t.client ∷ [])) [] ++ rest ≡ pick x (t.client ∷ (s.taken t.client ∷ rest)) rest
      go true = refl
      go false = refl

module _ (s : State ℕ) (reach : List ℕ) where
  abbrev pub Reached : ℕ → Slot → Type 0
  Reached i t = get_or reach i 0 ≡ s.known t.client

  pub reaches-each : (i : ℕ) (ss : List Slot) → Each Reached i ss → reaches_from i ss reach ≡ reaches_in s (clients_of ss)
  unfolding reaches_from reaches_in reach_of
  reaches-each i [] h = refl
  reaches-each i (t ∷ ss) h = λ j. t.client ∷ (h.0 j ∷ reaches-each (suc i) ss h.1 j)

module _ (rule : ℕ) (bs : List Block) (s : State ℕ) (reach fronts : List ℕ) where
  abbrev Waited : ℕ → Slot → Type 0
  Waited i t = (rest : List ℕ)
      → pending_of t (front_at fronts i) reach ++ rest ≡ waiting (λ (d : Id). s.known d.client) t.client (report (rule_of rule) (queue bs) s t.client) rest

  pending-each : (i : ℕ) (ss : List Slot) → Each Waited i ss → pending_from i ss fronts reach ≡ pending_in (rule_of rule) bs s (clients_of ss)
  unfolding pending_from pending_in by_reaches
  pending-each i [] h = refl
  pending-each i (t ∷ ss) h =
      ap (λ (l : List ℕ). pending_of t (front_at fronts i) reach ++ l) (pending-each (suc i) ss h.1) ∙ h.0 (pending_in (rule_of rule) bs s (clients_of ss))

-- ---- a front that waits, and one that has no block left

pub all-taken : (rule : ℕ) (bs : List Block) (s : State ℕ) (c : ℕ) → length (queue bs c) ≤ s.taken c → report (rule_of rule) (queue bs) s c ≡ none
unfolding report
all-taken rule bs s c h = rw (le-ltb (s.taken c) (length (queue bs c)) h) refl

module _ (rule : ℕ) (bs : List Block) (ss : List Slot) (s : State ℕ) (reach fronts : List ℕ) (ended : Ended rule bs ss s reach fronts) where
  -- the reach of the client that a front waits for
  awaited : (f : Front) (c : ℕ) → Awaits ss f c → pick (eqb f.need never) 0 (get_or reach f.slot 0) ≡ s.known c
  awaited f c (inl (named, at, below)) =
      let (h, is) = named-slot c ss named in
      rw (ne_eqb f.need never (λ q. omega arith), at) (ended.reaches (rank c ss) h ∙ ap s.known is)
  awaited f c (inr (unnamed, need)) = rw (eq-eqb f.need never need) (sym (ended.others c unnamed))

  waited : (i : ℕ) → i < length ss → (slot_of ss i).count ≡ length (queue bs (slot_of ss i).client) → Waited rule bs s reach fronts i (slot_of ss i)
  unfolding pending_of
  waited i h n rest = go (slot_of ss i).client (front_at fronts i) (ltb 0 (front_at fronts i).left) refl (ended.waits i h) (omega (arith, ended.left i h))
    where
      go : (c : ℕ) (f : Front) (x : Bool) → ltb 0 f.left ≡ x
          → (0 < f.left → (d : Id) × (report (rule_of rule) (queue bs) s c ≡ some d) × (f.missing ≡ d.client) × (Awaits ss f d.client))
          → f.left + s.taken c ≡ length (queue bs c)
          → pick x (c ∷ (f.missing ∷ (pick (eqb f.need never) 0 (get_or reach f.slot 0) ∷ []))) [] ++ rest
          ≡ waiting (λ (d : Id). s.known d.client) c (report (rule_of rule) (queue bs) s c) rest
      go c f true q waits l =
          let (d, is, missing, awaits) = waits (ltb-true 0 f.left q) in
          rw (is, missing, awaited f d.client awaits) refl
      go c f false q waits l = rw (all-taken rule bs s c (omega (arith, ltb-false 0 f.left q))) refl

-- ---- the reports

module _ (rule : ℕ) (bs : List Block) (v : List Entry) (ss : List Slot) (slotted : Slotted bs v ss) where
  module _ (s : State ℕ) (reach fronts : List ℕ) (ended : Ended rule bs ss s reach fronts) where
    pub counts-reported : counts_from 0 ss fronts ≡ counts_in bs s (all_clients bs v)
    counts-reported =
        counts_each bs s fronts 0 ss (each (Counted bs s fronts) ss (λ i h. counted bs s fronts i (slot_of ss i) (slotted.counts i h) (ended.left i h)))
        ∙ ap (counts_in bs s) slotted.names

    pub reaches-reported : reaches_from 0 ss reach ≡ reaches_in s (all_clients bs v)
    reaches-reported = reaches-each s reach 0 ss (each (Reached s reach) ss ended.reaches) ∙ ap (reaches_in s) slotted.names

    pub pending-reported : pending_from 0 ss fronts reach ≡ pending_in (rule_of rule) bs s (all_clients bs v)
    pending-reported =
        pending-each rule bs s reach fronts 0 ss (each (Waited rule bs s reach fronts) ss (λ i h. waited rule bs ss s reach fronts ended i h (slotted.counts i h)))
        ∙ ap (pending_in (rule_of rule) bs s) slotted.names
