-- The sweeps come to the slow order, from the reaches of a vector, and what is read off the board then is what is reported of the state where that ends.
use Prim.Native.Nat.{ℕ, zero, suc, ◌≤◌, ◌<◌}
use mathlib.Core.Path.{◌≡◌, refl, sym, ap, subst, ◌∙◌}
use mathlib.Core.Bool.{Bool, true, false}
use mathlib.Core.List.{List, [], ◌∷◌, ◌++◌}
use mathlib.Core.Option.{Option, none, some}
use native.Mathlib.Omega.{arith}
use lib.Dec.{ltb}
use lib.ListN.{length, get_or}
use borrow.Author.Tests.{ltb-true, ltb-false, lt-ltb, le-ltb}
use Rattle.numbers.specs.Number.{pick}
use Rattle.block.specs.declared.Id.{Id}
use Rattle.block.specs.declared.Block.{Block}
use Rattle.vector.specs.Vector.{Entry}
use Rattle.kept.specs.Kept.{remote}
use Rattle.slots.specs.Slots.{Slot, rank, is_named}
use Rattle.slots.proofs.Ranks.{client_at, named-slot}
use Rattle.slots.proofs.Clients.{clients_of}
use Rattle.picker.specs.declared.stages.Dependency.{Dependency}
use Rattle.sorting.specs.Steps.{State, start, after, Stuck}
use Rattle.sorting.specs.Rules.{queue, is_skip, waits, system, report, by_reaches}
use Rattle.sorting.specs.Named.{asks_of, rule_of}
use Rattle.sorting.specs.Sorted.{all_clients, steps, counts_in, reaches_in, waiting, pending_in, numbers_by}
use Rattle.sorting.specs.Slow.{slow_steps, slow_outcome, slow_order_of, slow_counts_of, slow_reaches_of, slow_pending_of}
use Rattle.sorting.proofs.Outcome.{can-intro}
use Rattle.sorting.proofs.Numbers.{owner_at, numbers_by-length}
use Rattle.sorting.proofs.Rules.{reaches-mono}
use Rattle.sorting.proofs.Clients.{clients-blocks}
use Rattle.sorting.proofs.Demand.{front}
use Rattle.sorting.proofs.Slow.{slow-sorted}
use Rattle.outcome.specs.Tie.{slot_of, Slotted}
use Rattle.outcome.proofs.Looks.{Shows}
use Rattle.outcome.proofs.Overlay.{overlaid-none}
use Rattle.outcome.proofs.Sums.{sum, sizes, queues-fit}
use Rattle.outcome.proofs.Places.{slot_apart}
use Rattle.outcome.proofs.Begun.{begun-shows}
use Rattle.outcome.proofs.Reported.{Each, each, Reached, reaches-each, all-taken}
use Rattle.sweeper.specs.Sweeper.{unmet_by, Board, board, row_at, left_at, left_below, swept_all}
use Rattle.sweep_reports.specs.Reports.{taken_of, taken_from, reach_for, block_waits, front_waits, waits_from}
use Rattle.swept.specs.Swept.{Swept}
use Rattle.swept.proofs.Unmet.{unmet-is}
use Rattle.swept.proofs.Stands.{Stands, Given, Come, row_small, row-is-front, row-none}
use Rattle.swept.proofs.Sweeps.{all_come}

-- ---- words of one slot after another

module _ (bs : List Block) (s : State ℕ) (taken : List ℕ) where
  abbrev Counted : ℕ → Slot → Type 0
  Counted i t = (t.count ≡ length (queue bs t.client)) × (get_or taken i 0 ≡ s.taken t.client)

  counts_each : (i : ℕ) (ss : List Slot) → Each Counted i ss → taken_from i ss taken ≡ counts_in bs s (clients_of ss)
  unfolding taken_from taken_of counts_in
  counts_each i [] h = refl
  counts_each i (t ∷ ss) h =
      rw (h.0.0, h.0.1) (go (ltb 0 (length (queue bs t.client))) (counts_each (suc i) ss h.1))
    where
      go : (x : Bool) → taken_from (suc i) ss taken ≡ counts_in bs s (clients_of ss)
          → pick x (t.client ∷ (s.taken t.client ∷ [])) [] ++ taken_from (suc i) ss taken
          ≡ pick x (t.client ∷ (s.taken t.client ∷ counts_in bs s (clients_of ss))) (counts_in bs s (clients_of ss))
      go true e = ap (λ (l : List ℕ). t.client ∷ (s.taken t.client ∷ l)) e
      go false e = e

module _ (rule : ℕ) (bs : List Block) (s : State ℕ) (all : List Slot) (rows : List Block) (reach taken : List ℕ) where
  abbrev Waited : ℕ → Slot → Type 0
  Waited i t = (rest : List ℕ)
      → front_waits rule all rows reach t (get_or taken i 0) ++ rest
      ≡ waiting (λ (d : Id). s.known d.client) t.client (report (rule_of rule) (queue bs) s t.client) rest

  pending-each : (i : ℕ) (ss : List Slot) → Each Waited i ss → waits_from i rule all rows reach taken ss ≡ pending_in (rule_of rule) bs s (clients_of ss)
  unfolding waits_from pending_in by_reaches
  pending-each i [] h = refl
  pending-each i (t ∷ ss) h =
      ap (λ (l : List ℕ). front_waits rule all rows reach t (get_or taken i 0) ++ l) (pending-each (suc i) ss h.1)
      ∙ h.0 (pending_in (rule_of rule) bs s (clients_of ss))

-- ---- what a front waits for

known-reach : {ss : List Slot} {reach : List ℕ} {κ : ℕ → ℕ} → Shows ss reach κ → (c : ℕ) → reach_for ss reach c ≡ κ c
unfolding reach_for
known-reach {ss} {reach} {κ} shows c = go (is_named c ss) refl
  where
    go : (x : Bool) → is_named c ss ≡ x → pick x (get_or reach (rank c ss) 0) 0 ≡ κ c
    go true e = shows.at (rank c ss) (named-slot c ss e).0 ∙ ap κ (named-slot c ss e).1
    go false e = sym (shows.else c e)

module _ (rule : ℕ) {bs : List Block} {v : List Entry} {ss : List Slot} {rows : List Block} (given : Given bs v ss rows) {s : State ℕ} {d : Board}
    (st : Stands ss s d) (stuck : Stuck (steps (rule_of rule) bs) s) (i : ℕ) (small : i < length ss) where
  abbrev c : ℕ
  c = client_at ss i

  -- a Skip would be taken
  no-skip : s.taken c < length (queue bs c) → is_skip (front bs s c) ≡ false
  unfolding Stuck system
  no-skip fits = go (is_skip (front bs s c)) refl
    where
      go : (x : Bool) → is_skip (front bs s c) ≡ x → x ≡ false
      go true e = absurd (stuck c (can-intro (steps (rule_of rule) bs) s c fits (rw e tt)))
      go false e = refl

  front-waits : s.taken c < length (queue bs c) → (rest : List ℕ)
      → block_waits rule ss d.reach (slot_of ss i) (front bs s c) ++ rest
      ≡ waiting (λ (x : Id). s.known x.client) c (waits (rule_of rule) s.known c (front bs s c)) rest
  unfolding block_waits
  front-waits fits rest =
      subst (λ (o : Option Id). pick a.there (c ∷ (a.id.client ∷ (reach_for ss d.reach a.id.client ∷ []))) [] ++ rest
      ≡ waiting (λ (x : Id). s.known x.client) c o rest)
      (unmet-is rule st.shows (front bs s c) (no-skip fits)
      ∙ ap (λ (x : ℕ). waits (rule_of rule) s.known x (front bs s c)) (owner_at bs c (s.taken c) fits))
      (go a.there)
    where
      a : Dependency
      a = unmet_by rule ss d.reach (front bs s c)

      go : (x : Bool) → pick x (c ∷ (a.id.client ∷ (reach_for ss d.reach a.id.client ∷ []))) [] ++ rest
          ≡ waiting (λ (x : Id). s.known x.client) c (pick x (some a.id) none) rest
      go true = ap (λ (r : ℕ). c ∷ (a.id.client ∷ (r ∷ rest))) (known-reach st.shows a.id.client)
      go false = refl

  front-there : s.taken c < length (queue bs c)
      → front_waits rule ss rows d.reach (slot_of ss i) (get_or d.taken i 0) ≡ block_waits rule ss d.reach (slot_of ss i) (front bs s c)
  unfolding front_waits
  front-there fits =
      rw (lt-ltb (row_at ss d i) (length rows) (row_small rule given st i small fits))
      (ap (block_waits rule ss d.reach (slot_of ss i)) (row-is-front rule given st i small fits))

  front-none : length (queue bs c) ≤ s.taken c → front_waits rule ss rows d.reach (slot_of ss i) (get_or d.taken i 0) ≡ []
  unfolding front_waits
  front-none over = rw (le-ltb (row_at ss d i) (length rows) (row-none rule given st i small over)) refl

  is-reported : s.taken c < length (queue bs c) → report (rule_of rule) (queue bs) s c ≡ waits (rule_of rule) s.known c (front bs s c)
  unfolding report
  is-reported fits = rw (lt-ltb (s.taken c) (length (queue bs c)) fits) refl

  waited : Waited rule bs s ss rows d.reach d.taken i (slot_of ss i)
  waited rest = go (ltb (s.taken c) (length (queue bs c))) refl
    where
      go : (x : Bool) → ltb (s.taken c) (length (queue bs c)) ≡ x
          → front_waits rule ss rows d.reach (slot_of ss i) (get_or d.taken i 0) ++ rest
          ≡ waiting (λ (x : Id). s.known x.client) c (report (rule_of rule) (queue bs) s c) rest
      go true e =
          let fits = ltb-true (s.taken c) (length (queue bs c)) e in
          rw (front-there fits, is-reported fits) (front-waits fits rest)
      go false e =
          let over = ltb-false (s.taken c) (length (queue bs c)) e in
          rw (front-none over, all-taken rule bs s c over) refl

-- ---- before the first sweep

-- no more blocks are left than there are
left-most : {bs : List Block} {v : List Entry} {ss : List Slot} → Slotted bs v ss → (taken : List ℕ) (n : ℕ) → n ≤ length ss
    → left_below ss taken n ≤ sum (sizes bs (client_at ss)) n
unfolding left_below left_at sum
left-most slotted taken zero few = omega arith
left-most slotted taken (suc n) few = omega (arith, left-most slotted taken n (omega arith), slotted.counts n (omega arith))

module _ (rule : ℕ) {bs : List Block} {v : List Entry} {ss : List Slot} {rows : List Block} (given : Given bs v ss rows) (reach taken before : List ℕ)
    (room : (length ss ≤ length reach) × (length ss ≤ length taken)) (reaches : (i : ℕ) → i < length ss → get_or reach i 0 ≡ remote v (slot_of ss i).client)
    (none-taken : (i : ℕ) → i < length ss → get_or taken i 0 ≡ 0) where
  abbrev d : Board
  d = swept_all rule ss rows (board reach taken before 0)

  begun : Come rule given (remote v) before [] (board reach taken before 0)
  unfolding after numbers_by
  begun = record {
    stands = record {
      room = room;
      shows = begun-shows given.slotted reaches;
      counts = none-taken;
      few = omega (
        arith,
        left-most given.slotted taken (length ss) (omega arith),
        queues-fit bs (client_at ss) (length ss) (λ i j l h. slot_apart ss given.slotted.falling i j (omega arith) h (λ e. omega arith)),
        given.sortable.few,
      );
    };
    count = refl;
    numbers = sym (overlaid-none before);
  }

  come : Come rule given (remote v) before (slow_steps (rule_of rule) bs (all_clients bs v) (remote v)) d
  unfolding slow_steps
  come = rw (← given.slotted.names) (all_come rule given (remote v) before (board reach taken before 0) begun)

  -- where they end, and how the board stands to it
  abbrev pub end : State ℕ
  end = after (steps (rule_of rule) bs) (start (remote v)) (slow_steps (rule_of rule) bs (all_clients bs v) (remote v))

  pub ends_at : Stands ss end d
  ends_at = come.stands

  stuck : Stuck (steps (rule_of rule) bs) end
  stuck = (slow-sorted (rule_of rule) (reaches-mono (asks_of rule)) bs (all_clients bs v) (clients-blocks bs v) (remote v)).ends.end

  pub swept-outcome : Swept rule bs v ss rows before d
  unfolding slow_outcome slow_order_of slow_counts_of slow_reaches_of slow_pending_of
  swept-outcome =
      let st = come.stands in
      record {
        steps = come.count ∙ sym (numbers_by-length (rule_of rule) bs (start (remote v)) (slow_steps (rule_of rule) bs (all_clients bs v) (remote v)));
        order = come.numbers;
        counts =
            counts_each bs end d.taken 0 ss (each (Counted bs end d.taken) ss (λ i h. (given.slotted.counts i h, st.counts i h)))
            ∙ ap (counts_in bs end) given.slotted.names;
        reaches = reaches-each end d.reach 0 ss (each (Reached end d.reach) ss st.shows.at) ∙ ap (reaches_in end) given.slotted.names;
        pending =
            pending-each rule bs end ss rows d.reach d.taken 0 ss
            (each (Waited rule bs end ss rows d.reach d.taken) ss (λ i h. waited rule given st stuck i h))
            ∙ ap (pending_in (rule_of rule) bs end) given.slotted.names;
      }
