-- What the slow plain sorter reports of a client that has blocks left: its first id that is not held.
use Prim.Native.Nat.{ℕ, suc, ◌+◌, ◌≤◌, ◌<◌}
use mathlib.Core.Path.{◌≡◌, refl, sym, ap, ◌∙◌}
use mathlib.Core.Bool.{Bool, true, false}
use mathlib.Core.List.{List, [], ◌∷◌, ◌++◌}
use mathlib.Core.Option.{some}
use native.Mathlib.Omega.{arith}
use lib.Dec.{ltb}
use lib.ListN.{length, get_or, take}
use borrow.Author.Tests.{ltb-true, ltb-false, lt-ltb, le-ltb}
use Rattle.block.specs.declared.Id.{Id}
use Rattle.block.specs.declared.Block.{Block}
use Rattle.block.specs.Row.{no_block}
use Rattle.ranges.specs.RangesInner.{Normal}
use Rattle.ranges.specs.TableInner.{rows_from}
use Rattle.slots.specs.Slots.{Slot}
use Rattle.slots.proofs.Clients.{clients_of}
use Rattle.picker.specs.Picker.{nowhere}
use Rattle.sorting.specs.Steps.{State, Stuck}
use Rattle.sorting.specs.Rules.{queue, is_skip, deps, others, unmet, waits, system, report}
use Rattle.sorting.specs.Rule28.{asks28}
use Rattle.sorting.specs.Rule28Inner.{rule28}
use Rattle.sorting.specs.Named.{asks_of}
use Rattle.sorting.specs.Sorted.{steps, outcome, waiting, pending_in, outcome_of}
use Rattle.sorting.specs.Held.{rule_held, owners, pending_held}
use Rattle.sorting.proofs.Outcome.{can-intro}
use Rattle.sorting.proofs.Rules.{report-waits}
use Rattle.sorting.proofs.Numbers.{owner_at}
use Rattle.sorting.proofs.Clients.{clients-blocks}
use Rattle.sorting.proofs.Demand.{left-waits}
use Rattle.sorting.proofs.Held.{held-mono, held-sorts}
use Rattle.outcome.specs.Tie.{slot_of}
use Rattle.outcome.proofs.Places.{row_block}
use Rattle.outcome.proofs.Reported.{Each, each}
use Rattle.awaited.specs.Awaited.{first_unmet, waiting_words}
use Rattle.numbered.specs.Numbered.{by_number}
use Rattle.numbered.proofs.Blocks.{numbered-at, numbered-queue}
use Rattle.placing.specs.Placing.{first_of, rows_by}
use Rattle.held_sorter.proofs.Exits.{long}
use Rattle.held_outcome.proofs.Came.{Fit, held, is-slotted, is-gone, placed_at, firsts, end, met}
use Rattle.held_outcome.proofs.Waits.{first-is}
use Rattle.sweeper.specs.Sweeper.{Board, row_at, seen_by}
use Rattle.swept.proofs.Stands.{Stands, row-at, row_small, row-is-front, row-none}
use Rattle.slow_held_sorter.specs.SlowHeld.{awaited_at, awaited_from, pending_by}
use Rattle.held_swept.proofs.Came.{us, numbered, given, d, stands}

module _ (bs : List Block) (fit : Fit bs) (rows : List Block) (back : take (length bs) rows ≡ bs) (short : length rows ≤ nowhere) (w : List ℕ) (h : ℕ)
    (normal : Normal (rows_from w 0 h)) (before : List ℕ) where
  abbrev ss : List Slot
  ss = us bs fit rows back short w h normal before

  abbrev b : Board
  b = d bs fit rows back short w h normal before

  -- the rows by number
  abbrev rn : List Block
  rn = rows_by w h ss rows 0 rows

  abbrev s : State Id
  s = outcome rule_held bs (owners bs) (held bs fit rows back short w h normal)

  abbrev u : State ℕ
  u = outcome_of rule28 (numbered bs fit rows back short w h normal before) []

  stood : Stands ss u b
  unfolding asks_of
  stood = stands bs fit rows back short w h normal before

  -- the words of slot i before any others are those that its client is reported with
  abbrev Told : ℕ → Slot → Type 0
  Told i t = (rest : List ℕ)
      → awaited_at ss b.reach rows rn t (get_or b.taken i 0) ++ rest ≡ waiting (λ (e : Id). e.clock) t.client (report rule_held (queue bs) s t.client) rest

  module _ (i : ℕ) (small : i < length ss) where
    abbrev c : ℕ
    c = (slot_of ss i).client

    abbrev row : ℕ
    row = row_at ss b i

    -- as many are taken by number
    taken_is : s.taken c ≡ u.taken c
    taken_is = (end bs fit rows back short w h normal).taken c

    queue-is : length (queue (numbered bs fit rows back short w h normal before) c) ≡ length (queue bs c)
    queue-is = numbered-queue (is-gone bs fit rows back short w h normal) (placed_at bs fit rows back short w h normal) (first_of ss) bs c

    module _ (more : s.taken c < length (queue bs c)) where
      more-so : u.taken c < length (queue (numbered bs fit rows back short w h normal before) c)
      more-so = omega (arith, taken_is, queue-is)

      abbrev a : Block
      a = get_or (queue bs c) (s.taken c) no_block

      slot-count : s.taken c < (slot_of ss i).count
      slot-count = omega (arith, (is-slotted bs fit rows back short w h normal).counts i small)

      place_is : row ≡ (slot_of ss i).first + s.taken c
      place_is = omega (arith, row-at 28 (given bs fit rows back short w h normal before) stood i small more-so, taken_is)

      row_is : get_or rows row no_block ≡ a
      row_is =
          ap (λ (x : ℕ). get_or rows x no_block) place_is
          ∙ row_block (is-slotted bs fit rows back short w h normal) fit.ordered i (s.taken c) small slot-count rows back

      numbered_is : get_or rn row no_block ≡ by_number (is-gone bs fit rows back short w h normal) (placed_at bs fit rows back short w h normal) (s.taken c) a
      unfolding seen_by
      numbered_is =
          row-is-front 28 (given bs fit rows back short w h normal before) stood i small more-so
          ∙ ap (λ (k : ℕ). get_or (queue (numbered bs fit rows back short w h normal before) c) k no_block) (sym taken_is)
          ∙ numbered-at (is-gone bs fit rows back short w h normal) (placed_at bs fit rows back short w h normal) (first_of ss) bs fit.ordered
          (firsts bs fit rows back short w h normal) c (s.taken c) more

      is-there : ltb row (length rows) ≡ true
      unfolding seen_by
      is-there = lt-ltb row (length rows) (omega (arith, row_small 28 (given bs fit rows back short w h normal before) stood i small more-so, long w h ss rows))

      -- a Skip is not left
      item : is_skip a ≡ false
      unfolding outcome Stuck system
      item = go (is_skip a) refl
        where
          go : (x : Bool) → is_skip a ≡ x → is_skip a ≡ false
          go true e = absurd ((held-sorts bs (held bs fit rows back short w h normal)).ends.end c (can-intro (steps rule_held bs) s c more (rw e tt)))
          go false e = e

      unmet-is : (e : Id) → report rule_held (queue bs) s c ≡ some e → unmet (λ (x : Id). ltb 0 (s.known x)) (others a.client (deps a)) ≡ some e
      unfolding waits rule_held asks28
      unmet-is e p = ap (λ (x : ℕ). unmet (λ (y : Id). ltb 0 (s.known y)) (others x (deps a))) (owner_at bs c (s.taken c) more) ∙ report-waits rule_held (queue bs) s c e p

      first-unmet : (e : Id) → report rule_held (queue bs) s c ≡ some e → first_unmet ss b.reach (get_or rows row no_block) (get_or rn row no_block) ≡ e
      first-unmet e p =
          ap (λ (x : Block). first_unmet ss b.reach x (get_or rn row no_block)) row_is ∙ ap (first_unmet ss b.reach a) numbered_is
          ∙ first-is ss b.reach u.known stood.shows (is-gone bs fit rows back short w h normal) (placed_at bs fit rows back short w h normal)
          (λ (x : Id). ltb 0 (s.known x)) (met bs fit rows back short w h normal) a item (s.taken c) e (unmet-is e p)

    told-left : s.taken c < length (queue bs c) → Told i (slot_of ss i)
    unfolding awaited_at waiting_words
    told-left more rest =
        let l = left-waits rule_held held-mono bs (owners bs) (clients-blocks bs []) (held bs fit rows back short w h normal) c more in
        rw (is-there more, l.1) (ap (λ (e : Id). c ∷ (e.client ∷ (e.clock ∷ rest))) (first-unmet more l.0 l.1))

    told_none : length (queue bs c) ≤ s.taken c → Told i (slot_of ss i)
    unfolding awaited_at report seen_by
    told_none over rest =
        rw (
          le-ltb row (length rows) (omega (arith, row-none 28 (given bs fit rows back short w h normal before) stood i small (omega (arith, taken_is, queue-is)), long w h ss rows)),
          le-ltb (s.taken c) (length (queue bs c)) over,
        ) refl

    told : Told i (slot_of ss i)
    told = go (ltb (s.taken c) (length (queue bs c))) refl
      where
        go : (x : Bool) → ltb (s.taken c) (length (queue bs c)) ≡ x → Told i (slot_of ss i)
        go true e = told-left (ltb-true (s.taken c) (length (queue bs c)) e)
        go false e = told_none (ltb-false (s.taken c) (length (queue bs c)) e)

  -- ---- all slots

  told-from : (i : ℕ) (ts : List Slot) → Each Told i ts → awaited_from ss b.reach rows rn b.taken i ts ≡ pending_in rule_held bs s (clients_of ts)
  unfolding awaited_from pending_in rule_held
  told-from i [] f = refl
  told-from i (t ∷ ts) f =
      ap (λ (l : List ℕ). awaited_at ss b.reach rows rn t (get_or b.taken i 0) ++ l) (told-from (suc i) ts f.1)
      ∙ f.0 (pending_in rule_held bs s (clients_of ts))

  pub pending-so : pending_by w h ss rows before ≡ pending_held bs (rows_from w 0 h)
  unfolding pending_by pending_held
  pending-so = told-from 0 ss (each Told ss told) ∙ ap (pending_in rule_held bs s) (is-slotted bs fit rows back short w h normal).names
