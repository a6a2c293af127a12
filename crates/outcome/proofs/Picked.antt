-- The sorter's looks come to the one outcome: each takes a block as a run does that takes the highest client at each step, or finds what a front waits for,
-- and there are enough of them.
use Prim.Native.Nat.{ℕ, zero, suc, ◌+◌, ◌-◌, ◌*◌, ◌≤◌, ◌<◌}
use mathlib.Core.Path.{◌≡◌, refl, sym, ap, subst, ◌∙◌}
use mathlib.Core.Logic.{inl, inr, ◌≢◌}
use mathlib.Core.Bool.{Bool, true, false}
use mathlib.Core.List.{List, [], ◌∷◌, ◌++◌}
use native.Mathlib.Nat.{mul-le-mul}
use native.Mathlib.Omega.{arith}
use lib.Dec.{eqb}
use lib.ListN.{length, set, take, length-append, length-take}
use borrow.Author.Tests.{lt-ltb, le-ltb, le-leb, eq-eqb, ne_eqb, eqb-true, eqb-false}
use Rattle.numbers.specs.Limits.{max_clock, max_blocks}
use Rattle.block.specs.declared.Block.{Block}
use Rattle.vector.specs.Vector.{Entry}
use Rattle.kept.specs.Kept.{remote}
use Rattle.readings.specs.Sound.{All}
use Rattle.readings.specs.SoundInner.{Sound}
use Rattle.parts.specs.Brim.{brim}
use Rattle.slots.specs.Slots.{Slot}
use Rattle.slots.proofs.Ranks.{client_at}
use Rattle.picker.specs.declared.fronts.Front.{Front}
use Rattle.picker.proofs.StageLaws.{count_most}
use Rattle.picker.specs.Fronts.{front_at, put_front}
use Rattle.picker.specs.Picker.{nowhere, one_more, looked, moved, lift, pushed, desk, pointed, looks_each, looks, kept, took, offered, picked, all_picked}
use Rattle.sorting.specs.Steps.{start, after, Run, Highest}
use Rattle.sorting.specs.Named.{asks_of, rule_of}
use Rattle.sorting.specs.Sorted.{all_clients, steps, order, outcome, numbers_by, order_of}
use Rattle.sorting.proofs.Quick.{run_more, after_more, highest-more}
use Rattle.sorting.proofs.Numbers.{numbers_by-more, numbers_by-length}
use Rattle.sorting.proofs.Rules.{reaches-mono}
use Rattle.sorting.proofs.Clients.{clients-blocks}
use Rattle.sorting.proofs.Demand.{front, is-order}
use Rattle.outcome.specs.Tie.{Slotted, Sortable, Opened, Ended, overlaid}
use Rattle.outcome.specs.Came.{Came}
use Rattle.outcome.proofs.Asked.{Clocks}
use Rattle.outcome.proofs.Overlay.{overlaid-none, overlaid-more}
use Rattle.outcome.proofs.Standing.{Standing}
use Rattle.outcome.proofs.Pointed.{look, Idle, Chosen, pointed-zero, pointed-one}
use Rattle.outcome.proofs.Turns.{work, Given, next-number, next-below, next-block, took-can, took-stands, took-work, kept-stands, kept-work}
use Rattle.outcome.proofs.Turns.{chosen-highest, idle-stuck, idle_ended, spent-idle}
use Rattle.outcome.proofs.Begun.{begun-stands, begun-work}

-- ---- a look at the front of slot i, k more being left

more-is : (n : ℕ) → n < brim → one_more n ≡ suc n
unfolding one_more
more-is n h = rw (lt-ltb n brim h)

module _ (rule : ℕ) (ss : List Slot) (reach fronts words : List ℕ) (i made k : ℕ) (b : Block) where
  abbrev f : Front
  f = front_at fronts i

  last : suc k - 1 ≡ k
  last = omega arith

  offered-took : (looked rule ss reach f b).need ≡ 0 → made < brim
      → offered rule ss (desk (look i f.next made (suc k)) reach fronts words) b
      ≡ desk (pointed (put_front fronts i (moved f f.next)) (lift reach i b) (length ss) (suc made) k) (lift reach i b)
      (put_front fronts i (moved f f.next)) (set words made f.next)
  unfolding offered took pushed
  offered-took e h = rw (eq-eqb (looked rule ss reach f b).need 0 e, more-is made h, last) refl

  offered-kept : (looked rule ss reach f b).need ≢ 0
      → offered rule ss (desk (look i f.next made (suc k)) reach fronts words) b
      ≡ desk (pointed (put_front fronts i (looked rule ss reach f b)) reach (length ss) made k) reach (put_front fronts i (looked rule ss reach f b)) words
  unfolding offered kept
  offered-kept ne = rw (ne_eqb (looked rule ss reach f b).need 0 ne, last) refl

-- ---- how far the looks have come

-- some run that takes the highest client at each step has come to what the desk shows, and as many looks are left as the fronts may need
record Reached (rule : ℕ) (bs : List Block) (v : List Entry) (ss : List Slot) (before reach fronts words : List ℕ) (made left : ℕ) : Type 0 where
  cs : List ℕ
  run : Run (steps (rule_of rule) bs) (start (remote v)) cs
  highest : Highest (steps (rule_of rule) bs) (start (remote v)) cs
  stands : Standing rule bs ss reach fronts (after (steps (rule_of rule) bs) (start (remote v)) cs)
  count : made ≡ length cs
  numbers : words ≡ overlaid before (numbers_by (rule_of rule) bs (start (remote v)) cs)
  enough : work rule fronts (length ss) ≤ left
  few : made + left ≤ 5 * max_blocks

module _ {rule : ℕ} {bs : List Block} {v : List Entry} {ss : List Slot} (given : Given bs v ss) {before reach fronts words : List ℕ} {made : ℕ} where
  -- nothing is due
  idle-came : {left : ℕ} → Reached rule bs v ss before reach fronts words made left → Idle fronts reach (length ss)
      → Came rule bs v ss before (desk (look 0 nowhere made left) reach fronts words)
  unfolding outcome order_of
  idle-came r idle =
      let e = is-order (rule_of rule) (reaches-mono (asks_of rule)) bs (all_clients bs v) (clients-blocks bs v) (remote v) r.cs (record { run = r.run; end = idle-stuck given r.stands idle }) r.highest in
      record {
        steps = r.count ∙ ap length e ∙ sym (numbers_by-length (rule_of rule) bs (start (remote v)) (order (rule_of rule) bs (all_clients bs v) (remote v)));
        order = r.numbers ∙ ap (λ (cs : List ℕ). overlaid before (numbers_by (rule_of rule) bs (start (remote v)) cs)) e;
        ended = subst (λ (cs : List ℕ). Ended rule bs ss (after (steps (rule_of rule) bs) (start (remote v)) cs) reach fronts) e (idle_ended given r.stands idle);
      }

  -- the first front that is due is looked at
  module _ {k : ℕ} (r : Reached rule bs v ss before reach fronts words made (suc k)) {i : ℕ} (chosen : Chosen fronts reach (length ss) i) where
    abbrev g : Front
    g = front_at fronts i

    abbrev b : Block
    b = front bs (after (steps (rule_of rule) bs) (start (remote v)) r.cs) (client_at ss i)

    reached-took : (looked rule ss reach g b).need ≡ 0
        → Reached rule bs v ss before (lift reach i b) (put_front fronts i (moved g g.next)) (set words made g.next) (suc made) k
    reached-took e =
        let c = client_at ss i in
        let ns = numbers_by (rule_of rule) bs (start (remote v)) r.cs in
        record {
          cs = r.cs ++ (c ∷ []);
          run = run_more (steps (rule_of rule) bs) (start (remote v)) r.cs c r.run (took-can given r.stands chosen.here e);
          highest = highest-more (steps (rule_of rule) bs) (start (remote v)) r.cs c r.highest (chosen-highest given r.stands chosen);
          stands = rw (after_more (steps (rule_of rule) bs) (start (remote v)) r.cs c) (took-stands given r.stands chosen.here e);
          count = omega (arith, r.count, length-append r.cs (c ∷ []));
          numbers =
              ap (λ (w : List ℕ). set w made g.next) r.numbers
              ∙ ap (λ (n : ℕ). set (overlaid before ns) n g.next) (r.count ∙ sym (numbers_by-length (rule_of rule) bs (start (remote v)) r.cs))
              ∙ overlaid-more before ns g.next
              ∙ ap (λ (n : ℕ). overlaid before (ns ++ (n ∷ []))) (next-number given r.stands chosen.here)
              ∙ sym (ap (overlaid before) (numbers_by-more (rule_of rule) bs (start (remote v)) r.cs c));
          enough = omega (arith, r.enough, took-work given r.stands chosen.here e);
          few = omega (arith, r.few);
        }

    reached-kept : (looked rule ss reach g b).need ≢ 0 → Reached rule bs v ss before reach (put_front fronts i (looked rule ss reach g b)) words made k
    reached-kept ne = record {
      cs = r.cs;
      run = r.run;
      highest = r.highest;
      stands = kept-stands given r.stands chosen.here ne;
      count = r.count;
      numbers = r.numbers;
      enough = omega (arith, r.enough, kept-work given r.stands chosen.here ne);
      few = omega (arith, r.few);
    }

-- ---- look after look

module _ (rule : ℕ) {bs : List Block} {v : List Entry} {ss : List Slot} (given : Given bs v ss) (rows : List Block) (agree : take (length bs) rows ≡ bs)
    (short : length rows ≤ nowhere) (before : List ℕ) where
  -- so many looks come to the outcome from wherever the looks before them have come to
  abbrev Onward : ℕ → Type 0
  Onward k = (reach fronts words : List ℕ) (made : ℕ) → Reached rule bs v ss before reach fronts words made k
      → Came rule bs v ss before (picked rule k ss rows (desk (pointed fronts reach (length ss) made k) reach fronts words))

  longer : length bs ≤ length rows
  longer = omega (arith, length-take (length bs) rows, ap length agree)

  spent : Onward 0
  unfolding picked
  spent reach fronts words made r = rw (pointed-zero fronts reach (length ss) made) (idle-came given r (spent-idle given r.stands r.enough))

  module _ (k : ℕ) (on : Onward k) (reach fronts words : List ℕ) (made : ℕ) (r : Reached rule bs v ss before reach fronts words made (suc k)) where
    module _ {i : ℕ} (chosen : Chosen fronts reach (length ss) i) where
      abbrev a : Block
      a = front bs (after (steps (rule_of rule) bs) (start (remote v)) r.cs) (client_at ss i)

      abbrev h : Front
      h = front_at fronts i

      at-offered : (x : Bool) → eqb (looked rule ss reach h a).need 0 ≡ x
          → Came rule bs v ss before (picked rule k ss rows (offered rule ss (desk (look i h.next made (suc k)) reach fronts words) a))
      at-offered true e =
          let z = eqb-true (looked rule ss reach h a).need 0 e in
          rw (offered-took rule ss reach fronts words i made k a z (omega (arith, r.few))) (on _ _ _ (suc made) (reached-took given r chosen z))
      at-offered false e =
          let z = eqb-false (looked rule ss reach h a).need 0 e in
          rw (offered-kept rule ss reach fronts words i made k a z) (on _ _ _ made (reached-kept given r chosen z))

      at-chosen : Came rule bs v ss before (picked rule (suc k) ss rows (desk (look i h.next made (suc k)) reach fronts words))
      unfolding picked
      at-chosen =
          let below = next-below given r.stands chosen.here in
          rw (lt-ltb h.next (length rows) (omega (arith, longer)), next-block given r.stands chosen.here rows agree)
          (at-offered (eqb (looked rule ss reach h a).need 0) refl)

    turn : Came rule bs v ss before (picked rule (suc k) ss rows (desk (pointed fronts reach (length ss) made (suc k)) reach fronts words))
    unfolding picked
    turn = elim (pointed-one fronts reach (length ss) made k)
        [ inl p ↦ rw p.2 (at-chosen p.1) | inr p ↦ rw (p.1, le-ltb nowhere (length rows) (omega arith)) (idle-came given r p.0) ]

  onward : (k : ℕ) → Onward k
  onward zero = spent
  onward (suc k) = turn k (onward k)

each-most : (rule : ℕ) → looks_each rule ≤ 5
unfolding looks_each
each-most rule = omega (arith, count_most rule)

sound-clocks : (u : List ℕ) (bs : List Block) → All (Sound u) bs → All Clocks bs
sound-clocks u [] all = tt
sound-clocks u (b ∷ bs) all = let low : b.clock ≤ max_clock = omega (arith, all.0.end) in ((low, all.0.left.clock, all.0.right.clock, all.0.parent.clock), sound-clocks u bs all.1)

-- of blocks whose clocks are within the limit
pub picked-clocks : (rule : ℕ) (bs rows : List Block) (v : List Entry) (ss : List Slot) (reach fronts words : List ℕ) → take (length bs) rows ≡ bs
    → length rows ≤ nowhere → Sortable bs → All Clocks bs → All (λ (e : Entry). e.clock ≤ max_clock) v → Slotted bs v ss → Opened v ss reach fronts
    → Came rule bs v ss words (all_picked rule ss rows (length bs) reach fronts words)
unfolding all_picked looks after Run Highest numbers_by
picked-clocks rule bs rows v ss reach fronts words agree short sortable clocks low slotted opened =
    rw (le-leb (length bs) max_blocks sortable.few)
    (onward rule (record { slotted = slotted; sortable = sortable; clocks = clocks }) rows agree short words (looks_each rule * length bs) reach fronts words 0
    (record {
      cs = [];
      run = tt;
      highest = tt;
      stands = begun-stands rule slotted opened low;
      count = refl;
      numbers = sym (overlaid-none words);
      enough = begun-work rule slotted opened;
      few = omega (arith, mul-le-mul (each-most rule) sortable.few);
    }))

pub picked-outcome : (rule : ℕ) (u : List ℕ) (bs rows : List Block) (v : List Entry) (ss : List Slot) (reach fronts words : List ℕ) → take (length bs) rows ≡ bs
    → length rows ≤ nowhere → Sortable bs → All (Sound u) bs → All (λ (e : Entry). e.clock ≤ max_clock) v → Slotted bs v ss → Opened v ss reach fronts
    → Came rule bs v ss words (all_picked rule ss rows (length bs) reach fronts words)
picked-outcome rule u bs rows v ss reach fronts words agree short sortable sound low slotted opened =
    picked-clocks rule bs rows v ss reach fronts words agree short sortable (sound-clocks u bs sound) low slotted opened
