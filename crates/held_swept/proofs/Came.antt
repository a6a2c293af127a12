-- The sweeps over the rows by number come to the slow order of sorting by held ids, and the board shows its one outcome.
use Prim.Native.Nat.{ℕ, ◌≤◌, ◌<◌}
use mathlib.Core.Path.{◌≡◌, sym, ap, subst, ◌∙◌}
use mathlib.Core.Bool.{true}
use mathlib.Core.List.{List, []}
use native.Mathlib.Omega.{arith}
use lib.ListN.{length, get_or, take, replicate, length-replicate, get_or-replicate}
use Rattle.block.specs.declared.Block.{Block}
use Rattle.ranges.specs.RangesInner.{Normal}
use Rattle.ranges.specs.TableInner.{rows_from}
use Rattle.kept.specs.Kept.{remote}
use Rattle.slots.specs.Slots.{Slot}
use Rattle.picker.specs.Picker.{nowhere}
use Rattle.sorting.specs.Steps.{State}
use Rattle.sorting.specs.Named.{asks_of, rule_of}
use Rattle.sorting.specs.Sorted.{all_clients, counts_in, outcome_of, counts_of}
use Rattle.sorting.specs.Slow.{slow_outcome, slow_order_of, slow_outcome_of}
use Rattle.sorting.specs.Held.{owners, counts_held}
use Rattle.sorting.proofs.Rules.{reaches-mono}
use Rattle.sorting.proofs.Clients.{clients-blocks}
use Rattle.sorting.proofs.Slow.{same_outcome, same-counts}
use Rattle.outcome.proofs.Slotted.{slots-most}
use Rattle.sorter.specs.Sorter.{max_reaches}
use Rattle.placing.specs.Placing.{first_of}
use Rattle.numbered.proofs.Blocks.{numbered-clients}
use Rattle.numbered.proofs.Numbered.{same-counts as counted}
use Rattle.numbered.proofs.Slow.{same-slow-order}
use Rattle.held_sorter.proofs.Exits.{long}
use Rattle.held_outcome.proofs.Came.{Fit, ss, held, is-slotted, is-gone, placed_at, ns, gone-is, firsts, places, sortable, slotted-so, agree}
use Rattle.sweeper.specs.Sweeper.{Board, seen_by}
use Rattle.swept.specs.Swept.{Swept}
use Rattle.swept.proofs.Stands.{Stands, Given}
use Rattle.swept.proofs.Reported.{swept-outcome, ends_at}
use Rattle.slow_held_sorter.specs.SlowHeld.{board_by, counts_by}
use Rattle.held_swept.specs.HeldSlowly.{slow_order_held}

-- these rows hold the blocks, and h ranges in these words are in normal form
module _ (bs : List Block) (fit : Fit bs) (rows : List Block) (back : take (length bs) rows ≡ bs) (short : length rows ≤ nowhere) (w : List ℕ) (h : ℕ)
    (normal : Normal (rows_from w 0 h)) (before : List ℕ) where
  abbrev pub us : List Slot
  us = ss bs fit rows back short w h normal

  abbrev pub numbered : List Block
  numbered = ns bs fit rows back short w h normal

  abbrev pub seen : List Block
  seen = seen_by true w h us rows

  pub given : Given numbered [] us seen
  unfolding seen_by
  given = record {
    slotted = slotted-so bs fit rows back short w h normal;
    sortable = sortable bs fit rows back short w h normal;
    back = agree bs fit rows back short w h normal;
    short = omega (arith, long w h us rows);
  }

  few : length us ≤ max_reaches
  few = omega (arith, slots-most bs [] us (is-slotted bs fit rows back short w h normal) fit.groups (omega arith))

  abbrev pub d : Board
  d = board_by w h us rows before

  abbrev zeros : List ℕ
  zeros = replicate {A = ℕ} max_reaches 0

  room : (length us ≤ length zeros) × (length us ≤ length zeros)
  room =
      let n : length zeros ≡ max_reaches = length-replicate {A = ℕ} max_reaches 0 in
      (omega (arith, few), omega (arith, few))

  nothing : (i : ℕ) → i < length us → get_or zeros i 0 ≡ 0
  nothing i l = get_or-replicate {A = ℕ} max_reaches i 0 0 (omega (arith, few))

  pub came : Swept 28 numbered [] us seen before d
  unfolding board_by remote
  came = swept-outcome 28 given zeros zeros before room nothing nothing

  came-at : Stands us (slow_outcome_of (rule_of 28) numbered []) d
  unfolding board_by remote slow_outcome
  came-at = ends_at 28 given zeros zeros before room nothing nothing

  -- the outcome is one
  pub stands : Stands us (outcome_of (rule_of 28) numbered []) d
  stands = subst (λ (s : State ℕ). Stands us s d)
      (same_outcome (rule_of 28) (reaches-mono (asks_of 28)) numbered (all_clients numbered []) (clients-blocks numbered []) (remote [])) came-at

  -- ---- the order and the counts

  pub order-so : slow_order_of (rule_of 28) numbered [] ≡ slow_order_held bs (rows_from w 0 h)
  unfolding slow_order_held asks_of
  order-so = sym (same-slow-order bs fit.ordered fit.count (held bs fit rows back short w h normal) (is-gone bs fit rows back short w h normal)
      (gone-is bs fit rows back short w h normal) (placed_at bs fit rows back short w h normal) (places bs fit rows back short w h normal) (first_of us)
      (firsts bs fit rows back short w h normal))

  pub counts-so : counts_by w h us rows before ≡ counts_held bs (rows_from w 0 h)
  unfolding counts_by counts_held counts_of asks_of
  counts-so =
      came.counts ∙ same-counts (rule_of 28) (reaches-mono (asks_of 28)) numbered []
      ∙ ap (counts_in numbered (outcome_of (rule_of 28) numbered [])) (numbered-clients (is-gone bs fit rows back short w h normal) (placed_at bs fit rows back short w h normal) (first_of us) bs [])
      ∙ sym (counted bs fit.ordered fit.count (held bs fit rows back short w h normal) (is-gone bs fit rows back short w h normal)
      (gone-is bs fit rows back short w h normal) (placed_at bs fit rows back short w h normal) (places bs fit rows back short w h normal) (first_of us)
      (firsts bs fit rows back short w h normal) (owners bs))
