-- Sorting a diff comes as far as sorting the update: by rule 13 or 28, against the vector that it was made against, in either form.
use Prim.Native.Nat.{ℕ, ◌-◌, ◌/◌, ◌≤◌}
use mathlib.Core.Path.{◌≡◌, refl, sym, ap, subst, ◌∙◌}
use mathlib.Core.List.{List}
use native.Mathlib.Omega.{arith}
use lib.ListN.{length, take, replicate}
use lib.Seq.{take-append_seam}
use Rattle.numbers.specs.declared.Refusal.{Refusal}
use Rattle.numbers.specs.Limits.{max_update}
use Rattle.numbers.specs.Output.{padded}
use Rattle.block.specs.declared.Id.{Id}
use Rattle.block.specs.declared.Block.{Block}
use Rattle.grammar.specs.Course.{things}
use Rattle.decoder.specs.Update.{blocks_of}
use Rattle.readings.proofs.Orders.{blocks-ordered}
use Rattle.readings.proofs.Sounds.{blocks-sound}
use Rattle.vector.specs.Vector.{Entry}
use Rattle.kept.specs.Kept.{remote, sections_of}
use Rattle.updates.specs.Promises.{Reading}
use Rattle.sorting.specs.Rules.{queue, by_reaches}
use Rattle.sorting.specs.Named.{asks_of}
use Rattle.sorting.specs.Sorted.{all_clients, order, order_of}
use Rattle.sorting.proofs.Rules.{reaches-mono}
use Rattle.sorting.proofs.Taken.{sorts}
use Rattle.written.specs.Written.{AllAlike, sections_read}
use Rattle.diffs.specs.declared.Diff.{Diff}
use Rattle.diffs.specs.Promises.{Diffed, diff_of, answered}
use Rattle.sort_answers.specs.Answers.{Sort, Room}
use Rattle.sorts.specs.Promises.{lent}
use Rattle.rereading.specs.Vectors.{entries_in}
use Rattle.rereading.proofs.Done.{done}
use Rattle.rereading.proofs.Wholes.{all_read}
use Rattle.rereading.proofs.Reread.{reread-there}
use Rattle.knowledge.specs.More.{Ran}
use Rattle.knowledge.specs.Rests.{Remains}
use Rattle.knowledge.proofs.More.{more-knowledge}
use Rattle.knowledge.proofs.Diffs.{StaysReady, stays-ready, no_lower}
use Rattle.later.specs.Calls.{Call, SortCall, reach_by, DiffCall, written_by}
use Rattle.later.specs.Sorters.{Sorter}
use Rattle.later.specs.Worse.{AsHigh}
use Rattle.later.proofs.Queues.{remains}
use Rattle.later.proofs.Words.{call-done, reach-is}
use Rattle.later.proofs.Later.{ended, sort-sorts}

-- blocks can be sorted from anywhere
all-sorted : (asks : ℕ → Block → List Id) (bs : List Block) (v : List Entry) → Ran (by_reaches asks) bs (remote v) (order_of (by_reaches asks) bs v)
unfolding order_of
all-sorted asks bs v =
    record { run = order (by_reaches asks) bs (all_clients bs v) (remote v); whole = (sorts (by_reaches asks) (reaches-mono asks) bs v).ends; order = refl }

module _ (form : ℕ) (u v : List ℕ) (to : ℕ) (d : DiffCall form u v to) where
  abbrev m : ℕ
  m = length d.rows

  abbrev n : ℕ
  n = length d.ranges / 3

  abbrev D : Diffed
  D = diff_of form u v to m n (length d.out)

  pub diff-done : (diff_of form u v to (length d.rows) (length d.ranges / 3) (length d.out)).refusal.number ≡ 0
  unfolding answered
  diff-done = sym (ap (λ (x : Diff). x.refusal.number) d.promised.0) ∙ d.done

  bytes-are : written_by d ≡ D.bytes
  unfolding answered padded
  bytes-are =
      ap (λ (x : Diff). take x.bytes d.out₁) d.promised.0 ∙ ap (take (length D.bytes)) d.promised.3
      ∙ take-append_seam D.bytes (replicate (length d.out - length D.bytes) 0)

  abbrev bs : List Block
  bs = things (blocks_of form u)

  abbrev es : List Block
  es = things (blocks_of to (written_by d))

  -- the blocks of the diff, where it is not too long to be read
  again : length (written_by d) ≤ max_update → AllAlike (written_by d) es u (sections_read u (sections_of (entries_in v) bs))
  again short =
      let h = done form u v to m n (length d.out) diff-done in
      let same : D.reading.blocks ≡ bs = ap (λ (r : Reading). r.blocks) h.source ∙ (all_read form u m n h.read).blocks in
      let r = reread-there form u v to m n (length d.out) diff-done (subst (λ (x : List ℕ). length x ≤ max_update) bytes-are short) in
      let there = (all_read to D.bytes m n (ap (λ (why : Refusal). why.number) r.refusal)).blocks in
      subst (λ (x : List ℕ). AllAlike x (things (blocks_of to x)) u (sections_read u (sections_of (entries_in v) bs))) (sym bytes-are)
      (subst (λ (l : List Block). AllAlike D.bytes (things (blocks_of to D.bytes)) u (sections_read u (sections_of (entries_in v) l))) same
      (subst (λ (l : List Block). AllAlike D.bytes l u (sections_read u (sections_of (entries_in v) D.reading.blocks))) there r.blocks))

  left : length (written_by d) ≤ max_update → (c : ℕ) → Remains c (remote (entries_in v) c) (queue bs c) (queue es c)
  left short c = remains c u (entries_in v) bs (blocks-ordered form u) (blocks-sound form u) (written_by d) es (again short)

  -- of any two sorters by a rule under which what is left of a block is ready if the block is; the update may have been sorted against an earlier vector e
  module _ {f g : ℕ → ℕ → Room → Sort} (asks : ℕ → Block → List Id) (stays : StaysReady asks) (e : List ℕ) (more : AsHigh e v)
      (all : Sorter (by_reaches asks) form u e f) (part : Sorter (by_reaches asks) to (written_by d) v g) (a : Call f) (b : Call g) where
    was_read : length (written_by d) ≤ max_update
    was_read =
        let read = (part (length b.rows) (length b.ranges / 3) (lent b.order b.counts b.reaches b.pending) (call-done b)).0 in
        (all_read to (written_by d) (length b.rows) (length b.ranges / 3) read).short

    pub as-far : (c : ℕ) → reach_by a c ≤ reach_by b c
    as-far c =
        let R = by_reaches asks in
        let x = ended R form u e all a in
        let y = ended R to (written_by d) v part b in
        let there = all-sorted asks bs (entries_in v) in
        omega (
          arith,
          (more-knowledge R (reaches-mono asks) bs (remote (entries_in e)) (remote (entries_in v)) more x.ran there).known c,
          no_lower asks stays (remote (entries_in v)) bs es (left was_read) there.run y.ran.run there.whole.run y.ran.whole c,
          reach-is a asks bs (entries_in e) x c,
          reach-is b asks es (entries_in v) y c,
        )

-- ---- `sort`, by rule 13 or 28

-- W-212
pub diff-as-far : (rule form : ℕ) (u v : List ℕ) (to : ℕ) (d : DiffCall form u v to) (a : SortCall rule form u v) (b : SortCall rule to (written_by d) v)
    → (c : ℕ) → reach_by a c ≤ reach_by b c
diff-as-far rule form u v to d =
    as-far form u v to d (asks_of rule) (stays-ready rule) v (λ c. omega arith) (sort-sorts rule form u v) (sort-sorts rule to (written_by d) v)

-- who asks later, and for the diff alone
pub diff-later : (rule form : ℕ) (u v w : List ℕ) (to : ℕ) → AsHigh v w → (d : DiffCall form u w to) (a : SortCall rule form u v)
    (b : SortCall rule to (written_by d) w) → (c : ℕ) → reach_by a c ≤ reach_by b c
diff-later rule form u v w to more d =
    as-far form u w to d (asks_of rule) (stays-ready rule) v more (sort-sorts rule form u v) (sort-sorts rule to (written_by d) w)
