-- Asking later never makes things worse: of two sorts of the same update that are done, the one whose vector has every clock as high or higher takes what the
-- other takes, and every client reaches as far. Of any sorter that carries its steps to an end, and so of `sort`.
use Prim.Native.Nat.{ℕ, ◌/◌}
use mathlib.Core.Path.{◌≡◌, sym, subst}
use mathlib.Core.List.{List}
use native.Mathlib.Omega.{arith}
use lib.ListN.{length}
use Rattle.block.specs.declared.Id.{Id}
use Rattle.block.specs.declared.Block.{Block}
use Rattle.grammar.specs.Course.{things}
use Rattle.decoder.specs.Update.{blocks_of}
use Rattle.kept.specs.Kept.{remote}
use Rattle.sorting.specs.Quick.{Listed}
use Rattle.sorting.specs.Rules.{Rule, by_reaches}
use Rattle.sorting.specs.Named.{asks_of, rule_of}
use Rattle.sorting.proofs.Rules.{reaches-mono}
use Rattle.sort_answers.specs.declared.Sorted.{Sorted}
use Rattle.sort_answers.specs.Answers.{Sort, Room}
use Rattle.sorts.specs.Promises.{lent, sort_of, SortUpdate}
use Rattle.sorts.proofs.Demand.{demand-3}
use Rattle.rereading.specs.Vectors.{entries_in}
use Rattle.rereading.proofs.Wholes.{all_read}
use Rattle.knowledge.proofs.More.{more-knowledge}
use Rattle.later.specs.Calls.{Call, SortCall}
use Rattle.later.specs.Sorters.{Ended, Sorter}
use Rattle.later.specs.Worse.{AsHigh, NotWorse}
use Rattle.later.proofs.Words.{sort_in, call-done, taken_is, reach-is}

-- what a call that is done sorted: all blocks of its update
pub ended : {f : ℕ → ℕ → Room → Sort} (R : Rule ℕ) (form : ℕ) (u v : List ℕ) → Sorter R form u v f → (a : Call f)
    → Ended R (things (blocks_of form u)) (entries_in v) (sort_in a)
ended {f} R form u v sorts a =
    let m = length a.rows in
    let n = length a.ranges / 3 in
    let (read, r) = sorts m n (lent a.order a.counts a.reaches a.pending) (call-done a) in
    subst (λ (bs : List Block). Ended R bs (entries_in v) (sort_in a)) (all_read form u m n read).blocks r

module _ {f g : ℕ → ℕ → Room → Sort} (asks : ℕ → Block → List Id) (form : ℕ) (u v w : List ℕ) (before : Sorter (by_reaches asks) form u v f)
    (after : Sorter (by_reaches asks) form u w g) (more : AsHigh v w) (a : Call f) (b : Call g) where
  pub not-worse : NotWorse a b
  not-worse =
      let bs = things (blocks_of form u) in
      let x = ended (by_reaches asks) form u v before a in
      let y = ended (by_reaches asks) form u w after b in
      let k = more-knowledge (by_reaches asks) (reaches-mono asks) bs (remote (entries_in v)) (remote (entries_in w)) more x.ran y.ran in
      record {
        taken = λ n l. subst (Listed n) (sym (taken_is b)) (k.taken n (subst (Listed n) (taken_is a) l));
        reaches = λ c. omega (arith, k.known c, reach-is a asks bs (entries_in v) x c, reach-is b asks bs (entries_in w) y c);
      }

-- ---- `sort`, by rule 13 or 28

pub sort-sorts : (rule form : ℕ) (u v : List ℕ) → Sorter (rule_of rule) form u v (sort_of rule form u v)
sort-sorts rule form u v m n room z =
    let d = demand-3 rule form u v m n room z in
    (d.read.0, record { ran = record { run = d.demanded.run; whole = d.demanded.sorts.ends; order = d.demanded.numbers }; reaches = d.reaches d.demanded.run d.demanded.sorts.ends })

-- whatever meets its promise with the number 0 is such a call
pub of-promise : (rule form : ℕ) (u v : List ℕ) (rows : List Block) (ranges order counts reaches pending : List ℕ) (r : Sorted) (rows₁ : List Block)
    (ranges₁ order₁ counts₁ reaches₁ pending₁ : List ℕ)
    → SortUpdate rule form u v rows ranges order counts reaches pending r rows₁ ranges₁ order₁ counts₁ reaches₁ pending₁ → r.refusal.number ≡ 0
    → SortCall rule form u v
of-promise rule form u v rows ranges order counts reaches pending r rows₁ ranges₁ order₁ counts₁ reaches₁ pending₁ p z = record {
  rows = rows;
  ranges = ranges;
  order = order;
  counts = counts;
  reaches = reaches;
  pending = pending;
  answer = r;
  rows₁ = rows₁;
  ranges₁ = ranges₁;
  order₁ = order₁;
  counts₁ = counts₁;
  reaches₁ = reaches₁;
  pending₁ = pending₁;
  promised = p;
  done = z;
}

-- W-212
pub asking-later : (rule form : ℕ) (u v w : List ℕ) → AsHigh v w → (a : SortCall rule form u v) (b : SortCall rule form u w) → NotWorse a b
asking-later rule form u v w = not-worse (asks_of rule) form u v w (sort-sorts rule form u v) (sort-sorts rule form u w)
