-- A larger held set never makes things worse: of two sorts of the same update by held ids that are done, the one that was given at least the ids of the other
-- takes each block that the other takes.
use Prim.Native.Nat.{ℕ, ◌/◌}
use mathlib.Core.Path.{◌≡◌, sym, subst, ap, ◌∙◌}
use mathlib.Core.List.{List}
use lib.ListN.{length, take}
use Rattle.block.specs.declared.Block.{Block}
use Rattle.grammar.specs.Course.{fit, things}
use Rattle.decoder.specs.Update.{blocks_of, delete_set}
use Rattle.ranges.specs.Ranges.{Range, normal}
use Rattle.updates.specs.Promises.{reading}
use Rattle.sorting.specs.Quick.{Listed}
use Rattle.sorting.specs.Held.{rule_held, held_in}
use Rattle.sorting.proofs.Held.{held-mono}
use Rattle.held_answers.specs.declared.SortedHeld.{SortedHeld}
use Rattle.held_answers.specs.Answers.{answered}
use Rattle.held_sorts.specs.Promises.{lent}
use Rattle.held_sorts.proofs.Demand.{demand-3-held}
use Rattle.rereading.proofs.Wholes.{all_read}
use Rattle.knowledge.specs.More.{Ran}
use Rattle.knowledge.proofs.More.{more-knowledge}
use Rattle.knowledge.proofs.Held.{larger-knows}
use Rattle.later.specs.HeldCalls.{HeldCall, held_sort, taken_held, given_held, Larger}
use Rattle.later.proofs.Words.{front-padded}

module _ {form : ℕ} {u v : List ℕ} (a : HeldCall form u v) where
  call-done : (held_sort a).refusal.number ≡ 0
  unfolding answered
  call-done = sym (ap (λ (x : SortedHeld). x.refusal.number) a.promised.0) ∙ a.done

  taken_is : taken_held a ≡ (held_sort a).order
  unfolding answered
  taken_is =
      ap (λ (x : SortedHeld). take x.steps a.order₁) a.promised.0 ∙ ap (take (length (held_sort a).order)) a.promised.4
      ∙ front-padded (length a.order) (held_sort a).order

  -- it sorted all blocks of its update, from what it was given
  ran : Ran rule_held (things (blocks_of form u)) (held_in (given_held a)) (held_sort a).order
  ran =
      let m = length a.rows in
      let n = length a.ranges / 3 in
      let d = demand-3-held form u v m n (length a.held / 3) (lent a.order a.counts a.pending) call-done in
      let bs = (reading form u m n).blocks in
      let first : Ran rule_held bs (held_in (normal (things (fit (length a.held / 3) (delete_set 1 v 0))))) (held_sort a).order =
      record { run = d.demanded.run; whole = d.demanded.sorts.ends; order = d.demanded.numbers } in
      let all : Ran rule_held bs (held_in (given_held a)) (held_sort a).order =
      subst (λ (rs : List Range). Ran rule_held bs (held_in rs) (held_sort a).order) (sym d.held) first in
      subst (λ (bs : List Block). Ran rule_held bs (held_in (given_held a)) (held_sort a).order) (all_read form u m n d.read.0).blocks all

-- W-212
pub holding-more : (form : ℕ) (u v w : List ℕ) (a : HeldCall form u v) (b : HeldCall form u w) → Larger (given_held a) (given_held b)
    → (n : ℕ) → Listed n (taken_held a) → Listed n (taken_held b)
holding-more form u v w a b more n l =
    let k = more-knowledge rule_held held-mono (things (blocks_of form u)) (held_in (given_held a)) (held_in (given_held b))
    (larger-knows (given_held a) (given_held b) more) (ran a) (ran b) in
    subst (Listed n) (sym (taken_is b)) (k.taken n (subst (Listed n) (taken_is a) l))
