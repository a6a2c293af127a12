-- Sorting by held ids, slowly, is an allowed run carried to its end, with the counts and the pending reports of the order of highest clients, and as many steps.
use mathlib.Core.Path.{◌≡◌, sym, ap, ◌∙◌}
use mathlib.Core.List.{List, []}
use lib.ListN.{length}
use Rattle.block.specs.declared.Id.{Id}
use Rattle.block.specs.declared.Block.{Block}
use Rattle.ranges.specs.Ranges.{Range}
use Rattle.sorting.specs.Steps.{State, start, Sorts}
use Rattle.sorting.specs.Sorted.{steps, order, counts_in, pending_in}
use Rattle.sorting.specs.Slow.{slow_steps}
use Rattle.sorting.specs.Held.{rule_held, held_in, owners, outcome_held, order_held, counts_held, pending_held}
use Rattle.sorting.proofs.Clients.{clients-blocks, clients-fall}
use Rattle.sorting.proofs.Numbers.{numbers_by-length}
use Rattle.sorting.proofs.Slow.{slow-sorted, same_outcome, same_length}
use Rattle.sorting.proofs.Held.{held-mono}
use Rattle.held_swept.specs.HeldSlowly.{slow_outcome_held, slow_order_held, slow_counts_held, slow_pending_held}

module _ (bs : List Block) (rs : List Range) where
  pub held-slowly : Sorts (steps rule_held bs) (held_in rs) (slow_steps rule_held bs (owners bs) (held_in rs))
  held-slowly = slow-sorted rule_held held-mono bs (owners bs) (clients-blocks bs []) (held_in rs)

  same-state : slow_outcome_held bs rs ≡ outcome_held bs rs
  same-state = same_outcome rule_held held-mono bs (owners bs) (clients-blocks bs []) (held_in rs)

  pub same-counts : slow_counts_held bs rs ≡ counts_held bs rs
  unfolding slow_counts_held counts_held
  same-counts = ap (λ (s : State Id). counts_in bs s (owners bs)) same-state

  pub same-pending : slow_pending_held bs rs ≡ pending_held bs rs
  unfolding slow_pending_held pending_held
  same-pending = ap (λ (s : State Id). pending_in rule_held bs s (owners bs)) same-state

  pub same-steps : length (slow_order_held bs rs) ≡ length (order_held bs rs)
  unfolding slow_order_held order_held
  same-steps =
      numbers_by-length rule_held bs (start (held_in rs)) (slow_steps rule_held bs (owners bs) (held_in rs))
      ∙ same_length rule_held held-mono bs (owners bs) (clients-blocks bs []) (held_in rs) (clients-fall bs [])
      ∙ sym (numbers_by-length rule_held bs (start (held_in rs)) (order rule_held bs (owners bs) (held_in rs)))
