-- The slow plain sorter's run, of which the theorem holds as of any other.
use Prim.Native.Nat.{ℕ}
use mathlib.Core.Path.{refl}
use mathlib.Core.List.{List}
use Rattle.block.specs.declared.Block.{Block}
use Rattle.vector.specs.Vector.{Entry}
use Rattle.kept.specs.Kept.{remote}
use Rattle.sorting.specs.Rules.{Rule}
use Rattle.sorting.specs.Sorted.{all_clients}
use Rattle.sorting.specs.Slow.{slow_steps, slow_order_of}
use Rattle.sorting.proofs.Rules.{RuleMonotone}
use Rattle.sorting.proofs.Clients.{clients-blocks}
use Rattle.sorting.proofs.Slow.{slow-sorted}
use Rattle.knowledge.specs.More.{Ran}

pub slow-ran : (R : Rule ℕ) → RuleMonotone R → (bs : List Block) (v : List Entry) → Ran R bs (remote v) (slow_order_of R bs v)
unfolding slow_order_of
slow-ran R mono bs v =
    record { run = slow_steps R bs (all_clients bs v) (remote v); whole = (slow-sorted R mono bs (all_clients bs v) (clients-blocks bs v) (remote v)).ends; order = refl }
