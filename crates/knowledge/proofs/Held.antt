-- A larger held set holds no block back: the theorem for sorting by held ids.
use Prim.Native.Nat.{ℕ, ◌≤◌, ◌<◌}
use mathlib.Core.Path.{refl}
use mathlib.Core.Logic.{◌⊎◌, inl, inr}
use mathlib.Core.Bool.{Bool, true, false}
use mathlib.Core.List.{List, [], ◌∷◌}
use native.Mathlib.Omega.{arith}
use Rattle.numbers.specs.Number.{pick}
use Rattle.block.specs.declared.Id.{Id}
use Rattle.block.specs.declared.Block.{Block}
use Rattle.ranges.specs.Ranges.{Range}
use Rattle.ranges.specs.RangesInner.{Deleted}
use Rattle.sorting.specs.Quick.{Listed}
use Rattle.sorting.specs.Sorted.{order}
use Rattle.sorting.specs.Held.{in_range, rule_held, held_in, owners, order_held}
use Rattle.sorting.proofs.Outcome.{below_or}
use Rattle.sorting.proofs.Held.{held-mono, held-sorts, ranges-hold}
use Rattle.knowledge.specs.More.{AtLeast, Ran}
use Rattle.knowledge.proofs.More.{more-knowledge}

-- an id is held or not
at_most_one : (rs : List Range) (d : Id) → held_in rs d ≤ 1
unfolding held_in
at_most_one [] d = omega arith
at_most_one (r ∷ rs) d = go (in_range r.client r.clock r.len d) (at_most_one rs d)
  where
    go : (x : Bool) → held_in rs d ≤ 1 → pick x 1 (held_in rs d) ≤ 1
    go true h = omega arith
    go false h = h

-- every id that rs holds rs' holds
abbrev pub Larger : List Range → List Range → Type 0
Larger rs rs' = (c k : ℕ) → Deleted rs c k → Deleted rs' c k

pub larger-knows : (rs rs' : List Range) → Larger rs rs' → AtLeast (held_in rs) (held_in rs')
larger-knows rs rs' more d = go (below_or 0 (held_in rs d))
  where
    go : (0 < held_in rs d) ⊎ (held_in rs d ≤ 0) → held_in rs d ≤ held_in rs' d
    go (inl h) = omega (arith, at_most_one rs d, (ranges-hold rs' d).1 (more d.client d.clock ((ranges-hold rs d).0 h)))
    go (inr h) = omega arith

pub held-ran : (bs : List Block) (rs : List Range) → Ran rule_held bs (held_in rs) (order_held bs rs)
unfolding order_held
held-ran bs rs = record { run = order rule_held bs (owners bs) (held_in rs); whole = (held-sorts bs (held_in rs)).ends; order = refl }

-- W-212
pub larger-held : (bs : List Block) (rs rs' : List Range) → Larger rs rs' → (n : ℕ) → Listed n (order_held bs rs) → Listed n (order_held bs rs')
larger-held bs rs rs' more =
    (more-knowledge rule_held held-mono bs (held_in rs) (held_in rs') (larger-knows rs rs' more) (held-ran bs rs) (held-ran bs rs')).taken
