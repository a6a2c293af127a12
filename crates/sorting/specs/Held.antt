-- Sorting by held ids (W-206): a block waits for the ids of other clients that it hangs on, until each is held: at first, or by a taken block that is
-- no Skip. What is known is, for an id, whether it is held: 1 if so, else 0. Reported of an id that is not held is its own clock. No reach decides
-- anything.
use Rattle.std.specs.Prelude.{ℕ, ◌+◌, Bool, ◌&&◌, List, [], ◌∷◌, ltb, leb, eqb}
use Rattle.numbers.specs.Number.{pick}
use Rattle.block.specs.declared.Id.{Id}
use Rattle.block.specs.declared.Block.{Block}
use Rattle.ranges.specs.Ranges.{Range}
use Rattle.sorting.specs.Steps.{State, start}
use Rattle.sorting.specs.Rules.{Rule}
use Rattle.sorting.specs.Rule28.{asks28}
use Rattle.sorting.specs.Sorted.{all_clients, order, outcome, numbers_by, counts_in, pending_in}

-- the id is one of so many of client c from a clock on
unfoldable pub in_range : ℕ → ℕ → ℕ → Id → Bool
in_range c clock n d = eqb d.client c && (leb clock d.clock && ltb d.clock (clock + n))

-- a block of client c holds its ids; a block of length 0 holds none (and of a Skip nothing is made known: `system`)
unfoldable pub rule_held : Rule Id
rule_held = record {
  asks = asks28;
  met = λ held d. ltb 0 (held d);
  tells = λ c b d. pick (in_range c b.clock b.length.0 d) 1 0;
  says = λ held d. d.clock;
}

-- what ranges hold
unfoldable pub held_in : List Range → Id → ℕ
held_in [] d = 0
held_in (r ∷ rs) d = pick (in_range r.client r.clock r.len d) 1 (held_in rs d)

-- ---- sorted against held ranges; reported are the clients that have blocks

abbrev pub owners : List Block → List ℕ
owners bs = all_clients bs []

abbrev pub outcome_held : List Block → List Range → State Id
outcome_held bs rs = outcome rule_held bs (owners bs) (held_in rs)

unfoldable pub order_held : List Block → List Range → List ℕ
order_held bs rs = numbers_by rule_held bs (start (held_in rs)) (order rule_held bs (owners bs) (held_in rs))

unfoldable pub counts_held : List Block → List Range → List ℕ
counts_held bs rs = counts_in bs (outcome_held bs rs) (owners bs)

unfoldable pub pending_held : List Block → List Range → List ℕ
pending_held bs rs = pending_in rule_held bs (outcome_held bs rs) (owners bs)
