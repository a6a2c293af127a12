-- Cases M and N of document 01 under both rules, what tells the rules apart, and held ids, by computing: demand 3 holds of every rule under which more knowledge
-- holds nothing back, these hold of the right ones.
use mathlib.Core.Path.{◌≡◌, refl}
use mathlib.Core.Bool.{Bool, true, false}
use mathlib.Core.List.{List, [], ◌∷◌, ◌++◌}
use Prim.Native.Nat.{ℕ}
use Rattle.block.specs.declared.Id.{Id}
use Rattle.block.specs.declared.Block.{Block}
use Rattle.block.specs.Row.{no_id}
use Rattle.block.specs.Rows.{left_is, plain, with_left, with_right, with_parent}
use Rattle.vector.specs.Vector.{Entry, entry}
use Rattle.kept.specs.Kept.{remote}
use Rattle.sorting.specs.Steps.{can, step, after}
use Rattle.sorting.specs.Quick.{remaining, best, quick, chosen as choices}
use Rattle.sorting.specs.Rules.{queue, deps, others, unmet, waits, system, report, by_reaches}
use Rattle.sorting.specs.Rule28.{asks28}
use Rattle.sorting.specs.Rule13.{id_before, asks13}
use Rattle.ranges.specs.Ranges.{Range}
use Rattle.ranges.specs.Table.{range}
use Rattle.sorting.specs.Held.{in_range, rule_held, held_in, order_held, counts_held, pending_held}
use Rattle.sorting.specs.Named.{asks_of, rule_of}
use Rattle.sorting.specs.Sorted.{insert, insert_all, all_clients, order, outcome, block_numbers_from, numbers_by, order_of}
use Rattle.sorting.specs.Slow.{lowest_first, fronts, drain, sweep, sweeps, slow, slow_steps, slow_order_of}
use Rattle.sorting.specs.Sorted.{counts_in, counts_of, reaches_in, reaches_of, pending_in, pending_of}

-- a block of some kind, clock and length, perhaps with a left id
block : ℕ → ℕ → ℕ → ℕ → Bool → Id → Block
block c clock length kind there i = left_is there i (plain c clock length kind)

-- a binary block at clock 0, and one that hangs on an id
binary : ℕ → Block
binary c = block c 0 1 4 false no_id

after-id : ℕ → ℕ → ℕ → Block
after-id c d k = block c 0 1 4 true (record { client = d; clock = k })

record Answer : Type 0 where
  numbers : List ℕ
  taken : List ℕ
  reaches : List ℕ
  pending : List ℕ

answer : List ℕ → List ℕ → List ℕ → List ℕ → Answer
answer o t r p = record { numbers = o; taken = t; reaches = r; pending = p }

sort : ℕ → List Block → List Entry → Answer
sort rule bs v = answer (order_of (rule_of rule) bs v) (counts_of (rule_of rule) bs v) (reaches_of (rule_of rule) bs v) (pending_of (rule_of rule) bs v)

-- M: both taken, one pending, both pending; N: pending at the reach, met below it
abbrev CasesMN : ℕ → Type 0
CasesMN rule =
    (sort rule (after-id 5 9 0 ∷ binary 9 ∷ []) [] ≡ answer (1 ∷ 0 ∷ []) (9 ∷ 1 ∷ 5 ∷ 1 ∷ []) (9 ∷ 1 ∷ 5 ∷ 1 ∷ []) [])
    × (sort rule (after-id 5 9 0 ∷ []) [] ≡ answer [] (5 ∷ 0 ∷ []) (5 ∷ 0 ∷ []) (5 ∷ 9 ∷ 0 ∷ []))
    × (sort rule (after-id 5 9 0 ∷ after-id 9 5 0 ∷ []) []
    ≡ answer [] (9 ∷ 0 ∷ 5 ∷ 0 ∷ []) (9 ∷ 0 ∷ 5 ∷ 0 ∷ []) (9 ∷ 5 ∷ 0 ∷ 5 ∷ 9 ∷ 0 ∷ []))
    × (sort rule (after-id 5 9 3 ∷ []) (entry 9 3 ∷ []) ≡ answer [] (5 ∷ 0 ∷ []) (9 ∷ 3 ∷ 5 ∷ 0 ∷ []) (5 ∷ 9 ∷ 3 ∷ []))
    × (sort rule (after-id 5 9 2 ∷ []) (entry 9 3 ∷ []) ≡ answer (0 ∷ []) (5 ∷ 1 ∷ []) (9 ∷ 3 ∷ 5 ∷ 1 ∷ []) [])

cases-M-and-N : CasesMN 28 × CasesMN 13
unfolding sort answer block binary after-id order_of counts_of reaches_of pending_of counts_in reaches_in pending_in numbers_by block_numbers_from outcome order all_clients insert insert_all quick choices best remaining can step after system queue deps others asks_of asks28 asks13 id_before by_reaches waits unmet report remote
cases-M-and-N = ((refl, refl, refl, refl, refl), (refl, refl, refl, refl, refl))

-- a GC of length 0, a Skip, and a binary block behind a gap
gc : ℕ → Block
gc clock = block 5 clock 0 1 false no_id

skip : Block
skip = block 5 0 2 2 false no_id

late : Bool → Id → Block
late there i = block 5 2 1 4 there i

-- W-210: under rule 13 a block waits behind a gap, a GC too, a Skip does not wait and lifts nothing, a block at its own reach is taken, and another
-- client is reported first; under rule 28 none of it waits for its own client
behind-a-gap : (sort 13 (gc 3 ∷ []) [] ≡ answer [] (5 ∷ 0 ∷ []) (5 ∷ 0 ∷ []) (5 ∷ 5 ∷ 0 ∷ []))
    × (sort 28 (gc 3 ∷ []) [] ≡ answer (0 ∷ []) (5 ∷ 1 ∷ []) (5 ∷ 3 ∷ []) [])
    × (sort 13 (skip ∷ late false no_id ∷ []) [] ≡ answer (0 ∷ []) (5 ∷ 1 ∷ []) (5 ∷ 0 ∷ []) (5 ∷ 5 ∷ 0 ∷ []))
    × (sort 28 (skip ∷ late false no_id ∷ []) [] ≡ answer (0 ∷ 1 ∷ []) (5 ∷ 2 ∷ []) (5 ∷ 3 ∷ []) [])
    × (sort 13 (late false no_id ∷ []) (entry 5 2 ∷ []) ≡ answer (0 ∷ []) (5 ∷ 1 ∷ []) (5 ∷ 3 ∷ []) [])
    × (sort 13 (late false no_id ∷ []) (entry 5 1 ∷ []) ≡ answer [] (5 ∷ 0 ∷ []) (5 ∷ 1 ∷ []) (5 ∷ 5 ∷ 1 ∷ []))
    × (sort 13 (late true (record { client = 9; clock = 0 }) ∷ []) [] ≡ answer [] (5 ∷ 0 ∷ []) (5 ∷ 0 ∷ []) (5 ∷ 9 ∷ 0 ∷ []))
unfolding gc skip late sort answer block order_of counts_of reaches_of pending_of counts_in reaches_in pending_in numbers_by block_numbers_from outcome order all_clients insert insert_all quick choices best remaining can step after system queue deps others asks_of asks28 asks13 id_before by_reaches waits unmet report remote
behind-a-gap = (refl, refl, refl, refl, refl, refl, refl)

-- W-211: the slow order takes the lowest client first and all of its fronts that are ready, and sweeps again for what another client has made ready
lowest-first : (slow_order_of (rule_of 28) (binary 9 ∷ gc 0 ∷ gc 1 ∷ []) [] ≡ 1 ∷ 2 ∷ 0 ∷ []) × (order_of (rule_of 28) (binary 9 ∷ gc 0 ∷ gc 1 ∷ []) [] ≡ 0 ∷ 1 ∷ 2 ∷ [])
    × (slow_order_of (rule_of 13) (after-id 5 9 0 ∷ late false no_id ∷ binary 9 ∷ []) [] ≡ 2 ∷ 0 ∷ [])
    × (slow_order_of (rule_of 28) (after-id 5 9 0 ∷ late false no_id ∷ binary 9 ∷ []) [] ≡ 2 ∷ 0 ∷ 1 ∷ [])
unfolding gc late block binary after-id order_of slow_order_of slow_steps slow sweeps sweep drain fronts lowest_first numbers_by block_numbers_from order all_clients insert insert_all quick choices best remaining can step after system queue deps others asks_of asks28 asks13 id_before by_reaches waits unmet remote
lowest-first = (refl, refl, refl, refl)

-- ---- held ids

held : List Block → List Range → Answer
held bs rs = answer (order_held bs rs) (counts_held bs rs) [] (pending_held bs rs)

-- of client 9: one id at clock 0, a Skip of one, one id at clock 2
gapped : List Block
gapped = block 9 0 1 4 false no_id ∷ block 9 1 1 2 false no_id ∷ block 9 2 1 4 false no_id ∷ []

-- a block of client 5 at clock 7, which hangs on an id of its own and on one of client 9
both-ids : ℕ → Block
both-ids k =
    with_left (record { client = 5; clock = 9 })
    (with_right (record { client = 9; clock = k }) (with_parent (record { client = 8; clock = 1 }) (plain 5 7 1 4)))

-- W-206: an id inside a hole is not met, though the reach is past it; the ids around it are; an id that was held at first is; the own client holds nothing
-- back, however high, nor does a gap; the first id that is not met is named with its clock; and the order is that of the highest client
held-ids : (held (gapped ++ (after-id 5 9 1 ∷ [])) [] ≡ answer (0 ∷ 1 ∷ 2 ∷ []) (9 ∷ 3 ∷ 5 ∷ 0 ∷ []) [] (5 ∷ 9 ∷ 1 ∷ []))
    × (sort 28 (gapped ++ (after-id 5 9 1 ∷ [])) [] ≡ answer (0 ∷ 1 ∷ 2 ∷ 3 ∷ []) (9 ∷ 3 ∷ 5 ∷ 1 ∷ []) (9 ∷ 3 ∷ 5 ∷ 1 ∷ []) [])
    × (held (gapped ++ (after-id 5 9 2 ∷ [])) [] ≡ answer (0 ∷ 1 ∷ 2 ∷ 3 ∷ []) (9 ∷ 3 ∷ 5 ∷ 1 ∷ []) [] [])
    × (held (gapped ++ (after-id 5 9 3 ∷ [])) [] ≡ answer (0 ∷ 1 ∷ 2 ∷ []) (9 ∷ 3 ∷ 5 ∷ 0 ∷ []) [] (5 ∷ 9 ∷ 3 ∷ []))
    × (held (after-id 5 9 1 ∷ []) (range 9 1 1 ∷ []) ≡ answer (0 ∷ []) (5 ∷ 1 ∷ []) [] [])
    × (held (after-id 5 9 2 ∷ []) (range 9 1 1 ∷ []) ≡ answer [] (5 ∷ 0 ∷ []) [] (5 ∷ 9 ∷ 2 ∷ []))
    × (held (late true (record { client = 5; clock = 7 }) ∷ []) [] ≡ answer (0 ∷ []) (5 ∷ 1 ∷ []) [] [])
    × (held (both-ids 4 ∷ []) (range 8 1 1 ∷ []) ≡ answer [] (5 ∷ 0 ∷ []) [] (5 ∷ 9 ∷ 4 ∷ []))
    × (held (both-ids 4 ∷ []) (range 9 4 1 ∷ []) ≡ answer [] (5 ∷ 0 ∷ []) [] (5 ∷ 8 ∷ 1 ∷ []))
unfolding held gapped both-ids late sort answer block after-id order_held counts_held pending_held held_in in_range rule_held order_of counts_of reaches_of pending_of counts_in reaches_in pending_in numbers_by block_numbers_from outcome order all_clients insert insert_all quick choices best remaining can step after system queue deps others asks_of asks28 asks13 id_before by_reaches waits unmet report remote
held-ids = (refl, refl, refl, refl, refl, refl, refl, refl, refl)
