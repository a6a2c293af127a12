-- A sorter looks at one front after another: it takes the front's block, or finds what the front waits for, by the stages of a rule.
use Rattle.std.specs.Prelude.{ℕ, zero, suc, ◌+◌, ◌-◌, ◌*◌, max, Bool, true, false, List, [], ◌∷◌, ltb, leb, eqb, length, get_or, set, drop}
use Rattle.numbers.specs.Number.{pick}
use Rattle.numbers.specs.Limits.{max_clock, max_blocks}
use Rattle.block.specs.declared.Id.{Id}
use Rattle.block.specs.declared.Block.{Block}
use Rattle.block.specs.Row.{no_block}
use Rattle.block.specs.Kinds.{SKIP}
use Rattle.parts.specs.Brim.{brim}
use Rattle.slots.specs.Slots.{Slot, rank, is_named}
use Rattle.picker.specs.declared.fronts.Front.{Front}
use Rattle.picker.specs.declared.stages.Dependency.{Dependency}
use Rattle.picker.specs.declared.Look.{Look}
use Rattle.picker.specs.Fronts.{never, front_at, put_front, due_from}
use Rattle.picker.specs.Stages.{stages, stage_count}

-- ---- what a front waits for

-- an id is met where its clock is below the reach of its client, which has slot p if it has one
unfoldable pub met_at : List ℕ → ℕ → Bool → Id → Bool
met_at reach p named d = pick named (ltb d.clock (get_or reach p 0)) false

unfoldable pub is_met : List Slot → List ℕ → Id → Bool
is_met ss reach d = met_at reach (rank d.client ss) (is_named d.client ss) d

-- a dependency that is there and not met holds its block
unfoldable pub holds : List Slot → List ℕ → Dependency → Bool
holds ss reach a = pick a.there (pick (is_met ss reach a.id) false true) false

-- what it waits for then; a client without a slot never comes to any clock
unfoldable pub awaiting_at : Front → ℕ → ℕ → Bool → Id → Front
awaiting_at f stage p named d =
    pick named (record { next = f.next; left = f.left; slot = p; need = d.clock + 1; stage = stage; missing = d.client })
    (record { next = f.next; left = f.left; slot = 0; need = never; stage = stage; missing = d.client })

unfoldable pub awaiting : List Slot → Front → ℕ → Id → Front
awaiting ss f stage d = awaiting_at f stage (rank d.client ss) (is_named d.client ss) d

unfoldable pub ready : Front → Front
ready f = record { next = f.next; left = f.left; slot = f.slot; need = 0; stage = f.stage; missing = f.missing }

-- the front, so many stages having been looked at, this one last
unfoldable pub considered : List Slot → List ℕ → Front → ℕ → Dependency → Front
considered ss reach f k a = pick (holds ss reach a) (awaiting ss f k a.id) (ready f)

-- a front that is looked at, of a block that has these stages from number k on
unfoldable pub looked_from : List Slot → List ℕ → Front → ℕ → List Dependency → Front
looked_from ss reach f k [] = ready f
looked_from ss reach f k (a ∷ rest) = pick (holds ss reach a) (awaiting ss f (suc k) a.id) (looked_from ss reach f (suc k) rest)

-- what was met once is not asked for again
unfoldable pub looked : ℕ → List Slot → List ℕ → Front → Block → Front
looked rule ss reach f b = looked_from ss reach f f.stage (drop f.stage (stages rule b))

-- ---- a block that is taken

-- places and counts stay below the brim
unfoldable pub one_more : ℕ → ℕ
one_more n = pick (ltb n brim) (suc n) n

-- row i is taken
unfoldable pub moved : Front → ℕ → Front
moved f i =
    pick (leb f.left 1) (record { next = one_more i; left = 0; slot = 0; need = never; stage = 0; missing = 0 })
    (record { next = one_more i; left = f.left - 1; slot = 0; need = 0; stage = 0; missing = 0 })

-- a reach rises to the block's end; a Skip lifts nothing
unfoldable pub lifted : ℕ → Block → ℕ
lifted r b = pick (eqb b.kind SKIP) r (pick (ltb max_clock b.length.0) r (max r (b.clock + b.length.0)))

-- word n, if it is lent
unfoldable pub pushed : List ℕ → ℕ → ℕ → List ℕ
pushed w n x = set w n x

-- ---- all that a sorter has

pub record Desk : Type 0 where
  pub at : Look
  pub reach : List ℕ
  pub fronts : List ℕ
  pub order : List ℕ

abbrev pub nowhere : ℕ
nowhere = 18446744073709551615

-- the front that is looked at next, where so many slots are, so many steps were made, and so many looks are left
unfoldable pub pointed : List ℕ → List ℕ → ℕ → ℕ → ℕ → Look
pointed fronts reach n steps left =
    pick (ltb 0 left)
    (pick (ltb (due_from fronts reach 0 n) n)
    (record { slot = due_from fronts reach 0 n; row = (front_at fronts (due_from fronts reach 0 n)).next; steps = steps; left = left })
    (record { slot = 0; row = nowhere; steps = steps; left = left }))
    (record { slot = 0; row = nowhere; steps = steps; left = left })

-- a block is looked at once for each stage at most, and once to be taken
unfoldable pub looks_each : ℕ → ℕ
looks_each rule = suc (stage_count rule)

unfoldable pub looks : ℕ → ℕ → ℕ
looks rule blocks = pick (leb blocks max_blocks) (looks_each rule * blocks) 0

-- the front that was pointed at has this block: it waits, or the block is taken
unfoldable pub kept : List Slot → Desk → Front → Desk
kept ss d g =
    record {
      at = pointed (put_front d.fronts d.at.slot g) d.reach (length ss) d.at.steps (d.at.left - 1);
      reach = d.reach;
      fronts = put_front d.fronts d.at.slot g;
      order = d.order;
    }

unfoldable pub lift : List ℕ → ℕ → Block → List ℕ
lift reach i b = set reach i (lifted (get_or reach i 0) b)

unfoldable pub took : List Slot → Desk → Block → Desk
took ss d b =
    record {
      at = pointed (put_front d.fronts d.at.slot (moved (front_at d.fronts d.at.slot) d.at.row))
          (lift d.reach d.at.slot b) (length ss)
          (one_more d.at.steps) (d.at.left - 1);
      reach = lift d.reach d.at.slot b;
      fronts = put_front d.fronts d.at.slot (moved (front_at d.fronts d.at.slot) d.at.row);
      order = pushed d.order d.at.steps d.at.row;
    }

unfoldable pub offered : ℕ → List Slot → Desk → Block → Desk
offered rule ss d b =
    pick (eqb (looked rule ss d.reach (front_at d.fronts d.at.slot) b).need 0) (took ss d b)
    (kept ss d (looked rule ss d.reach (front_at d.fronts d.at.slot) b))

-- k looks, as far as a front is pointed at
unfoldable pub picked : ℕ → ℕ → List Slot → List Block → Desk → Desk
picked rule zero ss bs d = d
picked rule (suc k) ss bs d = pick (ltb d.at.row (length bs)) (picked rule k ss bs (offered rule ss d (get_or bs d.at.row no_block))) d

abbrev pub desk : Look → List ℕ → List ℕ → List ℕ → Desk
desk p reach fronts order = record { at = p; reach = reach; fronts = fronts; order = order }

-- all looks
unfoldable pub all_picked : ℕ → List Slot → List Block → ℕ → List ℕ → List ℕ → List ℕ → Desk
all_picked rule ss bs blocks reach fronts order =
    picked rule (looks rule blocks) ss bs (desk (pointed fronts reach (length ss) 0 (looks rule blocks)) reach fronts order)
