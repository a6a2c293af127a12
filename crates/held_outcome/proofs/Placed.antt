-- The rows by number, as the sorter makes them, are the numbered blocks.
use Prim.Native.Nat.{ℕ, suc, ◌+◌, ◌-◌, ◌≤◌}
use mathlib.Core.Path.{◌≡◌, refl, ap, ◌∙◌}
use mathlib.Core.Bool.{Bool, true, false}
use mathlib.Core.List.{List, [], ◌∷◌}
use native.Mathlib.Omega.{arith}
use lib.Dec.{eqb}
use lib.ListN.{length, get_or, take}
use borrow.Author.Tests.{le-ltb}
use Rattle.numbers.specs.Number.{pick}
use Rattle.numbers.specs.Limits.{max_clock}
use Rattle.block.specs.declared.Id.{Id}
use Rattle.block.specs.declared.Block.{Block}
use Rattle.block.specs.Row.{no_id, no_block, left_id, right_id, parent_id}
use Rattle.slots.specs.Slots.{Slot}
use Rattle.picker.specs.Waits.{dep, no_dependency}
use Rattle.picker.specs.Rule28.{other, stages28}
use Rattle.picker.specs.Stages.{stages, stage_at}
use Rattle.sorting.specs.Rules.{is_skip}
use Rattle.placing.specs.Placing.{is_held, span_of, held_by, capped, is_asked, placed_dep, first_of, numbered_block, row_by, rows_by}
use Rattle.numbered.specs.Numbered.{asked, placed, by_number, numbered_from}

-- stage k of a block by rule 28
pub stage-left : (b : Block) → stage_at 28 b 0 ≡ pick (is_skip b) no_dependency (other b.client b.has_left (left_id b))
unfolding stage_at stages stages28
stage-left b = go (is_skip b)
  where
    go : (x : Bool) → get_or (pick x [] (stages28 b)) 0 no_dependency ≡ pick x no_dependency (other b.client b.has_left (left_id b))
    go true = refl
    go false = refl

pub stage-right : (b : Block) → stage_at 28 b 1 ≡ pick (is_skip b) no_dependency (other b.client b.has_right (right_id b))
unfolding stage_at stages stages28
stage-right b = go (is_skip b)
  where
    go : (x : Bool) → get_or (pick x [] (stages28 b)) 1 no_dependency ≡ pick x no_dependency (other b.client b.has_right (right_id b))
    go true = refl
    go false = refl

pub stage-parent : (b : Block) → stage_at 28 b 2 ≡ pick (is_skip b) no_dependency (other b.client b.has_parent (parent_id b))
unfolding stage_at stages stages28
stage-parent b = go (is_skip b)
  where
    go : (x : Bool) → get_or (pick x [] (stages28 b)) 2 no_dependency ≡ pick x no_dependency (other b.client b.has_parent (parent_id b))
    go true = refl
    go false = refl

module _ (w : List ℕ) (h : ℕ) (ss : List Slot) (rows : List Block) where
  abbrev pub gone : Id → Bool
  gone d = is_held w h d

  abbrev pub place : Id → ℕ
  place d = held_by rows (span_of ss d.client) d.clock

  -- a stage that is placed
  placed_stage : (b : Block) (there : Bool) (d : Id)
      → placed_dep w h ss rows (pick (is_skip b) no_dependency (other b.client there d)) ≡ dep (asked gone place b there d) (placed gone place (asked gone place b there d) d)
  unfolding placed_dep is_asked other asked placed
  placed_stage b there d = go (is_skip b) there (eqb d.client b.client) (is_held w h d) refl
    where
      still : Bool → Bool → Bool → Bool → Bool
      still x y z u = pick x false (pick y (pick z false (pick u false true)) false)

      go : (x y z u : Bool) → is_held w h d ≡ u
          → placed_dep w h ss rows (pick x no_dependency (dep (pick z false y) d)) ≡ dep (still x y z u) (pick (still x y z u) (record { client = d.client; clock = place d }) no_id)
      go true y z u e = refl
      go false true true u e = refl
      go false false true u e = refl
      go false false false u e = refl
      go false true false true e = rw e refl
      go false true false false e = rw e refl

  row-numbered : (i : ℕ) (b : Block) → i ≤ max_clock → row_by w h ss rows i b ≡ by_number gone place (i - first_of ss b.client) b
  unfolding row_by numbered_block by_number capped
  row-numbered i b l =
      rw (stage-left b, stage-right b, stage-parent b)
      (rw (
        placed_stage b b.has_left (left_id b),
        placed_stage b b.has_right (right_id b),
        placed_stage b b.has_parent (parent_id b),
        le-ltb max_clock (i - first_of ss b.client) (omega arith),
      ) refl)

  pub rows-numbered : (i : ℕ) (xs bs : List Block) → take (length bs) xs ≡ bs → i + length bs ≤ max_clock
      → take (length bs) (rows_by w h ss rows i xs) ≡ numbered_from gone place (first_of ss) i bs
  unfolding rows_by numbered_from
  rows-numbered i xs [] e l = refl
  rows-numbered i [] (b ∷ bs) e l = absurd (let z : length {A = Block} [] ≡ suc (length bs) = ap length e in omega arith)
  rows-numbered i (x ∷ xs) (b ∷ bs) e l =
      let p : x ≡ b = ap (λ (ys : List Block). get_or ys 0 no_block) e in
      let t : take (length bs) xs ≡ bs = ap (λ (ys : List Block). rest ys) e in
      ap (λ (y : Block). y ∷ take (length bs) (rows_by w h ss rows (suc i) xs)) (row-numbered i x (omega arith) ∙ ap (λ (y : Block). by_number gone place (i - first_of ss y.client) y) p)
      ∙ ap (λ (ys : List Block). by_number gone place (i - first_of ss b.client) b ∷ ys) (rows-numbered (suc i) xs bs t (omega arith))
    where
      rest : List Block → List Block
      rest [] = []
      rest (y ∷ ys) = ys
