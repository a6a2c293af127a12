-- The loop that looks at fronts: the looks made and those that are left make up all looks.
use Prim.Native.Nat.{ℕ, zero, suc, ◌-◌, ◌≤◌, ◌<◌}
use mathlib.Core.Path.{◌≡◌, refl, sym, ap, ◌∙◌}
use mathlib.Core.Bool.{Bool, true, false}
use mathlib.Core.List.{List}
use native.Mathlib.Omega.{arith}
use borrow.Author.Tests.{ltb-true, lt-ltb, le-ltb}
use lib.Dec.{ltb, eqb}
use lib.ListN.{length, get_or}
use Rattle.numbers.specs.Number.{pick}
use Rattle.block.specs.declared.Block.{Block}
use Rattle.block.specs.Row.{no_block}
use Rattle.slots.specs.Slots.{Slot}
use Rattle.picker.specs.declared.Look.{Look}
use Rattle.picker.specs.Fronts.{front_at, due_from}
use Rattle.picker.specs.Picker.{Desk, desk, nowhere, pointed, looks, looked, offered, took, kept, picked, all_picked}

-- ---- a look leaves one look less

-- where no look is left, no front is pointed at
pub record Points (left : ℕ) (p : Look) : Type 0 where
  pub left_is : p.left ≡ left
  pub ends : left ≡ 0 → p.row ≡ nowhere

pub pointed_points : (fronts reach : List ℕ) (n steps left : ℕ) → Points left (pointed fronts reach n steps left)
unfolding pointed
pointed_points fronts reach n steps left = go (ltb 0 left) refl (ltb (due_from fronts reach 0 n) n)
  where
    go : (x : Bool) → ltb 0 left ≡ x → (y : Bool)
        → Points left
        (pick x
        (pick y (record { slot = due_from fronts reach 0 n; row = (front_at fronts (due_from fronts reach 0 n)).next; steps = steps; left = left })
        (record { slot = 0; row = nowhere; steps = steps; left = left }))
        (record { slot = 0; row = nowhere; steps = steps; left = left }))
    go true e true = record { left_is = refl; ends = λ z. absurd (omega (arith, z, ltb-true 0 left e)) }
    go true e false = record { left_is = refl; ends = λ z. refl }
    go false e y = record { left_is = refl; ends = λ z. refl }

pub offered-points : (rule : ℕ) (ss : List Slot) (d : Desk) (b : Block) → Points (d.at.left - 1) (offered rule ss d b).at
unfolding offered took kept
offered-points rule ss d b = go (eqb (looked rule ss d.reach (front_at d.fronts d.at.slot) b).need 0)
  where
    go : (x : Bool) → Points (d.at.left - 1) (pick x (took ss d b) (kept ss d (looked rule ss d.reach (front_at d.fronts d.at.slot) b))).at
    go true = pointed_points _ _ _ _ _
    go false = pointed_points _ _ _ _ _

-- ---- the loop

picked-on : (rule k : ℕ) (ss : List Slot) (rows : List Block) (d : Desk) → d.at.row < length rows
    → picked rule (suc k) ss rows d ≡ picked rule k ss rows (offered rule ss d (get_or rows d.at.row no_block))
unfolding picked
picked-on rule k ss rows d l = rw (lt-ltb d.at.row (length rows) l) refl

picked-end : (rule k : ℕ) (ss : List Slot) (rows : List Block) (d : Desk) → length rows ≤ d.at.row → picked rule k ss rows d ≡ d
unfolding picked
picked-end rule zero ss rows d l = refl
picked-end rule (suc k) ss rows d l = rw (le-ltb d.at.row (length rows) l) refl

module _ (rule : ℕ) (rows : List Block) (blocks : ℕ) (ss : List Slot) (reach₀ fronts₀ order₀ : List ℕ) where
  abbrev all : Desk
  all = all_picked rule ss rows blocks reach₀ fronts₀ order₀

  pub record Looking (p : Look) (reach fronts order : List ℕ) : Type 0 where
    pub same : picked rule p.left ss rows (desk p reach fronts order) ≡ all
    pub some : p.row < length rows → 0 < p.left

  -- there are fewer rows than nowhere
  module _ (small : length rows ≤ nowhere) where
    some_of : (left : ℕ) (p : Look) → Points left p → p.row < length rows → 0 < p.left
    some_of zero p g l = absurd (omega (arith, g.ends refl, l, small))
    some_of (suc k) p g l = omega (arith, g.left_is)

    pub begins : (n : ℕ) → length ss ≡ n → Looking (pointed fronts₀ reach₀ n 0 (looks rule blocks)) reach₀ fronts₀ order₀
    unfolding all_picked
    begins n e =
        let g = pointed_points fronts₀ reach₀ n 0 (looks rule blocks) in
        record {
          same =
              ap (λ (k : ℕ). picked rule k ss rows (desk (pointed fronts₀ reach₀ n 0 (looks rule blocks)) reach₀ fronts₀ order₀)) g.left_is
              ∙ ap (λ (m : ℕ). picked rule (looks rule blocks) ss rows (desk (pointed fronts₀ reach₀ m 0 (looks rule blocks)) reach₀ fronts₀ order₀)) (sym e);
          some = some_of (looks rule blocks) (pointed fronts₀ reach₀ n 0 (looks rule blocks)) g;
        }

    module _ (p : Look) (reach fronts order : List ℕ) (g : Looking p reach fronts order) where
      abbrev here : Desk
      here = desk p reach fronts order

      abbrev next : Desk
      next = offered rule ss here (get_or rows p.row no_block)

      pub turns : p.row < length rows → Looking next.at next.reach next.fronts next.order
      turns l =
          let q = offered-points rule ss here (get_or rows p.row no_block) in
          record { same = go p.left refl q.left_is; some = some_of (p.left - 1) next.at q }
        where
          go : (k : ℕ) → p.left ≡ k → next.at.left ≡ p.left - 1 → picked rule next.at.left ss rows next ≡ all
          go zero e f = absurd (omega (arith, g.some l, e))
          go (suc k) e f =
              let fewer : next.at.left ≡ k = omega (arith, e, f) in
              ap (λ (j : ℕ). picked rule j ss rows next) fewer ∙ sym (picked-on rule k ss rows here l) ∙ ap (λ (j : ℕ). picked rule j ss rows here) (sym e) ∙ g.same

      pub falls : p.row < length rows → next.at.left < p.left
      falls l = omega (arith, (offered-points rule ss here (get_or rows p.row no_block)).left_is, g.some l)

      pub ended : length rows ≤ p.row → here ≡ all
      ended l = sym (picked-end rule p.left ss rows here l) ∙ g.same
