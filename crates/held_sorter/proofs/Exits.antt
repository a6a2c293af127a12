-- What the functions come to: rows by number, the loops over fronts and slots, and each way out.
use Prim.Native.Nat.{ℕ, zero, suc, ◌+◌, ◌-◌, ◌/◌, ◌≤◌, ◌<◌}
use mathlib.Core.Path.{◌≡◌, refl, sym, ap, subst, ◌∙◌}
use mathlib.Core.Bool.{Bool, true, false}
use mathlib.Core.List.{List, [], ◌∷◌, ◌++◌}
use native.Mathlib.Omega.{arith}
use native.Mathlib.Nat.{add-zero}
use lib.Dec.{ltb, eqb}
use lib.ListN.{length, get_or, take, replicate, length-replicate}
use lib.Seq.{sets}
use borrow.Author.Tests.{ltb-true}
use Rattle.numbers.specs.Number.{pick}
use Rattle.block.specs.declared.Block.{Block}
use Rattle.block.specs.Row.{no_block}
use Rattle.slots.specs.Slots.{Slot, slots_from, stored, noted_all, named_all}
use Rattle.picker.specs.declared.Look.{Look}
use Rattle.picker.specs.declared.fronts.Front.{Front}
use Rattle.picker.specs.Fronts.{front_at, opened_from}
use Rattle.picker.specs.Picker.{Desk, desk, nowhere, looks, pointed, offered, all_picked}
use Rattle.reports.specs.Reports.{counts_from, fitted}
use Rattle.reports.proofs.Turns.{Report}
use Rattle.placing.specs.Placing.{row_by, rows_by}
use Rattle.chaining.specs.Chaining.{looked_by}
use Rattle.chaining.proofs.Light.{offered-same}
use Rattle.awaited.specs.Awaited.{is_left, first_unmet, waiting_words, waiting_of, waiting_from}
use Rattle.sorter.specs.declared.Sorting.{Sorting}
use Rattle.sorter.specs.Sorter.{max_reaches, slot_words, front_words, fronts_at, cleared, sorting_of, noted_by, slots_for}
use Rattle.sorter.proofs.Looking.{Looking, begins, turns, falls, ended}
use Rattle.sorter.proofs.Exits.{here}
use Rattle.held_sorter.specs.HeldSorter.{numbered_in, desk_by, counts_by, pending_by, order_by, sorting_by}

-- ---- rows by number

module _ (w : List ℕ) (h : ℕ) (ss : List Slot) (rows : List Block) where
  pub rows-length : (i : ℕ) (bs : List Block) → length (rows_by w h ss rows i bs) ≡ length bs
  unfolding rows_by
  rows-length i [] = refl
  rows-length i (b ∷ bs) = ap suc (rows-length (suc i) bs)

  rows-from : (i : ℕ) (bs : List Block) (x : ℕ) → x < length bs → get_or (rows_by w h ss rows i bs) x no_block ≡ row_by w h ss rows (i + x) (get_or bs x no_block)
  unfolding rows_by
  rows-from i [] x l = absurd (omega arith)
  rows-from i (b ∷ bs) zero l = let e : i + 0 ≡ i = omega arith in rw e refl
  rows-from i (b ∷ bs) (suc x) l = let e : i + suc x ≡ suc i + x = omega arith in rw e (rows-from (suc i) bs x (omega arith))

  pub row-at : (x : ℕ) → x < length rows → get_or (numbered_in w h ss rows) x no_block ≡ row_by w h ss rows x (get_or rows x no_block)
  row-at x l = rows-from 0 rows x l ∙ ap (λ (k : ℕ). row_by w h ss rows k (get_or rows x no_block)) (let e : 0 + x ≡ x = omega arith in e)

  pub long : length (numbered_in w h ss rows) ≡ length rows
  long = rows-length 0 rows

  -- ---- the loop over fronts

  module _ (blocks : ℕ) (reach₀ fronts₀ order₀ : List ℕ) where
    abbrev pub Looks : Look → List ℕ → List ℕ → List ℕ → Type 0
    Looks p reach fronts order = Looking 28 (numbered_in w h ss rows) blocks ss reach₀ fronts₀ order₀ p reach fronts order

    module _ (small : length rows ≤ nowhere) where
      short : length (numbered_in w h ss rows) ≤ nowhere
      short = omega (arith, long)

      pub look-begins : (n : ℕ) → length ss ≡ n → Looks (pointed fronts₀ reach₀ n 0 (looks 28 blocks)) reach₀ fronts₀ order₀
      look-begins = begins 28 (numbered_in w h ss rows) blocks ss reach₀ fronts₀ order₀ short

      module _ (p : Look) (reach fronts order : List ℕ) (g : Looks p reach fronts order) where
        abbrev next : Block → Desk
        next b = offered 28 ss (desk p reach fronts order) b

        module _ (l : p.row < length rows) where
          under : p.row < length (numbered_in w h ss rows)
          under = omega (arith, long)

          look-turns : Looks (next (row_by w h ss rows p.row (get_or rows p.row no_block))).at (next (row_by w h ss rows p.row (get_or rows p.row no_block))).reach
              (next (row_by w h ss rows p.row (get_or rows p.row no_block))).fronts (next (row_by w h ss rows p.row (get_or rows p.row no_block))).order
          look-turns = subst (λ (b : Block). Looks (next b).at (next b).reach (next b).fronts (next b).order) (row-at p.row l)
              (turns 28 (numbered_in w h ss rows) blocks ss reach₀ fronts₀ order₀ short p reach fronts order g under)

          look-falls : (next (row_by w h ss rows p.row (get_or rows p.row no_block))).at.left < p.left
          look-falls = subst (λ (b : Block). (next b).at.left < p.left) (row-at p.row l)
              (falls 28 (numbered_in w h ss rows) blocks ss reach₀ fronts₀ order₀ short p reach fronts order g under)

          -- the row that hangs only on what is not met comes to the same
          abbrev light : Block
          light = looked_by w h ss rows reach p.row (get_or rows p.row no_block)

          same : next light ≡ next (row_by w h ss rows p.row (get_or rows p.row no_block))
          same = offered-same w h ss rows (desk p reach fronts order) p.row (get_or rows p.row no_block)

          pub light-turns : Looks (next light).at (next light).reach (next light).fronts (next light).order
          light-turns = subst (λ (d : Desk). Looks d.at d.reach d.fronts d.order) (sym same) look-turns

          pub light-falls : (next light).at.left < p.left
          light-falls = subst (λ (d : Desk). d.at.left < p.left) (sym same) look-falls

        pub look-ended : length rows ≤ p.row → desk p reach fronts order ≡ all_picked 28 ss (numbered_in w h ss rows) blocks reach₀ fronts₀ order₀
        look-ended l = ended 28 (numbered_in w h ss rows) blocks ss reach₀ fronts₀ order₀ short p reach fronts order g (omega (arith, long))

  -- ---- what one front waits for

  module _ (reach : List ℕ) (s : Slot) (f : Front) (out : List ℕ) (at : ℕ) where
    abbrev words : List ℕ
    words = waiting_of ss reach rows (numbered_in w h ss rows) s f

    left_below : is_left f (length rows) ≡ true → f.next < length rows
    unfolding is_left
    left_below e = go (eqb f.left 0) e
      where
        go : (x : Bool) → pick x false (ltb f.next (length rows)) ≡ true → f.next < length rows
        go true q = absurd (let z : ◌≡◌ {A = ℕ} 0 1 = cc in omega arith)
        go false q = ltb-true f.next (length rows) q

    pub front_below : is_left f (length rows) ≡ true → f.next < length rows
    front_below = left_below

    there : is_left f (length rows) ≡ true
        → waiting_words s (first_unmet ss reach (get_or rows f.next no_block) (row_by w h ss rows f.next (get_or rows f.next no_block))) ≡ words
    unfolding waiting_of
    there e = rw e (ap (λ (b : Block). waiting_words s (first_unmet ss reach (get_or rows f.next no_block) b)) (sym (row-at f.next (left_below e))))

    pub front-waits : is_left f (length rows) ≡ true
        → (at + 3 ≡ at + length words)
        × (sets out at (waiting_words s (first_unmet ss reach (get_or rows f.next no_block) (row_by w h ss rows f.next (get_or rows f.next no_block)))) ≡ sets out at words)
    unfolding waiting_words
    front-waits e = (ap (λ (l : List ℕ). at + length l) (there e), ap (sets out at) (there e))

    pub front-done : is_left f (length rows) ≡ false → (at ≡ at + length words) × (out ≡ sets out at words)
    unfolding waiting_of
    front-done e = rw e (sym (add-zero at), refl)

  -- three words at most
  pub waiting-most : (reach : List ℕ) (s : Slot) (f : Front) → length (waiting_of ss reach rows (numbered_in w h ss rows) s f) ≤ 3
  unfolding waiting_of waiting_words
  waiting-most reach s f = go (is_left f (length rows))
    where
      go : (x : Bool) → length (pick x (waiting_words s (first_unmet ss reach (get_or rows f.next no_block) (get_or (numbered_in w h ss rows) f.next no_block))) []) ≤ 3
      go true = omega arith
      go false = omega arith

  pub waitings : (reach fronts : List ℕ)
      → Report (λ i s. waiting_of ss reach rows (numbered_in w h ss rows) s (front_at fronts i)) (λ i us. waiting_from ss reach fronts rows (numbered_in w h ss rows) i us)
  unfolding waiting_from
  waitings reach fronts = record { none = λ i. refl; more = λ i s us. refl }

  -- ---- all looks, and the reports

  module _ (blocks : ℕ) (order counts pending : List ℕ) where
    abbrev all : Desk
    all = all_picked 28 ss (numbered_in w h ss rows) blocks (replicate max_reaches 0) (opened_from 0 ss (replicate front_words 0)) order

    pub exit-slots : (sorting_of all.at (length (counts_from 0 ss all.fronts)) 0 (length (waiting_from ss all.reach all.fronts rows (numbered_in w h ss rows) 0 ss))
        ≡ sorting_by w h ss rows blocks order)
        × (take all.at.steps all.order ++ replicate (length all.order - all.at.steps) 0 ≡ order_by w h ss rows blocks order)
        × (fitted (length counts) (counts_from 0 ss all.fronts) ≡ fitted (length counts) (counts_by w h ss rows blocks order))
        × (fitted (length pending) (waiting_from ss all.reach all.fronts rows (numbered_in w h ss rows) 0 ss) ≡ fitted (length pending) (pending_by w h ss rows blocks order))
    unfolding sorting_by order_by cleared counts_by pending_by desk_by fronts_at
    exit-slots = (refl, refl, refl, refl)

-- ---- the words of slots

module _ (rows : List Block) (blocks : ℕ) where
  abbrev zeros : List ℕ
  zeros = replicate slot_words 0

  abbrev found : List Slot
  found = slots_from (stored zeros (noted_all (length zeros / 3) 0 (take blocks rows) [])) 0 (noted_by (length zeros / 3) (take blocks rows)).slots

  abbrev slots : List Slot
  slots = slots_for max_reaches (take blocks rows) []

  pub found-is : found ≡ slots
  unfolding slots_for named_all
  found-is =
      let e : length zeros / 3 ≡ max_reaches = ap (λ (n : ℕ). n / 3) (length-replicate {A = ℕ} slot_words 0) in
      here zeros (take blocks rows) ∙ ap (λ (k : ℕ). noted_all k 0 (take blocks rows) []) e

module _ (w : List ℕ) (h : ℕ) (rows : List Block) (blocks : ℕ) (order counts pending : List ℕ) where
  abbrev pub Kept : Sorting → List ℕ → List ℕ → List ℕ → Type 0
  Kept r order₁ counts₁ pending₁ =
      (r ≡ sorting_by w h (slots rows blocks) rows blocks order) × (order₁ ≡ order_by w h (slots rows blocks) rows blocks order) × (counts₁ ≡ fitted (length counts) (counts_by w h (slots rows blocks) rows blocks order))
      × (pending₁ ≡ fitted (length pending) (pending_by w h (slots rows blocks) rows blocks order))

  pub exit-kept : Kept (sorting_by w h (found rows blocks) rows blocks order) (order_by w h (found rows blocks) rows blocks order) (fitted (length counts) (counts_by w h (found rows blocks) rows blocks order)) (fitted (length pending) (pending_by w h (found rows blocks) rows blocks order))
  exit-kept = (
    ap (λ (ss : List Slot). sorting_by w h ss rows blocks order) (found-is rows blocks),
    ap (λ (ss : List Slot). order_by w h ss rows blocks order) (found-is rows blocks),
    ap (λ (ss : List Slot). fitted (length counts) (counts_by w h ss rows blocks order)) (found-is rows blocks),
    ap (λ (ss : List Slot). fitted (length pending) (pending_by w h ss rows blocks order)) (found-is rows blocks),
  )
