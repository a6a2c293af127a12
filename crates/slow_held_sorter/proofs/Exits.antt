-- What the functions come to: the loop over slots, and each way out.
use Prim.Native.Nat.{ℕ, ◌+◌, ◌-◌, ◌*◌, ◌/◌, ◌≤◌, ◌<◌}
use mathlib.Core.Path.{◌≡◌, refl, sym, ap}
use mathlib.Core.Bool.{Bool, true, false}
use mathlib.Core.List.{List, [], ◌++◌}
use native.Mathlib.Omega.{arith}
use native.Mathlib.Nat.{add-zero}
use lib.Dec.{ltb}
use lib.ListN.{length, get_or, take, replicate, length-replicate}
use lib.Seq.{sets}
use borrow.Author.Tests.{lt-ltb, le-ltb}
use Rattle.numbers.specs.Number.{pick}
use Rattle.block.specs.declared.Block.{Block}
use Rattle.block.specs.Row.{no_block}
use Rattle.slots.specs.Slots.{Slot, slots_from, Falling, stored, noted_all, named_all}
use Rattle.slots.proofs.Words.{slots_length}
use Rattle.picker.specs.Picker.{nowhere}
use Rattle.reports.specs.Reports.{fitted}
use Rattle.reports.proofs.Turns.{Report}
use Rattle.placing.specs.Placing.{row_by, rows_by}
use Rattle.awaited.specs.Awaited.{first_unmet, waiting_words}
use Rattle.sorter.specs.declared.Sorting.{Sorting}
use Rattle.sorter.specs.Sorter.{max_reaches, slot_words, cleared, noted_by, slots_for}
use Rattle.sorter.proofs.Exits.{here, open-asks, held_fits}
use Rattle.sweeper.specs.Sweeper.{front_row, Board, board, seen_by, swept_all}
use Rattle.sweeper.proofs.Seen.{seen-length}
use Rattle.sweep_reports.specs.Reports.{taken_from}
use Rattle.slow_sorter.specs.Slowly.{sorting_by}
use Rattle.slow_sorter.proofs.Exits.{all_room}
use Rattle.held_sorter.proofs.Exits.{row-at, found-is}
use Rattle.slow_held_sorter.specs.SlowHeld.{awaited_at, awaited_from, board_by, counts_by, pending_by, order_by, sorting_at}

module _ (w : List ℕ) (h : ℕ) (ss : List Slot) (rows : List Block) where
  -- the rows by number
  abbrev numbered : List Block
  numbered = rows_by w h ss rows 0 rows

  -- ---- what one front waits for

  module _ (reach : List ℕ) (s : Slot) (done : ℕ) (out : List ℕ) (at : ℕ) where
    abbrev row : ℕ
    row = front_row s done

    abbrev words : List ℕ
    words = awaited_at ss reach rows numbered s done

    there : row < length rows → waiting_words s (first_unmet ss reach (get_or rows row no_block) (row_by w h ss rows row (get_or rows row no_block))) ≡ words
    unfolding awaited_at
    there l = rw (lt-ltb row (length rows) l)
        (ap (λ (b : Block). waiting_words s (first_unmet ss reach (get_or rows row no_block) b)) (sym (row-at w h ss rows row l)))

    pub front-waits : row < length rows
        → (at + 3 ≡ at + length words)
        × (sets out at (waiting_words s (first_unmet ss reach (get_or rows row no_block) (row_by w h ss rows row (get_or rows row no_block)))) ≡ sets out at words)
    unfolding waiting_words
    front-waits l = (ap (λ (x : List ℕ). at + length x) (there l), ap (sets out at) (there l))

    pub front-done : length rows ≤ row → (at ≡ at + length words) × (out ≡ sets out at words)
    unfolding awaited_at
    front-done l = rw (le-ltb row (length rows) l) (sym (add-zero at), refl)

  -- three words at most
  pub waits-most : (reach : List ℕ) (s : Slot) (done : ℕ) → length (awaited_at ss reach rows numbered s done) ≤ 3
  unfolding awaited_at waiting_words
  waits-most reach s done = go (ltb (front_row s done) (length rows))
    where
      go : (x : Bool) → length (pick x (waiting_words s (first_unmet ss reach (get_or rows (front_row s done) no_block) (get_or numbered (front_row s done) no_block))) []) ≤ 3
      go true = omega arith
      go false = omega arith

  pub waitings : (reach taken : List ℕ)
      → Report (λ i s. awaited_at ss reach rows numbered s (get_or taken i 0)) (λ i us. awaited_from ss reach rows numbered taken i us)
  unfolding awaited_from
  waitings reach taken = record { none = λ i. refl; more = λ i s us. refl }

  -- ---- all sweeps, and the reports

  module _ (order counts pending : List ℕ) where
    abbrev d : Board
    d = swept_all 28 ss (seen_by true w h ss rows) (board (replicate max_reaches 0) (replicate max_reaches 0) order 0)

    pub exit-slots : (sorting_by d.steps (length (taken_from 0 ss d.taken)) 0 (length (awaited_from ss d.reach rows numbered d.taken 0 ss)) ≡ sorting_at w h ss rows order)
        × (take d.steps d.order ++ replicate (length d.order - d.steps) 0 ≡ order_by w h ss rows order)
        × (fitted (length counts) (taken_from 0 ss d.taken) ≡ fitted (length counts) (counts_by w h ss rows order))
        × (fitted (length pending) (awaited_from ss d.reach rows numbered d.taken 0 ss) ≡ fitted (length pending) (pending_by w h ss rows order))
    unfolding sorting_at order_by cleared counts_by pending_by board_by
    exit-slots = (refl, refl, refl, refl)

    -- there is a count for each slot
    pub few : (n : ℕ) → n ≤ max_reaches → length rows ≤ nowhere → n ≤ length d.taken
    few n l short =
        omega (
          arith,
          length-replicate {A = ℕ} max_reaches 0,
          all_room 28 ss (seen_by true w h ss rows) (omega (arith, short, seen-length w h ss rows true)) (board (replicate max_reaches 0) (replicate max_reaches 0) order 0),
        )

-- ---- the words of slots

module _ (w : List ℕ) (h : ℕ) (rows : List Block) (blocks : ℕ) (order counts pending : List ℕ) where
  abbrev zeros : List ℕ
  zeros = replicate slot_words 0

  abbrev noted : List ℕ
  noted = stored zeros (noted_all (length zeros / 3) 0 (take blocks rows) [])

  abbrev n : ℕ
  n = (noted_by (length zeros / 3) (take blocks rows)).slots

  abbrev slots : List Slot
  slots = slots_for max_reaches (take blocks rows) []

  most : n ≤ max_reaches
  unfolding slots_for named_all
  most =
      let e : length (slots_from noted 0 n) ≡ length (noted_all (length zeros / 3) 0 (take blocks rows) []) = ap length (here zeros (take blocks rows)) in
      omega (arith, held_fits zeros (take blocks rows) [], e, slots_length noted 0 n, length-replicate {A = ℕ} slot_words 0)

  pub kept-asks : 3 * h ≤ length w → (3 * n ≤ length noted) × Falling (slots_from noted 0 n) × (n ≤ max_reaches) × (3 * h ≤ length w)
  kept-asks fits = let o = open-asks zeros (take blocks rows) fits in (o.0, o.1, most, fits)

  abbrev pub Kept : Sorting → List ℕ → List ℕ → List ℕ → Type 0
  Kept r order₁ counts₁ pending₁ =
      (r ≡ sorting_at w h slots rows order) × (order₁ ≡ order_by w h slots rows order) × (counts₁ ≡ fitted (length counts) (counts_by w h slots rows order))
      × (pending₁ ≡ fitted (length pending) (pending_by w h slots rows order))

  pub exit-kept : Kept (sorting_at w h (slots_from noted 0 n) rows order) (order_by w h (slots_from noted 0 n) rows order) (fitted (length counts) (counts_by w h (slots_from noted 0 n) rows order)) (fitted (length pending) (pending_by w h (slots_from noted 0 n) rows order))
  exit-kept = (
    ap (λ (ss : List Slot). sorting_at w h ss rows order) (found-is rows blocks),
    ap (λ (ss : List Slot). order_by w h ss rows order) (found-is rows blocks),
    ap (λ (ss : List Slot). fitted (length counts) (counts_by w h ss rows order)) (found-is rows blocks),
    ap (λ (ss : List Slot). fitted (length pending) (pending_by w h ss rows order)) (found-is rows blocks),
  )
