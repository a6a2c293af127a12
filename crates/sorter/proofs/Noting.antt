-- The loop that notes rows: the slots so far and the rows that are still to be noted make up the slots of all rows.
use Prim.Native.Nat.{ℕ, suc, ◌+◌, ◌*◌, ◌/◌, ◌≤◌, ◌<◌}
use mathlib.Core.Path.{◌≡◌, refl, sym, ap, subst, ◌∙◌}
use mathlib.Core.List.{List, []}
use native.Mathlib.Omega.{arith}
use lib.ListN.{length, get_or, take}
use lib.Seq.{slice, slice-cons, slice_empty}
use Rattle.block.specs.declared.Block.{Block}
use Rattle.block.specs.Row.{no_block}
use Rattle.slots.specs.declared.Noted.{Noted}
use Rattle.slots.specs.Slots.{Slot, slots_from, stored, Falling, noted_in, noted_at, noted_all}
use Rattle.slots.proofs.Words.{stored-slots, stored-length, stored-stored, stored-none}
use Rattle.slots.proofs.Notes.{noted-in-falling, noted-in-longer, noted-in-fits}
use Rattle.sorter.specs.Sorter.{noted_from, noted_by}

module _ (w₀ : List ℕ) (rows : List Block) (n : ℕ) where
  abbrev most : ℕ
  most = length w₀ / 3

  abbrev all : List Slot
  all = noted_all most 0 (take n rows) []

  pub record Noting (s : Noted) (i : ℕ) (w : List ℕ) : Type 0 where
    pub now : List Slot
    pub words : w ≡ stored w₀ now
    pub count : s.slots ≡ length now
    pub falling : Falling now
    pub fits : 3 * length now ≤ length w₀
    pub state : noted_from most i (slice i n rows) s now ≡ noted_by most (take n rows)
    pub slots : noted_all most i (slice i n rows) now ≡ all
    pub upto : i ≤ n

  pub begins : Noting (record { slots = 0; last = 0 }) 0 w₀
  unfolding noted_by Falling
  begins =
      record { now = []; words = sym (stored-none w₀); count = refl; falling = tt; fits = omega arith; state = refl; slots = refl; upto = search arith }

  module _ (s : Noted) (i : ℕ) (w : List ℕ) (g : Noting s i w) where
    -- the slots in the words
    here : slots_from w 0 s.slots ≡ g.now
    here = rw (g.words, g.count) (stored-slots w₀ g.now)

    size : length w ≡ length w₀
    size = rw g.words (stored-length w₀ g.now g.fits)

    pub asked : (3 * s.slots ≤ length w) × Falling (slots_from w 0 s.slots)
    asked = (rw (g.count, size) g.fits, subst Falling (sym here) g.falling)

    pub turns : n ≤ length rows → i < n
        → let b = get_or rows i no_block in
        Noting (noted_at (length w / 3) b.client i (slots_from w 0 s.slots)) (i + 1) (stored w (noted_in (length w / 3) b.client i (slots_from w 0 s.slots)))
    unfolding noted_all noted_from noted_at
    turns there l =
        let b = get_or rows i no_block in
        let q : suc i ≡ i + 1 = omega arith in
        let on = slice-cons i n rows no_block l there in
        let new = noted_in most b.client i g.now in
        record {
          now = new;
          words = rw (here, size) (ap (λ (x : List ℕ). stored x new) g.words ∙ stored-stored w₀ g.now new (noted-in-longer most b.client i g.now));
          count = rw (here, size) refl;
          falling = noted-in-falling most b.client i g.now g.falling;
          fits = noted-in-fits w₀ g.now g.fits b.client i;
          state = rw (here, size, ← q) (sym (ap (λ (bs : List Block). noted_from most i bs s g.now) on) ∙ g.state);
          slots = rw (← q) (sym (ap (λ (bs : List Block). noted_all most i bs g.now) on) ∙ g.slots);
          upto = omega (arith, l);
        }

    module _ (l : n ≤ i) where
      none : slice i n rows ≡ []
      none =
          let q : i ≡ n = omega (arith, l, g.upto) in
          ap (λ (k : ℕ). slice k n rows) q ∙ slice_empty n rows

      same : g.now ≡ all
      unfolding noted_all
      same = sym (ap (λ (bs : List Block). noted_all most i bs g.now) none) ∙ g.slots

      pub state-is : s ≡ noted_by most (take n rows)
      unfolding noted_from
      state-is = sym (ap (λ (bs : List Block). noted_from most i bs s g.now) none) ∙ g.state

      pub words_are : w ≡ stored w₀ all
      words_are = g.words ∙ ap (stored w₀) same
