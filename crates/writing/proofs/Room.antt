-- A plan stays inside the words lent for it: there are as many words as before, and five of them for each section that is counted.
use Prim.Native.Nat.{ℕ, ◌+◌, ◌*◌, ◌≤◌}
use mathlib.Core.Path.{◌≡◌, refl, ap, ◌∙◌}
use mathlib.Core.Bool.{Bool, true, false}
use mathlib.Core.List.{List, [], ◌∷◌}
use native.Mathlib.Omega.{arith}
use lib.Dec.{ltb, eqb}
use lib.ListN.{length}
use borrow.Author.Tests.{leb-true}
use Rattle.numbers.specs.Number.{pick}
use Rattle.block.specs.declared.Block.{Block}
use Rattle.vector.specs.Vector.{Entry}
use Rattle.parts.specs.Brim.{brim}
use Rattle.kept.specs.declared.plan.Planning.{Planning}
use Rattle.kept.specs.Kept.{remote, falls}
use Rattle.kept.specs.Plan.{Planned, room_for, with_planned, unplanned, under_way, ended_words, ended_count, begun, first_piece, one_piece_more, grown, continues, plan_step, plan_words, plan_all, plan_all_words}
use Rattle.kept.proofs.Words.{with-length}
use Rattle.encoder.specs.Passes.{outcome_of, outcome_for, words_for}

-- ---- a section more

room_in : (w : List ℕ) (n : ℕ) → room_for w n ≡ true → 5 * (n + 1) ≤ length w
unfolding room_for
room_in w n e = leb-true (5 * (n + 1)) (length w) e

with_none : (w : List ℕ) (n : ℕ) (p : Planned) → room_for w n ≡ false → with_planned w n p ≡ w
unfolding with_planned
with_none w n p e = rw e

more-length : (w : List ℕ) (n : ℕ) (p : Planned) → length (with_planned w n p) ≡ length w
more-length w n p = go (room_for w n) refl
  where
    go : (t : Bool) → room_for w n ≡ t → length (with_planned w n p) ≡ length w
    go true e = with-length w n p (room_in w n e)
    go false e = ap length (with_none w n p e)

pub ended-length : (w : List ℕ) (s : Planning) → length (ended_words w s) ≡ length w
unfolding ended_words
ended-length w s = go (eqb s.count 0)
  where
    go : (t : Bool) → length (pick t w (with_planned w s.sections (under_way s))) ≡ length w
    go true = refl
    go false = more-length w s.sections (under_way s)

pub ended-room : (w : List ℕ) (s : Planning) → 5 * s.sections ≤ length w → 5 * ended_count w s ≤ length w
unfolding ended_count
ended-room w s h = go (eqb s.count 0) (room_for w s.sections) refl
  where
    go : (t r : Bool) → room_for w s.sections ≡ r → 5 * pick t s.sections (pick r (s.sections + 1) s.sections) ≤ length w
    go true r e = h
    go false true e = room_in w s.sections e
    go false false e = h

-- ---- a row more

module _ (u : List ℕ) (v : List Entry) where
  grown-sections : (s : Planning) (i : ℕ) (b : Block) → (grown u s i b).sections ≡ s.sections
  unfolding grown
  grown-sections s i b = go (eqb s.count 0) (falls s.remote b) (ltb s.count brim)
    where
      go : (x y z : Bool) → (pick x (pick y s (first_piece u s i b)) (pick z (one_piece_more s b) s)).sections ≡ s.sections
      go true true z = refl
      go true false z = refl
      go false y true = refl
      go false y false = refl

  words-length : (w : List ℕ) (s : Planning) (b : Block) → length (plan_words w s b) ≡ length w
  unfolding plan_words
  words-length w s b = go (continues s b)
    where
      go : (t : Bool) → length (pick t w (ended_words w s)) ≡ length w
      go true = refl
      go false = ended-length w s

  row_room : (w : List ℕ) (s : Planning) (i : ℕ) (b : Block) → 5 * s.sections ≤ length w → 5 * (plan_step u v w s i b).sections ≤ length (plan_words w s b)
  unfolding plan_step
  row_room w s i b h = go (continues s b)
    where
      next : Planning
      next = begun (ended_count w s) s.torn s.formats b.client (remote v b.client)

      go : (t : Bool) → 5 * (pick t (grown u s i b) (grown u next i b)).sections ≤ length (plan_words w s b)
      go true = omega (arith, grown-sections s i b, words-length w s b)
      go false = omega (arith, grown-sections next i b, words-length w s b, ended-room w s h)

  -- ---- all rows

  all-length : (w : List ℕ) (s : Planning) (i : ℕ) (bs : List Block) → length (plan_all_words u v w s i bs) ≡ length w
  unfolding plan_all_words
  all-length w s i [] = refl
  all-length w s i (b ∷ bs) = all-length (plan_words w s b) (plan_step u v w s i b) (i + 1) bs ∙ words-length w s b

  all_room : (w : List ℕ) (s : Planning) (i : ℕ) (bs : List Block) → 5 * s.sections ≤ length w
      → 5 * (plan_all u v w s i bs).sections ≤ length (plan_all_words u v w s i bs)
  unfolding plan_all plan_all_words
  all_room w s i [] h = h
  all_room w s i (b ∷ bs) h = all_room (plan_words w s b) (plan_step u v w s i b) (i + 1) bs (row_room w s i b h)

  pub plan-length : (w : List ℕ) (bs : List Block) → length (words_for u v w bs) ≡ length w
  unfolding words_for
  plan-length w bs = ended-length (plan_all_words u v w unplanned 0 bs) (plan_all u v w unplanned 0 bs) ∙ all-length w unplanned 0 bs

  pub plan-room : (w : List ℕ) (bs : List Block) → 5 * (outcome_for u v w bs).sections ≤ length (words_for u v w bs)
  unfolding outcome_for outcome_of words_for
  plan-room w bs =
      let s = plan_all u v w unplanned 0 bs in
      let words = plan_all_words u v w unplanned 0 bs in
      omega (arith, ended-length words s, ended-room words s (all_room w unplanned 0 bs (omega arith)))
