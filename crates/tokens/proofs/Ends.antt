-- The ends of lanes: a column's last run, by the ways that it goes, and all of them, one after the other.
use Prim.Native.Nat.{ℕ, zero, suc, ◌+◌, ◌-◌, ◌*◌, ◌≤◌, ◌<◌}
use mathlib.Core.Path.{◌≡◌, refl, sym, ap, ◌∙◌}
use mathlib.Core.Logic.{◌≢◌}
use mathlib.Core.Bool.{Bool, true, false}
use mathlib.Core.List.{List, []}
use native.Mathlib.Omega.{arith}
use lib.Dec.{ltb, eqb}
use lib.ListN.{length, get_or, set}
use borrow.Author.Tests.{lt-ltb, le-ltb, ltb-true, ltb-false, ne_eqb, eqb-true, eqb-false}
use Rattle.numbers.specs.Number.{pick}
use Rattle.runs.specs.Runs.{coding}
use Rattle.runs.specs.Writer.{finished}
use Rattle.parts.specs.Brim.{brim}
use Rattle.tokens.specs.Tokens.{in_line, column_in}
use Rattle.tokens.specs.Lanes.{Lane, lay, moved_to, ahead, laid_at, last_run, closed, laid_end}
use Rattle.tokens.specs.Desk.{lane_in, lanes_in, Tidy, Alone, closed_each, laid_ends}
use Rattle.tokens.proofs.Laying.{at-brim, forward-none, bytes-none, end_line, end-run}
use Rattle.tokens.proofs.Places.{place-on, forward-ahead, laid-place}
use Rattle.tokens.proofs.Words.{alone-none, alone-is, moves}

-- ---- one lane

-- what the end of lane k promises of words and bytes
abbrev pub Closes : List ℕ → List ℕ → ℕ → List ℕ → List ℕ → Type 0
Closes out w k w₁ out₁ = Alone k (closed (lane_in w k)) w w₁ × (out₁ ≡ laid_end out (lane_in w k))

module _ (out w : List ℕ) (k : ℕ) (t : Tidy w) (l : k < 10) where
  stays : lane_in w k ≡ closed (lane_in w k) → out ≡ laid_end out (lane_in w k) → Closes out w k w out
  stays p q = (alone-is k (lane_in w k) (closed (lane_in w k)) w w (alone-none k w t l) p, q)

  pub end-brim : brim ≤ get_or w (5 * k) 0 → Closes out w k w out
  unfolding lane_in
  end-brim h = let x = at-brim out (lane_in w k) (last_run (lane_in w k)) h in stays x.0 x.1

  module _ (i : in_line k ≡ false) where
    last-is : last_run (lane_in w k) ≡ finished (lane_in w k).run
    unfolding lane_in
    last-is = end-run [] (lane_in w k) i

    none : get_or w (5 * k + 3) 0 ≡ 0 → last_run (lane_in w k) ≡ []
    unfolding lane_in finished
    none h = last-is ∙ rw h

    pub end_none : get_or w (5 * k + 3) 0 ≡ 0 → Closes out w k w out
    end_none h =
        let e = lane_in w k in
        stays (rw (none h) (sym (forward-none e))) (rw (none h) (sym (bytes-none out e)))

    last-run : get_or w (5 * k + 3) 0 ≢ 0 → last_run (lane_in w k) ≡ (coding (column_in k)).final (get_or w (5 * k + 2) 0) (get_or w (5 * k + 3) 0 - 1)
    unfolding lane_in finished
    last-run n = last-is ∙ rw (ne_eqb (get_or w (5 * k + 3) 0) 0 n)

    -- the last run b laid, and the place after it
    pub end-laid : (at : ℕ) (out₁ b : List ℕ) → get_or w (5 * k + 3) 0 ≢ 0 → (coding (column_in k)).final (get_or w (5 * k + 2) 0) (get_or w (5 * k + 3) 0 - 1) ≡ b
        → at ≡ ahead (get_or w (5 * k) 0) b → out₁ ≡ laid_at out (get_or w (5 * k) 0) b → Closes out w k (set w (5 * k) at) out₁
    unfolding lane_in
    end-laid at out₁ b n f p q =
        let e = lane_in w k in
        let r = last-run n ∙ f in (
          alone-is k (moved_to e at) (closed e) w (set w (5 * k) at) (moves k w t l at) (rw (r, p) (forward-ahead out e b)),
          q ∙ rw r (laid-place out e b),
        )

    -- the same of a place below the brim
    pub end_low : (at : ℕ) (out₁ b : List ℕ) → get_or w (5 * k + 3) 0 ≢ 0 → (coding (column_in k)).final (get_or w (5 * k + 2) 0) (get_or w (5 * k + 3) 0 - 1) ≡ b
        → get_or w (5 * k) 0 < brim → at ≡ get_or w (5 * k) 0 + length b → out₁ ≡ lay out (get_or w (5 * k) 0) b → Closes out w k (set w (5 * k) at) out₁
    unfolding laid_at
    end_low at out₁ b n f h p q =
        end-laid at out₁ b n f (place-on out (get_or w (5 * k) 0) b at h p) (q ∙ rw (lt-ltb (get_or w (5 * k) 0) brim h))

-- ---- all lanes

-- the bytes after the ends of the first n lanes
unfoldable pub ends_to : List ℕ → List ℕ → ℕ → List ℕ
ends_to out w zero = out
ends_to out w (suc n) = laid_end (ends_to out w n) (lane_in w n)

-- the first n lanes are closed
pub record Ended (n : ℕ) (out w out₁ w₁ : List ℕ) : Type 0 where
  pub lanes : (j : ℕ) → j < 10 → lane_in w₁ j ≡ pick (ltb j n) (closed (lane_in w j)) (lane_in w j)
  pub bytes : out₁ ≡ ends_to out w n
  pub tidy : Tidy w₁

pub ended-none : (out w : List ℕ) → Tidy w → Ended 0 out w out w
unfolding ends_to
ended-none out w t = record { lanes = λ j l. rw (le-ltb j 0 (omega arith)); bytes = refl; tidy = t }

module _ {n : ℕ} {out w out₁ w₁ : List ℕ} (d : Ended n out w out₁ w₁) (l : n < 10) where
  next-lane : lane_in w₁ n ≡ lane_in w n
  next-lane = d.lanes n l ∙ rw (le-ltb n n (omega arith))

  -- lanes before the next and lanes after it
  apart : (j : ℕ) (b : Bool) → ltb j n ≡ b → j ≢ n → ltb j (suc n) ≡ b
  apart j true e x = let y = ltb-true j n e in lt-ltb j (suc n) (omega arith)
  apart j false e x = go (ltb j (suc n)) refl
    where
      go : (b : Bool) → ltb j (suc n) ≡ b → b ≡ false
      go true h = let y = ltb-true j (suc n) h in let z = ltb-false j n e in absurd (x (omega arith))
      go false h = refl

  pub ended-on : (out₂ w₂ : List ℕ) → Closes out₁ w₁ n w₂ out₂ → Ended (suc n) out w out₂ w₂
  unfolding ends_to
  ended-on out₂ w₂ a = record { lanes = λ j m. go j m (eqb j n) refl; bytes = a.1 ∙ rw (next-lane, d.bytes); tidy = a.0.tidy }
    where
      go : (j : ℕ) → j < 10 → (b : Bool) → eqb j n ≡ b → lane_in w₂ j ≡ pick (ltb j (suc n)) (closed (lane_in w j)) (lane_in w j)
      go j m true e = rw (eqb-true j n e, lt-ltb n (suc n) (omega arith)) (a.0.own ∙ ap (λ (x : Lane). closed x) next-lane)
      go j m false e = let x = eqb-false j n e in a.0.others j m x ∙ d.lanes j m ∙ rw (apart j (ltb j n) refl x)

  -- a lane in line has no last run
  pub ended-line : in_line n ≡ true → Ended (suc n) out w out₁ w₁
  unfolding lane_in
  ended-line i = let x = end_line out₁ (lane_in w₁ n) i in ended-on out₁ w₁ (stays out₁ w₁ n d.tidy l x.0 x.1)

pub ended-all : (out w out₁ w₁ : List ℕ) → Ended 10 out w out₁ w₁ → (lanes_in w₁ ≡ closed_each (lanes_in w)) × (out₁ ≡ laid_ends out (lanes_in w)) × Tidy w₁
unfolding lanes_in closed_each laid_ends ends_to
ended-all out w out₁ w₁ d = (
  rw (
    d.lanes 0 (omega arith),
    d.lanes 1 (omega arith),
    d.lanes 2 (omega arith),
    d.lanes 3 (omega arith),
    d.lanes 4 (omega arith),
    d.lanes 5 (omega arith),
    d.lanes 6 (omega arith),
    d.lanes 7 (omega arith),
    d.lanes 8 (omega arith),
    d.lanes 9 (omega arith),
  ),
  d.bytes,
  d.tidy,
)
