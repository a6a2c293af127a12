-- A lane from its beginning to its end: where it ends, whether a difference could not be spelled, and that it writes the lane's bytes.
use Prim.Native.Nat.{ℕ, ◌+◌, ◌*◌, ◌≤◌, ◌<◌}
use mathlib.Core.Path.{◌≡◌, refl, sym, ap, ◌∙◌}
use mathlib.Core.List.{List, []}
use mathlib.Core.Bool.{Bool, true, false}
use native.Mathlib.Omega.{arith}
use lib.ListN.{length, replicate, length-replicate}
use lib.Seq.{sets}
use borrow.Author.Tests.{le-leb}
use Rattle.numbers.specs.Number.{pick}
use Rattle.runs.specs.Runs.{coding, within, spellable}
use Rattle.runs.specs.Writer.{finished}
use Rattle.runs.proofs.Standing.{Holds, holds-fresh, holds-end, holds-size}
use Rattle.tokens.specs.Lanes.{Lane}
use Rattle.tokens.specs.Tokens.{Token, taken_all, in_line, column_in, lane}
use Rattle.parts.specs.Brim.{brim}
use Rattle.tokens.specs.Lanes.{fresh_lane, moved_to, pushed_all, laid_values, put_all, laid_all, last_run, closed, laid_end}
use Rattle.tokens.proofs.Laying.{moved_on, bytes-laid, end_line, end-run}
use Rattle.tokens.proofs.Sizes.{lane-line, lane-column, lane-le}
use Rattle.tokens.proofs.Values.{Ready, far-all, holds-all}
use Rattle.tokens.proofs.Passes.{values_length, forward-far, pushed-lane}
use Rattle.tokens.proofs.Gathered.{put-line, laid-line, put-column, laid-column}

-- its values are the column's, and it stays far from the brim
pub record Fits (k at : ℕ) (ts : List Token) : Type 0 where
  pub legal : in_line k ≡ false → within (coding (column_in k)).most (taken_all k ts) ≡ true
  pub low : at + 21 * length (taken_all k ts) < brim

module _ (k at : ℕ) (ts : List Token) (f : Fits k at ts) where
  module _ (i : in_line k ≡ true) where
    line-state : put_all (fresh_lane k at) ts ≡ moved_to (fresh_lane k at) (at + length (taken_all k ts))
    line-state =
        put-line (fresh_lane k at) ts i (omega (arith, f.low))
        ∙ sym (moved_on [] (fresh_lane k at) (taken_all k ts) (at + length (taken_all k ts)) (omega (arith, f.low)) refl)

    line-closed : closed (put_all (fresh_lane k at) ts) ≡ moved_to (fresh_lane k at) (at + length (lane k ts))
    line-closed =
        let e = moved_to (fresh_lane k at) (at + length (taken_all k ts)) in
        ap (λ (x : Lane). closed x) line-state ∙ sym (end_line [] e i).0 ∙ rw (lane-line k ts i)

    line-written : (out : List ℕ) → at + length (lane k ts) ≤ length out
        → laid_end (laid_all out (fresh_lane k at) ts) (put_all (fresh_lane k at) ts) ≡ sets out at (lane k ts)
    line-written out room =
        let e = fresh_lane k at in
        let b = taken_all k ts in
        let e' = moved_to e (at + length b) in
        let fits : at + length b ≤ length out = rw (lane-line k ts i) at room in
        let o = laid_all out e ts in
        let low : at < brim = omega (arith, f.low) in
        ap (λ (x : Lane). laid_end o x) line-state ∙ sym (end_line o e' i).1 ∙ laid-line out e ts i (omega (arith, f.low)) fits
        ∙ sym (bytes-laid out e b (length b) low refl (le-leb (at + length b) (length out) fits)) ∙ rw (lane-line k ts i)

  -- the column's state after all values
  module _ (i : in_line k ≡ false) where
    abbrev ended : Lane
    ended = pushed_all (fresh_lane k at) (taken_all k ts)

    ready : Ready (fresh_lane k at) (taken_all k ts)
    ready = record { legal = f.legal i; low = f.low; few = omega (arith, f.low) }

    column-holds : (out : List ℕ) → at + length (lane k ts) ≤ length out
        → Holds (column_in k) out at (taken_all k ts) ended.run (laid_values out (fresh_lane k at) (taken_all k ts))
    column-holds out room =
        holds-all (column_in k) out at [] (fresh_lane k at) out (taken_all k ts) ready (rw (lane-column k ts i) at room) (holds-fresh (column_in k) out at)

    -- the state does not depend on the bytes lent: enough of them
    column-size : ended.run.at + length (finished ended.run) ≡ at + length (lane k ts)
    column-size =
        let o = replicate {A = ℕ} (at + length (lane k ts)) 0 in
        let h = column-holds o (omega (arith, length-replicate {A = ℕ} (at + length (lane k ts)) 0)) in
        rw (lane-column k ts i) (holds-size (column_in k) o at (taken_all k ts) ended.run (laid_values o (fresh_lane k at) (taken_all k ts)) h)

    column-low : ended.run.at < brim
    column-low = omega (arith, column-size, lane-le k ts, f.low)

    column-last : last_run ended ≡ finished ended.run
    column-last = end-run [] ended (rw pushed-lane i)

    column-end : (closed (put_all (fresh_lane k at) ts)).run.at ≡ at + length (lane k ts)
    column-end =
        ap (λ (x : Lane). (closed x).run.at) (put-column (fresh_lane k at) ts i)
        ∙ ap (λ (x : Lane). x.run.at) (sym (moved_on [] ended (last_run ended) (ended.run.at + length (last_run ended)) column-low refl))
        ∙ ap (λ (b : List ℕ). ended.run.at + length b) column-last ∙ column-size

    column-far : (closed (put_all (fresh_lane k at) ts)).far ≡ pick (spellable (coding (column_in k)) 0 (taken_all k ts)) false true
    column-far =
        forward-far (put_all (fresh_lane k at) ts) (last_run (put_all (fresh_lane k at) ts)) ∙ ap (λ (x : Lane). x.far) (put-column (fresh_lane k at) ts i)
        ∙ far-all (fresh_lane k at) (taken_all k ts) ready

    column-written : (out : List ℕ) → at + length (lane k ts) ≤ length out
        → laid_end (laid_all out (fresh_lane k at) ts) (put_all (fresh_lane k at) ts) ≡ sets out at (lane k ts)
    column-written out room =
        let o = laid_values out (fresh_lane k at) (taken_all k ts) in
        let w = ended.run in
        let fits : w.at + length (finished w) ≤ length o = omega (arith, column-size, room, values_length out (fresh_lane k at) (taken_all k ts)) in
        rw (put-column (fresh_lane k at) ts i, laid-column out (fresh_lane k at) ts i)
        (rw column-last
        (sym (bytes-laid o ended (finished w) (length (finished w)) column-low refl (le-leb (w.at + length (finished w)) (length o) fits))
        ∙ holds-end (column_in k) out at (taken_all k ts) w o (column-holds out room) ∙ rw (lane-column k ts i)))

  -- where it ends
  pub lane-end : (closed (put_all (fresh_lane k at) ts)).run.at ≡ at + length (lane k ts)
  lane-end = go (in_line k) refl
    where
      go : (b : Bool) → in_line k ≡ b → (closed (put_all (fresh_lane k at) ts)).run.at ≡ at + length (lane k ts)
      go true i = ap (λ (e : Lane). e.run.at) (line-closed i)
      go false i = column-end i

  -- whether a difference could not be spelled
  pub lane-far : in_line k ≡ false → (closed (put_all (fresh_lane k at) ts)).far ≡ pick (spellable (coding (column_in k)) 0 (taken_all k ts)) false true
  lane-far i = column-far i

  pub line-near : in_line k ≡ true → (closed (put_all (fresh_lane k at) ts)).far ≡ false
  line-near i = ap (λ (e : Lane). e.far) (line-closed i)

  -- what it writes
  pub lane-written : (out : List ℕ) → at + length (lane k ts) ≤ length out
      → laid_end (laid_all out (fresh_lane k at) ts) (put_all (fresh_lane k at) ts) ≡ sets out at (lane k ts)
  lane-written out room = go (in_line k) refl
    where
      go : (b : Bool) → in_line k ≡ b → laid_end (laid_all out (fresh_lane k at) ts) (put_all (fresh_lane k at) ts) ≡ sets out at (lane k ts)
      go true i = line-written i out room
      go false i = column-written i out room
