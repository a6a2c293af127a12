-- The lanes of a form with what leads them, measured and written: one chain of bytes.
use Prim.Native.Nat.{ℕ, zero, suc, ◌+◌, ◌*◌, ◌≤◌, ◌<◌}
use mathlib.Core.Path.{◌≡◌, refl, sym, ap, ap₂, ◌∙◌}
use mathlib.Core.List.{List, [], ◌∷◌, ◌++◌}
use mathlib.Core.Bool.{Bool, true, false}
use native.Mathlib.Nat.{suc-mul, add-zero}
use native.Mathlib.Omega.{arith}
use lib.Dec.{ltb}
use lib.ListN.{length, get_or, length-append}
use lib.Seq.{sets, length-sets}
use borrow.Author.Tests.{lt-ltb}
use Rattle.numbers.specs.Number.{pick}
use Rattle.numbers.proofs.Output.{sets-append}
use Rattle.parts.specs.Brim.{brim}
use Rattle.tokens.specs.Tokens.{Token, whole, in_line, lane}
use Rattle.tokens.specs.Lanes.{Lane, fresh_lane, put_all, closed}
use Rattle.tokens.specs.Desk.{put_tokens, closed_each}
use Rattle.tokens.proofs.Sizes.{lane-le}
use Rattle.tokens.proofs.Laying.{end_line}
use Rattle.tokens.proofs.Passes.{same-lane}
use Rattle.tokens.proofs.Written.{Fits, lane-end, lane-written}
use Rattle.tokens.proofs.Fitting.{size_all, legal_all, taken_all-le, fits_all}
use Rattle.passes.specs.Forms.{fresh_from, places_of, lead_tokens, lead_end, lead_bytes, on_to, begun_from, led_from, last_place}
use Rattle.passes.proofs.LeadBytes.{lead, lead-le, lead-end, lead-written}
use Rattle.passes.proofs.Apart.{From, from-none, from_less, from-both, tokens-between, lane-between, lane_end, lane_written, Behind, lanes_written, lanes-none, lanes_next, lanes_put, none-put}

pub size-le : (k : ℕ) (ts : List Token) → length (lane k ts) ≤ 21 * size_all ts
size-le k ts = omega (arith, lane-le k ts, taken_all-le k ts)

-- n lanes from lane k on, the sizes of all being z
unfoldable pub chain : List ℕ → List Token → ℕ → ℕ → List ℕ
chain z ts k zero = []
chain z ts k (suc n) = lead z k ++ (lane k ts ++ chain z ts (k + 1) n)

module _ (z : List ℕ) (ts : List Token) where
  chain-none : (k : ℕ) → chain z ts k 0 ≡ []
  unfolding chain
  chain-none k = refl

  chain_more : (k n : ℕ) → chain z ts k (suc n) ≡ lead z k ++ (lane k ts ++ chain z ts (k + 1) n)
  unfolding chain
  chain_more k n = refl

  chain_length : (k n : ℕ) → length (chain z ts k (suc n)) ≡ length (lead z k) + length (lane k ts) + length (chain z ts (k + 1) n)
  chain_length k n =
      omega (arith, ap length (chain_more k n), length-append (lead z k) (lane k ts ++ chain z ts (k + 1) n), length-append (lane k ts) (chain z ts (k + 1) n))

  pub chain-le : (k n : ℕ) → length (chain z ts k n) ≤ n * (20 + 21 * size_all ts)
  chain-le k zero = omega (arith, ap length (chain-none k))
  chain-le k (suc n) =
      omega (arith, chain_length k n, lead-le z k, size-le k ts, chain-le (k + 1) n, suc-mul n (20 + 21 * size_all ts))

-- ---- where the lanes stand

on-to-le : (at size : ℕ) → at ≤ on_to at size
unfolding on_to
on-to-le at size = go (ltb at brim) (ltb size brim)
  where
    go : (x y : Bool) → at ≤ pick x (pick y (at + size) at) at
    go true true = omega arith
    go true false = omega arith
    go false y = omega arith

module _ (z : List ℕ) where
  -- what leads a lane stands behind
  lead-order : (k at : ℕ) → at ≤ lead_end z k at
  lead-order k at = (tokens-between (lead_tokens z k) (fresh_lane whole at)).order

  begun-behind : (a k n at : ℕ) → a ≤ at → Behind a (begun_from z k n at)
  unfolding begun_from
  begun-behind a k zero at h = tt
  begun-behind a k (suc n) at h =
      let l = lead-order k at in
      (omega arith, begun-behind a (k + 1) n (on_to (lead_end z k at) (get_or z k 0)) (omega (arith, on-to-le (lead_end z k at) (get_or z k 0))))

  led-from : (k n at : ℕ) → From at (λ out. led_from out z k n at)
  unfolding led_from
  led-from k zero at = from-none at
  led-from k (suc n) at =
      let next = on_to (lead_end z k at) (get_or z k 0) in
      from-both (λ out. lead_bytes out z k at) (λ out. led_from out z (k + 1) n next) at (tokens-between (lead_tokens z k) (fresh_lane whole at)).from
      (from_less (λ out. led_from out z (k + 1) n next) at next (omega (arith, lead-order k at, on-to-le (lead_end z k at) (get_or z k 0))) (led-from (k + 1) n next))

  begun_more : (k n at : ℕ)
      → begun_from z k (suc n) at ≡ fresh_lane k (lead_end z k at) ∷ begun_from z (k + 1) n (on_to (lead_end z k at) (get_or z k 0))
  unfolding begun_from
  begun_more k n at = refl

  led-more : (out : List ℕ) (k n at : ℕ)
      → led_from out z k (suc n) at ≡ led_from (lead_bytes out z k at) z (k + 1) n (on_to (lead_end z k at) (get_or z k 0))
  unfolding led_from
  led-more out k n at = refl

-- ---- lanes whose sizes are these

abbrev pub Sized : List ℕ → List Token → ℕ → ℕ → Type 0
Sized z ts k n = (i : ℕ) → k ≤ i → i < k + n → get_or z i 0 ≡ length (lane i ts)

module _ (z : List ℕ) (ts : List Token) (legal : legal_all ts ≡ true) where
  -- far from the brim, from `at` on
  abbrev pub Low : ℕ → ℕ → ℕ → Type 0
  Low k n at = at + length (chain z ts k n) + 21 * size_all ts + 20 < brim

  abbrev next : ℕ → ℕ → ℕ
  next k at = at + length (lead z k) + length (lane k ts)

  -- ---- the first lane

  module _ (k n at : ℕ) (low : Low k (suc n) at) where
    begin-low : at + 20 < brim
    begin-low = omega (arith, low)

    lane_low : at + length (lead z k) + 21 * size_all ts < brim
    lane_low = omega (arith, low, chain_length z ts k n)

    next_low : Low (k + 1) n (next k at)
    next_low = omega (arith, low, chain_length z ts k n)

    led-to : lead_end z k at ≡ at + length (lead z k)
    led-to = lead-end z k at begin-low

    fits : Fits k (at + length (lead z k)) ts
    fits = fits_all k (at + length (lead z k)) ts legal lane_low

    first-end : lane_end (fresh_lane k (lead_end z k at)) ts ≡ next k at
    first-end = ap (λ (i : ℕ). lane_end (fresh_lane k i) ts) led-to ∙ lane-end k (at + length (lead z k)) ts fits

    first_out : (out : List ℕ) → at + length (chain z ts k (suc n)) ≤ length out
        → lane_written (lead_bytes out z k at) (fresh_lane k (lead_end z k at)) ts ≡ sets (sets out at (lead z k)) (at + length (lead z k)) (lane k ts)
    first_out out room =
        let size = chain_length z ts k n in
        ap (λ (i : ℕ). lane_written (lead_bytes out z k at) (fresh_lane k i) ts) led-to
        ∙ ap (λ (o : List ℕ). lane_written o (fresh_lane k (at + length (lead z k))) ts) (lead-written z k at begin-low out (omega (arith, size)))
        ∙ lane-written k (at + length (lead z k)) ts fits (sets out at (lead z k)) (omega (arith, size, length-sets out at (lead z k)))

    first-size : get_or z k 0 ≡ length (lane k ts) → on_to (lead_end z k at) (get_or z k 0) ≡ next k at
    unfolding on_to
    first-size size =
        let s = size-le k ts in
        let a = at + length (lead z k) in
        let l = length (lane k ts) in
        rw (size, led-to, lt-ltb a brim (omega (arith, lane_low)), lt-ltb l brim (omega (arith, lane_low)))

    -- what is left of the chain
    rest_out : (out : List ℕ)
        → sets (sets (sets out at (lead z k)) (at + length (lead z k)) (lane k ts)) (next k at) (chain z ts (k + 1) n) ≡ sets out at (chain z ts k (suc n))
    rest_out out =
        let a = lead z k in
        let b = lane k ts in
        let c = chain z ts (k + 1) n in
        sym (sets-append b c (sets out at a) (at + length a)) ∙ sym (sets-append a (b ++ c) out at)
        ∙ ap (λ (x : List ℕ). sets out at x) (sym (chain_more z ts k n))

  -- ---- all lanes: the last need not be sized

  later : (k n : ℕ) → Sized z ts k (suc n) → Sized z ts (k + 1) n
  later k n sizes i p q = sizes i (omega arith) (omega arith)

  pub chain-written : (n k at : ℕ) (out : List ℕ) → Low k (suc n) at → Sized z ts k n → at + length (chain z ts k (suc n)) ≤ length out
      → lanes_written (led_from out z k (suc n) at) (begun_from z k (suc n) at) ts ≡ sets out at (chain z ts k (suc n))
  unfolding led_from begun_from
  chain-written zero k at out low sizes room =
      let e = fresh_lane k (lead_end z k at) in
      let led = lead_bytes out z k at in
      let o = sets (sets out at (lead z k)) (at + length (lead z k)) (lane k ts) in
      lanes_next ts e [] led tt ∙ lanes-none (lane_written led e ts) ts ∙ first_out k 0 at low out room
      ∙ ap (λ (c : List ℕ). sets o (next k at) c) (sym (chain-none z ts (k + 1))) ∙ rest_out k 0 at low out
  chain-written (suc n) k at out low sizes room =
      let e = fresh_lane k (lead_end z k at) in
      let led = lead_bytes out z k at in
      let on = on_to (lead_end z k at) (get_or z k 0) in
      let es = begun_from z (k + 1) (suc n) on in
      let o = sets (sets out at (lead z k)) (at + length (lead z k)) (lane k ts) in
      let size = first-size k (suc n) at low (sizes k (omega arith) (omega arith)) in
      let end : lane_end e ts ≤ on = omega (arith, size, first-end k (suc n) at low) in
      let long = length-sets (sets out at (lead z k)) (at + length (lead z k)) (lane k ts) ∙ length-sets out at (lead z k) in
      ap₂ (λ (o : List ℕ) (es : List Lane). lanes_written o es ts) (led-more z out k (suc n) at) (begun_more z k (suc n) at)
      ∙ lanes_next ts e es (led_from led z (k + 1) (suc n) on) (begun-behind z (lane_end e ts) (k + 1) (suc n) on end)
      ∙ ap (λ (o : List ℕ). lanes_written o es ts)
      ((lane-between ts e).upto.swaps (λ o. led_from o z (k + 1) (suc n) on)
      (from_less (λ o. led_from o z (k + 1) (suc n) on) (lane_end e ts) on end (led-from z (k + 1) (suc n) on)) led)
      ∙ ap (λ (o : List ℕ). lanes_written (led_from o z (k + 1) (suc n) on) es ts) (first_out k (suc n) at low out room)
      ∙ ap (λ (i : ℕ). lanes_written (led_from o z (k + 1) (suc n) i) (begun_from z (k + 1) (suc n) i) ts) size
      ∙ chain-written n (k + 1) (next k at) o (next_low k (suc n) at low) (later k n sizes) (omega (arith, room, long, chain_length z ts k (suc n)))
      ∙ rest_out k (suc n) at low out

  -- the place of the last lane, if that is in line
  last_more : (k n at : ℕ) → last_place (put_tokens (begun_from z k (suc (suc n)) at) ts)
      ≡ last_place (put_tokens (begun_from z (k + 1) (suc n) (on_to (lead_end z k at) (get_or z k 0))) ts)
  unfolding last_place
  last_more k n at =
      let e = fresh_lane k (lead_end z k at) in
      let on = on_to (lead_end z k at) (get_or z k 0) in
      let f = fresh_lane (k + 1) (lead_end z (k + 1) on) in
      let es = begun_from z (k + 1 + 1) n (on_to (lead_end z (k + 1) on) (get_or z (k + 1) 0)) in
      rw (begun_more z k (suc n) at, begun_more z (k + 1) n on, lanes_put ts e (f ∷ es), lanes_put ts f es)

  pub chain-place : (n k at : ℕ) → Low k (suc n) at → Sized z ts k n → in_line (k + n) ≡ true
      → last_place (put_tokens (begun_from z k (suc n) at) ts) ≡ at + length (chain z ts k (suc n))
  unfolding last_place begun_from
  chain-place zero k at low sizes line =
      let e = fresh_lane k (lead_end z k at) in
      let own : in_line (put_all e ts).lane ≡ true = ap in_line (same-lane e ts ∙ sym (add-zero k)) ∙ line in
      ap last_place (lanes_put ts e [] ∙ ap (λ (es : List Lane). put_all e ts ∷ es) (none-put ts))
      ∙ ap (λ (e : Lane). e.run.at) (end_line [] (put_all e ts) own).0 ∙ first-end k 0 at low
      ∙ omega (arith, chain_length z ts k 0, ap length (chain-none z ts (k + 1)))
  chain-place (suc n) k at low sizes line =
      let on = on_to (lead_end z k at) (get_or z k 0) in
      last_more k n at
      ∙ ap (λ (i : ℕ). last_place (put_tokens (begun_from z (k + 1) (suc n) i) ts)) (first-size k (suc n) at low (sizes k (omega arith) (omega arith)))
      ∙ chain-place n (k + 1) (next k at) (next_low k (suc n) at low) (later k n sizes) (ap in_line (omega arith) ∙ line)
      ∙ omega (arith, chain_length z ts k (suc n))

-- ---- lanes measured

module _ (ts : List Token) where
  abbrev measured_from : ℕ → ℕ → List Lane
  measured_from k n = closed_each (put_tokens (fresh_from k n) ts)

  pub measured-more : (k n : ℕ) → closed_each (put_tokens (fresh_from k (suc n)) ts) ≡ closed (put_all (fresh_lane k 0) ts) ∷ closed_each (put_tokens (fresh_from (k + 1) n) ts)
  unfolding fresh_from closed_each
  measured-more k n = ap (λ (es : List Lane). closed_each es) (lanes_put ts (fresh_lane k 0) (fresh_from (k + 1) n))

  pub measured-place : (n k i : ℕ) → i < n → get_or (places_of (closed_each (put_tokens (fresh_from k n) ts))) i 0 ≡ lane_end (fresh_lane (k + i) 0) ts
  unfolding places_of
  measured-place zero k i h = absurd (omega arith)
  measured-place (suc n) k zero h = rw (measured-more k n, add-zero k)
  measured-place (suc n) k (suc i) h =
      rw (measured-more k n) (measured-place n (k + 1) i (omega arith) ∙ ap (λ (j : ℕ). lane_end (fresh_lane j 0) ts) (omega arith))
