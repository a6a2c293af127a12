-- All lanes of a form, measured and written, and behind them numbers without columns, in line: the form's bytes.
use Prim.Native.Nat.{ℕ, suc, ◌+◌, ◌*◌, ◌^◌, ◌≤◌, ◌<◌}
use mathlib.Core.Path.{◌≡◌, refl, sym, ap, ap₂, subst, ◌∙◌}
use mathlib.Core.Logic.{◌⊎◌, inl, inr, ◌≢◌}
use mathlib.Core.List.{List, [], ◌∷◌, ◌++◌, append_assoc, append-nil}
use mathlib.Core.Bool.{Bool, true, false}
use native.Mathlib.Nat.{zero-add}
use native.Mathlib.Omega.{arith}
use lib.Dec.{eqb}
use lib.ListN.{length, get_or, length-append}
use lib.Seq.{sets, length-sets}
use borrow.Author.Tests.{lt-ltb}
use Rattle.numbers.specs.Number.{pick, unsigned}
use Rattle.numbers.proofs.Laws.{unsigned-last}
use Rattle.numbers.proofs.Output.{sets-append}
use Rattle.readings.specs.Sound.{All}
use Rattle.parts.specs.Brim.{brim}
use Rattle.runs.specs.declared.ColumnKind.TheVariants.{Difference}
use Rattle.runs.specs.Runs.{coding, spellable}
use Rattle.tokens.specs.Keys.{numbered}
use Rattle.tokens.specs.KeysInner.{spelled}
use Rattle.tokens.specs.Tokens.{Token, var, keys, lefts, rights, texts, units, rest, whole, led, taken, taken_all, in_line, column_in, lane}
use Rattle.tokens.specs.Bytes.{form1, form2, bytes_of, near_in, near}
use Rattle.tokens.specs.Lanes.{Lane, fresh_lane, put_all, laid_all, closed}
use Rattle.tokens.specs.Desk.{put_tokens, closed_each}
use Rattle.tokens.proofs.Written.{Fits, lane-end}
use Rattle.tokens.proofs.Fitting.{legal, size_of, size_all, legal_all, taken_all-le, size-append, fits_all}
use Rattle.tokens.proofs.Keys.{taken-numbered, keys-near, size-numbered, legal-numbered}
use Rattle.passes.specs.Forms.{first_lane, lanes_of, fresh_from, measured, places_of, any_far, sizes_for, far_for, text_size, is_bare, lead_tokens, begun, led_bytes, last_place, end_for, out_for}
use Rattle.passes.proofs.Apart.{lane_end, lanes_written, none-put}
use Rattle.passes.proofs.LeadBytes.{line-end, line-written, lead, far-line, far-difference, far-number, far_byte}
use Rattle.passes.proofs.Plain.{Plain, var-skipped, lane-same, form_of, form-spelled, plain-taken, plain-bytes, plain-spelled, near_same}
use Rattle.passes.proofs.Chains.{size-le, chain, chain-le, Sized, Low, chain-written, chain-place, measured-more, measured-place}

-- ---- the chain of a form's lanes is the form

pub text-size : (z : List ℕ) (ts : List Token) → get_or z texts 0 ≡ length (lane texts ts) → get_or z units 0 ≡ length (lane units ts)
    → 21 * size_all ts < brim → text_size z ≡ length (led (lane texts ts) ++ lane units ts)
unfolding text_size
text-size z ts t u low =
    let a = lane texts ts in
    let b = lane units ts in
    rw (t, u, lt-ltb (length a) brim (omega (arith, size-le texts ts)), lt-ltb (length b) brim (omega (arith, size-le units ts)))
    (omega (arith, length-append (unsigned (length a) ++ a) b, length-append (unsigned (length a)) a))

pub chain1 : (z : List ℕ) (ts : List Token) → chain z ts whole 1 ≡ form1 ts
unfolding chain lead lead_tokens is_bare taken_all form1
chain1 z ts = append-nil (lane whole ts)

pub chain2 : (z : List ℕ) (ts : List Token) → Sized z ts 0 10 → 21 * size_all ts < brim → chain z ts 0 11 ≡ form2 ts
unfolding chain lead lead_tokens is_bare taken_all taken form2
chain2 z ts s low =
    let zero-byte = unsigned-last 0 (omega arith) in
    let s0 = s 0 (omega arith) (omega arith) in
    let s1 = s 1 (omega arith) (omega arith) in
    let s2 = s 2 (omega arith) (omega arith) in
    let s3 = s 3 (omega arith) (omega arith) in
    let s4 = s 4 (omega arith) (omega arith) in
    let s5 = s 5 (omega arith) (omega arith) in
    let s6 = s 6 (omega arith) (omega arith) in
    let s7 = s 7 (omega arith) (omega arith) in
    let s8 = s 8 (omega arith) (omega arith) in
    let s9 = s 9 (omega arith) (omega arith) in
    rw (text-size z ts s5 s6 low, s0, s1, s2, s3, s4, s5, s7, s8, s9, zero-byte) (simp (append_assoc, append-nil))

-- ---- the lanes of a form

abbrev pub IsForm : ℕ → Type 0
IsForm f = (f ≡ 1) ⊎ (f ≡ 2)

by_form : (P : ℕ → Type 0) → P 1 → P 2 → (f : ℕ) → IsForm f → P f
by_form P one two f (inl e) = subst P (sym e) one
by_form P one two f (inr e) = subst P (sym e) two

-- those before the last: no lane is led by the size of the last
unfoldable before : ℕ → ℕ
before f = pick (eqb f 1) 0 10

last-lane : (f : ℕ) → IsForm f → lanes_of f ≡ suc (before f)
unfolding lanes_of before
last-lane f form = by_form (λ (f : ℕ). lanes_of f ≡ suc (before f)) refl refl f form

last_line : (f : ℕ) → IsForm f → in_line (first_lane f + before f) ≡ true
unfolding first_lane before in_line
last_line f form = by_form (λ (f : ℕ). in_line (first_lane f + before f) ≡ true) refl refl f form

-- ---- tokens in a form, the sizes of its lanes being z

module _ (z : List ℕ) (ts : List Token) where
  abbrev Made : ℕ → Type 0
  Made f = Sized z ts (first_lane f) (before f) → 21 * size_all ts < brim → chain z ts (first_lane f) (suc (before f)) ≡ form_of f ts

  made1 : Made 1
  unfolding first_lane before form_of
  made1 s low = chain1 z ts

  made2 : Made 2
  unfolding first_lane before form_of
  made2 s low = chain2 z ts s low

  chain-form : (f : ℕ) → IsForm f → Made f
  chain-form f form = by_form (λ (f : ℕ). Made f) made1 made2 f form

  abbrev Short : ℕ → Type 0
  Short f = length (chain z ts (first_lane f) (suc (before f))) ≤ 11 * (20 + 21 * size_all ts)

  short1 : Short 1
  unfolding first_lane before
  short1 = omega (arith, chain-le z ts whole 1)

  short2 : Short 2
  unfolding first_lane before
  short2 = omega (arith, chain-le z ts 0 11)

  chain-short : (f : ℕ) → IsForm f → Short f
  chain-short f form = by_form (λ (f : ℕ). Short f) short1 short2 f form

module _ (f : ℕ) (form : IsForm f) (z : List ℕ) (ts : List Token) (sizes : Sized z ts (first_lane f) (before f)) (legal : legal_all ts ≡ true)
    (few : size_all ts < 2 ^ 54) where
  made : chain z ts (first_lane f) (suc (before f)) ≡ form_of f ts
  made = chain-form z ts f form sizes (omega arith)

  low : Low z ts legal (first_lane f) (suc (before f)) 0
  low = omega (arith, few, chain-short z ts f form)

  bytes_le : length (form_of f ts) ≤ 11 * (20 + 21 * size_all ts)
  bytes_le = omega (arith, ap length made, chain-short z ts f form)

  lanes-place : last_place (put_tokens (begun f z) ts) ≡ length (form_of f ts)
  lanes-place =
      rw (last-lane f form)
      (chain-place z ts legal (before f) (first_lane f) 0 low sizes (last_line f form) ∙ omega (arith, ap length made))

  lanes-out : (out : List ℕ) → length (form_of f ts) ≤ length out → lanes_written (led_bytes f z out) (begun f z) ts ≡ sets out 0 (form_of f ts)
  lanes-out out room =
      rw (last-lane f form)
      (chain-written z ts legal (before f) (first_lane f) 0 out low sizes (omega (arith, ap length made)) ∙ ap (λ (b : List ℕ). sets out 0 b) made)

-- ---- measured

module _ (ts : List Token) where
  far-more : (k n : ℕ) → any_far (closed_each (put_tokens (fresh_from k (suc n)) ts))
      ≡ pick (closed (put_all (fresh_lane k 0) ts)).far true (any_far (closed_each (put_tokens (fresh_from (k + 1) n) ts)))
  unfolding any_far
  far-more k n = ap any_far (measured-more ts k n)

  far_none : (k : ℕ) → any_far (closed_each (put_tokens (fresh_from k 0) ts)) ≡ false
  unfolding fresh_from closed_each any_far
  far_none k = ap (λ (es : List Lane). any_far (closed_each es)) (none-put ts)

  module _ (legal : legal_all ts ≡ true) (low : 21 * size_all ts < brim) where
    fits : (k : ℕ) → Fits k 0 ts
    fits k = fits_all k 0 ts legal (omega arith)

    far2 : near_in keys ts ≡ true → any_far (measured ts) ≡ pick (near 2 ts) false true
    unfolding measured near in_line column_in
    far2 close =
        rw (
          far-more 0 9,
          far-more 1 8,
          far-more 2 7,
          far-more 3 6,
          far-more 4 5,
          far-more 5 4,
          far-more 6 3,
          far-more 7 2,
          far-more 8 1,
          far-more 9 0,
          far_none 10,
          far-difference 0 0 ts (fits 0) refl refl,
          far-number 1 0 ts (fits 1) refl refl,
          far-difference 2 0 ts (fits 2) refl refl,
          far-difference 3 0 ts (fits 3) refl refl,
          far_byte 4 0 ts (fits 4) refl refl,
          far-line 5 0 ts (fits 5) refl,
          far-number 6 0 ts (fits 6) refl refl,
          far_byte 7 0 ts (fits 7) refl refl,
          far-number 8 0 ts (fits 8) refl refl,
          far-number 9 0 ts (fits 9) refl refl,
          close,
        )
        (go (near_in 2 ts) (near_in 3 ts))
      where
        go : (a b : Bool) → pick (pick a false true) true (pick (pick b false true) true false) ≡ pick (pick a b false) false true
        go true true = refl
        go true false = refl
        go false true = refl
        go false false = refl

    far-form : (f : ℕ) → IsForm f → near_in keys ts ≡ true → far_for f ts ≡ pick (near f ts) false true
    unfolding far_for near
    far-form f form close = by_form (λ (f : ℕ). far_for f ts ≡ pick (near f ts) false true) refl (far2 close) f form

    size-at : (k : ℕ) → k < 10 → get_or (places_of (measured ts)) k 0 ≡ length (lane k ts)
    unfolding measured
    size-at k h =
        measured-place ts 10 0 k h ∙ ap (λ (i : ℕ). lane_end (fresh_lane i 0) ts) (zero-add k) ∙ lane-end k 0 ts (fits k) ∙ zero-add (length (lane k ts))

-- ---- tokens, and numbers without columns behind them

legal-front : (a b : List Token) → legal_all (a ++ b) ≡ true → legal_all a ≡ true
unfolding legal_all
legal-front [] b h = refl
legal-front (t ∷ a) b h = go (legal t) h (λ p. legal-front a b p)
  where
    go : (x : Bool) → pick x (legal_all (a ++ b)) false ≡ true → (legal_all (a ++ b) ≡ true → legal_all a ≡ true) → pick x (legal_all a) false ≡ true
    go true p more = more p
    go false p more = p

-- they have their keys as the form has them
module _ (f : ℕ) (form : IsForm f) (n : ℕ) (ts ds : List Token) (plain : All Plain ds) (lawful : legal_all (var n ∷ (ts ++ ds)) ≡ true)
    (few : size_all (var n ∷ (ts ++ ds)) < 2 ^ 54) (z₀ : List ℕ) where
  abbrev us : List Token
  us = var n ∷ ts

  abbrev all : List Token
  all = var n ∷ (ts ++ ds)

  abbrev z : List ℕ
  z = sizes_for f ts z₀

  legal-us : legal_all us ≡ true
  legal-us = legal-front us ds lawful

  legal-ts : legal_all ts ≡ true
  unfolding legal_all legal
  legal-ts = legal-us

  size-all : size_all all ≡ size_all us + size_all ds
  size-all = size-append us ds

  size-us : size_all us ≡ 10 + size_all ts
  unfolding size_all size_of
  size-us = refl

  low-ts : 21 * size_all ts < brim
  low-ts = omega (arith, few, size-all, size-us)

  -- what a lane before the last takes of all, it takes of ts
  all-taken : (k : ℕ) → k < rest → taken_all k all ≡ taken_all k ts
  all-taken k h = plain-taken us ds plain k h ∙ var-skipped n ts k h

  abbrev Sizes : ℕ → Type 0
  Sizes f = Sized (sizes_for f ts z₀) us (first_lane f) (before f)

  sizes1 : Sizes 1
  unfolding first_lane before
  sizes1 i p q = absurd (omega arith)

  sizes2 : Sizes 2
  unfolding first_lane before sizes_for
  sizes2 i p q = size-at ts legal-ts low-ts i (omega arith) ∙ ap length (lane-same i ts us (sym (var-skipped n ts i (omega arith))))

  sizes-are : Sizes f
  sizes-are = by_form (λ (f : ℕ). Sizes f) sizes1 sizes2 f form

  few-us : size_all us < 2 ^ 54
  few-us = omega (arith, few, size-all)

  abbrev line : List ℕ
  line = taken_all whole ds

  all-bytes : form_of f all ≡ form_of f us ++ line
  all-bytes = plain-bytes us ds plain f

  all-length : length (form_of f all) ≡ length (form_of f us) + length line
  all-length = ap length all-bytes ∙ length-append (form_of f us) line

  line_low : length (form_of f us) + length line < brim
  line_low = omega (arith, bytes_le f form z us sizes-are legal-us few-us, few, size-all, taken_all-le whole ds)

  place : last_place (put_tokens (begun f z) us) ≡ length (form_of f us)
  place = lanes-place f form z us sizes-are legal-us few-us

  far-these : near_in keys ts ≡ true → far_for f ts ≡ pick (near f (var n ∷ (ts ++ ds))) false true
  far-these close =
      far-form ts legal-ts low-ts f form close
      ∙ ap (λ (b : Bool). pick b false true) (sym (near_same f all ts (all-taken lefts (omega arith)) (all-taken rights (omega arith))))

  end-these : end_for f (sizes_for f ts z₀) (var n ∷ ts) ds ≡ length (form_of f (var n ∷ (ts ++ ds)))
  unfolding end_for
  end-these = ap (λ (i : ℕ). (put_all (fresh_lane whole i) ds).run.at) place ∙ line-end ds (length (form_of f us)) line_low ∙ sym all-length

  out-these : (out : List ℕ) → length (form_of f (var n ∷ (ts ++ ds))) ≤ length out
      → out_for f (sizes_for f ts z₀) (var n ∷ ts) ds out ≡ sets out 0 (form_of f (var n ∷ (ts ++ ds)))
  unfolding out_for
  out-these out room =
      let b = form_of f us in
      let o = sets out 0 b in
      ap₂ (λ (o : List ℕ) (i : ℕ). laid_all o (fresh_lane whole i) ds) (lanes-out f form z us sizes-are legal-us few-us out (omega (arith, all-length))) place
      ∙ line-written ds (length b) line_low o (omega (arith, all-length, length-sets out 0 b))
      ∙ ap (λ (i : ℕ). sets o i line) (sym (zero-add (length b))) ∙ sym (sets-append b line out 0)
      ∙ ap (λ (x : List ℕ). sets out 0 x) (sym all-bytes)

-- ---- tokens with keys, as the form has them

module _ (f : ℕ) (ts : List Token) where
  legal-spelled : legal_all ts ≡ true → legal_all (spelled f [] ts) ≡ true
  unfolding spelled
  legal-spelled h = go (eqb f 1)
    where
      go : (b : Bool) → legal_all (pick b ts (numbered [] ts)) ≡ true
      go true = h
      go false = legal-numbered [] ts (omega arith) h

  size-spelled : size_all (spelled f [] ts) ≤ size_all ts
  unfolding spelled
  size-spelled = go (eqb f 1)
    where
      go : (b : Bool) → size_all (pick b ts (numbered [] ts)) ≤ size_all ts
      go true = omega arith
      go false = size-numbered [] ts

  taken-spelled : (k : ℕ) → k ≢ whole → k ≢ keys → k ≢ texts → k ≢ units → taken_all k (spelled f [] ts) ≡ taken_all k ts
  unfolding spelled
  taken-spelled k w i t u = go (eqb f 1)
    where
      go : (b : Bool) → taken_all k (pick b ts (numbered [] ts)) ≡ taken_all k ts
      go true = refl
      go false = taken-numbered k w i t u [] ts

  -- numbers of keys are never far from each other
  close-keys : taken_all keys ts ≡ [] → near_in keys (spelled f [] ts) ≡ true
  unfolding spelled near_in spellable
  close-keys h = go (eqb f 1)
    where
      go : (b : Bool) → spellable (coding Difference) 0 (taken_all keys (pick b ts (numbered [] ts))) ≡ true
      go true = rw h
      go false = keys-near ts h

module _ (f : ℕ) (form : IsForm f) (n : ℕ) (ts ds : List Token) (plain : All Plain ds) (lawful : legal_all (var n ∷ (ts ++ ds)) ≡ true)
    (few : size_all (var n ∷ (ts ++ ds)) < 2 ^ 54) (z₀ : List ℕ) where
  abbrev ps : List Token
  ps = spelled f [] ts

  spelled_is : spelled f [] (var n ∷ (ts ++ ds)) ≡ var n ∷ (ps ++ ds)
  spelled_is = plain-spelled f n ts ds plain

  legal-ps : legal_all (var n ∷ (ps ++ ds)) ≡ true
  legal-ps = sym (ap legal_all spelled_is) ∙ legal-spelled f (var n ∷ (ts ++ ds)) lawful

  few-ps : size_all (var n ∷ (ps ++ ds)) < 2 ^ 54
  few-ps = omega (arith, few, ap size_all spelled_is, size-spelled f (var n ∷ (ts ++ ds)))

  bytes-are : form_of f (var n ∷ (ps ++ ds)) ≡ bytes_of f (var n ∷ (ts ++ ds))
  bytes-are = sym (form-spelled f (var n ∷ (ts ++ ds)) ∙ ap (form_of f) spelled_is)

  same_taken : (k : ℕ) → k ≢ whole → k ≢ keys → k ≢ texts → k ≢ units → taken_all k (var n ∷ (ps ++ ds)) ≡ taken_all k (var n ∷ (ts ++ ds))
  same_taken k w i t u = sym (ap (taken_all k) spelled_is) ∙ taken-spelled f (var n ∷ (ts ++ ds)) k w i t u

  same-near : near f (var n ∷ (ps ++ ds)) ≡ near f (var n ∷ (ts ++ ds))
  same-near =
      near_same f (var n ∷ (ps ++ ds)) (var n ∷ (ts ++ ds))
      (same_taken lefts (λ h. absurd (omega arith)) (λ h. absurd (omega arith)) (λ h. absurd (omega arith)) (λ h. absurd (omega arith)))
      (same_taken rights (λ h. absurd (omega arith)) (λ h. absurd (omega arith)) (λ h. absurd (omega arith)) (λ h. absurd (omega arith)))

  pub far-is : taken_all keys ts ≡ [] → far_for f (spelled f [] ts) ≡ pick (near f (var n ∷ (ts ++ ds))) false true
  far-is none = far-these f form n ps ds plain legal-ps few-ps z₀ (close-keys f ts none) ∙ ap (λ (b : Bool). pick b false true) same-near

  pub end_is : end_for f (sizes_for f (spelled f [] ts) z₀) (var n ∷ spelled f [] ts) ds ≡ length (bytes_of f (var n ∷ (ts ++ ds)))
  end_is = end-these f form n ps ds plain legal-ps few-ps z₀ ∙ ap length bytes-are

  pub out-is : (out : List ℕ) → length (bytes_of f (var n ∷ (ts ++ ds))) ≤ length out
      → out_for f (sizes_for f (spelled f [] ts) z₀) (var n ∷ spelled f [] ts) ds out ≡ sets out 0 (bytes_of f (var n ∷ (ts ++ ds)))
  out-is out room =
      out-these f form n ps ds plain legal-ps few-ps z₀ out (omega (arith, room, ap length bytes-are)) ∙ ap (λ (b : List ℕ). sets out 0 b) bytes-are
