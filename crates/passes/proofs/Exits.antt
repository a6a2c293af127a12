-- The ways out of the passes: what is measured, and what is written, of all lanes at once.
use Prim.Native.Nat.{ℕ}
use mathlib.Core.Path.{◌≡◌, refl, sym, ap, ◌∙◌}
use mathlib.Core.Bool.{Bool, true, false}
use mathlib.Core.List.{List, [], ◌∷◌, ◌++◌}
use native.Mathlib.Omega.{arith}
use lib.Dec.{eqb}
use lib.ListN.{length, take}
use lib.Seq.{take_at}
use borrow.Author.Tests.{eqb-true, eqb-false}
use Rattle.numbers.specs.Number.{pick, unsigned}
use Rattle.tokens.specs.Tokens.{Token, var, keys, rest, whole}
use Rattle.tokens.specs.Keys.{many_keys, crowded}
use Rattle.tokens.specs.KeysInner.{is_key, keyless, spelled, known_after}
use Rattle.tokens.specs.Lanes.{Lane, fresh_lane, ahead, laid_at, put_all, laid_all}
use Rattle.tokens.specs.Desk.{put_tokens, laid_tokens, lanes_in, desk_in, key_count, known_in, crowded_in, alias_count, Tidy, Room, Blank, closed_each, laid_ends, WroteKeys}
use Rattle.tokens.proofs.Wrote.{wrote-var}
use Rattle.tokens.proofs.Keyed.{known-none, crowd-none, wrote-keys, wrote-keys-then}
use Rattle.records.specs.DeleteRows.{InLine}
use Rattle.passes.specs.declared.Measured.{Measured}
use Rattle.passes.specs.Measures.{measured_for}
use Rattle.passes.specs.Forms.{fresh_from, measured, places_of, any_far, sizes_for, far_for, begun, led_bytes, last_place, end_for, out_for}
use Rattle.passes.proofs.Apart.{lanes_put, none-put}
use Rattle.passes.proofs.Plain.{count-spelled}
use Rattle.passes.proofs.Places.{blank-lane, ends-line, ends-lanes}

-- ---- measured

-- each lane by itself
all_append : (es fs : List Lane) (ts : List Token) → put_tokens (es ++ fs) ts ≡ put_tokens es ts ++ put_tokens fs ts
all_append [] fs ts = rw (none-put ts)
all_append (e ∷ es) fs ts = rw (lanes_put ts e (es ++ fs), lanes_put ts e es, all_append es fs ts)

all-many : (es : List Lane) (ts : List Token) → length (put_tokens es ts) ≡ length es
all-many [] ts = rw (none-put ts)
all-many (e ∷ es) ts = rw (lanes_put ts e es, all-many es ts)

fresh-lanes : (w : List ℕ) → Blank w → lanes_in w ≡ fresh_from keys 10
unfolding lanes_in fresh_from
fresh-lanes w b =
    rw (
      blank-lane w b 0 (omega arith),
      blank-lane w b 1 (omega arith),
      blank-lane w b 2 (omega arith),
      blank-lane w b 3 (omega arith),
      blank-lane w b 4 (omega arith),
      blank-lane w b 5 (omega arith),
      blank-lane w b 6 (omega arith),
      blank-lane w b 7 (omega arith),
      blank-lane w b 8 (omega arith),
      blank-lane w b 9 (omega arith),
    )

ten : (w : List ℕ) → length (lanes_in w) ≡ 10
unfolding lanes_in
ten w = refl

module _ (form : ℕ) (ts : List Token) where
  pub measured-line : (z : List ℕ) → eqb form 1 ≡ true
      → (record { far = false; crowded = false } ≡ measured_for form ts) × (z ≡ sizes_for form (spelled form [] ts) z)
  unfolding measured_for far_for many_keys sizes_for
  measured-line z f = rw f (refl, refl)

  module _ {u out zeros out₁ w₁ : List ℕ} {r : ℕ} (f : eqb form 1 ≡ false) (blank : Blank zeros) (wrote : WroteKeys u form ts out zeros 0 out₁ w₁ r) where
    abbrev ps : List Token
    ps = spelled form [] ts

    desk-put : desk_in form w₁ r ≡ put_tokens (desk_in form zeros 0) ps
    desk-put = wrote.desk ∙ ap (λ (ks : List (List ℕ)). put_tokens (desk_in form zeros 0) (spelled form ks ts)) (known-none u zeros blank.keys)

    all_lanes : lanes_in w₁ ++ (fresh_lane rest r ∷ []) ≡ put_tokens (lanes_in zeros ++ (fresh_lane rest 0 ∷ [])) ps
    unfolding desk_in
    all_lanes = rw f at desk-put

    columns : lanes_in w₁ ≡ put_tokens (fresh_from keys 10) ps
    columns =
        let old = lanes_in zeros in
        sym (take_at (lanes_in w₁) (fresh_lane rest r ∷ []) 10 (ten w₁)) ∙ ap (take 10) (all_lanes ∙ all_append old (fresh_lane rest 0 ∷ []) ps)
        ∙ take_at (put_tokens old ps) (put_tokens (fresh_lane rest 0 ∷ []) ps) 10 (all-many old ps ∙ ten zeros)
        ∙ ap (λ (es : List Lane). put_tokens es ps) (fresh-lanes zeros blank)

    -- the keys crowd the words as they crowd form 2
    many : crowded_in w₁ ≡ many_keys form ts
    unfolding many_keys
    many =
        wrote.crowd
        ∙ ap (λ (b : Bool). pick b true (pick (eqb form 1) false (crowded (known_in u zeros) ts))) (crowd-none zeros blank.crowd)
        ∙ ap (λ (ks : List (List ℕ)). pick (eqb form 1) false (crowded ks ts)) (known-none u zeros blank.keys)

    pub measured-lanes : (w₂ : List ℕ) → lanes_in w₂ ≡ closed_each (lanes_in w₁) → (z : List ℕ)
        → (record { far = any_far (lanes_in w₂); crowded = crowded_in w₁ } ≡ measured_for form ts) × (places_of (lanes_in w₂) ≡ sizes_for form (spelled form [] ts) z)
    unfolding measured_for far_for sizes_for measured
    measured-lanes w₂ c z =
        let m = c ∙ ap closed_each columns in
        rw (f, many) (ap (λ (es : List Lane). measured_so (any_far es)) m, ap places_of m)
      where
        measured_so : Bool → Measured
        measured_so b = record { far = b; crowded = many_keys form ts }

  -- measured as form 2, whatever the form is that is not form 1
  pub as-form : {u out w out₁ w₁ : List ℕ} {at r : ℕ} → eqb form 1 ≡ false → WroteKeys u 2 ts out w at out₁ w₁ r → WroteKeys u form ts out w at out₁ w₁ r
  unfolding desk_in spelled known_after
  as-form f h = record {
    desk = rw f h.desk;
    bytes = rw f h.bytes;
    tidy = h.tidy;
    known = rw f h.known;
    crowd = rw f h.crowd;
    aliased = h.aliased;
  }

  pub as-two : {w : List ℕ} → eqb form 1 ≡ false → Room form ts w → Room 2 ts w
  as-two f r = record { words = λ h. r.words (rw f h) }

-- ---- written

last-place : (form : ℕ) (w : List ℕ) (at : ℕ) → last_place (desk_in form w at) ≡ at
unfolding desk_in lanes_in last_place
last-place form w at = go (eqb form 1)
  where
    go : (b : Bool) → last_place (pick b (fresh_lane whole at ∷ []) (lanes_in w ++ (fresh_lane rest at ∷ []))) ≡ at
    go true = refl
    go false = refl

-- wherever the lane in line stands
ends_there : (form : ℕ) (out w : List ℕ) (at : ℕ) → laid_ends out (desk_in form w 0) ≡ laid_ends out (desk_in form w at)
ends_there form out w at = go (eqb form 1) refl
  where
    go : (b : Bool) → eqb form 1 ≡ b → laid_ends out (desk_in form w 0) ≡ laid_ends out (desk_in form w at)
    go true e = sym (ends-line out w 0 (eqb-true form 1 e)) ∙ ends-line out w at (eqb-true form 1 e)
    go false e = sym (ends-lanes out w 0 (eqb-false form 1 e)) ∙ ends-lanes out w at (eqb-false form 1 e)

module _ (u : List ℕ) (form : ℕ) (z out₀ : List ℕ) (n : ℕ) (ts ds : List Token) (out₁ w₁ : List ℕ) (at₁ : ℕ)
    (opened : (desk_in form w₁ at₁ ≡ begun form z) × (out₁ ≡ led_bytes form z out₀) × Tidy w₁ × (key_count w₁ ≡ 0) × (alias_count w₁ ≡ 0)) (out₃ w₃ : List ℕ) (end : ℕ)
    (rows : WroteKeys u form ts (laid_at out₁ at₁ (unsigned n)) w₁ (ahead at₁ (unsigned n)) out₃ w₃ end) where
  abbrev us : List Token
  us = var n ∷ spelled form [] ts

  wrote : WroteKeys u form (var n ∷ ts) out₁ w₁ at₁ out₃ w₃ end
  unfolding keyless is_key
  wrote = wrote-keys-then (wrote-keys refl (wrote-var n opened.2 (refl, refl))) rows

  -- no key is known yet, and a number is none
  spelled_is : spelled form (known_in u w₁) (var n ∷ ts) ≡ var n ∷ spelled form [] ts
  spelled_is = ap (λ (ks : List (List ℕ)). spelled form ks (var n ∷ ts)) (known-none u w₁ opened.3) ∙ count-spelled form n ts

  desk-is : desk_in form w₃ end ≡ put_tokens (begun form z) (var n ∷ spelled form [] ts)
  desk-is =
      wrote.desk ∙ ap (λ (ts : List Token). put_tokens (desk_in form w₁ at₁) ts) spelled_is ∙ ap (λ (es : List Lane). put_tokens es us) opened.0

  bytes-are : out₃ ≡ laid_tokens (led_bytes form z out₀) (begun form z) (var n ∷ spelled form [] ts)
  bytes-are =
      wrote.bytes ∙ ap (λ (ts : List Token). laid_tokens out₁ (desk_in form w₁ at₁) ts) spelled_is
      ∙ ap (λ (es : List Lane). laid_tokens out₁ es us) opened.0 ∙ ap (λ (o : List ℕ). laid_tokens o (begun form z) us) opened.1

  in-line : fresh_lane whole end ≡ fresh_lane whole (last_place (put_tokens (begun form z) (var n ∷ spelled form [] ts)))
  in-line = ap (fresh_lane whole) (sym (last-place form w₃ end) ∙ ap last_place desk-is)

  pub written : {out₄ : List ℕ} {out₅ : List ℕ} {r : ℕ} → out₄ ≡ laid_ends out₃ (desk_in form w₃ 0) → InLine ds out₄ end out₅ r
      → (r ≡ end_for form z (var n ∷ spelled form [] ts) ds) × (out₅ ≡ out_for form z (var n ∷ spelled form [] ts) ds out₀)
  unfolding end_for out_for
  written {out₄} c i = (
    i.place ∙ ap (λ (e : Lane). (put_all e ds).run.at) in-line,
    i.bytes ∙ ap (λ (e : Lane). laid_all out₄ e ds) in-line
        ∙ ap (λ (o : List ℕ). laid_all o (fresh_lane whole (last_place (put_tokens (begun form z) (var n ∷ spelled form [] ts)))) ds)
        (c ∙ ends_there form out₃ w₃ end ∙ ap (laid_ends out₃) desk-is ∙ ap (λ (o : List ℕ). laid_ends o (put_tokens (begun form z) (var n ∷ spelled form [] ts))) bytes-are),
  )
