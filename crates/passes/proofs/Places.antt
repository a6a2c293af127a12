-- What leads the lanes of a form, as it is written: a token in line, the lanes at their beginnings one after the other, their sizes one after the other.
use Prim.Native.Nat.{ℕ, zero, suc, ◌+◌, ◌-◌, ◌*◌, ◌≤◌, ◌<◌}
use mathlib.Core.Path.{◌≡◌, refl, sym, ap, subst, ◌∙◌}
use mathlib.Core.Logic.{◌≢◌}
use mathlib.Core.Bool.{Bool, true, false}
use mathlib.Core.List.{List, [], ◌∷◌, ◌++◌, append_assoc}
use native.Mathlib.Omega.{arith}
use native.Mathlib.Numerals.{add-one}
use borrow.Author.Tests.{eq-eqb, ne_eqb, lt-ltb, eqb-true, eqb-false}
use lib.Dec.{ltb, leb, eqb}
use lib.ListN.{length, get_or, set, take, drop, replicate, length-append, length-set, get_or-append, get_or-eq_default}
use Rattle.std.proofs.lemmas.List.{length-replicate, get_or-replicate}
use lib.Seq.{get_or-set_same, get_or-set_other, take-suc-set, take_all, length-take-le}
use Rattle.numbers.specs.Number.{pick}
use Rattle.runs.specs.Writer.{Sound}
use Rattle.parts.specs.Brim.{brim}
use Rattle.tokens.specs.Tokens.{Token, var, keys, texts, units, rest, whole, in_line}
use Rattle.tokens.specs.Lanes.{Lane, fresh_lane, moved_to, lay, laid_bytes, last_run, laid_end}
use Rattle.tokens.specs.Desk.{lane_in, lanes_in, desk_in, key_count, alias_count, Tidy, Blank, Aliased, laid_ends}
use Rattle.tokens.proofs.Keyed.{aliased-none}
use Rattle.records.specs.DeleteRows.{InLine}
use Rattle.records.proofs.Lines.{line-none, line-is}
use Rattle.passes.specs.Forms.{first_lane, lanes_of, places_of, any_far, text_size, is_bare, lead_tokens, lead_end, lead_bytes, on_to, begun_from, led_from, begun, led_bytes}

-- ---- what leads a lane: its tokens, lane by lane

module _ (z : List ℕ) (k : ℕ) where
  pub units-tokens : k ≡ units → lead_tokens z k ≡ []
  unfolding lead_tokens is_bare
  units-tokens h = rw (eq-eqb k units h)

  pub rest-tokens : k ≡ rest → lead_tokens z k ≡ []
  unfolding lead_tokens is_bare
  rest-tokens h = rw h

  pub whole-tokens : k ≡ whole → lead_tokens z k ≡ []
  unfolding lead_tokens is_bare
  whole-tokens h = rw h

  pub keys-tokens : k ≡ keys → lead_tokens z k ≡ var 0 ∷ (var (get_or z k 0) ∷ [])
  unfolding lead_tokens is_bare
  keys-tokens h = rw h

  pub texts-tokens : k ≡ texts → lead_tokens z k ≡ var (text_size z) ∷ (var (get_or z k 0) ∷ [])
  unfolding lead_tokens is_bare
  texts-tokens h = rw h

  pub other-tokens : k < 10 → k ≢ units → k ≢ keys → k ≢ texts → lead_tokens z k ≡ var (get_or z k 0) ∷ []
  unfolding lead_tokens is_bare
  other-tokens b u c t =
      rw (ne_eqb k units u, ne_eqb k rest (λ q. absurd (omega (arith, b, q))), ne_eqb k whole (λ q. absurd (omega (arith, b, q))), ne_eqb k keys c, ne_eqb k texts t)

-- in line
pub lead_is : (z : List ℕ) (k : ℕ) {ts : List Token} {out o : List ℕ} {at r : ℕ} → lead_tokens z k ≡ ts → InLine ts out at o r
    → (r ≡ lead_end z k at) × (o ≡ lead_bytes out z k at)
lead_is z k {ts} {out} {o} {at} {r} t h = let i = line-is t h in (i.place, i.bytes)

-- ---- the first lanes in the words

unfoldable pub first_in : List ℕ → ℕ → List Lane
first_in w zero = []
first_in w (suc n) = first_in w n ++ (lane_in w n ∷ [])

pub first-all : (w : List ℕ) → first_in w 10 ≡ lanes_in w
unfolding first_in lanes_in
first-all w = refl

pub first_one : (w : List ℕ) (n : ℕ) → first_in w (n + 1) ≡ first_in w n ++ (lane_in w n ∷ [])
unfolding first_in
first_one w n = rw (add-one n)

pub first-same : (w w' : List ℕ) (n : ℕ) → ((j : ℕ) → j < n → lane_in w' j ≡ lane_in w j) → first_in w' n ≡ first_in w n
unfolding first_in
first-same w w' zero h = refl
first-same w w' (suc n) h = rw (first-same w w' n (λ j l. h j (omega (arith, l))), h n (omega arith))

-- ---- a place noted

module _ (w : List ℕ) (size : 52 ≤ length w) (k : ℕ) (l : k < 10) (at : ℕ) where
  pub own-place : lane_in (set w (5 * k) at) k ≡ moved_to (lane_in w k) at
  unfolding lane_in
  own-place =
      let no : (i : ℕ) → 0 < i → 5 * k + i ≢ 5 * k = λ i p q. absurd (omega (arith, p, q)) in
      rw (
        get_or-set_same w (5 * k) at 0 (omega (arith, size, l)),
        get_or-set_other w (5 * k) (5 * k + 1) at 0 (no 1 (omega arith)),
        get_or-set_other w (5 * k) (5 * k + 2) at 0 (no 2 (omega arith)),
        get_or-set_other w (5 * k) (5 * k + 3) at 0 (no 3 (omega arith)),
        get_or-set_other w (5 * k) (5 * k + 4) at 0 (no 4 (omega arith)),
      )

  pub other_place : (j : ℕ) → j ≢ k → lane_in (set w (5 * k) at) j ≡ lane_in w j
  unfolding lane_in
  other_place j d =
      let no : (i : ℕ) → i < 5 → 5 * j + i ≢ 5 * k = λ i p q. d (omega (arith, p, q)) in
      let at0 : 5 * j ≢ 5 * k = λ q. d (omega (arith, q)) in
      rw (
        get_or-set_other w (5 * k) (5 * j) at 0 at0,
        get_or-set_other w (5 * k) (5 * j + 1) at 0 (no 1 (omega arith)),
        get_or-set_other w (5 * k) (5 * j + 2) at 0 (no 2 (omega arith)),
        get_or-set_other w (5 * k) (5 * j + 3) at 0 (no 3 (omega arith)),
        get_or-set_other w (5 * k) (5 * j + 4) at 0 (no 4 (omega arith)),
      )

-- it is none of the keys' words, and none of the aliases'
other_keys : (w : List ℕ) (k : ℕ) → k < 10 → (at : ℕ) → key_count (set w (5 * k) at) ≡ key_count w
unfolding key_count
other_keys w k l at = get_or-set_other w (5 * k) 50 at 0 (λ q. absurd (omega (arith, l, q)))

other-aliases : (w : List ℕ) (k : ℕ) → k < 10 → (at : ℕ) → alias_count (set w (5 * k) at) ≡ alias_count w
unfolding alias_count
other-aliases w k l at = get_or-set_other w (5 * k) 564 at 0 (λ q. absurd (omega (arith, l, q)))

-- ---- the lanes at their beginnings, the first k of them noted

-- of these lanes nothing is written yet
abbrev pub Fresh : List ℕ → Type 0
Fresh w = (j : ℕ) → j < 10 → lane_in w j ≡ fresh_lane j (lane_in w j).run.at

module _ (w : List ℕ) (b : Blank w) where
  pub blank-lane : (k : ℕ) → k < 10 → lane_in w k ≡ fresh_lane k 0
  unfolding lane_in
  blank-lane k l =
      rw (
        b.lanes (5 * k) (omega (arith, l)),
        b.lanes (5 * k + 1) (omega (arith, l)),
        b.lanes (5 * k + 2) (omega (arith, l)),
        b.lanes (5 * k + 3) (omega (arith, l)),
        b.lanes (5 * k + 4) (omega (arith, l)),
      )

  pub blank-fresh : Fresh w
  blank-fresh k l = rw (blank-lane k l)

pub fresh-tidy : (w : List ℕ) → 52 ≤ length w → Fresh w → key_count w ≡ 0 → Tidy w
fresh-tidy w size h none = record {
  size = size;
  sound = λ k l. subst (λ (e : Lane). Sound e.run) (sym (h k l)) (omega arith, omega arith);
  keys = omega (arith, none);
}

pub blank-tidy : (w : List ℕ) → Blank w → Tidy w
blank-tidy w b = fresh-tidy w b.size (blank-fresh w b) b.keys

-- no key is known, and none has an alias
pub blank-aliased : (u w : List ℕ) → Blank w → Aliased u w
blank-aliased u w b = aliased-none u w (blank-tidy w b) b.aliases

-- what leads the lanes from lane k on, and where they begin, are what they are from the first on
pub record Opening (out₀ z out w : List ℕ) (at k : ℕ) : Type 0 where
  pub below : k ≤ 10
  pub size : 52 ≤ length w
  pub fresh : Fresh w
  pub keys : key_count w ≡ 0
  pub aliases : alias_count w ≡ 0
  pub lanes : first_in w k ++ begun_from z k (11 - k) at ≡ begun_from z 0 11 0
  pub bytes : led_from out z k (11 - k) at ≡ led_from out₀ z 0 11 0

one_more : (k : ℕ) → k < 10 → 11 - k ≡ suc (11 - (k + 1))
one_more k l = omega (arith, l)

begun-one : (z : List ℕ) (k at r : ℕ) → k < 10 → r ≡ lead_end z k at
    → begun_from z k (11 - k) at ≡ fresh_lane k r ∷ begun_from z (k + 1) (11 - (k + 1)) (on_to r (get_or z k 0))
unfolding begun_from
begun-one z k at r l h = rw (one_more k l, h)

led-one : (out o z : List ℕ) (k at r : ℕ) → k < 10 → r ≡ lead_end z k at → o ≡ lead_bytes out z k at
    → led_from out z k (11 - k) at ≡ led_from o z (k + 1) (11 - (k + 1)) (on_to r (get_or z k 0))
unfolding led_from
led-one out o z k at r l h h' = rw (one_more k l, h, h')

module _ (out₀ z : List ℕ) where
  pub opens : (w : List ℕ) → Blank w → Opening out₀ z out₀ w 0 0
  unfolding first_in
  opens w h = record { below = omega arith; size = h.size; fresh = blank-fresh w h; keys = h.keys; aliases = h.aliases; lanes = refl; bytes = refl }

  pub opens-on : {out o w : List ℕ} {at k r : ℕ} → Opening out₀ z out w at k → k < 10 → (r ≡ lead_end z k at) × (o ≡ lead_bytes out z k at)
      → Opening out₀ z o (set w (5 * k) r) (on_to r (get_or z k 0)) (k + 1)
  opens-on {out} {o} {w} {at} {k} {r} g l h = record {
    below = omega (arith, l);
    size = rw (length-set w (5 * k) r) g.size;
    fresh = λ j b. still j b (eqb j k) refl;
    keys = other_keys w k l r ∙ g.keys;
    aliases = other-aliases w k l r ∙ g.aliases;
    lanes =
        ap (λ (es : List Lane). es ++ begun_from z (k + 1) (11 - (k + 1)) (on_to r (get_or z k 0))) noted
        ∙ append_assoc (first_in w k) (fresh_lane k r ∷ []) (begun_from z (k + 1) (11 - (k + 1)) (on_to r (get_or z k 0)))
        ∙ ap (λ (es : List Lane). first_in w k ++ es) (sym (begun-one z k at r l h.0)) ∙ g.lanes;
    bytes = sym (led-one out o z k at r l h.0 h.1) ∙ g.bytes;
  }
    where
      own : lane_in (set w (5 * k) r) k ≡ fresh_lane k r
      own = own-place w g.size k l r ∙ ap (λ (e : Lane). moved_to e r) (g.fresh k l)

      others : (j : ℕ) → j ≢ k → lane_in (set w (5 * k) r) j ≡ lane_in w j
      others j d = other_place w g.size k l r j d

      still : (j : ℕ) → j < 10 → (b : Bool) → eqb j k ≡ b → lane_in (set w (5 * k) r) j ≡ fresh_lane j (lane_in (set w (5 * k) r) j).run.at
      still j b true e = let q = eqb-true j k e in rw (q, own)
      still j b false e = rw (others j (eqb-false j k e)) (g.fresh j b)

      noted : first_in (set w (5 * k) r) (k + 1) ≡ first_in w k ++ (fresh_lane k r ∷ [])
      noted = first_one (set w (5 * k) r) k ∙ rw (own, first-same w (set w (5 * k) r) k (λ j p. others j (λ q. absurd (omega (arith, p, q)))))

  -- the rest begins where the lanes before it end, and nothing leads it
  rest-begun : (at : ℕ) → begun_from z 10 1 at ≡ fresh_lane rest at ∷ []
  unfolding begun_from
  rest-begun at = ap (λ (a : ℕ). fresh_lane rest a ∷ []) (sym (lead_is z 10 {out = []} (rest-tokens z 10 refl) line-none).0)

  rest-led : (out : List ℕ) (at : ℕ) → led_from out z 10 1 at ≡ out
  unfolding led_from
  rest-led out at = sym (lead_is z 10 {at = at} (rest-tokens z 10 refl) line-none).1

  abbrev Opened : ℕ → List ℕ → List ℕ → ℕ → Type 0
  Opened form out w at = (desk_in form w at ≡ begun form z) × (out ≡ led_bytes form z out₀) × Tidy w × (key_count w ≡ 0) × (alias_count w ≡ 0)

  pub opened : {form : ℕ} {out w : List ℕ} {at k : ℕ} → form ≢ 1 → Opening out₀ z out w at k → 10 ≤ k → Opened form out w at
  unfolding desk_in first_lane lanes_of
  opened {form} {out} {w} {at} {k} f g l =
      let q : k ≡ 10 = omega (arith, l, g.below) in
      let a = subst (λ (m : ℕ). first_in w m ++ begun_from z m (11 - m) at ≡ begun_from z 0 11 0) q g.lanes in
      let b = subst (λ (m : ℕ). led_from out z m (11 - m) at ≡ led_from out₀ z 0 11 0) q g.bytes in
      rw (ne_eqb form 1 f) (
        ap (λ (es : List Lane). es ++ (fresh_lane rest at ∷ [])) (sym (first-all w)) ∙ ap (λ (es : List Lane). first_in w 10 ++ es) (sym (rest-begun at)) ∙ a,
        sym (rest-led out at) ∙ b,
        fresh-tidy w g.size g.fresh g.keys,
        g.keys,
        g.aliases,
      )

  pub opened-line : {form : ℕ} {w : List ℕ} → form ≡ 1 → Blank w → Opened form out₀ w 0
  unfolding desk_in first_lane lanes_of begun_from led_from
  opened-line {form} {w} f h =
      let n = lead_is z whole {out = out₀} {at = 0} (whole-tokens z whole refl) line-none in
      rw (eq-eqb form 1 f) (ap (λ (a : ℕ). fresh_lane whole a ∷ []) n.0, n.1, blank-tidy w h, h.keys, h.aliases)

-- ---- words cleared, the first 52 of them

pub record Cleared (w : List ℕ) : Type 0 where
  pub size : 52 ≤ length w
  pub zeros : (j : ℕ) → j < 52 → get_or w j 0 ≡ 0

pub clears : (w : List ℕ) {front : List ℕ} → 52 ≤ length w → front ≡ replicate (length (take 52 w)) 0 → Cleared (front ++ drop 52 w)
clears w {front} h e =
    let t : length (take 52 w) ≡ 52 = length-take-le 52 w h in
    let f : length front ≡ 52 = ap length e ∙ length-replicate (length (take 52 w)) 0 ∙ t in
    record {
      size = simp length-append (omega arith);
      zeros = λ j l. get_or-append front (drop 52 w) 0 j (omega arith) ∙ ap (λ (x : List ℕ). get_or x j 0) e ∙ get_or-replicate (length (take 52 w)) j 0 0 (omega arith);
    }

module _ {w : List ℕ} (g : Cleared w) where
  -- there are no words for aliases
  pub cleared-short : length w ≤ 564 → Blank w
  unfolding key_count alias_count
  cleared-short s = record {
    size = g.size;
    lanes = λ j m. g.zeros j (omega (arith, m));
    keys = g.zeros 50 (omega arith);
    crowd = g.zeros 51 (omega arith);
    aliases = get_or-eq_default w 0 {n = 564} s;
  }

  pub cleared : 564 < length w → Blank (set w 564 0)
  unfolding key_count alias_count
  cleared s = record {
    size = rw (length-set w 564 0) g.size;
    lanes = λ j m. other j (omega (arith, m));
    keys = other 50 (omega arith);
    crowd = other 51 (omega arith);
    aliases = get_or-set_same w 564 0 0 s;
  }
    where
      other : (j : ℕ) → j < 52 → get_or (set w 564 0) j 0 ≡ 0
      other j m = get_or-set_other w 564 j 0 0 (λ q. absurd (omega (arith, m, q))) ∙ g.zeros j m

-- ---- ends: a lane in line has none

laid-nothing : (out : List ℕ) (e : Lane) → laid_bytes out e [] ≡ out
unfolding laid_bytes lay
laid-nothing out e = go (ltb e.run.at brim) (leb (e.run.at + 0) (length out))
  where
    go : (a b : Bool) → pick a (pick b out out) out ≡ out
    go true true = refl
    go true false = refl
    go false b = refl

ends-in-line : (out : List ℕ) (e : Lane) → in_line e.lane ≡ true → laid_end out e ≡ out
unfolding last_run
ends-in-line out e h = rw h (laid-nothing out e)

ends-append : (out : List ℕ) (es : List Lane) (e : Lane) → in_line e.lane ≡ true → laid_ends out (es ++ (e ∷ [])) ≡ laid_ends out es
unfolding laid_ends
ends-append out [] e h = ends-in-line out e h
ends-append out (f ∷ es) e h = ends-append (laid_end out f) es e h

module _ {form : ℕ} (out w : List ℕ) (at : ℕ) where
  pub ends-line : form ≡ 1 → out ≡ laid_ends out (desk_in form w at)
  unfolding desk_in laid_ends in_line
  ends-line f = rw (eq-eqb form 1 f) (sym (ends-in-line out (fresh_lane whole at) refl))

  pub ends-lanes : form ≢ 1 → laid_ends out (lanes_in w) ≡ laid_ends out (desk_in form w at)
  unfolding desk_in in_line
  ends-lanes f = rw (ne_eqb form 1 f) (sym (ends-append out (lanes_in w) (fresh_lane rest at) refl))

-- ---- sizes, the first k of them noted

places-append : (es : List Lane) (e : Lane) → places_of (es ++ (e ∷ [])) ≡ places_of es ++ (e.run.at ∷ [])
unfolding places_of
places-append [] e = refl
places-append (f ∷ es) e = rw (places-append es e)

far-append : (es : List Lane) (e : Lane) → any_far (es ++ (e ∷ [])) ≡ pick (any_far es) true e.far
unfolding any_far
far-append [] e = go e.far
  where
    go : (b : Bool) → pick b true false ≡ b
    go true = refl
    go false = refl
far-append (f ∷ es) e = rw (far-append es e) (go f.far)
  where
    go : (b : Bool) → pick b true (pick (any_far es) true e.far) ≡ pick (pick b true (any_far es)) true e.far
    go true = refl
    go false = refl

pub record Noted (w z : List ℕ) (far : Bool) (k : ℕ) : Type 0 where
  pub below : k ≤ 10
  pub size : length z ≡ 10
  pub places : take k z ≡ places_of (first_in w k)
  pub fars : far ≡ any_far (first_in w k)

module _ (w : List ℕ) where
  pub notes : {z : List ℕ} → length z ≡ 10 → Noted w z false 0
  unfolding first_in places_of any_far
  notes h = record { below = omega arith; size = h; places = refl; fars = refl }

  pub notes-on : {z : List ℕ} (far : Bool) {far₁ : Bool} {k : ℕ} → Noted w z far k → k < 10 → far₁ ≡ pick far true (lane_in w k).far
      → Noted w (set z k (get_or w (5 * k) 0)) far₁ (k + 1)
  unfolding lane_in
  notes-on {z} far {far₁} {k} g l h = record {
    below = omega (arith, l);
    size = length-set z k (get_or w (5 * k) 0) ∙ g.size;
    places =
        rw (add-one k) (take-suc-set z k (get_or w (5 * k) 0) (omega (arith, l, g.size)))
        ∙ ap (λ (x : List ℕ). x ++ (get_or w (5 * k) 0 ∷ [])) g.places ∙ sym (places-append (first_in w k) (lane_in w k)) ∙ ap places_of (sym (first_one w k));
    fars = h ∙ ap (λ (b : Bool). pick b true (lane_in w k).far) g.fars ∙ sym (far-append (first_in w k) (lane_in w k)) ∙ ap any_far (sym (first_one w k));
  }

  pub noted : {z : List ℕ} {far : Bool} {k : ℕ} → Noted w z far k → 10 ≤ k → (far ≡ any_far (lanes_in w)) × (z ≡ places_of (lanes_in w))
  noted {z} {far} {k} g l =
      let q : k ≡ 10 = omega (arith, l, g.below) in
      let a = subst (λ (m : ℕ). take m z ≡ places_of (first_in w m)) q g.places in
      let b = subst (λ (m : ℕ). far ≡ any_far (first_in w m)) q g.fars in
      (b ∙ ap any_far (first-all w), sym (take_all 10 z (omega (arith, g.size))) ∙ a ∙ ap places_of (first-all w))

  -- what the word says
  pub far-there : (k : ℕ) (far : Bool) {far₁ : Bool} → get_or w (5 * k + 4) 0 ≢ 0 → far₁ ≡ true → far₁ ≡ pick far true (lane_in w k).far
  unfolding lane_in
  far-there k far h e = e ∙ rw (lt-ltb 0 (get_or w (5 * k + 4) 0) (omega (arith, h))) (go far)
    where
      go : (b : Bool) → true ≡ pick b true true
      go true = refl
      go false = refl

  pub far-not : (k : ℕ) (far : Bool) {far₁ : Bool} → get_or w (5 * k + 4) 0 ≡ 0 → far₁ ≡ far → far₁ ≡ pick far true (lane_in w k).far
  unfolding lane_in
  far-not k far h e = e ∙ rw h (go far)
    where
      go : (b : Bool) → b ≡ pick b true false
      go true = refl
      go false = refl
