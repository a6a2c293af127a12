-- Form 2: a key is drawn by its number, and tokens are drawn one after the other.
use Prim.Native.Nat.{ℕ, ◌<◌}
use mathlib.Core.Path.{◌≡◌, refl, sym, ap, subst, ◌∙◌}
use mathlib.Core.Bool.{Bool, true, false}
use mathlib.Core.List.{List, [], ◌∷◌, ◌++◌}
use lib.Dec.{ltb}
use lib.ListN.{length, get_or}
use borrow.Author.Tests.{ltb-true}
use Rattle.numbers.specs.Number.{pick}
use Rattle.text.specs.declared.Part.{Part}
use Rattle.text.specs.Utf8.{units_of}
use Rattle.block.specs.Row.{no_part}
use Rattle.grammar.specs.Grammar as grammar
use Rattle.grammar.specs.Course.{got}
use Rattle.decoder.specs.States.{max_keys, Differences, State, key_moved, with_keys}
use Rattle.decoder.specs.Columned.{difference_drawn, joining, key_by_number as by_key, key_in, columned}
use Rattle.readings.specs.Sound.{bytes_in}
use Rattle.readings.proofs.Columns.{clash}
use Rattle.tokens.specs.Tokens.{Token, field, text, var, buf, key, value, values, taken, taken_all, keys}
use Rattle.tokens.specs.Keys.{number_of as key_number, is_known, is_full, remembered, crowded, by_number, numbered}
use Rattle.tokens.specs.KeysInner.{keys_after}
use Rattle.tokens.proofs.Keys.{remembered-known, remembered-new}
use Rattle.draws.specs.Draws.{Draws, LegalValue, Legal, AllLegal}
use Rattle.draws.proofs.Columns.{Holds, field-drawn, text-drawn, var-drawn, buf-drawn, values-drawn, value-drawn}
use Rattle.draws.proofs.Keys.{each-length, each-joins, each-finds}
use Rattle.draws.proofs.Values.{texts_of}

-- ---- a key by its number

-- its number is drawn
number-drawn : (u : List ℕ) (s : State) (ks : List (List ℕ)) (v : ℕ) (ts : List Token) → Holds u s ks (field keys v ∷ ts)
    → (p : ℕ) × (c : Differences) × (key_in u s ≡ by_key u (got (v, p) (key_moved c s))) × Holds u (key_moved c s) ks ts
unfolding taken taken_all texts_of key_in difference_drawn
number-drawn u s ks v ts h =
    let d = h.key in (
      d.0.from,
      record { place = d.0; to = s.key.to },
      rw d.1,
      record { key = d.2; client = h.client; left = h.left; right = h.right; info = h.info; text = h.text; within = h.within; parent = h.parent; types = h.types; len = h.len; rest = h.rest; known = h.known; ends = h.ends },
    )

-- a text joins the keys
joined-on : (u : List ℕ) (s : State) (ks : List (List ℕ)) (b : List ℕ) (ts : List Token) (p : Part) → bytes_in u p ≡ b → Holds u s ks ts
    → Holds u (with_keys (s.keys ++ (p ∷ [])) s) (ks ++ (b ∷ [])) ts
joined-on u s ks b ts p e h =
    record { key = h.key; client = h.client; left = h.left; right = h.right; info = h.info; text = h.text; within = h.within; parent = h.parent; types = h.types; len = h.len; rest = h.rest; known = each-joins u s.keys p ∙ rw (h.known, e); ends = h.ends }

module _ (u : List ℕ) (s : State) (ks : List (List ℕ)) (b : List ℕ) (n : ℕ) (ts : List Token) where
  abbrev KeyDrawn : List (List ℕ) → Type 0
  KeyDrawn ls = (p : Part) × (m : State) × (columned u grammar.key s ≡ got p m) × (bytes_in u p ≡ b) × Holds u m ls ts

  -- one that was read
  known-drawn : is_known b ks ≡ true → Holds u s ks (field keys (key_number b ks) ∷ ts) → KeyDrawn ks
  unfolding columned by_key
  known-drawn e h =
      let d = number-drawn u s ks (key_number b ks) ts h in
      let m : State = key_moved d.1 s in
      let size : length ks ≡ length s.keys = ap length (sym h.known) ∙ each-length u s.keys in
      let low : ltb (key_number b ks) (length s.keys) ≡ true = subst (λ (l : ℕ). ltb (key_number b ks) l ≡ true) size e in
      let here = subst (λ (l : List (List ℕ)). key_number b l < length s.keys → bytes_in u (get_or s.keys (key_number b l) no_part) ≡ b) h.known
      (each-finds u s.keys b) (ltb-true (key_number b ks) (length s.keys) low) in
      (get_or s.keys (key_number b ks) no_part, m, d.2 ∙ rw low refl, here, d.3)

  -- any other: its text is the next
  new-drawn : is_known b ks ≡ false → is_full ks ≡ false → units_of b ≡ n → Holds u s ks (field keys (key_number b ks) ∷ (text b n ∷ ts)) → KeyDrawn (ks ++ (b ∷ []))
  unfolding columned by_key joining
  new-drawn e f w h =
      let d = number-drawn u s ks (key_number b ks) (text b n ∷ ts) h in
      let t = text-drawn u (key_moved d.1 s) ks b n ts w d.3 in
      let size : length ks ≡ length s.keys = ap length (sym h.known) ∙ each-length u s.keys in
      let high : ltb (key_number b ks) (length s.keys) ≡ false = subst (λ (l : ℕ). ltb (key_number b ks) l ≡ false) size e in
      let room : ltb (length s.keys) max_keys ≡ true = subst (λ (l : ℕ). ltb l max_keys ≡ true) size (free (ltb (length ks) max_keys) f) in
      (t.0, with_keys (t.1.keys ++ (t.0 ∷ [])) t.1, d.2 ∙ rw (high, room, t.2) refl, t.3, joined-on u t.1 ks b ts t.0 t.3 t.4)
    where
      free : (x : Bool) → pick x false true ≡ false → x ≡ true
      free true h = refl
      free false h = clash h

  key-drawn : (is_known b ks ≡ false → is_full ks ≡ false) → units_of b ≡ n → Holds u s ks (by_number ks b n ++ ts) → KeyDrawn (remembered ks b)
  unfolding by_number
  key-drawn f w h = go (is_known b ks) refl h
    where
      go : (x : Bool) → is_known b ks ≡ x → Holds u s ks (field keys (key_number b ks) ∷ (pick x [] (text b n ∷ []) ++ ts)) → KeyDrawn (remembered ks b)
      go true e h = rw (remembered-known ks b e) (known-drawn e h)
      go false e h = rw (remembered-new ks b e (f e)) (new-drawn e (f e) w h)

-- ---- one after the other

-- a key that finds room
room_for : (ks : List (List ℕ)) (b : List ℕ) (n : ℕ) (ts : List Token) → crowded ks (key b n ∷ ts) ≡ false
    → (is_known b ks ≡ false → is_full ks ≡ false) × (crowded (remembered ks b) ts ≡ false)
unfolding crowded
room_for ks b n ts h = go (is_known b ks) refl (is_full ks) refl h
  where
    go : (x : Bool) → is_known b ks ≡ x → (y : Bool) → is_full ks ≡ y → pick x (crowded ks ts) (pick y true (crowded (remembered ks b) ts)) ≡ false
        → (is_known b ks ≡ false → is_full ks ≡ false) × (crowded (remembered ks b) ts ≡ false)
    go true e y f h = (λ z. clash (sym e ∙ z), rw (remembered-known ks b e) h)
    go false e true f h = clash h
    go false e false f h = (λ z. f, h)

pub columns-from : (u : List ℕ) (ks : List (List ℕ)) (ts : List Token) → AllLegal 2 ts → crowded ks ts ≡ false → (s : State) → Holds u s ks (numbered ks ts)
    → (t : State) × Draws (columned u) u s ts t × Holds u t (keys_after ks ts) []
unfolding AllLegal Legal LegalValue Draws numbered keys_after crowded columned
columns-from u ks [] a c s h = (s, refl, h)
columns-from u ks (field k v ∷ ts) a c s h =
    let d = field-drawn u s ks v (numbered ks ts) k a.0.0 a.0.1 h in
    let r = columns-from u ks ts a.1 c d.1 d.3 in
    (r.0, (d.0, d.1, d.2, r.1), r.2)
columns-from u ks (text b n ∷ ts) a c s h =
    let d = text-drawn u s ks b n (numbered ks ts) a.0.1 h in
    let r = columns-from u ks ts a.1 c d.1 d.4 in
    (r.0, (d.0, d.1, d.2, d.3, r.1), r.2)
columns-from u ks (var v ∷ ts) a c s h =
    let d = var-drawn u s ks v (numbered ks ts) a.0 h in
    let r = columns-from u ks ts a.1 c d.1 d.3 in
    (r.0, (d.0, d.1, d.2, r.1), r.2)
columns-from u ks (buf b ∷ ts) a c s h =
    let d = buf-drawn u s ks b (numbered ks ts) a.0 h in
    let r = columns-from u ks ts a.1 c d.1 d.4 in
    (r.0, (d.0, d.1, d.2, d.3, r.1), r.2)
columns-from u ks (key b n ∷ ts) a c s h =
    let free = room_for ks b n ts c in
    let d = key-drawn u s ks b n (numbered (remembered ks b) ts) free.0 a.0.1 h in
    let r = columns-from u (remembered ks b) ts a.1 free.1 d.1 d.4 in
    (r.0, (d.0, d.1, d.2, d.3, r.1), r.2)
columns-from u ks (value b ∷ ts) a c s h =
    let d = value-drawn u s ks b (numbered ks ts) (a.0.1 refl) h in
    let r = columns-from u ks ts a.1 c d.1 d.4 in
    (r.0, (d.0, d.1, d.2, d.3, r.1), r.2)
columns-from u ks (values b ∷ ts) a c s h =
    let d = values-drawn u s ks b (numbered ks ts) h in
    let r = columns-from u ks ts a.1 c d.1 d.4 in
    (r.0, (d.0, d.1, d.2, d.3, r.1), r.2)
