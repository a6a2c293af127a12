-- A key written by its number: one that is known is its number again, any other is remembered and its text follows.
use Prim.Native.Nat.{ℕ, ◌≤◌, ◌<◌}
use mathlib.Core.Path.{◌≡◌, refl, sym, ap, ◌∙◌}
use mathlib.Core.Logic.{◌≢◌}
use mathlib.Core.Bool.{Bool, true, false}
use mathlib.Core.List.{List, [], ◌∷◌, ◌++◌, append-nil}
use lib.Dec.{ltb, eqb}
use native.Mathlib.Omega.{arith}
use lib.ListN.{length, get_or}
use borrow.Author.Tests.{lt-ltb, le-ltb, ne_eqb}
use Rattle.numbers.specs.Number.{pick}
use Rattle.text.specs.declared.Part.{Part}
use Rattle.readings.specs.Sound.{bytes_in}
use Rattle.tokens.specs.Tokens.{Token, field, text, key, keys}
use Rattle.decoder.specs.States.{max_keys}
use Rattle.tokens.specs.Keys.{number_of, is_known, is_full, remembered, crowded, by_number, numbered}
use Rattle.tokens.specs.KeysInner.{keys_after, spelled, known_after}
use Rattle.tokens.specs.Lanes.{Lane}
use Rattle.tokens.specs.Desk.{put_tokens, laid_tokens, desk_in, key_count, known_in, crowded_in, Wrote, WroteKeys}
use Rattle.tokens.proofs.Wrote.{each_append, laid-each-append}
use Rattle.tokens.proofs.Keyed.{known-length, known_same, crowd-same, aliased-same}
use Rattle.numbering.specs.Numbering.{Remembers}
use Rattle.numbering.proofs.Noted.{remembers-aliased}

-- ---- a key alone

same-as : (was : Bool) → pick was true false ≡ was
same-as true = refl
same-as false = refl

module _ (form : ℕ) (f : form ≢ 1) (ks : List (List ℕ)) (b : List ℕ) (n : ℕ) where
  two : eqb form 1 ≡ false
  two = ne_eqb form 1 f

  spelled-key : spelled form ks (key b n ∷ []) ≡ by_number ks b n
  unfolding spelled numbered
  spelled-key = rw (two, append-nil)

  known-key : known_after form ks (key b n ∷ []) ≡ remembered ks b
  unfolding known_after keys_after
  known-key = rw two

  crowd-key : (was : Bool) → pick was true (pick (eqb form 1) false (crowded ks (key b n ∷ []))) ≡ pick was true (pick (is_known b ks) false (is_full ks))
  unfolding crowded
  crowd-key was = rw two (ap (λ (x : Bool). pick was true (pick (is_known b ks) false x)) (same-as (is_full ks)))

-- ---- after its number

module _ (u : List ℕ) {form : ℕ} (f : form ≢ 1) (b : List ℕ) (n : ℕ) {out w : List ℕ} {at v : ℕ} {out₁ w₁ : List ℕ}
    (number : v ≡ number_of b (known_in u w)) (first : Wrote form (field keys v ∷ []) out w at out₁ w₁ at) where
  abbrev ks : List (List ℕ)
  ks = known_in u w

  same_known : known_in u w₁ ≡ ks
  same_known = known_same u w w₁ first.keys

  same-crowd : crowded_in w₁ ≡ crowded_in w
  same-crowd = crowd-same u w w₁ first.keys

  pub key-known : v < get_or w 50 0 → WroteKeys u form (key b n ∷ []) out w at out₁ w₁ at
  unfolding by_number remembered key_count
  key-known l =
      let h : is_known b ks ≡ true = lt-ltb (number_of b ks) (length ks) (omega (arith, number, known-length u w)) in
      record {
        desk = first.desk ∙ rw (spelled-key form f ks b n, h, number);
        bytes = first.bytes ∙ rw (spelled-key form f ks b n, h, number);
        tidy = first.tidy;
        known = same_known ∙ rw (known-key form f ks b n, h);
        crowd = same-crowd ∙ sym (crowd-key form f ks b n (crowded_in w) ∙ rw h (same-as (crowded_in w)));
        aliased = aliased-same u w w₁ first.keys first.tidy;
      }

  module _ (l : get_or w 50 0 ≤ v) (p : Part) (e : bytes_in u p ≡ b) {w₂ : List ℕ} (r : Remembers p w₁ w₂) {out₃ w₃ : List ℕ} {at₃ : ℕ}
      (last : Wrote form (text b n ∷ []) out₁ w₂ at out₃ w₃ at₃) where
    new : is_known b ks ≡ false
    unfolding key_count
    new = le-ltb (number_of b ks) (length ks) (omega (arith, number, known-length u w))

    both : spelled form ks (key b n ∷ []) ≡ (field keys v ∷ []) ++ (text b n ∷ [])
    unfolding by_number
    both = spelled-key form f ks b n ∙ rw (new, number)

    same-desk : desk_in form w₂ at ≡ put_tokens (desk_in form w at) (field keys v ∷ [])
    unfolding desk_in
    same-desk = rw r.lanes first.desk

    room : ltb (key_count w₁) max_keys ≡ ltb (length ks) max_keys
    room = ap (λ (m : ℕ). ltb m max_keys) (sym (known-length u w₁) ∙ ap length same_known)

    known_is : known_in u w₂ ≡ remembered ks b
    unfolding remembered
    known_is = r.known u ∙ rw (room, same_known, e, new) (go (ltb (length ks) max_keys))
      where
        go : (x : Bool) → pick x (ks ++ (b ∷ [])) ks ≡ pick (pick x false true) ks (ks ++ (b ∷ []))
        go true = refl
        go false = refl

    crowd-is : crowded_in w₂ ≡ pick (crowded_in w) true (is_full ks)
    crowd-is = r.crowd ∙ rw (room, same-crowd) (go (ltb (length ks) max_keys) (crowded_in w))
      where
        go : (x was : Bool) → pick x was true ≡ pick was true (pick x false true)
        go true true = refl
        go true false = refl
        go false true = refl
        go false false = refl

    pub key-new : WroteKeys u form (key b n ∷ []) out w at out₃ w₃ at₃
    key-new =
        let d = desk_in form w at in
        let x : List Token = field keys v ∷ [] in
        let y : List Token = text b n ∷ [] in
        record {
          desk = last.desk ∙ ap (λ (es : List Lane). put_tokens es y) same-desk ∙ sym (each_append d x y) ∙ rw both;
          bytes =
              last.bytes ∙ ap (λ (es : List Lane). laid_tokens out₁ es y) same-desk
              ∙ ap (λ (o : List ℕ). laid_tokens o (put_tokens d x) y) first.bytes ∙ sym (laid-each-append out d x y) ∙ rw both;
          tidy = last.tidy;
          known = known_same u w₂ w₃ last.keys ∙ known_is ∙ sym (known-key form f ks b n);
          crowd = crowd-same u w₂ w₃ last.keys ∙ crowd-is ∙ sym (crowd-key form f ks b n (crowded_in w) ∙ rw new);
          aliased = λ a. aliased-same u w₂ w₃ last.keys last.tidy (remembers-aliased u r (aliased-same u w w₁ first.keys first.tidy a));
        }
