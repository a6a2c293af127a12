-- Keys in words: which are known, that writers of tokens without keys leave them, and what is written composes where there are keys.
use Prim.Native.Nat.{ℕ, zero, suc, ◌+◌, ◌*◌, ◌≤◌}
use mathlib.Core.Path.{◌≡◌, refl, sym, ap, subst, ◌∙◌}
use mathlib.Core.Bool.{Bool, true, false}
use mathlib.Core.List.{List, [], ◌++◌}
use native.Mathlib.Omega.{arith}
use lib.ListN.{length, get_or}
use borrow.Author.Tests.{eq-eqb}
use Rattle.numbers.specs.Number.{pick}
use Rattle.tokens.specs.Tokens.{Token}
use Rattle.decoder.specs.States.{max_keys}
use Rattle.tokens.specs.KeysInner.{keyless, spelled, known_after}
use Rattle.tokens.specs.Lanes.{Lane}
use Rattle.tokens.specs.Desk.{put_tokens, laid_tokens, desk_in, key_count, key_at, known_from, known_in, crowded_in, alias_count, alias_at, alias_number, Tidy, Aliased, SameKeys, Wrote, WroteKeys}
use Rattle.tokens.proofs.Wrote.{each_append, laid-each-append, wrote_none}
use Rattle.tokens.proofs.Keys.{spelled-append, known-append, crowd-append, keyless-spelled, keyless-known, keyless-crowd}

-- ---- the keys known

from-length : (u w : List ℕ) (i n : ℕ) → length (known_from u w i n) ≡ n
unfolding known_from
from-length u w i zero = refl
from-length u w i (suc n) = ap suc (from-length u w (suc i) n)

pub known-length : (u w : List ℕ) → length (known_in u w) ≡ key_count w
unfolding known_in
known-length u w = from-length u w 0 (key_count w)

pub known-le : (u w : List ℕ) → Tidy w → length (known_in u w) ≤ max_keys
known-le u w t = rw (known-length u w) t.keys

-- words that have the same keys
module _ (u w w₁ : List ℕ) (s : SameKeys w w₁) where
  from-same : (i n : ℕ) → known_from u w₁ i n ≡ known_from u w i n
  unfolding known_from key_at
  from-same i zero = refl
  from-same i (suc n) = rw (s (52 + 2 * i) (omega arith), s (53 + 2 * i) (omega arith), from-same (suc i) n)

  pub known_same : known_in u w₁ ≡ known_in u w
  unfolding known_in key_count
  known_same = rw (s 50 (omega arith)) (from-same 0 (get_or w 50 0))

  pub crowd-same : crowded_in w₁ ≡ crowded_in w
  unfolding crowded_in
  crowd-same = rw (s 51 (omega arith))

  pub aliased-same : Tidy w₁ → Aliased u w → Aliased u w₁
  unfolding key_count alias_count alias_at alias_number
  aliased-same t a =
      let many = s 564 (omega arith) in
      record {
        tidy = t;
        few = rw many a.few;
        known = λ i l. rw (s (567 + 3 * i) (omega arith), s 50 (omega arith)) (a.known i (rw many at l));
        right = λ i l.
            rw (s (565 + 3 * i) (omega arith), s (566 + 3 * i) (omega arith), s (567 + 3 * i) (omega arith), known_same) (a.right i (rw many at l));
      }

-- words that have none
pub known-none : (u w : List ℕ) → key_count w ≡ 0 → known_in u w ≡ []
unfolding known_in known_from
known-none u w h = rw h

pub crowd-none : (w : List ℕ) → get_or w 51 0 ≡ 0 → crowded_in w ≡ false
unfolding crowded_in
crowd-none w h = rw h

pub aliased-none : (u w : List ℕ) → Tidy w → alias_count w ≡ 0 → Aliased u w
aliased-none u w t h = record { tidy = t; few = omega (arith, h); known = λ i l. absurd (omega (arith, h)); right = λ i l. absurd (omega (arith, h)) }

same-crowd : (was : Bool) → pick was true false ≡ was
same-crowd true = refl
same-crowd false = refl

module _ (form : ℕ) (ks : List (List ℕ)) (ts : List Token) (f : form ≡ 1) where
  line-spelled : spelled form ks ts ≡ ts
  unfolding spelled
  line-spelled = rw (eq-eqb form 1 f)

  line_known : known_after form ks ts ≡ ks
  unfolding known_after
  line_known = rw (eq-eqb form 1 f)

-- ---- writers one after the other

module _ {u : List ℕ} {form : ℕ} {out w : List ℕ} {at : ℕ} where
  -- of tokens without keys
  pub wrote-keys : {ts : List Token} {out₁ w₁ : List ℕ} {at₁ : ℕ} → keyless ts ≡ true → Wrote form ts out w at out₁ w₁ at₁ → WroteKeys u form ts out w at out₁ w₁ at₁
  wrote-keys {ts} {out₁} {w₁} h k =
      let ks = known_in u w in
      record {
        desk = rw (keyless-spelled form ks ts h) k.desk;
        bytes = rw (keyless-spelled form ks ts h) k.bytes;
        tidy = k.tidy;
        known = known_same u w w₁ k.keys ∙ sym (keyless-known form ks ts h);
        crowd = crowd-same u w w₁ k.keys ∙ sym (keyless-crowd form ks ts h (crowded_in w));
        aliased = aliased-same u w w₁ k.keys k.tidy;
      }

  -- form 1 has keys in line
  pub wrote-keys-line : {ts : List Token} {out₁ w₁ : List ℕ} {at₁ : ℕ} → form ≡ 1 → Wrote form ts out w at out₁ w₁ at₁ → WroteKeys u form ts out w at out₁ w₁ at₁
  wrote-keys-line {ts} {out₁} {w₁} f k =
      let ks = known_in u w in
      record {
        desk = rw (line-spelled form ks ts f) k.desk;
        bytes = rw (line-spelled form ks ts f) k.bytes;
        tidy = k.tidy;
        known = known_same u w w₁ k.keys ∙ sym (line_known form ks ts f);
        crowd = crowd-same u w w₁ k.keys ∙ rw (eq-eqb form 1 f) (sym (same-crowd (crowded_in w)));
        aliased = aliased-same u w w₁ k.keys k.tidy;
      }

  pub wrote-keys-then : {a b : List Token} {out₁ w₁ out₂ w₂ : List ℕ} {at₁ at₂ : ℕ} → WroteKeys u form a out w at out₁ w₁ at₁
      → WroteKeys u form b out₁ w₁ at₁ out₂ w₂ at₂ → WroteKeys u form (a ++ b) out w at out₂ w₂ at₂
  wrote-keys-then {a} {b} {out₁} {w₁} h k =
      let ks = known_in u w in
      let d = desk_in form w at in
      let x = spelled form ks a in
      let y = spelled form (known_after form ks a) b in
      let z : spelled form (known_in u w₁) b ≡ y = ap (λ (l : List (List ℕ)). spelled form l b) h.known in
      record {
        desk =
            k.desk ∙ ap (λ (es : List Lane). put_tokens es (spelled form (known_in u w₁) b)) h.desk ∙ ap (λ (ts : List Token). put_tokens (put_tokens d x) ts) z
            ∙ sym (each_append d x y) ∙ ap (λ (ts : List Token). put_tokens d ts) (sym (spelled-append form ks a b));
        bytes =
            k.bytes ∙ ap (λ (es : List Lane). laid_tokens out₁ es (spelled form (known_in u w₁) b)) h.desk
            ∙ ap (λ (o : List ℕ). laid_tokens o (put_tokens d x) (spelled form (known_in u w₁) b)) h.bytes
            ∙ ap (λ (ts : List Token). laid_tokens (laid_tokens out d x) (put_tokens d x) ts) z ∙ sym (laid-each-append out d x y)
            ∙ ap (λ (ts : List Token). laid_tokens out d ts) (sym (spelled-append form ks a b));
        tidy = k.tidy;
        known = k.known ∙ ap (λ (l : List (List ℕ)). known_after form l b) h.known ∙ sym (known-append form ks a b);
        crowd = k.crowd ∙ rw (h.crowd, h.known) (sym (crowd-append form ks a b (crowded_in w)));
        aliased = λ a. k.aliased (h.aliased a);
      }

  -- the tokens under another name
  pub wrote-keys-is : {a b : List Token} {out₁ w₁ : List ℕ} {at₁ : ℕ} → b ≡ a → WroteKeys u form a out w at out₁ w₁ at₁ → WroteKeys u form b out w at out₁ w₁ at₁
  wrote-keys-is {out₁ = out₁} {w₁ = w₁} {at₁ = at₁} e h = subst (λ (ts : List Token). WroteKeys u form ts out w at out₁ w₁ at₁) (sym e) h

  pub wrote-keys-none : Tidy w → WroteKeys u form [] out w at out w at
  unfolding keyless
  wrote-keys-none tidy = wrote-keys refl (wrote_none tidy)
