-- What the lanes take of tokens that can be written, their keys by number: values that their columns do not refuse, and texts that are whole.
use Prim.Native.Nat.{ℕ, suc, ◌≤◌}
use mathlib.Core.Path.{◌≡◌, refl}
use mathlib.Core.Logic.{◌⊎◌, inl, inr, ◌≢◌}
use mathlib.Core.Bool.{Bool, true, false}
use mathlib.Core.List.{List, [], ◌∷◌, ◌++◌, append-nil}
use native.Mathlib.Omega.{arith}
use lib.Dec.{eqb}
use lib.ListN.{length}
use borrow.Author.Tests.{eqb-true, eqb-false, le-leb}
use Rattle.numbers.specs.Number.{pick}
use Rattle.numbers.specs.Limits.{max_value}
use Rattle.runs.specs.Runs.{within}
use Rattle.string.proofs.TextTrip.{joined, units_each, Formed}
use Rattle.decoder.specs.States.{max_keys}
use Rattle.tokens.specs.Tokens.{Token, field, text, var, buf, key, value, values, taken, taken_all, in_line, keys, texts, units, rest, whole}
use Rattle.tokens.specs.Keys.{number_of, is_known, remembered, by_number, numbered}
use Rattle.tokens.proofs.Taking.{in-line, in-texts, in_rest, field-own, field-other, text-units, text-other, var-other, buf-other, value-other, values_other}
use Rattle.tokens.proofs.Fitting.{taken-append}
use Rattle.tokens.proofs.Keys.{number-le, remembered-le}
use Rattle.draws.specs.Draws.{most, LegalText, Legal, AllLegal}
use Rattle.draws.proofs.Fields.{by_field}

-- ---- columns of numbers

-- within m, and at most n of them
abbrev Fit : ℕ → List ℕ → ℕ → Type 0
Fit m vs n = (within m vs ≡ true) × (length vs ≤ n)

-- nothing, or one value within m
abbrev One : ℕ → List ℕ → Type 0
One m vs = (vs ≡ []) ⊎ ((v : ℕ) × (vs ≡ v ∷ []) × (v ≤ m))

one_more : (m n : ℕ) (x y : List ℕ) → One m x → Fit m y n → Fit m (x ++ y) (suc n)
unfolding within
one_more m n x y (inl e) h = rw e (h.0, omega arith)
one_more m n x y (inr (v, e, l)) h = rw (e, le-leb v m l) (h.0, omega arith)

module _ (k m : ℕ) (column : in_line k ≡ false) (limit : most k ≤ m) (limit-units : k ≡ units → max_value ≤ m) (limit-keys : k ≡ keys → max_keys ≤ m) where
  not-in-line : in_line k ≡ true → ⊥
  not-in-line e = let z : ◌≡◌ {A = ℕ} 0 1 = cc in omega arith

  w : k ≢ whole
  w e = not-in-line (in-line k e)

  t : k ≢ texts
  t e = not-in-line (in-texts k e)

  r : k ≢ rest
  r e = not-in-line (in_rest k e)

  field-one : (j v : ℕ) → (k ≡ j → v ≤ m) → One m (taken k (field j v))
  field-one j v h = go (eqb k j) refl
    where
      go : (x : Bool) → eqb k j ≡ x → One m (taken k (field j v))
      go true e = inr (v, field-own k j v w (eqb-true k j e), h (eqb-true k j e))
      go false e = inl (field-other k j v w (eqb-false k j e))

  text-one : (b : List ℕ) (n : ℕ) → LegalText b n → One m (taken k (text b n))
  text-one b n h = go (eqb k units) refl
    where
      go : (x : Bool) → eqb k units ≡ x → One m (taken k (text b n))
      go true e = inr (n, text-units k b n w t (eqb-true k units e), omega (arith, limit-units (eqb-true k units e), h.2))
      go false e = inl (text-other k b n w t (eqb-false k units e))

  -- the lane of keys takes its number, and the lane of units its units
  number-one : (ks : List (List ℕ)) (b : List ℕ) (n : ℕ) → length ks ≤ max_keys → LegalText b n → One m (taken_all k (by_number ks b n))
  unfolding by_number taken_all
  number-one ks b n l h = go (eqb k keys) refl (is_known b ks)
    where
      v : ℕ
      v = number_of b ks

      go : (x : Bool) → eqb k keys ≡ x → (y : Bool) → One m (taken k (field keys v) ++ taken_all k (pick y [] (text b n ∷ [])))
      go true e true =
          let own : k ≡ keys = eqb-true k keys e in
          inr (v, rw (field-own k keys v w own), omega (arith, number-le b ks, limit-keys own))
      go true e false =
          let own : k ≡ keys = eqb-true k keys e in
          inr (v, rw (field-own k keys v w own, text-other k b n w t (λ e. omega arith)), omega (arith, number-le b ks, limit-keys own))
      go false e true = rw (field-other k keys v w (eqb-false k keys e)) (inl refl)
      go false e false = rw (field-other k keys v w (eqb-false k keys e), append-nil (taken k (text b n))) (text-one b n h)

  pub values-fit : (ks : List (List ℕ)) (ts : List Token) → length ks ≤ max_keys → AllLegal 2 ts → Fit m (taken_all k (numbered ks ts)) (length ts)
  unfolding AllLegal Legal taken_all numbered within
  values-fit ks [] l a = (refl, omega arith)
  values-fit ks (field j v ∷ ts) l a =
      one_more m (length ts) (taken k (field j v)) (taken_all k (numbered ks ts)) (field-one j v (λ e. let y : v ≤ most k = rw e a.0.1 in omega arith))
      (values-fit ks ts l a.1)
  values-fit ks (text b n ∷ ts) l a = one_more m (length ts) (taken k (text b n)) (taken_all k (numbered ks ts)) (text-one b n a.0) (values-fit ks ts l a.1)
  values-fit ks (var v ∷ ts) l a = one_more m (length ts) (taken k (var v)) (taken_all k (numbered ks ts)) (inl (var-other k v w r)) (values-fit ks ts l a.1)
  values-fit ks (buf b ∷ ts) l a = one_more m (length ts) (taken k (buf b)) (taken_all k (numbered ks ts)) (inl (buf-other k b w r)) (values-fit ks ts l a.1)
  values-fit ks (key b n ∷ ts) l a =
      let more : List Token = numbered (remembered ks b) ts in
      rw (taken-append k (by_number ks b n) more)
      (one_more m (length ts) (taken_all k (by_number ks b n)) (taken_all k more) (number-one ks b n l a.0) (values-fit (remembered ks b) ts (remembered-le ks b l) a.1))
  values-fit ks (value b ∷ ts) l a = one_more m (length ts) (taken k (value b)) (taken_all k (numbered ks ts)) (inl (value-other k b w r)) (values-fit ks ts l a.1)
  values-fit ks (values b ∷ ts) l a = one_more m (length ts) (taken k (values b)) (taken_all k (numbered ks ts)) (inl (values_other k b w r)) (values-fit ks ts l a.1)

-- no token but a key by number is one of the lane of keys
pub no_keys : (form : ℕ) (ts : List Token) → AllLegal form ts → taken_all keys ts ≡ []
unfolding AllLegal Legal taken_all taken
no_keys form [] a = refl
no_keys form (field k v ∷ ts) a =
    let none = by_field (λ j. taken keys (field j v) ≡ []) refl refl refl refl refl refl refl k a.0.0 in
    rw none (no_keys form ts a.1)
no_keys form (text b n ∷ ts) a = no_keys form ts a.1
no_keys form (var v ∷ ts) a = no_keys form ts a.1
no_keys form (buf b ∷ ts) a = no_keys form ts a.1
no_keys form (key b n ∷ ts) a = no_keys form ts a.1
no_keys form (value b ∷ ts) a = no_keys form ts a.1
no_keys form (values b ∷ ts) a = no_keys form ts a.1

-- ---- texts

-- the texts among the tokens
unfoldable pub texts_of : List Token → List (List ℕ)
texts_of [] = []
texts_of (field k v ∷ ts) = texts_of ts
texts_of (text b n ∷ ts) = b ∷ texts_of ts
texts_of (var v ∷ ts) = texts_of ts
texts_of (buf b ∷ ts) = texts_of ts
texts_of (key b n ∷ ts) = texts_of ts
texts_of (value b ∷ ts) = texts_of ts
texts_of (values b ∷ ts) = texts_of ts

-- they are what the two lanes of texts take
pub record Texted (ts : List Token) : Type 0 where
  pub formed : Formed (texts_of ts)
  pub bytes : joined (texts_of ts) ≡ taken_all texts ts
  pub units : units_each (texts_of ts) ≡ taken_all units ts

text-more : (b : List ℕ) (n : ℕ) (ts : List Token) → LegalText b n → Texted ts → Texted (text b n ∷ ts)
unfolding texts_of taken_all taken joined units_each
text-more b n ts a h = record { formed = (a.0, h.formed); bytes = rw h.bytes; units = rw (a.1, h.units) }

-- a number of the lane of keys is none of them
number_more : (v : ℕ) (ts : List Token) → Texted ts → Texted (field keys v ∷ ts)
unfolding texts_of taken_all taken
number_more v ts h = record { formed = h.formed; bytes = h.bytes; units = h.units }

pub texted : (ks : List (List ℕ)) (ts : List Token) → AllLegal 2 ts → Texted (numbered ks ts)
unfolding AllLegal Legal by_number numbered texts_of taken_all taken joined units_each
texted ks [] a = record { formed = tt; bytes = refl; units = refl }
texted ks (field k v ∷ ts) a =
    let h = texted ks ts a.1 in
    let none-bytes = by_field (λ j. taken texts (field j v) ≡ []) refl refl refl refl refl refl refl k a.0.0 in
    let none-units = by_field (λ j. taken units (field j v) ≡ []) refl refl refl refl refl refl refl k a.0.0 in
    record { formed = h.formed; bytes = rw none-bytes h.bytes; units = rw none-units h.units }
texted ks (text b n ∷ ts) a = text-more b n (numbered ks ts) a.0 (texted ks ts a.1)
texted ks (var v ∷ ts) a = let h = texted ks ts a.1 in record { formed = h.formed; bytes = h.bytes; units = h.units }
texted ks (buf b ∷ ts) a = let h = texted ks ts a.1 in record { formed = h.formed; bytes = h.bytes; units = h.units }
texted ks (key b n ∷ ts) a = go (is_known b ks) (texted (remembered ks b) ts a.1)
  where
    more : List Token
    more = numbered (remembered ks b) ts

    go : (x : Bool) → Texted more → Texted (field keys (number_of b ks) ∷ (pick x [] (text b n ∷ []) ++ more))
    go true h = number_more (number_of b ks) more h
    go false h = number_more (number_of b ks) (text b n ∷ more) (text-more b n more a.0 h)
texted ks (value b ∷ ts) a = let h = texted ks ts a.1 in record { formed = h.formed; bytes = h.bytes; units = h.units }
texted ks (values b ∷ ts) a = let h = texted ks ts a.1 in record { formed = h.formed; bytes = h.bytes; units = h.units }
