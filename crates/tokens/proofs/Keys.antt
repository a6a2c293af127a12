-- Keys by number: tokens after tokens, tokens without keys, and what the lanes take of tokens whose keys are numbers.
use Prim.Native.Nat.{ℕ, suc, ◌+◌, ◌-◌, ◌≤◌}
use mathlib.Core.Path.{◌≡◌, refl, sym, ap, ◌∙◌}
use mathlib.Core.Logic.{◌≢◌}
use mathlib.Core.Bool.{Bool, true, false}
use mathlib.Core.List.{List, [], ◌∷◌, ◌++◌, append_assoc}
use native.Mathlib.Omega.{arith}
use lib.Dec.{ltb, eqb}
use lib.ListN.{length, length-append}
use borrow.Author.Tests.{lt-ltb, ltb-true, le-leb}
use Rattle.numbers.specs.Number.{pick}
use Rattle.runs.specs.declared.ColumnKind.TheVariants.{Difference}
use Rattle.runs.specs.Runs.{coding, near_key, spellable}
use Rattle.tokens.specs.Tokens.{Token, field, text, var, buf, key, value, values, keys, texts, units, whole, taken, taken_all, column_in}
use Rattle.decoder.specs.States.{max_keys}
use Rattle.tokens.specs.Keys.{same, number_of, is_known, is_full, remembered, crowded, by_number, numbered}
use Rattle.tokens.specs.KeysInner.{is_key, keyless, keys_after, spelled, known_after}
use Rattle.tokens.proofs.Laying.{pick_same}
use Rattle.tokens.proofs.Taking.{field-own, field-other, text-other, key-other}
use Rattle.tokens.proofs.Passes.{no_bytes}
use Rattle.tokens.proofs.Fitting.{legal, legal_all, size_of, size_all, taken-append, size-append, legal-append}

-- ---- a key, and any other token

module _ (P : Token → Type 0) (own : (b : List ℕ) (n : ℕ) → P (key b n)) (other : (t : Token) → is_key t ≡ false → P t) where
  pub by_key : (t : Token) → P t
  unfolding is_key
  by_key (key b n) = own b n
  by_key (field j v) = other (field j v) refl
  by_key (text b n) = other (text b n) refl
  by_key (var v) = other (var v) refl
  by_key (buf b) = other (buf b) refl
  by_key (value b) = other (value b) refl
  by_key (values b) = other (values b) refl

no : {A : Type 0} → true ≡ false → A
no p = absurd (let z : ◌≡◌ {A = ℕ} 0 1 = cc in omega arith)

module _ (ks : List (List ℕ)) (ts : List Token) where
  abbrev Passed : Token → Type 0
  Passed t = (numbered ks (t ∷ ts) ≡ t ∷ numbered ks ts) × (keys_after ks (t ∷ ts) ≡ keys_after ks ts) × (crowded ks (t ∷ ts) ≡ crowded ks ts)

  pub not_key : (t : Token) → is_key t ≡ false → Passed t
  unfolding is_key numbered keys_after crowded
  not_key (key b n) h = no h
  not_key (field j v) h = (refl, refl, refl)
  not_key (text b n) h = (refl, refl, refl)
  not_key (var v) h = (refl, refl, refl)
  not_key (buf b) h = (refl, refl, refl)
  not_key (value b) h = (refl, refl, refl)
  not_key (values b) h = (refl, refl, refl)

-- ---- the keys known

pub number-le : (b : List ℕ) (ks : List (List ℕ)) → number_of b ks ≤ length ks
unfolding number_of
number-le b [] = omega arith
number-le b (k ∷ ks) = go (same b k) (number-le b ks)
  where
    go : (x : Bool) → number_of b ks ≤ length ks → pick x 0 (suc (number_of b ks)) ≤ suc (length ks)
    go true h = omega arith
    go false h = omega arith

module _ (ks : List (List ℕ)) (b : List ℕ) where
  pub remembered-known : is_known b ks ≡ true → remembered ks b ≡ ks
  unfolding remembered
  remembered-known h = rw h

  pub remembered-full : is_full ks ≡ true → remembered ks b ≡ ks
  unfolding remembered
  remembered-full h = rw h (pick_same (is_known b ks) ks)

  pub remembered-new : is_known b ks ≡ false → is_full ks ≡ false → remembered ks b ≡ ks ++ (b ∷ [])
  unfolding remembered
  remembered-new h f = rw (h, f)

  pub remembered-le : length ks ≤ max_keys → length (remembered ks b) ≤ max_keys
  unfolding remembered
  remembered-le l = go (is_known b ks) (ltb (length ks) max_keys) refl
    where
      go : (x y : Bool) → ltb (length ks) max_keys ≡ y → length (pick x ks (pick (pick y false true) ks (ks ++ (b ∷ [])))) ≤ max_keys
      go true y h = l
      go false true h = let m = ltb-true (length ks) max_keys h in omega (arith, length-append ks (b ∷ []))
      go false false h = l

pub keys-le : (ks : List (List ℕ)) (ts : List Token) → length ks ≤ max_keys → length (keys_after ks ts) ≤ max_keys
unfolding keys_after
keys-le ks [] l = l
keys-le ks (t ∷ ts) l =
    by_key (λ (t : Token). length (keys_after ks (t ∷ ts)) ≤ max_keys) (λ b n. keys-le (remembered ks b) ts (remembered-le ks b l))
    (λ t h. rw (not_key ks ts t h).1 (keys-le ks ts l)) t

-- ---- tokens after tokens

pub numbered-append : (ks : List (List ℕ)) (a c : List Token) → numbered ks (a ++ c) ≡ numbered ks a ++ numbered (keys_after ks a) c
unfolding numbered keys_after
numbered-append ks [] c = refl
numbered-append ks (t ∷ a) c =
    by_key (λ (t : Token). numbered ks (t ∷ (a ++ c)) ≡ numbered ks (t ∷ a) ++ numbered (keys_after ks (t ∷ a)) c)
    (λ b n. rw (numbered-append (remembered ks b) a c) (sym (append_assoc (by_number ks b n) (numbered (remembered ks b) a) (numbered (keys_after (remembered ks b) a) c))))
    (λ t h. rw ((not_key ks (a ++ c) t h).0, (not_key ks a t h).0, (not_key ks a t h).1) (ap (λ (l : List Token). t ∷ l) (numbered-append ks a c))) t

pub keys-append : (ks : List (List ℕ)) (a c : List Token) → keys_after ks (a ++ c) ≡ keys_after (keys_after ks a) c
unfolding keys_after
keys-append ks [] c = refl
keys-append ks (t ∷ a) c =
    by_key (λ (t : Token). keys_after ks (t ∷ (a ++ c)) ≡ keys_after (keys_after ks (t ∷ a)) c) (λ b n. keys-append (remembered ks b) a c)
    (λ t h. rw ((not_key ks (a ++ c) t h).1, (not_key ks a t h).1) (keys-append ks a c)) t

-- a key that finds no room, among the first or among the others
pub crowded-append : (ks : List (List ℕ)) (a c : List Token) → crowded ks (a ++ c) ≡ pick (crowded ks a) true (crowded (keys_after ks a) c)
unfolding crowded keys_after
crowded-append ks [] c = refl
crowded-append ks (t ∷ a) c =
    by_key (λ (t : Token). crowded ks (t ∷ (a ++ c)) ≡ pick (crowded ks (t ∷ a)) true (crowded (keys_after ks (t ∷ a)) c))
    (λ b n. go b (is_known b ks) (is_full ks) refl (crowded-append ks a c) (crowded-append (remembered ks b) a c))
    (λ t h. rw ((not_key ks (a ++ c) t h).2, (not_key ks a t h).2, (not_key ks a t h).1) (crowded-append ks a c)) t
  where
    go : (b : List ℕ) (x y : Bool) → is_known b ks ≡ x → crowded ks (a ++ c) ≡ pick (crowded ks a) true (crowded (keys_after ks a) c)
        → crowded (remembered ks b) (a ++ c) ≡ pick (crowded (remembered ks b) a) true (crowded (keys_after (remembered ks b) a) c)
        → pick x (crowded ks (a ++ c)) (pick y true (crowded (remembered ks b) (a ++ c)))
        ≡ pick (pick x (crowded ks a) (pick y true (crowded (remembered ks b) a))) true (crowded (keys_after (remembered ks b) a) c)
    go b true y h one two = rw (remembered-known ks b h) one
    go b false true h one two = refl
    go b false false h one two = two

-- as a form has them
module _ (form : ℕ) (ks : List (List ℕ)) (a c : List Token) where
  pub spelled-append : spelled form ks (a ++ c) ≡ spelled form ks a ++ spelled form (known_after form ks a) c
  unfolding spelled known_after
  spelled-append = go (eqb form 1)
    where
      go : (x : Bool) → pick x (a ++ c) (numbered ks (a ++ c)) ≡ pick x a (numbered ks a) ++ pick x c (numbered (pick x ks (keys_after ks a)) c)
      go true = refl
      go false = numbered-append ks a c

  pub known-append : known_after form ks (a ++ c) ≡ known_after form (known_after form ks a) c
  unfolding known_after
  known-append = go (eqb form 1)
    where
      go : (x : Bool) → pick x ks (keys_after ks (a ++ c)) ≡ pick x (pick x ks (keys_after ks a)) (keys_after (pick x ks (keys_after ks a)) c)
      go true = refl
      go false = keys-append ks a c

  pub crowd-append : (was : Bool) → pick was true (pick (eqb form 1) false (crowded ks (a ++ c)))
      ≡ pick (pick was true (pick (eqb form 1) false (crowded ks a))) true (pick (eqb form 1) false (crowded (known_after form ks a) c))
  unfolding known_after
  crowd-append was = go was (eqb form 1)
    where
      go : (was x : Bool) → pick was true (pick x false (crowded ks (a ++ c)))
          ≡ pick (pick was true (pick x false (crowded ks a))) true (pick x false (crowded (pick x ks (keys_after ks a)) c))
      go true x = refl
      go false true = refl
      go false false = crowded-append ks a c

-- ---- tokens without keys

keyless-cons : (t : Token) (ts : List Token) → keyless (t ∷ ts) ≡ true → (is_key t ≡ false) × (keyless ts ≡ true)
unfolding keyless
keyless-cons t ts h = go (is_key t) h
  where
    go : (x : Bool) → pick x false (keyless ts) ≡ true → (x ≡ false) × (keyless ts ≡ true)
    go true h = no (sym h)
    go false h = (refl, h)

pub keyless-append : (a c : List Token) → keyless a ≡ true → keyless c ≡ true → keyless (a ++ c) ≡ true
unfolding keyless
keyless-append [] c p q = q
keyless-append (t ∷ a) c p q = let x = keyless-cons t a p in rw x.0 (keyless-append a c x.1 q)

pub keyless-all : (ks : List (List ℕ)) (ts : List Token) → keyless ts ≡ true → (numbered ks ts ≡ ts) × (keys_after ks ts ≡ ks) × (crowded ks ts ≡ false)
unfolding numbered keys_after crowded
keyless-all ks [] h = (refl, refl, refl)
keyless-all ks (t ∷ ts) h =
    let x = keyless-cons t ts h in
    let p = not_key ks ts t x.0 in
    let more = keyless-all ks ts x.1 in
    (p.0 ∙ ap (λ (l : List Token). t ∷ l) more.0, p.1 ∙ more.1, p.2 ∙ more.2)

module _ (form : ℕ) (ks : List (List ℕ)) (ts : List Token) (h : keyless ts ≡ true) where
  pub keyless-spelled : spelled form ks ts ≡ ts
  unfolding spelled
  keyless-spelled = rw (keyless-all ks ts h).0 (pick_same (eqb form 1) ts)

  pub keyless-known : known_after form ks ts ≡ ks
  unfolding known_after
  keyless-known = rw (keyless-all ks ts h).1 (pick_same (eqb form 1) ks)

  pub keyless-crowd : (was : Bool) → pick was true (pick (eqb form 1) false (crowded ks ts)) ≡ was
  keyless-crowd was = rw ((keyless-all ks ts h).2, pick_same (eqb form 1) false) (go was)
    where
      go : (was : Bool) → pick was true false ≡ was
      go true = refl
      go false = refl

-- ---- what lanes take of them

-- a key by its number: the number, and a text if it is new
module _ (k : ℕ) (w : k ≢ whole) (i : k ≢ keys) (t : k ≢ texts) (u : k ≢ units) where
  taken-number : (ks : List (List ℕ)) (b : List ℕ) (n : ℕ) → taken_all k (by_number ks b n) ≡ []
  unfolding by_number taken_all
  taken-number ks b n = rw (field-other k keys (number_of b ks) w i) (go (is_known b ks))
    where
      go : (x : Bool) → taken_all k (pick x [] (text b n ∷ [])) ≡ []
      go true = refl
      go false = rw (text-other k b n w t u)

  pub taken-numbered : (ks : List (List ℕ)) (ts : List Token) → taken_all k (numbered ks ts) ≡ taken_all k ts
  unfolding numbered taken_all
  taken-numbered ks [] = refl
  taken-numbered ks (s ∷ ts) =
      by_key (λ (s : Token). taken_all k (numbered ks (s ∷ ts)) ≡ taken k s ++ taken_all k ts)
      (λ b n. taken-append k (by_number ks b n) (numbered (remembered ks b) ts) ∙ rw (taken-number ks b n, key-other k b n w) (taken-numbered (remembered ks b) ts))
      (λ s h. rw (not_key ks ts s h).0 (ap (λ (l : List ℕ). taken k s ++ l) (taken-numbered ks ts))) s

-- the lane of keys takes numbers
taken-keys : (ks : List (List ℕ)) (b : List ℕ) (n : ℕ) → taken_all keys (by_number ks b n) ≡ number_of b ks ∷ []
unfolding by_number taken_all
taken-keys ks b n = rw (field-own keys keys (number_of b ks) (λ h. absurd (omega arith)) refl) (go (is_known b ks))
  where
    go : (x : Bool) → number_of b ks ∷ taken_all keys (pick x [] (text b n ∷ [])) ≡ number_of b ks ∷ []
    go true = refl
    go false = rw (text-other keys b n (λ h. absurd (omega arith)) (λ h. absurd (omega arith)) (λ h. absurd (omega arith)))

-- no two of them are far from each other
near-keys : (p v : ℕ) (vs : List ℕ) → p ≤ max_keys → v ≤ max_keys → spellable (coding Difference) v vs ≡ true → spellable (coding Difference) p (v ∷ vs) ≡ true
unfolding spellable coding near_key
near-keys p v vs a c h = rw (le-leb 1073741824 (v + 2147483648 - p) (omega arith), lt-ltb (v + 2147483648 - p) 3221225472 (omega arith)) h

near_none : (p : ℕ) → spellable (coding Difference) p [] ≡ true
unfolding spellable
near_none p = refl

pub keys-near-from : (p : ℕ) (ks : List (List ℕ)) (ts : List Token) → p ≤ max_keys → length ks ≤ max_keys → taken_all keys ts ≡ []
    → spellable (coding Difference) p (taken_all keys (numbered ks ts)) ≡ true
unfolding numbered taken_all
keys-near-from p ks [] a l h = near_none p
keys-near-from p ks (t ∷ ts) a l h =
    let none = no_bytes (taken keys t) (taken_all keys ts) h in
    by_key (λ (t : Token). taken keys t ≡ [] → spellable (coding Difference) p (taken_all keys (numbered ks (t ∷ ts))) ≡ true)
    (λ b n e.
    let low : number_of b ks ≤ max_keys = omega (arith, number-le b ks) in
    rw (taken-append keys (by_number ks b n) (numbered (remembered ks b) ts), taken-keys ks b n)
    (near-keys p (number_of b ks) (taken_all keys (numbered (remembered ks b) ts)) a low
    (keys-near-from (number_of b ks) (remembered ks b) ts low (remembered-le ks b l) none.1)))
    (λ t h e. rw ((not_key ks ts t h).0, e) (keys-near-from p ks ts a l none.1)) t none.0

pub keys-near : (ts : List Token) → taken_all keys ts ≡ [] → spellable (coding Difference) 0 (taken_all keys (numbered [] ts)) ≡ true
keys-near ts h = keys-near-from 0 [] ts (omega arith) (omega arith) h

-- ---- what makes them fit

number_size : (ks : List (List ℕ)) (b : List ℕ) (n : ℕ) → size_all (by_number ks b n) ≤ size_of (key b n)
unfolding by_number size_all size_of
number_size ks b n = go (is_known b ks)
  where
    go : (x : Bool) → 10 + size_all (pick x [] (text b n ∷ [])) ≤ 20 + length b
    go true = omega arith
    go false = omega arith

pub size-numbered : (ks : List (List ℕ)) (ts : List Token) → size_all (numbered ks ts) ≤ size_all ts
unfolding numbered size_all
size-numbered ks [] = omega arith
size-numbered ks (t ∷ ts) =
    by_key (λ (t : Token). size_all (numbered ks (t ∷ ts)) ≤ size_of t + size_all ts)
    (λ b n. omega (arith, size-append (by_number ks b n) (numbered (remembered ks b) ts), number_size ks b n, size-numbered (remembered ks b) ts))
    (λ t h. rw (not_key ks ts t h).0 (omega (arith, size-numbered ks ts))) t

number-legal : (ks : List (List ℕ)) (b : List ℕ) (n : ℕ) → length ks ≤ max_keys → legal (key b n) ≡ true → legal_all (by_number ks b n) ≡ true
unfolding by_number legal_all legal column_in coding
number-legal ks b n l h = rw (le-leb (number_of b ks) (coding Difference).most (omega (arith, number-le b ks, l))) (go (is_known b ks))
  where
    go : (x : Bool) → legal_all (pick x [] (text b n ∷ [])) ≡ true
    go true = refl
    go false = rw h

legal-cons : (t : Token) (ts : List Token) → legal_all (t ∷ ts) ≡ true → (legal t ≡ true) × (legal_all ts ≡ true)
unfolding legal_all
legal-cons t ts h = go (legal t) h
  where
    go : (x : Bool) → pick x (legal_all ts) false ≡ true → (x ≡ true) × (legal_all ts ≡ true)
    go true h = (refl, h)
    go false h = no (sym h)

pub legal-numbered : (ks : List (List ℕ)) (ts : List Token) → length ks ≤ max_keys → legal_all ts ≡ true → legal_all (numbered ks ts) ≡ true
unfolding numbered legal_all
legal-numbered ks [] l h = refl
legal-numbered ks (t ∷ ts) l h =
    let x = legal-cons t ts h in
    by_key (λ (t : Token). legal t ≡ true → legal_all (numbered ks (t ∷ ts)) ≡ true)
    (λ b n e. legal-append (by_number ks b n) (numbered (remembered ks b) ts) (number-legal ks b n l e) (legal-numbered (remembered ks b) ts (remembered-le ks b l) x.1))
    (λ t h e. rw ((not_key ks ts t h).0, e) (legal-numbered ks ts l x.1)) t x.0
