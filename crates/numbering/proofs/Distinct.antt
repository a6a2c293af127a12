-- A key finds no room exactly if there are more distinct keys than may be.
use Prim.Native.Nat.{ℕ, suc, ◌+◌, ◌≤◌}
use mathlib.Core.Path.{◌≡◌, refl, sym, ap, ◌∙◌}
use mathlib.Core.Bool.{Bool, true, false, ◌&&◌}
use mathlib.Core.List.{List, [], ◌∷◌, ◌++◌}
use native.Mathlib.Nat.{zero-add}
use native.Mathlib.Omega.{arith}
use lib.Dec.{ltb, eqb}
use lib.ListN.{length, length-append}
use borrow.Author.Tests.{lt-ltb, le-ltb, ltb-true, ltb-false, eq-eqb, eqb-true}
use Rattle.numbers.specs.Number.{pick}
use Rattle.tokens.specs.Tokens.{Token, field, text, var, buf, key, value, values}
use Rattle.decoder.specs.States.{max_keys}
use Rattle.tokens.specs.Keys.{same, number_of, is_known, is_full, remembered, crowded}
use Rattle.tokens.specs.KeysInner.{is_key, keys_in, distinct, distinct_keys}
use Rattle.tokens.proofs.Keys.{by_key, not_key, remembered-new, remembered-le}

-- ---- equal bytes

no : {A : Type 0} → false ≡ true → A
no p = absurd (let z : ◌≡◌ {A = ℕ} 0 1 = cc in omega arith)

same_refl : (b : List ℕ) → same b b ≡ true
unfolding same
same_refl [] = refl
same_refl (x ∷ b) = rw (eq-eqb x x refl) (same_refl b)

same_true : (b c : List ℕ) → same b c ≡ true → b ≡ c
unfolding same
same_true [] [] h = refl
same_true [] (y ∷ c) h = no h
same_true (x ∷ b) [] h = no h
same_true (x ∷ b) (y ∷ c) h = go (eqb x y) refl h (λ g. same_true b c g)
  where
    go : (t : Bool) → eqb x y ≡ t → (t && same b c) ≡ true → (same b c ≡ true → b ≡ c) → x ∷ b ≡ y ∷ c
    go true e h more = rw (eqb-true x y e, more h)
    go false e h more = no h

same-sym : (b c : List ℕ) → same b c ≡ same c b
same-sym b c = go (same b c) (same c b) refl refl
  where
    go : (x y : Bool) → same b c ≡ x → same c b ≡ y → same b c ≡ same c b
    go true true p q = p ∙ sym q
    go false false p q = p ∙ sym q
    go true false p q = no (sym q ∙ ap (λ (d : List ℕ). same c d) (same_true b c p) ∙ same_refl c)
    go false true p q = no (sym p ∙ ap (λ (d : List ℕ). same b d) (same_true c b q) ∙ same_refl b)

-- ---- known among keys

known-cons : (b k : List ℕ) (ks : List (List ℕ)) → is_known b (k ∷ ks) ≡ pick (same b k) true (is_known b ks)
unfolding number_of
known-cons b k ks = go (same b k)
  where
    less : (x : Bool) → ltb (number_of b ks) (length ks) ≡ x → ltb (suc (number_of b ks)) (suc (length ks)) ≡ x
    less true h = let l = ltb-true (number_of b ks) (length ks) h in lt-ltb (suc (number_of b ks)) (suc (length ks)) (omega arith)
    less false h = let l = ltb-false (number_of b ks) (length ks) h in le-ltb (suc (number_of b ks)) (suc (length ks)) (omega arith)

    go : (x : Bool) → ltb (pick x 0 (suc (number_of b ks))) (suc (length ks)) ≡ pick x true (is_known b ks)
    go true = lt-ltb 0 (suc (length ks)) (omega arith)
    go false = less (is_known b ks) refl

known-nil : (b : List ℕ) → is_known b [] ≡ false
unfolding number_of
known-nil b = refl

known-one : (b c : List ℕ) → is_known b (c ∷ []) ≡ same b c
known-one b c = known-cons b c [] ∙ rw known-nil (go (same b c))
  where
    go : (x : Bool) → pick x true false ≡ x
    go true = refl
    go false = refl

known-snoc : (b c : List ℕ) (ks : List (List ℕ)) → is_known b (ks ++ (c ∷ [])) ≡ pick (is_known b ks) true (is_known b (c ∷ []))
known-snoc b c [] = rw known-nil
known-snoc b c (k ∷ ks) = known-cons b k (ks ++ (c ∷ [])) ∙ rw (known-snoc b c ks, known-cons b k ks) (go (same b k))
  where
    go : (x : Bool) → pick x true (pick (is_known b ks) true (is_known b (c ∷ []))) ≡ pick (pick x true (is_known b ks)) true (is_known b (c ∷ []))
    go true = refl
    go false = refl

-- ---- those that are not known

unfoldable fresh : List (List ℕ) → List (List ℕ) → List (List ℕ)
fresh ks [] = []
fresh ks (b ∷ bs) = pick (is_known b ks) (fresh ks bs) (b ∷ fresh ks bs)

fresh-nil : (bs : List (List ℕ)) → fresh [] bs ≡ bs
unfolding fresh
fresh-nil [] = refl
fresh-nil (b ∷ bs) = rw (known-nil b, fresh-nil bs)

fresh-snoc : (ks : List (List ℕ)) (c : List ℕ) (bs : List (List ℕ)) → fresh (ks ++ (c ∷ [])) bs ≡ fresh (c ∷ []) (fresh ks bs)
unfolding fresh
fresh-snoc ks c [] = refl
fresh-snoc ks c (b ∷ bs) = rw (known-snoc b c ks, fresh-snoc ks c bs) (go (is_known b ks))
  where
    go : (x : Bool) → pick (pick x true (is_known b (c ∷ []))) (fresh (c ∷ []) (fresh ks bs)) (b ∷ fresh (c ∷ []) (fresh ks bs))
        ≡ fresh (c ∷ []) (pick x (fresh ks bs) (b ∷ fresh ks bs))
    go true = refl
    go false = refl

-- another key is known among those beside b as among all
fresh-known : (b c : List ℕ) → same c b ≡ false → (bs : List (List ℕ)) → is_known c (fresh (b ∷ []) bs) ≡ is_known c bs
unfolding fresh
fresh-known b c n [] = refl
fresh-known b c n (d ∷ bs) = go (same d b) (known-one d b) (fresh-known b c n bs)
  where
    differ : same d b ≡ true → same c d ≡ false
    differ h = rw (same_true d b h) n

    go : (x : Bool) → is_known d (b ∷ []) ≡ x → is_known c (fresh (b ∷ []) bs) ≡ is_known c bs
        → is_known c (pick (is_known d (b ∷ [])) (fresh (b ∷ []) bs) (d ∷ fresh (b ∷ []) bs)) ≡ is_known c (d ∷ bs)
    go true e more = rw e (more ∙ sym (known-cons c d bs ∙ rw (differ (sym (known-one d b) ∙ e))))
    go false e more = rw e (known-cons c d (fresh (b ∷ []) bs) ∙ rw more (sym (known-cons c d bs)))

distinct-length : (b : List ℕ) (bs : List (List ℕ)) → length (distinct (b ∷ bs)) ≡ pick (is_known b bs) (length (distinct bs)) (suc (length (distinct bs)))
unfolding distinct
distinct-length b bs = go (is_known b bs)
  where
    go : (x : Bool) → length (pick x (distinct bs) (b ∷ distinct bs)) ≡ pick x (length (distinct bs)) (suc (length (distinct bs)))
    go true = refl
    go false = refl

module _ (m f : ℕ) where
  own-case : (y : Bool) → m ≡ pick y (suc f) f → pick y m (suc m) ≡ suc f
  own-case true h = h
  own-case false h = ap suc h

  other-case : (y z : Bool) → m ≡ pick y (suc f) f → pick z m (suc m) ≡ pick y (suc (pick z f (suc f))) (pick z f (suc f))
  other-case true true h = h
  other-case true false h = ap suc h
  other-case false true h = h
  other-case false false h = ap suc h

-- how many distinct ones there are: b, if it is one of them, and the others
many : (b : List ℕ) (bs : List (List ℕ))
    → length (distinct bs) ≡ pick (is_known b bs) (suc (length (distinct (fresh (b ∷ []) bs)))) (length (distinct (fresh (b ∷ []) bs)))
unfolding fresh
many b [] = rw (known-nil b)
many b (c ∷ bs) = go (same c b) refl (many b bs)
  where
    go : (x : Bool) → same c b ≡ x
        → length (distinct bs) ≡ pick (is_known b bs) (suc (length (distinct (fresh (b ∷ []) bs)))) (length (distinct (fresh (b ∷ []) bs)))
        → length (distinct (c ∷ bs)) ≡ pick (is_known b (c ∷ bs)) (suc (length (distinct (fresh (b ∷ []) (c ∷ bs))))) (length (distinct (fresh (b ∷ []) (c ∷ bs))))
    go true e more =
        distinct-length c bs
        ∙ rw (known-cons b c bs, known-one c b, same-sym b c, e) (rw (same_true c b e) (own-case (length (distinct bs)) (length (distinct (fresh (b ∷ []) bs))) (is_known b bs) more))
    go false e more =
        distinct-length c bs
        ∙ rw (known-cons b c bs, known-one c b, same-sym b c, e)
        (rw (distinct-length c (fresh (b ∷ []) bs), fresh-known b c e bs)
        (other-case (length (distinct bs)) (length (distinct (fresh (b ∷ []) bs))) (is_known b bs) (is_known c bs) more))

-- a key more is one more than the others
one_more : (b : List ℕ) (bs : List (List ℕ)) → length (distinct (b ∷ bs)) ≡ suc (length (distinct (fresh (b ∷ []) bs)))
unfolding fresh
one_more b bs =
    let own : is_known b (b ∷ []) ≡ true = known-one b b ∙ same_refl b in
    let known : is_known b (b ∷ bs) ≡ true = known-cons b b bs ∙ rw (same_refl b) in
    many b (b ∷ bs) ∙ rw (known, own)

-- ---- the keys of tokens

keys-other : (t : Token) (ts : List Token) → is_key t ≡ false → keys_in (t ∷ ts) ≡ keys_in ts
unfolding is_key keys_in
keys-other (key b n) ts h = no (sym h)
keys-other (field j v) ts h = refl
keys-other (text b n) ts h = refl
keys-other (var v) ts h = refl
keys-other (buf b) ts h = refl
keys-other (value b) ts h = refl
keys-other (values b) ts h = refl

abbrev Counts : List (List ℕ) → List Token → Type 0
Counts ks ts = crowded ks ts ≡ ltb max_keys (length ks + length (distinct (fresh ks (keys_in ts))))

module _ (ks : List (List ℕ)) (b : List ℕ) (n : ℕ) (ts : List Token) (l : length ks ≤ max_keys) where
  counts-known : is_known b ks ≡ true → Counts ks ts → Counts ks (key b n ∷ ts)
  unfolding crowded keys_in fresh
  counts-known h more = rw h more

  module _ (h : is_known b ks ≡ false) where
    abbrev others : List (List ℕ)
    others = fresh ks (keys_in ts)

    next : length (distinct (fresh ks (keys_in (key b n ∷ ts)))) ≡ suc (length (distinct (fresh (b ∷ []) others)))
    unfolding keys_in fresh
    next = rw h (one_more b others)

    counts-full : is_full ks ≡ true → Counts ks (key b n ∷ ts)
    unfolding crowded
    counts-full f = rw (h, f) (sym (lt-ltb max_keys (length ks + length (distinct (fresh ks (keys_in (key b n ∷ ts))))) (omega (arith, next, full))))
      where
        full : max_keys ≤ length ks
        full = go (ltb (length ks) max_keys) refl f
          where
            go : (x : Bool) → ltb (length ks) max_keys ≡ x → pick x false true ≡ true → max_keys ≤ length ks
            go true e g = no g
            go false e g = ltb-false (length ks) max_keys e

    as_many : length (ks ++ (b ∷ [])) + length (distinct (fresh (ks ++ (b ∷ [])) (keys_in ts)))
        ≡ length ks + length (distinct (fresh ks (keys_in (key b n ∷ ts))))
    as_many = rw (fresh-snoc ks b (keys_in ts)) (omega (arith, next, length-append ks (b ∷ [])))

    counts-new : is_full ks ≡ false → Counts (ks ++ (b ∷ [])) ts → Counts ks (key b n ∷ ts)
    unfolding crowded
    counts-new f more =
        rw (h, f, remembered-new ks b h f) (more ∙ ap (λ (m : ℕ). ltb max_keys m) as_many)

counts-from : (ks : List (List ℕ)) (ts : List Token) → length ks ≤ max_keys → Counts ks ts
unfolding crowded keys_in fresh distinct
counts-from ks [] l = sym (le-ltb max_keys (length ks + 0) (omega arith))
counts-from ks (t ∷ ts) l =
    by_key (λ (t : Token). Counts ks (t ∷ ts)) (λ b n. go b n (is_known b ks) (is_full ks) refl refl (counts-from ks ts l) (counts-from (remembered ks b) ts (remembered-le ks b l)))
    (λ t h. rw ((not_key ks ts t h).2, keys-other t ts h) (counts-from ks ts l)) t
  where
    go : (b : List ℕ) (n : ℕ) (x y : Bool) → is_known b ks ≡ x → is_full ks ≡ y → Counts ks ts → Counts (remembered ks b) ts → Counts ks (key b n ∷ ts)
    go b n true y h f one two = counts-known ks b n ts l h one
    go b n false true h f one two = counts-full ks b n ts l h f
    go b n false false h f one two = counts-new ks b n ts l h f (rw (remembered-new ks b h f) at two)

pub crowded-distinct : (ts : List Token) → crowded [] ts ≡ ltb max_keys (length (distinct_keys ts))
crowded-distinct ts = counts-from [] ts (omega arith) ∙ ap (λ (n : ℕ). ltb max_keys n) (ap (λ (bs : List (List ℕ)). 0 + length (distinct bs)) (fresh-nil (keys_in ts)) ∙ zero-add (length (distinct_keys ts)))
