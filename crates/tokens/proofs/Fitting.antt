-- What makes every lane of a token list fit, token by token: values within their columns' limits, and sizes that stay far from the brim.
use Prim.Native.Nat.{ℕ, ◌+◌, ◌*◌, ◌≤◌, ◌<◌}
use mathlib.Core.Path.{◌≡◌, refl}
use mathlib.Core.List.{List, [], ◌∷◌, ◌++◌, append_assoc}
use mathlib.Core.Bool.{Bool, true, false}
use native.Mathlib.Nat.{add_assoc}
use native.Mathlib.Omega.{arith}
use lib.Dec.{eqb, leb}
use lib.ListN.{length, length-append}
use borrow.Author.Tests.{eqb-true}
use Rattle.numbers.specs.Number.{pick, unsigned}
use Rattle.numbers.proofs.Laws.{unsigned-le}
use Rattle.runs.specs.Runs.{coding, within}
use Rattle.tokens.specs.Tokens.{Token, field, text, var, buf, key, value, values, infos, texts, units, rest, whole, led, inlined, taken, taken_all, in_line, column_in}
use Rattle.parts.specs.Brim.{brim}
use Rattle.tokens.proofs.Parts.{led-length}
use Rattle.tokens.proofs.Taking.{in-line, in-texts, in_rest}
use Rattle.tokens.proofs.Written.{Fits}

-- a value is one of its column's
unfoldable pub legal : Token → Bool
legal (field j v) = leb v (coding (column_in j)).most
legal (text b n) = leb n (coding (column_in units)).most
legal (var v) = true
legal (buf b) = true
legal (key b n) = leb n (coding (column_in units)).most
legal (value b) = true
legal (values b) = true

unfoldable pub legal_all : List Token → Bool
legal_all [] = true
legal_all (t ∷ ts) = pick (legal t) (legal_all ts) false

-- no lane takes more of a token; a key may be a number and a text
unfoldable pub size_of : Token → ℕ
size_of (field j v) = 10
size_of (text b n) = 10 + length b
size_of (var v) = 10
size_of (buf b) = 10 + length b
size_of (key b n) = 20 + length b
size_of (value b) = 10 + length b
size_of (values b) = 10 + length b

unfoldable pub size_all : List Token → ℕ
size_all [] = 0
size_all (t ∷ ts) = size_of t + size_all ts

-- ---- lists of tokens

pub taken-append : (k : ℕ) (a b : List Token) → taken_all k (a ++ b) ≡ taken_all k a ++ taken_all k b
unfolding taken_all
taken-append k [] b = refl
taken-append k (t ∷ a) b = rw (taken-append k a b, append_assoc)

pub size-append : (a b : List Token) → size_all (a ++ b) ≡ size_all a + size_all b
unfolding size_all
size-append [] b = omega arith
size-append (t ∷ a) b = rw (size-append a b, add_assoc)

pub legal-append : (a b : List Token) → legal_all a ≡ true → legal_all b ≡ true → legal_all (a ++ b) ≡ true
unfolding legal_all
legal-append [] b p q = q
legal-append (t ∷ a) b p q = go (legal t) p (λ h. legal-append a b h q)
  where
    go : (x : Bool) → pick x (legal_all a) false ≡ true → (legal_all a ≡ true → legal_all (a ++ b) ≡ true) → pick x (legal_all (a ++ b)) false ≡ true
    go true p more = more p
    go false p more = p

-- ---- sizes

inlined-le : (k v : ℕ) → length (inlined k v) ≤ 10
unfolding inlined
inlined-le k v = go (eqb k infos)
  where
    go : (x : Bool) → length (pick x (v ∷ []) (unsigned v)) ≤ 10
    go true = omega arith
    go false = unsigned-le v

led-le : (b : List ℕ) → length (led b) ≤ 10 + length b
led-le b = omega (arith, led-length b, unsigned-le (length b))

pick-le : (x : Bool) (a b : List ℕ) (n : ℕ) → length a ≤ n → length b ≤ n → length (pick x a b) ≤ n
pick-le true a b n p q = p
pick-le false a b n p q = q

pub taken-le : (k : ℕ) (t : Token) → length (taken k t) ≤ size_of t
unfolding taken size_of
taken-le k (field j v) =
    pick-le (eqb k whole) (inlined j v) (pick (eqb k j) (v ∷ []) []) 10 (inlined-le j v)
    (pick-le (eqb k j) (v ∷ []) [] 10 (omega arith) (omega arith))
taken-le k (text b n) =
    pick-le (eqb k whole) (led b) (pick (eqb k texts) b (pick (eqb k units) (n ∷ []) [])) (10 + length b) (led-le b)
    (pick-le (eqb k texts) b (pick (eqb k units) (n ∷ []) []) (10 + length b) (omega arith)
    (pick-le (eqb k units) (n ∷ []) [] (10 + length b) (omega arith) (omega arith)))
taken-le k (var v) =
    pick-le (eqb k whole) (unsigned v) (pick (eqb k rest) (unsigned v) []) 10 (unsigned-le v)
    (pick-le (eqb k rest) (unsigned v) [] 10 (unsigned-le v) (omega arith))
taken-le k (buf b) =
    pick-le (eqb k whole) (led b) (pick (eqb k rest) (led b) []) (10 + length b) (led-le b)
    (pick-le (eqb k rest) (led b) [] (10 + length b) (led-le b) (omega arith))
taken-le k (key b n) = pick-le (eqb k whole) (led b) [] (20 + length b) (omega (arith, led-le b)) (omega arith)
taken-le k (value b) =
    pick-le (eqb k whole) (led b) (pick (eqb k rest) b []) (10 + length b) (led-le b)
    (pick-le (eqb k rest) b [] (10 + length b) (omega arith) (omega arith))
taken-le k (values b) =
    pick-le (eqb k whole) b (pick (eqb k rest) b []) (10 + length b) (omega arith)
    (pick-le (eqb k rest) b [] (10 + length b) (omega arith) (omega arith))

pub taken_all-le : (k : ℕ) (ts : List Token) → length (taken_all k ts) ≤ size_all ts
unfolding taken_all size_all
taken_all-le k [] = omega arith
taken_all-le k (t ∷ ts) = omega (arith, length-append (taken k t) (taken_all k ts), taken-le k t, taken_all-le k ts)

-- ---- limits

not-both : {A : Type 0} (x : Bool) → x ≡ true → x ≡ false → A
not-both x p q = absurd (let z : ◌≡◌ {A = ℕ} 0 1 = cc in omega arith)

within-append : (m : ℕ) (a b : List ℕ) → within m a ≡ true → within m b ≡ true → within m (a ++ b) ≡ true
unfolding within
within-append m [] b p q = q
within-append m (v ∷ a) b p q = go (leb v m) p (λ h. within-append m a b h q)
  where
    go : (x : Bool) → pick x (within m a) false ≡ true → (within m a ≡ true → within m (a ++ b) ≡ true) → pick x (within m (a ++ b)) false ≡ true
    go true p more = more p
    go false p more = p

module _ (k : ℕ) (i : in_line k ≡ false) where
  abbrev Fine : List ℕ → Type 0
  Fine b = within (coding (column_in k)).most b ≡ true

  -- bytes that only lanes in line take
  only-line : (j : ℕ) → (k ≡ j → in_line k ≡ true) → (b c : List ℕ) → Fine c → Fine (pick (eqb k j) b c)
  only-line j line b c h = go (eqb k j) refl
    where
      go : (x : Bool) → eqb k j ≡ x → Fine (pick x b c)
      go true e = not-both (in_line k) (line (eqb-true k j e)) i
      go false e = h

  none : Fine []
  unfolding within
  none = refl

  own : (j v : ℕ) → leb v (coding (column_in j)).most ≡ true → Fine (pick (eqb k j) (v ∷ []) [])
  unfolding within
  own j v h = go (eqb k j) refl
    where
      go : (x : Bool) → eqb k j ≡ x → Fine (pick x (v ∷ []) [])
      go true e = rw (eqb-true k j e, h)
      go false e = refl

  legal-taken : (t : Token) → legal t ≡ true → Fine (taken k t)
  unfolding legal taken
  legal-taken (field j v) h = only-line whole (in-line k) (inlined j v) (pick (eqb k j) (v ∷ []) []) (own j v h)
  legal-taken (text b n) h =
      only-line whole (in-line k) (led b) (pick (eqb k texts) b (pick (eqb k units) (n ∷ []) []))
      (only-line texts (in-texts k) b (pick (eqb k units) (n ∷ []) []) (own units n h))
  legal-taken (var v) h = only-line whole (in-line k) (unsigned v) (pick (eqb k rest) (unsigned v) []) (only-line rest (in_rest k) (unsigned v) [] none)
  legal-taken (buf b) h = only-line whole (in-line k) (led b) (pick (eqb k rest) (led b) []) (only-line rest (in_rest k) (led b) [] none)
  legal-taken (key b n) h = only-line whole (in-line k) (led b) [] none
  legal-taken (value b) h = only-line whole (in-line k) (led b) (pick (eqb k rest) b []) (only-line rest (in_rest k) b [] none)
  legal-taken (values b) h = only-line whole (in-line k) b (pick (eqb k rest) b []) (only-line rest (in_rest k) b [] none)

  legal-within : (ts : List Token) → legal_all ts ≡ true → Fine (taken_all k ts)
  unfolding legal_all taken_all
  legal-within [] h = none
  legal-within (t ∷ ts) h = go (legal t) refl h (λ p. legal-within ts p)
    where
      go : (x : Bool) → legal t ≡ x → pick x (legal_all ts) false ≡ true → (legal_all ts ≡ true → Fine (taken_all k ts)) → Fine (taken k t ++ taken_all k ts)
      go true e h more = within-append (coding (column_in k)).most (taken k t) (taken_all k ts) (legal-taken t e) (more h)
      go false e h more = not-both false h refl

-- every lane of them fits
pub fits_all : (k at : ℕ) (ts : List Token) → legal_all ts ≡ true → at + 21 * size_all ts < brim → Fits k at ts
fits_all k at ts l h = record { legal = λ i. legal-within k i ts l; low = omega (arith, h, taken_all-le k ts) }
