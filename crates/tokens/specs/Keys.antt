-- Keys by number, as form 2 has them: a key that was written is its number again, any other takes the next number and its text follows. Equal means
-- equal bytes. No more keys than form 2 may have are remembered.
use Rattle.std.specs.Prelude.{ℕ, suc, Bool, true, false, ◌&&◌, List, [], ◌∷◌, ◌++◌, ltb, eqb, length}
use Rattle.numbers.specs.Number.{pick}
use Rattle.decoder.specs.States.{max_keys}
use Rattle.tokens.specs.Tokens.{Token, field, text, var, buf, key, value, values, keys}

unfoldable pub same : List ℕ → List ℕ → Bool
same [] [] = true
same [] (c ∷ d) = false
same (b ∷ e) [] = false
same (b ∷ e) (c ∷ d) = eqb b c && same e d

-- ---- the keys known, in the order of their numbers

-- the number of a key: the next one, if it is not known
unfoldable pub number_of : List ℕ → List (List ℕ) → ℕ
number_of b [] = 0
number_of b (k ∷ ks) = pick (same b k) 0 (suc (number_of b ks))

abbrev pub is_known : List ℕ → List (List ℕ) → Bool
is_known b ks = ltb (number_of b ks) (length ks)

abbrev pub is_full : List (List ℕ) → Bool
is_full ks = pick (ltb (length ks) max_keys) false true

unfoldable pub remembered : List (List ℕ) → List ℕ → List (List ℕ)
remembered ks b = pick (is_known b ks) ks (pick (is_full ks) ks (ks ++ (b ∷ [])))

-- one of these keys finds no room
unfoldable pub crowded : List (List ℕ) → List Token → Bool
crowded ks [] = false
crowded ks (key b n ∷ ts) = pick (is_known b ks) (crowded ks ts) (pick (is_full ks) true (crowded (remembered ks b) ts))
crowded ks (field j v ∷ ts) = crowded ks ts
crowded ks (text b n ∷ ts) = crowded ks ts
crowded ks (var v ∷ ts) = crowded ks ts
crowded ks (buf b ∷ ts) = crowded ks ts
crowded ks (value b ∷ ts) = crowded ks ts
crowded ks (values b ∷ ts) = crowded ks ts

-- ---- tokens with their keys by number

unfoldable pub by_number : List (List ℕ) → List ℕ → ℕ → List Token
by_number ks b n = field keys (number_of b ks) ∷ pick (is_known b ks) [] (text b n ∷ [])

unfoldable pub numbered : List (List ℕ) → List Token → List Token
numbered ks [] = []
numbered ks (key b n ∷ ts) = by_number ks b n ++ numbered (remembered ks b) ts
numbered ks (field j v ∷ ts) = field j v ∷ numbered ks ts
numbered ks (text b n ∷ ts) = text b n ∷ numbered ks ts
numbered ks (var v ∷ ts) = var v ∷ numbered ks ts
numbered ks (buf b ∷ ts) = buf b ∷ numbered ks ts
numbered ks (value b ∷ ts) = value b ∷ numbered ks ts
numbered ks (values b ∷ ts) = values b ∷ numbered ks ts

-- more keys than form 2 may have
unfoldable pub many_keys : ℕ → List Token → Bool
many_keys form ts = pick (eqb form 1) false (crowded [] ts)
