-- Beside Keys: what inner functions say and proofs need. No promise comes to it.
use Rattle.std.specs.Prelude.{ℕ, Bool, true, false, List, [], ◌∷◌, eqb}
use Rattle.numbers.specs.Number.{pick}
use Rattle.tokens.specs.Tokens.{Token, field, text, var, buf, key, value, values}
use Rattle.tokens.specs.Keys.{is_known, numbered, remembered}

-- ---- tokens without keys

unfoldable pub is_key : Token → Bool
is_key (key b n) = true
is_key (field j v) = false
is_key (text b n) = false
is_key (var v) = false
is_key (buf b) = false
is_key (value b) = false
is_key (values b) = false

unfoldable pub keyless : List Token → Bool
keyless [] = true
keyless (t ∷ ts) = pick (is_key t) false (keyless ts)

-- ---- the keys known, in the order of their numbers

-- after tokens
unfoldable pub keys_after : List (List ℕ) → List Token → List (List ℕ)
keys_after ks [] = ks
keys_after ks (key b n ∷ ts) = keys_after (remembered ks b) ts
keys_after ks (field j v ∷ ts) = keys_after ks ts
keys_after ks (text b n ∷ ts) = keys_after ks ts
keys_after ks (var v ∷ ts) = keys_after ks ts
keys_after ks (buf b ∷ ts) = keys_after ks ts
keys_after ks (value b ∷ ts) = keys_after ks ts
keys_after ks (values b ∷ ts) = keys_after ks ts

-- ---- tokens with their keys by number

-- as a form has them
unfoldable pub spelled : ℕ → List (List ℕ) → List Token → List Token
spelled form ks ts = pick (eqb form 1) ts (numbered ks ts)

unfoldable pub known_after : ℕ → List (List ℕ) → List Token → List (List ℕ)
known_after form ks ts = pick (eqb form 1) ks (keys_after ks ts)

-- ---- in plain words: more than so many distinct keys

unfoldable pub keys_in : List Token → List (List ℕ)
keys_in [] = []
keys_in (key b n ∷ ts) = b ∷ keys_in ts
keys_in (field j v ∷ ts) = keys_in ts
keys_in (text b n ∷ ts) = keys_in ts
keys_in (var v ∷ ts) = keys_in ts
keys_in (buf b ∷ ts) = keys_in ts
keys_in (value b ∷ ts) = keys_in ts
keys_in (values b ∷ ts) = keys_in ts

-- each once
unfoldable pub distinct : List (List ℕ) → List (List ℕ)
distinct [] = []
distinct (b ∷ bs) = pick (is_known b bs) (distinct bs) (b ∷ distinct bs)

abbrev pub distinct_keys : List Token → List (List ℕ)
distinct_keys ts = distinct (keys_in ts)
