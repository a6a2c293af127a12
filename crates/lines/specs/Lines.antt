-- Text put into lent bytes as far as they reach, and a number's decimal digits.
use Rattle.std.specs.Prelude.{ℕ, zero, suc, ◌+◌, ◌/◌, ◌%◌, cond, List, [], ◌∷◌, ◌++◌, ltb}

-- the last digits of v, at most so many, with no zero in front; 48 is `0`
unfoldable pub digits : ℕ → ℕ → List ℕ
digits zero v = []
digits (suc most) v = cond (ltb v 10) ((48 + v) ∷ []) (digits most (v / 10) ++ ((48 + v % 10) ∷ []))

-- all digits of a number of 64 bits
unfoldable pub decimal : ℕ → List ℕ
decimal v = digits 20 v
