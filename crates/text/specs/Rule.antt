-- UTF-16 units counted over checked UTF-8 (W-203): one for each byte that does not continue a character, one more for each byte from F0 up. On
-- well-formed text this is the Unicode count (proofs/Rule); of other bytes it says nothing.
use Rattle.std.specs.Prelude.{ℕ, ◌+◌, List, [], ◌∷◌, Bool, false, ltb}
use Rattle.text.specs.Utf8.{pick}

unfoldable pub continues : ℕ → Bool
continues b = pick (ltb b 128) false (ltb b 192)

unfoldable pub worth : ℕ → ℕ
worth b = pick (continues b) 0 1 + pick (ltb b 240) 0 1

unfoldable pub by_rule : List ℕ → ℕ
by_rule [] = 0
by_rule (b ∷ t) = worth b + by_rule t
