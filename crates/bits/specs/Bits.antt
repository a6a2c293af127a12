-- Bits, most significant first: a number in k bits, the number that k bits spell, bytes as bits, and bits as bytes.
use Rattle.std.specs.Prelude.{ℕ, zero, suc, ◌+◌, ◌/◌, ◌%◌, ◌^◌, Bool, List, [], ◌∷◌, ◌++◌, eqb, length, drop}
use Rattle.numbers.specs.Number.{pick}

-- x in k bits: first the bit that counts 2^(k-1)
unfoldable pub in_bits : ℕ → ℕ → List Bool
in_bits zero x = []
in_bits (suc k) x = eqb (x / 2 ^ k % 2) 1 ∷ in_bits k x

-- the number that the first k bits spell; where there are no more, zeros
unfoldable pub value_of : ℕ → List Bool → ℕ
value_of zero bits = 0
value_of (suc k) [] = 0
value_of (suc k) (b ∷ bits) = pick b (2 ^ k) 0 + value_of k bits

-- the bits of bytes
unfoldable pub of_bytes : List ℕ → List Bool
of_bytes [] = []
of_bytes (b ∷ s) = in_bits 8 b ++ of_bytes s

-- n bytes of bits; where there are no more, zeros
unfoldable pub bytes : ℕ → List Bool → List ℕ
bytes zero bits = []
bytes (suc n) bits = value_of 8 bits ∷ bytes n (drop 8 bits)

-- as few bytes as hold these bits: zeros fill the last one
unfoldable pub packed : List Bool → List ℕ
packed bits = bytes ((length bits + 7) / 8) bits
