-- What the code does with bits at a place: bytes from the top of a word, and bits put behind others.
use Rattle.std.specs.Prelude.{ℕ, zero, suc, ◌-◌, ◌*◌, ◌/◌, ◌%◌, ◌^◌, ◌≡◌, Bool, List, [], ◌∷◌, ◌++◌, eqb, length, take, get_or}
use Rattle.numbers.specs.Number.{pick}
use Rattle.bits.specs.Bits.{packed}

-- the n highest bytes of a word, the highest first
unfoldable pub top : ℕ → ℕ → List ℕ
top zero w = []
top (suc n) w = w / 2 ^ 56 ∷ top n (w * 2 ^ 8 % 2 ^ 64)

-- the r highest bits of byte `at`, as a number
unfoldable pub highest : List ℕ → ℕ → ℕ → ℕ
highest s at r = pick (eqb r 0) 0 (get_or s at 0 / 2 ^ (8 - r))

-- the bytes s start with these bits, and zeros fill the last byte that has any
unfoldable pub Starts : List Bool → List ℕ → Type 0
Starts bits s = take (length (packed bits)) s ≡ packed bits

-- from s to t: whatever bits end at bit o, the bits c stand behind them
pub record Adds (o : ℕ) (c : List Bool) (s t : List ℕ) : Type 0 where
  pub size : length t ≡ length s
  pub bits : (b : List Bool) → length b ≡ o → Starts b s → Starts (b ++ c) t
