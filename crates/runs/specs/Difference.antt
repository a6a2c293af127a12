-- How the difference column spells a run: e is twice the difference; odd, and how often less two, where it applies more than once.
use Rattle.std.specs.Prelude.{ℕ, ◌+◌, ◌-◌, ◌*◌, List, ◌++◌, ltb, eqb}
use Rattle.numbers.specs.Number.{pick, unsigned, signed}

-- the key of no difference: a difference d has the key d + 2^31
abbrev pub zero_key : ℕ
zero_key = 2147483648

-- the key of the difference from p to v; the size of e, twice the difference and `odd`
abbrev pub key_between : ℕ → ℕ → ℕ
key_between p v = v + zero_key - p

unfoldable pub magnitude : ℕ → ℕ → ℕ
magnitude k odd = pick (ltb k zero_key) (2 * (zero_key - k) - odd) (2 * (k - zero_key) + odd)

-- e is odd where a count follows
unfoldable pub odd : ℕ → ℕ
odd n = pick (eqb n 0) 0 1

-- a run: the difference of k, n + 1 times
unfoldable pub run_bytes : ℕ → ℕ → List ℕ
run_bytes k n = pick (eqb n 0) (signed (ltb k zero_key) (magnitude k 0)) (signed (ltb k zero_key) (magnitude k 1) ++ unsigned (n - 1))
