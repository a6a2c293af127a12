-- Document 01's sentences on columns, one by one: what a run gives, however its numbers are spelled and wherever it stands, where no run is under
-- way. A column's own definition says what the next value is; these say what all values of a run are.
use Rattle.std.specs.Prelude.{ℕ, zero, suc, ◌+◌, ◌-◌, ◌%◌, ◌≤◌, ◌<◌, ◌≡◌, Bool, true, false, List, [], ◌∷◌, length, replicate, get_or}
use Rattle.numbers.specs.declared.Read.TheVariants.{Number}
use Rattle.numbers.specs.declared.Signed.TheVariants.{Value}
use Rattle.numbers.specs.Number.{read_unsigned, read_signed}
use Rattle.numbers.specs.Limits.{max_value, max_clock, max_count}
use Rattle.runs.specs.Difference.{zero_key}
use Rattle.columns.specs.declared.number.Place as number-place
use Rattle.columns.specs.declared.difference.Place as difference-place
use Rattle.columns.specs.declared.byte.Place as byte-place
use Rattle.columns.specs.Number as number
use Rattle.columns.specs.Difference as difference
use Rattle.columns.specs.Byte as byte
use Rattle.columns.specs.Reading.{Draw, drew, number_draw, difference_draw, byte_draw}

-- draws from a place on give these values, one after the other, and lead to another place
abbrev pub Draws : {P : Type 0} → (P → Draw P) → P → List ℕ → P → Type 0
Draws next c [] d = c ≡ d
Draws {P} next c (v ∷ vs) d = (e : P) × (next c ≡ drew v e) × Draws next e vs d

-- a draw of each column whose bytes are s
abbrev pub a_number : List ℕ → number-place.Place → Draw number-place.Place
a_number s c = number_draw (number.next_number s c)

abbrev pub a_difference : List ℕ → difference-place.Place → Draw difference-place.Place
a_difference s c = difference_draw (difference.next_difference s c)

abbrev pub a_byte : List ℕ → byte-place.Place → Draw byte-place.Place
a_byte s c = byte_draw (byte.next_byte s c)

-- ---- "Number column: a signed number. Plus or plain zero: one value."

abbrev pub NumberOnce : Type 0
NumberOnce =
    (s : List ℕ) (c : number-place.Place) (x e : ℕ) → c.count ≡ 0 → read_signed s c.at ≡ Value false x e → x ≤ max_value
    → Draws (a_number s) c (x ∷ []) (number.place_at e c.at x 0)

-- "Minus, minus zero too: an unsigned c follows and the magnitude stands c+2 times."
abbrev pub NumberRun : Type 0
NumberRun =
    (s : List ℕ) (c : number-place.Place) (x e n f : ℕ) → c.count ≡ 0 → read_signed s c.at ≡ Value true x e
    → read_unsigned s e ≡ Number n f → n ≤ max_count → x ≤ max_value
    → Draws (a_number s) c (replicate (suc (suc n)) x) (number.place_at f c.at x 0)

-- ---- "Difference column: a signed e from -2^31 to 2^31-1. The difference is e/2 rounded down." A difference d is its key, d + 2^31

-- the value after v, and n values, each the difference after the one before
abbrev pub plus : ℕ → ℕ → ℕ
plus v key = v + key - zero_key

unfoldable pub rising : ℕ → ℕ → ℕ → List ℕ
rising v key zero = []
rising v key (suc n) = plus v key ∷ rising (plus v key) key n

-- the last of them
unfoldable pub risen : ℕ → ℕ → ℕ → ℕ
risen v key zero = v
risen v key (suc n) = risen (plus v key) key n

-- "Each value must be a legal clock."
unfoldable pub Legal : ℕ → ℕ → ℕ → Type 0
Legal v key zero = Unit {0}
Legal v key (suc n) = (zero_key ≤ v + key) × (plus v key ≤ max_clock) × Legal (plus v key) key n

-- "even e, minus zero too: once. The base is the value before"
abbrev pub DifferenceOnce : Type 0
DifferenceOnce =
    (s : List ℕ) (c : difference-place.Place) (m : Bool) (x e : ℕ) → c.count ≡ 0 → read_signed s c.at ≡ Value m x e
    → difference.outside m x ≡ false → x % 2 ≡ 0 → Legal c.last (difference.key_read m x) 1
    → Draws (a_difference s) c (rising c.last (difference.key_read m x) 1)
    (difference.place_at e c.at (risen c.last (difference.key_read m x) 1) (difference.key_read m x) 0)

-- "Odd e: c follows and the difference applies c+2 times"
abbrev pub DifferenceRun : Type 0
DifferenceRun =
    (s : List ℕ) (c : difference-place.Place) (m : Bool) (x e n f : ℕ) → c.count ≡ 0 → read_signed s c.at ≡ Value m x e
    → difference.outside m x ≡ false → x % 2 ≡ 1 → read_unsigned s e ≡ Number n f → n ≤ max_count
    → Legal c.last (difference.key_read m x) (suc (suc n))
    → Draws (a_difference s) c (rising c.last (difference.key_read m x) (suc (suc n)))
    (difference.place_at f c.at (risen c.last (difference.key_read m x) (suc (suc n))) (difference.key_read m x) 0)

-- ---- "Byte column: a value, then c, and it stands c+1 times."

abbrev pub ByteRun : Type 0
ByteRun =
    (s : List ℕ) (c : byte-place.Place) (n f : ℕ) → c.endless ≡ false → c.count ≡ 0 → c.at + 1 < length s
    → read_unsigned s (c.at + 1) ≡ Number n f → n ≤ max_count
    → Draws (a_byte s) c (replicate (suc n) (get_or s c.at 0)) (byte.place_at f c.at (get_or s c.at 0) 0)

-- "If no byte is left after the value, it stands without end."
abbrev pub ByteEndless : Type 0
ByteEndless =
    (s : List ℕ) (c : byte-place.Place) (n : ℕ) → c.endless ≡ false → c.count ≡ 0 → c.at + 1 ≡ length s
    → Draws (a_byte s) c (replicate (suc n) (get_or s c.at 0)) (byte.endless_at (c.at + 1) c.at (get_or s c.at 0))

-- all of them
pub record Sentences : Type 0 where
  pub number_once : NumberOnce
  pub number_run : NumberRun
  pub difference_once : DifferenceOnce
  pub difference_run : DifferenceRun
  pub byte_run : ByteRun
  pub byte_endless : ByteEndless
