-- Where reading stands, as words: seven for each of the nine columns, in the format's order key, client, left clock, right clock, info, text, parent
-- info, type, length; then the place in line (63), the place that the number drawn last is blamed at (64), why a field was refused (65, 66), how many
-- keys were read (67), and, where there may be keys to read, place and bytes of each of them, two words a key. A column's words are at, from, last,
-- count, to and two more.
use Rattle.std.specs.Prelude.{Option, Some, None}
use Rattle.std.specs.Prelude.{ℕ, zero, suc, ◌+◌, ◌*◌, ◌≤◌, ◌<◌, ◌≡◌, ◌≢◌, List, [], ◌∷◌, eqb, length, get_or, set}
use Rattle.numbers.specs.declared.Refusal.{Refusal}
use Rattle.text.specs.declared.Part.{Part}
use Rattle.columns.specs.declared.number.Answer as number-answer
use Rattle.columns.specs.declared.difference.Answer as difference-answer
use Rattle.columns.specs.declared.byte.Place as byte-place
use Rattle.grammar.specs.Course as course
use Rattle.decoder.specs.States.{max_keys, Numbers, Differences, Octets, Texts, State}
use Rattle.decoder.specs.Columned.{number_drawn, difference_drawn, from_numbers, from_differences, from_bytes}

-- ---- what the words hold

-- word j of column k
unfoldable pub cell : List ℕ → ℕ → ℕ → ℕ
cell w k j = get_or w (7 * k + j) 0

unfoldable pub numbers_in : List ℕ → ℕ → Numbers
numbers_in w k = record { place = record { at = cell w k 0; from = cell w k 1; last = cell w k 2; count = cell w k 3 }; to = cell w k 4 }

-- word 5 is the difference's key
unfoldable pub differences_in : List ℕ → ℕ → Differences
differences_in w k = record {
  place = record { at = cell w k 0; from = cell w k 1; last = cell w k 2; key = cell w k 5; count = cell w k 3 };
  to = cell w k 4;
}

-- word 5 is 1 where the byte stands without end
unfoldable pub bytes_in : List ℕ → ℕ → Octets
bytes_in w k = record {
  place = record { at = cell w k 0; from = cell w k 1; last = cell w k 2; count = cell w k 3; endless = eqb (cell w k 5) 1 };
  to = cell w k 4;
}

-- the place of the units first; words 5 and 6 are the text's own at and end
unfoldable pub texts_in : List ℕ → ℕ → Texts
texts_in w k = record { place = record { at = cell w k 5; end = cell w k 6; units = (numbers_in w k).place }; to = cell w k 4 }

unfoldable pub at_in : List ℕ → ℕ
at_in w = get_or w 63 0

unfoldable pub part_in : List ℕ → ℕ → Part
part_in r k = record { place = get_or r k 0; bytes = record { 0 = get_or r (k + 1) 0 } }

-- how many keys were read; n of them, from the i-th on
unfoldable pub key_count : List ℕ → ℕ
key_count w = get_or w 67 0

unfoldable pub keys_from : List ℕ → ℕ → ℕ → List Part
keys_from w i zero = []
keys_from w i (suc n) = part_in w (68 + 2 * i) ∷ keys_from w (suc i) n

unfoldable pub keys_in : List ℕ → List Part
keys_in w = keys_from w 0 (key_count w)

unfoldable pub state_in : List ℕ → State
state_in w = record {
  at = at_in w;
  key = differences_in w 0;
  client = numbers_in w 1;
  left = differences_in w 2;
  right = differences_in w 3;
  info = bytes_in w 4;
  text = texts_in w 5;
  parent = bytes_in w 6;
  types = numbers_in w 7;
  len = numbers_in w 8;
  keys = keys_in w;
}

unfoldable pub place_in : List ℕ → ℕ
place_in w = get_or w 64 0

unfoldable pub why_in : List ℕ → Refusal
why_in w = record { number = get_or w 65 0; place = get_or w 66 0 }

-- ---- what the words keep to

-- the last value and the key of a difference column are added
pub record Short (w : List ℕ) (k : ℕ) : Type 0 where
  pub last : cell w k 2 ≤ 4294967295
  pub key : cell w k 5 ≤ 4294967295

-- no run of the key column is under way and nothing is left of it, so that no key can be read
abbrev pub Idle : List ℕ → Type 0
Idle w = (cell w 0 3 ≡ 0) × (cell w 0 4 ≤ cell w 0 0)

-- there are words for 256 keys, or there is no key to read
pub record Small (w : List ℕ) : Type 0 where
  pub size : 68 ≤ length w
  pub room : length w < 580 → Idle w
  pub keys : key_count w ≤ max_keys
  pub key : Short w 0
  pub left : Short w 2
  pub right : Short w 3
  pub why : get_or w 65 0 ≤ 255

-- words that are enough for update u in form 2: those without words for keys are where its key column, whose length byte 1 begins, is empty
abbrev pub Enough : List ℕ → List ℕ → Type 0
Enough u w = length w < 580 → get_or u 1 0 ≡ 0

-- a column other than the three of differences
abbrev pub Wide : ℕ → Type 0
Wide k = (k ≤ 8) × (k ≢ 0) × (k ≢ 2) × (k ≢ 3)

-- a column of differences: of keys, left clocks, right clocks
abbrev pub Narrow : ℕ → Type 0
Narrow k = (k ≤ 3) × (k ≢ 1)

-- no column but k changed, nor the place in line, nor the keys; 9 is no column
pub record Elsewhere (k : ℕ) (w v : List ℕ) : Type 0 where
  pub at : at_in v ≡ at_in w
  pub same : (j i : ℕ) → j ≤ 8 → j ≢ k → i < 7 → cell v j i ≡ cell w j i
  pub keys : (i : ℕ) → 67 ≤ i → get_or v i 0 ≡ get_or w i 0

-- the two words of column k that are no number's stay
abbrev pub Kept : ℕ → List ℕ → List ℕ → Type 0
Kept k w v = (cell v k 5 ≡ cell w k 5) × (cell v k 6 ≡ cell w k 6)

-- only words k and k + 1 of a row changed
abbrev pub Beside : ℕ → List ℕ → List ℕ → Type 0
Beside k r q = q ≡ set (set r k (get_or q k 0)) (k + 1) (get_or q (k + 1) 0)

-- ---- an answer, with the words v that it leaves

-- of a whole state
unfoldable pub given : List ℕ → Option ℕ → course.Drawn State (ℕ × ℕ)
given v (Some x) = course.got (x, place_in v) (state_in v)
given v None = course.not (why_in v)

-- of one column
unfoldable pub numbers_given : List ℕ → ℕ → Option ℕ → course.Drawn Numbers (ℕ × ℕ)
numbers_given v k (Some x) = course.got (x, place_in v) (numbers_in v k)
numbers_given v k None = course.not (why_in v)

unfoldable pub differences_given : List ℕ → ℕ → Option ℕ → course.Drawn Differences (ℕ × ℕ)
differences_given v k (Some x) = course.got (x, place_in v) (differences_in v k)
differences_given v k None = course.not (why_in v)

unfoldable pub bytes_given : List ℕ → ℕ → Option ℕ → course.Drawn Octets (ℕ × ℕ)
bytes_given v k (Some x) = course.got (x, place_in v) (bytes_in v k)
bytes_given v k None = course.not (why_in v)

-- ---- what a draw from column k does, from words w to words v

-- where a key's number was drawn there are words for keys
abbrev pub Roomy : ℕ → List ℕ → Option ℕ → Type 0
Roomy k v (Some x) = k ≡ 0 → 580 ≤ length v
Roomy k v None = Unit {0}

-- the column's answer a
abbrev pub NumberPut : ℕ → List ℕ → List ℕ → Option ℕ → number-answer.Answer → Type 0
NumberPut k w v r a = Small v × Elsewhere k w v × (numbers_given v k r ≡ number_drawn (λ c. c) (cell w k 4) a) × Kept k w v

abbrev pub DifferencePut : ℕ → List ℕ → List ℕ → Option ℕ → difference-answer.Answer → Type 0
DifferencePut k w v r a = Small v × Elsewhere k w v × (differences_given v k r ≡ difference_drawn (λ c. c) (cell w k 4) a) × Roomy k v r

-- the column's place p
abbrev pub BytePut : ℕ → List ℕ → List ℕ → byte-place.Place → Type 0
BytePut k w v p = Small v × Elsewhere k w v × (place_in v ≡ p.from) × (bytes_in v k ≡ record { place = p; to = cell w k 4 })

abbrev pub NumberDrawn : List ℕ → ℕ → List ℕ → List ℕ → Option ℕ → Type 0
NumberDrawn u k w v r = Small v × Elsewhere k w v × (numbers_given v k r ≡ from_numbers u (numbers_in w k) (λ c. c)) × Kept k w v

abbrev pub DifferenceDrawn : List ℕ → ℕ → List ℕ → List ℕ → Option ℕ → Type 0
DifferenceDrawn u k w v r = Small v × Elsewhere k w v × (differences_given v k r ≡ from_differences u (differences_in w k) (λ c. c)) × Roomy k v r

abbrev pub ByteDrawn : List ℕ → ℕ → List ℕ → List ℕ → Option ℕ → Type 0
ByteDrawn u k w v r = Small v × Elsewhere k w v × (bytes_given v k r ≡ from_bytes u (bytes_in w k) (λ c. c))
