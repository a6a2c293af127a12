-- The starred cases of document 01, "Numbers worked by hand", as one table.
use Rattle.std.specs.Prelude.{ℕ, suc, ◌+◌, ◌≡◌, List, [], ◌∷◌, replicate}
use Rattle.numbers.specs.Number.{none}
use Rattle.string.specs.declared.Opened.{Opened}
use Rattle.string.specs.declared.Opened.TheVariants.{At, Not}
use Rattle.string.specs.String.{open_text}
use Rattle.string.specs.StringInner.{Texts, read_texts}
use Rattle.columns.specs.Number as number
use Rattle.columns.specs.Difference as difference
use Rattle.columns.specs.Byte as byte
use Rattle.columns.specs.Reading.{Reading, read_numbers, read_differences, read_bytes}
use Rattle.text.specs.declared.Part.{Part}
use Rattle.block.specs.declared.Block.{Block}
use Rattle.block.specs.Rows.{plain, with_left, with_name, with_part}
use Rattle.block.specs.Kinds.{BINARY, TEXT}
use Rattle.updates.specs.Promises as promises
use Rattle.updates.specs.Promises.{reading}
use Rattle.diffs.specs.Promises.{Diffed, diff_of}
use Rattle.sort_answers.specs.Answers.{Sort}
use Rattle.sorts.specs.Promises.{sort_of}
use Rattle.listed.specs.Listed.{listed}

-- values read, and the number and the place of the refusal that ended them: zeros where none did
abbrev pub gives : List ℕ → ℕ → ℕ → Reading
gives vs n p = record { values = vs; refusal = record { number = n; place = p } }

-- the first text of a text column
unfoldable pub first_of : List ℕ → Opened → Texts
first_of s (At c) = read_texts 1 s c
first_of s (Not why) = record { texts = []; refusal = why }

abbrev pub texts : List ℕ → Texts
texts s = first_of s (open_text s 0)

-- an update read: its blocks, and no delete ranges
abbrev pub blocks_read : List Block → promises.Reading
blocks_read bs = record { refusal = none; blocks = bs; ranges = [] }

-- bytes at a place
abbrev pub part_at : ℕ → ℕ → Part
part_at place n = record { place = place; bytes = record { 0 = n } }

-- a text of client 5 at clock 0 with two units: the name of its parent is a byte at a place, the text two bytes
abbrev pub hi : ℕ → ℕ → Block
hi name text = with_name (part_at name 1) (with_part (part_at text 2) (plain 5 0 2 TEXT))

abbrev pub update_a : List ℕ
update_a = 0x00 ∷ 0x00 ∷ []

abbrev pub update_b : List ℕ
update_b = 0x00 ∷ 0x00 ∷ 0x00 ∷ 0x00 ∷ 0x00 ∷ 0x00 ∷ 0x01 ∷ 0x00 ∷ 0x00 ∷ 0x00 ∷ 0x00 ∷ 0x00 ∷ 0x00 ∷ []

-- 74 stands at place 7, 68 69 at 9
abbrev pub update_c : List ℕ
update_c = 0x01 ∷ 0x01 ∷ 0x05 ∷ 0x00 ∷ 0x04 ∷ 0x01 ∷ 0x01 ∷ 0x74 ∷ 0x02 ∷ 0x68 ∷ 0x69 ∷ 0x00 ∷ []

-- 74 stands at place 10, 68 69 at 11
abbrev pub update_d : List ℕ
update_d = 0x00 ∷ 0x00 ∷ 0x01 ∷ 0x05 ∷ 0x00 ∷ 0x00 ∷ 0x01 ∷ 0x04 ∷ 0x06 ∷ 0x03 ∷ 0x74 ∷ 0x68 ∷ 0x69 ∷ 0x01 ∷ 0x02 ∷ 0x01 ∷ 0x01 ∷ 0x00 ∷ 0x00 ∷ 0x01
    ∷ 0x01 ∷ 0x00 ∷ 0x00 ∷ []

-- a diff of C that is written: its bytes, and what was read
abbrev pub diffed : List ℕ → Diffed
diffed b = record { refusal = none; bytes = b; reading = blocks_read (hi 7 9 ∷ []) }

-- "empty" and a new line
abbrev pub empty_text : List ℕ
empty_text = 101 ∷ 109 ∷ 112 ∷ 116 ∷ 121 ∷ 10 ∷ []

-- "update form .. blocks 1 ranges 0", "5 0 2 text", "end", a line each; the form's digit is given
abbrev pub one_text : ℕ → List ℕ
one_text digit = 117 ∷ 112 ∷ 100 ∷ 97 ∷ 116 ∷ 101 ∷ 32 ∷ 102 ∷ 111 ∷ 114 ∷ 109 ∷ 32 ∷ digit ∷ 32 ∷ 98 ∷ 108 ∷ 111 ∷ 99 ∷ 107 ∷ 115 ∷ 32 ∷ 49 ∷ 32 ∷ 114
    ∷ 97 ∷ 110 ∷ 103 ∷ 101 ∷ 115 ∷ 32 ∷ 48 ∷ 10 ∷ 53 ∷ 32 ∷ 48 ∷ 32 ∷ 50 ∷ 32 ∷ 116 ∷ 101 ∷ 120 ∷ 116 ∷ 10 ∷ 101 ∷ 110 ∷ 100 ∷ 10 ∷ []

-- a binary of one unit at clock 0, with an id that it hangs on, and one in a parent with a name
abbrev pub after-id : ℕ → ℕ → ℕ → Block
after-id c d part = with_left (record { client = d; clock = 0 }) (with_part (part_at part 1) (plain c 0 1 BINARY))

abbrev pub in-parent : ℕ → ℕ → ℕ → Block
in-parent c name part = with_name (part_at name 1) (with_part (part_at part 1) (plain c 0 1 BINARY))

-- 5's block has left id (9,0), 9's none; without 9; 9's has left id (5,0)
abbrev pub update_m1 : List ℕ
update_m1 = 0x02 ∷ 0x01 ∷ 0x05 ∷ 0x00 ∷ 0x83 ∷ 0x09 ∷ 0x00 ∷ 0x01 ∷ 0x61 ∷ 0x01 ∷ 0x09 ∷ 0x00 ∷ 0x03 ∷ 0x01 ∷ 0x01 ∷ 0x74 ∷ 0x01 ∷ 0x62 ∷ 0x00 ∷ []

abbrev pub update_m2 : List ℕ
update_m2 = 0x01 ∷ 0x01 ∷ 0x05 ∷ 0x00 ∷ 0x83 ∷ 0x09 ∷ 0x00 ∷ 0x01 ∷ 0x61 ∷ 0x00 ∷ []

abbrev pub update_m3 : List ℕ
update_m3 = 0x02 ∷ 0x01 ∷ 0x05 ∷ 0x00 ∷ 0x83 ∷ 0x09 ∷ 0x00 ∷ 0x01 ∷ 0x61 ∷ 0x01 ∷ 0x09 ∷ 0x00 ∷ 0x83 ∷ 0x05 ∷ 0x00 ∷ 0x01 ∷ 0x62 ∷ 0x00 ∷ []

-- sorted by rule 28 against the empty vector, in words that suffice: the order, how many were taken, the reaches, what waits
abbrev pub sorts : List ℕ → ℕ → ℕ → Sort
sorts u n m = sort_of 28 1 u (0x00 ∷ []) (suc (suc n)) m (record { order = 2; counts = 4; reaches = 4; pending = 6 })

abbrev pub sorted : List ℕ → List ℕ → List ℕ → List ℕ → List Block → Sort
sorted order counts reaches pending bs =
    record { refusal = none; order = order; counts = counts; reaches = reaches; pending = pending; reading = blocks_read bs }

pub record Starred : Type 0 where
  -- nothing, in either form, however many rows there are
  pub A : (n m : ℕ) → reading 1 update_a n m ≡ blocks_read []
  pub B : (n m : ℕ) → reading 2 update_b n m ≡ blocks_read []
  pub listed_a : listed (1 ∷ update_a) ≡ empty_text
  pub listed_b : listed (2 ∷ update_b) ≡ empty_text
  -- client 5, clock 0, parent "t", text "hi", wherever there is a row
  pub C : (n m : ℕ) → reading 1 update_c (suc n) m ≡ blocks_read (hi 7 9 ∷ [])
  pub D : (n m : ℕ) → reading 2 update_d (suc n) m ≡ blocks_read (hi 10 11 ∷ [])
  pub listed_c : listed (1 ∷ update_c) ≡ one_text 49
  pub listed_d : listed (2 ∷ update_d) ≡ one_text 50
  -- C against 01 05 01 is its second unit, with the first as left id; against 01 05 02 nothing
  pub E1 : (n m : ℕ) → diff_of 1 update_c (0x01 ∷ 0x05 ∷ 0x01 ∷ []) 1 (suc n) m 64
      ≡ diffed (0x01 ∷ 0x01 ∷ 0x05 ∷ 0x01 ∷ 0x84 ∷ 0x05 ∷ 0x00 ∷ 0x01 ∷ 0x69 ∷ 0x00 ∷ [])
  pub E2 : (n m : ℕ) → diff_of 1 update_c (0x01 ∷ 0x05 ∷ 0x02 ∷ []) 1 (suc n) m 64 ≡ diffed (0x00 ∷ 0x00 ∷ [])
  -- 40 03: five zeros, a sixth read gives 1, at the column's end
  pub F : read_numbers 6 (0x40 ∷ 0x03 ∷ []) (number.start_at 0) ≡ gives (0 ∷ 0 ∷ 0 ∷ 0 ∷ 0 ∷ []) 1 2
  -- 45 00: 5, 5
  pub G : read_numbers 3 (0x45 ∷ 0x00 ∷ []) (number.start_at 0) ≡ gives (5 ∷ 5 ∷ []) 1 2
  -- 03 01: 1, 2, 3
  pub H : read_differences 4 (0x03 ∷ 0x01 ∷ []) (difference.start_at 0) ≡ gives (1 ∷ 2 ∷ 3 ∷ []) 1 2
  -- 0a 41 00: 5, 4, 3
  pub I : read_differences 4 (0x0a ∷ 0x41 ∷ 0x00 ∷ []) (difference.start_at 0) ≡ gives (5 ∷ 4 ∷ 3 ∷ []) 1 3
  -- 44: refused 3, at the run's first byte
  pub J : read_differences 1 (0x44 ∷ []) (difference.start_at 0) ≡ gives [] 3 0
  -- 04 01 00: 4, 4, then 0 without end
  pub K : (m : ℕ) → read_bytes (3 + m) (0x04 ∷ 0x01 ∷ 0x00 ∷ []) (byte.start_at 0) ≡ gives (4 ∷ 4 ∷ 0 ∷ replicate m 0) 0 0
  -- F0 9F 98 80 with unit length 1: 7, at the text's first byte; 2: the character; 3: 7
  pub L1 : texts (0x04 ∷ 0xf0 ∷ 0x9f ∷ 0x98 ∷ 0x80 ∷ 0x01 ∷ []) ≡ record { texts = []; refusal = record { number = 7; place = 1 } }
  pub L2 : texts (0x04 ∷ 0xf0 ∷ 0x9f ∷ 0x98 ∷ 0x80 ∷ 0x02 ∷ []) ≡ record { texts = (0xf0 ∷ 0x9f ∷ 0x98 ∷ 0x80 ∷ []) ∷ []; refusal = none }
  pub L3 : texts (0x04 ∷ 0xf0 ∷ 0x9f ∷ 0x98 ∷ 0x80 ∷ 0x03 ∷ []) ≡ record { texts = []; refusal = record { number = 7; place = 1 } }
  -- both taken, 9's first; without 9 pending, 9 at reach 0; both pending
  pub M1 : (n m : ℕ) → sorts update_m1 n m
      ≡ sorted (1 ∷ 0 ∷ []) (9 ∷ 1 ∷ 5 ∷ 1 ∷ []) (9 ∷ 1 ∷ 5 ∷ 1 ∷ []) [] (after-id 5 9 8 ∷ in-parent 9 15 17 ∷ [])
  pub M2 : (n m : ℕ) → sorts update_m2 n m ≡ sorted [] (5 ∷ 0 ∷ []) (5 ∷ 0 ∷ []) (5 ∷ 9 ∷ 0 ∷ []) (after-id 5 9 8 ∷ [])
  pub M3 : (n m : ℕ) → sorts update_m3 n m
      ≡ sorted [] (9 ∷ 0 ∷ 5 ∷ 0 ∷ []) (9 ∷ 0 ∷ 5 ∷ 0 ∷ []) (9 ∷ 5 ∷ 0 ∷ 5 ∷ 9 ∷ 0 ∷ []) (after-id 5 9 8 ∷ after-id 9 5 16 ∷ [])
