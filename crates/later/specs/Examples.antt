-- The smallest example where reaches rise: asked later, and for the diff alone.
use Rattle.std.specs.Prelude.{ℕ, ◌≡◌, List, [], ◌∷◌}
use Rattle.numbers.specs.Number.{none}
use Rattle.block.specs.declared.Block.{Block}
use Rattle.block.specs.Rows.{plain, with_left}
use Rattle.block.specs.Kinds.{DELETED}
use Rattle.updates.specs.Promises.{Reading}
use Rattle.diffs.specs.Promises.{diff_of}
use Rattle.sort_answers.specs.Answers.{Sort}
use Rattle.sorts.specs.Promises.{sort_of}

-- form 1: two deleted units of client 5 from clock 0, behind the id (9, 0)
abbrev pub waiter : List ℕ
waiter = 0x01 ∷ 0x01 ∷ 0x05 ∷ 0x00 ∷ 0x81 ∷ 0x09 ∷ 0x00 ∷ 0x02 ∷ 0x00 ∷ []

-- the second of them, behind the first: the id (5, 0)
abbrev pub second : List ℕ
second = 0x01 ∷ 0x01 ∷ 0x05 ∷ 0x01 ∷ 0x81 ∷ 0x05 ∷ 0x00 ∷ 0x01 ∷ 0x00 ∷ []

-- 5 has one unit; 9 has one, too
abbrev pub early : List ℕ
early = 0x01 ∷ 0x05 ∷ 0x01 ∷ []

abbrev pub late : List ℕ
late = 0x02 ∷ 0x05 ∷ 0x01 ∷ 0x09 ∷ 0x01 ∷ []

-- so many units of client 5 from a clock on, behind the unit at clock 0 of a client
abbrev pub units : ℕ → ℕ → ℕ → Block
units clock n left = with_left (record { client = left; clock = 0 }) (plain 5 clock n DELETED)

abbrev pub only : Block → Reading
only b = record { refusal = none; blocks = b ∷ []; ranges = [] }

-- with one block row, no range row and words for two clients lent
abbrev pub sorts : ℕ → List ℕ → List ℕ → Sort
sorts rule u v = sort_of rule 1 u v 1 0 (record { order = 1; counts = 2; reaches = 4; pending = 3 })

-- block 0 was taken, and reached are these; it waits for 9, which reaches 0
abbrev pub takes : List ℕ → Block → Sort
takes reaches b = record { refusal = none; order = 0 ∷ []; counts = 5 ∷ 1 ∷ []; reaches = reaches; pending = []; reading = only b }

abbrev pub waits : List ℕ → Block → Sort
waits reaches b = record { refusal = none; order = []; counts = 5 ∷ 0 ∷ []; reaches = reaches; pending = 5 ∷ 9 ∷ 0 ∷ []; reading = only b }

-- by a rule
pub record Rises (rule : ℕ) : Type 0 where
  -- asked early it waits, and 5 reaches 1
  pub asked : sorts rule waiter early ≡ waits (5 ∷ 1 ∷ []) (units 0 2 9)
  -- asked late it is taken: 5 reaches 2
  pub later : sorts rule waiter late ≡ takes (9 ∷ 1 ∷ 5 ∷ 2 ∷ []) (units 0 2 9)
  -- the diff against the early vector waits for nobody: 5 reaches 2
  pub diff : diff_of 1 waiter early 1 1 0 9 ≡ record { refusal = none; bytes = second; reading = only (units 0 2 9) }
  pub sorted : sorts rule second early ≡ takes (5 ∷ 2 ∷ []) (units 1 1 5)
