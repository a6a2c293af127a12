-- Case E of document 01, "Numbers worked by hand": C, its block, and its diffs against a vector that has one unit of it and against one that has
-- both.
use Rattle.std.specs.Prelude.{ℕ, suc, ◌≡◌, List, [], ◌∷◌}
use Rattle.numbers.specs.Number.{none}
use Rattle.block.specs.declared.Block.{Block}
use Rattle.block.specs.Rows.{plain, with_name, with_part}
use Rattle.block.specs.Kinds.{TEXT}
use Rattle.diffs.specs.Promises.{Diffed, diff_of}

abbrev pub update_c : List ℕ
update_c = 0x01 ∷ 0x01 ∷ 0x05 ∷ 0x00 ∷ 0x04 ∷ 0x01 ∷ 0x01 ∷ 0x74 ∷ 0x02 ∷ 0x68 ∷ 0x69 ∷ 0x00 ∷ []

-- the text "hi" of client 5 at clock 0, whose parent is "t": 74 stands at place 7, 68 69 at 9
abbrev pub hi : Block
hi = with_name (record { place = 7; bytes = record { 0 = 1 } }) (with_part (record { place = 9; bytes = record { 0 = 2 } }) (plain 5 0 2 TEXT))

-- these bytes were written, that block was read
abbrev pub done : List ℕ → Diffed
done b = record { refusal = none; bytes = b; reading = record { refusal = none; blocks = hi ∷ []; ranges = [] } }

-- 64 bytes are lent, a block row at least, and any range rows
pub record CaseE : Type 0 where
  pub one : (n m : ℕ)
      → diff_of 1 update_c (1 ∷ 5 ∷ 1 ∷ []) 1 (suc n) m 64 ≡ done (0x01 ∷ 0x01 ∷ 0x05 ∷ 0x01 ∷ 0x84 ∷ 0x05 ∷ 0x00 ∷ 0x01 ∷ 0x69 ∷ 0x00 ∷ [])
  pub all : (n m : ℕ) → diff_of 1 update_c (1 ∷ 5 ∷ 2 ∷ []) 1 (suc n) m 64 ≡ done (0x00 ∷ 0x00 ∷ [])
