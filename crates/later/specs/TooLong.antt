-- Why a diff has to read: an update of the greatest length that is taken, and its diff in form 2, which is longer and is refused.
use Rattle.std.specs.Prelude.{ℕ, ◌+◌, ◌≤◌, ◌≡◌, List, [], ◌∷◌, ◌++◌}
use Rattle.numbers.specs.Number.{nowhere}
use Rattle.block.specs.declared.Block.{Block}
use Rattle.block.specs.Rows.{plain, with_left, with_part}
use Rattle.block.specs.Kinds.{BINARY}
use Rattle.diffs.specs.Promises.{diff_of}
use Rattle.sort_answers.specs.Answers.{refused_with, Room}
use Rattle.sorts.specs.Promises.{sort_of}
use Rattle.later.specs.Examples.{early, takes}

-- so many bytes: f3 ff ff 07
abbrev pub most : ℕ
most = 16777203

-- form 1: the bytes t as a binary of client 5 at clock 1, behind the id (5, 0). With `most` bytes it has 16,777,215
unfoldable pub longest : List ℕ → List ℕ
longest t = 0x01 ∷ 0x01 ∷ 0x05 ∷ 0x01 ∷ 0x83 ∷ 0x05 ∷ 0x00 ∷ 0xf3 ∷ 0xff ∷ 0xff ∷ 0x07 ∷ (t ++ (0x00 ∷ []))

abbrev pub binary : Block
binary = with_left (record { client = 5; clock = 0 }) (with_part (record { place = 11; bytes = record { 0 = most } }) (plain 5 1 1 BINARY))

-- whatever bytes t are `most`
pub record NotRead (rule : ℕ) (t : List ℕ) : Type 0 where
  -- against a vector where 5 has one unit it is taken, and 5 reaches 2
  pub sorted : sort_of rule 1 (longest t) early 1 0 (record { order = 1; counts = 2; reaches = 4; pending = 3 }) ≡ takes (5 ∷ 2 ∷ []) binary
  -- its diff against that vector in form 2 is written, into bytes that suffice
  pub written : (room : ℕ) → most + 23 ≤ room → (diff_of 1 (longest t) early 2 1 0 room).refusal.number ≡ 0
  -- but it is refused with 3, and 5 reaches nothing
  pub refused : (room m n : ℕ) (words : Room) → most + 23 ≤ room
      → sort_of rule 2 (diff_of 1 (longest t) early 2 1 0 room).bytes early m n words ≡ refused_with (nowhere 3)
