-- What every block of an update has: its numbers within the limits, its parts inside the update, texts that are UTF-8 of so many units, and nothing
-- where nothing was read. And how the blocks of one update lie to each other.
use Rattle.std.specs.Prelude.{ℕ, ◌+◌, Bool, true, List, [], ◌∷◌}
use Rattle.std.proofs.Math.Seq.{slice}
use Rattle.numbers.specs.Number.{pick}
use Rattle.text.specs.declared.Part.{Part}
use Rattle.block.specs.declared.Block.{Block}

-- ---- a part and an id

-- the bytes of a part of u
unfoldable pub bytes_in : List ℕ → Part → List ℕ
bytes_in u p = slice p.place (p.place + p.bytes.0) u

-- ---- a block

unfoldable pub linked : Block → Bool
linked b = pick b.has_left true b.has_right

-- ---- blocks in a row

abbrev pub owner : Block → ℕ
owner b = b.client

abbrev pub All : {A : Type 0} → (A → Type 0) → List A → Type 0
All P [] = Unit {0}
All P (a ∷ rest) = P a × All P rest
