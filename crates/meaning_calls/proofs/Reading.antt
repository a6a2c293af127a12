-- That an update is read as `read_update` promises.
use Prim.Native.Nat.{ℕ}
use mathlib.Core.Path.{◌≡◌, refl, sym, ◌∙◌}
use mathlib.Core.Bool.{Bool, true, false}
use mathlib.Core.List.{List}
use lib.Dec.{eqb}
use Rattle.numbers.specs.Number.{none}
use Rattle.block.specs.declared.Block.{Block}
use Rattle.ranges.specs.Ranges.{Range, normal}
use Rattle.updates.specs.Promises.{Reading, early}
use Rattle.updates.specs.Promises as promises
use Rattle.meaning.specs.Reads.{when◌then◌else◌, Got, got, refused}
use Rattle.meaning.specs.Reads.{comes_to}
use Rattle.meaning.specs.Update.{whole}
use Rattle.meaning.proofs.Whole.{whole_is}
use Rattle.meaning_calls.specs.Reading.{read_with, as_reading, reading}

-- what was read
unfoldable pub read_as : List Block × List Range → Reading
read_as x = record { refusal = none; blocks = x.0; ranges = normal x.1 }

pub read_answer : {S : Type 0} (g : Got S (List Block × List Range)) → as_reading g ≡ comes_to (λ x s. read_as x) promises.refused g
unfolding as_reading comes_to read_as
read_answer (got x s) = refl
read_answer (refused n p) = refl

pub reading-same : (form : ℕ) (u : List ℕ) (block_rows range_rows : ℕ) → promises.reading form u block_rows range_rows ≡ reading form u block_rows range_rows
unfolding promises.reading promises.with_blocks promises.with_ranges reading read_with when◌then◌else◌ as_reading read_as
reading-same form u block_rows range_rows = go (eqb (early form u) 0) refl
  where
    go : (b : Bool) → eqb (early form u) 0 ≡ b → promises.reading form u block_rows range_rows ≡ reading form u block_rows range_rows
    go true e = rw e (sym (read_answer (whole form u block_rows range_rows) ∙ whole_is form u block_rows range_rows (λ x end. read_as x) promises.refused))
    go false e = rw e
