-- What reading an update answers: its tables, strictly or not; one stored part; who is in it.
use Rattle.std.specs.Prelude.{ℕ, min, ◌||◌, ◌&&◌, List, [], ◌∷◌, map, ltb, eqb, length, get_or}
use Rattle.numbers.specs.declared.Refusal.{Refusal}
use Rattle.numbers.specs.Number.{none, nowhere}
use Rattle.block.specs.declared.Block.{Block}
use Rattle.ranges.specs.Ranges.{Range, normal}
use Rattle.updates.specs.Promises.{Reading, early}
use Rattle.updates.specs.Promises as promises
use Rattle.contents.specs.declared.Where.{Where}
use Rattle.meaning.specs.Reads.{when◌then◌else◌, Got, got, refused, on}
use Rattle.meaning.specs.Line.{part}
use Rattle.meaning.specs.Reads.{comes_to}
use Rattle.meaning.specs.Columns.{Lane}
use Rattle.meaning.specs.Fields.{Standing}
use Rattle.meaning.specs.Blocks.{bare}
use Rattle.meaning.specs.Update.{whole}

-- the form, then the update's length, are looked at first; then the update is read, with so many rows lent for blocks and for ranges
unfoldable pub read_with : ℕ → List ℕ → ℕ → ℕ → Got (Standing × ℕ) (List Block × List Range)
read_with form u block_rows range_rows = when eqb (early form u) 0 then whole form u block_rows range_rows else refused (early form u) 0

-- the blocks kept, and the ranges in normal form
unfoldable pub as_reading : {S : Type 0} → Got S (List Block × List Range) → Reading
as_reading (got x s) = record { refusal = none; blocks = x.0; ranges = normal x.1 }
as_reading (refused n p) = promises.refused (record { number = n; place = p })

unfoldable pub reading : ℕ → List ℕ → ℕ → ℕ → Reading
reading form u block_rows range_rows = as_reading (read_with form u block_rows range_rows)

-- ---- strictly: the flag of form 2 is 0, and no byte stays unread

-- the lowest byte of these stretches, from a byte up to another, or n where none is lower
unfoldable pub lowest : ℕ → List (ℕ × ℕ) → ℕ
lowest n [] = n
lowest n (x ∷ xs) = lowest (when ltb x.0 x.1 then min x.0 n else n) xs

-- behind the delete set, behind the texts taken, in each column
unfoldable pub unread : List ℕ → Standing × ℕ → ℕ
unread u x = lowest (length u) ((x.1, length u) ∷ (x.0.text, x.0.texts) ∷ map (λ (c : Lane). (c.at, c.to)) x.0.columns)

unfoldable pub strictly : ℕ → List ℕ → ℕ → ℕ → Reading
strictly form u block_rows range_rows =
    when eqb (early form u) 0 && eqb form 2 && ltb 0 (get_or u 0 0) then promises.refused (nowhere 14)
    else as_reading (on (read_with form u block_rows range_rows) λ x s. when ltb (unread u s) (length u) then refused 15 (unread u s) else got x s)

-- ---- with no rows lent: there are no more blocks than may be announced, and a range takes two bytes and more

abbrev pub all_of : ℕ → List ℕ → Got (Standing × ℕ) (List Block × List Range)
all_of form u = read_with form u 65535 (length u)

-- the stored part of block n, a binary's or a text's
unfoldable pub part_in : Block → Where
part_in b = when eqb b.kind 4 || eqb b.kind 5 then record { refusal = none; part = b.part } else record { refusal = nowhere 11; part = part 0 0 }

unfoldable pub where_of : ℕ → List ℕ → ℕ → Where
where_of form u n = comes_to (λ x s. part_in (get_or x.0 n (bare 0 0 0 0))) (λ why. record { refusal = why; part = part 0 0 }) (all_of form u)

-- ---- read beside something else

-- an update that reads, and then what else is read, whose refusal blames no byte
unfoldable pub both : {A B : Type 0} → Reading → Got ℕ B → (Refusal → A) → (B → A) → A
both r v refuse go = when eqb r.refusal.number 0 then comes_to (λ x _. go x) (λ why. refuse (nowhere why.number)) v else refuse r.refusal
