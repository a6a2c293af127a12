-- What `read_update_strict` promises: what `read_update` does, with two conditions more: the flag of form 2 is 0, and no byte stays unread.
use Rattle.std.specs.Prelude.{ℕ, ◌/◌, Bool, false, List, ltb, eqb, length, get_or}
use Rattle.numbers.specs.Number.{pick, nowhere}
use Rattle.block.specs.declared.Block.{Block}
use Rattle.leftover.specs.Leftover.{lowest_left}
use Rattle.updates.specs.declared.Update.{Update}
use Rattle.updates.specs.Promises.{Reading, refused, early, reading, Leaves}

-- form 2 has a flag, and it is not 0
unfoldable pub flagged : ℕ → List ℕ → Bool
flagged form u = pick (eqb form 1) false (ltb 0 (get_or u 0 0))

-- before the update is read: its form and its length, then its flag (14), at place 0
unfoldable pub beforehand : ℕ → List ℕ → ℕ
beforehand form u = pick (eqb (early form u) 0) (pick (flagged form u) 14 0) (early form u)

-- after it is read, delete set too: the lowest byte that stays unread (15)
unfoldable pub explained : ℕ → List ℕ → Reading → Reading
explained form u r =
    pick (eqb r.refusal.number 0)
    (pick (ltb (lowest_left form u) (length u)) (refused (record { number = 15; place = lowest_left form u })) r) r

unfoldable pub strictly : ℕ → List ℕ → ℕ → ℕ → Reading
strictly form u block_rows range_rows =
    pick (eqb (beforehand form u) 0) (explained form u (reading form u block_rows range_rows)) (refused (nowhere (beforehand form u)))

abbrev pub ReadStrictly : ℕ → List ℕ → List Block → List ℕ → Update → List Block → List ℕ → Type 0
ReadStrictly form u rows words = Leaves (strictly form u (length rows) (length words / 3)) rows words
