-- What `sort_held` promises: an update that is read, sorted by held ids that are read.
use Rattle.std.specs.Prelude.{ℕ, ◌/◌, ◌≡◌, List, eqb, length}
use Rattle.numbers.specs.Number.{pick, none, nowhere}
use Rattle.numbers.specs.Output.{padded}
use Rattle.block.specs.declared.Block.{Block}
use Rattle.grammar.specs.Course.{Course, fit, things, ending}
use Rattle.ranges.specs.Ranges.{Range, normal}
use Rattle.ranges.specs.Table.{flat}
use Rattle.decoder.specs.Update.{delete_set}
use Rattle.updates.specs.Promises.{Reading, reading, table_of, range_words}
use Rattle.sorting.specs.Held.{order_held, counts_held, pending_held}
use Rattle.sort_answers.specs.Answers.{Room, why_not}
use Rattle.held_answers.specs.declared.SortedHeld.{SortedHeld}
use Rattle.held_answers.specs.Answers.{SortHeld, refused_with, answered}

-- no reaches are reported
abbrev pub lent : List ℕ → List ℕ → List ℕ → Room
lent order counts pending = record { order = length order; counts = length counts; reaches = 0; pending = length pending }

-- ---- an update of a form, sorted by held ids, with so many rows and words lent

-- what a sorter finds of blocks, by what ranges hold: the numbers of the blocks that are taken, in order, and the reports
pub record Findings : Type 0 where
  pub order : List ℕ
  pub counts : List ℕ
  pub pending : List ℕ

abbrev pub Finder : Type 0
Finder = List Block → List Range → Findings

-- the order that takes the highest client at each step (another sorter's order is W-211's)
abbrev pub quickly : Finder
quickly bs rs = record { order = order_held bs rs; counts = counts_held bs rs; pending = pending_held bs rs }

-- what was read, sorted by what these ranges hold
unfoldable pub sorted_all : Finder → List Range → Reading → SortHeld
sorted_all F rs r =
    let x = F r.blocks rs in
    record { refusal = none; order = x.order; counts = x.counts; pending = x.pending; held = rs; reading = r }

unfoldable pub why_sort : Room → SortHeld → ℕ
why_sort m s = why_not m (length s.order) (length s.counts) 0 (length s.pending)

-- all of it or nothing; too little room blames no byte
unfoldable pub fitting : Room → SortHeld → SortHeld
fitting m s = pick (eqb (why_sort m s) 0) s (refused_with (nowhere (why_sort m s)))

-- the held ids are read after the update, and their refusal blames no byte; they stand in normal form
unfoldable pub against : Finder → Room → Course Range → Reading → SortHeld
against F m c r = ending c (λ s. fitting m (sorted_all F (normal (things c)) r)) (λ why. refused_with (nowhere why.number))

unfoldable pub after_reading : Finder → Room → Course Range → Reading → SortHeld
after_reading F m c r = pick (eqb r.refusal.number 0) (against F m c r) (refused_with r.refusal)

-- held ids are laid out as a form 1 delete set, from byte 0 on
unfoldable pub sort_held_by : Finder → ℕ → List ℕ → List ℕ → ℕ → ℕ → ℕ → Room → SortHeld
sort_held_by F form u v block_rows range_rows held_rows m = after_reading F m (fit held_rows (delete_set 1 v 0)) (reading form u block_rows range_rows)

abbrev pub sort_held_of : ℕ → List ℕ → List ℕ → ℕ → ℕ → ℕ → Room → SortHeld
sort_held_of = sort_held_by quickly

-- ---- what `sort_held` gives, and what it leaves in all that is lent

-- what a sort s leaves: the answer r, with these rows and words at entry and at exit
abbrev pub Leaves : SortHeld → List Block → List ℕ → List ℕ → List ℕ → List ℕ → List ℕ
    → SortedHeld → List Block → List ℕ → List ℕ → List ℕ → List ℕ → List ℕ → Type 0
Leaves s rows ranges held order counts pending r rows₁ ranges₁ held₁ order₁ counts₁ pending₁ =
    (r ≡ answered s)
    × (rows₁ ≡ table_of (length rows) s.reading)
    × (ranges₁ ≡ range_words (length ranges) s.reading)
    × (held₁ ≡ padded (length held) (flat s.held))
    × (order₁ ≡ padded (length order) s.order)
    × (counts₁ ≡ padded (length counts) s.counts)
    × (pending₁ ≡ padded (length pending) s.pending)

abbrev pub SortUpdateHeld : ℕ → List ℕ → List ℕ → List Block → List ℕ → List ℕ → List ℕ → List ℕ → List ℕ
    → SortedHeld → List Block → List ℕ → List ℕ → List ℕ → List ℕ → List ℕ → Type 0
SortUpdateHeld form u v rows ranges held order counts pending =
    Leaves (sort_held_of form u v (length rows) (length ranges / 3) (length held / 3) (lent order counts pending)) rows ranges held order counts pending
