-- What the four sorts promise: an update that reads, sorted against a state vector by a rule, or by held ids; quickly, or slowly.
use Rattle.std.specs.Prelude.{ℕ, ◌/◌, ◌≡◌, Bool, ◌||◌, List, [], ltb, eqb, length}
use Rattle.numbers.specs.declared.Refusal.{Refusal}
use Rattle.numbers.specs.Number.{none, nowhere}
use Rattle.numbers.specs.Output.{padded}
use Rattle.block.specs.declared.Id.{Id}
use Rattle.block.specs.declared.Block.{Block}
use Rattle.ranges.specs.Ranges.{Range, normal}
use Rattle.ranges.specs.Table.{flat}
use Rattle.updates.specs.Promises.{Reading, table_of, range_words}
use Rattle.updates.specs.Promises as promises
use Rattle.kept.specs.Kept.{remote}
use Rattle.sorting.specs.Named.{rule_of}
use Rattle.sorting.specs.Quick.{quick}
use Rattle.sorting.specs.Slow.{slow}
use Rattle.sorting.specs.Held.{rule_held, held_in}
use Rattle.sorting.specs.Sorted.{all_clients, reaches_in}
use Rattle.sort_answers.specs.declared.Sorted.{Sorted}
use Rattle.held_answers.specs.declared.SortedHeld.{SortedHeld}
use Rattle.meaning.specs.Reads.{when◌then◌else◌}
use Rattle.meaning.specs.Vector.{vector}
use Rattle.meaning.specs.Update.{delete_set}
use Rattle.meaning_calls.specs.Reading.{reading, both}
use Rattle.meaning_sorts.specs.Found.{Sorter, found}

-- the numbers of the blocks that are taken, in order; the reports in words; the held ids that were given
pub record Sort : Type 0 where
  pub refusal : Refusal
  pub order : List ℕ
  pub counts : List ℕ
  pub reaches : List ℕ
  pub pending : List ℕ
  pub held : List Range
  pub reading : Reading

abbrev pub nothing : Refusal → Sort
nothing why = record { refusal = why; order = []; counts = []; reaches = []; pending = []; held = []; reading = promises.refused why }

-- against a vector; an unknown rule is 12, after the form and before anything of the update
unfoldable pub sorted : Sorter ℕ → ℕ → ℕ → List ℕ → List ℕ → ℕ → ℕ → Sort
sorted sorter rule form u v block_rows range_rows =
    let r = reading form u block_rows range_rows in
    when eqb rule 13 || eqb rule 28 then (both r (vector v) nothing λ es.
    let cs = all_clients r.blocks es in
    let x = found sorter (rule_of rule) r.blocks cs (remote es) in
    record { refusal = none; order = x.order; counts = x.counts; reaches = reaches_in x.end cs; pending = x.pending; held = []; reading = r })
    else nothing (nowhere 12)

-- by held ids, which are laid out as a form 1 delete set; no reaches are reported
unfoldable pub sorted_held : Sorter Id → ℕ → List ℕ → List ℕ → ℕ → ℕ → ℕ → Sort
sorted_held sorter form u v block_rows range_rows held_rows =
    let r = reading form u block_rows range_rows in
    both r (delete_set 1 v held_rows 0) nothing λ rs.
    let x = found sorter rule_held r.blocks (all_clients r.blocks []) (held_in (normal rs)) in
    record { refusal = none; order = x.order; counts = x.counts; reaches = []; pending = x.pending; held = normal rs; reading = r }

-- in the words lent: more steps than the order has words are 8, then a report that is too long 10
unfoldable pub fitting : List ℕ → List ℕ → List ℕ → List ℕ → Sort → Sort
fitting order counts reaches pending s =
    let over : List ℕ → List ℕ → Bool = λ words lent. ltb (length lent) (length words) in
    when over s.order order then nothing (nowhere 8)
    else when over s.counts counts || (over s.reaches reaches || over s.pending pending) then nothing (nowhere 10) else s

-- ---- what is answered, and what is left in all that is lent, at entry and at exit

abbrev pub Sorting : Type 1
Sorting =
    ℕ → ℕ → List ℕ → List ℕ → List Block → List ℕ → List ℕ → List ℕ → List ℕ → List ℕ → Sorted
    → List Block → List ℕ → List ℕ → List ℕ → List ℕ → List ℕ → Type 0

abbrev pub SortsBy : Sorter ℕ → Sorting
SortsBy sorter rule form u v rows ranges order counts reaches pending r rows₁ ranges₁ order₁ counts₁ reaches₁ pending₁ =
    let s = fitting order counts reaches pending (sorted sorter rule form u v (length rows) (length ranges / 3)) in
    (r ≡ record {
      refusal = s.refusal;
      steps = length s.order;
      counts = length s.counts / 2;
      reaches = length s.reaches / 2;
      pending = length s.pending / 3;
      blocks = length s.reading.blocks;
      ranges = length s.reading.ranges;
    })
    × (rows₁ ≡ table_of (length rows) s.reading) × (ranges₁ ≡ range_words (length ranges) s.reading)
    × (order₁ ≡ padded (length order) s.order) × (counts₁ ≡ padded (length counts) s.counts)
    × (reaches₁ ≡ padded (length reaches) s.reaches) × (pending₁ ≡ padded (length pending) s.pending)

abbrev pub SortUpdate : Sorting
SortUpdate = SortsBy quick

abbrev pub SortSlowly : Sorting
SortSlowly = SortsBy slow

abbrev pub SortingHeld : Type 1
SortingHeld =
    ℕ → List ℕ → List ℕ → List Block → List ℕ → List ℕ → List ℕ → List ℕ → List ℕ → SortedHeld
    → List Block → List ℕ → List ℕ → List ℕ → List ℕ → List ℕ → Type 0

abbrev pub SortsHeldBy : Sorter Id → SortingHeld
SortsHeldBy sorter form u v rows ranges held order counts pending r rows₁ ranges₁ held₁ order₁ counts₁ pending₁ =
    let s = fitting order counts [] pending (sorted_held sorter form u v (length rows) (length ranges / 3) (length held / 3)) in
    (r ≡ record {
      refusal = s.refusal;
      steps = length s.order;
      counts = length s.counts / 2;
      pending = length s.pending / 3;
      blocks = length s.reading.blocks;
      ranges = length s.reading.ranges;
      held = length s.held;
    })
    × (rows₁ ≡ table_of (length rows) s.reading) × (ranges₁ ≡ range_words (length ranges) s.reading)
    × (held₁ ≡ padded (length held) (flat s.held)) × (order₁ ≡ padded (length order) s.order)
    × (counts₁ ≡ padded (length counts) s.counts) × (pending₁ ≡ padded (length pending) s.pending)

abbrev pub SortUpdateHeld : SortingHeld
SortUpdateHeld = SortsHeldBy quick

abbrev pub SortHeldSlowly : SortingHeld
SortHeldSlowly = SortsHeldBy slow
