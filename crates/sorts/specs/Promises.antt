-- What `sort` promises: an update that is read, sorted by a rule against a vector that is read.
use Rattle.std.specs.Prelude.{ℕ, ◌/◌, ◌≡◌, List, eqb, length}
use Rattle.numbers.specs.Number.{pick, none, nowhere}
use Rattle.numbers.specs.Output.{padded}
use Rattle.block.specs.declared.Block.{Block}
use Rattle.grammar.specs.Course.{Course, things, ending}
use Rattle.vector.specs.Vector.{Entry, vector_of}
use Rattle.updates.specs.Promises.{Reading, reading, table_of, range_words}
use Rattle.sorting.specs.Rules.{Rule}
use Rattle.sorting.specs.Named.{rule_of}
use Rattle.sorting.specs.Sorted.{order_of, counts_of, reaches_of, pending_of}
use Rattle.sort_answers.specs.declared.Sorted.{Sorted}
use Rattle.sort_answers.specs.Answers.{is_rule, Sort, refused_with, Room, why_not, answered}

abbrev pub lent : List ℕ → List ℕ → List ℕ → List ℕ → Room
lent order counts reaches pending = record { order = length order; counts = length counts; reaches = length reaches; pending = length pending }

-- ---- an update of a form, sorted by a rule against a vector, with so many rows and words lent

-- what a sorter finds of blocks by a rule, against the entries of a vector: the numbers of the blocks that are taken, in order, and the reports
pub record Findings : Type 0 where
  pub order : List ℕ
  pub counts : List ℕ
  pub reaches : List ℕ
  pub pending : List ℕ

abbrev pub Finder : Type 0
Finder = Rule ℕ → List Block → List Entry → Findings

-- the order that takes the highest client at each step (another sorter's order is W-211's)
abbrev pub quickly : Finder
quickly R bs v = record { order = order_of R bs v; counts = counts_of R bs v; reaches = reaches_of R bs v; pending = pending_of R bs v }

-- what was read, sorted against the entries of a vector
unfoldable pub sorted_all : Finder → Rule ℕ → List Entry → Reading → Sort
sorted_all F R v r =
    let x = F R r.blocks v in
    record { refusal = none; order = x.order; counts = x.counts; reaches = x.reaches; pending = x.pending; reading = r }

unfoldable pub why_sort : Room → Sort → ℕ
why_sort m s = why_not m (length s.order) (length s.counts) (length s.reaches) (length s.pending)

-- all of it or nothing; too little room blames no byte
unfoldable pub fitting : Room → Sort → Sort
fitting m s = pick (eqb (why_sort m s) 0) s (refused_with (nowhere (why_sort m s)))

-- the vector is read after the update, and its refusal blames no byte
unfoldable pub against : Finder → Rule ℕ → Room → Course Entry → Reading → Sort
against F R m c r = ending c (λ s. fitting m (sorted_all F R (things c) r)) (λ why. refused_with (nowhere why.number))

unfoldable pub after_reading : Finder → Rule ℕ → Room → Course Entry → Reading → Sort
after_reading F R m c r = pick (eqb r.refusal.number 0) (against F R m c r) (refused_with r.refusal)

-- an unknown rule is 12, after the form (12 too) and before anything of the update
unfoldable pub sort_by : Finder → ℕ → ℕ → List ℕ → List ℕ → ℕ → ℕ → Room → Sort
sort_by F rule form u v block_rows range_rows m =
    pick (is_rule rule) (after_reading F (rule_of rule) m (vector_of v) (reading form u block_rows range_rows)) (refused_with (nowhere 12))

abbrev pub sort_of : ℕ → ℕ → List ℕ → List ℕ → ℕ → ℕ → Room → Sort
sort_of = sort_by quickly

-- ---- what `sort` gives, and what it leaves in all that is lent

-- what a sort s leaves: the answer r, with these rows and words at entry and at exit
abbrev pub Leaves : Sort → List Block → List ℕ → List ℕ → List ℕ → List ℕ → List ℕ
    → Sorted → List Block → List ℕ → List ℕ → List ℕ → List ℕ → List ℕ → Type 0
Leaves s rows ranges order counts reaches pending r rows₁ ranges₁ order₁ counts₁ reaches₁ pending₁ =
    (r ≡ answered s)
    × (rows₁ ≡ table_of (length rows) s.reading)
    × (ranges₁ ≡ range_words (length ranges) s.reading)
    × (order₁ ≡ padded (length order) s.order)
    × (counts₁ ≡ padded (length counts) s.counts)
    × (reaches₁ ≡ padded (length reaches) s.reaches)
    × (pending₁ ≡ padded (length pending) s.pending)

abbrev pub SortUpdate : ℕ → ℕ → List ℕ → List ℕ → List Block → List ℕ → List ℕ → List ℕ → List ℕ → List ℕ
    → Sorted → List Block → List ℕ → List ℕ → List ℕ → List ℕ → List ℕ → Type 0
SortUpdate rule form u v rows ranges order counts reaches pending =
    Leaves (sort_of rule form u v (length rows) (length ranges / 3) (lent order counts reaches pending)) rows ranges order counts reaches pending
