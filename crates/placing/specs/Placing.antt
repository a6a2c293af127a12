-- What is found by halving: whether ranges hold an id, and which row of a client's holds it; and a block that hangs on the numbers of other blocks.
use Rattle.std.specs.Prelude.{ℕ, suc, ◌+◌, ◌-◌, Bool, true, false, List, [], ◌∷◌, ltb, leb, eqb, length, get_or}
use Rattle.numbers.specs.Number.{pick}
use Rattle.numbers.specs.Limits.{max_clock}
use Rattle.block.specs.declared.Id.{Id}
use Rattle.block.specs.declared.Block.{Block}
use Rattle.block.specs.Row.{no_block}
use Rattle.block.specs.Rows.{ids_are, parent_is, plain}
use Rattle.block.specs.Kinds.{GC, SKIP}
use Rattle.ranges.specs.Ranges.{Range}
use Rattle.ranges.specs.TableInner.{row}
use Rattle.slots.specs.Slots.{Slot, slot, rank, is_named}
use Rattle.picker.specs.declared.stages.Dependency.{Dependency}
use Rattle.picker.specs.Waits.{dep, no_dependency}
use Rattle.picker.specs.Stages.{stage_at}
use Rattle.placing.specs.declared.Span.{Span}
use Rattle.placing.specs.Halving.{span, clipped, found}

-- ---- whether n ranges, highest client first and clocks rising, hold an id

-- a range lies wholly before the id
unfoldable pub is_before : Range → Id → Bool
is_before r d = pick (ltb d.client r.client) true (pick (ltb r.client d.client) false (leb (r.clock + r.len) d.clock))

-- range i, if it is one of them, begins at or below it
unfoldable pub begins : List ℕ → ℕ → ℕ → Id → Bool
begins w n i d = pick (ltb i n) (pick (eqb (row w i).client d.client) (leb (row w i).clock d.clock) false) false

unfoldable pub is_held : List ℕ → ℕ → Id → Bool
is_held w n d = begins w n (found (λ i. is_before (row w i) d) 0 n) d

-- ---- which of a client's rows holds a clock

-- the rows of a client, whose number and count are no higher than a clock
unfoldable pub span_at : Slot → Span
span_at s = pick (ltb max_clock s.first) (span 0 0) (pick (ltb max_clock s.count) (span 0 0) (span s.first (s.first + s.count)))

unfoldable pub span_of : List Slot → ℕ → Span
span_of ss c = pick (is_named c ss) (span_at (get_or ss (rank c ss) (slot 0 0 0))) (span 0 0)

-- a block that ends at or below it
unfoldable pub past_row : Block → ℕ → Bool
past_row b k = leb (b.clock + b.length.0) k

-- a number as a clock
unfoldable pub capped : ℕ → ℕ
capped n = pick (ltb max_clock n) max_clock n

-- the number of row i among them, if its block is no Skip and starts at or below the clock; else one that no count comes to
unfoldable pub number_at : Span → ℕ → Block → ℕ → ℕ
number_at s i b k =
    pick (ltb i s.hi) (pick (eqb b.kind SKIP) max_clock (pick (ltb k b.clock) max_clock (capped (i - s.lo)))) max_clock

-- the first row that does not end at or below the clock
unfoldable pub sought : List Block → Span → ℕ → ℕ
sought rows s k = found (λ i. past_row (get_or rows i no_block) k) (clipped s (length rows)).lo (clipped s (length rows)).hi

unfoldable pub held_by : List Block → Span → ℕ → ℕ
held_by rows s k = pick (ltb (sought rows s k) (length rows)) (number_at s (sought rows s k) (get_or rows (sought rows s k) no_block) k) max_clock

-- ---- a block by number

abbrev pub on_number : ℕ → ℕ → Dependency
on_number c n = dep true (record { client = c; clock = n })

-- it is there, and its id is not held at first
unfoldable pub is_asked : List ℕ → ℕ → Dependency → Bool
is_asked w h a = pick a.there (pick (is_held w h a.id) false true) false

-- then on the holder of its id
unfoldable pub placed_dep : List ℕ → ℕ → List Slot → List Block → Dependency → Dependency
placed_dep w h ss rows a =
    pick (is_asked w h a) (on_number a.id.client (held_by rows (span_of ss a.id.client) a.id.clock)) no_dependency

-- the row of a client's first block
unfoldable pub first_of : List Slot → ℕ → ℕ
first_of ss c = (get_or ss (rank c ss) (slot 0 0 0)).first

unfoldable pub numbered_block : List Slot → ℕ → Block → Dependency → Dependency → Dependency → Block
numbered_block ss i b left right parent =
    ids_are left.there left.id right.there right.id
    (parent_is parent.there parent.id (plain b.client (capped (i - first_of ss b.client)) 1 GC))

-- row i by number, its stages being those of rule 28
unfoldable pub row_by : List ℕ → ℕ → List Slot → List Block → ℕ → Block → Block
row_by w h ss rows i b =
    numbered_block ss i b (placed_dep w h ss rows (stage_at 28 b 0)) (placed_dep w h ss rows (stage_at 28 b 1)) (placed_dep w h ss rows (stage_at 28 b 2))

-- these rows, the first of which is row i of all
unfoldable pub rows_by : List ℕ → ℕ → List Slot → List Block → ℕ → List Block → List Block
rows_by w h ss rows i [] = []
rows_by w h ss rows i (b ∷ bs) = row_by w h ss rows i b ∷ rows_by w h ss rows (suc i) bs
