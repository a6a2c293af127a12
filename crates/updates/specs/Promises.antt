-- What `read_update` promises: the blocks kept and the delete ranges in normal form, or a refusal: its number, and the byte of
-- the update that it blames.
use Rattle.std.specs.Prelude.{ℕ, ◌-◌, ◌/◌, ◌≡◌, Bool, true, List, [], ◌++◌, ltb, eqb, length, replicate}
use Rattle.numbers.specs.declared.Refusal.{Refusal}
use Rattle.numbers.specs.Number.{pick, none, nowhere}
use Rattle.numbers.specs.Limits.{max_update}
use Rattle.numbers.specs.Output.{padded}
use Rattle.block.specs.declared.Block.{Block}
use Rattle.block.specs.Row.{no_block}
use Rattle.grammar.specs.Course.{Course, fit, things, ending}
use Rattle.ranges.specs.Ranges.{Range, normal}
use Rattle.ranges.specs.Table.{flat}
use Rattle.decoder.specs.Update.{blocks_of, delete_set}
use Rattle.updates.specs.declared.Update.{Update}

pub record Reading : Type 0 where
  pub refusal : Refusal
  pub blocks : List Block
  pub ranges : List Range

abbrev pub refused : Refusal → Reading
refused why = record { refusal = why; blocks = []; ranges = [] }

-- ---- reading with so many block rows and so many range rows

unfoldable pub with_ranges : List Block → Course Range → Reading
with_ranges bs c = ending c (λ s. record { refusal = none; blocks = bs; ranges = normal (things c) }) (λ why. refused why)

unfoldable pub with_blocks : ℕ → List ℕ → ℕ → Course Block → Reading
with_blocks form u rows c = ending c (λ at. with_ranges (things c) (fit rows (delete_set form u at))) (λ why. refused why)

unfoldable pub known : ℕ → Bool
known form = pick (eqb form 1) true (eqb form 2)

-- the form, then the update's length, are looked at before the update is read, and blame no byte; 0 is no refusal
unfoldable pub early : ℕ → List ℕ → ℕ
early form u = pick (known form) (pick (ltb max_update (length u)) 3 0) 12

unfoldable pub reading : ℕ → List ℕ → ℕ → ℕ → Reading
reading form u block_rows range_rows =
    pick (eqb (early form u) 0) (with_blocks form u range_rows (fit block_rows (blocks_of form u)))
    (refused (nowhere (early form u)))

-- ---- what `read_update` gives, and what it leaves in n rows and in n words, three a range row

unfoldable pub answer : Reading → Update
answer r = record { refusal = r.refusal; blocks = length r.blocks; ranges = length r.ranges }

unfoldable pub table_of : ℕ → Reading → List Block
table_of n r = r.blocks ++ replicate (n - length r.blocks) no_block

unfoldable pub range_words : ℕ → Reading → List ℕ
range_words n r = padded n (flat r.ranges)

-- what a reading x leaves: the answer r, with these rows and words at entry and at exit
abbrev pub Leaves : Reading → List Block → List ℕ → Update → List Block → List ℕ → Type 0
Leaves x rows words r rows₁ words₁ = (r ≡ answer x) × (rows₁ ≡ table_of (length rows) x) × (words₁ ≡ range_words (length words) x)

abbrev pub ReadUpdate : ℕ → List ℕ → List Block → List ℕ → Update → List Block → List ℕ → Type 0
ReadUpdate form u rows words = Leaves (reading form u (length rows) (length words / 3)) rows words
