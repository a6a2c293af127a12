-- The row that is being read, as words: one for each field, `has_left` before the left id and so on. And what a part of a block leaves in it.
use Rattle.std.specs.Prelude.{Option, Some, None}
use Rattle.std.specs.Prelude.{ℕ, ◌+◌, ◌≤◌, ◌≡◌, List, eqb, length, get_or}
use Rattle.block.specs.declared.Id.{Id}
use Rattle.block.specs.declared.Block.{Block}
use Rattle.block.specs.Row.{no_block}
use Rattle.block.specs.Rows.{head_is, ids_are, root_is, with_part, mark_is}
use Rattle.grammar.specs.Grammar.{Grammar}
use Rattle.grammar.specs.Course as course
use Rattle.grammar.specs.Course.{CourseTo, run}
use Rattle.decoder.specs.States.{State}
use Rattle.decoder.specs.ColumnedInner.{fields}
use Rattle.cells.specs.Cells.{state_in, why_in, Small, part_in}

unfoldable pub id_in : List ℕ → ℕ → Id
id_in r k = record { client = get_or r k 0; clock = get_or r (k + 1) 0 }

unfoldable pub row_in : List ℕ → Block
row_in r =
    head_is (get_or r 0 0) (get_or r 1 0) (record { 0 = get_or r 2 0 }) (get_or r 3 0)
    (ids_are (eqb (get_or r 4 0) 1) (id_in r 5) (eqb (get_or r 7 0) 1) (id_in r 8)
    (root_is (eqb (get_or r 10 0) 1) (id_in r 11) (eqb (get_or r 13 0) 1) (part_in r 14) (eqb (get_or r 16 0) 1) (part_in r 17)
    (with_part (part_in r 19) (mark_is (part_in r 21) (get_or r 23 0) no_block))))

-- clocks are u32, the kind is u8 and the type number u16 in a row
pub record Narrow (r : List ℕ) : Type 0 where
  pub size : length r ≡ 24
  pub clock : get_or r 1 0 ≤ 4294967295
  pub kind : get_or r 3 0 ≤ 255
  pub left : get_or r 6 0 ≤ 4294967295
  pub right : get_or r 9 0 ≤ 4294967295
  pub parent : get_or r 12 0 ≤ 4294967295
  pub type : get_or r 23 0 ≤ 65535

-- an answer, with the words v and the row q that it leaves
unfoldable pub onto : List ℕ → List ℕ → Option (Unit {0}) → CourseTo State Block Block
onto v q (Some tt) = course.over (row_in q) (state_in v)
onto v q None = course.stopped (why_in v)

-- what the grammar x reads of either form, from words w
abbrev pub Reads : {A : Type 0} → ℕ → List ℕ → List ℕ → Grammar Block A → CourseTo State Block A
Reads form u w x = run (fields form u) x (state_in w)

-- a part of a block that the grammar x says
abbrev pub Put : ℕ → List ℕ → List ℕ → List ℕ → List ℕ → Option (Unit {0}) → Grammar Block Block → Type 0
Put form u w v q f x = Small v × Narrow q × (onto v q f ≡ Reads form u w x)
