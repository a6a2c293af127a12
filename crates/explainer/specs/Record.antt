-- Lines read as a record: what each of them, by its field's number, puts into the row of its block.
use Rattle.std.specs.Prelude.{ℕ, List, [], ◌∷◌, eqb}
use Rattle.numbers.specs.Number.{pick}
use Rattle.text.specs.declared.Part.{Part}
use Rattle.block.specs.declared.Block.{Block}
use Rattle.block.specs.Row.{no_part, no_block}
use Rattle.block.specs.Rows.{plain, with_left, with_right, with_parent, with_name, with_key, with_mark, with_type, with_content}
use Rattle.block.specs.Kinds.{GC, SKIP, DELETED, BINARY, TEXT, FORMAT, TYPE, ANY}
use Rattle.origins.specs.declared.Line.{Line}

-- the client of a section, and the clock of a block, which begins a row
unfoldable pub head_row : ℕ → ℕ → Block → Block
head_row code v b = pick (eqb code 3) (plain v 0 0 0) (pick (eqb code 5) (plain b.client v 0 0) b)

-- ids: client, then clock
unfoldable pub id_row : ℕ → ℕ → Block → Block
id_row code v b =
    pick (eqb code 9) (with_left (record { client = v; clock = 0 }) b)
    (pick (eqb code 10) (with_left (record { client = b.left_client; clock = v }) b)
    (pick (eqb code 11) (with_right (record { client = v; clock = 0 }) b)
    (pick (eqb code 12) (with_right (record { client = b.right_client; clock = v }) b)
    (pick (eqb code 15) (with_parent (record { client = v; clock = 0 }) b)
    (pick (eqb code 16) (with_parent (record { client = b.parent_client; clock = v }) b) b)))))

-- lengths and contents
unfoldable pub content_row : ℕ → ℕ → Part → Block → Block
content_row code v p b =
    pick (eqb code 7) (plain b.client b.clock v SKIP)
    (pick (eqb code 8) (plain b.client b.clock v GC)
    (pick (eqb code 18) (with_content DELETED (record { 0 = v }) no_part b)
    (pick (eqb code 19) (with_content BINARY (record { 0 = 1 }) p b)
    (pick (eqb code 20) (with_content TEXT (record { 0 = v }) p b)
    (pick (eqb code 22) (with_content FORMAT (record { 0 = 1 }) p b)
    (pick (eqb code 23) (with_type v (with_content TYPE (record { 0 = 1 }) no_part b))
    (pick (eqb code 25) (with_content ANY (record { 0 = v }) no_part b)
    (pick (eqb code 26) (with_content ANY b.length p b) b))))))))

-- names, keys and marks
unfoldable pub name_row : ℕ → Part → Block → Block
name_row code p b =
    pick (eqb code 14) (with_name p b)
    (pick (eqb code 17) (with_key p b) (pick (eqb code 21) (with_mark p b) (pick (eqb code 24) (with_mark p b) b)))

unfoldable pub rowed : ℕ → ℕ → Part → Block → Block
rowed code v p b = name_row code p (content_row code v p (id_row code v (head_row code v b)))

-- the row that lines tell, line by line
unfoldable pub row_by : List Line → Block → Block
row_by [] b = b
row_by (l ∷ ls) b = row_by ls (rowed l.field l.value l.part b)

abbrev pub row_of : List Line → Block
row_of ls = row_by ls no_block
