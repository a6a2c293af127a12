-- What the listing program prints: the lines of an update's blocks and delete ranges, or one line. 32 is the space, 10 the line's end.
use Rattle.std.specs.Prelude.{ℕ, cond, List, [], ◌∷◌, ◌++◌, length, eqb}
use Rattle.numbers.specs.declared.Refusal.{Refusal}
use Rattle.block.specs.declared.Block.{Block}
use Rattle.block.specs.Kinds.{GC, SKIP, DELETED, BINARY, TEXT, FORMAT, TYPE, ANY}
use Rattle.ranges.specs.Ranges.{Range}
use Rattle.lines.specs.Lines.{decimal}
use Rattle.listing_text.specs.Words.{word_form, word_blocks, word_ranges, word_refused, word_at, word_empty, word_end, word_gc, word_skip, word_deleted, word_binary, word_text, word_format, word_type, word_any}

-- a number with the byte that ends it
unfoldable pub number_then : ℕ → ℕ → List ℕ
number_then v end = decimal v ++ (end ∷ [])

-- a word before it
unfoldable pub named : List ℕ → ℕ → ℕ → List ℕ
named word v end = word ++ number_then v end

-- the name of a block's kind; a row that has no block has none
unfoldable pub kind_name : ℕ → List ℕ
kind_name kind =
    cond (eqb kind GC) word_gc
    (cond (eqb kind SKIP) word_skip
    (cond (eqb kind DELETED) word_deleted
    (cond (eqb kind BINARY) word_binary
    (cond (eqb kind TEXT) word_text
    (cond (eqb kind FORMAT) word_format (cond (eqb kind TYPE) word_type (cond (eqb kind ANY) word_any [])))))))

unfoldable pub block_line : Block → List ℕ
block_line b = number_then b.client 32 ++ number_then b.clock 32 ++ number_then b.length.0 32 ++ kind_name b.kind ++ (10 ∷ [])

unfoldable pub block_lines : List Block → List ℕ
block_lines [] = []
block_lines (b ∷ bs) = block_line b ++ block_lines bs

unfoldable pub range_line : Range → List ℕ
range_line r = number_then r.client 32 ++ number_then r.clock 32 ++ number_then r.len 10

unfoldable pub range_lines : List Range → List ℕ
range_lines [] = []
range_lines (r ∷ rs) = range_line r ++ range_lines rs

unfoldable pub header : ℕ → ℕ → ℕ → List ℕ
header form blocks ranges = named word_form form 32 ++ named word_blocks blocks 32 ++ named word_ranges ranges 10

unfoldable pub end_line : List ℕ
end_line = word_end ++ (10 ∷ [])

-- all that is printed of an update
unfoldable pub listing : ℕ → List Block → List Range → List ℕ
listing form blocks ranges = header form (length blocks) (length ranges) ++ block_lines blocks ++ range_lines ranges ++ end_line

-- all that is printed of the empty update, and of a refusal
unfoldable pub empty_line : List ℕ
empty_line = word_empty ++ (10 ∷ [])

unfoldable pub refused_line : Refusal → List ℕ
refused_line why = named word_refused why.number 32 ++ named word_at why.place 10
