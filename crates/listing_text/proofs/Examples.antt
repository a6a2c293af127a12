-- Lines as document 01 prints them.
use mathlib.Core.Path.{◌≡◌, refl}
use mathlib.Core.List.{[], ◌∷◌}
use Rattle.block.specs.declared.Block.{Block}
use Rattle.block.specs.Rows.{plain}
use Rattle.block.specs.Kinds.{TEXT}
use Rattle.ranges.specs.Table.{range}
use Rattle.lines.specs.Lines.{digits, decimal}
use Rattle.listing_text.specs.Listing.{number_then, named, kind_name, block_line, block_lines, range_line, range_lines, header, end_line, listing, empty_line, refused_line}

-- two units of text, client 5's first
abbrev two : Block
two = plain 5 0 2 TEXT

pub examples :
    -- update form 1 blocks 1 ranges 0, 5 0 2 text, end
    (listing 1 (two ∷ []) [] ≡ 117 ∷ 112 ∷ 100 ∷ 97 ∷ 116 ∷ 101 ∷ 32 ∷ 102 ∷ 111 ∷ 114 ∷ 109 ∷ 32 ∷ 49 ∷ 32 ∷ 98 ∷ 108 ∷ 111 ∷ 99 ∷ 107 ∷ 115 ∷ 32 ∷ 49 ∷ 32 ∷ 114 ∷ 97 ∷ 110 ∷ 103 ∷ 101 ∷ 115 ∷ 32 ∷ 48 ∷ 10 ∷ 53 ∷ 32 ∷ 48 ∷ 32 ∷ 50 ∷ 32 ∷ 116 ∷ 101 ∷ 120 ∷ 116 ∷ 10 ∷ 101 ∷ 110 ∷ 100 ∷ 10 ∷ [])
    -- 9007199254740991 7 10
    × (range_line (range 9007199254740991 7 10) ≡ 57 ∷ 48 ∷ 48 ∷ 55 ∷ 49 ∷ 57 ∷ 57 ∷ 50 ∷ 53 ∷ 52 ∷ 55 ∷ 52 ∷ 48 ∷ 57 ∷ 57 ∷ 49 ∷ 32 ∷ 55 ∷ 32 ∷ 49 ∷ 48 ∷ 10 ∷ [])
    -- empty
    × (empty_line ≡ 101 ∷ 109 ∷ 112 ∷ 116 ∷ 121 ∷ 10 ∷ [])
    -- refused 13 at 207
    × (refused_line (record { number = 13; place = 207 }) ≡ 114 ∷ 101 ∷ 102 ∷ 117 ∷ 115 ∷ 101 ∷ 100 ∷ 32 ∷ 49 ∷ 51 ∷ 32 ∷ 97 ∷ 116 ∷ 32 ∷ 50 ∷ 48 ∷ 55 ∷ 10 ∷ [])
unfolding digits decimal number_then named kind_name block_line block_lines range_line range_lines header end_line listing empty_line refused_line
examples = (refl, refl, refl, refl)
