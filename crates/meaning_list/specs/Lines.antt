-- What `list` prints: an input is a form byte with the update after it.
use Rattle.std.specs.Prelude.{ℕ, ◌&&◌, ◌||◌, List, [], ◌∷◌, ◌++◌, ltb, eqb, length}
use Prim.Native.Char.{code}
use Prim.Native.String as string
use Prim.Native.String.{String}
use Rattle.block.specs.declared.Block.{Block}
use Rattle.ranges.specs.Ranges.{Range}
use Rattle.updates.specs.Promises.{Reading}
use Rattle.lines.specs.Lines.{decimal}
use Rattle.meaning.specs.Reads.{when◌then◌else◌}
use Rattle.meaning_calls.specs.Reading.{reading}
use Rattle.meaning_written.specs.Diff.{each, same}

unfoldable pub ascii : String → List ℕ
ascii string.[] = []
ascii (string.◌∷◌ c s) = code c ∷ ascii s

-- a number with what follows it
unfoldable pub number_then : ℕ → String → List ℕ
number_then v s = decimal v ++ ascii s

-- a row that has no block has no name
unfoldable pub kind_name : ℕ → String
kind_name kind =
    when eqb kind 1 then "gc" else when eqb kind 2 then "skip" else when eqb kind 3 then "deleted" else when eqb kind 4 then "binary"
    else when eqb kind 5 then "text" else when eqb kind 6 then "format" else when eqb kind 7 then "type" else when eqb kind 8 then "any" else ""

unfoldable pub block_line : Block → List ℕ
block_line b =
    number_then b.client " " ++ (number_then b.clock " " ++ (number_then b.length.0 " " ++ (ascii (kind_name b.kind) ++ ascii "\n")))

unfoldable pub range_line : Range → List ℕ
range_line r = number_then r.client " " ++ (number_then r.clock " " ++ number_then r.len "\n")

unfoldable pub refused_line : ℕ → ℕ → List ℕ
refused_line number place = ascii "refused " ++ (number_then number " at " ++ number_then place "\n")

unfoldable pub lines_of : ℕ → Reading → List ℕ
lines_of form r =
    when eqb r.refusal.number 0 then
    ascii "update form " ++ (number_then form " blocks " ++ (number_then (length r.blocks) " ranges " ++ (number_then (length r.ranges) "\n"
    ++ (each block_line r.blocks ++ (each range_line r.ranges ++ ascii "end\n")))))
    else refused_line r.refusal.number r.refusal.place

-- the empty update of each form; any other is read with 512 rows for blocks and 1,024 for ranges
unfoldable pub listed_update : ℕ → List ℕ → List ℕ
listed_update form u =
    let empty : List ℕ = when eqb form 1 then 0 ∷ 0 ∷ [] else 0 ∷ 0 ∷ 0 ∷ 0 ∷ 0 ∷ 0 ∷ 1 ∷ 0 ∷ 0 ∷ 0 ∷ 0 ∷ 0 ∷ 0 ∷ [] in
    when same u empty && (eqb form 1 || eqb form 2) then ascii "empty\n" else lines_of form (reading form u 512 1024)

-- no form byte is 1, and over 65,536 bytes are 3
unfoldable pub listed : List ℕ → List ℕ
listed [] = refused_line 1 0
listed (form ∷ u) = when ltb 65536 (length (form ∷ u)) then refused_line 3 0 else listed_update form u
