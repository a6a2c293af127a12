-- A piece of a block as a record. A piece that does not begin with its block has the id before it as its left id, and no parent; its key is no longer
-- spelled, but the info byte still says that it had one. A text is cut by its units, a list of plain values by its entries.
use Rattle.std.specs.Prelude.{ℕ, ◌+◌, ◌-◌, Bool, true, false, List, [], ◌∷◌, eqb, drop}
use Rattle.numbers.specs.Number.{pick}
use Rattle.text.specs.declared.Part.{Part}
use Rattle.text.specs.declared.Taken.{Taken}
use Rattle.text.specs.declared.Taken.TheVariants as units
use Rattle.text.specs.Utf8.{take_units}
use Rattle.block.specs.declared.Id.{Id}
use Rattle.block.specs.declared.Block.{Block}
use Rattle.block.specs.Row.{no_id}
use Rattle.block.specs.Rows.{starting_at, lasting, left_is, without_parent, without_name, with_part}
use Rattle.block.specs.Kinds.{is_item, is_text, is_format, is_any}
use Rattle.anys.specs.declared.Skipped.{Skipped}
use Rattle.anys.specs.declared.Skipped.TheVariants as skipped
use Rattle.anys.specs.Any.{anys}
use Rattle.readings.specs.Sound.{bytes_in}
use Rattle.kept.specs.Kept.{Piece, Section}

-- ---- a text's bytes, by units; 9 inside a pair

unfoldable pub bytes_for : Taken → ℕ
bytes_for (units.Took b) = b.0
bytes_for (units.Refused why) = 0

unfoldable pub broken : Taken → Bool
broken (units.Took b) = false
broken (units.Refused why) = true

-- the bytes that the first n units take
abbrev pub bytes_before : List ℕ → ℕ → ℕ
bytes_before t n = bytes_for (take_units 9 n t)

-- the part of a text from unit `from` on, `n` units
unfoldable pub cut_part : List ℕ → Part → ℕ → ℕ → Part
cut_part u p from n =
    let t = bytes_in u p in
    record { place = p.place + bytes_before t from; bytes = record { 0 = bytes_before (drop (bytes_before t from) t) n } }

-- whether one of its ends lies inside a pair
unfoldable pub torn_text : List ℕ → Part → ℕ → ℕ → Bool
torn_text u p from n =
    let t = bytes_in u p in
    pick (broken (take_units 9 from t)) true (broken (take_units 9 n (drop (bytes_before t from) t)))

-- ---- a list's bytes, by entries

-- the bytes that so many plain values take
unfoldable pub span_of : ℕ → Skipped → ℕ
span_of at (skipped.At e) = e - at
span_of at (skipped.Refused why) = 0

abbrev pub span : List ℕ → ℕ → ℕ → ℕ
span u at n = span_of at (anys u 0 n at)

-- the part of a list from entry `from` on, `n` entries
unfoldable pub cut_list : List ℕ → Part → ℕ → ℕ → Part
cut_list u p from n =
    let at = p.place + span u p.place from in
    record { place = at; bytes = record { 0 = span u at n } }

-- ---- a piece

unfoldable pub is_whole : Piece → Bool
is_whole p = pick (eqb p.from 0) (eqb p.to p.row.length.0) false

-- what a text or a list has left; all else keeps its part
unfoldable pub part_of : List ℕ → Piece → Part
part_of u p =
    pick (is_text p.row.kind) (cut_part u p.row.part p.from (p.to - p.from))
    (pick (is_any p.row.kind) (cut_list u p.row.part p.from (p.to - p.from)) p.row.part)

-- the id before a unit of a row; only items have ids
abbrev pub left_of : Block → ℕ → Id
left_of b from = pick (is_item b.kind) (record { client = b.client; clock = b.clock + from - 1 }) no_id

-- a row's units up to one, and between two; its text has this part then
abbrev pub front : ℕ → Part → Block → Block
front to part b = lasting to (with_part part b)

abbrev pub behind : ℕ → ℕ → Part → Block → Block
behind from to part b =
    starting_at (b.clock + from) (lasting (to - from)
    (left_is (is_item b.kind) (left_of b from) (without_parent (without_name (with_part part b)))))

abbrev pub shortened : List ℕ → Piece → Block
shortened u p = front p.to (part_of u p) p.row

abbrev pub begun_later : List ℕ → Piece → Block
begun_later u p = behind p.from p.to (part_of u p) p.row

unfoldable pub cut_row : List ℕ → Piece → Block
cut_row u p = pick (is_whole p) p.row (pick (eqb p.from 0) (shortened u p) (begun_later u p))

-- a diff would cut inside a pair
unfoldable pub torn : List ℕ → Piece → Bool
torn u p = pick (is_whole p) false (pick (is_text p.row.kind) (torn_text u p.row.part p.from (p.to - p.from)) false)

-- one of these would
unfoldable pub torn_pieces : List ℕ → List Piece → Bool
torn_pieces u [] = false
torn_pieces u (p ∷ ps) = pick (torn u p) true (torn_pieces u ps)

unfoldable pub any_torn : List ℕ → List Section → Bool
any_torn u [] = false
any_torn u (s ∷ ss) = pick (torn_pieces u s.pieces) true (any_torn u ss)

-- ---- formats among them, whose value is not the same in either form

unfoldable pub format_in : List Piece → Bool
format_in [] = false
format_in (p ∷ ps) = pick (is_format p.row.kind) true (format_in ps)

unfoldable pub any_format : List Section → Bool
any_format [] = false
any_format (s ∷ ss) = pick (format_in s.pieces) true (any_format ss)
