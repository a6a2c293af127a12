-- Case E of document 01, "Numbers worked by hand": the diff of C against two vectors.
use Prim.Native.Nat.{ℕ, suc, zero}
use mathlib.Core.Path.{◌≡◌, refl, ap, ◌∙◌}
use mathlib.Core.List.{List, [], ◌∷◌}
use Rattle.numbers.specs.Number as spelling
use Rattle.numbers.specs.Words as words
use Rattle.numbers.specs.Number.{spelt, answer_at, read_unsigned, spell, unsigned, none}
use Rattle.numbers.specs.Output.{verdict}
use Rattle.text.specs.Utf8 as utf8
use Rattle.block.specs.Kinds as kinds
use Rattle.grammar.specs.Grammar as grammar
use Rattle.grammar.specs.Course as course
use Rattle.grammar.specs.Blocks as blocks
use Rattle.grammar.specs.Deletes as deletes
use Rattle.decoder.specs.Line as line
use Rattle.decoder.specs.Columned as columned
use Rattle.decoder.specs.Opening as opening
use Rattle.decoder.specs.Update as update
use Rattle.ranges.specs.Ranges as ranges
use Rattle.vector.specs.Vector as vector
use Rattle.vector.specs.Vector.{vector_of}
use Rattle.updates.specs.Promises as promises
use Rattle.updates.specs.Promises.{reading}
use Rattle.readings.specs.Sound.{bytes_in, linked}
use Rattle.readings.specs.Groups as groups
use Rattle.tokens.specs.Tokens as tokens
use Rattle.tokens.specs.Keys as keys
use Rattle.tokens.specs.Bytes as bytes
use Rattle.kept.specs.Kept as kept
use Rattle.kept.specs.Cut as cut
use Rattle.records.specs.Records as records
use Rattle.writing.specs.Diff as diff
use Rattle.diffs.specs.Promises as diffs
use Rattle.diffs.specs.Promises.{Diffed, diff_of, after_reading}
use Rattle.rereading.specs.CaseE.{update_c, hi, done, CaseE}

-- ---- C is read

read : (n m : ℕ) → reading 1 update_c (suc n) m ≡ record { refusal = none; blocks = hi ∷ []; ranges = [] }
unfolding words.among ranges.normal promises.with_ranges promises.with_blocks promises.known promises.early promises.reading utf8.chars_from utf8.chars utf8.widths utf8.units_of utf8.lead utf8.next utf8.width utf8.after utf8.settled utf8.well_formed utf8.gain utf8.take_from utf8.take_units spelling.low_part spelt answer_at read_unsigned utf8.ended line.number_at line.var_at line.bounded line.up_to line.byte_at line.restored line.delete_at line.number_by line.so_many line.bytes_at line.checked line.line grammar.◌>>=◌ course.on_drawn course.run course.fit course.things course.ending blocks.an_id blocks.left blocks.right blocks.parent_after blocks.parent blocks.key blocks.place blocks.deleted blocks.binary blocks.string blocks.content blocks.content_of blocks.an_item blocks.bare blocks.body blocks.block blocks.dropped blocks.unless_dropped blocks.blocks blocks.sections blocks.all_blocks deletes.ranges deletes.deleted_clients deletes.all_ranges columned.number_drawn columned.difference_drawn columned.byte_drawn columned.text_drawn columned.onto columned.number_in columned.columned opening.cut opening.heads opening.with_opened opening.text_opened opening.on_heads opening.opened_of update.rest_places update.in_columns update.blocks_of update.delete_set
read zero zero = refl
read zero (suc m) = refl
read (suc n) zero = refl
read (suc n) (suc m) = refl

-- ---- so are the vectors, and what is kept of C is written

abbrev written : List ℕ → ℕ → Diffed
written v room = after_reading update_c (vector_of v) 1 1 room (record { refusal = none; blocks = hi ∷ []; ranges = [] })

from-reading : (v : List ℕ) (n m room : ℕ) → diff_of 1 update_c v 1 (suc n) m room ≡ written v room
unfolding diff_of promises.known
from-reading v n m room = ap (after_reading update_c (vector_of v) 1 1 room) (read n m)

unit-one : written (1 ∷ 5 ∷ 1 ∷ []) 64 ≡ done (0x01 ∷ 0x01 ∷ 0x05 ∷ 0x01 ∷ 0x84 ∷ 0x05 ∷ 0x00 ∷ 0x01 ∷ 0x69 ∷ 0x00 ∷ [])
unfolding spelling.low_part spelt answer_at read_unsigned spell unsigned words.among verdict vector.holds vector.entries vector.a_vector vector.vector_of diffs.why_not diffs.diffed diffs.against diffs.after_reading diff.diff_why diff.turned_format keys.many_keys diff.diff_bytes diff.diff_tokens bytes_in linked groups.join groups.groups kept.remote kept.falls kept.keep_from kept.with_pieces kept.keep_each kept.put_section kept.falling kept.sections_of cut.bytes_for cut.broken cut.cut_part cut.torn_text cut.is_whole cut.part_of cut.cut_row cut.torn cut.torn_pieces cut.any_torn tokens.inlined tokens.taken tokens.taken_all tokens.in_line tokens.column_in tokens.lane bytes.form1 bytes.bytes_of bytes.near records.content_number records.info_byte records.left_tokens records.right_tokens records.parent_tokens records.key_tokens records.place_tokens records.content_tokens records.block_tokens records.pieces_tokens records.section_start records.section_tokens records.sections_tokens records.clock_from records.length_of records.ranges_tokens records.client_tokens records.delete_tokens records.update_tokens utf8.lead utf8.next utf8.width utf8.after utf8.settled utf8.well_formed utf8.gain utf8.take_from utf8.take_units line.number_at line.var_at line.bounded line.up_to line.byte_at line.restored line.delete_at line.number_by line.so_many line.bytes_at line.checked line.line grammar.◌>>=◌ course.on_drawn course.run course.things course.ending kinds.is_item
unit-one = refl

all-units : written (1 ∷ 5 ∷ 2 ∷ []) 64 ≡ done (0x00 ∷ 0x00 ∷ [])
unfolding spelling.low_part spelt answer_at read_unsigned spell unsigned words.among verdict vector.holds vector.entries vector.a_vector vector.vector_of diffs.why_not diffs.diffed diffs.against diffs.after_reading diff.diff_why diff.turned_format keys.many_keys diff.diff_bytes diff.diff_tokens groups.join groups.groups kept.remote kept.falls kept.keep_from kept.with_pieces kept.keep_each kept.put_section kept.falling kept.sections_of cut.any_torn tokens.inlined tokens.taken tokens.taken_all tokens.in_line tokens.column_in tokens.lane bytes.form1 bytes.bytes_of bytes.near records.sections_tokens records.client_tokens records.delete_tokens records.update_tokens line.number_at line.var_at line.bounded line.up_to line.byte_at line.restored line.delete_at line.number_by line.so_many line.bytes_at line.checked line.line grammar.◌>>=◌ course.on_drawn course.run course.things course.ending
all-units = refl

pub case-e : CaseE
case-e =
    record {
      one = λ n m. from-reading (1 ∷ 5 ∷ 1 ∷ []) n m 64 ∙ unit-one;
      all = λ n m. from-reading (1 ∷ 5 ∷ 2 ∷ []) n m 64 ∙ all-units;
    }
