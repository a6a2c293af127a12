-- Cases C and D of document 01, the trace of C, and a mark in either form, computed from the grammar.
use mathlib.Core.Path.{◌≡◌, refl}
use Rattle.numbers.specs.Number as spelling
use Rattle.numbers.specs.Words as words
use Rattle.text.specs.Utf8 as utf8
use Rattle.columns.specs.Number as column
use Rattle.columns.specs.Byte as byte
use Rattle.columns.specs.Difference as difference
use Rattle.string.specs.String as strings
use Rattle.anys.specs.Any as anys
use Rattle.grammar.specs.Grammar.{◌>>=◌}
use Rattle.grammar.specs.Course.{things, on_drawn, run}
use Rattle.grammar.specs.Blocks.{an_id, left, right, parent_after, parent, key, place, deleted, binary, string, format, content_of, content, an_item, bare, body, block, dropped, unless_dropped, blocks, sections, all_blocks}
use Rattle.grammar.specs.Trace.{place_of, traced}
use Rattle.decoder.specs.Line as line
use Rattle.decoder.specs.Columned as columned
use Rattle.decoder.specs.Opening as opening
use Rattle.decoder.specs.Update as update
use Rattle.pieces.specs.Cases.{update_c, update_d, blocks_c, blocks_d, trace_c, update_bold1, update_bold2, blocks_bold1, blocks_bold2}

case-c : things (update.blocks_of 1 update_c) ≡ blocks_c
unfolding things update.blocks_of run on_drawn ◌>>=◌ line.line line.number_by line.up_to line.bounded line.var_at line.number_at line.byte_at line.so_many line.bytes_at line.checked all_blocks sections blocks unless_dropped block body bare an_item content content_of deleted binary string place key parent parent_after right left an_id dropped words.among utf8.chars_from utf8.chars utf8.widths utf8.units_of utf8.lead utf8.next utf8.width utf8.after utf8.settled utf8.well_formed utf8.ended spelling.low_part spelling.spelt spelling.answer_at spelling.read_unsigned
case-c = refl

case-d : things (update.blocks_of 2 update_d) ≡ blocks_d
unfolding things update.blocks_of update.rest_places update.in_columns run on_drawn ◌>>=◌ columned.columned columned.number_in columned.onto columned.number_drawn columned.byte_drawn columned.text_drawn opening.opened_of opening.on_heads opening.heads opening.cut opening.text_opened opening.with_opened line.line line.number_by line.up_to line.bounded line.var_at line.number_at line.byte_at line.so_many line.bytes_at all_blocks sections blocks unless_dropped block body bare an_item content content_of deleted binary string place key parent parent_after right left an_id dropped words.among utf8.chars_from utf8.chars utf8.widths utf8.units_of utf8.lead utf8.next utf8.width utf8.after utf8.settled utf8.well_formed utf8.gain utf8.take_from utf8.take_units utf8.ended spelling.low_part spelling.spelt spelling.answer_at spelling.read_unsigned spelling.read_signed spelling.spelt_signed spelling.minus_of spelling.with_sign column.drawn column.counted column.begun column.next_number byte.counted byte.begun byte.next_byte strings.opened strings.open_text strings.text_ending strings.units_taken strings.units_drawn strings.next_text
case-d = refl

trace-c : things (run (line.line 1 update_c) (traced all_blocks) 0) ≡ trace_c
unfolding things run on_drawn ◌>>=◌ traced place_of line.line line.number_by line.up_to line.bounded line.var_at line.number_at line.byte_at line.so_many line.bytes_at line.checked all_blocks sections blocks unless_dropped block body bare an_item content content_of deleted binary string place key parent parent_after right left an_id dropped words.among utf8.chars_from utf8.chars utf8.widths utf8.units_of utf8.lead utf8.next utf8.width utf8.after utf8.settled utf8.well_formed utf8.ended spelling.low_part spelling.spelt spelling.answer_at spelling.read_unsigned
trace-c = refl

bold-1 : things (update.blocks_of 1 update_bold1) ≡ blocks_bold1
unfolding things update.blocks_of run on_drawn ◌>>=◌ line.line line.number_by line.up_to line.bounded line.var_at line.number_at line.byte_at line.so_many line.bytes_at line.checked line.word_of all_blocks sections blocks unless_dropped block body bare an_item content content_of deleted binary string format place key parent parent_after right left an_id dropped words.among utf8.chars_from utf8.chars utf8.widths utf8.units_of utf8.lead utf8.next utf8.width utf8.after utf8.settled utf8.well_formed utf8.ended spelling.low_part spelling.spelt spelling.answer_at spelling.read_unsigned
bold-1 = refl

bold-2 : things (update.blocks_of 2 update_bold2) ≡ blocks_bold2
unfolding things update.blocks_of update.rest_places update.in_columns run on_drawn ◌>>=◌ columned.columned columned.number_in columned.onto columned.number_drawn columned.byte_drawn columned.text_drawn columned.difference_drawn columned.joining columned.key_by_number columned.key_in opening.opened_of opening.on_heads opening.heads opening.cut opening.text_opened opening.with_opened line.line line.number_by line.up_to line.bounded line.var_at line.number_at line.byte_at line.so_many line.bytes_at line.spanned line.values_at all_blocks sections blocks unless_dropped block body bare an_item content content_of deleted binary string format place key parent parent_after right left an_id dropped words.among utf8.chars_from utf8.chars utf8.widths utf8.units_of utf8.lead utf8.next utf8.width utf8.after utf8.settled utf8.well_formed utf8.gain utf8.take_from utf8.take_units utf8.ended spelling.low_part spelling.spelt spelling.answer_at spelling.read_unsigned spelling.read_signed spelling.spelt_signed spelling.minus_of spelling.with_sign column.drawn column.counted column.begun column.next_number byte.counted byte.begun byte.next_byte strings.opened strings.open_text strings.text_ending strings.units_taken strings.units_drawn strings.next_text difference.drawn difference.counted difference.begun difference.outside difference.key_read difference.next_difference anys.tagged anys.head_at anys.on_head anys.then_at anys.each anys.any anys.anys
bold-2 = refl
