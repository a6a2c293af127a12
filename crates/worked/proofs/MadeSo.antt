-- The diffs worked by hand, computed from the definitions.
use mathlib.Core.Path.{refl}
use Rattle.numbers.specs.Number as spelling
use Rattle.numbers.specs.Words as words
use Rattle.numbers.specs.Number.{spelt, answer_at, read_unsigned, read_signed, spelt_signed, minus_of, with_sign}
use Rattle.text.specs.Utf8 as utf8
use Rattle.block.specs.Kinds as kinds
use Rattle.block.specs.KindsInner as kinds-inner
use Rattle.columns.specs.Number as number
use Rattle.columns.specs.Difference as difference
use Rattle.columns.specs.Byte as byte
use Rattle.string.specs.String as string
use Rattle.anys.specs.Any as anys
use Rattle.grammar.specs.Grammar as grammar
use Rattle.grammar.specs.Course as course
use Rattle.grammar.specs.Blocks as blocks
use Rattle.grammar.specs.Deletes as deletes
use Rattle.decoder.specs.Line as line
use Rattle.decoder.specs.Columned as columned
use Rattle.decoder.specs.Opening as opening
use Rattle.decoder.specs.Update as update
use Rattle.ranges.specs.Ranges as ranges
use Rattle.updates.specs.Promises as promises
use Rattle.numbers.specs.Number.{spell, unsigned, signed}
use Rattle.numbers.specs.Output.{verdict}
use Rattle.runs.specs.Runs as runs
use Rattle.runs.specs.RunsInner as runs-inner
use Rattle.runs.specs.Number as number-run
use Rattle.runs.specs.Byte as byte-run
use Rattle.runs.specs.Difference as difference-run
use Rattle.vector.specs.Vector as vector
use Rattle.readings.specs.Sound.{All, bytes_in, linked}
use Rattle.readings.specs.Groups as groups
use Rattle.tokens.specs.Tokens as tokens
use Rattle.tokens.specs.Keys as keys
use Rattle.tokens.specs.Bytes as bytes
use Rattle.kept.specs.Kept as kept
use Rattle.kept.specs.Cut as cut
use Rattle.marked.specs.Marked as marked
use Rattle.records.specs.Records as records
use Rattle.writing.specs.Diff as diff
use Rattle.diffs.specs.Promises as diffs
use Rattle.worked.specs.Diffs as worked
use Rattle.worked.specs.Diffs.{Makes, Torn}

pub made_so : All Makes worked.diffs
unfolding kinds.is_item kinds.is_named kinds-inner.content_number runs-inner.key_most words.among ranges.add ranges.normal promises.with_ranges promises.with_blocks promises.known promises.early promises.reading utf8.chars_from utf8.chars utf8.widths utf8.units_of utf8.lead utf8.next utf8.width utf8.after utf8.settled utf8.well_formed utf8.gain utf8.take_from utf8.take_units utf8.ended spelling.low_part spelt answer_at read_unsigned read_signed spelt_signed minus_of with_sign number.drawn number.counted number.begun number.next_number difference.drawn difference.outside difference.key_read difference.counted difference.begun difference.next_difference byte.counted byte.begun byte.next_byte string.opened string.open_text string.text_ending string.units_taken string.units_drawn string.next_text anys.then_at anys.on_count anys.on_signed anys.signed_at anys.skip_bytes anys.skip_led anys.text_from anys.text_at anys.tagged anys.head_at anys.on_head anys.each anys.member anys.any anys.anys line.number_at line.var_at line.bounded line.up_to line.byte_at line.restored line.delete_at line.number_by line.so_many line.bytes_at line.checked line.word_of line.spanned line.values_at line.line grammar.◌>>=◌ course.on_drawn course.run course.fit course.things course.ending blocks.an_id blocks.left blocks.right blocks.parent_after blocks.parent blocks.key blocks.place blocks.deleted blocks.binary blocks.string blocks.format blocks.type blocks.node blocks.any_list blocks.content blocks.content_of blocks.an_item blocks.bare blocks.body blocks.block blocks.dropped blocks.unless_dropped blocks.blocks blocks.sections blocks.all_blocks deletes.ranges deletes.deleted_clients deletes.all_ranges columned.number_drawn columned.difference_drawn columned.byte_drawn columned.text_drawn columned.onto columned.number_in columned.joining columned.key_by_number columned.key_in columned.columned opening.cut opening.heads opening.with_opened opening.text_opened opening.on_heads opening.opened_of update.rest_places update.in_columns update.blocks_of update.delete_set spell unsigned signed verdict vector.holds vector.entries vector.a_vector vector.vector_of diffs.why_not diffs.diffed diffs.against diffs.after_reading diffs.diff_of diff.diff_why diff.turned_format diff.diff_bytes diff.diff_tokens bytes_in linked groups.join groups.groups kept.remote kept.falls kept.keep_from kept.with_pieces kept.keep_each kept.put_section kept.falling kept.sections_of cut.bytes_for cut.broken cut.cut_part cut.torn_text cut.span_of cut.cut_list cut.is_whole cut.part_of cut.cut_row cut.torn cut.torn_pieces cut.any_torn cut.format_in cut.any_format tokens.inlined tokens.taken tokens.taken_all tokens.in_line tokens.column_in tokens.lane bytes.form1 bytes.form2 bytes.bytes_of bytes.near_in bytes.near keys.many_keys keys.crowded keys.numbered keys.by_number records.info_byte records.left_tokens records.right_tokens records.parent_tokens records.key_tokens records.place_tokens records.content_tokens records.block_tokens records.pieces_tokens records.section_start records.section_tokens records.sections_tokens records.clock_from records.length_of records.ranges_tokens records.client_tokens records.delete_tokens records.update_tokens marked.marked_tokens marked.type_tokens marked.format_tokens runs.runs_on runs.runs_after runs.column runs.within runs.over_fits runs.storable runs.spellable runs.why runs-inner.signed_run runs.fits_less_two runs.fits_less_one runs.near_key runs.coding number-run.run_bytes byte-run.run_bytes difference-run.run_bytes difference-run.magnitude difference-run.odd
made_so = ((refl, refl, refl, refl), ((refl, refl, refl, refl), ((refl, refl, refl, refl), ((refl, refl, refl, refl), ((refl, refl, refl, refl), ((refl, refl, refl, refl), ((refl, refl, refl, refl), tt)))))))

pub torn-so : Torn
unfolding kinds.is_item kinds.is_named kinds-inner.content_number runs-inner.key_most words.among ranges.add ranges.normal promises.with_ranges promises.with_blocks promises.known promises.early promises.reading utf8.chars_from utf8.chars utf8.widths utf8.units_of utf8.lead utf8.next utf8.width utf8.after utf8.settled utf8.well_formed utf8.gain utf8.take_from utf8.take_units utf8.ended spelling.low_part spelt answer_at read_unsigned read_signed spelt_signed minus_of with_sign number.drawn number.counted number.begun number.next_number difference.drawn difference.outside difference.key_read difference.counted difference.begun difference.next_difference byte.counted byte.begun byte.next_byte string.opened string.open_text string.text_ending string.units_taken string.units_drawn string.next_text anys.then_at anys.on_count anys.on_signed anys.signed_at anys.skip_bytes anys.skip_led anys.text_from anys.text_at anys.tagged anys.head_at anys.on_head anys.each anys.member anys.any anys.anys line.number_at line.var_at line.bounded line.up_to line.byte_at line.restored line.delete_at line.number_by line.so_many line.bytes_at line.checked line.word_of line.spanned line.values_at line.line grammar.◌>>=◌ course.on_drawn course.run course.fit course.things course.ending blocks.an_id blocks.left blocks.right blocks.parent_after blocks.parent blocks.key blocks.place blocks.deleted blocks.binary blocks.string blocks.format blocks.type blocks.node blocks.any_list blocks.content blocks.content_of blocks.an_item blocks.bare blocks.body blocks.block blocks.dropped blocks.unless_dropped blocks.blocks blocks.sections blocks.all_blocks deletes.ranges deletes.deleted_clients deletes.all_ranges columned.number_drawn columned.difference_drawn columned.byte_drawn columned.text_drawn columned.onto columned.number_in columned.joining columned.key_by_number columned.key_in columned.columned opening.cut opening.heads opening.with_opened opening.text_opened opening.on_heads opening.opened_of update.rest_places update.in_columns update.blocks_of update.delete_set spell unsigned signed verdict vector.holds vector.entries vector.a_vector vector.vector_of diffs.why_not diffs.diffed diffs.against diffs.after_reading diffs.diff_of diff.diff_why diff.turned_format diff.diff_bytes diff.diff_tokens bytes_in linked groups.join groups.groups kept.remote kept.falls kept.keep_from kept.with_pieces kept.keep_each kept.put_section kept.falling kept.sections_of cut.bytes_for cut.broken cut.cut_part cut.torn_text cut.span_of cut.cut_list cut.is_whole cut.part_of cut.cut_row cut.torn cut.torn_pieces cut.any_torn cut.format_in cut.any_format tokens.inlined tokens.taken tokens.taken_all tokens.in_line tokens.column_in tokens.lane bytes.form1 bytes.form2 bytes.bytes_of bytes.near_in bytes.near keys.many_keys keys.crowded keys.numbered keys.by_number records.info_byte records.left_tokens records.right_tokens records.parent_tokens records.key_tokens records.place_tokens records.content_tokens records.block_tokens records.pieces_tokens records.section_start records.section_tokens records.sections_tokens records.clock_from records.length_of records.ranges_tokens records.client_tokens records.delete_tokens records.update_tokens marked.marked_tokens marked.type_tokens marked.format_tokens runs.runs_on runs.runs_after runs.column runs.within runs.over_fits runs.storable runs.spellable runs.why runs-inner.signed_run runs.fits_less_two runs.fits_less_one runs.near_key runs.coding number-run.run_bytes byte-run.run_bytes difference-run.run_bytes difference-run.magnitude difference-run.odd
torn-so = (refl, refl)
