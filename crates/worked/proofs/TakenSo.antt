-- The sorts worked by hand, computed from the definitions.
use mathlib.Core.Path.{refl}
use Rattle.numbers.specs.Number as spelling
use Rattle.numbers.specs.Words as words
use Rattle.numbers.specs.Number.{spelt, answer_at, read_unsigned, read_signed, spelt_signed, minus_of, with_sign}
use Rattle.text.specs.Utf8 as utf8
use Rattle.block.specs.Kinds as kinds
use Rattle.columns.specs.Number as number
use Rattle.columns.specs.Difference as difference
use Rattle.columns.specs.Byte as byte
use Rattle.string.specs.String as string
use Rattle.anys.specs.Any as anys
use Rattle.grammar.specs.Grammar as grammar
use Rattle.grammar.specs.Course as course
use Rattle.grammar.specs.Blocks as blocks
use Rattle.grammar.specs.Deletes as deletes
use Rattle.decoder.specs.Line as line
use Rattle.decoder.specs.Columned as columned
use Rattle.decoder.specs.Opening as opening
use Rattle.decoder.specs.Update as update
use Rattle.ranges.specs.Ranges as ranges
use Rattle.updates.specs.Promises as promises
use Rattle.readings.specs.Sound.{All}
use Rattle.vector.specs.Vector as vector
use Rattle.kept.specs.Kept.{remote}
use Rattle.sorting.specs.Steps as steps
use Rattle.sorting.specs.Rules as rules
use Rattle.sorting.specs.Rule28 as rule28
use Rattle.sorting.specs.Rule13 as rule13
use Rattle.sorting.specs.Named.{asks_of}
use Rattle.sorting.specs.Quick as quick
use Rattle.sorting.specs.Sorted as outcomes
use Rattle.sort_answers.specs.Answers as sort-answers
use Rattle.sorts.specs.Promises as sort-promises
use Rattle.worked.specs.Sorts as worked
use Rattle.worked.specs.Sorts.{Takes}

pub taken-so : All Takes worked.sorts
unfolding kinds.is_item kinds.is_named words.among ranges.add ranges.normal promises.with_ranges promises.with_blocks promises.known promises.early promises.reading utf8.chars_from utf8.chars utf8.widths utf8.units_of utf8.lead utf8.next utf8.width utf8.after utf8.settled utf8.well_formed utf8.gain utf8.take_from utf8.take_units utf8.ended spelling.low_part spelt answer_at read_unsigned read_signed spelt_signed minus_of with_sign number.drawn number.counted number.begun number.next_number difference.drawn difference.outside difference.key_read difference.counted difference.begun difference.next_difference byte.counted byte.begun byte.next_byte string.opened string.open_text string.text_ending string.units_taken string.units_drawn string.next_text anys.then_at anys.on_count anys.on_signed anys.signed_at anys.skip_bytes anys.skip_led anys.text_from anys.text_at anys.tagged anys.head_at anys.on_head anys.each anys.member anys.any anys.anys line.number_at line.var_at line.bounded line.up_to line.byte_at line.restored line.delete_at line.number_by line.so_many line.bytes_at line.checked line.word_of line.spanned line.values_at line.line grammar.◌>>=◌ course.on_drawn course.run course.fit course.things course.ending blocks.an_id blocks.left blocks.right blocks.parent_after blocks.parent blocks.key blocks.place blocks.deleted blocks.binary blocks.string blocks.format blocks.type blocks.node blocks.any_list blocks.content blocks.content_of blocks.an_item blocks.bare blocks.body blocks.block blocks.dropped blocks.unless_dropped blocks.blocks blocks.sections blocks.all_blocks deletes.ranges deletes.deleted_clients deletes.all_ranges columned.number_drawn columned.difference_drawn columned.byte_drawn columned.text_drawn columned.onto columned.number_in columned.joining columned.key_by_number columned.key_in columned.columned opening.cut opening.heads opening.with_opened opening.text_opened opening.on_heads opening.opened_of update.rest_places update.in_columns update.blocks_of update.delete_set sort-answers.is_rule sort-answers.why_not sort-promises.sorted_all sort-promises.why_sort sort-promises.fitting sort-promises.against sort-promises.after_reading sort-promises.sort_by vector.holds vector.entries vector.a_vector vector.vector_of remote outcomes.insert outcomes.insert_all outcomes.all_clients outcomes.order outcomes.outcome outcomes.block_numbers_from outcomes.numbers_by outcomes.order_of outcomes.counts_in outcomes.counts_of outcomes.reaches_in outcomes.reaches_of outcomes.pending_in outcomes.pending_of quick.chosen quick.remaining quick.best quick.quick steps.can steps.step steps.after rules.queue rules.deps rules.others rules.system rules.unmet rules.waits rules.report rules.by_reaches rule28.asks28 rule13.asks13 rule13.id_before asks_of
taken-so = ((refl, refl, refl, refl, refl), ((refl, refl, refl, refl, refl), ((refl, refl, refl, refl, refl), ((refl, refl, refl, refl, refl), ((refl, refl, refl, refl, refl), ((refl, refl, refl, refl, refl), ((refl, refl, refl, refl, refl), ((refl, refl, refl, refl, refl), ((refl, refl, refl, refl, refl), tt)))))))))
