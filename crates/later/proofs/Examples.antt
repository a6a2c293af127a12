-- The smallest example where reaches rise, by computing, under both rules.
use Prim.Native.Nat.{ℕ}
use mathlib.Core.Path.{◌≡◌, refl, ap, ◌∙◌}
use mathlib.Core.List.{List, [], ◌∷◌}
use Rattle.numbers.specs.Number as spelling
use Rattle.numbers.specs.Words as words
use Rattle.numbers.specs.Number.{spelt, answer_at, read_unsigned, spell, unsigned}
use Rattle.numbers.specs.Output.{verdict}
use Rattle.block.specs.declared.Block.{Block}
use Rattle.block.specs.Kinds as kinds
use Rattle.grammar.specs.Grammar as grammar
use Rattle.grammar.specs.Course as course
use Rattle.grammar.specs.Blocks as blocks
use Rattle.grammar.specs.Deletes as deletes
use Rattle.decoder.specs.Line as line
use Rattle.decoder.specs.Update as update
use Rattle.ranges.specs.Ranges as ranges
use Rattle.vector.specs.Vector as vector
use Rattle.vector.specs.Vector.{vector_of}
use Rattle.updates.specs.Promises as promises
use Rattle.updates.specs.Promises.{reading}
use Rattle.readings.specs.Sound.{linked}
use Rattle.readings.specs.Groups as groups
use Rattle.tokens.specs.Tokens as tokens
use Rattle.tokens.specs.Keys as keys
use Rattle.tokens.specs.Bytes as bytes
use Rattle.kept.specs.Kept as kept
use Rattle.kept.specs.Cut as cut
use Rattle.records.specs.Records as records
use Rattle.writing.specs.Diff as written
use Rattle.diffs.specs.Promises as diffs
use Rattle.diffs.specs.Promises.{diff_of}
use Rattle.sorting.specs.Steps as steps
use Rattle.sorting.specs.Rules as rules
use Rattle.sorting.specs.Rule28 as rule28
use Rattle.sorting.specs.Rule13 as rule13
use Rattle.sorting.specs.Named.{asks_of, rule_of}
use Rattle.sorting.specs.Quick as quick
use Rattle.sorting.specs.Sorted as outcomes
use Rattle.sort_answers.specs.Answers as answers
use Rattle.sort_answers.specs.Answers.{Sort}
use Rattle.sorts.specs.Promises as sort-promises
use Rattle.sorts.specs.Promises.{quickly, sort_by, after_reading}
use Rattle.later.specs.Examples.{waiter, second, early, late, units, only, takes, waits, Rises}

-- ---- both are read

read : (reading 1 waiter 1 0 ≡ only (units 0 2 9)) × (reading 1 second 1 0 ≡ only (units 1 1 5))
unfolding words.among ranges.normal promises.with_ranges promises.with_blocks promises.known promises.early promises.reading spelling.low_part spelt answer_at read_unsigned line.number_at line.var_at line.bounded line.up_to line.byte_at line.restored line.delete_at line.number_by line.so_many line.bytes_at line.checked line.line grammar.◌>>=◌ course.on_drawn course.run course.fit course.things course.ending blocks.an_id blocks.left blocks.right blocks.parent_after blocks.parent blocks.key blocks.place blocks.deleted blocks.content blocks.content_of blocks.an_item blocks.bare blocks.body blocks.block blocks.dropped blocks.unless_dropped blocks.blocks blocks.sections blocks.all_blocks deletes.ranges deletes.deleted_clients deletes.all_ranges update.blocks_of update.delete_set
read = (refl, refl)

-- ---- and sorted

abbrev against : ℕ → List ℕ → Block → Sort
against rule v b = after_reading quickly (rule_of rule) (record { order = 1; counts = 2; reaches = 4; pending = 3 }) (vector_of v) (only b)

abbrev Sorted : ℕ → Type 0
Sorted rule =
    (against rule early (units 0 2 9) ≡ waits (5 ∷ 1 ∷ []) (units 0 2 9))
    × (against rule late (units 0 2 9) ≡ takes (9 ∷ 1 ∷ 5 ∷ 2 ∷ []) (units 0 2 9))
    × (against rule early (units 1 1 5) ≡ takes (5 ∷ 2 ∷ []) (units 1 1 5))

sorting : Sorted 28 × Sorted 13
unfolding words.among answers.why_not sort-promises.sorted_all sort-promises.why_sort sort-promises.fitting sort-promises.against sort-promises.after_reading vector.holds vector.entries vector.a_vector vector.vector_of spelling.low_part spelt answer_at read_unsigned kept.remote outcomes.insert outcomes.insert_all outcomes.all_clients outcomes.order outcomes.outcome outcomes.block_numbers_from outcomes.numbers_by outcomes.order_of outcomes.counts_in outcomes.counts_of outcomes.reaches_in outcomes.reaches_of outcomes.pending_in outcomes.pending_of quick.chosen quick.remaining quick.best quick.quick steps.can steps.step steps.after rules.queue rules.deps rules.others rules.system rules.unmet rules.waits rules.report rules.by_reaches rule28.asks28 rule13.asks13 rule13.id_before asks_of line.number_at line.var_at line.bounded line.up_to line.byte_at line.restored line.delete_at line.number_by line.so_many line.bytes_at line.checked line.line grammar.◌>>=◌ course.on_drawn course.run course.things course.ending
sorting = ((refl, refl, refl), (refl, refl, refl))

-- ---- the diff

cut_off : diffs.after_reading waiter (vector_of early) 1 1 9 (only (units 0 2 9)) ≡ record { refusal = spelling.none; bytes = second; reading = only (units 0 2 9) }
unfolding spelling.low_part spelt answer_at read_unsigned spell unsigned words.among verdict vector.holds vector.entries vector.a_vector vector.vector_of diffs.why_not diffs.diffed diffs.against diffs.after_reading written.diff_why written.turned_format keys.many_keys written.diff_bytes written.diff_tokens linked groups.join groups.groups kept.remote kept.falls kept.keep_from kept.with_pieces kept.keep_each kept.put_section kept.falling kept.sections_of cut.is_whole cut.part_of cut.cut_row cut.torn cut.torn_pieces cut.any_torn tokens.inlined tokens.taken tokens.taken_all tokens.in_line tokens.column_in tokens.lane bytes.form1 bytes.bytes_of bytes.near records.content_number records.info_byte records.left_tokens records.right_tokens records.parent_tokens records.key_tokens records.place_tokens records.content_tokens records.block_tokens records.pieces_tokens records.section_start records.section_tokens records.sections_tokens records.clock_from records.length_of records.ranges_tokens records.client_tokens records.delete_tokens records.update_tokens line.number_at line.var_at line.bounded line.up_to line.byte_at line.restored line.delete_at line.number_by line.so_many line.bytes_at line.checked line.line grammar.◌>>=◌ course.on_drawn course.run course.things course.ending kinds.is_item
cut_off = refl

module _ (rule : ℕ) (is : answers.is_rule rule ≡ answers.is_rule 28) (s : Sorted rule) where
  rises : Rises rule
  unfolding sort_by diff_of promises.known answers.is_rule
  rises = record {
    asked = rw is (ap (after_reading quickly (rule_of rule) (record { order = 1; counts = 2; reaches = 4; pending = 3 }) (vector_of early)) read.0 ∙ s.0);
    later = rw is (ap (after_reading quickly (rule_of rule) (record { order = 1; counts = 2; reaches = 4; pending = 3 }) (vector_of late)) read.0 ∙ s.1);
    diff = ap (diffs.after_reading waiter (vector_of early) 1 1 9) read.0 ∙ cut_off;
    sorted = rw is (ap (after_reading quickly (rule_of rule) (record { order = 1; counts = 2; reaches = 4; pending = 3 }) (vector_of early)) read.1 ∙ s.2);
  }

pub rises-28 : Rises 28
rises-28 = rises 28 refl sorting.0

pub rises-13 : Rises 13
unfolding answers.is_rule
rises-13 = rises 13 refl sorting.1
