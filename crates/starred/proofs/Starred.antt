-- The starred table holds of the definitions.
use Prim.Native.Nat.{ℕ, zero, suc}
use mathlib.Core.Path.{◌≡◌, refl, ap, ◌∙◌}
use mathlib.Core.List.{[], ◌∷◌}
use Rattle.numbers.specs.Number as spelling
use Rattle.numbers.specs.Words as words
use Rattle.numbers.specs.Number.{spelt, answer_at, read_unsigned, read_signed, spelt_signed, minus_of, with_sign, spell, unsigned}
use Rattle.string.specs.String as string
use Rattle.string.specs.StringInner as string-inner
use Rattle.string.specs.String.{open_text}
use Rattle.string.specs.StringInner.{read_texts}
use Rattle.text.specs.Utf8.{lead, next, after, settled, well_formed, width, gain, take_from, take_units}
use Rattle.columns.specs.Number as number
use Rattle.columns.specs.Difference as difference
use Rattle.columns.specs.Byte as byte
use Rattle.runs.specs.Byte as byte-run
use Rattle.runs.specs.Runs as runs
use Rattle.columns.specs.Reading.{and_then, reads, number_draw, difference_draw, byte_draw}
use Rattle.columns.proofs.RoundTrip.{byte-on}
use Rattle.grammar.specs.Grammar as grammar
use Rattle.grammar.specs.Course as course
use Rattle.grammar.specs.Blocks as blocks
use Rattle.grammar.specs.Deletes as deletes
use Rattle.decoder.specs.Line as line
use Rattle.decoder.specs.Columned as columned
use Rattle.decoder.specs.Opening as opening
use Rattle.decoder.specs.Update as update
use Rattle.ranges.specs.Ranges as ranges
use Rattle.updates.specs.Promises as promises
use Rattle.updates.specs.Promises.{reading}
use Rattle.text.specs.Utf8 as utf8
use Rattle.rereading.proofs.CaseE.{case-e}
use Rattle.vector.specs.Vector as vector
use Rattle.vector.specs.Vector.{vector_of}
use Rattle.kept.specs.Kept.{remote}
use Rattle.sorting.specs.Steps as steps
use Rattle.sorting.specs.Rules as rules
use Rattle.sorting.specs.Rule28 as rule28
use Rattle.sorting.specs.Named.{asks_of, rule_of}
use Rattle.sorting.specs.Quick as quick
use Rattle.sorting.specs.Sorted as outcomes
use Rattle.sort_answers.specs.Answers as sort-answers
use Rattle.sorts.specs.Promises as sort-promises
use Rattle.sort_answers.specs.Answers.{Sort}
use Rattle.sorts.specs.Promises.{quickly, sort_by, sort_of, after_reading}
use Rattle.lines.specs.Lines.{digits, decimal}
use Rattle.listing_text.specs.Listing as listing
use Rattle.listed.specs.Listed as listings
use Rattle.listed.specs.Listed.{lines_of, listed}
use Rattle.starred.specs.Starred.{first_of, blocks_read, hi, update_a, update_b, update_c, update_d, empty_text, one_text, after-id, in-parent, update_m1, update_m2, update_m3, sorts, sorted, Starred}

abbrev Updates : ℕ → ℕ → Type 0
Updates n m =
    (reading 1 update_a n m ≡ blocks_read []) × (reading 2 update_b n m ≡ blocks_read []) × (reading 1 update_c (suc n) m ≡ blocks_read (hi 7 9 ∷ [])) × (reading 2 update_d (suc n) m ≡ blocks_read (hi 10 11 ∷ []))
    × (reading 1 update_m1 (suc (suc n)) m ≡ blocks_read (after-id 5 9 8 ∷ in-parent 9 15 17 ∷ [])) × (reading 1 update_m2 (suc (suc n)) m ≡ blocks_read (after-id 5 9 8 ∷ []))
    × (reading 1 update_m3 (suc (suc n)) m ≡ blocks_read (after-id 5 9 8 ∷ after-id 9 5 16 ∷ []))

updates : (n m : ℕ) → Updates n m
unfolding words.among ranges.normal promises.with_ranges promises.with_blocks promises.known promises.early promises.reading utf8.chars_from utf8.chars utf8.widths utf8.units_of utf8.lead utf8.next utf8.width utf8.after utf8.settled utf8.well_formed utf8.gain utf8.take_from utf8.take_units spelling.low_part spelt answer_at read_unsigned read_signed spelt_signed minus_of with_sign number.drawn number.counted number.begun number.next_number byte.counted byte.begun byte.next_byte string.opened string.open_text string.text_ending string.units_taken string.units_drawn string.next_text utf8.ended line.number_at line.var_at line.bounded line.up_to line.byte_at line.restored line.delete_at line.number_by line.so_many line.bytes_at line.checked line.line grammar.◌>>=◌ course.on_drawn course.run course.fit course.things course.ending blocks.an_id blocks.left blocks.right blocks.parent_after blocks.parent blocks.key blocks.place blocks.deleted blocks.binary blocks.string blocks.content blocks.content_of blocks.an_item blocks.bare blocks.body blocks.block blocks.dropped blocks.unless_dropped blocks.blocks blocks.sections blocks.all_blocks deletes.ranges deletes.deleted_clients deletes.all_ranges columned.number_drawn columned.difference_drawn columned.byte_drawn columned.text_drawn columned.onto columned.number_in columned.columned opening.cut opening.heads opening.with_opened opening.text_opened opening.on_heads opening.opened_of update.rest_places update.in_columns update.blocks_of update.delete_set
updates zero zero = (refl, refl, refl, refl, refl, refl, refl)
updates zero (suc m) = (refl, refl, refl, refl, refl, refl, refl)
updates (suc n) zero = (refl, refl, refl, refl, refl, refl, refl)
updates (suc n) (suc m) = (refl, refl, refl, refl, refl, refl, refl)

lists : (listed (1 ∷ update_a) ≡ empty_text) × (listed (2 ∷ update_b) ≡ empty_text) × (listed (1 ∷ update_c) ≡ one_text 49) × (listed (2 ∷ update_d) ≡ one_text 50)
unfolding listings.same listings.is_empty listings.lines_of listings.listed_reading listings.listed_update listings.listed_parts listings.listed listing.number_then listing.named listing.kind_name listing.block_line listing.block_lines listing.range_line listing.range_lines listing.header listing.end_line listing.listing listing.empty_line listing.refused_line digits decimal
lists = (
  refl,
  refl,
  ap (lines_of 1) (updates 511 1024).2,
  ap (lines_of 2) (updates 511 1024).3,
)

-- what the vector of no entries and a reading come to
abbrev against : promises.Reading → Sort
against r = after_reading quickly (rule_of 28) (record { order = 2; counts = 4; reaches = 4; pending = 6 }) (vector_of (0x00 ∷ [])) r

sorting : (against (blocks_read (after-id 5 9 8 ∷ in-parent 9 15 17 ∷ [])) ≡ sorted (1 ∷ 0 ∷ []) (9 ∷ 1 ∷ 5 ∷ 1 ∷ []) (9 ∷ 1 ∷ 5 ∷ 1 ∷ []) [] (after-id 5 9 8 ∷ in-parent 9 15 17 ∷ []))
    × (against (blocks_read (after-id 5 9 8 ∷ [])) ≡ sorted [] (5 ∷ 0 ∷ []) (5 ∷ 0 ∷ []) (5 ∷ 9 ∷ 0 ∷ []) (after-id 5 9 8 ∷ []))
    × (against (blocks_read (after-id 5 9 8 ∷ after-id 9 5 16 ∷ [])) ≡ sorted [] (9 ∷ 0 ∷ 5 ∷ 0 ∷ []) (9 ∷ 0 ∷ 5 ∷ 0 ∷ []) (9 ∷ 5 ∷ 0 ∷ 5 ∷ 9 ∷ 0 ∷ []) (after-id 5 9 8 ∷ after-id 9 5 16 ∷ []))
unfolding sort-answers.why_not sort-promises.sorted_all sort-promises.why_sort sort-promises.fitting sort-promises.against sort-promises.after_reading vector.holds vector.entries vector.a_vector vector.vector_of spelling.low_part spelt answer_at read_unsigned remote outcomes.insert outcomes.insert_all outcomes.all_clients outcomes.order outcomes.outcome outcomes.block_numbers_from outcomes.numbers_by outcomes.order_of outcomes.counts_in outcomes.counts_of outcomes.reaches_in outcomes.reaches_of outcomes.pending_in outcomes.pending_of quick.chosen quick.remaining quick.best quick.quick steps.can steps.step steps.after rules.queue rules.deps rules.others rules.system rules.unmet rules.waits rules.report rules.by_reaches rule28.asks28 asks_of line.number_at line.var_at line.bounded line.up_to line.byte_at line.restored line.delete_at line.number_by line.so_many line.bytes_at line.checked line.line grammar.◌>>=◌ course.on_drawn course.run course.things course.ending
sorting = (refl, refl, refl)

sorts-M : (n m : ℕ) → (sorts update_m1 n m ≡ sorted (1 ∷ 0 ∷ []) (9 ∷ 1 ∷ 5 ∷ 1 ∷ []) (9 ∷ 1 ∷ 5 ∷ 1 ∷ []) [] (after-id 5 9 8 ∷ in-parent 9 15 17 ∷ []))
    × (sorts update_m2 n m ≡ sorted [] (5 ∷ 0 ∷ []) (5 ∷ 0 ∷ []) (5 ∷ 9 ∷ 0 ∷ []) (after-id 5 9 8 ∷ []))
    × (sorts update_m3 n m ≡ sorted [] (9 ∷ 0 ∷ 5 ∷ 0 ∷ []) (9 ∷ 0 ∷ 5 ∷ 0 ∷ []) (9 ∷ 5 ∷ 0 ∷ 5 ∷ 9 ∷ 0 ∷ []) (after-id 5 9 8 ∷ after-id 9 5 16 ∷ []))
unfolding sort_by sort-answers.is_rule
sorts-M n m = (
  ap against (updates n m).4 ∙ sorting.0,
  ap against (updates n m).5 ∙ sorting.1,
  ap against (updates n m).6 ∙ sorting.2,
)

pub starred : Starred
unfolding spelling.low_part spelt answer_at read_unsigned read_signed spelt_signed minus_of with_sign spell unsigned number.drawn number.counted number.begun number.next_number difference.drawn difference.outside difference.key_read difference.counted difference.begun difference.next_difference byte.counted byte.begun byte.next_byte byte-run.run_bytes runs.runs_on runs.runs_after runs.column runs.coding runs.why runs.within runs.over_fits runs.storable runs.spellable runs.fits_less_one and_then reads number_draw difference_draw byte_draw lead next width gain take_from take_units after settled well_formed string.opened string.open_text string.text_ending string.units_taken string.units_drawn string.next_text string-inner.and_then string-inner.read_texts first_of
starred = record {
  A = λ n m. (updates n m).0;
  B = λ n m. (updates n m).1;
  C = λ n m. (updates n m).2;
  D = λ n m. (updates n m).3;
  listed_a = lists.0;
  listed_b = lists.1;
  listed_c = lists.2;
  listed_d = lists.3;
  E1 = case-e.one;
  E2 = case-e.all;
  F = refl;
  G = refl;
  H = refl;
  I = refl;
  J = refl;
  K = λ m. byte-on [] (4 ∷ 0 ∷ []) 4 m refl;
  L1 = refl;
  L2 = refl;
  L3 = refl;
  M1 = λ n m. (sorts-M n m).0;
  M2 = λ n m. (sorts-M n m).1;
  M3 = λ n m. (sorts-M n m).2;
}
