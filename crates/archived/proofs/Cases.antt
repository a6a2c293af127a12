-- Strict reading of small updates, computed from the definitions: one for each line of docs/DECISIONS.md, "Strict reading".
use Prim.Native.Nat.{ℕ}
use mathlib.Core.Path.{◌≡◌, refl}
use mathlib.Core.List.{List, [], ◌∷◌}
use Rattle.numbers.specs.Number as spelling
use Rattle.numbers.specs.Words as words
use Rattle.numbers.specs.Number.{spelt, answer_at, read_unsigned, read_signed, spelt_signed, minus_of, with_sign}
use Rattle.string.specs.String as string
use Rattle.columns.specs.Number as number
use Rattle.columns.specs.Difference as difference
use Rattle.columns.specs.Byte as byte
use Rattle.grammar.specs.Grammar as grammar
use Rattle.grammar.specs.Course as course
use Rattle.grammar.specs.Blocks as blocks
use Rattle.grammar.specs.Deletes as deletes
use Rattle.decoder.specs.Line as line
use Rattle.decoder.specs.Columned as columned
use Rattle.decoder.specs.Opening as opening
use Rattle.decoder.specs.Update as update
use Rattle.ranges.specs.Ranges as ranges
use Rattle.updates.specs.Promises as promises
use Rattle.text.specs.Utf8 as utf8
use Rattle.leftover.specs.Leftover as leftover
use Rattle.strict.specs.Promises as strict

-- refused with this number, and the byte that is blamed
abbrev at : ℕ → ℕ → promises.Reading
at n p = promises.refused (record { number = n; place = p })

-- read by so many rows, or as many more as are lent: as today
abbrev Reads : ℕ → List ℕ → Type 0
Reads form u = (strict.strictly form u 1 0 ≡ promises.reading form u 1 0) × ((promises.reading form u 1 0).refusal.number ≡ 0)

pub record Cases : Type 0 where
  -- an unknown form goes first
  pub form : strict.strictly 3 (0x01 ∷ []) 1 0 ≡ at 12 0
  -- no byte is 1, not 14
  pub no_byte : strict.strictly 2 ([]) 1 0 ≡ at 1 0
  -- a flag of 1, before the columns are cut (T1)
  pub flag : strict.strictly 2 (0x01 ∷ []) 1 0 ≡ at 14 0
  -- D with the flag 1
  pub flag-of-D : strict.strictly 2 (0x01 ∷ 0x00 ∷ 0x01 ∷ 0x05 ∷ 0x00 ∷ 0x00 ∷ 0x01 ∷ 0x04 ∷ 0x06 ∷ 0x03 ∷ 0x74 ∷ 0x68 ∷ 0x69 ∷ 0x01 ∷ 0x02 ∷ 0x01 ∷ 0x01 ∷ 0x00 ∷ 0x00 ∷ 0x01 ∷ 0x01 ∷ 0x00 ∷ 0x00 ∷ []) 1 0 ≡ at 14 0
  -- a byte in the length column and one in the rest: the lower (T2)
  pub lowest : strict.strictly 2 (0x00 ∷ 0x00 ∷ 0x00 ∷ 0x00 ∷ 0x00 ∷ 0x00 ∷ 0x01 ∷ 0x00 ∷ 0x00 ∷ 0x00 ∷ 0x01 ∷ 0x00 ∷ 0x00 ∷ 0x00 ∷ 0x07 ∷ []) 1 0 ≡ at 15 11
  -- a byte in the key column, and a delete set that ends early: what is read is refused first
  pub after-set : strict.strictly 2 (0x00 ∷ 0x01 ∷ 0x00 ∷ 0x00 ∷ 0x00 ∷ 0x00 ∷ 0x00 ∷ 0x01 ∷ 0x00 ∷ 0x00 ∷ 0x00 ∷ 0x00 ∷ 0x00 ∷ 0x01 ∷ 0x05 ∷ []) 1 0 ≡ at 1 15
  -- C with a byte behind it, and no row
  pub after-rows : strict.strictly 1 (0x01 ∷ 0x01 ∷ 0x05 ∷ 0x00 ∷ 0x04 ∷ 0x01 ∷ 0x01 ∷ 0x74 ∷ 0x02 ∷ 0x68 ∷ 0x69 ∷ 0x00 ∷ 0x07 ∷ []) 0 0 ≡ at 8 4
  -- a run of the info column that nothing is drawn from (T3)
  pub second_run : strict.strictly 2 (0x00 ∷ 0x00 ∷ 0x01 ∷ 0x05 ∷ 0x00 ∷ 0x00 ∷ 0x03 ∷ 0x00 ∷ 0x00 ∷ 0x00 ∷ 0x01 ∷ 0x00 ∷ 0x00 ∷ 0x00 ∷ 0x01 ∷ 0x01 ∷ 0x01 ∷ 0x01 ∷ 0x00 ∷ 0x00 ∷ []) 1 0 ≡ at 15 9
  -- a text that no block takes (T4)
  pub text : strict.strictly 2 (0x00 ∷ 0x00 ∷ 0x00 ∷ 0x00 ∷ 0x00 ∷ 0x00 ∷ 0x03 ∷ 0x01 ∷ 0x61 ∷ 0x01 ∷ 0x00 ∷ 0x00 ∷ 0x00 ∷ 0x00 ∷ 0x00 ∷ []) 1 0 ≡ at 15 8
  -- a unit length that is not drawn
  pub units : strict.strictly 2 (0x00 ∷ 0x00 ∷ 0x00 ∷ 0x00 ∷ 0x00 ∷ 0x00 ∷ 0x02 ∷ 0x00 ∷ 0x01 ∷ 0x00 ∷ 0x00 ∷ 0x00 ∷ 0x00 ∷ 0x00 ∷ []) 1 0 ≡ at 15 8
  -- a byte in the key column (T5)
  pub keys : strict.strictly 2 (0x00 ∷ 0x01 ∷ 0x00 ∷ 0x00 ∷ 0x00 ∷ 0x00 ∷ 0x00 ∷ 0x01 ∷ 0x00 ∷ 0x00 ∷ 0x00 ∷ 0x00 ∷ 0x00 ∷ 0x00 ∷ []) 1 0 ≡ at 15 2
  -- a byte in the type column
  pub types : strict.strictly 2 (0x00 ∷ 0x00 ∷ 0x00 ∷ 0x00 ∷ 0x00 ∷ 0x00 ∷ 0x01 ∷ 0x00 ∷ 0x00 ∷ 0x01 ∷ 0x00 ∷ 0x00 ∷ 0x00 ∷ 0x00 ∷ []) 1 0 ≡ at 15 10
  -- form 1: a byte behind the delete set (T6)
  pub behind : strict.strictly 1 (0x00 ∷ 0x00 ∷ 0x07 ∷ []) 1 0 ≡ at 15 2
  -- C and D read strictly
  pub reads-C : Reads 1 (0x01 ∷ 0x01 ∷ 0x05 ∷ 0x00 ∷ 0x04 ∷ 0x01 ∷ 0x01 ∷ 0x74 ∷ 0x02 ∷ 0x68 ∷ 0x69 ∷ 0x00 ∷ [])
  pub reads-D : Reads 2 (0x00 ∷ 0x00 ∷ 0x01 ∷ 0x05 ∷ 0x00 ∷ 0x00 ∷ 0x01 ∷ 0x04 ∷ 0x06 ∷ 0x03 ∷ 0x74 ∷ 0x68 ∷ 0x69 ∷ 0x01 ∷ 0x02 ∷ 0x01 ∷ 0x01 ∷ 0x00 ∷ 0x00 ∷ 0x01 ∷ 0x01 ∷ 0x00 ∷ 0x00 ∷ [])
  -- the count of a byte run of which one value is drawn is read, and what it could still give is no byte
  pub reads-run : Reads 2 (0x00 ∷ 0x00 ∷ 0x01 ∷ 0x05 ∷ 0x00 ∷ 0x00 ∷ 0x02 ∷ 0x00 ∷ 0x07 ∷ 0x01 ∷ 0x00 ∷ 0x00 ∷ 0x00 ∷ 0x01 ∷ 0x01 ∷ 0x01 ∷ 0x01 ∷ 0x00 ∷ 0x00 ∷ [])

pub cases : Cases
unfolding words.among ranges.normal promises.with_ranges promises.with_blocks promises.known promises.early promises.reading utf8.chars_from utf8.chars utf8.widths utf8.units_of utf8.lead utf8.next utf8.width utf8.after utf8.settled utf8.well_formed utf8.gain utf8.take_from utf8.take_units spelling.low_part spelt answer_at read_unsigned read_signed spelt_signed minus_of with_sign number.drawn number.counted number.begun number.next_number difference.drawn difference.outside difference.key_read difference.counted difference.begun difference.next_difference byte.counted byte.begun byte.next_byte string.opened string.open_text string.text_ending string.units_taken string.units_drawn string.next_text utf8.ended line.number_at line.var_at line.bounded line.up_to line.byte_at line.restored line.delete_at line.number_by line.so_many line.bytes_at line.checked line.line grammar.◌>>=◌ course.on_drawn course.run course.fit course.things course.ending blocks.an_id blocks.left blocks.right blocks.parent_after blocks.parent blocks.key blocks.place blocks.deleted blocks.binary blocks.string blocks.content blocks.content_of blocks.an_item blocks.bare blocks.body blocks.block blocks.dropped blocks.unless_dropped blocks.blocks blocks.sections blocks.all_blocks deletes.ranges deletes.deleted_clients deletes.all_ranges columned.number_drawn columned.difference_drawn columned.byte_drawn columned.text_drawn columned.onto columned.number_in columned.columned opening.cut opening.heads opening.with_opened opening.text_opened opening.on_heads opening.opened_of update.rest_places update.in_columns update.blocks_of update.delete_set leftover.columns_at leftover.columns_left leftover.set_end leftover.unread_of leftover.lower leftover.lowest leftover.lowest_left strict.flagged strict.beforehand strict.explained strict.strictly
cases = record {
  form = refl;
  no_byte = refl;
  flag = refl;
  flag-of-D = refl;
  lowest = refl;
  after-set = refl;
  after-rows = refl;
  second_run = refl;
  text = refl;
  units = refl;
  keys = refl;
  types = refl;
  behind = refl;
  reads-C = (refl, refl);
  reads-D = (refl, refl);
  reads-run = (refl, refl);
}
