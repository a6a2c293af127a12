-- What the columns' own functions read, over the short reading, in their answers. No promise comes to it: those of the calls are in
-- `meaning_columns`.
use Rattle.std.specs.Prelude.{ℕ, ◌+◌, Bool, true, false, List, length}
use Rattle.std.proofs.Math.Option.{Option, some, none}
use Rattle.std.proofs.Math.Seq.{slice}
use Rattle.numbers.specs.declared.Read.{Read}
use Rattle.numbers.specs.declared.Read.TheVariants as read
use Rattle.numbers.specs.declared.Signed.{Signed}
use Rattle.numbers.specs.declared.Signed.TheVariants as signed
use Rattle.text.specs.declared.Taken.{Taken}
use Rattle.text.specs.declared.Taken.TheVariants as units
use Rattle.text.specs.Utf8.{take_units}
use Rattle.columns.specs.declared.number.Place as number-place
use Rattle.columns.specs.declared.number.Answer as number-answer
use Rattle.columns.specs.declared.number.Answer.TheVariants as number
use Rattle.columns.specs.declared.difference.Place as difference-place
use Rattle.columns.specs.declared.difference.Answer as difference-answer
use Rattle.columns.specs.declared.difference.Answer.TheVariants as difference
use Rattle.columns.specs.declared.byte.Place as byte-place
use Rattle.columns.specs.declared.byte.Answer as byte-answer
use Rattle.columns.specs.declared.byte.Answer.TheVariants as byte
use Rattle.string.specs.declared.Place as string-place
use Rattle.string.specs.declared.Opened as string-opened
use Rattle.string.specs.declared.Opened.TheVariants as opened
use Rattle.string.specs.declared.Answer as string-answer
use Rattle.string.specs.declared.Answer.TheVariants as string
use Rattle.meaning.specs.Reads.{when◌then◌else◌, comes_to}
use Rattle.meaning.specs.Line as line
use Rattle.meaning.specs.Line.{part}
use Rattle.meaning.specs.Columns.{often, numbers, differences, octets, Lane, lane, draw}

unfoldable pub read_unsigned : List ℕ → ℕ → Read
read_unsigned s at = comes_to read.Number read.Refused (line.unsigned s at)

unfoldable pub read_signed : List ℕ → ℕ → Signed
read_signed s at = comes_to (λ (minus, v). signed.Value minus v) signed.Wrong (line.signed s at)

-- ---- columns, all of the bytes s, at a place that the caller keeps

unfoldable pub next_number : List ℕ → number-place.Place → number-answer.Answer
next_number s c =
    comes_to (λ v d. number.Next v (record { at = d.at; from = d.from; last = d.run; count = often d.left })) number.Bad
    (draw s (lane numbers c.at (length s) c.from 0 c.last (some c.count)))

unfoldable pub next_difference : List ℕ → difference-place.Place → difference-answer.Answer
next_difference s c =
    comes_to (λ v d. difference.Next v (record { at = d.at; from = d.from; last = v; key = d.run; count = often d.left })) difference.Bad
    (draw s (lane differences c.at (length s) c.from c.last c.key (some c.count)))

unfoldable pub next_byte : List ℕ → byte-place.Place → byte-answer.Answer
next_byte s c =
    let endless : Option ℕ → Bool = λ o. elim o [ none ↦ true | some n ↦ false ] in
    let placed : Lane → byte-place.Place = λ d.
    record { at = d.at; from = d.from; last = d.run; count = often d.left; endless = endless d.left } in
    when c.endless then byte.Next c.last c
    else comes_to (λ v d. byte.Next v (placed d)) byte.Bad (draw s (lane octets c.at (length s) c.from 0 c.last (some c.count)))

-- the texts of a column, led by their length; their units stand behind them
unfoldable pub open_text : List ℕ → ℕ → string-opened.Opened
open_text s at =
    comes_to (λ p end. opened.At (record { at = p.place; end = end; units = record { at = end; from = end; last = 0; count = 0 } })) opened.Not
    (line.word s at)

unfoldable pub text_after : ℕ → ℕ → number-place.Place → Taken → string-answer.Answer
text_after at end rest (units.Took b) = string.Next (part at b.0) (record { at = at + b.0; end = end; units = rest })
text_after at end rest (units.Refused why) = string.Bad (record { number = why; place = at })

unfoldable pub next_text : List ℕ → string-place.Place → string-answer.Answer
next_text s c =
    elim (next_number s c.units) [
      | number.Next n rest ↦ text_after c.at c.end rest (take_units 7 n (slice c.at c.end s))
      | number.Bad why ↦ string.Bad why
    ]
