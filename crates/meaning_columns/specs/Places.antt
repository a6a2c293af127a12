-- A column read from a place that the caller keeps: the next value and the place after it. Places are made into columns of all the bytes s, and back.
use Rattle.std.specs.Prelude.{ℕ, ◌+◌, Bool, true, false, List, length}
use Rattle.std.proofs.Math.Option.{Option, some, none}
use Rattle.std.proofs.Math.Seq.{slice}
use Rattle.text.specs.declared.Part.{Part}
use Rattle.text.specs.declared.Taken.{Taken}
use Rattle.text.specs.declared.Taken.TheVariants as units
use Rattle.text.specs.Utf8.{take_units}
use Rattle.columns.specs.declared.number.Place as number
use Rattle.columns.specs.declared.difference.Place as difference
use Rattle.columns.specs.declared.byte.Place as byte
use Rattle.string.specs.declared.Place as string
use Rattle.meaning.specs.Reads.{when◌then◌else◌, Got, got, refused, on, Reads}
use Rattle.meaning.specs.Line.{part, word}
use Rattle.meaning.specs.Columns.{often, numbers, differences, octets, lane, no_rise, draw}

abbrev pub is_endless : Option ℕ → Bool
is_endless o = elim o [ none ↦ true | some n ↦ false ]

-- nothing is drawn yet
abbrev pub numbers_at : ℕ → number.Place
numbers_at at = record { at = at; from = at; last = 0; count = 0 }

abbrev pub differences_at : ℕ → difference.Place
differences_at at = record { at = at; from = at; last = 0; key = no_rise; count = 0 }

abbrev pub bytes_at : ℕ → byte.Place
bytes_at at = record { at = at; from = at; last = 0; count = 0; endless = false }

abbrev pub texts_at : ℕ → ℕ → string.Place
texts_at at end = record { at = at; end = end; units = numbers_at end }

module _ (s : List ℕ) where
  unfoldable pub next_number : Reads number.Place ℕ
  next_number c =
      on (draw s (lane numbers c.at (length s) c.from 0 c.last (some c.count)))
      λ v d. got v (record { at = d.at; from = d.from; last = d.run; count = often d.left })

  unfoldable pub next_difference : Reads difference.Place ℕ
  next_difference c =
      on (draw s (lane differences c.at (length s) c.from c.last c.key (some c.count)))
      λ v d. got v (record { at = d.at; from = d.from; last = v; key = d.run; count = often d.left })

  unfoldable pub next_byte : Reads byte.Place ℕ
  next_byte c =
      when c.endless then got c.last c
      else (on (draw s (lane octets c.at (length s) c.from 0 c.last (some c.count)))
      λ v d. got v (record { at = d.at; from = d.from; last = d.run; count = often d.left; endless = is_endless d.left }))

  -- the texts of a column, led by their length, which are UTF-8; their units stand behind them
  unfoldable pub open_text : ℕ → Got string.Place (Unit {0})
  open_text at = on (word s at) λ p end. got tt (texts_at p.place end)

  unfoldable pub text_after : ℕ → ℕ → number.Place → Taken → Got string.Place Part
  text_after at end rest (units.Took b) = got (part at b.0) (record { at = at + b.0; end = end; units = rest })
  text_after at end rest (units.Refused why) = refused why at

  unfoldable pub next_text : Reads string.Place Part
  next_text c = on (next_number c.units) λ n rest. text_after c.at c.end rest (take_units 7 n (slice c.at c.end s))
