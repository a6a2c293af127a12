-- That a read from a place is the long-standing one: the old answer is what was got here, or its refusal.
use Prim.Native.Nat.{ℕ}
use mathlib.Core.Path.{◌≡◌, refl, ◌∙◌}
use mathlib.Core.Bool.{Bool, true, false}
use mathlib.Core.List.{List}
use lib.Seq.{slice}
use Rattle.text.specs.declared.Taken.{Taken}
use Rattle.text.specs.declared.Taken.TheVariants as units
use Rattle.text.specs.Utf8.{take_units}
use Rattle.columns.specs.declared.number.Place as number-place
use Rattle.columns.specs.declared.number.Answer.TheVariants as number
use Rattle.columns.specs.Number as old-number
use Rattle.columns.specs.declared.difference.Place as difference-place
use Rattle.columns.specs.declared.difference.Answer.TheVariants as difference
use Rattle.columns.specs.Difference as old-difference
use Rattle.columns.specs.declared.byte.Place as byte-place
use Rattle.columns.specs.declared.byte.Answer.TheVariants as byte
use Rattle.columns.specs.Byte as old-byte
use Rattle.string.specs.declared.Place as string-place
use Rattle.string.specs.declared.Opened.TheVariants as opened
use Rattle.string.specs.declared.Answer.TheVariants as string
use Rattle.string.specs.String as old-string
use Rattle.meaning.specs.Reads.{when◌then◌else◌, Got, got, refused, on}
use Rattle.meaning.specs.Line.{word}
use Rattle.meaning.specs.Columns.{draw}
use Rattle.meaning.specs.Answers as answers
use Rattle.meaning.specs.Reads.{comes_to}
use Rattle.meaning.proofs.Answers.{number_same, difference-same, byte-same, open-same}
use Rattle.meaning.proofs.Ending.{on-answer}
use Rattle.meaning_columns.specs.Places.{next_number, next_difference, next_byte, open_text, text_after, next_text}

pub number-got : (s : List ℕ) (c : number-place.Place) → old-number.next_number s c ≡ comes_to number.Next number.Bad (next_number s c)
unfolding answers.next_number next_number
number-got s c = number_same s c ∙ on-answer (draw s _) (λ v _. v) _ number.Next number.Bad

pub difference-got : (s : List ℕ) (c : difference-place.Place)
    → old-difference.next_difference s c ≡ comes_to difference.Next difference.Bad (next_difference s c)
unfolding answers.next_difference next_difference
difference-got s c = difference-same s c ∙ on-answer (draw s _) (λ v _. v) _ difference.Next difference.Bad

pub byte-got : (s : List ℕ) (c : byte-place.Place) → old-byte.next_byte s c ≡ comes_to byte.Next byte.Bad (next_byte s c)
unfolding answers.next_byte next_byte comes_to when◌then◌else◌
byte-got s c = byte-same s c ∙ go c.endless
  where
    at : Bool → byte-place.Place
    at endless = record { at = c.at; from = c.from; last = c.last; count = c.count; endless = endless }

    go : (b : Bool) → answers.next_byte s (at b) ≡ comes_to byte.Next byte.Bad (next_byte s (at b))
    go true = refl
    go false = on-answer (draw s _) (λ v _. v) _ byte.Next byte.Bad

pub open-got : (s : List ℕ) (at : ℕ) → old-string.open_text s at ≡ comes_to (λ _. opened.At) opened.Not (open_text s at)
unfolding answers.open_text open_text
open-got s at = open-same s at ∙ on-answer (word s at) (λ _ _. tt) _ (λ _. opened.At) opened.Not

pub text-got : (s : List ℕ) (c : string-place.Place) → old-string.next_text s c ≡ comes_to string.Next string.Bad (next_text s c)
unfolding old-string.next_text old-string.units_drawn old-string.units_taken old-string.text_ending next_text text_after comes_to on
text-got s c = rw (number-got s c.units) (go (next_number s c.units))
  where
    after : (rest : number-place.Place) (t : Taken)
        → old-string.text_ending c.at c.end rest t ≡ comes_to string.Next string.Bad (text_after s c.at c.end rest t)
    after rest (units.Took b) = refl
    after rest (units.Refused why) = refl

    go : (g : Got number-place.Place ℕ)
        → old-string.units_drawn s c.at c.end (comes_to number.Next number.Bad g)
        ≡ comes_to string.Next string.Bad (on g (λ n rest. text_after s c.at c.end rest (take_units 7 n (slice c.at c.end s))))
    go (got n rest) = after rest (take_units 7 n (slice c.at c.end s))
    go (refused n p) = refl
