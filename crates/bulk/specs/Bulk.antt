-- Reading in bulk: what at most so many draws from a place on give, one after the other, and the place that they leave.
use Rattle.std.specs.Prelude.{ℕ, zero, suc, List, [], ◌∷◌, eqb, length}
use Rattle.numbers.specs.declared.Refusal.{Refusal}
use Rattle.numbers.specs.Number.{pick, none}
use Rattle.text.specs.declared.Part.{Part}
use Rattle.columns.specs.declared.number.Place as number-place
use Rattle.columns.specs.declared.number.Answer as number-answer
use Rattle.columns.specs.declared.number.Answer.TheVariants as number
use Rattle.columns.specs.Number.{next_number}
use Rattle.columns.specs.declared.difference.Place as difference-place
use Rattle.columns.specs.declared.difference.Answer as difference-answer
use Rattle.columns.specs.declared.difference.Answer.TheVariants as difference
use Rattle.columns.specs.Difference.{next_difference}
use Rattle.columns.specs.declared.byte.Place as byte-place
use Rattle.columns.specs.declared.byte.Answer as byte-answer
use Rattle.columns.specs.declared.byte.Answer.TheVariants as byte
use Rattle.columns.specs.Byte.{next_byte}
use Rattle.string.specs.declared.Place as string-place
use Rattle.string.specs.declared.Answer as string-answer
use Rattle.string.specs.declared.Answer.TheVariants as string
use Rattle.string.specs.String.{next_text}

-- one draw: a value and the place after it, or a refusal
pub data Draw (A P : Type 0) : Type 0 where
  drew : A → P → Draw A P
  stop : Refusal → Draw A P

-- what draws gave: the values, the refusal that ended them (`none` where none did), and the place after the last value
pub record Bulk (A P : Type 0) : Type 0 where
  pub values : List A
  pub refusal : Refusal
  pub place : P

-- a draw from place c, and what is drawn after it; a refused draw leaves c
unfoldable pub and_then : {A P : Type 0} → P → Draw A P → (P → Bulk A P) → Bulk A P
and_then c (drew v d) f = record { values = v ∷ (f d).values; refusal = (f d).refusal; place = (f d).place }
and_then c (stop why) f = record { values = []; refusal = why; place = c }

-- at most k draws from place c on
unfoldable pub draws : {A P : Type 0} → (P → Draw A P) → ℕ → P → Bulk A P
draws next zero c = record { values = []; refusal = none; place = c }
draws next (suc k) c = and_then c (next c) (λ d. draws next k d)

-- the refusal that is told: only that of the very first draw, so that no refusal stands beside values
unfoldable pub told : {A P : Type 0} → Bulk A P → Refusal
told b = pick (eqb (length b.values) 0) b.refusal none

-- ---- the four columns

unfoldable pub number_draw : number-answer.Answer → Draw ℕ number-place.Place
number_draw (number.Next v c) = drew v c
number_draw (number.Bad why) = stop why

unfoldable pub difference_draw : difference-answer.Answer → Draw ℕ difference-place.Place
difference_draw (difference.Next v c) = drew v c
difference_draw (difference.Bad why) = stop why

unfoldable pub byte_draw : byte-answer.Answer → Draw ℕ byte-place.Place
byte_draw (byte.Next v c) = drew v c
byte_draw (byte.Bad why) = stop why

unfoldable pub text_draw : string-answer.Answer → Draw Part string-place.Place
text_draw (string.Next p c) = drew p c
text_draw (string.Bad why) = stop why

abbrev pub draw_numbers : ℕ → List ℕ → number-place.Place → Bulk ℕ number-place.Place
draw_numbers k s c = draws (λ d. number_draw (next_number s d)) k c

abbrev pub draw_differences : ℕ → List ℕ → difference-place.Place → Bulk ℕ difference-place.Place
draw_differences k s c = draws (λ d. difference_draw (next_difference s d)) k c

abbrev pub draw_bytes : ℕ → List ℕ → byte-place.Place → Bulk ℕ byte-place.Place
draw_bytes k s c = draws (λ d. byte_draw (next_byte s d)) k c

abbrev pub draw_texts : ℕ → List ℕ → string-place.Place → Bulk Part string-place.Place
draw_texts k s c = draws (λ d. text_draw (next_text s d)) k c

-- texts as words: the place and the length of each
unfoldable pub part_words : List Part → List ℕ
part_words [] = []
part_words (p ∷ ps) = p.place ∷ (p.bytes.0 ∷ part_words ps)
