-- Reading on: the values that a column gives from a place on, and the refusal that ends them.
use Rattle.std.specs.Prelude.{ℕ, zero, suc, List, [], ◌∷◌}
use Rattle.numbers.specs.declared.Refusal.{Refusal}
use Rattle.numbers.specs.Number.{none}
use Rattle.columns.specs.declared.number.Answer.TheVariants as number-answer
use Rattle.columns.specs.declared.difference.Answer.TheVariants as difference-answer
use Rattle.columns.specs.declared.byte.Answer.TheVariants as byte-answer
use Rattle.columns.specs.Number as number
use Rattle.columns.specs.Difference as difference
use Rattle.columns.specs.Byte as byte
use Rattle.columns.specs.declared.number.Place as number-place
use Rattle.columns.specs.declared.difference.Place as difference-place
use Rattle.columns.specs.declared.byte.Place as byte-place
use Rattle.columns.specs.declared.number.Answer as number-answers
use Rattle.columns.specs.declared.difference.Answer as difference-answers
use Rattle.columns.specs.declared.byte.Answer as byte-answers

-- one draw: a value and the place after it, or a refusal
pub data Draw (P : Type 0) : Type 0 where
  drew : ℕ → P → Draw P
  stop : Refusal → Draw P

-- the values drawn, and the refusal that ended them; `none` where none did
pub record Reading : Type 0 where
  pub values : List ℕ
  pub refusal : Refusal

unfoldable pub and_then : {P : Type 0} → Draw P → (P → Reading) → Reading
and_then (drew v c) f = record { values = v ∷ (f c).values; refusal = (f c).refusal }
and_then (stop why) f = record { values = []; refusal = why }

-- at most k draws from a place on
unfoldable pub reads : {P : Type 0} → (P → Draw P) → ℕ → P → Reading
reads next zero c = record { values = []; refusal = none }
reads next (suc k) c = and_then (next c) (λ d. reads next k d)

-- a draw of each column
unfoldable pub number_draw : number-answers.Answer → Draw number-place.Place
number_draw (number-answer.Next v c) = drew v c
number_draw (number-answer.Bad why) = stop why

unfoldable pub difference_draw : difference-answers.Answer → Draw difference-place.Place
difference_draw (difference-answer.Next v c) = drew v c
difference_draw (difference-answer.Bad why) = stop why

unfoldable pub byte_draw : byte-answers.Answer → Draw byte-place.Place
byte_draw (byte-answer.Next v c) = drew v c
byte_draw (byte-answer.Bad why) = stop why

abbrev pub read_numbers : ℕ → List ℕ → number-place.Place → Reading
read_numbers k s c = reads (λ d. number_draw (number.next_number s d)) k c

abbrev pub read_differences : ℕ → List ℕ → difference-place.Place → Reading
read_differences k s c = reads (λ d. difference_draw (difference.next_difference s d)) k c

abbrev pub read_bytes : ℕ → List ℕ → byte-place.Place → Reading
read_bytes k s c = reads (λ d. byte_draw (byte.next_byte s d)) k c
