-- Form 2: clients, clocks, infos, parent infos, texts, type numbers, lengths and keys are drawn from columns, each a prefix of the update, and blamed
-- at their run's first byte; all else stands in the rest. And the fields of either form over one state, as code has them.
use Rattle.std.specs.Prelude.{ℕ, List, [], ◌∷◌, ◌++◌, ltb, length, get_or, take}
use Rattle.numbers.specs.Number.{pick}
use Rattle.numbers.specs.Limits.{max_clock}
use Rattle.text.specs.declared.Part.{Part}
use Rattle.text.specs.declared.Units.{Units}
use Rattle.block.specs.Row.{no_part}
use Rattle.columns.specs.declared.number.Answer as number-answer
use Rattle.columns.specs.declared.number.Answer.TheVariants as number
use Rattle.columns.specs.declared.difference.Answer as difference-answer
use Rattle.columns.specs.declared.difference.Answer.TheVariants as difference
use Rattle.columns.specs.declared.byte.Answer as byte-answer
use Rattle.columns.specs.declared.byte.Answer.TheVariants as byte
use Rattle.string.specs.declared.Answer as string-answer
use Rattle.string.specs.declared.Answer.TheVariants as string
use Rattle.columns.specs.Number.{next_number}
use Rattle.columns.specs.Difference.{next_difference}
use Rattle.columns.specs.Byte.{next_byte}
use Rattle.string.specs.String.{next_text}
use Rattle.grammar.specs.Grammar as grammar
use Rattle.grammar.specs.Grammar.{Number}
use Rattle.grammar.specs.Course.{Drawn, got, not, Reader}
use Rattle.decoder.specs.Line.{bounded, line}
use Rattle.decoder.specs.States.{max_keys, Numbers, Differences, Octets, Texts, State, moved_to, key_moved, client_moved, left_moved, right_moved, info_moved, text_moved, parent_moved, types_moved, len_moved, with_keys}

-- ---- a column's next value; `put` puts the column after it into a state

unfoldable pub number_drawn : {S : Type 0} → (Numbers → S) → ℕ → number-answer.Answer → Drawn S (ℕ × ℕ)
number_drawn put to (number.Next v c) = got (v, c.from) (put (record { place = c; to = to }))
number_drawn put to (number.Bad why) = not why

abbrev pub from_numbers : {S : Type 0} → List ℕ → Numbers → (Numbers → S) → Drawn S (ℕ × ℕ)
from_numbers u c put = number_drawn put c.to (next_number (take c.to u) c.place)

unfoldable pub difference_drawn : {S : Type 0} → (Differences → S) → ℕ → difference-answer.Answer → Drawn S (ℕ × ℕ)
difference_drawn put to (difference.Next v c) = got (v, c.from) (put (record { place = c; to = to }))
difference_drawn put to (difference.Bad why) = not why

abbrev pub from_differences : {S : Type 0} → List ℕ → Differences → (Differences → S) → Drawn S (ℕ × ℕ)
from_differences u c put = difference_drawn put c.to (next_difference (take c.to u) c.place)

unfoldable pub byte_drawn : {S : Type 0} → (Octets → S) → ℕ → byte-answer.Answer → Drawn S (ℕ × ℕ)
byte_drawn put to (byte.Next v c) = got (v, c.from) (put (record { place = c; to = to }))
byte_drawn put to (byte.Bad why) = not why

abbrev pub from_bytes : {S : Type 0} → List ℕ → Octets → (Octets → S) → Drawn S (ℕ × ℕ)
from_bytes u c put = byte_drawn put c.to (next_byte (take c.to u) c.place)

-- the units of a text are the number drawn
unfoldable pub text_drawn : {S : Type 0} → (Texts → S) → ℕ → string-answer.Answer → Drawn S (Part × Units)
text_drawn put to (string.Next p c) = got (p, record { 0 = c.units.last }) (put (record { place = c; to = to }))
text_drawn put to (string.Bad why) = not why

abbrev pub from_texts : {S : Type 0} → List ℕ → Texts → (Texts → S) → Drawn S (Part × Units)
from_texts u c put = text_drawn put c.to (next_text (take c.to u) c.place)

-- ---- the reader of form 2

-- what stands in line moves the place alone
unfoldable pub onto : {X : Type 0} → State → Drawn ℕ X → Drawn State X
onto s (got x e) = got x (moved_to s e)
onto s (not why) = not why

unfoldable pub number_in : List ℕ → Number → State → Drawn State (ℕ × ℕ)
number_in u grammar.client s = from_numbers u s.client (λ c. client_moved c s)
number_in u grammar.left_clock s = from_differences u s.left (λ c. left_moved c s)
number_in u grammar.right_clock s = from_differences u s.right (λ c. right_moved c s)
number_in u grammar.info s = from_bytes u s.info (λ c. info_moved c s)
number_in u grammar.parent_info s = from_bytes u s.parent (λ c. parent_moved c s)
number_in u grammar.len s = bounded max_clock (from_numbers u s.len (λ c. len_moved c s))
number_in u grammar.byte s = onto s (line 2 u (grammar.number grammar.byte) s.at)
number_in u (grammar.up_to most) s = onto s (line 2 u (grammar.number (grammar.up_to most)) s.at)
number_in u grammar.any s = onto s (line 2 u (grammar.number grammar.any) s.at)
number_in u (grammar.delete_clock end) s = onto s (line 2 u (grammar.number (grammar.delete_clock end)) s.at)
number_in u grammar.delete_len s = onto s (line 2 u (grammar.number grammar.delete_len) s.at)
number_in u grammar.type_number s = from_numbers u s.types (λ c. types_moved c s)

abbrev pub text_in : List ℕ → State → Drawn State (Part × Units)
text_in u s = from_texts u s.text (λ c. text_moved c s)

-- a text that is a key from now on
unfoldable pub joining : Drawn State (Part × Units) → Drawn State Part
joining (got a s) = got a.0 (with_keys (s.keys ++ (a.0 ∷ [])) s)
joining (not why) = not why

-- a key by its number: one that was read is that key; any other takes the next text, which joins the keys read, and no more than so many may
unfoldable pub key_by_number : List ℕ → Drawn State (ℕ × ℕ) → Drawn State Part
key_by_number u (got a s) =
    pick (ltb a.0 (length s.keys)) (got (get_or s.keys a.0 no_part) s)
    (pick (ltb (length s.keys) max_keys) (joining (text_in u s)) (not (record { number = 3; place = a.1 })))
key_by_number u (not why) = not why

unfoldable pub key_in : List ℕ → State → Drawn State Part
key_in u s = key_by_number u (from_differences u s.key (λ c. key_moved c s))

unfoldable pub columned : List ℕ → Reader State
columned u (grammar.number n) s = number_in u n s
columned u grammar.text s = text_in u s
columned u grammar.bytes s = onto s (line 2 u grammar.bytes s.at)
columned u grammar.key s = key_in u s
columned u (grammar.value blame) s = onto s (line 2 u (grammar.value blame) s.at)
columned u (grammar.values blame n) s = onto s (line 2 u (grammar.values blame n) s.at)
