-- Where a value that was drawn from an update came from, read off the reader's state before and after the draw: its bytes, which value of its run it
-- is, its base and its difference, the stored bytes.
use Rattle.std.specs.Prelude.{ℕ, ◌+◌, ◌-◌, ◌%◌, List, [], ◌∷◌, ltb, eqb, length, take}
use Rattle.numbers.specs.declared.Read.{Read}
use Rattle.numbers.specs.declared.Read.TheVariants as read
use Rattle.numbers.specs.declared.Signed.{Signed}
use Rattle.numbers.specs.declared.Signed.TheVariants as signed
use Rattle.numbers.specs.Number.{pick, read_unsigned, read_signed}
use Rattle.numbers.specs.Limits.{max_count}
use Rattle.text.specs.declared.Part.{Part}
use Rattle.block.specs.Row.{no_part}
use Rattle.runs.specs.Difference.{zero_key}
use Rattle.grammar.specs.Grammar as grammar
use Rattle.grammar.specs.Grammar.{Number, Field, Answer}
use Rattle.decoder.specs.States.{Numbers, Differences, Octets, Texts, State}
use Rattle.roles.specs.Roles.{key_text}
use Rattle.origins.specs.declared.Stand.{Stand}
use Rattle.origins.specs.declared.Rise.{Rise}
use Rattle.origins.specs.declared.Line.{Line}

-- ---- where it stands

-- in line, from a place to another
unfoldable pub line_stand : ℕ → ℕ → Stand
line_stand from to = record { place = from; bytes = to - from; source = 0; which = 0; of = 0 }

-- in a run of n values, whose bytes go from a place to another, so many values before its end
unfoldable pub in_run : ℕ → ℕ → ℕ → ℕ → Stand
in_run from to n left = record { place = from; bytes = to - from; source = 1; which = n - left; of = n }

unfoldable pub endless : ℕ → ℕ → Stand
endless from to = record { place = from; bytes = to - from; source = 2; which = 0; of = 0 }

-- ---- how many values a run has, by its bytes

-- the count that follows, and so many more
unfoldable pub times_read : ℕ → Read → ℕ
times_read more (read.Number c e) = pick (ltb max_count c) 0 (c + more)
times_read more (read.Refused why) = 0

-- a minus sign, or an odd difference, is followed by a count, less two
unfoldable pub number_times : List ℕ → Signed → ℕ
number_times s (signed.Value minus x e) = pick minus (times_read 2 (read_unsigned s e)) 1
number_times s (signed.Wrong why) = 0

unfoldable pub difference_times : List ℕ → Signed → ℕ
difference_times s (signed.Value minus x e) = pick (eqb (x % 2) 0) 1 (times_read 2 (read_unsigned s e))
difference_times s (signed.Wrong why) = 0

-- a byte by its count, less one
unfoldable pub byte_times : List ℕ → ℕ → ℕ
byte_times s from = times_read 1 (read_unsigned s (from + 1))

-- ---- the value that a column gave last

unfoldable pub number_stand : List ℕ → Numbers → Stand
number_stand u c =
    let s = take c.to u in
    let p = c.place in
    in_run p.from p.at (number_times s (read_signed s p.from)) p.count

unfoldable pub difference_stand : List ℕ → Differences → Stand
difference_stand u c =
    let s = take c.to u in
    let p = c.place in
    in_run p.from p.at (difference_times s (read_signed s p.from)) p.count

unfoldable pub byte_stand : List ℕ → Octets → Stand
byte_stand u c =
    let p = c.place in
    pick p.endless (endless p.from p.at) (in_run p.from p.at (byte_times (take c.to u) p.from) p.count)

-- of a text its units
unfoldable pub text_stand : List ℕ → Texts → Stand
text_stand u c = number_stand u (record { place = c.place.units; to = c.to })

-- ---- its base and its difference, which is read from the bytes

abbrev pub no_rise : Rise
no_rise = record { base = 0; sign = 0; size = 0 }

-- onto the value before; the difference is kept as its key
unfoldable pub rising : ℕ → ℕ → Rise
rising base key =
    pick (ltb key zero_key) (record { base = base; sign = 2; size = zero_key - key }) (record { base = base; sign = 1; size = key - zero_key })

-- ---- the lines of a draw, between two places in line

-- stored bytes, led by their length or by nothing
unfoldable pub stored_line : ℕ → ℕ → Part → ℕ → Line
stored_line code v p from = record { field = code; value = v; stand = line_stand from p.place; rise = no_rise; part = p }

unfoldable pub plain_line : ℕ → ℕ → ℕ → ℕ → Line
plain_line code v from to = record { field = code; value = v; stand = line_stand from to; rise = no_rise; part = no_part }

-- a text's value is its units, that of other bytes their count
unfoldable pub line_at : ℕ → (f : Field) → Answer f → ℕ → ℕ → Line
line_at code (grammar.number n) a from to = plain_line code a.0 from to
line_at code grammar.text a from to = stored_line code a.1.0 a.0 from
line_at code grammar.bytes p from to = stored_line code p.bytes.0 p from
line_at code grammar.key p from to = stored_line code p.bytes.0 p from
line_at code (grammar.value blame) p from to = stored_line code p.bytes.0 p from
line_at code (grammar.values blame n) p from to = stored_line code p.bytes.0 p from

-- form 1: all of it is in line
abbrev pub lines_in_line : ℕ → (f : Field) → Answer f → ℕ → ℕ → List Line
lines_in_line code f a from to = line_at code f a from to ∷ []

-- ---- form 2: between two states

-- where a number stands, which was drawn from place `from` in line, or from a column
unfoldable pub stand_in : List ℕ → Number → ℕ → State → Stand
stand_in u grammar.client from t = number_stand u t.client
stand_in u grammar.left_clock from t = difference_stand u t.left
stand_in u grammar.right_clock from t = difference_stand u t.right
stand_in u grammar.info from t = byte_stand u t.info
stand_in u grammar.parent_info from t = byte_stand u t.parent
stand_in u grammar.len from t = number_stand u t.len
stand_in u grammar.type_number from t = number_stand u t.types
stand_in u grammar.byte from t = line_stand from t.at
stand_in u (grammar.up_to most) from t = line_stand from t.at
stand_in u grammar.any from t = line_stand from t.at
stand_in u (grammar.delete_clock end) from t = line_stand from t.at
stand_in u grammar.delete_len from t = line_stand from t.at

-- the value before, where a number is a difference from it
unfoldable pub base_of : Number → State → ℕ
base_of grammar.left_clock s = s.left.place.last
base_of grammar.right_clock s = s.right.place.last
base_of grammar.client s = 0
base_of grammar.info s = 0
base_of grammar.parent_info s = 0
base_of grammar.len s = 0
base_of grammar.type_number s = 0
base_of grammar.byte s = 0
base_of (grammar.up_to most) s = 0
base_of grammar.any s = 0
base_of (grammar.delete_clock end) s = 0
base_of grammar.delete_len s = 0

-- and the difference
unfoldable pub rise_of : Number → ℕ → State → Rise
rise_of grammar.left_clock base t = rising base t.left.place.key
rise_of grammar.right_clock base t = rising base t.right.place.key
rise_of grammar.client base t = no_rise
rise_of grammar.info base t = no_rise
rise_of grammar.parent_info base t = no_rise
rise_of grammar.len base t = no_rise
rise_of grammar.type_number base t = no_rise
rise_of grammar.byte base t = no_rise
rise_of (grammar.up_to most) base t = no_rise
rise_of grammar.any base t = no_rise
rise_of (grammar.delete_clock end) base t = no_rise
rise_of grammar.delete_len base t = no_rise

-- a text of the text column, and its units
unfoldable pub text_line : List ℕ → ℕ → Part → State → Line
text_line u code p t = record { field = code; value = t.text.place.units.last; stand = text_stand u t.text; rise = no_rise; part = p }

-- a key's number, a difference from the number before
unfoldable pub key_line : List ℕ → ℕ → Part → ℕ → State → Line
key_line u code p base t =
    let c = t.key in
    record { field = code; value = c.place.last; stand = difference_stand u c; rise = rising base c.place.key; part = p }

-- and its text, where it is a new one: there were so many keys before
unfoldable pub key_lines : List ℕ → ℕ → Part → ℕ → ℕ → State → List Line
key_lines u code p base keys t = key_line u code p base t ∷ pick (ltb keys (length t.keys)) (text_line u key_text p t ∷ []) []

-- a number
unfoldable pub number_line : List ℕ → ℕ → Number → ℕ → ℕ → ℕ → State → Line
number_line u code n v from base t = record { field = code; value = v; stand = stand_in u n from t; rise = rise_of n base t; part = no_part }

unfoldable pub lines_in : List ℕ → ℕ → (f : Field) → Answer f → State → State → List Line
lines_in u code (grammar.number n) a s t = number_line u code n a.0 s.at (base_of n s) t ∷ []
lines_in u code grammar.text a s t = text_line u code a.0 t ∷ []
lines_in u code grammar.bytes p s t = stored_line code p.bytes.0 p s.at ∷ []
lines_in u code grammar.key p s t = key_lines u code p s.key.place.last (length s.keys) t
lines_in u code (grammar.value blame) p s t = stored_line code p.bytes.0 p s.at ∷ []
lines_in u code (grammar.values blame n) p s t = stored_line code p.bytes.0 p s.at ∷ []

-- ---- as words

unfoldable pub line_words : Line → List ℕ
line_words l =
    let x = l.stand in
    let r = l.rise in
    l.field ∷ l.value ∷ x.place ∷ x.bytes ∷ x.source ∷ x.which ∷ x.of ∷ r.base ∷ r.sign ∷ r.size ∷ l.part.place ∷ l.part.bytes.0 ∷ []
