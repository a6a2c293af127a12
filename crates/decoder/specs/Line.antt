-- What stands in line: a reader whose state is the next byte's place. In form 1 that is everything; in form 2 what has no column.
use Rattle.std.specs.Prelude.{ℕ, ◌+◌, ◌-◌, List, ltb, leb, eqb, length, get_or}
use Rattle.std.proofs.Math.Seq.{slice}
use Rattle.numbers.specs.declared.Read.{Read}
use Rattle.numbers.specs.declared.Read.TheVariants as read
use Rattle.numbers.specs.Number.{pick, read_unsigned}
use Rattle.numbers.specs.Limits.{max_value, max_clock}
use Rattle.text.specs.declared.Part.{Part}
use Rattle.text.specs.declared.Units.{Units}
use Rattle.text.specs.Utf8.{well_formed, units_of}
use Rattle.anys.specs.declared.Skipped.{Skipped}
use Rattle.anys.specs.declared.Skipped.TheVariants as skipped
use Rattle.anys.specs.Any.{anys}
use Rattle.grammar.specs.Grammar as grammar
use Rattle.grammar.specs.Grammar.{Number}
use Rattle.grammar.specs.Course.{Drawn, got, not, Reader}

unfoldable pub number_at : ℕ → Read → Drawn ℕ (ℕ × ℕ)
number_at at (read.Number v e) = got (v, at) e
number_at at (read.Refused why) = not why

unfoldable pub var_at : List ℕ → ℕ → Drawn ℕ (ℕ × ℕ)
var_at u at = number_at at (read_unsigned u at)

-- a number over its limit is 3, where it stands
unfoldable pub bounded : {S : Type 0} → ℕ → Drawn S (ℕ × ℕ) → Drawn S (ℕ × ℕ)
bounded most (got a s) = pick (ltb most a.0) (not (record { number = 3; place = a.1 })) (got a s)
bounded most (not why) = not why

unfoldable pub up_to : ℕ → List ℕ → ℕ → Drawn ℕ (ℕ × ℕ)
up_to most u at = bounded most (var_at u at)

unfoldable pub byte_at : List ℕ → ℕ → Drawn ℕ (ℕ × ℕ)
byte_at u at = pick (leb (length u) at) (not (record { number = 1; place = length u })) (got (get_or u at 0, at) (at + 1))

-- a delete range's clock and length are so much less than they stand for, in form 2, and tested as restored
unfoldable pub restored : ℕ → Drawn ℕ (ℕ × ℕ) → Drawn ℕ (ℕ × ℕ)
restored by (got a e) = pick (ltb max_clock (by + a.0)) (not (record { number = 3; place = a.1 })) (got (by + a.0, a.1) e)
restored by (not why) = not why

unfoldable pub delete_at : ℕ → ℕ → List ℕ → ℕ → Drawn ℕ (ℕ × ℕ)
delete_at form by u at = pick (eqb form 1) (up_to max_clock u at) (restored by (var_at u at))

unfoldable pub number_by : ℕ → List ℕ → Number → ℕ → Drawn ℕ (ℕ × ℕ)
number_by form u grammar.byte at = byte_at u at
number_by form u (grammar.up_to most) at = up_to most u at
number_by form u grammar.any at = var_at u at
number_by form u grammar.client at = up_to max_value u at
number_by form u grammar.left_clock at = up_to max_clock u at
number_by form u grammar.right_clock at = up_to max_clock u at
number_by form u grammar.info at = byte_at u at
number_by form u grammar.parent_info at = up_to max_clock u at
number_by form u grammar.len at = up_to max_clock u at
number_by form u (grammar.delete_clock end) at = delete_at form end u at
number_by form u grammar.delete_len at = delete_at form 1 u at
number_by form u grammar.type_number at = var_at u at

-- a length, and so many bytes
unfoldable pub so_many : List ℕ → Read → Drawn ℕ Part
so_many u (read.Number n e) =
    pick (ltb (length u - e) n) (not (record { number = 1; place = length u })) (got (record { place = e; bytes = record { 0 = n } }) (e + n))
so_many u (read.Refused why) = not why

unfoldable pub bytes_at : List ℕ → ℕ → Drawn ℕ Part
bytes_at u at = so_many u (read_unsigned u at)

-- the bytes of a text are UTF-8, and have so many units
unfoldable pub checked : List ℕ → Drawn ℕ Part → Drawn ℕ (Part × Units)
checked u (got p e) =
    let bytes = slice p.place (p.place + p.bytes.0) u in
    pick (well_formed bytes) (got (p, record { 0 = units_of bytes }) e) (not (record { number = 6; place = p.place }))
checked u (not why) = not why

-- a text of which the bytes alone are wanted
unfoldable pub word_of : {S : Type 0} → Drawn S (Part × Units) → Drawn S Part
word_of (got a s) = got a.0 s
word_of (not why) = not why

-- plain values are lib0's any-values; their bytes, from where they begin
unfoldable pub spanned : ℕ → Skipped → Drawn ℕ Part
spanned at (skipped.At e) = got (record { place = at; bytes = record { 0 = e - at } }) e
spanned at (skipped.Refused why) = not why

unfoldable pub values_at : List ℕ → ℕ → ℕ → ℕ → Drawn ℕ Part
values_at u blame n at = spanned at (anys u blame n at)

-- a mark's value is JSON text in form 1, which is not looked into, and one any-value in form 2
unfoldable pub line : ℕ → List ℕ → Reader ℕ
line form u (grammar.number n) at = number_by form u n at
line form u grammar.text at = checked u (bytes_at u at)
line form u grammar.bytes at = bytes_at u at
line form u grammar.key at = word_of (checked u (bytes_at u at))
line form u (grammar.value blame) at = pick (eqb form 1) (word_of (checked u (bytes_at u at))) (values_at u blame 1 at)
line form u (grammar.values blame n) at = values_at u blame n at
