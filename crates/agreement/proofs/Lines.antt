-- What stands in line: what is refused, for every grammar, has a number from 1 to 8.
use Prim.Native.Nat.{ℕ, ◌+◌, ◌-◌}
use mathlib.Core.Path.{◌≡◌, refl}
use mathlib.Core.List.{List}
use native.Mathlib.Omega.{arith}
use lib.Dec.{ltb, leb, eqb}
use lib.ListN.{length}
use lib.Seq.{slice}
use Rattle.numbers.specs.declared.Read.{Read}
use Rattle.numbers.specs.declared.Read.TheVariants as read
use Rattle.numbers.specs.Number.{read_unsigned}
use Rattle.numbers.specs.Limits.{max_value, max_clock}
use Rattle.text.specs.declared.Part.{Part}
use Rattle.text.specs.declared.Units.{Units}
use Rattle.text.specs.Utf8.{well_formed}
use Rattle.anys.specs.declared.Skipped.{Skipped}
use Rattle.anys.specs.declared.Skipped.TheVariants as skipped
use Rattle.anys.specs.Any.{anys}
use Rattle.anys.proofs.Laws.{anys-numbered}
use Rattle.grammar.specs.Grammar as grammar
use Rattle.grammar.specs.Grammar.{Number, Field, Grammar}
use Rattle.grammar.specs.Course.{Drawn, got, not, run}
use Rattle.grammar.specs.Numbered.{Refuses, Owns}
use Rattle.grammar.proofs.Numbered.{stops}
use Rattle.decoder.specs.Line.{number_at, var_at, bounded, up_to, byte_at, restored, delete_at, number_by, so_many, bytes_at, checked, word_of, spanned, values_at, line}
use Rattle.pieces.proofs.Forgets.{chosen}
use Rattle.agreement.specs.Numbered.{Low, Stops}
use Rattle.agreement.proofs.NumberedColumns.{low1, low3, low6, NumberedRead, unsigned-numbered}

abbrev pub Right : {S X : Type 0} → Drawn S X → Type 0
Right d = Refuses Low d

pub bounded-right : {S : Type 0} (most : ℕ) (d : Drawn S (ℕ × ℕ)) → Right d → Right (bounded most d)
unfolding bounded Refuses
bounded-right most (got a s) h = chosen Right (ltb most a.0) low3 tt
bounded-right most (not why) h = h

restored-right : (by : ℕ) (d : Drawn ℕ (ℕ × ℕ)) → Right d → Right (restored by d)
unfolding restored Refuses
restored-right by (got a e) h = chosen Right (ltb max_clock (by + a.0)) low3 tt
restored-right by (not why) h = h

checked-right : (u : List ℕ) (d : Drawn ℕ Part) → Right d → Right (checked u d)
unfolding checked Refuses
checked-right u (got p e) h = chosen Right (well_formed (slice p.place (p.place + p.bytes.0) u)) tt low6
checked-right u (not why) h = h

word-right : (d : Drawn ℕ (Part × Units)) → Right d → Right (word_of d)
unfolding word_of Refuses
word-right (got a e) h = tt
word-right (not why) h = h

module _ (form : ℕ) (u : List ℕ) (at : ℕ) where
  var-right : Right (var_at u at)
  unfolding var_at number_at Refuses
  var-right = go (read_unsigned u at) (unsigned-numbered u at)
    where
      go : (r : Read) → NumberedRead r → Right (number_at at r)
      go (read.Number v e) h = tt
      go (read.Refused why) h = h

  up-to-right : (most : ℕ) → Right (up_to most u at)
  unfolding up_to
  up-to-right most = bounded-right most (var_at u at) var-right

  byte-right : Right (byte_at u at)
  unfolding byte_at Refuses
  byte-right = chosen Right (leb (length u) at) low1 tt

  delete-right : (by : ℕ) → Right (delete_at form by u at)
  unfolding delete_at
  delete-right by = chosen Right (eqb form 1) (up-to-right max_clock) (restored-right by (var_at u at) var-right)

  bytes-right : Right (bytes_at u at)
  unfolding bytes_at so_many Refuses
  bytes-right = go (read_unsigned u at) (unsigned-numbered u at)
    where
      go : (r : Read) → NumberedRead r → Right (so_many u r)
      go (read.Number n e) h = chosen Right (ltb (length u - e) n) low1 tt
      go (read.Refused why) h = h

  number-right : (n : Number) → Right (number_by form u n at)
  unfolding number_by
  number-right grammar.byte = byte-right
  number-right (grammar.up_to most) = up-to-right most
  number-right grammar.any = var-right
  number-right grammar.client = up-to-right max_value
  number-right grammar.left_clock = up-to-right max_clock
  number-right grammar.right_clock = up-to-right max_clock
  number-right grammar.info = byte-right
  number-right grammar.parent_info = up-to-right max_clock
  number-right grammar.len = up-to-right max_clock
  number-right (grammar.delete_clock end) = delete-right end
  number-right grammar.delete_len = delete-right 1
  number-right grammar.type_number = var-right

  key_right : Right (word_of (checked u (bytes_at u at)))
  key_right = word-right (checked u (bytes_at u at)) (checked-right u (bytes_at u at) bytes-right)

  values-right : (blame n : ℕ) → Right (values_at u blame n at)
  unfolding values_at spanned Refuses
  values-right blame n = go (anys u blame n at) refl
    where
      go : (s : Skipped) → anys u blame n at ≡ s → Right (spanned at s)
      go (skipped.At e) h = tt
      go (skipped.Refused why) h = let l = anys-numbered u blame n at why h in (l.0, omega (arith, l.1))

  pub line-right : (f : Field) → Right (line form u f at)
  unfolding line
  line-right (grammar.number n) = number-right n
  line-right grammar.text = checked-right u (bytes_at u at) bytes-right
  line-right grammar.bytes = bytes-right
  line-right grammar.key = key_right
  line-right (grammar.value blame) = chosen Right (eqb form 1) key_right (values-right blame 1)
  line-right (grammar.values blame n) = values-right blame n

pub line-numbered : {E A : Type 0} (form : ℕ) (u : List ℕ) (x : Grammar E A) → Owns Low x → (at : ℕ) → Stops (run (line form u) x at)
line-numbered form u x o at = stops Low (line form u) (λ f e. line-right form u e f) x o at
