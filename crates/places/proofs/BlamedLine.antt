-- What stands in line blames the update, and a number's place there is its first byte: wherever the place was.
use Prim.Native.Nat.{ℕ, ◌+◌, ◌-◌, ◌<◌}
use mathlib.Core.Path.{◌≡◌, refl}
use mathlib.Core.Logic.{inl}
use mathlib.Core.List.{List}
use native.Mathlib.Omega.{arith}
use lib.Dec.{ltb, leb, eqb}
use lib.ListN.{length}
use lib.Seq.{slice}
use borrow.Author.Tests.{leb-false}
use Rattle.numbers.specs.declared.Read.{Read}
use Rattle.numbers.specs.declared.Read.TheVariants as read
use Rattle.numbers.specs.Number.{read_unsigned}
use Rattle.numbers.specs.Limits.{max_value, max_clock}
use Rattle.text.specs.declared.Part.{Part}
use Rattle.text.specs.declared.Units.{Units}
use Rattle.text.specs.Utf8.{well_formed}
use Rattle.anys.specs.declared.Skipped.{Skipped}
use Rattle.anys.specs.declared.Skipped.TheVariants as skipped
use Rattle.anys.specs.Any.{anys}
use Rattle.anys.proofs.Laws.{anys-where}
use Rattle.grammar.specs.Grammar as grammar
use Rattle.grammar.specs.Grammar.{Number, Field}
use Rattle.grammar.specs.Course.{Drawn, got, not}
use Rattle.decoder.specs.Line.{number_at, var_at, bounded, up_to, byte_at, restored, delete_at, number_by, so_many, bytes_at, checked, word_of, spanned, values_at, line}
use Rattle.pieces.proofs.Forgets.{chosen}
use Rattle.places.specs.Places.{Blames}
use Rattle.places.proofs.BlamedReads.{tested, not-text, Reads, end-blames, unsigned_reads}
use Rattle.places.proofs.BlamedGrammars.{Any, Byte, AtByte, Fair, Gives}

module _ (u : List ℕ) where
  -- a number over its limit is blamed where it was drawn, from any state
  pub bounded-gives : {S : Type 0} (Inv : S → Type 0) (most : ℕ) (d : Drawn S (ℕ × ℕ)) → Gives u (Byte u) Inv d
      → Gives u (Byte u) Inv (bounded most d)
  unfolding bounded Gives Blames
  bounded-gives Inv most (got a s) h = chosen (Gives u (Byte u) Inv) (ltb most a.0) (inl h.0) h
  bounded-gives Inv most (not why) h = h

  module _ (at : ℕ) where
    var-gives : Gives u (Byte u) Any (var_at u at)
    unfolding var_at number_at Gives
    var-gives = go (read_unsigned u at) (unsigned_reads u u (omega arith) at)
      where
        go : (r : Read) → Reads u at r → Gives u (Byte u) Any (number_at at r)
        go (read.Number v e) h = (omega (arith, h.0, h.1), tt)
        go (read.Refused why) h = h

    up-to-gives : (most : ℕ) → Gives u (Byte u) Any (up_to most u at)
    unfolding up_to
    up-to-gives most = bounded-gives Any most (var_at u at) var-gives

    byte-gives : Gives u (Byte u) Any (byte_at u at)
    unfolding byte_at Gives
    byte-gives = tested (Gives u (Byte u) Any) (leb (length u) at) (λ _. end-blames u u (omega arith)) (λ e. (leb-false (length u) at e, tt))

    restored-gives : (by : ℕ) (d : Drawn ℕ (ℕ × ℕ)) → Gives u (Byte u) Any d → Gives u (Byte u) Any (restored by d)
    unfolding restored Gives Blames
    restored-gives by (got a e) h = chosen (Gives u (Byte u) Any) (ltb max_clock (by + a.0)) (inl h.0) h
    restored-gives by (not why) h = h

    delete-gives : (form by : ℕ) → Gives u (Byte u) Any (delete_at form by u at)
    unfolding delete_at
    delete-gives form by = chosen (Gives u (Byte u) Any) (eqb form 1) (up-to-gives max_clock) (restored-gives by (var_at u at) var-gives)

    number-gives : (form : ℕ) (n : Number) → Gives u (Byte u) Any (number_by form u n at)
    unfolding number_by
    number-gives form grammar.byte = byte-gives
    number-gives form (grammar.up_to most) = up-to-gives most
    number-gives form grammar.any = var-gives
    number-gives form grammar.client = up-to-gives max_value
    number-gives form grammar.left_clock = up-to-gives max_clock
    number-gives form grammar.right_clock = up-to-gives max_clock
    number-gives form grammar.info = byte-gives
    number-gives form grammar.parent_info = up-to-gives max_clock
    number-gives form grammar.len = up-to-gives max_clock
    number-gives form (grammar.delete_clock end) = delete-gives form end
    number-gives form grammar.delete_len = delete-gives form 1
    number-gives form grammar.type_number = var-gives

    bytes-give : Gives u Any Any (bytes_at u at)
    unfolding bytes_at so_many Gives
    bytes-give = go (read_unsigned u at) (unsigned_reads u u (omega arith) at)
      where
        go : (r : Read) → Reads u at r → Gives u Any Any (so_many u r)
        go (read.Number n e) h = chosen (Gives u Any Any) (ltb (length u - e) n) (end-blames u u (omega arith)) (tt, tt)
        go (read.Refused why) h = h

    checked-gives : (d : Drawn ℕ Part) → Gives u Any Any d → Gives u Any Any (checked u d)
    unfolding checked Gives Blames
    checked-gives (got p e) h =
        let end : ℕ = p.place + p.bytes.0 in
        tested (Gives u Any Any) (well_formed (slice p.place end u)) (λ _. (tt, tt)) (λ q. inl (not-text u p.place end q))
    checked-gives (not why) h = h

    word-gives : (d : Drawn ℕ (Part × Units)) → Gives u Any Any d → Gives u Any Any (word_of d)
    unfolding word_of Gives
    word-gives (got a e) h = h
    word-gives (not why) h = h

    key-gives : Gives u Any Any (word_of (checked u (bytes_at u at)))
    key-gives = word-gives (checked u (bytes_at u at)) (checked-gives (bytes_at u at) bytes-give)

    -- a value of an unknown kind is blamed at the place that was given
    values-give : (blame n : ℕ) → blame < length u → Gives u Any Any (values_at u blame n at)
    unfolding values_at spanned Gives Blames
    values-give blame n b = go (anys u blame n at) refl
      where
        go : (s : Skipped) → anys u blame n at ≡ s → Gives u Any Any (spanned at s)
        go (skipped.At e) h = (tt, tt)
        go (skipped.Refused why) h = anys-where u blame n at why b h

    pub line_gives : (form : ℕ) (f : Field) → Fair u f → Gives u (AtByte u f) Any (line form u f at)
    unfolding line AtByte
    line_gives form (grammar.number n) b = number-gives form n
    line_gives form grammar.text b = checked-gives (bytes_at u at) bytes-give
    line_gives form grammar.bytes b = bytes-give
    line_gives form grammar.key b = key-gives
    line_gives form (grammar.value blame) b = chosen (Gives u Any Any) (eqb form 1) key-gives (values-give blame 1 b)
    line_gives form (grammar.values blame n) b = values-give blame n b
