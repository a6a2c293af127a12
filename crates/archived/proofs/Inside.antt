-- What stands in line ends inside the bytes; and a number does wherever it was read from, so a delete set does.
use Prim.Native.Nat.{ℕ, ◌+◌, ◌-◌, ◌≤◌}
use mathlib.Core.Path.{◌≡◌, refl}
use mathlib.Core.Bool.{Bool, true, false}
use mathlib.Core.List.{List}
use native.Mathlib.Omega.{arith}
use lib.Dec.{ltb, leb, eqb}
use lib.ListN.{length, get_or}
use lib.Seq.{slice}
use borrow.Author.Tests.{leb-false, ltb-false}
use Rattle.numbers.specs.declared.Read.{Read}
use Rattle.numbers.specs.declared.Read.TheVariants as read
use Rattle.numbers.specs.Number.{pick, read_unsigned}
use Rattle.numbers.specs.Limits.{max_value, max_clock, max_clients}
use Rattle.text.specs.declared.Part.{Part}
use Rattle.text.specs.declared.Units.{Units}
use Rattle.text.specs.Utf8.{well_formed}
use Rattle.anys.specs.declared.Skipped.{Skipped}
use Rattle.anys.specs.declared.Skipped.TheVariants as skipped
use Rattle.anys.specs.Any.{anys}
use Rattle.anys.proofs.Laws.{anys-bytes}
use Rattle.grammar.specs.Grammar as grammar
use Rattle.grammar.specs.Grammar.{Number, Field, Grammar, ask, emit, stop, done}
use Rattle.grammar.specs.Grammar.{◌>>=◌}
use Rattle.grammar.specs.Course.{Drawn, got, not, CourseTo, on_drawn, run}
use Rattle.grammar.specs.Deletes.{deleted_clients, all_ranges}
use Rattle.grammar.specs.Whole.{Ends}
use Rattle.decoder.specs.Line.{number_at, var_at, bounded, up_to, byte_at, restored, delete_at, number_by, so_many, bytes_at, checked, word_of, spanned, values_at, line}
use Rattle.decoder.specs.Update.{delete_set}
use Rattle.pieces.proofs.Forgets.{chosen}
use Rattle.places.proofs.BlamedReads.{Reads, unsigned_reads}

module _ (u : List ℕ) where
  abbrev In : {X : Type 0} → Drawn ℕ X → Type 0
  In (got x e) = e ≤ length u
  In (not why) = Unit {0}

  module _ (at : ℕ) where
    var-in : In (var_at u at)
    unfolding var_at number_at
    var-in = go (read_unsigned u at) (unsigned_reads u u (omega arith) at)
      where
        go : (r : Read) → Reads u at r → In (number_at at r)
        go (read.Number v e) h = h.1
        go (read.Refused why) h = tt

    bounded-in : (most : ℕ) (d : Drawn ℕ (ℕ × ℕ)) → In d → In (bounded most d)
    unfolding bounded
    bounded-in most (got a e) h = chosen (λ (x : Drawn ℕ (ℕ × ℕ)). In x) (ltb most a.0) tt h
    bounded-in most (not why) h = tt

    up-to-in : (most : ℕ) → In (up_to most u at)
    unfolding up_to
    up-to-in most = bounded-in most (var_at u at) var-in

    byte-in : In (byte_at u at)
    unfolding byte_at
    byte-in = go (leb (length u) at) refl
      where
        go : (b : Bool) → leb (length u) at ≡ b → In {X = ℕ × ℕ} (pick b (not (record { number = 1; place = length u })) (got (get_or u at 0, at) (at + 1)))
        go true e = tt
        go false e = omega (arith, leb-false (length u) at e)

    restored-in : (by : ℕ) (d : Drawn ℕ (ℕ × ℕ)) → In d → In (restored by d)
    unfolding restored
    restored-in by (got a e) h = chosen (λ (x : Drawn ℕ (ℕ × ℕ)). In x) (ltb max_clock (by + a.0)) tt h
    restored-in by (not why) h = tt

    delete-in : (form by : ℕ) → In (delete_at form by u at)
    unfolding delete_at
    delete-in form by = chosen (λ (x : Drawn ℕ (ℕ × ℕ)). In x) (eqb form 1) (up-to-in max_clock) (restored-in by (var_at u at) var-in)

    number_in : (form : ℕ) (n : Number) → In (number_by form u n at)
    unfolding number_by
    number_in form grammar.byte = byte-in
    number_in form (grammar.up_to most) = up-to-in most
    number_in form grammar.any = var-in
    number_in form grammar.client = up-to-in max_value
    number_in form grammar.left_clock = up-to-in max_clock
    number_in form grammar.right_clock = up-to-in max_clock
    number_in form grammar.info = byte-in
    number_in form grammar.parent_info = up-to-in max_clock
    number_in form grammar.len = up-to-in max_clock
    number_in form (grammar.delete_clock end) = delete-in form end
    number_in form grammar.delete_len = delete-in form 1
    number_in form grammar.type_number = var-in

    bytes-in : In (bytes_at u at)
    unfolding bytes_at so_many
    bytes-in = go (read_unsigned u at) (unsigned_reads u u (omega arith) at)
      where
        fits : (n e : ℕ) → e ≤ length u → (b : Bool) → ltb (length u - e) n ≡ b
            → In {X = Part} (pick b (not (record { number = 1; place = length u })) (got (record { place = e; bytes = record { 0 = n } }) (e + n)))
        fits n e l true t = tt
        fits n e l false t = omega (arith, ltb-false (length u - e) n t)

        go : (r : Read) → Reads u at r → In (so_many u r)
        go (read.Number n e) h = fits n e h.1 (ltb (length u - e) n) refl
        go (read.Refused why) h = tt

    checked-in : (d : Drawn ℕ Part) → In d → In (checked u d)
    unfolding checked
    checked-in (got p e) h = chosen (λ (x : Drawn ℕ (Part × Units)). In x) (well_formed (slice p.place (p.place + p.bytes.0) u)) h tt
    checked-in (not why) h = tt

    word_in : (d : Drawn ℕ (Part × Units)) → In d → In (word_of d)
    unfolding word_of
    word_in (got a e) h = h
    word_in (not why) h = tt

    key_in : In (word_of (checked u (bytes_at u at)))
    key_in = word_in (checked u (bytes_at u at)) (checked-in (bytes_at u at) bytes-in)

    -- zero values end where they begin, so it must be inside
    values-in : (blame n : ℕ) → at ≤ length u → In (values_at u blame n at)
    unfolding values_at spanned
    values-in blame n l = go (anys u blame n at) refl
      where
        go : (s : Skipped) → anys u blame n at ≡ s → In (spanned at s)
        go (skipped.At e) h = (anys-bytes u blame n at e l h).1
        go (skipped.Refused why) h = tt

    line-in : (form : ℕ) → at ≤ length u → (f : Field) → In (line form u f at)
    unfolding line
    line-in form l (grammar.number n) = number_in form n
    line-in form l grammar.text = checked-in (bytes_at u at) bytes-in
    line-in form l grammar.bytes = bytes-in
    line-in form l grammar.key = key_in
    line-in form l (grammar.value blame) = chosen (λ (x : Drawn ℕ Part). In x) (eqb form 1) key_in (values-in blame 1 l)
    line-in form l (grammar.values blame n) = values-in blame n l

  -- ---- a grammar

  -- a field, and what comes after it
  drawn-in : {X E A : Type 0} (s : ℕ) (d : Drawn ℕ X) (then : X → ℕ → CourseTo ℕ E A) → In d → ((a : X) (t : ℕ) → t ≤ length u → Ends (then a t) s → s ≤ length u)
      → Ends (on_drawn d then) s → s ≤ length u
  unfolding on_drawn Ends
  drawn-in s (got a t) then l rest h = rest a t l h
  drawn-in s (not why) then l rest h = absurd h

  run_in : {E A : Type 0} (form : ℕ) (x : Grammar E A) (at s : ℕ) → at ≤ length u → Ends (run (line form u) x at) s → s ≤ length u
  unfolding run Ends
  run_in form (ask f k) at s l h = drawn-in s (line form u f at) _ (line-in at form l f) (λ a t l h. run_in form (k a) t s l h) h
  run_in form (emit e p x) at s l h = run_in form x at s l h
  run_in form (stop n p) at s l h = absurd h
  run_in form (done a) at s l h = omega (arith, h, l)

  -- its client count is a number, wherever it stands
  pub set-inside : (form at s : ℕ) → Ends (delete_set form u at) s → s ≤ length u
  unfolding delete_set all_ranges ◌>>=◌ run line
  set-inside form at s h =
      let count : Number = grammar.up_to max_clients in
      drawn-in s (number_by form u count at) _ (number_in at form count) (λ a t l h. run_in form (deleted_clients a.0) t s l h) h
