-- In form 1 the bytes of a number's line, from its place on, as many as there are, are the number's spelling, of an info byte the byte itself; what leads stored
-- bytes is the spelling of their length.
use Prim.Native.Nat.{ℕ, ◌+◌, ◌-◌}
use mathlib.Core.Path.{◌≡◌, refl}
use mathlib.Core.List.{List}
use mathlib.Core.Bool.{Bool, true, false}
use native.Mathlib.Omega.{arith}
use lib.Dec.{ltb, leb}
use lib.ListN.{length, get_or}
use lib.Seq.{slice}
use Rattle.numbers.specs.declared.Read.{Read}
use Rattle.numbers.specs.declared.Read.TheVariants as read
use Rattle.numbers.specs.Number.{pick, read_unsigned}
use Rattle.numbers.specs.Limits.{max_value, max_clock}
use Rattle.text.specs.declared.Part.{Part}
use Rattle.text.specs.declared.Units.{Units}
use Rattle.text.specs.Utf8.{well_formed, units_of}
use Rattle.anys.proofs.Places.{read-ends}
use Rattle.grammar.specs.Grammar as grammar
use Rattle.grammar.specs.Grammar.{Number}
use Rattle.grammar.specs.Course.{Drawn, got, not}
use Rattle.decoder.specs.Line.{number_at, var_at, up_to, byte_at, delete_at, number_by, so_many, bytes_at, checked, word_of, line}
use Rattle.origins.specs.Origins.{line_stand, stored_line, plain_line, line_at}
use Rattle.origin_facts.specs.Facts.{On, Spells, IsByte, SpeltIn, Leads}
use Rattle.origin_facts.proofs.Draws.{on-got, on-bounded}

module _ (u : List ℕ) (at : ℕ) where
  abbrev Read-so : ℕ × ℕ → ℕ → Type 0
  Read-so a e = Spells u a.0 (line_stand at e)

  var-spells : On Read-so (var_at u at)
  unfolding On var_at number_at line_stand
  var-spells = go (read_unsigned u at) refl
    where
      go : (r : Read) → read_unsigned u at ≡ r → On Read-so (number_at at r)
      go (read.Number v e) q = let f : at + (e - at) ≡ e = omega (arith, read-ends u at v e q) in rw f q
      go (read.Refused why) q = tt

  up-to-spells : (most : ℕ) → On Read-so (up_to most u at)
  unfolding up_to
  up-to-spells most = on-bounded Read-so most (var_at u at) var-spells

  byte-is : On (λ (a : ℕ × ℕ) (e : ℕ). IsByte u a.0 (line_stand at e)) (byte_at u at)
  unfolding On byte_at line_stand
  byte-is = go (leb (length u) at)
    where
      go : (b : Bool) → On (λ (a : ℕ × ℕ) (e : ℕ). IsByte u a.0 (line_stand at e)) (pick b (not (record { number = 1; place = length u })) (got (get_or u at 0, at) (at + 1)))
      go true = tt
      go false = (omega arith, refl)

  every-spells : (n : Number) → On (λ (a : ℕ × ℕ) (e : ℕ). SpeltIn u n a.0 (line_stand at e)) (number_by 1 u n at)
  unfolding SpeltIn number_by delete_at
  every-spells grammar.byte = byte-is
  every-spells grammar.info = byte-is
  every-spells (grammar.up_to most) = up-to-spells most
  every-spells grammar.any = var-spells
  every-spells grammar.client = up-to-spells max_value
  every-spells grammar.left_clock = up-to-spells max_clock
  every-spells grammar.right_clock = up-to-spells max_clock
  every-spells grammar.parent_info = up-to-spells max_clock
  every-spells grammar.len = up-to-spells max_clock
  every-spells (grammar.delete_clock end) = up-to-spells max_clock
  every-spells grammar.delete_len = up-to-spells max_clock
  every-spells grammar.type_number = var-spells

  pub bytes-there : (code : ℕ) (n : Number) (a : ℕ × ℕ) (e : ℕ) → line 1 u (grammar.number n) at ≡ got a e
      → let l = line_at code (grammar.number n) a at e in SpeltIn u n l.value l.stand
  unfolding line line_at plain_line
  bytes-there code n a e h = on-got (λ (a : ℕ × ℕ) (e : ℕ). SpeltIn u n a.0 (line_stand at e)) (number_by 1 u n at) a e (every-spells n) h

  -- ---- stored bytes

  abbrev Led : Part → Type 0
  Led p = Leads u (stored_line 0 0 p at)

  led : On (λ (p : Part) (e : ℕ). Led p) (bytes_at u at)
  unfolding On bytes_at so_many stored_line line_stand
  led = go (read_unsigned u at) refl
    where
      room : (n e : ℕ) → read_unsigned u at ≡ read.Number n e → (b : Bool)
          → On (λ (p : Part) (e : ℕ). Led p) (pick b (not (record { number = 1; place = length u })) (got (record { place = e; bytes = record { 0 = n } }) (e + n)))
      room n e q true = tt
      room n e q false = (q, omega (arith, read-ends u at n e q))

      go : (r : Read) → read_unsigned u at ≡ r → On (λ (p : Part) (e : ℕ). Led p) (so_many u r)
      go (read.Number n e) q = room n e q (ltb (length u - e) n)
      go (read.Refused why) q = tt

  led-text : On (λ (a : Part × Units) (e : ℕ). Led a.0) (checked u (bytes_at u at))
  unfolding On checked
  led-text = go (bytes_at u at) led
    where
      whole : (p : Part) (e : ℕ) (n : Units) → Led p → (b : Bool) → On (λ (a : Part × Units) (e : ℕ). Led a.0) (pick b (got (p, n) e) (not (record { number = 6; place = p.place })))
      whole p e n h true = h
      whole p e n h false = tt

      go : (d : Drawn ℕ Part) → On (λ (p : Part) (e : ℕ). Led p) d → On (λ (a : Part × Units) (e : ℕ). Led a.0) (checked u d)
      go (got p e) h =
          let b = slice p.place (p.place + p.bytes.0) u in
          whole p e (record { 0 = units_of b }) h (well_formed b)
      go (not why) h = tt

  led-word : On (λ (p : Part) (e : ℕ). Led p) (word_of (checked u (bytes_at u at)))
  unfolding On word_of
  led-word = go (checked u (bytes_at u at)) led-text
    where
      go : (d : Drawn ℕ (Part × Units)) → On (λ (a : Part × Units) (e : ℕ). Led a.0) d → On (λ (p : Part) (e : ℕ). Led p) (word_of d)
      go (got a e) h = h
      go (not why) h = tt

  pub text-led : (code : ℕ) (a : Part × Units) (e : ℕ) → line 1 u grammar.text at ≡ got a e → Leads u (line_at code grammar.text a at e)
  unfolding line line_at stored_line
  text-led code a e h = on-got (λ (a : Part × Units) (e : ℕ). Led a.0) (checked u (bytes_at u at)) a e led-text h

  pub bytes-led : (code : ℕ) (p : Part) (e : ℕ) → line 1 u grammar.bytes at ≡ got p e → Leads u (line_at code grammar.bytes p at e)
  unfolding line line_at stored_line
  bytes-led code p e h = on-got (λ (p : Part) (e : ℕ). Led p) (bytes_at u at) p e led h

  pub key-led : (code : ℕ) (p : Part) (e : ℕ) → line 1 u grammar.key at ≡ got p e → Leads u (line_at code grammar.key p at e)
  unfolding line line_at stored_line
  key-led code p e h = on-got (λ (p : Part) (e : ℕ). Led p) (word_of (checked u (bytes_at u at))) p e led-word h

  pub value-led : (code blame : ℕ) (p : Part) (e : ℕ) → line 1 u (grammar.value blame) at ≡ got p e → Leads u (line_at code (grammar.value blame) p at e)
  unfolding line line_at stored_line
  value-led code blame p e h = on-got (λ (p : Part) (e : ℕ). Led p) (word_of (checked u (bytes_at u at))) p e led-word h
