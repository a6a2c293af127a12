-- A draw in line goes forward, within the bytes, and its line has the bytes that it went over.
use Prim.Native.Nat.{ℕ, ◌+◌, ◌-◌, ◌≤◌, ◌<◌}
use native.Mathlib.Omega.{arith}
use mathlib.Core.Path.{◌≡◌, refl}
use mathlib.Core.Bool.{Bool, true, false}
use mathlib.Core.List.{List}
use lib.Dec.{ltb, leb, eqb}
use lib.ListN.{length, get_or}
use lib.Seq.{slice}
use borrow.Author.Tests.{ltb-false, leb-false}
use Rattle.numbers.specs.declared.Read.{Read}
use Rattle.numbers.specs.declared.Read.TheVariants as read
use Rattle.numbers.specs.Number.{pick, read_unsigned}
use Rattle.numbers.specs.Limits.{max_clock, max_value}
use Rattle.text.specs.declared.Part.{Part}
use Rattle.text.specs.declared.Units.{Units}
use Rattle.text.specs.Utf8.{well_formed, units_of}
use Rattle.anys.specs.declared.Skipped.{Skipped}
use Rattle.anys.specs.declared.Skipped.TheVariants as skipped
use Rattle.anys.specs.Any.{anys}
use Rattle.anys.proofs.Laws.{anys-bytes}
use Rattle.anys.proofs.Places.{read-ends}
use Rattle.grammar.specs.Grammar as grammar
use Rattle.grammar.specs.Grammar.{Number, Field, Answer}
use Rattle.grammar.specs.Course.{Drawn, got, not}
use Rattle.decoder.specs.Line.{number_at, var_at, bounded, up_to, byte_at, restored, delete_at, number_by, so_many, bytes_at, checked, word_of, spanned, values_at, line}
use Rattle.origins.specs.Origins.{line_stand, stored_line, plain_line, line_at}
use Rattle.tiled.specs.Tiles.{Has}

module _ (form : ℕ) (u : List ℕ) where
  -- ---- numbers

  -- forward, and within the bytes
  unfoldable Onward : ℕ → Drawn ℕ (ℕ × ℕ) → Type 0
  Onward at (got a t) = (at ≤ t) × (t ≤ length u)
  Onward at (not why) = Unit {0}

  var-onward : (at : ℕ) → Onward at (var_at u at)
  unfolding Onward var_at number_at
  var-onward at = go (read_unsigned u at) (λ n e p. read-ends u at n e p)
    where
      go : (r : Read) → ((n e : ℕ) → r ≡ read.Number n e → (at < e) × (e ≤ length u)) → Onward at (number_at at r)
      go (read.Number v e) h = (omega (arith, (h v e refl).0), (h v e refl).1)
      go (read.Refused why) h = tt

  bounded-onward : (most at : ℕ) (d : Drawn ℕ (ℕ × ℕ)) → Onward at d → Onward at (bounded most d)
  unfolding Onward bounded
  bounded-onward most at (got a t) h = go (ltb most a.0)
    where
      go : (b : Bool) → Onward at (pick b (not (record { number = 3; place = a.1 })) (got a t))
      go true = tt
      go false = h
  bounded-onward most at (not why) h = tt

  restored-onward : (by at : ℕ) (d : Drawn ℕ (ℕ × ℕ)) → Onward at d → Onward at (restored by d)
  unfolding Onward restored
  restored-onward by at (got a t) h = go (ltb max_clock (by + a.0))
    where
      go : (b : Bool) → Onward at (pick b (not (record { number = 3; place = a.1 })) (got (by + a.0, a.1) t))
      go true = tt
      go false = h
  restored-onward by at (not why) h = tt

  byte-onward : (at : ℕ) → Onward at (byte_at u at)
  unfolding Onward byte_at
  byte-onward at = go (leb (length u) at) refl
    where
      go : (b : Bool) → leb (length u) at ≡ b → Onward at (pick b (not (record { number = 1; place = length u })) (got (get_or u at 0, at) (at + 1)))
      go true e = tt
      go false e = (omega arith, omega (arith, leb-false (length u) at e))

  up-to-onward : (most at : ℕ) → Onward at (up_to most u at)
  unfolding up_to
  up-to-onward most at = bounded-onward most at (var_at u at) (var-onward at)

  delete-onward : (by at : ℕ) → Onward at (delete_at form by u at)
  unfolding delete_at
  delete-onward by at = go (eqb form 1)
    where
      go : (b : Bool) → Onward at (pick b (up_to max_clock u at) (restored by (var_at u at)))
      go true = up-to-onward max_clock at
      go false = restored-onward by at (var_at u at) (var-onward at)

  number-onward : (n : Number) (at : ℕ) → Onward at (number_by form u n at)
  unfolding number_by
  number-onward grammar.byte at = byte-onward at
  number-onward (grammar.up_to most) at = up-to-onward most at
  number-onward grammar.any at = var-onward at
  number-onward grammar.client at = up-to-onward max_value at
  number-onward grammar.left_clock at = up-to-onward max_clock at
  number-onward grammar.right_clock at = up-to-onward max_clock at
  number-onward grammar.info at = byte-onward at
  number-onward grammar.parent_info at = up-to-onward max_clock at
  number-onward grammar.len at = up-to-onward max_clock at
  number-onward (grammar.delete_clock end) at = delete-onward end at
  number-onward grammar.delete_len at = delete-onward 1 at
  number-onward grammar.type_number at = var-onward at

  -- ---- stored bytes

  -- from a place on: what leads them, and then they, to the state behind them
  abbrev Spans : ℕ → Part → ℕ → Type 0
  Spans at p t = (at ≤ p.place) × (p.place + p.bytes.0 ≡ t) × (t ≤ length u)

  unfoldable Spanned : ℕ → Drawn ℕ Part → Type 0
  Spanned at (got p t) = Spans at p t
  Spanned at (not why) = Unit {0}

  bytes-spanned : (at : ℕ) → Spanned at (bytes_at u at)
  unfolding Spanned bytes_at so_many
  bytes-spanned at = go (read_unsigned u at) (λ n e p. read-ends u at n e p)
    where
      by : (n e : ℕ) (b : Bool) → ltb (length u - e) n ≡ b → (at < e) × (e ≤ length u)
          → Spanned at (pick b (not (record { number = 1; place = length u })) (got (record { place = e; bytes = record { 0 = n } }) (e + n)))
      by n e true q h = tt
      by n e false q h = (omega (arith, h.0), refl, omega (arith, h.1, ltb-false (length u - e) n q))

      go : (r : Read) → ((n e : ℕ) → r ≡ read.Number n e → (at < e) × (e ≤ length u)) → Spanned at (so_many u r)
      go (read.Number n e) h = by n e (ltb (length u - e) n) refl (h n e refl)
      go (read.Refused why) h = tt

  unfoldable TextSpanned : ℕ → Drawn ℕ (Part × Units) → Type 0
  TextSpanned at (got a t) = Spans at a.0 t
  TextSpanned at (not why) = Unit {0}

  checked-spanned : (at : ℕ) (d : Drawn ℕ Part) → Spanned at d → TextSpanned at (checked u d)
  unfolding Spanned TextSpanned checked
  checked-spanned at (got p t) h = go (well_formed (slice p.place (p.place + p.bytes.0) u))
    where
      go : (b : Bool) → TextSpanned at (pick b (got (p, record { 0 = units_of (slice p.place (p.place + p.bytes.0) u) }) t) (not (record { number = 6; place = p.place })))
      go true = h
      go false = tt
  checked-spanned at (not why) h = tt

  word-spanned : (at : ℕ) (d : Drawn ℕ (Part × Units)) → TextSpanned at d → Spanned at (word_of d)
  unfolding Spanned TextSpanned word_of
  word-spanned at (got a t) h = h
  word-spanned at (not why) h = tt

  text-spanned : (at : ℕ) → TextSpanned at (checked u (bytes_at u at))
  text-spanned at = checked-spanned at (bytes_at u at) (bytes-spanned at)

  values-spanned : (blame n at : ℕ) → at ≤ length u → Spanned at (values_at u blame n at)
  unfolding Spanned values_at spanned
  values-spanned blame n at w = go (anys u blame n at) (λ e p. anys-bytes u blame n at e w p)
    where
      go : (r : Skipped) → ((e : ℕ) → r ≡ skipped.At e → (at + n ≤ e) × (e ≤ length u)) → Spanned at (spanned at r)
      go (skipped.At e) h = (omega arith, omega (arith, (h e refl).0), (h e refl).1)
      go (skipped.Refused why) h = tt

  value-spanned : (blame at : ℕ) → at ≤ length u → Spanned at (pick (eqb form 1) (word_of (checked u (bytes_at u at))) (values_at u blame 1 at))
  value-spanned blame at w = go (eqb form 1)
    where
      go : (b : Bool) → Spanned at (pick b (word_of (checked u (bytes_at u at))) (values_at u blame 1 at))
      go true = word-spanned at (checked u (bytes_at u at)) (text-spanned at)
      go false = values-spanned blame 1 at w

  -- ---- any field

  unfoldable pub Goes : (f : Field) → ℕ → Drawn ℕ (Answer f) → Type 0
  Goes f at (got a t) = (at ≤ t) × (t ≤ length u) × ((code : ℕ) → Has f (line_at code f a at t) at t)
  Goes f at (not why) = Unit {0}

  number-goes : (n : Number) (at : ℕ) (d : Drawn ℕ (ℕ × ℕ)) → Onward at d → Goes (grammar.number n) at d
  unfolding Goes Onward Has line_at plain_line line_stand
  number-goes n at (got a t) h = (h.0, h.1, λ code. (refl, omega (arith, h.0)))
  number-goes n at (not why) h = tt

  abbrev has-stored : (at t : ℕ) (p : Part) → Spans at p t → (at ≡ at) × (at + (p.place - at) ≡ p.place) × (p.place + p.bytes.0 ≡ t)
  has-stored at t p h = (refl, omega (arith, h.0), h.1)

  text-goes : (at : ℕ) (d : Drawn ℕ (Part × Units)) → TextSpanned at d → Goes grammar.text at d
  unfolding Goes TextSpanned Has line_at stored_line line_stand
  text-goes at (got a t) h = (omega (arith, h.0, h.1), h.2, λ code. has-stored at t a.0 h)
  text-goes at (not why) h = tt

  bytes-goes : (at : ℕ) (d : Drawn ℕ Part) → Spanned at d → Goes grammar.bytes at d
  unfolding Goes Spanned Has line_at stored_line line_stand
  bytes-goes at (got p t) h = (omega (arith, h.0, h.1), h.2, λ code. has-stored at t p h)
  bytes-goes at (not why) h = tt

  key-goes : (at : ℕ) (d : Drawn ℕ Part) → Spanned at d → Goes grammar.key at d
  unfolding Goes Spanned Has line_at stored_line line_stand
  key-goes at (got p t) h = (omega (arith, h.0, h.1), h.2, λ code. has-stored at t p h)
  key-goes at (not why) h = tt

  value-goes : (blame at : ℕ) (d : Drawn ℕ Part) → Spanned at d → Goes (grammar.value blame) at d
  unfolding Goes Spanned Has line_at stored_line line_stand
  value-goes blame at (got p t) h = (omega (arith, h.0, h.1), h.2, λ code. has-stored at t p h)
  value-goes blame at (not why) h = tt

  values-goes : (blame n at : ℕ) (d : Drawn ℕ Part) → Spanned at d → Goes (grammar.values blame n) at d
  unfolding Goes Spanned Has line_at stored_line line_stand
  values-goes blame n at (got p t) h = (omega (arith, h.0, h.1), h.2, λ code. has-stored at t p h)
  values-goes blame n at (not why) h = tt

  pub goes : (f : Field) (at : ℕ) → at ≤ length u → Goes f at (line form u f at)
  unfolding line
  goes (grammar.number n) at w = number-goes n at (number_by form u n at) (number-onward n at)
  goes grammar.text at w = text-goes at (checked u (bytes_at u at)) (text-spanned at)
  goes grammar.bytes at w = bytes-goes at (bytes_at u at) (bytes-spanned at)
  goes grammar.key at w = key-goes at (word_of (checked u (bytes_at u at))) (word-spanned at (checked u (bytes_at u at)) (text-spanned at))
  goes (grammar.value blame) at w = value-goes blame at _ (value-spanned blame at w)
  goes (grammar.values blame n) at w = values-goes blame n at (values_at u blame n at) (values-spanned blame n at w)
