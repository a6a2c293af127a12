-- With more bytes each answer in line stays, and each refusal other than 1; so any pieces give the reading of the whole.
use Prim.Native.Nat.{ℕ, zero, suc, ◌+◌, ◌-◌, ◌≤◌, ◌<◌}
use mathlib.Core.Path.{◌≡◌, refl, sym, ap, subst}
use mathlib.Core.Bool.{Bool, true, false, true≢false}
use mathlib.Core.List.{List, [], ◌∷◌, ◌++◌}
use native.Mathlib.Omega.{arith}
use lib.Dec.{ltb, leb, eqb}
use lib.ListN.{length, get_or, drop, length-append, get_or-append, drop_of_length-le}
use lib.Seq.{slice, take-append-le, drop-append-le}
use borrow.Author.Tests.{leb-true, leb-false, ltb-false, lt-leb, le-ltb}
use Rattle.numbers.specs.declared.Refusal.{Refusal}
use Rattle.numbers.specs.declared.Read.{Read}
use Rattle.numbers.specs.declared.Read.TheVariants as read
use Rattle.numbers.specs.Number.{pick, Spelt, got, short, long, low_part, spelt, answer_at, read_unsigned}
use Rattle.numbers.specs.Limits.{max_value, max_clock}
use Rattle.text.specs.declared.Part.{Part}
use Rattle.text.specs.declared.Units.{Units}
use Rattle.text.specs.Utf8.{well_formed}
use Rattle.string.proofs.Texts.{read-ends}
use Rattle.anys.specs.declared.Skipped.{Skipped}
use Rattle.anys.specs.declared.Skipped.TheVariants as skipped
use Rattle.anys.specs.Any.{anys}
use Rattle.anys.proofs.More as skipping
use Rattle.anys.proofs.More.{anys-more}
use Rattle.grammar.specs.Grammar as grammar
use Rattle.grammar.specs.Grammar.{Number, Field, Grammar}
use Rattle.grammar.specs.Course as course
use Rattle.grammar.specs.Course.{Drawn, not, run}
use Rattle.grammar.specs.Update.{an_update}
use Rattle.grammar.specs.Fragments.{joined}
use Rattle.grammar.proofs.Runs.{both}
use Rattle.grammar.proofs.Fragments.{Firm, arrives-whole}
use Rattle.decoder.specs.Line.{number_at, var_at, bounded, up_to, byte_at, restored, delete_at, number_by, so_many, bytes_at, checked, word_of, spanned, values_at, line}
use Rattle.pieces.specs.Pieces.{in_pieces}

-- ---- what is spelt

abbrev FirmSpelt : Spelt → Spelt → Type 0
FirmSpelt (got x e) y = y ≡ got x e
FirmSpelt short y = Unit {0}
FirmSpelt long y = y ≡ long

after-firm : (w v : ℕ) (x y : Spelt) → FirmSpelt x y → FirmSpelt (low_part w v x) (low_part w v y)
unfolding low_part
after-firm w v (got x e) y h = ap (low_part w v) h
after-firm w v short y h = tt
after-firm w v long y h = ap (low_part w v) h

spelt-firm : (k i : ℕ) (t w : List ℕ) → FirmSpelt (spelt k i t) (spelt k i (t ++ w))
unfolding spelt
spelt-firm zero i t w = refl
spelt-firm (suc k) i [] w = tt
spelt-firm (suc k) i (b ∷ t) w =
    both FirmSpelt (ltb b 128) refl (after-firm 128 (b - 128) (spelt k (i + 1) t) (spelt k (i + 1) (t ++ w)) (spelt-firm k (i + 1) t w))

abbrev Late : Refusal → Type 0
Late why = eqb why.number 1 ≡ false

abbrev FirmRead : Read → Read → Type 0
FirmRead (read.Number v e) y = y ≡ read.Number v e
FirmRead (read.Refused why) y = Late why → y ≡ read.Refused why

placed-firm : (s s' : List ℕ) (at : ℕ) (x y : Spelt) → FirmSpelt x y → FirmRead (answer_at s at x) (answer_at s' at y)
unfolding answer_at
placed-firm s s' at (got x e) y h = ap (answer_at s' at) h
placed-firm s s' at short y h = λ q. absurd (true≢false q)
placed-firm s s' at long y h = λ q. ap (answer_at s' at) h

-- the bytes of a part are there
abbrev pub FirmPart : List ℕ → Drawn ℕ Part → Drawn ℕ Part → Type 0
FirmPart u (course.got p e) d = (d ≡ course.got p e) × (p.place + p.bytes.0 ≤ length u)
FirmPart u (not why) d = Late why → d ≡ not why

module _ (u w : List ℕ) (at : ℕ) where
  read-firm : FirmRead (read_unsigned u at) (read_unsigned (u ++ w) at)
  unfolding read_unsigned
  read-firm = placed-firm u (u ++ w) at _ _ (go (leb at (length u)) refl)
    where
      go : (b : Bool) → leb at (length u) ≡ b → FirmSpelt (spelt 9 at (drop at u)) (spelt 9 at (drop at (u ++ w)))
      go true e = rw (drop-append-le at u w (leb-true at (length u) e)) (spelt-firm 9 at (drop at u) w)
      go false e =
          let l : length u < at = leb-false at (length u) e in
          subst (λ (t : List ℕ). FirmSpelt (spelt 9 at t) (spelt 9 at (drop at (u ++ w)))) (sym (drop_of_length-le u {i = at} (omega arith))) (spelt-firm 9 at [] (drop at (u ++ w)))

  -- ---- the fields

  var-firm : Firm (var_at u at) (var_at (u ++ w) at)
  unfolding var_at number_at
  var-firm = go (read_unsigned u at) (read_unsigned (u ++ w) at) read-firm
    where
      go : (x y : Read) → FirmRead x y → Firm (number_at at x) (number_at at y)
      go (read.Number v e) y h = ap (number_at at) h
      go (read.Refused why) y h = λ q. ap (number_at at) (h q)

  up-to-firm : (most : ℕ) → Firm (up_to most u at) (up_to most (u ++ w) at)
  unfolding up_to bounded
  up-to-firm most = go (var_at u at) (var_at (u ++ w) at) var-firm
    where
      go : (x y : Drawn ℕ (ℕ × ℕ)) → Firm x y → Firm (bounded most x) (bounded most y)
      go (course.got a e) y h =
          subst (λ (z : Drawn ℕ (ℕ × ℕ)). Firm (bounded most (course.got a e)) (bounded most z)) (sym h) (both Firm (ltb most a.0) (λ q. refl) refl)
      go (not why) y h = λ q. ap (bounded most) (h q)

  pub byte-firm : Firm (byte_at u at) (byte_at (u ++ w) at)
  unfolding byte_at
  byte-firm = go (leb (length u) at) refl
    where
      longer : (n : ℕ) → n < length u → n < length (u ++ w)
      longer n l = omega (arith, length-append u w)

      go : (b : Bool) → leb (length u) at ≡ b
          → Firm (pick b (not (record { number = 1; place = length u })) (course.got (get_or u at 0, at) (at + 1))) (byte_at (u ++ w) at)
      go true e = λ q. absurd (true≢false q)
      go false e =
          let l : at < length u = leb-false (length u) at e in
          rw (lt-leb (length (u ++ w)) at (longer at l), get_or-append u w 0 at l) refl

  delete-firm : (form by : ℕ) → Firm (delete_at form by u at) (delete_at form by (u ++ w) at)
  unfolding delete_at restored
  delete-firm form by = both Firm (eqb form 1) (up-to-firm max_clock) (go (var_at u at) (var_at (u ++ w) at) var-firm)
    where
      go : (x y : Drawn ℕ (ℕ × ℕ)) → Firm x y → Firm (restored by x) (restored by y)
      go (course.got a e) y h =
          subst (λ (z : Drawn ℕ (ℕ × ℕ)). Firm (restored by (course.got a e)) (restored by z)) (sym h)
          (both Firm (ltb max_clock (by + a.0)) (λ q. refl) refl)
      go (not why) y h = λ q. ap (restored by) (h q)

  number-firm : (form : ℕ) (n : Number) → Firm (number_by form u n at) (number_by form (u ++ w) n at)
  unfolding number_by
  number-firm form grammar.byte = byte-firm
  number-firm form (grammar.up_to most) = up-to-firm most
  number-firm form grammar.any = var-firm
  number-firm form grammar.client = up-to-firm max_value
  number-firm form grammar.left_clock = up-to-firm max_clock
  number-firm form grammar.right_clock = up-to-firm max_clock
  number-firm form grammar.info = byte-firm
  number-firm form grammar.parent_info = up-to-firm max_clock
  number-firm form grammar.len = up-to-firm max_clock
  number-firm form (grammar.delete_clock end) = delete-firm form end
  number-firm form grammar.delete_len = delete-firm form 1
  number-firm form grammar.type_number = var-firm

  pub bytes-firm : FirmPart u (bytes_at u at) (bytes_at (u ++ w) at)
  unfolding bytes_at so_many
  bytes-firm = go (read_unsigned u at) refl (read_unsigned (u ++ w) at) read-firm
    where
      part : ℕ → ℕ → Drawn ℕ Part
      part n e = course.got (record { place = e; bytes = record { 0 = n } }) (e + n)

      fits : (n e : ℕ) → e ≤ length u → (b : Bool) → ltb (length u - e) n ≡ b
          → FirmPart u (pick b (not (record { number = 1; place = length u })) (part n e))
          (pick (ltb (length (u ++ w) - e) n) (not (record { number = 1; place = length (u ++ w) })) (part n e))
      fits n e l true q = λ z. absurd (true≢false z)
      fits n e l false q =
          let f : n ≤ length u - e = ltb-false (length u - e) n q in
          let g : n ≤ length (u ++ w) - e = omega (arith, length-append u w) in
          (rw (le-ltb (length (u ++ w) - e) n g) refl, omega arith)

      go : (x : Read) → read_unsigned u at ≡ x → (y : Read) → FirmRead x y → FirmPart u (so_many u x) (so_many (u ++ w) y)
      go (read.Number n e) q y h =
          subst (λ (z : Read). FirmPart u (so_many u (read.Number n e)) (so_many (u ++ w) z)) (sym h)
          (fits n e (read-ends u at n e q) (ltb (length u - e) n) refl)
      go (read.Refused why) q y h = λ z. ap (so_many (u ++ w)) (h z)

  part-firm : (x y : Drawn ℕ Part) → FirmPart u x y → Firm x y
  part-firm (course.got p e) y h = h.0
  part-firm (not why) y h = h

  checked-firm : (x y : Drawn ℕ Part) → FirmPart u x y → Firm (checked u x) (checked (u ++ w) y)
  unfolding checked
  checked-firm (course.got p e) y h =
      subst (λ (z : Drawn ℕ Part). Firm (checked u (course.got p e)) (checked (u ++ w) z)) (sym h.0)
      (rw (take-append-le (p.place + p.bytes.0) u w h.1) (both Firm (well_formed (slice p.place (p.place + p.bytes.0) u)) refl (λ q. refl)))
  checked-firm (not why) y h = λ q. ap (checked (u ++ w)) (h q)

  word-firm : (x y : Drawn ℕ (Part × Units)) → Firm x y → Firm (word_of x) (word_of y)
  unfolding word_of
  word-firm (course.got a e) y h = ap word_of h
  word-firm (not why) y h = λ q. ap word_of (h q)

  key-firm : Firm (word_of (checked u (bytes_at u at))) (word_of (checked (u ++ w) (bytes_at (u ++ w) at)))
  key-firm = word-firm _ _ (checked-firm _ _ bytes-firm)

  values-firm : (blame n : ℕ) → Firm (values_at u blame n at) (values_at (u ++ w) blame n at)
  unfolding values_at spanned
  values-firm blame n = go (anys u blame n at) (anys (u ++ w) blame n at) (anys-more u w blame n at)
    where
      go : (x y : Skipped) → skipping.Firm x y → Firm (spanned at x) (spanned at y)
      go (skipped.At e) y h = ap (spanned at) h
      go (skipped.Refused why) y h = λ q. ap (spanned at) (h q)

  pub line-firm : (form : ℕ) (f : Field) → Firm (line form u f at) (line form (u ++ w) f at)
  unfolding line
  line-firm form (grammar.number n) = number-firm form n
  line-firm form grammar.text = checked-firm _ _ bytes-firm
  line-firm form grammar.bytes = part-firm (bytes_at u at) (bytes_at (u ++ w) at) bytes-firm
  line-firm form grammar.key = key-firm
  line-firm form (grammar.value blame) = both Firm (eqb form 1) key-firm (values-firm blame 1)
  line-firm form (grammar.values blame n) = values-firm blame n

-- every grammar, every way of cutting: the same things kept, the same end, the same refusal with the same place
pub pieces : {E A : Type 0} (form : ℕ) (x : Grammar E A) (at : ℕ) (ws : List (List ℕ)) → in_pieces form x at ws ≡ run (line form (joined [] ws)) x at
unfolding in_pieces
pieces form x at ws = arrives-whole (line form) (λ u w f e. line-firm u w e form f) x at [] ws

-- so the whole update of form 1
pub update-pieces : (ws : List (List ℕ)) → in_pieces 1 an_update 0 ws ≡ run (line 1 (joined [] ws)) an_update 0
update-pieces ws = pieces 1 an_update 0 ws
