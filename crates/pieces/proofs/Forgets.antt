-- What stands in line is read without a look at a byte before its place: bytes that were read may be forgotten, for every grammar. (Their number stays:
-- it is the place.)
use Prim.Native.Nat.{ℕ, ◌+◌, ◌-◌, ◌≤◌}
use mathlib.Core.Path.{◌≡◌, refl, sym, ap, subst, ◌∙◌}
use mathlib.Core.Bool.{Bool, true, false}
use mathlib.Core.List.{List}
use native.Mathlib.Omega.{arith}
use lib.Dec.{ltb, leb, eqb}
use lib.ListN.{length, get_or, take, drop}
use lib.Seq.{slice, drop-drop, take-add, drop_at, get_or-drop, length-take-le}
use borrow.Author.Tests.{ltb-false, leb-false}
use Rattle.numbers.specs.declared.Refusal.{Refusal}
use Rattle.numbers.specs.declared.Read.{Read}
use Rattle.numbers.specs.declared.Read.TheVariants as read
use Rattle.numbers.specs.Number.{pick, Spelt, got, short, long, spelt, answer_at, read_unsigned}
use Rattle.numbers.specs.Limits.{max_value, max_clock}
use Rattle.numbers.proofs.Inside.{Reads, unsigned-inside}
use Rattle.text.specs.declared.Part.{Part}
use Rattle.text.specs.declared.Units.{Units}
use Rattle.text.specs.Utf8.{well_formed, units_of}
use Rattle.anys.specs.declared.Skipped.{Skipped}
use Rattle.anys.specs.declared.Skipped.TheVariants as skipped
use Rattle.anys.specs.Any.{anys}
use Rattle.anys.proofs.Laws.{anys-bytes}
use Rattle.anys.proofs.More.{anys-forgets}
use Rattle.grammar.specs.Grammar as grammar
use Rattle.grammar.specs.Grammar.{Number, Field, Grammar}
use Rattle.grammar.specs.Course as course
use Rattle.grammar.specs.Course.{Drawn, not, CourseTo, thing, over, stopped, run}
use Rattle.grammar.proofs.Mirrors.{Follows, Mirrors, mirrors}
use Rattle.decoder.specs.Line.{number_at, var_at, bounded, up_to, byte_at, restored, delete_at, number_by, so_many, bytes_at, checked, word_of, spanned, values_at, line}

-- so many bytes from a place on
sliced : (u : List ℕ) (a m : ℕ) → a ≤ length u → slice a (a + m) u ≡ take m (drop a u)
sliced u a m l = ap (drop a) (take-add a m u) ∙ drop_at (take a u) (take m (drop a u)) a (length-take-le a u l)

-- what holds of both holds of the choice
pub chosen : {A : Type 0} (P : A → Type 0) (b : Bool) {x y : A} → P x → P y → P (pick b x y)
chosen P true p q = p
chosen P false p q = q

module _ (u u' : List ℕ) (n : ℕ) (len : length u ≡ length u') (same : drop n u ≡ drop n u') where
  tail-same : (a : ℕ) → n ≤ a → drop a u ≡ drop a u'
  tail-same a l =
      let e : n + (a - n) ≡ a = omega arith in
      subst (λ (k : ℕ). drop k u ≡ drop k u') e (sym (drop-drop (a - n) n u) ∙ ap (drop (a - n)) same ∙ drop-drop (a - n) n u')

  placed_same : (at : ℕ) (x : Spelt) → answer_at u at x ≡ answer_at u' at x
  unfolding answer_at
  placed_same at (got x e) = refl
  placed_same at short = ap (λ (k : ℕ). read.Refused (record { number = 1; place = k })) len
  placed_same at long = refl

  -- a draw that ends behind n, within the bytes, and is the same for both
  abbrev All : Refusal → Type 0
  All why = Unit {0}

  abbrev Stands : ℕ → ℕ → Type 0
  Stands a b = (b ≡ a) × (n ≤ a) × (a ≤ length u)

  abbrev Ends : {X : Type 0} → Drawn ℕ X → Type 0
  Ends (course.got x e) = (n ≤ e) × (e ≤ length u)
  Ends (not why) = Unit {0}

  follows : {X : Type 0} (x y : Drawn ℕ X) → y ≡ x → Ends x → Follows Stands All x y
  follows (course.got x e) y h q = (e, h, (refl, q.0, q.1))
  follows (not why) y h q = λ z. h

  module _ (at : ℕ) (l : n ≤ at) (m : at ≤ length u) where
    read_same : read_unsigned u' at ≡ read_unsigned u at
    unfolding read_unsigned
    read_same = sym (placed_same at (spelt 9 at (drop at u)) ∙ ap (λ (t : List ℕ). answer_at u' at (spelt 9 at t)) (tail-same at l))

    -- ---- numbers

    var-same : var_at u' at ≡ var_at u at
    unfolding var_at
    var-same = ap (number_at at) read_same

    var-ends : Ends (var_at u at)
    unfolding var_at number_at
    var-ends = go (read_unsigned u at) (unsigned-inside u at m)
      where
        go : (r : Read) → Reads u at r → Ends (number_at at r)
        go (read.Number v e) h = (omega (arith, h.0), h.1)
        go (read.Refused why) h = tt

    up-to-ends : (most : ℕ) → Ends (up_to most u at)
    unfolding up_to bounded
    up-to-ends most = go (var_at u at) var-ends
      where
        go : (d : Drawn ℕ (ℕ × ℕ)) → Ends d → Ends (bounded most d)
        go (course.got a e) h = chosen Ends (ltb most a.0) tt h
        go (not why) h = tt

    up-to : (most : ℕ) → Follows Stands All (up_to most u at) (up_to most u' at)
    unfolding up_to
    up-to most = follows _ _ (ap (bounded most) var-same) (up-to-ends most)

    delete : (form by : ℕ) → Follows Stands All (delete_at form by u at) (delete_at form by u' at)
    unfolding delete_at up_to restored
    delete form by =
        follows _ _ (ap (λ (d : Drawn ℕ (ℕ × ℕ)). pick (eqb form 1) (bounded max_clock d) (restored by d)) var-same)
        (chosen Ends (eqb form 1) (up-to-ends max_clock) (go (var_at u at) var-ends))
      where
        go : (d : Drawn ℕ (ℕ × ℕ)) → Ends d → Ends (restored by d)
        go (course.got a e) h = chosen Ends (ltb max_clock (by + a.0)) tt h
        go (not why) h = tt

    got_same : get_or u at 0 ≡ get_or u' at 0
    got_same =
        let e : at + 0 ≡ at = omega arith in
        subst (λ (k : ℕ). get_or u k 0 ≡ get_or u' k 0) e (sym (get_or-drop at u 0 0) ∙ ap (λ (t : List ℕ). get_or t 0 0) (tail-same at l) ∙ get_or-drop at u' 0 0)

    byte : Follows Stands All (byte_at u at) (byte_at u' at)
    unfolding byte_at
    byte = follows _ _ again (one (leb (length u) at) refl)
      where
        again : byte_at u' at ≡ byte_at u at
        again = rw (len, got_same)

        one : (b : Bool) → leb (length u) at ≡ b → Ends {X = ℕ × ℕ} (pick b (not (record { number = 1; place = length u })) (course.got (get_or u at 0, at) (at + 1)))
        one true e = tt
        one false e = (omega arith, omega (arith, leb-false (length u) at e))

    number : (form : ℕ) (k : Number) → Follows Stands All (number_by form u k at) (number_by form u' k at)
    unfolding number_by
    number form grammar.byte = byte
    number form (grammar.up_to most) = up-to most
    number form grammar.any = follows _ _ var-same var-ends
    number form grammar.client = up-to max_value
    number form grammar.left_clock = up-to max_clock
    number form grammar.right_clock = up-to max_clock
    number form grammar.info = byte
    number form grammar.parent_info = up-to max_clock
    number form grammar.len = up-to max_clock
    number form (grammar.delete_clock end) = delete form end
    number form grammar.delete_len = delete form 1
    number form grammar.type_number = follows _ _ var-same var-ends

    -- ---- bytes, and texts

    abbrev There : Drawn ℕ Part → Type 0
    There (course.got p e) = (n ≤ p.place) × (p.place ≤ length u) × (n ≤ e) × (e ≤ length u)
    There (not why) = Unit {0}

    there : There (bytes_at u at)
    unfolding bytes_at so_many
    there = go (read_unsigned u at) (unsigned-inside u at m)
      where
        go : (r : Read) → Reads u at r → There (so_many u r)
        go (read.Number k e) h = one (ltb (length u - e) k) refl
          where
            one : (b : Bool) → ltb (length u - e) k ≡ b
                → There (pick b (not (record { number = 1; place = length u })) (course.got (record { place = e; bytes = record { 0 = k } }) (e + k)))
            one true q = tt
            one false q = (omega (arith, h.0), h.1, omega (arith, h.0), omega (arith, h.1, ltb-false (length u - e) k q))
        go (read.Refused why) h = tt

    bytes_same : bytes_at u' at ≡ bytes_at u at
    unfolding bytes_at so_many
    bytes_same = ap (so_many u') read_same ∙ go (read_unsigned u at)
      where
        go : (r : Read) → so_many u' r ≡ so_many u r
        go (read.Number k e) = rw (← len)
        go (read.Refused why) = refl

    part-ends : (d : Drawn ℕ Part) → There d → Ends d
    part-ends (course.got p e) h = (h.2, h.3)
    part-ends (not why) h = tt

    checked-same : (d : Drawn ℕ Part) → There d → checked u' d ≡ checked u d
    unfolding checked
    checked-same (course.got p e) h =
        let s : slice p.place (p.place + p.bytes.0) u' ≡ slice p.place (p.place + p.bytes.0) u
        = sliced u' p.place p.bytes.0 (omega (arith, h.1, len)) ∙ ap (take p.bytes.0) (sym (tail-same p.place h.0)) ∙ sym (sliced u p.place p.bytes.0 h.1) in
        ap (λ (t : List ℕ). pick (well_formed t) (course.got (p, record { 0 = units_of t }) e) (not (record { number = 6; place = p.place }))) s
    checked-same (not why) h = refl

    checked-ends : (d : Drawn ℕ Part) → There d → Ends (checked u d)
    unfolding checked
    checked-ends (course.got p e) h = chosen Ends (well_formed (slice p.place (p.place + p.bytes.0) u)) (h.2, h.3) tt
    checked-ends (not why) h = tt

    text_same : checked u' (bytes_at u' at) ≡ checked u (bytes_at u at)
    text_same = ap (checked u') bytes_same ∙ checked-same (bytes_at u at) there

    word-ends : (d : Drawn ℕ (Part × Units)) → Ends d → Ends (word_of d)
    unfolding word_of
    word-ends (course.got a e) h = h
    word-ends (not why) h = tt

    key : Follows Stands All (word_of (checked u (bytes_at u at))) (word_of (checked u' (bytes_at u' at)))
    key = follows _ _ (ap word_of text_same) (word-ends _ (checked-ends (bytes_at u at) there))

    -- ---- plain values

    values-end : (blame k : ℕ) → Ends (values_at u blame k at)
    unfolding values_at spanned
    values-end blame k = go (anys u blame k at) refl
      where
        go : (s : Skipped) → anys u blame k at ≡ s → Ends (spanned at s)
        go (skipped.At e) h = let b = anys-bytes u blame k at e m h in (omega (arith, b.0), b.1)
        go (skipped.Refused why) h = tt

    values : (blame k : ℕ) → Follows Stands All (values_at u blame k at) (values_at u' blame k at)
    unfolding values_at
    values blame k = follows _ _ (ap (spanned at) (anys-forgets u u' n len same blame k at l)) (values-end blame k)

    field : (form : ℕ) (f : Field) → Follows Stands All (line form u f at) (line form u' f at)
    unfolding line
    field form (grammar.number k) = number form k
    field form grammar.text = follows _ _ text_same (checked-ends (bytes_at u at) there)
    field form grammar.bytes = follows _ _ bytes_same (part-ends (bytes_at u at) there)
    field form grammar.key = key
    field form (grammar.value blame) = go (eqb form 1)
      where
        go : (b : Bool) → Follows Stands All (pick b (word_of (checked u (bytes_at u at))) (values_at u blame 1 at)) (pick b (word_of (checked u' (bytes_at u' at))) (values_at u' blame 1 at))
        go true = key
        go false = values blame 1
    field form (grammar.values blame k) = values blame k

  all_same : {E A : Type 0} (c d : CourseTo ℕ E A) → Mirrors Stands All c d → d ≡ c
  unfolding Mirrors
  all_same (thing e p c) d h = h.1 ∙ ap (thing e p) (all_same c h.0 h.2)
  all_same (over a s) d h = h.1 ∙ ap (over a) h.2.0
  all_same (stopped why) d h = h tt

  -- the same things kept, the same end, the same refusal
  pub forgets : {E A : Type 0} (form : ℕ) (x : Grammar E A) (at : ℕ) → n ≤ at → at ≤ length u → run (line form u') x at ≡ run (line form u) x at
  forgets form x at l m = all_same _ _ (mirrors Stands All (line form u) (line form u') alike x at at (refl, l, m))
    where
      alike : (f : Field) (a b : ℕ) → Stands a b → Follows Stands All (line form u f a) (line form u' f b)
      alike f a b h = subst (λ (k : ℕ). Follows Stands All (line form u f a) (line form u' f k)) (sym h.0) (field a h.1 h.2 form f)
