-- What stands in line: the short reading of numbers, texts and any-values reads what the long-standing definitions read.
use Prim.Native.Nat.{ℕ, zero, suc, ◌+◌, ◌-◌, ◌*◌, ◌/◌, ◌%◌, ◌≤◌}
use mathlib.Core.Path.{◌≡◌, refl, sym, ap, ◌∙◌}
use mathlib.Core.Bool.{Bool, true, false}
use mathlib.Core.List.{List, [], ◌∷◌}
use native.Mathlib.Nat.{zero-add}
use native.Mathlib.Numerals.{add-one}
use lib.Dec.{ltb, leb, eqb}
use lib.ListN.{length, get_or, drop, drop_of_length-le}
use lib.Seq.{slice, drop-cons}
use native.Mathlib.Omega.{arith}
use borrow.Author.Tests.{leb-true, leb-false, ltb-true, ltb-false}
use Rattle.numbers.specs.declared.Read.{Read}
use Rattle.numbers.specs.declared.Read.TheVariants as read
use Rattle.numbers.specs.declared.Signed.{Signed}
use Rattle.numbers.specs.declared.Signed.TheVariants as sign
use Rattle.numbers.specs.Number as spelling
use Rattle.numbers.specs.Number.{pick, Spelt, low_part, spelt, answer_at, read_unsigned, spelt_signed, minus_of, with_sign, read_signed}
use Rattle.numbers.specs.Limits.{max_clock}
use Rattle.text.specs.declared.Part.{Part}
use Rattle.text.specs.declared.Units.{Units}
use Rattle.text.specs.Utf8.{well_formed, units_of}
use Rattle.text.specs.Utf8 as utf8
use Rattle.text.specs.Rule.{continues, worth, by_rule}
use Rattle.text.proofs.Rule.{rule}
use Rattle.anys.specs.declared.Skipped.{Skipped}
use Rattle.anys.specs.declared.Skipped.TheVariants as skipped
use Rattle.anys.specs.Any as passed
use Rattle.anys.specs.Any.{then_at, on_count, on_signed, signed_at, skip_bytes, skip_led, text_from, text_at, head_at, on_head, each, member, anys}
use Rattle.grammar.specs.Course as course
use Rattle.grammar.specs.Course.{Drawn}
use Rattle.grammar.proofs.Runs.{both as picked}
use Rattle.decoder.specs.Line.{number_at, var_at, bounded, byte_at, restored, so_many, bytes_at, checked, word_of, spanned, values_at}
use Rattle.decoder.specs.Line as line
use Rattle.meaning.specs.Reads.{when◌then◌else◌, Reads, Got, got, refused, on, ◌>>=◌, done, refuse, here}
use Rattle.meaning.specs.Line.{part, times, units, byte, skip, bits, unsigned, signed, raised, up_to, stored, bytes_of, word, tagged, any, values}
use Rattle.meaning.specs.Fields.{located}
use Rattle.meaning.specs.Alike.{read_as, signed_as, skipped_as, drawn_as}

-- one after another
pub on-on : {S T U A B C : Type 0} (g : Got S A) (f : A → S → Got T B) (h : B → T → Got U C) → on (on g f) h ≡ on g (λ a s. on (f a s) h)
unfolding on
on-on (got a s) f h = refl
on-on (refused n p) f h = refl

-- a choice that is made on both sides alike
pub both : {A B : Type 0} (R : A → B → Type 0) (b : Bool) {x x' : A} {y y' : B} → R x y → R x' y' → R (when b then x else x') (pick b y y')
unfolding when◌then◌else◌
both R true p q = p
both R false p q = q

-- an answer in line, as it is
abbrev as_is : {X : Type 0} → Drawn ℕ X → Got ℕ X
as_is d = drawn_as (λ x. x) (λ e. e) d

-- ---- numbers

low-as : (s : List ℕ) (first w v : ℕ) (x : Spelt) → on (read_as (answer_at s first x)) (λ y e. got (v + w * y) e) ≡ read_as (answer_at s first (low_part w v x))
unfolding on read_as answer_at low_part
low-as s first w v (spelling.got x e) = refl
low-as s first w v spelling.short = refl
low-as s first w v spelling.long = refl

module _ (s : List ℕ) (first : ℕ) where
  pub bits_is : (k at : ℕ) → bits s first k at ≡ read_as (answer_at s first (spelt k at (drop at s)))
  unfolding bits byte on when◌then◌else◌ read_as answer_at spelt
  bits_is zero at = refl
  bits_is (suc k) at = go (bits_is k (suc at)) (leb (length s) at) refl (ltb (get_or s at 0) 128) refl
    where
      go : bits s first k (suc at) ≡ read_as (answer_at s first (spelt k (suc at) (drop (suc at) s)))
          → (a : Bool) → leb (length s) at ≡ a → (b : Bool) → ltb (get_or s at 0) 128 ≡ b
          → bits s first (suc k) at ≡ read_as (answer_at s first (spelt (suc k) at (drop at s)))
      go more true e b f = rw (e, drop_of_length-le s (leb-true (length s) at e)) refl
      go more false e true f = rw (e, drop-cons s at 0 (leb-false (length s) at e), f) refl
      go more false e false f =
          rw (e, drop-cons s at 0 (leb-false (length s) at e), f, add-one at, more)
          (low-as s first 128 (get_or s at 0 - 128) (spelt k (suc at) (drop (suc at) s)))

pub unsigned_is : (s : List ℕ) (at : ℕ) → unsigned s at ≡ read_as (read_unsigned s at)
unfolding unsigned read_unsigned on
unsigned_is s at = bits_is s at 9 at

signed-as : (m : Bool) (r : Read) → on (read_as r) (λ v e. got (m, v) e) ≡ signed_as (with_sign m r)
unfolding on read_as signed_as with_sign
signed-as m (read.Number v e) = refl
signed-as m (read.Refused why) = refl

pub signed_is : (s : List ℕ) (at : ℕ) → signed s at ≡ signed_as (read_signed s at)
unfolding signed byte on when◌then◌else◌ read_signed spelt_signed minus_of answer_at read_as signed_as with_sign
signed_is s at = go (leb (length s) at) refl (ltb (get_or s at 0) 128) refl
  where
    go : (a : Bool) → leb (length s) at ≡ a → (b : Bool) → ltb (get_or s at 0) 128 ≡ b → signed s at ≡ signed_as (read_signed s at)
    go true e b f = rw (e, drop_of_length-le s (leb-true (length s) at e)) refl
    go false e true f = rw (e, drop-cons s at 0 (leb-false (length s) at e), f) refl
    go false e false f =
        let b = get_or s at 0 in
        let more = spelt 8 (suc at) (drop (suc at) s) in
        rw (e, drop-cons s at 0 (leb-false (length s) at e), f, add-one at, bits_is s at 8 (suc at), low-as s at 64 (b % 64) more)
        (signed-as (eqb (b / 64 % 2) 1) (answer_at s at (low_part 64 (b % 64) more)))

-- ---- numbers, with their places

abbrev pub placed : ℕ → Got ℕ ℕ → Got ℕ (ℕ × ℕ)
placed at g = on g (λ v. done (v, at))

-- so much more than was read, within a limit
abbrev pub raising : ℕ → ℕ → ℕ → Read → Got ℕ (ℕ × ℕ)
raising by most at r = placed at (on (read_as r) (λ v. when ltb most (by + v) then refuse 3 at else done (by + v)))

numbered : (at : ℕ) (r : Read) → placed at (read_as r) ≡ as_is (number_at at r)
unfolding on read_as drawn_as number_at
numbered at (read.Number v e) = refl
numbered at (read.Refused why) = refl

up-to-read : (most at : ℕ) (r : Read) → raising 0 most at r ≡ as_is (bounded most (number_at at r))
unfolding on read_as drawn_as bounded number_at
up-to-read most at (read.Number v e) = rw (zero-add v) (both (λ (m : Reads ℕ ℕ) y. placed at (m e) ≡ as_is y) (ltb most v) refl refl)
up-to-read most at (read.Refused why) = refl

restored-read : (by at : ℕ) (r : Read) → raising by max_clock at r ≡ as_is (restored by (number_at at r))
unfolding on read_as drawn_as restored number_at
restored-read by at (read.Number v e) = both (λ (m : Reads ℕ ℕ) y. placed at (m e) ≡ as_is y) (ltb max_clock (by + v)) refl refl
restored-read by at (read.Refused why) = refl

module _ (s : List ℕ) where
  pub unsigned-located : (at : ℕ) → located (unsigned s) at ≡ drawn_as (λ a. a) (λ e. e) (var_at s at)
  unfolding on var_at
  unsigned-located at = rw (unsigned_is s at) (numbered at (read_unsigned s at))

  pub byte-located : (at : ℕ) → located (byte s) at ≡ drawn_as (λ a. a) (λ e. e) (byte_at s at)
  unfolding on byte byte_at drawn_as
  byte-located at = both (λ x y. placed at x ≡ as_is y) (leb (length s) at) refl refl

  pub raised_is : (by most at : ℕ) → located (raised s by most) at ≡ raising by most at (read_unsigned s at)
  unfolding on raised
  raised_is by most at = rw (unsigned_is s at) refl

  pub up_to-is : (most at : ℕ) → located (up_to s most) at ≡ drawn_as (λ a. a) (λ e. e) (line.up_to most s at)
  unfolding line.up_to var_at
  up_to-is most at = raised_is 0 most at ∙ up-to-read most at (read_unsigned s at)

  pub restored-is : (by at : ℕ) → located (raised s by max_clock) at ≡ drawn_as (λ a. a) (λ e. e) (restored by (var_at s at))
  unfolding var_at
  restored-is by at = raised_is by max_clock at ∙ restored-read by at (read_unsigned s at)

-- ---- bytes and texts

stored-read : (s : List ℕ) (r : Read) → on (read_as r) (λ n. here >>= λ at. skip s n >>= λ _. done (part at n)) ≡ as_is (so_many s r)
unfolding on skip read_as drawn_as so_many
stored-read s (read.Number n e) = both (λ (x : Got ℕ (Unit {0})) y. on x (λ _. done (part e n)) ≡ as_is y) (ltb (length s - e) n) refl refl
stored-read s (read.Refused why) = refl

word-drawn : (u : List ℕ) (d : Drawn ℕ Part)
    → on (as_is d) (λ p. when well_formed (bytes_of u p) then done p else refuse 6 p.place) ≡ as_is (word_of (checked u d))
unfolding on drawn_as checked word_of
word-drawn u (course.got p e) = both (λ (m : Reads ℕ Part) y. m e ≡ as_is (word_of y)) (well_formed (bytes_of u p)) refl refl
word-drawn u (course.not why) = refl

not-below : (b m n : ℕ) → m ≤ n → ltb b m ≡ true → ltb b n ≡ false → ⊥
not-below b m n h e f =
    let below = ltb-true b m e in
    let above = ltb-false b n f in
    omega (arith, below, above, h)

worth-same : (b : ℕ) → (when ltb b 128 then 1 else when ltb b 192 then 0 else when ltb b 240 then 1 else 2) ≡ worth b
unfolding when◌then◌else◌ worth continues
worth-same b = go (ltb b 128) refl (ltb b 192) refl (ltb b 240) refl
  where
    go : (x : Bool) → ltb b 128 ≡ x → (y : Bool) → ltb b 192 ≡ y → (z : Bool) → ltb b 240 ≡ z
        → ◌≡◌ {A = ℕ} (when x then 1 else when y then 0 else when z then 1 else 2) (utf8.pick (utf8.pick x false y) 0 1 + utf8.pick z 0 1)
    go true e y f true g = refl
    go true e y f false g = absurd (not-below b 128 240 (omega arith) e g)
    go false e true f true g = refl
    go false e true f false g = absurd (not-below b 192 240 (omega arith) f g)
    go false e false f true g = refl
    go false e false f false g = refl

pub units-rule : (t : List ℕ) → units t ≡ by_rule t
unfolding units by_rule
units-rule [] = refl
units-rule (b ∷ t) = ap (λ (n : ℕ). n + units t) (worth-same b) ∙ ap (λ (n : ℕ). worth b + n) (units-rule t)

-- of UTF-8 they are those of its characters
pub units-same : (t : List ℕ) → well_formed t ≡ true → units t ≡ units_of t
units-same t h = units-rule t ∙ rule t h

abbrev pub with_units : List ℕ → Part → Reads ℕ (Part × ℕ)
with_units u p = done (p, units (bytes_of u p))

text-drawn : (u : List ℕ) (d : Drawn ℕ Part) → on (as_is (word_of (checked u d))) (with_units u) ≡ drawn_as (λ a. (a.0, a.1.0)) (λ e. e) (checked u d)
unfolding on drawn_as checked word_of
text-drawn u (course.got p e) = go (well_formed (bytes_of u p)) refl
  where
    Same : (x : Drawn ℕ (Part × Units)) → Type 0
    Same x = on (as_is (word_of x)) (with_units u) ≡ drawn_as (λ a. (a.0, a.1.0)) (λ e. e) x

    go : (b : Bool) → well_formed (bytes_of u p) ≡ b
        → Same (pick b (course.got (p, record { 0 = units_of (bytes_of u p) }) e) (course.not (record { number = 6; place = p.place })))
    go true h = ap (λ (n : ℕ). got (p, n) e) (units-same (bytes_of u p) h)
    go false h = refl
text-drawn u (course.not why) = refl

module _ (u : List ℕ) (at : ℕ) where
  pub stored_is : stored u at ≡ drawn_as (λ p. p) (λ e. e) (bytes_at u at)
  unfolding stored bytes_at
  stored_is = rw (unsigned_is u at) (stored-read u (read_unsigned u at))

  pub word-is : word u at ≡ drawn_as (λ p. p) (λ e. e) (word_of (checked u (bytes_at u at)))
  unfolding word
  word-is = rw stored_is (word-drawn u (bytes_at u at))

  pub text-is : (word u >>= with_units u) at ≡ drawn_as (λ a. (a.0, a.1.0)) (λ e. e) (checked u (bytes_at u at))
  text-is = rw word-is (text-drawn u (bytes_at u at))

-- ---- any-values

-- nothing of it is kept
abbrev passes : {A : Type 0} → Got ℕ A → Got ℕ (Unit {0})
passes g = on g (λ _. done tt)

module _ (s : List ℕ) where
  skip_is : (n at : ℕ) → skip s n at ≡ skipped_as (skip_bytes s n at)
  unfolding skip skip_bytes skipped_as
  skip_is n at = both (λ x y. x ≡ skipped_as y) (ltb (length s - at) n) refl refl

  signed-passed : (at : ℕ) → passes (signed s at) ≡ skipped_as (signed_at s at)
  unfolding on signed_at on_signed signed_as skipped_as
  signed-passed at = rw (signed_is s at) (go (read_signed s at))
    where
      go : (r : Signed) → passes (signed_as r) ≡ skipped_as (on_signed r)
      go (sign.Value m v e) = refl
      go (sign.Wrong why) = refl

  stored-passed : (at : ℕ) → passes (stored s at) ≡ skipped_as (skip_led s at)
  unfolding on drawn_as bytes_at so_many skip_led on_count skip_bytes skipped_as
  stored-passed at = rw (stored_is s at) (go (read_unsigned s at))
    where
      go : (r : Read) → passes (as_is (so_many s r)) ≡ skipped_as (on_count r (skip_bytes s))
      go (read.Number n e) = picked (λ (x : Drawn ℕ Part) y. passes (as_is x) ≡ skipped_as y) (ltb (length s - e) n) refl refl
      go (read.Refused why) = refl

  word-passed : (at : ℕ) → passes (word s at) ≡ skipped_as (text_at s at)
  unfolding on drawn_as bytes_at so_many checked word_of text_at on_count text_from then_at skip_bytes skipped_as
  word-passed at = rw (word-is s at) (go (read_unsigned s at))
    where
      go : (r : Read) → passes (as_is (word_of (checked s (so_many s r)))) ≡ skipped_as (on_count r (text_from s))
      go (read.Number n e) =
          let whole : (end : ℕ) → Skipped = λ end. pick (well_formed (slice e end s)) (skipped.At end) (passed.refused 6 e) in
          picked (λ x y. passes (as_is (word_of (checked s x))) ≡ skipped_as (then_at y whole)) (ltb (length s - e) n) refl
          (picked (λ x y. passes (as_is (word_of x)) ≡ skipped_as y) (well_formed (slice e (e + n) s)) refl refl)
      go (read.Refused why) = refl

then_is : (m : Reads ℕ (Unit {0})) (one : ℕ → Skipped) → ((at : ℕ) → m at ≡ skipped_as (one at)) → (r : Skipped)
    → on (skipped_as r) (λ _. m) ≡ skipped_as (then_at r one)
unfolding on then_at skipped_as
then_is m one h (skipped.At e) = h e
then_is m one h (skipped.Refused why) = refl

times-each : (m : Reads ℕ (Unit {0})) (one : ℕ → Skipped) → ((at : ℕ) → m at ≡ skipped_as (one at)) → (k at : ℕ) → times k m at ≡ skipped_as (each k one at)
unfolding times each skipped_as
times-each m one h zero at = refl
times-each m one h (suc k) at = rw (h at) (then_is (times k m) (each k one) (times-each m one h k) (one at))

-- the count of what a value holds, and so many of these
held : (s : List ℕ) (m : Reads ℕ (Unit {0})) (one : ℕ → Skipped) → ((at : ℕ) → m at ≡ skipped_as (one at)) → (at : ℕ)
    → on (unsigned s at) (λ k. times k m) ≡ skipped_as (on_count (read_unsigned s at) (λ k e. each k one e))
unfolding on on_count read_as skipped_as
held s m one h at = rw (unsigned_is s at) (go (read_unsigned s at))
  where
    go : (r : Read) → on (read_as r) (λ k. times k m) ≡ skipped_as (on_count r (λ k e. each k one e))
    go (read.Number k e) = times-each m one h k e
    go (read.Refused why) = refl

abbrev Means : {H : Type 0} → (H → Skipped) → ℕ → Reads ℕ (Unit {0}) → H → Type 0
Means view e m h = m e ≡ skipped_as (view h)

module _ (s : List ℕ) (blame : ℕ) where
  tagged_is : (object array : Reads ℕ (Unit {0})) (f : Bool → Skipped) (tag e : ℕ) → object e ≡ skipped_as (f true) → array e ≡ skipped_as (f false)
      → tagged s blame object array tag e ≡ skipped_as (on_head (passed.tagged s blame tag e) f)
  unfolding tagged passed.tagged on_head skipped_as
  tagged_is object array f tag e o a =
      let R = Means (λ h. on_head h f) e in
      both R (eqb tag 127) refl
      (both R (eqb tag 126) refl
      (both R (eqb tag 125) (signed-passed s e)
      (both R (eqb tag 124) (skip_is s 4 e)
      (both R (eqb tag 123) (skip_is s 8 e)
      (both R (eqb tag 122) (skip_is s 8 e)
      (both R (eqb tag 121) refl
      (both R (eqb tag 120) refl
      (both R (eqb tag 119) (word-passed s e) (both R (eqb tag 118) o (both R (eqb tag 117) a (both R (eqb tag 116) (stored-passed s e) refl)))))))))))

  head-is : (object array : Reads ℕ (Unit {0})) (f : Bool → Skipped) (at : ℕ) → object (at + 1) ≡ skipped_as (f true) → array (at + 1) ≡ skipped_as (f false)
      → on (byte s at) (λ tag. tagged s blame object array tag) ≡ skipped_as (on_head (head_at s blame at) f)
  unfolding on byte head_at on_head skipped_as when◌then◌else◌
  head-is object array f at o a = go (leb (length s) at) refl
    where
      go : (b : Bool) → leb (length s) at ≡ b → on (byte s at) (λ tag. tagged s blame object array tag) ≡ skipped_as (on_head (head_at s blame at) f)
      go true e = rw e refl
      go false e = rw e (tagged_is object array f (get_or s at 0) (at + 1) o a)

  -- a key, and then a value
  member_is : (n : ℕ) → ((e : ℕ) → any s blame n e ≡ skipped_as (passed.any n s blame e)) → (at : ℕ)
      → on (word s at) (λ _. any s blame n) ≡ skipped_as (then_at (text_at s at) (passed.any n s blame))
  unfolding on
  member_is n h at =
      sym (on-on (word s at) (λ _. done (tt {0})) (λ _. any s blame n))
      ∙ ap (λ (g : Got ℕ (Unit {0})). on g (λ _. any s blame n)) (word-passed s at)
      ∙ then_is (any s blame n) (passed.any n s blame) h (text_at s at)

  pub any-is : (n at : ℕ) → any s blame n at ≡ skipped_as (passed.any n s blame at)
  unfolding any passed.any on member skipped_as
  any-is zero at = head-is (refuse 3 at) (refuse 3 at) (λ keyed. passed.refused 3 at) at refl refl
  any-is (suc n) at =
      let object : Reads ℕ (Unit {0}) = unsigned s >>= λ k. times k (word s >>= λ _. any s blame n) in
      let array : Reads ℕ (Unit {0}) = unsigned s >>= λ k. times k (any s blame n) in
      head-is object array (λ keyed. on_count (read_unsigned s (at + 1)) (λ k e. each k (member keyed s (passed.any n s blame)) e)) at
      (held s (word s >>= λ _. any s blame n) (member true s (passed.any n s blame)) (member_is n (any-is n)) (at + 1))
      (held s (any s blame n) (member false s (passed.any n s blame)) (any-is n) (at + 1))

pub values-is : (u : List ℕ) (blame k at : ℕ) → values u blame k at ≡ drawn_as (λ p. p) (λ e. e) (values_at u blame k at)
unfolding on values values_at spanned anys skipped_as drawn_as
values-is u blame k at = rw (times-each (any u blame 16) (passed.any 16 u blame) (any-is u blame 16) k at) (go (each k (passed.any 16 u blame) at))
  where
    go : (r : Skipped) → on (skipped_as r) (λ _. here >>= λ end. done (part at (end - at))) ≡ drawn_as (λ p. p) (λ e. e) (spanned at r)
    go (skipped.At e) = refl
    go (skipped.Refused why) = refl
