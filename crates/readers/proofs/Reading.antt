-- What readers give is what the columns give by value: k reads give the values that k draws give, then the refusal that ended them, each time again.
-- For a refused read changes nothing in the reader. A text column whose opening was refused stays refused: every read says 1.
use Prim.Native.Nat.{ℕ, zero, suc, ◌+◌}
use mathlib.Core.Path.{◌≡◌, refl, sym, ap, ◌∙◌, subst}
use mathlib.Core.List.{List, [], ◌∷◌, map}
use lib.ListN.{length}
use lib.Seq.{slice, drop-length}
use denote.Ref.{Bor}
use Rattle.numbers.specs.declared.Refusal.{Refusal}
use Rattle.numbers.specs.declared.Signed.TheVariants.{Wrong}
use Rattle.numbers.specs.Number.{none, read_signed, spelt_signed, minus_of, answer_at, with_sign}
use Rattle.columns.specs.declared.number.Place as number-place
use Rattle.columns.specs.declared.number.Answer as number-answer
use Rattle.columns.specs.declared.number.Answer.TheVariants as number
use Rattle.columns.specs.Number.{next_number, begun}
use Rattle.columns.specs.declared.difference.Place as difference-place
use Rattle.columns.specs.declared.difference.Answer as difference-answer
use Rattle.columns.specs.declared.difference.Answer.TheVariants as difference
use Rattle.columns.specs.Difference.{next_difference}
use Rattle.columns.specs.declared.byte.Place as byte-place
use Rattle.columns.specs.declared.byte.Answer as byte-answer
use Rattle.columns.specs.declared.byte.Answer.TheVariants as byte
use Rattle.columns.specs.Byte.{next_byte}
use Rattle.string.specs.declared.Place as string-place
use Rattle.string.specs.declared.Opened as string-opened
use Rattle.string.specs.declared.Opened.TheVariants as opening
use Rattle.string.specs.declared.Answer as string-answer
use Rattle.string.specs.declared.Answer.TheVariants as string
use Rattle.string.specs.String as strings
use Rattle.string.specs.StringInner as strings-inner
use Rattle.columns.specs.Reading.{Draw, drew, stop, and_then, reads, number_draw, difference_draw, byte_draw, read_numbers, read_differences, read_bytes}
use Rattle.readers.specs.declared.Kind.TheVariants as kind
use Rattle.readers.specs.declared.Place.{Place}
use Rattle.readers.specs.declared.Place.TheVariants.{Number, Difference, Byte, Text}
use Rattle.readers.specs.declared.Column.{Column}
use Rattle.readers.specs.declared.Step.{Step}
use Rattle.readers.specs.declared.Answer.{Answer}
use Rattle.readers.specs.Readers.{valued, refused, shut, text_start, start_of, number_step, difference_step, byte_step, text_step, step_of, reader, answer_of, after}
use Rattle.readers.specs.Promises.{opened, Next}
use Rattle.readers.specs.Answers.{answers, onwards, told, worded, told_texts}

-- ---- a step, by a draw of its column

abbrev stepped : {P : Type 0} → (P → Place) → P → Draw P → Step
stepped make p (drew v d) = record { place = make d; answer = valued v }
stepped make p (stop why) = record { place = make p; answer = refused why }

number_step_lem : (s : List ℕ) (p : number-place.Place) → step_of s (Number p) ≡ stepped Number p (number_draw (next_number s p))
unfolding step_of number_step number_draw
number_step_lem s p = go (next_number s p)
  where
    go : (r : number-answer.Answer) → number_step p r ≡ stepped Number p (number_draw r)
    go (number.Next v d) = refl
    go (number.Bad why) = refl

difference-step : (s : List ℕ) (p : difference-place.Place) → step_of s (Difference p) ≡ stepped Difference p (difference_draw (next_difference s p))
unfolding step_of difference_step difference_draw
difference-step s p = go (next_difference s p)
  where
    go : (r : difference-answer.Answer) → difference_step p r ≡ stepped Difference p (difference_draw r)
    go (difference.Next v d) = refl
    go (difference.Bad why) = refl

byte_step_lem : (s : List ℕ) (p : byte-place.Place) → step_of s (Byte p) ≡ stepped Byte p (byte_draw (next_byte s p))
unfolding step_of byte_step byte_draw
byte_step_lem s p = go (next_byte s p)
  where
    go : (r : byte-answer.Answer) → byte_step p r ≡ stepped Byte p (byte_draw r)
    go (byte.Next v d) = refl
    go (byte.Bad why) = refl

-- ---- a refused read changes nothing

abbrev Stays : Place → Step → Type 0
Stays c t = (t.answer.refusal.number ≡ 0 → ⊥) → t.place ≡ c

stepped-stays : {P : Type 0} (make : P → Place) (p : P) (x : Draw P) → Stays (make p) (stepped make p x)
stepped-stays make p (drew v d) not = absurd (not refl)
stepped-stays make p (stop why) not = refl

text-stays : (p : string-place.Place) (r : string-answer.Answer) → Stays (Text p) (text_step p r)
unfolding text_step
text-stays p (string.Next w d) not = absurd (not refl)
text-stays p (string.Bad why) not = refl

stays : (s : List ℕ) (c : Place) → Stays c (step_of s c)
unfolding step_of
stays s (Number p) = subst (Stays (Number p)) (sym (number_step_lem s p)) (stepped-stays Number p (number_draw (next_number s p)))
stays s (Difference p) = subst (Stays (Difference p)) (sym (difference-step s p)) (stepped-stays Difference p (difference_draw (next_difference s p)))
stays s (Byte p) = subst (Stays (Byte p)) (sym (byte_step_lem s p)) (stepped-stays Byte p (byte_draw (next_byte s p)))
stays s (Text p) = text-stays p _

pub refused-stays : (c d : Column) (r : Answer) → Next c r d → (r.refusal.number ≡ 0 → ⊥) → d ≡ c
unfolding answer_of after
refused-stays c d r p not =
    p.1 ∙ ap (reader c.bytes) (stays c.bytes.now c.place (λ z. not (ap (λ (a : Answer). a.refusal.number) p.0 ∙ z)))

-- ---- reading on

one : (k : ℕ) (s : Bor (List ℕ)) (c : Place) (t : Step) → step_of s.now c ≡ t → answers (suc k) (reader s c) ≡ t.answer ∷ answers k (reader s t.place)
unfolding answers answer_of after
one k s c t e = ap (λ (u : Step). u.answer ∷ answers k (reader s u.place)) e

stuck : (k : ℕ) (s : Bor (List ℕ)) (c : Place) (a : Answer) → step_of s.now c ≡ record { place = c; answer = a } → answers k (reader s c) ≡ onwards k [] a
unfolding answers onwards
stuck zero s c a e = refl
stuck (suc k) s c a e = one k s c _ e ∙ ap (λ (l : List Answer). a ∷ l) (stuck k s c a e)

module _ {P : Type 0} (s : Bor (List ℕ)) (make : P → Place) (draw : P → Draw P) (step : (p : P) → step_of s.now (make p) ≡ stepped make p (draw p)) where
  turn : (k : ℕ) (p : P) (x : Draw P) → step_of s.now (make p) ≡ stepped make p x → ((d : P) → answers k (reader s (make d)) ≡ told k (reads draw k d))
      → answers (suc k) (reader s (make p)) ≡ told (suc k) (and_then x (λ d. reads draw k d))
  unfolding onwards and_then
  turn k p (drew v d) e on = one k s (make p) _ e ∙ ap (λ (l : List Answer). valued v ∷ l) (on d)
  turn k p (stop why) e on = stuck (suc k) s (make p) _ e

  read-on : (k : ℕ) (p : P) → answers k (reader s (make p)) ≡ told k (reads draw k p)
  unfolding answers reads onwards
  read-on zero p = refl
  read-on (suc k) p = turn k p (draw p) (step p) (read-on k)

pub numbers-read : (k : ℕ) (s : Bor (List ℕ)) (p : number-place.Place) → answers k (reader s (Number p)) ≡ told k (read_numbers k s.now p)
numbers-read k s p = read-on s Number (λ d. number_draw (next_number s.now d)) (number_step_lem s.now) k p

pub differences-read : (k : ℕ) (s : Bor (List ℕ)) (p : difference-place.Place) → answers k (reader s (Difference p)) ≡ told k (read_differences k s.now p)
differences-read k s p = read-on s Difference (λ d. difference_draw (next_difference s.now d)) (difference-step s.now) k p

pub bytes_read : (k : ℕ) (s : Bor (List ℕ)) (p : byte-place.Place) → answers k (reader s (Byte p)) ≡ told k (read_bytes k s.now p)
bytes_read k s p = read-on s Byte (λ d. byte_draw (next_byte s.now d)) (byte_step_lem s.now) k p

worded-onwards : (s : List ℕ) (k : ℕ) (a : Answer) → map (worded s) (onwards k [] a) ≡ onwards k [] (worded s a)
unfolding onwards
worded-onwards s zero a = refl
worded-onwards s (suc k) a = ap (λ (l : List (Refusal × List ℕ)). worded s a ∷ l) (worded-onwards s k a)

text-turn : (k : ℕ) (s : Bor (List ℕ)) (p : string-place.Place) (r : string-answer.Answer) → step_of s.now (Text p) ≡ text_step p r
    → ((d : string-place.Place) → map (worded s.now) (answers k (reader s (Text d))) ≡ told_texts k (strings-inner.read_texts k s.now d))
    → map (worded s.now) (answers (suc k) (reader s (Text p))) ≡ told_texts (suc k) (strings-inner.and_then s.now r (λ d. strings-inner.read_texts k s.now d))
unfolding onwards strings-inner.and_then text_step
text-turn k s p (string.Next w d) e on =
    ap (map (worded s.now)) (one k s (Text p) _ e) ∙ ap (λ (l : List (Refusal × List ℕ)). (none, slice w.place (w.place + w.bytes.0) s.now) ∷ l) (on d)
text-turn k s p (string.Bad why) e on = ap (map (worded s.now)) (stuck (suc k) s (Text p) _ e) ∙ worded-onwards s.now (suc k) (refused why)

pub texts-read : (k : ℕ) (s : Bor (List ℕ)) (p : string-place.Place)
    → map (worded s.now) (answers k (reader s (Text p))) ≡ told_texts k (strings-inner.read_texts k s.now p)
unfolding answers strings-inner.read_texts onwards step_of
texts-read zero s p = refl
texts-read (suc k) s p = text-turn k s p (strings.next_text s.now p) refl (texts-read k s)

-- ---- a column whose opening was refused

signed-end : (s : List ℕ) → read_signed s (length s) ≡ Wrong (record { number = 1; place = length s })
unfolding read_signed spelt_signed minus_of answer_at with_sign
signed-end s = rw (drop-length s)

shut-step : (s : List ℕ) → step_of s (Text (shut s)) ≡ record { place = Text (shut s); answer = refused (record { number = 1; place = length s }) }
unfolding step_of text_step strings.next_text strings.units_drawn next_number begun
shut-step s = rw (signed-end s)

-- every read of its reader says 1, at the column's end
pub shut-reads : (k : ℕ) (s : Bor (List ℕ)) → ((start_of s.now kind.Text).refusal.number ≡ 0 → ⊥)
    → answers k (opened s kind.Text).column ≡ onwards k [] (refused (record { number = 1; place = length s.now }))
unfolding opened start_of text_start
shut-reads k s not = ap (λ (c : Place). answers k (reader s c)) (stands (strings.open_text s.now 0) not) ∙ stuck k s (Text (shut s.now)) _ (shut-step s.now)
  where
    stands : (x : string-opened.Opened) → ((text_start s.now x).refusal.number ≡ 0 → ⊥) → (text_start s.now x).place ≡ Text (shut s.now)
    stands (opening.At c) n = absurd (n refl)
    stands (opening.Not why) n = refl
