-- What is written is read a draw at a time: reading from a place on, taken apart into its draws, for callers who draw from several columns in turn.
use Prim.Native.Nat.{ℕ, ◌+◌, ◌-◌, ◌^◌, ◌≤◌, ◌<◌}
use mathlib.Core.Path.{◌≡◌, refl, sym, ap, subst, ◌∙◌}
use mathlib.Core.Bool.{Bool, true, false}
use mathlib.Core.List.{List, [], ◌∷◌, ◌++◌, append_assoc}
use native.Mathlib.Omega.{arith}
use lib.Dec.{ltb}
use lib.ListN.{length, take, drop, length-append}
use lib.Seq.{slice, length-slice, take-append_seam, drop-append_seam}
use Rattle.numbers.specs.declared.Read.{Read}
use Rattle.numbers.specs.declared.Read.TheVariants as read
use Rattle.numbers.specs.declared.Signed.{Signed}
use Rattle.numbers.specs.declared.Signed.TheVariants as signed
use Rattle.numbers.specs.Number.{pick, read_unsigned, read_signed}
use Rattle.numbers.specs.Limits.{max_value, max_count}
use Rattle.text.specs.declared.Part.{Part}
use Rattle.text.specs.declared.Taken.TheVariants as units
use Rattle.text.specs.Utf8.{units_of}
use Rattle.text.proofs.Cutting.{found}
use Rattle.text.proofs.Slices.{slice_front, slice-rest}
use Rattle.runs.specs.declared.ColumnKind.TheVariants as columns
use Rattle.runs.specs.Runs.{coding, why, column_of}
use Rattle.columns.specs.declared.number.Place as number-place
use Rattle.columns.specs.declared.difference.Place as difference-place
use Rattle.columns.specs.declared.byte.Place as byte-place
use Rattle.string.specs.declared.Place as string-place
use Rattle.columns.specs.declared.number.Answer as number-answers
use Rattle.columns.specs.declared.difference.Answer as difference-answers
use Rattle.columns.specs.declared.byte.Answer as byte-answers
use Rattle.columns.specs.declared.number.Answer.TheVariants as number-answer
use Rattle.columns.specs.declared.difference.Answer.TheVariants as difference-answer
use Rattle.columns.specs.declared.byte.Answer.TheVariants as byte-answer
use Rattle.string.specs.declared.Answer.TheVariants as string-answer
use Rattle.string.specs.declared.Opened.TheVariants.{At}
use Rattle.columns.specs.Number as number
use Rattle.columns.specs.Difference as difference
use Rattle.columns.specs.Byte as byte
use Rattle.string.specs.String as string
use Rattle.string.specs.String.{open_text, next_text, text_head, text_column, why_texts}
use Rattle.columns.specs.Reading.{drew, number_draw, difference_draw, byte_draw}
use Rattle.columns.proofs.Back.{Gives}
use Rattle.columns.proofs.RoundTrip.{number-drawn-back, difference-drawn-back, byte-drawn-back}
use Rattle.string.proofs.Texts.{why-says}
use Rattle.string.proofs.TextTrip.{joined, units_each, Formed, begins, texts_at, text-slice, text-size, text-opens, units-at}

-- ---- what a place gives, a draw at a time, until no byte is left

abbrev pub GivesNumbers : List ℕ → number-place.Place → List ℕ → Type 0
GivesNumbers s c [] = c.at ≡ length s
GivesNumbers s c (v ∷ vs) = (d : number-place.Place) × (number.next_number s c ≡ number-answer.Next v d) × GivesNumbers s d vs

abbrev pub GivesDifferences : List ℕ → difference-place.Place → List ℕ → Type 0
GivesDifferences s c [] = c.at ≡ length s
GivesDifferences s c (v ∷ vs) = (d : difference-place.Place) × (difference.next_difference s c ≡ difference-answer.Next v d) × GivesDifferences s d vs

abbrev pub GivesBytes : List ℕ → byte-place.Place → List ℕ → Type 0
GivesBytes s c [] = c.at ≡ length s
GivesBytes s c (v ∷ vs) = (d : byte-place.Place) × (byte.next_byte s c ≡ byte-answer.Next v d) × GivesBytes s d vs

-- a text's part in the bytes, and the units that it was drawn by; at the end neither a byte of texts nor a unit length is left
abbrev pub GivesTexts : List ℕ → string-place.Place → List (List ℕ) → Type 0
GivesTexts s c [] = (c.at ≡ c.end) × (c.units.at ≡ length s)
GivesTexts s c (t ∷ ts) =
    (part : Part) × (d : string-place.Place) × (next_text s c ≡ string-answer.Next part d)
    × (slice part.place (part.place + part.bytes.0) s ≡ t) × (d.units.last ≡ units_of t) × GivesTexts s d ts

-- ---- a column of numbers

number-next : (a : number-answers.Answer) (v : ℕ) (d : number-place.Place) → number_draw a ≡ drew v d → a ≡ number-answer.Next v d
unfolding number_draw
number-next (number-answer.Next w c) v d e = cc
number-next (number-answer.Bad why) v d e = cc

difference-next : (a : difference-answers.Answer) (v : ℕ) (d : difference-place.Place) → difference_draw a ≡ drew v d → a ≡ difference-answer.Next v d
unfolding difference_draw
difference-next (difference-answer.Next w c) v d e = cc
difference-next (difference-answer.Bad why) v d e = cc

byte_next : (a : byte-answers.Answer) (v : ℕ) (d : byte-place.Place) → byte_draw a ≡ drew v d → a ≡ byte-answer.Next v d
unfolding byte_draw
byte_next (byte-answer.Next w c) v d e = cc
byte_next (byte-answer.Bad why) v d e = cc

module _ (s : List ℕ) where
  number-steps : (vs : List ℕ) (c : number-place.Place) → Gives (λ d. number_draw (number.next_number s d)) (λ d. d.at ≡ length s) c vs → GivesNumbers s c vs
  number-steps [] c h = h
  number-steps (v ∷ vs) c h = (h.0, number-next (number.next_number s c) v h.0 h.1, number-steps vs h.0 h.2)

  difference-steps : (vs : List ℕ) (c : difference-place.Place) → Gives (λ d. difference_draw (difference.next_difference s d)) (λ d. d.at ≡ length s) c vs
      → GivesDifferences s c vs
  difference-steps [] c h = h
  difference-steps (v ∷ vs) c h = (h.0, difference-next (difference.next_difference s c) v h.0 h.1, difference-steps vs h.0 h.2)

  byte-steps : (vs : List ℕ) (c : byte-place.Place) → Gives (λ d. byte_draw (byte.next_byte s d)) (λ d. d.at ≡ length s) c vs → GivesBytes s c vs
  byte-steps [] c h = h
  byte-steps (v ∷ vs) c h = (h.0, byte_next (byte.next_byte s c) v h.0 h.1, byte-steps vs h.0 h.2)

-- what is written of values gives them
module _ (p vs : List ℕ) where
  pub number-gives : why (coding columns.Number) vs ≡ 0 → GivesNumbers (p ++ column_of columns.Number vs) (number.start_at (length p)) vs
  number-gives h = number-steps (p ++ column_of columns.Number vs) vs (number.start_at (length p)) (number-drawn-back p vs h)

  pub difference-gives : why (coding columns.Difference) vs ≡ 0 → GivesDifferences (p ++ column_of columns.Difference vs) (difference.start_at (length p)) vs
  difference-gives h = difference-steps (p ++ column_of columns.Difference vs) vs (difference.start_at (length p)) (difference-drawn-back p vs h)

  pub byte-gives : why (coding columns.Byte) vs ≡ 0 → GivesBytes (p ++ column_of columns.Byte vs) (byte.start_at (length p)) vs
  byte-gives h = byte-steps (p ++ column_of columns.Byte vs) vs (byte.start_at (length p)) (byte-drawn-back p vs h)

-- ---- the text column

-- the value that a number column's place has last is the one drawn
abbrev Last : number-answers.Answer → Type 0
Last (number-answer.Next v d) = d.last ≡ v
Last (number-answer.Bad why) = Unit {0}

either : (t : Bool) (x y : number-answers.Answer) → Last x → Last y → Last (pick t x y)
either true x y p q = p
either false x y p q = q

drawn-last : (c : number-place.Place) → Last (number.drawn c)
unfolding number.drawn
drawn-last c = either (ltb max_value c.last) _ _ tt refl

counted-last : (from x e : ℕ) (r : Read) → Last (number.counted from x e r)
unfolding number.counted
counted-last from x e (read.Refused why) = tt
counted-last from x e (read.Number c f) = either (ltb max_count c) _ _ tt (drawn-last (number.place_at f from x (c + 2)))

begun-last : (s : List ℕ) (at : ℕ) (r : Signed) → Last (number.begun s at r)
unfolding number.begun
begun-last s at (signed.Wrong why) = tt
begun-last s at (signed.Value m x e) = either m _ _ (counted-last at x e (read_unsigned s e)) (drawn-last (number.place_at e at x 1))

pub number-last : (s : List ℕ) (c d : number-place.Place) (v : ℕ) → number.next_number s c ≡ number-answer.Next v d → d.last ≡ v
unfolding number.next_number
number-last s c d v e =
    subst Last e (either (ltb 0 c.count) _ _ (drawn-last c) (begun-last s c.at (read_signed s c.at)))

-- the units drawn are those of the texts that stand from a place to the end: they are taken one after the other, until none is left
module _ (s : List ℕ) (end : ℕ) (f : end ≤ length s) where
  text-steps : (ts : List (List ℕ)) (at : ℕ) (c : number-place.Place) → Formed ts → at ≤ end → slice at end s ≡ joined ts → GivesNumbers s c (units_each ts)
      → GivesTexts s (string.place_at at end c) ts
  unfolding joined units_each next_text string.units_drawn string.units_taken string.text_ending
  text-steps [] at c h l e g = (omega (arith, l, ap length e, length-slice at end s f), g)
  text-steps (t ∷ ts) at c h l e g =
      let d : number-place.Place = g.0 in
      let size : length t + length (joined ts) ≡ end - at = sym (length-append t (joined ts)) ∙ ap length (sym e) ∙ length-slice at end s f in
      let here : slice at (at + length t) s ≡ t = sym (slice_front s at end (length t) (omega (arith, size, l)) f) ∙ ap (take (length t)) e ∙ take-append_seam t (joined ts) in
      let rest : slice (at + length t) end s ≡ joined ts = sym (slice-rest s at end (length t)) ∙ ap (drop (length t)) e ∙ drop-append_seam t (joined ts) in (
        record { place = at; bytes = record { 0 = length t } },
        string.place_at (at + length t) end d,
        rw (g.1, e, found 7 t (joined ts) h.0) refl,
        here,
        number-last s c d (units_of t) g.1,
        text-steps ts (at + length t) d h.1 (omega (arith, size, l)) rest g.2,
      )

-- what is written of texts gives them
pub text-gives : (p : List ℕ) (ts : List (List ℕ)) → Formed ts → length (joined ts) < 2 ^ 63 → why_texts (joined ts) (units_each ts) ≡ 0
    → (c : string-place.Place) × (open_text (p ++ text_column (joined ts) (units_each ts)) (length p) ≡ At c)
    × GivesTexts (p ++ text_column (joined ts) (units_each ts)) c ts
unfolding text_column
text-gives p ts f h w =
    let t : List ℕ = joined ts in
    let us : List ℕ = units_each ts in
    let says = why-says t us w in
    let s : List ℕ = p ++ text_column t us in
    let units : GivesNumbers s (number.start_at (begins p t us + length t)) us =
    rw (append_assoc p (text_head t) (column_of columns.Number us), units-at p t us) at (number-gives (p ++ text_head t) us says.1) in
    (texts_at p t us, text-opens p t us h says.0, text-steps s (begins p t us + length t) (omega (arith, text-size p t us)) ts (begins p t us) _ f (omega arith) (text-slice p t us) units)
