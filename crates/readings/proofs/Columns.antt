-- What columns give: a number within its limit, which the place then holds, a difference that comes to a clock, and texts that are whole characters of so
-- many units.
use Prim.Native.Nat.{ℕ, ◌+◌, ◌-◌, ◌%◌, ◌≤◌}
use mathlib.Core.Path.{◌≡◌, refl, sym, ap, ◌∙◌}
use mathlib.Core.Bool.{Bool, true, false, true≢false}
use mathlib.Core.List.{List}
use native.Mathlib.Omega.{arith}
use lib.Dec.{ltb, eqb}
use lib.ListN.{length, take, drop, length-take}
use lib.Seq.{slice, take-take}
use borrow.Author.Tests.{ltb-false}
use Rattle.numbers.specs.declared.Read.{Read}
use Rattle.numbers.specs.declared.Read.TheVariants.{Number, Refused}
use Rattle.numbers.specs.declared.Signed.{Signed}
use Rattle.numbers.specs.declared.Signed.TheVariants.{Value, Wrong}
use Rattle.numbers.specs.Number.{pick, read_unsigned}
use Rattle.numbers.specs.Limits.{max_value, max_clock, max_count}
use Rattle.text.specs.declared.Part.{Part}
use Rattle.text.specs.declared.Taken.{Taken}
use Rattle.text.specs.declared.Taken.TheVariants as units
use Rattle.text.specs.Utf8.{well_formed, units_of, take_units}
use Rattle.text.proofs.Cutting.{cut_at}
use Rattle.columns.specs.declared.number.Place as number-place
use Rattle.columns.specs.declared.number.Answer as number-answer
use Rattle.columns.specs.declared.number.Answer.TheVariants as number
use Rattle.columns.specs.declared.difference.Place as difference-place
use Rattle.columns.specs.declared.difference.Answer as difference-answer
use Rattle.columns.specs.declared.difference.Answer.TheVariants as difference
use Rattle.string.specs.declared.Place as string-place
use Rattle.string.specs.declared.Answer as string-answer
use Rattle.string.specs.declared.Answer.TheVariants as string
use Rattle.string.specs.declared.Opened as string-opened
use Rattle.string.specs.declared.Opened.TheVariants as strings-opened
use Rattle.columns.specs.Number as numbers
use Rattle.columns.specs.Difference as differences
use Rattle.string.specs.String as strings
use Rattle.string.proofs.Texts.{read-ends}

pub clash : {A : Type 0} → true ≡ false → A
clash e = absurd (true≢false e)

-- a choice has what each way has
pub chosen : {A : Type 0} (P : A → Type 0) (t : Bool) {x y : A} → (t ≡ true → P x) → (t ≡ false → P y) → P (pick t x y)
chosen P true p q = p refl
chosen P false p q = q refl

-- ---- the number column

abbrev pub ValueHeld : number-answer.Answer → Type 0
ValueHeld (number.Next v c) = (v ≤ max_value) × (c.last ≡ v)
ValueHeld (number.Bad why) = Unit {0}

number-drawn : (c : number-place.Place) → ValueHeld (numbers.drawn c)
unfolding numbers.drawn
number-drawn c = chosen ValueHeld (ltb max_value c.last) (λ e. tt) (λ e. (ltb-false max_value c.last e, refl))

number-counted : (from x e : ℕ) (r : Read) → ValueHeld (numbers.counted from x e r)
unfolding numbers.counted
number-counted from x e (Refused why) = tt
number-counted from x e (Number c f) = chosen ValueHeld (ltb max_count c) (λ e. tt) (λ e. number-drawn _)

number-begun : (s : List ℕ) (at : ℕ) (r : Signed) → ValueHeld (numbers.begun s at r)
unfolding numbers.begun
number-begun s at (Wrong why) = tt
number-begun s at (Value m x e) = chosen ValueHeld m (λ _. number-counted at x e _) (λ _. number-drawn _)

pub number-held : (s : List ℕ) (c : number-place.Place) → ValueHeld (numbers.next_number s c)
unfolding numbers.next_number
number-held s c = chosen ValueHeld (ltb 0 c.count) (λ _. number-drawn c) (λ _. number-begun s c.at _)

-- ---- the difference column

abbrev pub Clock : difference-answer.Answer → Type 0
Clock (difference.Next v c) = v ≤ max_clock
Clock (difference.Bad why) = Unit {0}

clock-drawn : (c : difference-place.Place) → Clock (differences.drawn c)
unfolding differences.drawn
clock-drawn c =
    chosen Clock (ltb (c.last + c.key) 2147483648) (λ _. tt)
    (λ _. chosen Clock (ltb max_clock (c.last + c.key - 2147483648)) (λ _. tt) (λ l. ltb-false max_clock (c.last + c.key - 2147483648) l))

clock-counted : (from last key e : ℕ) (r : Read) → Clock (differences.counted from last key e r)
unfolding differences.counted
clock-counted from last key e (Refused why) = tt
clock-counted from last key e (Number c f) = chosen Clock (ltb max_count c) (λ _. tt) (λ _. clock-drawn _)

clock-begun : (s : List ℕ) (at last : ℕ) (r : Signed) → Clock (differences.begun s at last r)
unfolding differences.begun
clock-begun s at last (Wrong why) = tt
clock-begun s at last (Value m x e) =
    chosen Clock (differences.outside m x) (λ _. tt)
    (λ _. chosen Clock (eqb (x % 2) 0) (λ _. clock-drawn _) (λ _. clock-counted at last (differences.key_read m x) e _))

pub clock-held : (s : List ℕ) (c : difference-place.Place) → Clock (differences.next_difference s c)
unfolding differences.next_difference
clock-held s c = chosen Clock (ltb 0 c.count) (λ _. clock-drawn c) (λ _. clock-begun s c.at c.last _)

-- ---- the text column

-- what is left of the texts lies in the column
abbrev pub Within : List ℕ → string-place.Place → Type 0
Within s c = (c.at ≤ c.end) × (c.end ≤ length s)

abbrev pub Opens : List ℕ → string-opened.Opened → Type 0
Opens s (strings-opened.At c) = Within s c
Opens s (strings-opened.Not why) = Unit {0}

-- a text: it lies in the column, is whole characters, and has the units drawn
pub record WholeText (s : List ℕ) (p : Part) (n : ℕ) : Type 0 where
  pub lies : p.place + p.bytes.0 ≤ length s
  pub formed : well_formed (slice p.place (p.place + p.bytes.0) s) ≡ true
  pub units : units_of (slice p.place (p.place + p.bytes.0) s) ≡ n

abbrev pub TextHeld : List ℕ → string-answer.Answer → Type 0
TextHeld s (string.Next p c) = WholeText s p c.units.last × Within s c
TextHeld s (string.Bad why) = Unit {0}

pub text-opens : (s : List ℕ) (at : ℕ) → Opens s (strings.open_text s at)
unfolding strings.open_text strings.opened
text-opens s at = go (read_unsigned s at) refl
  where
    go : (r : Read) → read_unsigned s at ≡ r → Opens s (strings.opened s r)
    go (Refused why) e = tt
    go (Number n f) e =
        chosen (Opens s) (ltb (length s - f) n) (λ _. tt)
        (λ l. chosen (Opens s) (well_formed (slice f (f + n) s)) (λ _. (omega arith, omega (arith, ltb-false (length s - f) n l, read-ends s at n f e))) (λ _. tt))

text-taken : (s : List ℕ) (at end u : ℕ) (rest : number-place.Place) → at ≤ end → end ≤ length s → rest.last ≡ u → TextHeld s (strings.units_taken s at end u rest)
unfolding strings.units_taken strings.text_ending
text-taken s at end u rest l f h = go (take_units 7 u (slice at end s)) refl
  where
    go : (r : Taken) → take_units 7 u (slice at end s) ≡ r → TextHeld s (strings.text_ending at end rest r)
    go (units.Took b) e =
        let c = cut_at 7 u b.0 at end s l f e in
        (record { lies = omega (arith, c.within); formed = c.front; units = c.units ∙ sym h }, (c.within, f))
    go (units.Refused why) e = tt

pub text-held : (s : List ℕ) (c : string-place.Place) → Within s c → TextHeld s (strings.next_text s c)
unfolding strings.next_text strings.units_drawn
text-held s c w = go (numbers.next_number s c.units) (number-held s c.units)
  where
    go : (r : number-answer.Answer) → ValueHeld r → TextHeld s (strings.units_drawn s c.at c.end r)
    go (number.Next u rest) h = text-taken s c.at c.end u rest w.0 w.1 h.1
    go (number.Bad why) h = tt

-- a text of a column is one of the update that the column is a front of
pub whole_of : (n : ℕ) (u : List ℕ) (p : Part) (k : ℕ) → WholeText (take n u) p k → WholeText u p k
whole_of n u p k h =
    let e : p.place + p.bytes.0 ≤ n = omega (arith, h.lies, length-take n u) in
    let end : ℕ = p.place + p.bytes.0 in
    let same : slice p.place end (take n u) ≡ slice p.place end u = ap (drop p.place) (take-take end n u e) in
    record { lies = omega (arith, h.lies, length-take n u); formed = sym (ap well_formed same) ∙ h.formed; units = sym (ap units_of same) ∙ h.units }
