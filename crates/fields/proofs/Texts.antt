-- What a draw from the text column comes to: the units are the number drawn, and the part goes to a row.
use Rattle.std.specs.Prelude.{Option, Some, None}
use Prim.Native.Nat.{ℕ, ◌+◌, ◌-◌, ◌<◌}
use mathlib.Core.Path.{◌≡◌, refl, sym, ap, ◌∙◌}
use mathlib.Core.List.{List}
use mathlib.Core.Bool.{Bool, true, false}
use native.Mathlib.Omega.{arith}
use lib.Dec.{ltb}
use lib.ListN.{length, set, take}
use lib.Seq.{slice}
use Rattle.numbers.specs.declared.Refusal.{Refusal}
use Rattle.numbers.specs.declared.Read.{Read}
use Rattle.numbers.specs.declared.Read.TheVariants as read
use Rattle.numbers.specs.declared.Signed.{Signed}
use Rattle.numbers.specs.declared.Signed.TheVariants as signed
use Rattle.numbers.specs.Limits.{max_value, max_count}
use Rattle.numbers.specs.Number.{pick, read_signed, read_unsigned}
use Rattle.text.specs.declared.Bytes.{Bytes}
use Rattle.text.specs.declared.Taken.{Taken}
use Rattle.text.specs.declared.Taken.TheVariants as units
use Rattle.text.specs.Utf8.{take_units}
use Rattle.columns.specs.declared.number.Place as number-place
use Rattle.columns.specs.declared.number.Answer as number-answer
use Rattle.columns.specs.declared.number.Answer.TheVariants as number
use Rattle.columns.specs.Number.{place_at, refuse, drawn, counted, begun, next_number}
use Rattle.string.specs.String as strings
use Rattle.grammar.specs.Course as course
use Rattle.decoder.specs.States.{Numbers}
use Rattle.decoder.specs.Columned.{number_drawn, text_drawn, from_texts}
use Rattle.cells.specs.Cells.{cell, numbers_in, texts_in, why_in, Small, Elsewhere, part_in, numbers_given, NumberDrawn}
use Rattle.cells.proofs.Words.{Held, column, held, put-at, texts-held, held-wide, elsewhere-any, elsewhere-on}
use Rattle.cells.proofs.States.{beside_none, beside-put, row_first, row-second}
use Rattle.fields.specs.Fields.{texts_given, TextDrawn}

-- ---- the value drawn is the last of the place after it

abbrev Lasts : number-answer.Answer → Type 0
Lasts (number.Next v c) = c.last ≡ v
Lasts (number.Bad why) = Unit {0}

lasts-drawn : (c : number-place.Place) → Lasts (drawn c)
unfolding drawn
lasts-drawn c = go (ltb max_value c.last)
  where
    go : (b : Bool) → Lasts (pick b (refuse 3 c.from) (number.Next c.last (place_at c.at c.from c.last (c.count - 1))))
    go true = tt
    go false = refl

lasts-counted : (from x e : ℕ) (r : Read) → Lasts (counted from x e r)
unfolding counted
lasts-counted from x e (read.Refused why) = tt
lasts-counted from x e (read.Number c f) = go (ltb max_count c)
  where
    go : (b : Bool) → Lasts (pick b (refuse 3 e) (drawn (place_at f from x (c + 2))))
    go true = tt
    go false = lasts-drawn (place_at f from x (c + 2))

lasts-begun : (s : List ℕ) (at : ℕ) (r : Signed) → Lasts (begun s at r)
unfolding begun
lasts-begun s at (signed.Wrong why) = tt
lasts-begun s at (signed.Value true x e) = lasts-counted at x e (read_unsigned s e)
lasts-begun s at (signed.Value false x e) = lasts-drawn (place_at e at x 1)

lasts-next : (s : List ℕ) (c : number-place.Place) → Lasts (next_number s c)
unfolding next_number
lasts-next s c = go (ltb 0 c.count)
  where
    go : (b : Bool) → Lasts (pick b (drawn c) (begun s c.at (read_signed s c.at)))
    go true = lasts-drawn c
    go false = lasts-begun s c.at (read_signed s c.at)

-- ---- the number drawn, from what it leaves

abbrev value : course.Drawn Numbers (ℕ × ℕ) → ℕ
value (course.got x s) = x.0
value (course.not why) = 0

abbrev left : Numbers → course.Drawn Numbers (ℕ × ℕ) → Numbers
left n (course.got x s) = s
left n (course.not why) = n

abbrev told : course.Drawn Numbers (ℕ × ℕ) → ℕ
told (course.got x s) = 1
told (course.not why) = 0

abbrev reason : Refusal → course.Drawn Numbers (ℕ × ℕ) → Refusal
reason r (course.got x s) = r
reason r (course.not why) = why

number_of : (v : List ℕ) (n to : ℕ) (a : number-answer.Answer) → numbers_given v 5 (Some n) ≡ number_drawn (λ c. c) to a
    → (a ≡ number.Next n (numbers_in v 5).place) × ((numbers_in v 5).to ≡ to)
unfolding numbers_given number_drawn
number_of v n to (number.Next x c) e =
    let s : numbers_in v 5 ≡ record { place = c; to = to } = ap (left (numbers_in v 5)) e in
    let n : n ≡ x = ap value e in
    (sym (ap (λ (m : ℕ). number.Next m (numbers_in v 5).place) n ∙ ap (λ (m : Numbers). number.Next x m.place) s), ap (λ (m : Numbers). m.to) s)
number_of v n to (number.Bad why) e = absurd (let z : ◌≡◌ {A = ℕ} 1 0 = ap told e in omega arith)

-- ---- the text

-- no number, no text
pub text-none : (u w v : List ℕ) (k : ℕ) (r : List ℕ) (d : Option ℕ) → d ≡ None → NumberDrawn u 5 w v d → TextDrawn u k w v r r d
unfolding texts_given numbers_given number_drawn text_drawn texts_in numbers_in strings.next_text strings.units_drawn
text-none u w v k r d h p =
    let a = next_number (take (cell w 5 4) u) (numbers_in w 5).place in
    (p.0, p.1, beside_none k r, rw h (go a (ap (numbers_given v 5) (sym h) ∙ p.2)))
  where
    go : (a : number-answer.Answer) → course.not (why_in v) ≡ number_drawn (λ c. c) (cell w 5 4) a
        → course.not (why_in v) ≡ text_drawn (λ c. c) (cell w 5 4) (strings.units_drawn (take (cell w 5 4) u) (cell w 5 5) (cell w 5 6) a)
    go (number.Next x c) e = absurd (let z : ◌≡◌ {A = ℕ} 0 1 = ap told e in omega arith)
    go (number.Bad why) e = ap course.not (ap (reason (why_in v)) e)

module _ (u w v : List ℕ) (n : ℕ) (p : NumberDrawn u 5 w v (Some n)) where
  found : (next_number (take (cell w 5 4) u) (numbers_in w 5).place ≡ number.Next n (numbers_in v 5).place) × (cell v 5 4 ≡ cell w 5 4)
  unfolding numbers_in
  found = number_of v n (cell w 5 4) (next_number (take (cell w 5 4) u) (numbers_in w 5).place) p.2

  text-next : (t : List ℕ) (x : Taken) → t ≡ take (cell v 5 4) u → x ≡ take_units 7 n (slice (cell v 5 5) (cell v 5 6) t)
      → from_texts u (texts_in w 5) (λ c. c) ≡ text_drawn (λ c. c) (cell v 5 4) (strings.text_ending (cell v 5 5) (cell v 5 6) (numbers_in v 5).place x)
  unfolding texts_in numbers_in strings.next_text strings.units_drawn strings.units_taken
  text-next t x et ex = rw (ex, et, found.1, p.3.0, p.3.1, found.0) refl

  -- its units end past the texts, or in a pair
  pub text-refused : (z r t : List ℕ) (d : Option ℕ) (k at number : ℕ) (x : Taken) → at ≡ cell v 5 5 → x ≡ units.Refused number
      → t ≡ take (cell v 5 4) u → x ≡ take_units 7 n (slice at (cell v 5 6) t)
      → (d ≡ None) × Small z × Elsewhere 9 v z × (why_in z ≡ record { number = number; place = at })
      → TextDrawn u k w z r r d
  unfolding texts_given text_drawn strings.text_ending
  text-refused z r t d k at number x ea told et ex h = (
    h.1,
    elsewhere-on 5 w v z p.1 (elsewhere-any 5 v z h.2),
    beside_none k r,
    rw (h.0, text-next t x et (rw (← ea) ex), told) (ap course.not (h.3 ∙ rw ea refl)),
  )

  -- its bytes
  pub text-took : (r t : List ℕ) (k at : ℕ) (x : Taken) (b : Bytes) → k + 1 < length r → at ≡ cell v 5 5 → x ≡ units.Took b
      → t ≡ take (cell v 5 4) u → x ≡ take_units 7 n (slice at (cell v 5 6) t)
      → TextDrawn u k w (set v 40 (at + b.0)) r (set (set r k at) (k + 1) b.0) (Some n)
  unfolding texts_given text_drawn strings.text_ending part_in numbers_in
  text-took r t k at x b room ea told et ex =
      let z = set v 40 (at + b.0) in
      let h : Held 5 v _ z = put-at 5 v (column v 5) v (omega arith) (held 5 v p.0) 40 5 (at + b.0) refl (omega arith) in
      let last : (numbers_in v 5).place.last ≡ n = rw found.0 at (lasts-next (take (cell w 5 4) u) (numbers_in w 5).place) in (
        held-wide 5 v _ z h (omega arith, (λ q. omega arith), (λ q. omega arith), (λ q. omega arith)) p.0,
        elsewhere-on 5 w v z p.1 h.elsewhere,
        beside-put k at b.0 r room,
        rw (row_first k at b.0 r room, row-second k at b.0 r room, texts-held 5 v _ z h, text-next t x et (rw (← ea) ex), told, last, ea) refl,
      )
