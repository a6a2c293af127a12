-- What is written of texts is read: the text stands behind its length, and reading texts is cutting it by the numbers that the unit lengths give.
use Prim.Native.Nat.{ℕ, zero, suc, ◌+◌, ◌-◌, ◌^◌, ◌≤◌, ◌<◌}
use mathlib.Core.Path.{◌≡◌, refl, sym, ap, ap₂, ◌∙◌}
use mathlib.Core.Bool.{true}
use mathlib.Core.List.{List, [], ◌∷◌, ◌++◌, append_assoc}
use native.Mathlib.Omega.{arith}
use lib.ListN.{length, take, drop, length-append}
use lib.Seq.{slice, take-append_seam, drop-append_seam, take-append-add}
use borrow.Author.Tests.{le-ltb}
use Rattle.numbers.specs.declared.Refusal.{Refusal}
use Rattle.numbers.specs.Number.{none, unsigned, read_unsigned}
use Rattle.numbers.specs.declared.Read.TheVariants as read
use Rattle.numbers.proofs.RoundTrip.{read-unsigned-back}
use Rattle.text.specs.declared.Taken.{Taken}
use Rattle.text.specs.declared.Taken.TheVariants.{Took, Refused}
use Rattle.text.specs.Utf8.{well_formed, units_of, take_units}
use Rattle.text.proofs.Slices.{slice_front, slice-rest}
use Rattle.text.proofs.Joining.{clash, well-formed-append}
use Rattle.text.proofs.Cutting.{cut, cut_at, found}
use Rattle.columns.specs.declared.number.Place as number-place
use Rattle.columns.specs.declared.number.Answer as number-answer
use Rattle.columns.specs.declared.number.Answer.TheVariants as number
use Rattle.string.specs.declared.Place.{Place}
use Rattle.string.specs.declared.Opened.TheVariants.{At}
use Rattle.runs.specs.declared.ColumnKind.TheVariants as columns
use Rattle.columns.specs.Number.{start_at, next_number}
use Rattle.runs.specs.Runs.{column_of, why_of}
use Rattle.columns.specs.Reading as reading
use Rattle.columns.specs.Reading.{Reading, number_draw, reads, read_numbers}
use Rattle.string.specs.String.{place_at, opened, open_text, text_ending, units_taken, units_drawn, next_text, takes_more, takes_all, text_head, text_column, why_texts}
use Rattle.string.specs.StringInner.{Texts, and_then, read_texts}
use Rattle.columns.proofs.Back.{at_end}
use Rattle.columns.proofs.RoundTrip.{number-back, number-end}
use Rattle.string.proofs.Texts.{head-length, why-none, why-says}

-- ---- texts one after the other

unfoldable pub joined : List (List ℕ) → List ℕ
joined [] = []
joined (a ∷ ts) = a ++ joined ts

unfoldable pub units_each : List (List ℕ) → List ℕ
units_each [] = []
units_each (a ∷ ts) = units_of a ∷ units_each ts

-- each is UTF-8
abbrev pub Formed : List (List ℕ) → Type 0
Formed [] = Unit {0}
Formed (a ∷ ts) = (well_formed a ≡ true) × Formed ts

units-length : (ts : List (List ℕ)) → length (units_each ts) ≡ length ts
unfolding units_each
units-length [] = refl
units-length (a ∷ ts) = ap suc (units-length ts)

-- ---- cutting: reading texts off the bytes t that begin at a place

-- the first text, and what is cut off behind it
unfoldable cut_on : ℕ → List ℕ → Taken → (ℕ → Texts) → Texts
cut_on at t (Took b) f = record { texts = take b.0 t ∷ (f b.0).texts; refusal = (f b.0).refusal }
cut_on at t (Refused why) f = record { texts = []; refusal = record { number = why; place = at } }

-- the texts that the units cut off t; why the units ended
unfoldable cut_by : ℕ → List ℕ → List ℕ → Refusal → Texts
cut_by at t [] why = record { texts = []; refusal = why }
cut_by at t (u ∷ us) why = cut_on at t (take_units 7 u t) (λ k. cut_by (at + k) (drop k t) us why)

abbrev cut_as : ℕ → List ℕ → Reading → Texts
cut_as at t r = cut_by at t r.values r.refusal

-- texts are cut off the bytes from the place to the end of the texts, by the numbers that the unit lengths give
module _ (s : List ℕ) (end : ℕ) (f : end ≤ length s) where
  abbrev Cuts : ℕ → Type 0
  Cuts k = (at : ℕ) (c : number-place.Place) → at ≤ end → read_texts k s (place_at at end c) ≡ cut_as at (slice at end s) (read_numbers k s c)

  module _ (k : ℕ) (rec : Cuts k) (at : ℕ) (h : at ≤ end) where
    cuts-took : (u : ℕ) (c : number-place.Place) (t : Taken) → take_units 7 u (slice at end s) ≡ t
        → and_then s (text_ending at end c t) (λ d. read_texts k s d)
        ≡ cut_on at (slice at end s) t (λ j. cut_as (at + j) (drop j (slice at end s)) (read_numbers k s c))
    unfolding and_then text_ending cut_on
    cuts-took u c (Took b) p =
        let w : at + b.0 ≤ end = (cut_at 7 u b.0 at end s h f p).within in
        rw (rec (at + b.0) c w, slice_front s at end b.0 w f, slice-rest s at end b.0)
    cuts-took u c (Refused why) p = refl

    cuts-drew : (a : number-answer.Answer)
        → and_then s (units_drawn s at end a) (λ d. read_texts k s d)
        ≡ cut_as at (slice at end s) (reading.and_then (number_draw a) (λ c. read_numbers k s c))
    unfolding units_drawn units_taken number_draw reading.and_then and_then cut_by
    cuts-drew (number.Next u c) = cuts-took u c (take_units 7 u (slice at end s)) refl
    cuts-drew (number.Bad why) = refl

  reads-cut : (k : ℕ) → Cuts k
  unfolding read_texts reads cut_by next_text
  reads-cut zero at c h = refl
  reads-cut (suc k) at c h = cuts-drew k (reads-cut k) at h (next_number s c)

-- ---- whole texts are found

module _ (l : List ℕ) where
  cuts-found : (ts : List (List ℕ)) (at : ℕ) (why : Refusal) → Formed ts → cut_by at (joined ts ++ l) (units_each ts) why ≡ record { texts = ts; refusal = why }
  unfolding joined units_each cut_by cut_on
  cuts-found [] at why h = refl
  cuts-found (a ∷ ts) at why h =
      let b : List ℕ = joined ts ++ l in
      rw (append_assoc a (joined ts) l, found 7 a b h.0, take-append_seam a b, drop-append_seam a b, cuts-found ts (at + length a) why h.1)

  -- so units that texts have are never refused
  pub takes-found : (ts : List (List ℕ)) → Formed ts → takes_all (joined ts ++ l) (units_each ts) ≡ true
  unfolding joined units_each takes_all takes_more
  takes-found [] h = refl
  takes-found (a ∷ ts) h =
      let b : List ℕ = joined ts ++ l in
      rw (append_assoc a (joined ts) l, found 7 a b h.0, drop-append_seam a b) (takes-found ts h.1)

formed-all : (ts : List (List ℕ)) (l : List ℕ) → Formed ts → well_formed (joined ts ++ l) ≡ well_formed l
unfolding joined
formed-all [] l h = refl
formed-all (a ∷ ts) l h = rw (append_assoc a (joined ts) l) (well-formed-append a (joined ts ++ l) h.0 ∙ formed-all ts l h.1)

-- where what is left over is UTF-8 and the unit lengths can be written, whole texts are not refused
pub text-legal : (ts : List (List ℕ)) (l : List ℕ) → Formed ts → well_formed l ≡ true → why_of columns.Number (units_each ts) ≡ 0
    → why_texts (joined ts ++ l) (units_each ts) ≡ 0
text-legal ts l f e n = why-none (joined ts ++ l) (units_each ts) (formed-all ts l f ∙ e) n (takes-found l ts f)

-- ---- opening

middle : (a b c : List ℕ) → slice (length a) (length a + length b) (a ++ (b ++ c)) ≡ b
middle a b c = rw (take-append-add a (b ++ c) (length b), take-append_seam b c) (drop-append_seam a b)

module _ (p t us : List ℕ) where
  -- where the text begins
  abbrev pub begins : ℕ
  begins = length p + length (unsigned (length t))

  abbrev pub texts_at : Place
  texts_at = place_at begins (begins + length t) (start_at (begins + length t))

  text-spelled : p ++ text_column t us ≡ (p ++ unsigned (length t)) ++ (t ++ column_of columns.Number us)
  unfolding text_column text_head
  text-spelled = rw (append_assoc (unsigned (length t)) t (column_of columns.Number us)) (sym (append_assoc p (unsigned (length t)) (t ++ column_of columns.Number us)))

  begins-length : length (p ++ unsigned (length t)) ≡ begins
  begins-length = length-append p (unsigned (length t))

  pub text-slice : slice begins (begins + length t) (p ++ text_column t us) ≡ t
  text-slice = rw (text-spelled, ← begins-length) (middle (p ++ unsigned (length t)) t (column_of columns.Number us))

  pub text-size : length (p ++ text_column t us) ≡ begins + length t + length (column_of columns.Number us)
  text-size =
      ap length text-spelled ∙ length-append (p ++ unsigned (length t)) (t ++ column_of columns.Number us)
      ∙ ap₂ (λ (m n : ℕ). m + n) begins-length (length-append t (column_of columns.Number us)) ∙ omega arith

  text-read : length t < 2 ^ 63 → read_unsigned (p ++ text_column t us) (length p) ≡ read.Number (length t) begins
  unfolding text_column text_head
  text-read h = rw (append_assoc (unsigned (length t)) t (column_of columns.Number us)) (read-unsigned-back p (t ++ column_of columns.Number us) (length t) h)

  pub text-opens : length t < 2 ^ 63 → well_formed t ≡ true → open_text (p ++ text_column t us) (length p) ≡ At texts_at
  unfolding open_text opened
  text-opens h e = rw (text-read h, le-ltb (length (p ++ text_column t us) - begins) (length t) (omega (arith, text-size)), text-slice, e)

  -- the unit lengths stand behind the text
  pub units-at : length (p ++ text_head t) ≡ begins + length t
  units-at = omega (arith, length-append p (text_head t), head-length t)

  module _ (k : ℕ) (r : Reading) (units : read_numbers k ((p ++ text_head t) ++ column_of columns.Number us) (start_at (length (p ++ text_head t))) ≡ r) where
    units-read : read_numbers k (p ++ text_column t us) (start_at (begins + length t)) ≡ r
    unfolding text_column
    units-read = rw (append_assoc p (text_head t) (column_of columns.Number us), units-at) at units

    text-reads : read_texts k (p ++ text_column t us) texts_at ≡ cut_as begins t r
    text-reads =
        reads-cut (p ++ text_column t us) (begins + length t) (omega (arith, text-size)) k begins (start_at (begins + length t)) (omega arith)
        ∙ ap₂ (cut_as begins) text-slice units-read

-- ---- the round trip

-- reading from a place on, opened as a text column, gives these texts and then nothing
pub record Gives (s : List ℕ) (at : ℕ) (ts : List (List ℕ)) : Type 0 where
  pub place : Place
  pub opens : open_text s at ≡ At place
  pub back : read_texts (length ts) s place ≡ record { texts = ts; refusal = none }
  pub over : (m : ℕ) → read_texts (length ts + suc m) s place ≡ record { texts = ts; refusal = at_end s }

-- any whole texts, with anything left over, that the writer does not refuse; from 2^63 bytes on a length has ten bytes, and no reader takes them
pub text-back : (p l : List ℕ) (ts : List (List ℕ)) → Formed ts → length (joined ts ++ l) < 2 ^ 63 → why_texts (joined ts ++ l) (units_each ts) ≡ 0
    → Gives (p ++ text_column (joined ts ++ l) (units_each ts)) (length p) ts
unfolding text_column
text-back p l ts f h w =
    let t : List ℕ = joined ts ++ l in
    let us : List ℕ = units_each ts in
    let says = why-says t us w in
    let n : length us ≡ length ts = units-length ts in
    record {
      place = texts_at p t us;
      opens = text-opens p t us h says.0;
      back = rw n at (text-reads p t us (length us) (record { values = us; refusal = none }) (number-back (p ++ text_head t) us says.1)) ∙ cuts-found l ts _ none f;
      over = λ m.
          let end : Refusal = at_end ((p ++ text_head t) ++ column_of columns.Number us) in
          rw n at (text-reads p t us (length us + suc m) (record { values = us; refusal = end }) (number-end (p ++ text_head t) us says.1 m))
          ∙ cuts-found l ts _ end f
          ∙ ap (λ (s : List ℕ). record { texts = ts; refusal = at_end s }) (append_assoc p (text_head t) (column_of columns.Number us));
    }

-- ---- the other way: what the writer does not refuse are texts and what is left over

pub record Texted (t us : List ℕ) : Type 0 where
  pub texts : List (List ℕ)
  pub left : List ℕ
  pub formed : Formed texts
  pub whole : joined texts ++ left ≡ t
  pub units : units_each texts ≡ us
  pub rest : well_formed left ≡ well_formed t

texted : (us t : List ℕ) → takes_all t us ≡ true → Texted t us
unfolding takes_all takes_more joined units_each
texted [] t h = record { texts = []; left = t; formed = tt; whole = refl; units = refl; rest = refl }
texted (u ∷ us) t h = go (texted us) (take_units 7 u t) refl h
  where
    go : ((t : List ℕ) → takes_all t us ≡ true → Texted t us) → (r : Taken) → take_units 7 u t ≡ r → takes_more r (λ k. takes_all (drop k t) us) ≡ true → Texted t (u ∷ us)
    go rec (Took b) p h =
        let c = cut 7 u b.0 t p in
        let r = rec (drop b.0 t) h in
        record {
          texts = take b.0 t ∷ r.texts;
          left = r.left;
          formed = (c.front, r.formed);
          whole = append_assoc (take b.0 t) (joined r.texts) r.left ∙ ap (λ (x : List ℕ). take b.0 t ++ x) r.whole ∙ c.joined;
          units = ap₂ (λ (x : ℕ) (y : List ℕ). x ∷ y) c.units r.units;
          rest = r.rest ∙ c.back;
        }
    go rec (Refused why) p h = absurd (clash h)

pub text-cut : (t us : List ℕ) → why_texts t us ≡ 0 → Texted t us
text-cut t us w = texted us t (why-says t us w).2

-- so all that the writer does not refuse is read
pub text-trip : (p t us : List ℕ) → length t < 2 ^ 63 → why_texts t us ≡ 0 → (x : Texted t us) × Gives (p ++ text_column t us) (length p) x.texts
text-trip p t us h w =
    let x = text-cut t us w in
    let b : length (joined x.texts ++ x.left) < 2 ^ 63 → why_texts (joined x.texts ++ x.left) (units_each x.texts) ≡ 0
    → Gives (p ++ text_column (joined x.texts ++ x.left) (units_each x.texts)) (length p) x.texts = text-back p x.left x.texts x.formed in
    (x, (rw (x.whole, x.units) at b) h w)
