-- The laws of the text column: a number read ends within the bytes, a place anywhere is brought within them, how long the column is, and the writer's
-- refusals in their order.
use Prim.Native.Nat.{ℕ, ◌+◌, ◌≤◌}
use mathlib.Core.Path.{◌≡◌, refl, sym, ap, subst, ◌∙◌}
use mathlib.Core.Logic.{◌⊎◌, inl, inr, ⊎_elim}
use mathlib.Core.List.{List, [], ◌∷◌}
use mathlib.Core.Bool.{Bool, true, false}
use native.Mathlib.Omega.{arith}
use lib.Dec.{eqb}
use lib.ListN.{length, take, drop, length-append, drop_of_length-le}
use lib.Seq.{slice, slice_empty, take_all, length-take-le}
use borrow.Author.Tests.{eq-eqb, ne_eqb, eqb-true}
use Rattle.numbers.specs.declared.Read.TheVariants.{Number, Refused}
use Rattle.numbers.specs.Number.{pick, unsigned, read_unsigned, answer_at}
use Rattle.numbers.proofs.Laws.{below_or, at-end}
use Rattle.numbers.proofs.Inside.{Reads, unsigned-inside}
use Rattle.text.specs.Utf8.{well_formed, took, take_units}
use Rattle.text.proofs.Cutting.{cut_at}
use Rattle.runs.specs.declared.ColumnKind.TheVariants as columns
use Rattle.runs.specs.Runs.{coding, within, storable, spellable, why, column_of, why_of}
use Rattle.string.specs.String.{takes_all, text_head, text_column, why_texts}

-- ---- opening

-- a number that is read ends within the bytes, wherever it was to begin
pub read-ends : (s : List ℕ) (at n e : ℕ) → read_unsigned s at ≡ Number n e → e ≤ length s
unfolding read_unsigned answer_at
read-ends s at n e p = ⊎_elim
    (λ l. (subst (Reads s at) p (unsigned-inside s at (omega arith))).1)
    (λ g.
    let r : read_unsigned s at ≡ Refused (record { number = 1; place = length s }) = rw (at-end s 9 at (omega arith) g) in
    let z : ◌≡◌ {A = ℕ} 0 1 = cc in
    absurd (omega arith))
    (below_or at (length s))

-- ---- taking: texts that are brought within the bytes, first their end and then the place in them, are the same bytes

module _ (s : List ℕ) (at end from to : ℕ) (tl : to ≤ length s) (te : to ≤ end) (t : (to ≡ end) ⊎ (to ≡ length s)) (fa : from ≤ at) (ft : from ≤ to) (f : (from ≡ at) ⊎ (from ≡ to)) where
  front_same : take to s ≡ take end s
  front_same = ⊎_elim (λ e. ap (λ (n : ℕ). take n s) e) (λ e. take_all to s (omega arith) ∙ sym (take_all end s (omega arith))) t

  pub slice-within : slice from to s ≡ slice at end s
  slice-within = ⊎_elim
      (λ e. ap (λ (n : ℕ). drop n (take to s)) e)
      (λ e. ap (λ (n : ℕ). drop n (take to s)) e ∙ slice_empty to s ∙ sym (drop_of_length-le (take to s) {i = at} (omega (arith, length-take-le to s tl))))
      f
      ∙ ap (drop at) front_same

  -- nothing is taken past the texts, so the place after what was taken is within the bytes, or where it was
  pub taken-within : (u k : ℕ) → take_units 7 u (slice from to s) ≡ took k → (at + k ≤ length s) ⊎ (k ≡ 0)
  taken-within u k p =
      let w = (cut_at 7 u k from to s ft tl p).within in
      ⊎_elim (λ e. inl (omega arith)) (λ e. inr (omega arith)) f

-- ---- the column

pub head-length : (t : List ℕ) → length (text_head t) ≡ length (unsigned (length t)) + length t
unfolding text_head
head-length t = length-append (unsigned (length t)) t

-- ---- the refusals

-- no difference is too far for the number column
spellable-number : (us : List ℕ) (p : ℕ) → spellable (coding columns.Number) p us ≡ true
unfolding spellable coding
spellable-number [] p = refl
spellable-number (u ∷ us) p = spellable-number us u

-- so where it refuses it is 3, which is what the writer of texts gives
pub why-number : (us : List ℕ) → (why_of columns.Number us ≡ 0) ⊎ (why_of columns.Number us ≡ 3)
unfolding why
why-number us = rw (spellable-number us 0) (go (within (coding columns.Number).most us) (storable (coding columns.Number) 0 us))
  where
    go : (a b : Bool) → (◌≡◌ {A = ℕ} (pick a (pick b 0 3) 3) 0) ⊎ (◌≡◌ {A = ℕ} (pick a (pick b 0 3) 3) 3)
    go true true = inl refl
    go true false = inr refl
    go false b = inr refl

module _ (t us : List ℕ) where
  pub why-six : well_formed t ≡ false → why_texts t us ≡ 6
  unfolding why_texts
  why-six e = rw e

  pub why-three : well_formed t ≡ true → (why_of columns.Number us ≡ 0 → ⊥) → why_texts t us ≡ 3
  unfolding why_texts
  why-three e n = rw (e, ne_eqb (why_of columns.Number us) 0 n)

  pub why-seven : well_formed t ≡ true → why_of columns.Number us ≡ 0 → takes_all t us ≡ false → why_texts t us ≡ 7
  unfolding why_texts
  why-seven e n k = rw (e, eq-eqb (why_of columns.Number us) 0 n, k)

  pub why-none : well_formed t ≡ true → why_of columns.Number us ≡ 0 → takes_all t us ≡ true → why_texts t us ≡ 0
  unfolding why_texts
  why-none e n k = rw (e, eq-eqb (why_of columns.Number us) 0 n, k)

  -- what it says that nothing is refused
  pub why-says : why_texts t us ≡ 0 → (well_formed t ≡ true) × (why_of columns.Number us ≡ 0) × (takes_all t us ≡ true)
  unfolding why_texts
  why-says h = go (well_formed t) (eqb (why_of columns.Number us) 0) (takes_all t us) refl h
    where
      go : (a b c : Bool) → eqb (why_of columns.Number us) 0 ≡ b → ◌≡◌ {A = ℕ} (pick a (pick b (pick c 0 7) 3) 6) 0
          → (a ≡ true) × (why_of columns.Number us ≡ 0) × (c ≡ true)
      go true true true e h = (refl, eqb-true (why_of columns.Number us) 0 e, refl)
      go true true false e h = absurd (omega arith)
      go true false c e h = absurd (omega arith)
      go false b c e h = absurd (omega arith)

  pub column-length : length (text_column t us) ≡ length (unsigned (length t)) + length t + length (column_of columns.Number us)
  unfolding text_column
  column-length = length-append (text_head t) (column_of columns.Number us) ∙ ap (λ (n : ℕ). n + length (column_of columns.Number us)) (head-length t)
