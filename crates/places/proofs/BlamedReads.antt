-- A number that is read begins at a byte of the update, and what is refused instead blames the update. The bytes s that are read are the update or a
-- column, so no more than the update has.
use Prim.Native.Nat.{ℕ, ◌≤◌, ◌<◌}
use mathlib.Core.Path.{◌≡◌, refl}
use mathlib.Core.Logic.{inl, inr, ⊎_elim}
use mathlib.Core.Bool.{Bool, true, false, true≢false}
use mathlib.Core.List.{List, []}
use native.Mathlib.Omega.{arith}
use lib.ListN.{length, take, drop, length-take, drop_of_length-le}
use lib.Seq.{slice}
use Rattle.numbers.specs.declared.Read.{Read}
use Rattle.numbers.specs.declared.Read.TheVariants.{Number, Refused}
use Rattle.numbers.specs.declared.Signed.{Signed}
use Rattle.numbers.specs.declared.Signed.TheVariants.{Value, Wrong}
use Rattle.numbers.specs.Number.{pick, Spelt, got, short, long, spelt, spelt_signed, answer_at, minus_of, with_sign, read_unsigned, read_signed}
use Rattle.numbers.proofs.Laws.{below_or, at-end}
use Rattle.numbers.proofs.Inside as inside
use Rattle.text.specs.Utf8.{well_formed, after, settled}
use Rattle.places.specs.Places.{Blames}

-- a choice has what each way has
pub tested : {A : Type 0} (P : A → Type 0) (t : Bool) {x y : A} → (t ≡ true → P x) → (t ≡ false → P y) → P (pick t x y)
tested P true p q = p refl
tested P false p q = q refl

-- bytes that are not UTF-8 are some
pub not-text : (s : List ℕ) (a b : ℕ) → well_formed (slice a b s) ≡ false → a < length s
unfolding well_formed after settled
not-text s a b h = ⊎_elim
    (λ l. l)
    (λ g.
    let none : slice a b s ≡ [] = drop_of_length-le (take b s) {i = a} (omega (arith, length-take b s)) in
    absurd (true≢false (rw none at h)))
    (below_or a (length s))

abbrev pub Reads : List ℕ → ℕ → Read → Type 0
Reads u at (Number x e) = (at < e) × (e ≤ length u)
Reads u at (Refused why) = Blames u why

abbrev pub ReadsSigned : List ℕ → ℕ → Signed → Type 0
ReadsSigned u at (Value m x e) = (at < e) × (e ≤ length u)
ReadsSigned u at (Wrong why) = Blames u why

module _ (u s : List ℕ) (l : length s ≤ length u) where
  pub end-blames : Blames u (record { number = 1; place = length s })
  unfolding Blames
  end-blames = ⊎_elim (λ h. inl h) (λ h. inr (refl, omega arith)) (below_or (length s) (length u))

  module _ (at : ℕ) where
    placed-reads : at < length s → (r : Spelt) → inside.Reads s at (answer_at s at r) → Reads u at (answer_at s at r)
    unfolding answer_at Blames
    placed-reads b (got v e) h = (h.0, omega (arith, h.1))
    placed-reads b short h = end-blames
    placed-reads b long h = inl (omega arith)

    pub unsigned_reads : Reads u at (read_unsigned s at)
    unfolding read_unsigned answer_at
    unsigned_reads = ⊎_elim
        (λ b. placed-reads b (spelt 9 at (drop at s)) (inside.unsigned-inside s at (omega arith)))
        (λ e. rw (at-end s 9 at (omega arith) e) end-blames)
        (below_or at (length s))

    placed-signed : at < length s → (m : Bool) (r : Spelt) → inside.ReadsSigned s at (with_sign m (answer_at s at r))
        → ReadsSigned u at (with_sign m (answer_at s at r))
    unfolding answer_at with_sign Blames
    placed-signed b m (got v e) h = (h.0, omega (arith, h.1))
    placed-signed b m short h = end-blames
    placed-signed b m long h = inl (omega arith)

    pub signed_reads : ReadsSigned u at (read_signed s at)
    unfolding read_signed spelt_signed answer_at with_sign
    signed_reads = ⊎_elim
        (λ b. placed-signed b (minus_of (drop at s)) (spelt_signed at (drop at s)) (inside.signed-inside s at (omega arith)))
        (λ e. rw (drop_of_length-le s e) end-blames)
        (below_or at (length s))
