-- A number that is spelled longer than it needs reads the same.
use Prim.Native.Nat.{ℕ, zero, suc, ◌+◌, ◌-◌, ◌*◌, ◌/◌, ◌%◌, ◌≤◌, ◌<◌}
use mathlib.Core.Path.{◌≡◌, refl, ap, subst, ◌∙◌}
use mathlib.Core.Bool.{Bool, true, false}
use mathlib.Core.List.{List, [], ◌∷◌, ◌++◌}
use native.Mathlib.Omega.{arith}
use lib.Dec.{ltb, eqb}
use lib.ListN.{length}
use lib.Seq.{drop-append_seam}
use borrow.Author.Tests.{le-ltb}
use Rattle.numbers.specs.declared.Read.TheVariants.{Number}
use Rattle.numbers.specs.declared.Signed.TheVariants.{Value}
use Rattle.numbers.specs.Number.{pick, Spelt, got, short, long, low_part, spelt, answer_at, read_unsigned, spelt_signed, minus_of, with_sign, read_signed}
use Rattle.agreement.specs.Longer.{longer, longer_by}

-- ---- what is spelt from i on ends after i

abbrev Beyond : ℕ → Spelt → Type 0
Beyond i (got x e) = i < e
Beyond i short = Unit {0}
Beyond i long = Unit {0}

beyond-after : (w v i j : ℕ) (r : Spelt) → i ≤ j → Beyond j r → Beyond i (low_part w v r)
unfolding low_part
beyond-after w v i j (got x e) l h = omega arith
beyond-after w v i j short l h = tt
beyond-after w v i j long l h = tt

beyond-first : (x : Bool) (i v : ℕ) (r : Spelt) → Beyond i r → Beyond i (pick x (got v (i + 1)) r)
beyond-first true i v r h = omega arith
beyond-first false i v r h = h

beyond : (k i : ℕ) (t : List ℕ) → Beyond i (spelt k i t)
unfolding spelt
beyond zero i t = tt
beyond (suc k) i [] = tt
beyond (suc k) i (b ∷ t) = beyond-first (ltb b 128) i b _ (beyond-after 128 (b - 128) i (i + 1) (spelt k (i + 1) t) (omega arith) (beyond k (i + 1) t))

beyond-signed : (i : ℕ) (t : List ℕ) → Beyond i (spelt_signed i t)
unfolding spelt_signed
beyond-signed i [] = tt
beyond-signed i (b ∷ t) = beyond-first (ltb b 128) i (b % 64) _ (beyond-after 64 (b % 64) i (i + 1) (spelt 8 (i + 1) t) (omega arith) (beyond 8 (i + 1) t))

-- so what ends where its bytes end has a byte
some : (i v : ℕ) (bs : List ℕ) (r : Spelt) → Beyond i r → r ≡ got v (i + length bs) → 0 < length bs
some i v bs r b h = let z : i < i + length bs = subst (Beyond i) h b in omega arith

-- ---- one byte more

-- a first byte b counts f b where it is all, and g b before what is spelt
module _ (w : ℕ) (f g : ℕ → ℕ) (same : (b : ℕ) → g (b + 128) + w * 0 ≡ f b) (k i b v : ℕ) where
  unfoldable led : ℕ → List ℕ → Spelt
  led n t = pick (ltb n 128) (got (f n) (i + 1)) (low_part w (g n) (spelt k (i + 1) t))

  two : (n : ℕ) (q : List ℕ) → 0 < n → low_part w (g (b + 128)) (spelt n (i + 1) (0 ∷ q)) ≡ got (g (b + 128) + w * 0) (i + 1 + 1)
  unfolding spelt low_part
  two zero q l = absurd (omega arith)
  two (suc n) q l = refl

  -- it is all: two stand for it
  last-longer : (q : List ℕ) → 0 < k → led b q ≡ got v (i + 1) → led (b + 128) (0 ∷ q) ≡ got v (i + 1 + 1)
  unfolding led
  last-longer q l h = go (ltb b 128) refl h
    where
      go : (x : Bool) → ltb b 128 ≡ x → pick x (got (f b) (i + 1)) (low_part w (g b) (spelt k (i + 1) q)) ≡ got v (i + 1) → led (b + 128) (0 ∷ q) ≡ got v (i + 1 + 1)
      go true e h =
          let a : f b ≡ v = cc in
          rw (le-ltb (b + 128) 128 (omega arith)) (two k q l ∙ ap (λ (n : ℕ). got n (i + 1 + 1)) (same b ∙ a))
      go false e h =
          let z : i + 1 < i + 1 = subst (Beyond (i + 1)) h (beyond-after w (g b) (i + 1) (i + 1) (spelt k (i + 1) q) (omega arith) (beyond k (i + 1) q)) in
          absurd (omega arith)

  -- it says more, before what is spelt longer
  more-longer : (e : ℕ) (t t' : List ℕ) → i + 1 < e → ((y : ℕ) → spelt k (i + 1) t ≡ got y e → spelt k (i + 1) t' ≡ got y (e + 1))
      → led b t ≡ got v e → led b t' ≡ got v (e + 1)
  unfolding led low_part
  more-longer e t t' l more h = go (ltb b 128) h
    where
      onto : (r : Spelt) → ((y : ℕ) → r ≡ got y e → spelt k (i + 1) t' ≡ got y (e + 1)) → low_part w (g b) r ≡ got v e
          → low_part w (g b) (spelt k (i + 1) t') ≡ got v (e + 1)
      onto (got y n) more h =
          let a : n ≡ e = cc in
          let c : g b + w * y ≡ v = cc in
          ap (low_part w (g b)) (more y (ap (got y) a)) ∙ ap (λ (n : ℕ). got n (e + 1)) c
      onto short more h = absurd (let z : ◌≡◌ {A = ℕ} 0 1 = cc in omega arith)
      onto long more h = absurd (let z : ◌≡◌ {A = ℕ} 0 1 = cc in omega arith)

      go : (x : Bool) → pick x (got (f b) (i + 1)) (low_part w (g b) (spelt k (i + 1) t)) ≡ got v e
          → pick x (got (f b) (i + 1)) (low_part w (g b) (spelt k (i + 1) t')) ≡ got v (e + 1)
      go true h = absurd (let a : i + 1 ≡ e = cc in omega arith)
      go false h = onto (spelt k (i + 1) t) more h

-- r spells bytes from i on, at most k: where they are all, a byte more spells the same
abbrev Lengthens : ℕ → ℕ → List ℕ → (List ℕ → Spelt) → Type 0
Lengthens i k q r = (bs : List ℕ) (v e : ℕ) → 0 < length bs → length bs < k → e ≡ i + length bs → r (bs ++ q) ≡ got v e → r (longer bs ++ q) ≡ got v (e + 1)

spelt-longer : (q : List ℕ) (k i : ℕ) → Lengthens i k q (spelt k i)
unfolding longer spelt led
spelt-longer q k i [] v e s l n h = absurd (omega arith)
spelt-longer q zero i (b ∷ bs) v e s l n h = absurd (omega arith)
spelt-longer q (suc k) i (b ∷ []) v e s l n h =
    let a : e ≡ i + 1 = omega arith in
    rw a (last-longer 128 (λ n. n) (λ n. n - 128) (λ n. omega arith) k i b v q (omega arith) (rw a at h))
spelt-longer q (suc k) i (b ∷ c ∷ bs) v e s l n h =
    more-longer 128 (λ n. n) (λ n. n - 128) (λ n. omega arith) k i b v e ((c ∷ bs) ++ q) (longer (c ∷ bs) ++ q) (omega arith)
    (λ y. spelt-longer q k (i + 1) (c ∷ bs) y e (omega arith) (omega arith) (omega arith)) h

-- a signed number: its first byte has the sign and six bits
signed-longer : (q : List ℕ) (i : ℕ) → Lengthens i 9 q (spelt_signed i)
unfolding longer spelt_signed led
signed-longer q i [] v e s l n h = absurd (omega arith)
signed-longer q i (b ∷ []) v e s l n h =
    let a : e ≡ i + 1 = omega arith in
    rw a (last-longer 64 (λ n. n % 64) (λ n. n % 64) (λ n. omega arith) 8 i b v q (omega arith) (rw a at h))
signed-longer q i (b ∷ c ∷ bs) v e s l n h =
    more-longer 64 (λ n. n % 64) (λ n. n % 64) (λ n. omega arith) 8 i b v e ((c ∷ bs) ++ q) (longer (c ∷ bs) ++ q) (omega arith)
    (λ y. spelt-longer q 8 (i + 1) (c ∷ bs) y e (omega arith) (omega arith) (omega arith)) h

minus-longer : (j : ℕ) (bs q : List ℕ) → minus_of (longer_by j bs ++ q) ≡ minus_of (bs ++ q)
unfolding longer_by longer minus_of
minus-longer zero bs q = refl
minus-longer (suc j) bs q = one (longer_by j bs) ∙ minus-longer j bs q
  where
    one : (bs : List ℕ) → minus_of (longer bs ++ q) ≡ minus_of (bs ++ q)
    one [] = refl
    one (b ∷ []) = let s : (b + 128) / 64 % 2 ≡ b / 64 % 2 = omega arith in ap (λ (n : ℕ). eqb n 1) s
    one (b ∷ c ∷ bs) = refl

-- ---- any number of bytes more

length-longer : (bs : List ℕ) → 0 < length bs → length (longer bs) ≡ suc (length bs)
unfolding longer
length-longer [] h = absurd (omega arith)
length-longer (b ∷ []) h = refl
length-longer (b ∷ c ∷ bs) h = ap suc (length-longer (c ∷ bs) (omega arith))

record Lengthened (i j v : ℕ) (bs : List ℕ) (more : List ℕ) (r : Spelt) : Type 0 where
  size : length more ≡ length bs + j
  same : r ≡ got v (i + length bs + j)

module _ (i k v : ℕ) (q bs : List ℕ) (r : List ℕ → Spelt) (law : Lengthens i k q r) (s : 0 < length bs) (h : r (bs ++ q) ≡ got v (i + length bs)) where
  longer-by : (j : ℕ) → length bs + j ≤ k → Lengthened i j v bs (longer_by j bs) (r (longer_by j bs ++ q))
  unfolding longer_by
  longer-by zero l = record { size = omega arith; same = h ∙ ap (got v) (omega arith) }
  longer-by (suc j) l =
      let m = longer-by j (omega arith) in
      record {
        size = omega (arith, m.size, length-longer (longer_by j bs) (omega (arith, m.size)));
        same = law (longer_by j bs) v (i + length bs + j) (omega (arith, m.size)) (omega (arith, m.size)) (omega (arith, m.size)) m.same ∙ ap (got v) (omega arith);
      }

-- ---- numbers read

placed-got : (s : List ℕ) (at : ℕ) (x : Spelt) (v e : ℕ) → answer_at s at x ≡ Number v e → x ≡ got v e
unfolding answer_at
placed-got s at (got y f) v e h = cc
placed-got s at short v e h = absurd (let z : ◌≡◌ {A = ℕ} 0 1 = cc in omega arith)
placed-got s at long v e h = absurd (let z : ◌≡◌ {A = ℕ} 0 1 = cc in omega arith)

-- bytes bs spell v, after any a and before any q: so they do with j bytes more, up to nine in all
module _ (j : ℕ) (a bs q : List ℕ) (v : ℕ) (l : length bs + j ≤ 9) where
  pub longer-by-unsigned : read_unsigned (a ++ (bs ++ q)) (length a) ≡ Number v (length a + length bs)
      → read_unsigned (a ++ (longer_by j bs ++ q)) (length a) ≡ Number v (length a + length bs + j)
  unfolding read_unsigned answer_at
  longer-by-unsigned h =
      let e : spelt 9 (length a) (bs ++ q) ≡ got v (length a + length bs)
      = placed-got (a ++ (bs ++ q)) (length a) _ v _ (rw (drop-append_seam a (bs ++ q)) at h) in
      rw (
        drop-append_seam a (longer_by j bs ++ q),
        (longer-by (length a) 9 v q bs (spelt 9 (length a)) (spelt-longer q 9 (length a)) (some (length a) v bs _ (beyond 9 (length a) (bs ++ q)) e) e j l).same,
      )

  with_value : (m n : Bool) (s : List ℕ) (at : ℕ) (x : Spelt) (e : ℕ) → with_sign m (answer_at s at x) ≡ Value n v e → (m ≡ n) × (x ≡ got v e)
  unfolding with_sign answer_at
  with_value m n s at (got y f) e h = (cc, cc)
  with_value m n s at short e h = absurd (let z : ◌≡◌ {A = ℕ} 0 1 = cc in omega arith)
  with_value m n s at long e h = absurd (let z : ◌≡◌ {A = ℕ} 0 1 = cc in omega arith)

  pub longer-by-signed : (m : Bool) → read_signed (a ++ (bs ++ q)) (length a) ≡ Value m v (length a + length bs)
      → read_signed (a ++ (longer_by j bs ++ q)) (length a) ≡ Value m v (length a + length bs + j)
  unfolding read_signed with_sign answer_at
  longer-by-signed m h =
      let e = with_value (minus_of (bs ++ q)) m (a ++ (bs ++ q)) (length a) (spelt_signed (length a) (bs ++ q)) _ (rw (drop-append_seam a (bs ++ q)) at h) in
      rw (
        drop-append_seam a (longer_by j bs ++ q),
        minus-longer j bs q,
        (longer-by (length a) 9 v q bs (spelt_signed (length a)) (signed-longer q (length a)) (some (length a) v bs _ (beyond-signed (length a) (bs ++ q)) e.1) e.1 j l).same,
        e.0,
      )
