-- The laws of numbers read run by run: that of more that were put the first n stand there too, and that the values of a run under way are drawn one after the other.
use Prim.Native.Nat.{ℕ, zero, suc, ◌+◌, ◌-◌, ◌*◌, ◌≤◌, ◌<◌}
use mathlib.Core.Path.{◌≡◌, refl, sym, ap, subst, ◌∙◌}
use mathlib.Core.Bool.{Bool, true, false}
use mathlib.Core.List.{List, [], ◌∷◌, ◌++◌}
use native.Mathlib.Nat.{add-zero, zero-add, suc-add, sub-zero}
use native.Mathlib.Omega.{arith}
use lib.Dec.{ltb, lit<}
use lib.ListN.{length, take, get_or, replicate, length-replicate, replicate-append-replicate}
use lib.Seq.{length-take-le, take-append-add, take_at, take-take}
use borrow.Author.Tests.{lt-ltb, le-ltb, ltb-false}
use Rattle.numbers.specs.declared.Read.{Read}
use Rattle.numbers.specs.declared.Read.TheVariants as read
use Rattle.numbers.specs.declared.Signed.{Signed}
use Rattle.numbers.specs.declared.Signed.TheVariants as signed
use Rattle.numbers.specs.Number.{pick, answer_at, read_unsigned, read_signed}
use Rattle.numbers.specs.Limits.{max_value, max_count}
use Rattle.numbers.proofs.Laws.{at_last}
use Rattle.columns.specs.declared.number.Place.{Place}
use Rattle.columns.specs.declared.number.Answer.{Answer}
use Rattle.columns.specs.declared.number.Answer.TheVariants.{Next, Bad}
use Rattle.columns.specs.Number.{place_at, refuse, drawn, counted, begun, next_number}
use Rattle.bulk.specs.Bulk.{drew, number_draw, draw_numbers}
use Rattle.bulk.proofs.Drawing.{before, ReadTo, one_more, read-many}

-- ---- the value v from `at` on, in what was e

module _ (e : List ℕ) (at v : ℕ) where
  -- where more were put, the first n stand there too
  pub fill-fewer : (out : List ℕ) (n m : ℕ) → n ≤ m → at ≤ length e → take (at + m) out ≡ take at e ++ replicate m v
      → take (at + n) out ≡ take at e ++ replicate n v
  fill-fewer out n m l f h =
      sym (take-take (at + n) (at + m) out (omega arith)) ∙ ap (take (at + n)) h ∙ front
      ∙ ap (λ (t : List ℕ). take at e ++ t) (ap (take n) (ap (λ (k : ℕ). replicate k v) whole ∙ sym (replicate-append-replicate n (m - n) v)) ∙ take_at (replicate n v) (replicate (m - n) v) n (length-replicate n v))
    where
      whole : m ≡ n + (m - n)
      whole = omega arith

      front : take (at + n) (take at e ++ replicate m v) ≡ take at e ++ take n (replicate m v)
      front = ap (λ (k : ℕ). take (k + n) (take at e ++ replicate m v)) (sym (length-take-le at e f)) ∙ take-append-add (take at e) (replicate m v) n

-- ---- a value that is drawn is its run's, and within the limit

unfoldable Fair : Answer → Type 0
Fair (Next v d) = (d.last ≡ v) × (v ≤ max_value)
Fair (Bad why) = Unit {0}

drawn-fair : (c : Place) → Fair (drawn c)
unfolding drawn Fair
drawn-fair c = go (ltb max_value c.last) refl
  where
    go : (t : Bool) → ltb max_value c.last ≡ t → Fair (pick t (refuse 3 c.from) (Next c.last (place_at c.at c.from c.last (c.count - 1))))
    go true e = tt
    go false e = (refl, ltb-false max_value c.last e)

counted-fair : (from x e : ℕ) (r : Read) → Fair (counted from x e r)
unfolding counted Fair
counted-fair from x e (read.Refused why) = tt
counted-fair from x e (read.Number c f) = go (ltb max_count c)
  where
    go : (t : Bool) → Fair (pick t (refuse 3 e) (drawn (place_at f from x (c + 2))))
    go true = tt
    go false = drawn-fair _

begun-fair : (s : List ℕ) (at : ℕ) (r : Signed) → Fair (begun s at r)
unfolding begun Fair
begun-fair s at (signed.Wrong why) = tt
begun-fair s at (signed.Value true x e) = counted-fair at x e (read_unsigned s e)
begun-fair s at (signed.Value false x e) = drawn-fair _

next-fair : (s : List ℕ) (c : Place) → Fair (next_number s c)
unfolding next_number
next-fair s c = go (ltb 0 c.count)
  where
    go : (t : Bool) → Fair (pick t (drawn c) (begun s c.at (read_signed s c.at)))
    go true = drawn-fair c
    go false = begun-fair s c.at (read_signed s c.at)

pub drew-fair : (s : List ℕ) (c : Place) (v : ℕ) (d : Place) → next_number s c ≡ Next v d → (d.last ≡ v) × (v ≤ max_value)
unfolding Fair
drew-fair s c v d e = subst Fair e (next-fair s c)

-- ---- the values of the run under way

module _ (s : List ℕ) (at from x : ℕ) (l : x ≤ max_value) where
  pub run_on : (n : ℕ) → 0 < n → next_number s (place_at at from x n) ≡ Next x (place_at at from x (n - 1))
  unfolding next_number drawn
  run_on n h = rw (lt-ltb 0 n h, le-ltb max_value x l)

  draw-on : (n : ℕ) → 0 < n → number_draw (next_number s (place_at at from x n)) ≡ drew x (place_at at from x (n - 1))
  unfolding number_draw
  draw-on n h = rw (run_on n h)

  pub run-draws : (m k n : ℕ) → m ≤ n
      → draw_numbers (m + k) s (place_at at from x n) ≡ before (replicate m x) (draw_numbers k s (place_at at from x (n - m)))
  run-draws zero k n h = rw (zero-add, sub-zero)
  run-draws (suc m) k n h =
      ap (λ (j : ℕ). draw_numbers j s (place_at at from x n)) (suc-add m k)
      ∙ one_more (λ d. number_draw (next_number s d)) (m + k) (place_at at from x n) (place_at at from x (n - 1)) x (draw-on n (omega arith))
      ∙ ap (before (x ∷ [])) (run-draws m k (n - 1) (omega arith))
      ∙ ap (λ (j : ℕ). before (replicate (suc m) x) (draw_numbers k s (place_at at from x j))) less
    where
      less : n - 1 - m ≡ n - suc m
      less = omega arith

abbrev pub itself : List ℕ → List ℕ
itself vs = vs

-- ---- a value is drawn, and with it those of its run that have room, m in all

-- the place that they leave
abbrev pub left : Place → ℕ → Place
left d m = place_at d.at d.from d.last (d.count - (m - 1))

module _ (s : List ℕ) (n : ℕ) (c₀ : Place) (out : List ℕ) (i : ℕ) (c : Place)
    (h : ReadTo (λ d. number_draw (next_number s d)) itself n n c₀ out i i c)
    (v : ℕ) (d : Place) (e : next_number s c ≡ Next v d) (m : ℕ) (some : 1 ≤ m) (room : i + m ≤ n) (few : m ≤ d.count + 1) where
  first : number_draw (next_number s c) ≡ drew v d
  unfolding number_draw
  first = rw e

  run-drawn : draw_numbers (n - i) s c ≡ before (replicate m v) (draw_numbers (n - (i + m)) s (left d m))
  run-drawn =
      let k = n - (i + m) in
      let w = drew-fair s c v d e in
      ap (λ (j : ℕ). draw_numbers j s c) count ∙ one_more (λ x. number_draw (next_number s x)) (m - 1 + k) c d v first
      ∙ ap (before (v ∷ [])) (run-draws s d.at d.from d.last (omega (arith, w.0, w.1)) (m - 1) k d.count (omega arith))
      ∙ ap (λ (x : ℕ). before (v ∷ []) (before (replicate (m - 1) x) (draw_numbers k s (left d m)))) w.0
      ∙ ap (λ (j : ℕ). before (replicate j v) (draw_numbers k s (left d m))) whole
    where
      count : n - i ≡ suc (m - 1 + (n - (i + m)))
      count = omega arith

      whole : suc (m - 1) ≡ m
      whole = omega arith

  pub read-run : (out' : List ℕ) → length out' ≡ n → take (i + m) out' ≡ take i out ++ replicate m v
      → ReadTo (λ x. number_draw (next_number s x)) itself n n c₀ out' (i + m) (i + m) (left d m)
  read-run out' size put =
      subst (λ (j : ℕ). ReadTo (λ x. number_draw (next_number s x)) itself n n c₀ out' (i + m) (i + j) (left d m)) (length-replicate m v)
      (read-many h (replicate m v) (left d m) out' (i + m) (ap (λ (w : List ℕ). w ++ replicate m v) h.said ∙ sym put) size room
      (omega (arith, length-replicate m v))
      (run-drawn ∙ ap (λ (j : ℕ). before (replicate m v) (draw_numbers (n - (i + j)) s (left d m))) (sym (length-replicate m v))))

-- ---- a run whose count has one byte, or that has none

pub short-run : (s : List ℕ) (from : ℕ) (t : Bool) (x e : ℕ) → e < length s → pick t 1 0 * get_or s e 0 < 128
    → begun s from (signed.Value t x e) ≡ drawn (place_at (e + pick t 1 0) from x (1 + pick t 1 0 + pick t 1 0 * get_or s e 0))
unfolding begun counted read_unsigned answer_at
short-run s from true x e l h =
    let b : get_or s e 0 < 128 = omega arith in
    rw (at_last s 9 e (lit< tt) (omega arith) b, le-ltb max_count (get_or s e 0) (omega arith)) (ap (λ (n : ℕ). drawn (place_at (e + 1) from x n)) (omega arith))
short-run s from false x e l h = rw add-zero (ap (λ (n : ℕ). drawn (place_at e from x n)) (omega arith))
