-- Ranges in normal form hold an id exactly where halving finds one that does.
use Prim.Native.Nat.{ℕ, zero, suc, ◌+◌, ◌≤◌, ◌<◌}
use mathlib.Core.Path.{◌≡◌, refl, sym, ap, subst, ◌∙◌}
use mathlib.Core.Bool.{Bool, true, false}
use mathlib.Core.List.{List, [], ◌∷◌}
use mathlib.Core.Logic.{◌⊎◌, inl, inr}
use native.Mathlib.Omega.{arith}
use lib.Dec.{ltb, leb, eqb}
use lib.ListN.{length, get_or}
use borrow.Author.Tests.{ltb-true, ltb-false, lt-ltb, le-ltb, leb-true, leb-false, le-leb, eqb-true, eq-eqb}
use Rattle.numbers.specs.Number.{pick}
use Rattle.block.specs.declared.Id.{Id}
use Rattle.ranges.specs.Ranges.{Range}
use Rattle.ranges.specs.RangesInner.{Hit, Deleted, Apart, Normal}
use Rattle.ranges.specs.TableInner.{row, rows_from}
use Rattle.ranges.proofs.Theory.{After, after}
use Rattle.sorting.specs.Held.{held_in}
use Rattle.sorting.proofs.Held.{ranges-hold}
use Rattle.sorting.proofs.Outcome.{below_or}
use Rattle.placing.specs.Halving.{found}
use Rattle.placing.specs.Placing.{is_before, begins, is_held}
use Rattle.placing.proofs.Borders.{Border, found-borders}

module _ (d : Id) where
  abbrev Hits : Range → Type 0
  Hits r = Hit r d.client d.clock

  -- the id comes at or behind the end of r
  abbrev Past : Range → Type 0
  Past r = (d.client < r.client) ⊎ ((d.client ≡ r.client) × (r.clock + r.len ≤ d.clock))

  before-past : (r : Range) → is_before r d ≡ true → Past r
  unfolding is_before
  before-past r e = go (ltb d.client r.client) refl (ltb r.client d.client) refl e
    where
      go : (x : Bool) → ltb d.client r.client ≡ x → (y : Bool) → ltb r.client d.client ≡ y
          → pick x true (pick y false (leb (r.clock + r.len) d.clock)) ≡ true → Past r
      go true p y q h = inl (ltb-true d.client r.client p)
      go false p true q h = absurd (let z : ◌≡◌ {A = ℕ} 0 1 = cc in omega arith)
      go false p false q h = inr (
        omega (arith, ltb-false d.client r.client p, ltb-false r.client d.client q),
        leb-true (r.clock + r.len) d.clock h,
      )

  -- the id comes before the end of r, if r is its client's
  abbrev Ahead : Range → Type 0
  Ahead r = (r.client < d.client) ⊎ ((d.client ≡ r.client) × (d.clock < r.clock + r.len))

  before-not : (r : Range) → is_before r d ≡ false → Ahead r
  unfolding is_before
  before-not r e = go (ltb d.client r.client) refl (ltb r.client d.client) refl e
    where
      go : (x : Bool) → ltb d.client r.client ≡ x → (y : Bool) → ltb r.client d.client ≡ y
          → pick x true (pick y false (leb (r.clock + r.len) d.clock)) ≡ false → Ahead r
      go true p y q h = absurd (let z : ◌≡◌ {A = ℕ} 0 1 = cc in omega arith)
      go false p true q h = inl (ltb-true r.client d.client q)
      go false p false q h = inr (
        omega (arith, ltb-false d.client r.client p, ltb-false r.client d.client q),
        leb-false (r.clock + r.len) d.clock h,
      )

  no-hit-past : (r : Range) → Past r → Hits r → ⊥
  no-hit-past r (inl h) g = omega (arith, g.of)
  no-hit-past r (inr h) g = omega (arith, g.below)

  -- an id that comes before the end of one range is in no later one, and one that comes behind another is in no earlier one
  abbrev at : List Range → ℕ → Range
  at rs i = get_or rs i (record { client = 0; clock = 0; len = 0 })

  later-none : (r : Range) (rs : List Range) → Normal (r ∷ rs) → Ahead r → Deleted rs d.client d.clock → ⊥
  later-none r rs n (inl h) g = go (after r rs n.1 n.2 d.client d.clock g)
    where
      go : After r d.client d.clock → ⊥
      go (inl q) = omega arith
      go (inr q) = omega (arith, q.0)
  later-none r rs n (inr h) g = go (after r rs n.1 n.2 d.client d.clock g)
    where
      go : After r d.client d.clock → ⊥
      go (inl q) = omega (arith, h.0)
      go (inr q) = omega (arith, h.1, q.1)

  -- past one range, past all before it
  past-earlier : (r q : Range) → 0 < q.len → Apart r q → Past q → Past r
  past-earlier r q l (inl a) (inl h) = inl (omega arith)
  past-earlier r q l (inl a) (inr h) = inl (omega (arith, h.0))
  past-earlier r q l (inr a) (inl h) = inl (omega (arith, a.0))
  past-earlier r q l (inr a) (inr h) = inr (omega (arith, a.0, h.0), omega (arith, a.1, h.1))

  -- the id lies in these ranges exactly if range k does hold it, those before being past and it not
  pub record Stands (rs : List Range) (k : ℕ) : Type 0 where
    pub upto : k ≤ length rs
    pub before : (i : ℕ) → suc i ≡ k → Past (at rs i)
    pub after : k < length rs → Ahead (at rs k)

  past_first : (r : Range) (rs : List Range) → Normal (r ∷ rs) → (i : ℕ) → i < length (r ∷ rs) → Past (at (r ∷ rs) i) → Past r
  past_first r rs n zero l h = h
  past_first r [] n (suc i) l h = absurd (omega arith)
  past_first r (q ∷ qs) n (suc i) l h = past-earlier r q n.2.0 n.1 (past_first q qs n.2 i (omega arith) h)

  hit-at : (rs : List Range) → Normal rs → (k : ℕ) → Stands rs k → Deleted rs d.client d.clock → (k < length rs) × Hits (at rs k)
  hit-at [] n k s g = absurd g
  hit-at (r ∷ rs) n zero s (inl g) = (omega arith, g)
  hit-at (r ∷ rs) n zero s (inr g) = absurd (later-none r rs n (s.after (omega arith)) g)
  hit-at (r ∷ rs) n (suc k) s (inl g) = absurd (no-hit-past r (past_first r rs n k (omega (arith, s.upto)) (s.before k refl)) g)
  hit-at (r ∷ rs) n (suc k) s (inr g) =
      let w = hit-at rs n.2 k (record {
        upto = omega (arith, s.upto);
        before = λ i e. s.before (suc i) (ap suc e);
        after = λ l. s.after (omega arith);
      }) g in
      (omega (arith, w.0), w.1)

  at-hit : (rs : List Range) (k : ℕ) → k < length rs → Hits (at rs k) → Deleted rs d.client d.clock
  at-hit [] k l g = absurd (omega arith)
  at-hit (r ∷ rs) zero l g = inl g
  at-hit (r ∷ rs) (suc k) l g = inr (at-hit rs k (omega arith) g)

-- ---- ranges in words

rows-from-length : (w : List ℕ) (i n : ℕ) → length (rows_from w i n) ≡ n
unfolding rows_from
rows-from-length w i zero = refl
rows-from-length w i (suc n) = ap suc (rows-from-length w (suc i) n)

rows-from-at : (w : List ℕ) (i n k : ℕ) → k < n → get_or (rows_from w i n) k (record { client = 0; clock = 0; len = 0 }) ≡ row w (i + k)
unfolding rows_from
rows-from-at w i zero k l = absurd (omega arith)
rows-from-at w i (suc n) zero l = let e : i + 0 ≡ i = omega arith in rw e refl
rows-from-at w i (suc n) (suc k) l = let e : i + suc k ≡ suc i + k = omega arith in rw e (rows-from-at w (suc i) n k (omega arith))

module _ (w : List ℕ) (n : ℕ) (normal : Normal (rows_from w 0 n)) (d : Id) where
  abbrev past : ℕ → Bool
  past i = is_before (row w i) d

  abbrev k : ℕ
  k = found past 0 n

  bounds : Border past 0 n k
  bounds = found-borders past 0 n (omega arith)

  is_row : (i : ℕ) → i < n → at d (rows_from w 0 n) i ≡ row w i
  is_row i l = rows-from-at w 0 n i l ∙ ap (row w) (let e : 0 + i ≡ i = omega arith in e)

  stands : Stands d (rows_from w 0 n) k
  stands = record {
    upto = omega (arith, bounds.upto, rows-from-length w 0 n);
    before = λ i e. rw (is_row i (omega (arith, bounds.upto))) (before-past d (row w i) (bounds.before i (omega arith) e));
    after = λ l. let m : k < n = omega (arith, rows-from-length w 0 n) in rw (is_row k m) (before-not d (row w k) (bounds.after m));
  }

  -- the range that is found holds the id exactly if it begins at or below it
  begins-hit : k < n → begins w n k d ≡ true → Hits d (row w k)
  unfolding begins
  begins-hit l e = go (eqb (row w k).client d.client) refl (rw (lt-ltb k n l) at e) (before-not d (row w k) (bounds.after l))
    where
      go : (x : Bool) → eqb (row w k).client d.client ≡ x → pick x (leb (row w k).clock d.clock) false ≡ true → Ahead d (row w k) → Hits d (row w k)
      go true p h (inl a) = absurd (omega (arith, eqb-true (row w k).client d.client p))
      go true p h (inr a) = record { of = eqb-true (row w k).client d.client p; from = leb-true (row w k).clock d.clock h; below = a.1 }
      go false p h a = absurd (let z : ◌≡◌ {A = ℕ} 0 1 = cc in omega arith)

  hit-begins : k < n → Hits d (row w k) → begins w n k d ≡ true
  unfolding begins
  hit-begins l g = rw (lt-ltb k n l, eq-eqb (row w k).client d.client g.of) (le-leb (row w k).clock d.clock g.from)

  out-begins : n ≤ k → begins w n k d ≡ false
  unfolding begins
  out-begins l = rw (le-ltb k n l) refl

  both_ways : (x y : Bool) → (x ≡ true → y ≡ true) → (y ≡ true → x ≡ true) → x ≡ y
  both_ways true true f g = refl
  both_ways true false f g = sym (f refl)
  both_ways false true f g = g refl
  both_ways false false f g = refl

  to : begins w n k d ≡ true → ltb 0 (held_in (rows_from w 0 n) d) ≡ true
  to e = go (below_or k n)
    where
      go : (k < n) ⊎ (n ≤ k) → ltb 0 (held_in (rows_from w 0 n) d) ≡ true
      go (inl l) = lt-ltb 0 (held_in (rows_from w 0 n) d) ((ranges-hold (rows_from w 0 n) d).1
          (at-hit d (rows_from w 0 n) k (omega (arith, rows-from-length w 0 n)) (rw (is_row k l) (begins-hit l e))))
      go (inr l) = absurd (let q = out-begins l in let z : ◌≡◌ {A = ℕ} 0 1 = cc in omega arith)

  fro : ltb 0 (held_in (rows_from w 0 n) d) ≡ true → begins w n k d ≡ true
  fro e =
      let h = hit-at d (rows_from w 0 n) normal k stands ((ranges-hold (rows_from w 0 n) d).0 (ltb-true 0 (held_in (rows_from w 0 n) d) e)) in
      let l : k < n = omega (arith, h.0, rows-from-length w 0 n) in
      hit-begins l (subst (Hits d) (is_row k l) h.1)

  pub held-is : is_held w n d ≡ ltb 0 (held_in (rows_from w 0 n) d)
  unfolding is_held
  held-is = both_ways (begins w n k d) (ltb 0 (held_in (rows_from w 0 n) d)) to fro
