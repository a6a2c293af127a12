-- In a chain each row begins where the one before it ends; so the row that halving finds is known from any row that tells.
use Prim.Native.Nat.{ℕ, zero, suc, ◌+◌, ◌-◌, ◌≤◌, ◌<◌}
use mathlib.Core.Path.{◌≡◌, refl, sym, ap, subst, ◌∙◌}
use mathlib.Core.Logic.{◌≢◌, ◌⊎◌, inl, inr}
use mathlib.Core.Bool.{Bool, true, false}
use mathlib.Core.List.{List}
use native.Mathlib.Omega.{arith}
use lib.Dec.{ltb, eqb}
use lib.ListN.{length, get_or}
use borrow.Author.Tests.{lt-ltb, le-ltb, ltb-true, ltb-false, leb-true, leb-false, ne_eqb, eqb-true, eqb-false}
use Rattle.numbers.specs.Number.{pick}
use Rattle.numbers.specs.Limits.{max_clock}
use Rattle.block.specs.declared.Block.{Block}
use Rattle.block.specs.Row.{no_block}
use Rattle.chaining.specs.declared.Chain.{Chain}
use Rattle.placing.specs.declared.Span.{Span}
use Rattle.placing.specs.Halving.{clipped, found}
use Rattle.placing.specs.Placing.{past_row, sought, number_at, held_by, capped}
use Rattle.placing.proofs.Borders.{Border, found-borders}
use Rattle.numbers.proofs.Laws.{below_or}
use Rattle.chaining.specs.Chaining.{no_chain, unlinked, skipped, linked, chain_from, chain_of}
use Rattle.chaining.proofs.Ways.{link-off, link-long, link-skip, link_on}

-- ---- one row

-- a row more of a chain
pub record Linked (c : Chain) (b : Block) : Type 0 where
  pub here : c.end ≡ b.clock + 1
  pub end : (linked c b).end ≡ c.end + b.length.0
  pub down : (linked c b).clear ≤ c.clear
  pub skip : b.kind ≡ 2 → ((linked c b).clear ≤ b.clock + 1) × ((linked c b).resume ≡ b.clock + b.length.0)
  pub item : b.kind ≢ 2 → (linked c b).resume ≡ c.resume

link-none : (b : Block) → linked no_chain b ≡ no_chain
link-none b = sym (link-off no_chain b (λ e. omega arith))

skip-clear : (c : Chain) (clock end : ℕ) → ((skipped c clock end).clear ≤ c.clear) × ((skipped c clock end).clear ≤ clock + 1)
unfolding skipped
skip-clear c clock end = go (ltb (clock + 1) c.clear) refl
  where
    go : (x : Bool) → ltb (clock + 1) c.clear ≡ x → (pick x (clock + 1) c.clear ≤ c.clear) × (pick x (clock + 1) c.clear ≤ clock + 1)
    go true e = let l = ltb-true (clock + 1) c.clear e in (omega arith, omega arith)
    go false e = let l = ltb-false (clock + 1) c.clear e in (omega arith, omega arith)

skip-parts : (c : Chain) (clock end : ℕ) → ((skipped c clock end).end ≡ end) × ((skipped c clock end).resume ≡ end - 1)
unfolding skipped
skip-parts c clock end = (refl, refl)

link-some : (c : Chain) (b : Block) → (linked c b).clear ≢ 0 → Linked c b
link-some c b ne = go (eqb c.end (b.clock + 1)) refl (ltb max_clock b.length.0) refl (eqb b.kind 2) refl
  where
    none : linked c b ≡ no_chain → Linked c b
    none e = absurd (ne (ap (λ (d : Chain). d.clear) e))

    go : (x : Bool) → eqb c.end (b.clock + 1) ≡ x → (y : Bool) → ltb max_clock b.length.0 ≡ y → (z : Bool) → eqb b.kind 2 ≡ z → Linked c b
    go false e y f z g = none (sym (link-off c b (eqb-false c.end (b.clock + 1) e)))
    go true e true f z g = none (sym (link-long c b (eqb-true c.end (b.clock + 1) e) (ltb-true max_clock b.length.0 f)))
    go true e false f true g =
        let h = eqb-true c.end (b.clock + 1) e in
        let k = eqb-true b.kind 2 g in
        let s = link-skip c b h (ltb-false max_clock b.length.0 f) k in
        let p = skip-parts c b.clock (c.end + b.length.0) in
        let q = skip-clear c b.clock (c.end + b.length.0) in
        record {
          here = h;
          end = ap (λ (d : Chain). d.end) (sym s) ∙ p.0;
          down = subst (λ (d : Chain). d.clear ≤ c.clear) s q.0;
          skip = λ _. (
            subst (λ (d : Chain). d.clear ≤ b.clock + 1) s q.1,
            (let r : (linked c b).resume ≡ (c.end + b.length.0) - 1 = ap (λ (d : Chain). d.resume) (sym s) ∙ p.1 in omega (arith, r, h)),
          );
          item = λ n. absurd (n k);
        }
    go true e false f false g =
        let h = eqb-true c.end (b.clock + 1) e in
        let k = eqb-false b.kind 2 g in
        let s = link_on c b h (ltb-false max_clock b.length.0 f) k in
        record {
          here = h;
          end = ap (λ (d : Chain). d.end) (sym s);
          down = let r : (linked c b).clear ≡ c.clear = ap (λ (d : Chain). d.clear) (sym s) in omega (arith, r);
          skip = λ e. absurd (k e);
          item = λ _. ap (λ (d : Chain). d.resume) (sym s);
        }

link-down : (c : Chain) (b : Block) → (linked c b).clear ≤ c.clear
link-down c b = go (eqb (linked c b).clear 0) refl
  where
    go : (x : Bool) → eqb (linked c b).clear 0 ≡ x → (linked c b).clear ≤ c.clear
    go true e = omega (arith, eqb-true (linked c b).clear 0 e)
    go false e = (link-some c b (eqb-false (linked c b).clear 0 e)).down

-- ---- m rows from row i on

module _ (rows : List Block) where
  abbrev pub at : ℕ → Block
  at i = get_or rows i no_block

  abbrev pub from : ℕ → ℕ
  from i = (at i).clock

  abbrev pub end : ℕ → ℕ
  end i = (at i).clock + (at i).length.0

  broken : (m i : ℕ) → chain_from rows i m no_chain ≡ no_chain
  unfolding chain_from
  broken zero i = refl
  broken (suc m) i = rw (link-none (at i)) (broken m (i + 1))

  -- they go on with a chain that has come to no lower a clock than its last Skip
  pub record Chained (i m : ℕ) (c : Chain) : Type 0 where
    pub some : (chain_from rows i m c).clear ≢ 0
    pub fit : c.resume + 1 ≤ c.end

  abbrev step : ℕ → Chain → Chain
  step i c = linked c (at i)

  rest : (i m : ℕ) (c : Chain) → chain_from rows i (suc m) c ≡ chain_from rows (i + 1) m (step i c)
  unfolding chain_from
  rest i m c = refl

  down : (m i : ℕ) (c : Chain) → (chain_from rows i m c).clear ≤ c.clear
  unfolding chain_from
  down zero i c = omega arith
  down (suc m) i c = omega (arith, down m (i + 1) (step i c), link-down c (at i))

  row : (i m : ℕ) (c : Chain) → Chained i (suc m) c → Linked c (at i)
  row i m c ok = link-some c (at i) (λ e. ok.some (omega (arith, e, down m (i + 1) (step i c), ap (λ (d : Chain). d.clear) (rest i m c))))

  tail : (i m : ℕ) (c : Chain) → Chained i (suc m) c → Chained (i + 1) m (step i c)
  tail i m c ok = record { some = λ e. ok.some (ap (λ (d : Chain). d.clear) (rest i m c) ∙ e); fit = go (eqb (at i).kind 2) refl }
    where
      f : Linked c (at i)
      f = row i m c ok

      go : (x : Bool) → eqb (at i).kind 2 ≡ x → (step i c).resume + 1 ≤ (step i c).end
      go true e = omega (arith, (f.skip (eqb-true (at i).kind 2 e)).1, f.end, f.here)
      go false e = omega (arith, f.item (eqb-false (at i).kind 2 e), f.end, ok.fit)

  up : (m i : ℕ) (c : Chain) → Chained i m c → c.end ≤ (chain_from rows i m c).end
  unfolding chain_from
  up zero i c ok = omega arith
  up (suc m) i c ok = omega (arith, (row i m c ok).end, up m (i + 1) (step i c) (tail i m c ok))

  behind : (m i : ℕ) (c : Chain) → Chained i m c → c.resume ≤ (chain_from rows i m c).resume
  unfolding chain_from
  behind zero i c ok = omega arith
  behind (suc m) i c ok = go (eqb (at i).kind 2) refl (behind m (i + 1) (step i c) (tail i m c ok))
    where
      f : Linked c (at i)
      f = row i m c ok

      go : (x : Bool) → eqb (at i).kind 2 ≡ x → (step i c).resume ≤ (chain_from rows (i + 1) m (step i c)).resume
          → c.resume ≤ (chain_from rows (i + 1) m (step i c)).resume
      go true e l = omega (arith, (f.skip (eqb-true (at i).kind 2 e)).1, f.here, ok.fit)
      go false e l = omega (arith, f.item (eqb-false (at i).kind 2 e))

  -- every Skip lies from the first one on, up to where the last one ends
  abbrev Among : Chain → ℕ → Type 0
  Among d j = (at j).kind ≡ 2 → (d.clear ≤ from j + 1) × (end j ≤ d.resume)

  record Part (i m : ℕ) (c : Chain) (j : ℕ) : Type 0 where
    low : c.end ≤ from j + 1
    skip : Among (chain_from rows i m c) j

  part : (m i : ℕ) (c : Chain) (j : ℕ) → Chained i m c → i ≤ j → j < i + m → Part i m c j
  part zero i c j ok l h = absurd (omega arith)
  part (suc m) i c j ok l h = go (below_or i j) (λ q. part m (i + 1) (step i c) j (tail i m c ok) (omega arith) (omega arith))
    where
      f : Linked c (at i)
      f = row i m c ok

      first : Among (chain_from rows (i + 1) m (step i c)) i
      first e =
          (omega (arith, (f.skip e).0, down m (i + 1) (step i c)), omega (arith, (f.skip e).1, behind m (i + 1) (step i c) (tail i m c ok)))

      go : (i < j) ⊎ (j ≤ i) → (i < j → Part (i + 1) m (step i c) j) → Part i (suc m) c j
      go (inl q) rec =
          let p = rec q in
          record { low = omega (arith, p.low, f.end); skip = subst (λ (d : Chain). Among d j) (sym (rest i m c)) p.skip }
      go (inr q) rec =
          let e : i ≡ j = omega arith in
          subst (Part i (suc m) c) e (record { low = omega (arith, f.here); skip = subst (λ (d : Chain). Among d i) (sym (rest i m c)) first })

  -- a row ends at or below where a later one begins
  order : (m i : ℕ) (c : Chain) (j l : ℕ) → Chained i m c → i ≤ j → j < l → l < i + m → end j ≤ from l
  order zero i c j l ok a b d = absurd (omega arith)
  order (suc m) i c j l ok a b d = go (below_or i j) (λ q. order m (i + 1) (step i c) j l (tail i m c ok) (omega arith) b (omega arith))
    where
      f : Linked c (at i)
      f = row i m c ok

      go : (i < j) ⊎ (j ≤ i) → (i < j → end j ≤ from l) → end j ≤ from l
      go (inl q) rec = rec q
      go (inr q) rec =
          let e : i ≡ j = omega arith in
          subst (λ (x : ℕ). end x ≤ from l) e
          (omega (arith, f.end, f.here, (part m (i + 1) (step i c) l (tail i m c ok) (omega arith) (omega arith)).low))

  follow : (m i : ℕ) (c : Chain) (j : ℕ) → Chained i m c → i ≤ j → j + 1 < i + m → from (j + 1) ≡ end j
  follow zero i c j ok a b = absurd (omega arith)
  follow (suc zero) i c j ok a b = absurd (omega arith)
  follow (suc (suc m)) i c j ok a b = go (below_or i j) (λ q. follow (suc m) (i + 1) (step i c) j (tail i (suc m) c ok) (omega arith) (omega arith))
    where
      f : Linked c (at i)
      f = row i (suc m) c ok

      g : Linked (step i c) (at (i + 1))
      g = row (i + 1) m (step i c) (tail i (suc m) c ok)

      go : (i < j) ⊎ (j ≤ i) → (i < j → from (j + 1) ≡ end j) → from (j + 1) ≡ end j
      go (inl q) rec = rec q
      go (inr q) rec =
          let e : i ≡ j = omega arith in
          subst (λ (x : ℕ). from (x + 1) ≡ end x) e (omega (arith, f.end, f.here, g.here))

  -- ---- the rows of a span

  module _ (s : Span) (ok : (chain_of rows s).clear ≢ 0) where
    abbrev n : ℕ
    n = s.hi - s.lo

    abbrev c : Chain
    c = unlinked (at s.lo)

    pub record Whole : Type 0 where
      pub some : s.lo < s.hi
      pub there : s.hi ≤ length rows
      pub is : chain_of rows s ≡ chain_from rows s.lo (s.hi - s.lo) c

    so : (x y : Bool) → ltb s.lo s.hi ≡ x → ltb (length rows) s.hi ≡ y
        → chain_of rows s ≡ pick x (pick y no_chain (chain_from rows s.lo (s.hi - s.lo) c)) no_chain
    unfolding chain_of
    so x y e f = rw (e, f) refl

    pub whole : Whole
    whole = go (ltb s.lo s.hi) refl (ltb (length rows) s.hi) refl
      where
        none : chain_of rows s ≡ no_chain → Whole
        none e = absurd (ok (ap (λ (d : Chain). d.clear) e))

        go : (x : Bool) → ltb s.lo s.hi ≡ x → (y : Bool) → ltb (length rows) s.hi ≡ y → Whole
        go false e y f = none (so false y e f)
        go true e true f = none (so true true e f)
        go true e false f = record { some = ltb-true s.lo s.hi e; there = ltb-false (length rows) s.hi f; is = so true false e f }

    chained : Chained s.lo n c
    chained = record { some = λ e. ok (ap (λ (d : Chain). d.clear) whole.is ∙ e); fit = omega arith }

    module _ (k : ℕ) where
      abbrev past : ℕ → Bool
      past i = past_row (at i) k

      past_end : (i : ℕ) → past i ≡ true → end i ≤ k
      unfolding past_row
      past_end i e = leb-true (end i) k e

      not_end : (i : ℕ) → past i ≡ false → k < end i
      unfolding past_row
      not_end i e = leb-false (end i) k e

      abbrev j : ℕ
      j = sought rows s k

      clip-is : clipped s (length rows) ≡ s
      unfolding clipped
      clip-is = rw (le-ltb (length rows) s.hi whole.there) refl

      border : Border past s.lo s.hi j
      unfolding sought
      border =
          let e : found past s.lo s.hi ≡ found past (clipped s (length rows)).lo (clipped s (length rows)).hi =
          ap (λ (t : Span). found past t.lo t.hi) (sym clip-is) in
          subst (Border past s.lo s.hi) e (found-borders past s.lo s.hi (omega (arith, whole.some)))

      -- the row before the one that is found ends at or below the clock
      before-ends : (i : ℕ) → s.lo ≤ i → i + 1 ≡ j → end i ≤ k
      before-ends i l e = past_end i (border.before i l (omega arith))

      after-ends : j < s.hi → k < end j
      after-ends l = not_end j (border.after l)

      -- the row that is found, if it is one of them, is no Skip and does not start above the clock, has the number that is waited for
      number : j < s.hi → (at j).kind ≢ 2 → from j ≤ k → held_by rows s k ≡ capped (j - s.lo)
      unfolding held_by number_at
      number l item h =
          rw (lt-ltb j (length rows) (omega (arith, whole.there)), lt-ltb j s.hi l, ne_eqb (at j).kind 2 item, le-ltb k (from j) h) refl

      -- a row that holds the clock is the one that is found
      pub holder-is : (g : ℕ) → s.lo ≤ g → g < s.hi → (at g).kind ≢ 2 → from g ≤ k → k < end g → held_by rows s k ≡ capped (g - s.lo)
      holder-is g a b item d h = go (below_or g j) (below_or j g)
        where
          late : (i : ℕ) → i + 1 ≡ j → (g < i) ⊎ (i ≤ g) → g < j → ⊥
          late i e (inl q) l = omega (arith, before-ends i (omega arith) e, order n s.lo c g i chained a q (omega (arith, border.upto)), h)
          late i e (inr q) l =
              let f : i ≡ g = omega arith in
              omega (arith, subst (λ (x : ℕ). end x ≤ k) f (before-ends i (omega arith) e), h)

          go : (g < j) ⊎ (j ≤ g) → (j < g) ⊎ (g ≤ j) → held_by rows s k ≡ capped (g - s.lo)
          go (inl q) y = absurd (late (j - 1) (omega arith) (below_or g (j - 1)) q)
          go (inr q) (inl w) = absurd (omega (arith, after-ends (omega arith), order n s.lo c j g chained border.from w (omega arith), d))
          go (inr q) (inr w) =
              let e : j ≡ g = omega arith in
              number (omega arith) (subst (λ (x : ℕ). (at x).kind ≢ 2) (sym e) item) (subst (λ (x : ℕ). from x ≤ k) (sym e) d)
              ∙ ap (λ (x : ℕ). capped (x - s.lo)) e

      -- the row that is found starts at or below the clock, unless all start above it
      starts : from s.lo ≤ k → j < s.hi → from j ≤ k
      starts h l = go (below_or s.lo j)
        where
          go : (s.lo < j) ⊎ (j ≤ s.lo) → from j ≤ k
          go (inl q) =
              let e : (j - 1) + 1 ≡ j = omega arith in
              let f = follow n s.lo c (j - 1) chained (omega arith) (omega arith) in
              subst (λ (x : ℕ). from x ≤ k) e (omega (arith, f, before-ends (j - 1) (omega arith) e))
          go (inr q) =
              let e : s.lo ≡ j = omega (arith, border.from) in
              subst (λ (x : ℕ). from x ≤ k) e h

      -- it is no Skip where the clock lies before all Skips or behind them
      no-skip : from s.lo ≤ k → j < s.hi → (k + 1 < (chain_of rows s).clear) ⊎ ((chain_of rows s).resume ≤ k) → (at j).kind ≢ 2
      no-skip h l clear e = go clear
        where
          p : ((chain_of rows s).clear ≤ from j + 1) × (end j ≤ (chain_of rows s).resume)
          p = subst (λ (d : Chain). Among d j) (sym whole.is) (part n s.lo c j chained border.from (omega (arith, whole.some))).skip e

          go : (k + 1 < (chain_of rows s).clear) ⊎ ((chain_of rows s).resume ≤ k) → ⊥
          go (inl q) = omega (arith, p.0, starts h l)
          go (inr q) = omega (arith, p.1, after-ends l)

      -- a clock below row g
      pub under-is : from s.lo ≤ k → (k + 1 < (chain_of rows s).clear) ⊎ ((chain_of rows s).resume ≤ k) → (g : ℕ) → s.lo ≤ g → g < s.hi → k < from g
          → (x : ℕ) × (s.lo + x < g) × (held_by rows s k ≡ capped x)
      under-is h clear g a b d =
          (j - s.lo, omega (arith, under, border.from), number inside (no-skip h inside clear) (starts h inside))
        where
          late : (i : ℕ) → i + 1 ≡ j → (g < i + 1) ⊎ (i + 1 ≤ g) → s.lo ≤ i → g ≤ j → ⊥
          late i e (inl q) l m = go (below_or g i)
            where
              go : (g < i) ⊎ (i ≤ g) → ⊥
              go (inl r) = omega (arith, before-ends i l e, order n s.lo c g i chained a r (omega (arith, border.upto)), d)
              go (inr r) =
                  let f : i ≡ g = omega arith in
                  omega (arith, subst (λ (x : ℕ). end x ≤ k) f (before-ends i l e), d)
          late i e (inr q) l m =
              let f : i + 1 ≡ g = omega arith in
              omega (arith, subst (λ (x : ℕ). k < from x) (sym f) d, follow n s.lo c i chained l (omega arith), before-ends i l e)

          reach : (j < g) ⊎ (g ≤ j) → (s.lo < j) ⊎ (j ≤ s.lo) → j < g
          reach (inl q) y = q
          reach (inr q) (inl w) = absurd (late (j - 1) (omega arith) (below_or g (j - 1 + 1)) (omega arith) q)
          reach (inr q) (inr w) =
              let e : g ≡ s.lo = omega arith in
              absurd (omega (arith, subst (λ (y : ℕ). k < from y) e d, h))

          under : j < g
          under = reach (below_or j g) (below_or s.lo j)

          inside : j < s.hi
          inside = omega (arith, under)
