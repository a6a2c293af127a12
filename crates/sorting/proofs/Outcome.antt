-- Sorting has one outcome.
use mathlib.Core.Path.{◌≡◌, refl, subst, fun_ext}
use mathlib.Core.Bool.{Bool, true, false, ◌&&◌}
use mathlib.Core.List.{List, [], ◌∷◌}
use mathlib.Core.Logic.{◌⊎◌, inl, inr, ◌≢◌}
use Prim.Native.Nat.{ℕ, suc, ◌+◌, ◌-◌, ◌≤◌, ◌<◌}
use native.Mathlib.Omega.{arith}
use native.Mathlib.Decide.{dec_lt}
use lib.Dec.{T, ltb, eqb, ltb→lt, lt→ltb, eqb→eq, eqb_refl}
use Rattle.sorting.specs.Steps.{System, State, start, can, step, after, Run, Stuck, Ends, Takes, Highest, Sorts}
use Rattle.sorting.specs.StepsInner.{Monotone}

pub both : (a b : Bool) → T (a && b) → T a × T b
both true b t = (tt, t)
both false b t = absurd t

pub pair : (a b : Bool) → T a → T b → T (a && b)
pair true b t u = u
pair false b t u = absurd t

pub below_or : (m n : ℕ) → (m < n) ⊎ (n ≤ m)
below_or m n = go (dec_lt m n)
  where
    go : Dec (m < n) → (m < n) ⊎ (n ≤ m)
    go (yes h) = inl h
    go (no h) = inr (omega arith)

module _ {A : Type 0} (S : System A) where
  pub can-fits : (s : State A) (c : ℕ) → T (can S s c) → s.taken c < S.size c
  unfolding can
  can-fits s c t = ltb→lt (s.taken c) (S.size c) (both (ltb (s.taken c) (S.size c)) _ t).0

  pub can-ready : (s : State A) (c : ℕ) → T (can S s c) → T (S.ready s.known c (s.taken c))
  unfolding can
  can-ready s c t = (both (ltb (s.taken c) (S.size c)) _ t).1

  pub can-intro : (s : State A) (c : ℕ) → s.taken c < S.size c → T (S.ready s.known c (s.taken c)) → T (can S s c)
  unfolding can
  can-intro s c h t = pair (ltb (s.taken c) (S.size c)) _ (lt→ltb (s.taken c) (S.size c) h) t

  -- a step counts its own queue up, and no other
  abbrev pub Moved : State A → ℕ → ℕ → Type 0
  Moved s c d = ((d ≡ c) × ((step S s c).taken d ≡ suc (s.taken d))) ⊎ ((d ≢ c) × ((step S s c).taken d ≡ s.taken d))

  pub step-taken : (s : State A) (c d : ℕ) → Moved s c d
  unfolding step
  step-taken s c d = go (eqb d c) refl
    where
      go : (b : Bool) → eqb d c ≡ b → Moved s c d
      go true e = inl (eqb→eq d c (rw e tt), rw e)
      go false e = inr ((λ p. subst T e (subst (λ x. T (eqb d x)) p (eqb_refl d))), rw e)

  pub step-own : (s : State A) (c : ℕ) → (step S s c).taken c ≡ suc (s.taken c)
  step-own s c = go (step-taken s c c)
    where
      go : Moved s c c → (step S s c).taken c ≡ suc (s.taken c)
      go (inl w) = w.1
      go (inr w) = absurd (w.0 refl)

  pub step-up : (s : State A) (c d : ℕ) → s.taken d ≤ (step S s c).taken d
  step-up s c d = go (step-taken s c d)
    where
      go : Moved s c d → s.taken d ≤ (step S s c).taken d
      go (inl w) = omega arith
      go (inr w) = omega arith

  pub taken-up : (s : State A) (cs : List ℕ) (d : ℕ) → s.taken d ≤ (after S s cs).taken d
  unfolding after
  taken-up s [] d = omega arith
  taken-up s (c ∷ cs) d = omega (arith, step-up s c d, taken-up (step S s c) cs d)

  pub known_up : (s : State A) (cs : List ℕ) (a : A) → s.known a ≤ (after S s cs).known a
  unfolding after step
  known_up s [] a = omega arith
  known_up s (c ∷ cs) a = omega (arith, known_up (step S s c) cs a)

  -- what a run took is known at its end
  pub learnt : (s : State A) (cs : List ℕ) (c k : ℕ) → s.taken c ≤ k → k < (after S s cs).taken c
      → (a : A) → S.fact c k a ≤ (after S s cs).known a
  unfolding after step
  learnt s [] c k lo hi a = absurd (omega arith)
  learnt s (d ∷ cs) c k lo hi a = go (below_or k ((step S s d).taken c)) (step-taken s d c) (known_up (step S s d) cs a)
      (λ h. learnt (step S s d) cs c k h hi a)
    where
      go : (k < (step S s d).taken c) ⊎ ((step S s d).taken c ≤ k)
          → Moved s d c → (step S s d).known a ≤ (after S s (d ∷ cs)).known a
          → ((step S s d).taken c ≤ k → S.fact c k a ≤ (after S s (d ∷ cs)).known a)
          → S.fact c k a ≤ (after S s (d ∷ cs)).known a
      go (inr h) w up rec = rec h
      go (inl h) (inr w) up rec = absurd (omega (arith, w.1))
      go (inl h) (inl w) up rec =
          let e : k ≡ s.taken c = omega (arith, w.1) in
          rw (e, w.0) (omega (arith, up))

-- S' offers what S offers: all but the first `off c` blocks of c, which make known nothing past `base`, stand in S' too,
-- there ready no later and telling no less.
pub record Covers {A : Type 0} (S S' : System A) (base : A → ℕ) (off : ℕ → ℕ) : Type 0 where
  pub old : (c k : ℕ) → k < off c → (a : A) → S.fact c k a ≤ base a
  pub room : (c : ℕ) → S.size c ≤ off c + S'.size c
  pub sooner : (κ κ' : A → ℕ) → ((a : A) → base a ≤ κ a) → ((a : A) → κ a ≤ κ' a)
      → (c k j : ℕ) → k ≡ off c + j → T (S.ready κ c k) → T (S'.ready κ' c j)
  pub tells : (c k j : ℕ) → k ≡ off c + j → (a : A) → S.fact c k a ≤ S'.fact c j a

-- s is not ahead of t
pub record Behind {A : Type 0} (base : A → ℕ) (off : ℕ → ℕ) (s t : State A) : Type 0 where
  pub counts : (c : ℕ) → s.taken c ≤ off c + t.taken c
  pub low : (a : A) → base a ≤ s.known a
  pub high : (a : A) → s.known a ≤ t.known a

module _ {A : Type 0} (S S' : System A) (base : A → ℕ) (off : ℕ → ℕ) (cov : Covers S S' base off)
    (t : State A) (stuck : Stuck S' t) (full : (c k : ℕ) → k < t.taken c → (a : A) → S'.fact c k a ≤ t.known a) where
  -- the block that a step of S takes was dropped from S', or t has it
  had : (s : State A) (c : ℕ) → T (can S s c) → Behind base off s t
      → (s.taken c < off c + t.taken c) × ((a : A) → S.fact c (s.taken c) a ≤ t.known a)
  unfolding Stuck
  had s c can-s b = go (below_or (s.taken c) (off c)) (below_or (s.taken c) (off c + t.taken c))
    where
      go : (s.taken c < off c) ⊎ (off c ≤ s.taken c) → (s.taken c < off c + t.taken c) ⊎ (off c + t.taken c ≤ s.taken c)
          → (s.taken c < off c + t.taken c) × ((a : A) → S.fact c (s.taken c) a ≤ t.known a)
      go (inl h) w = (omega arith, λ a. omega (arith, cov.old c (s.taken c) h a, b.low a, b.high a))
      go (inr h) (inl w) = (
        w,
        λ a. omega (
          arith,
          cov.tells c (s.taken c) (s.taken c - off c) (omega arith) a,
          full c (s.taken c - off c) (omega arith) a,
        ),
      )
      go (inr h) (inr w) =
          let e : s.taken c ≡ off c + t.taken c = omega (arith, b.counts c) in
          absurd (stuck c (can-intro S' t c (omega (arith, cov.room c, can-fits S s c can-s))
          (cov.sooner s.known t.known b.low b.high c (s.taken c) (t.taken c) e (can-ready S s c can-s))))

  behind-step : (s : State A) (c : ℕ) → T (can S s c) → Behind base off s t → Behind base off (step S s c) t
  unfolding step
  behind-step s c can-s b = record {
    counts = λ d. counts d (step-taken S s c d);
    low = λ a. omega (arith, b.low a);
    high = λ a. omega (arith, b.high a, (had s c can-s b).1 a);
  }
    where
      counts : (d : ℕ) → Moved S s c d → (step S s c).taken d ≤ off d + t.taken d
      counts d (inl w) = rw (w.1, w.0) (had s c can-s b).0
      counts d (inr w) = rw w.1 (b.counts d)

  behind : (s : State A) (cs : List ℕ) → Run S s cs → Behind base off s t → Behind base off (after S s cs) t
  unfolding after Run
  behind s [] r b = b
  behind s (c ∷ cs) r b = behind (step S s c) cs r.1 (behind-step s c r.0 b)

-- No run of S from v comes further than a run of S' from w that ends, if w knows as much as v.
module _ {A : Type 0} (S S' : System A) (v w : A → ℕ) (off : ℕ → ℕ) (cov : Covers S S' v off) (more : (a : A) → v a ≤ w a) where
  pub no-further : (cs ds : List ℕ) → Run S (start v) cs → Ends S' (start w) ds
      → Behind v off (after S (start v) cs) (after S' (start w) ds)
  no-further cs ds r e = behind S S' v off cov (after S' (start w) ds) e.end
      (λ c k h. learnt S' (start w) ds c k (omega arith) h) (start v) cs r
      (record { counts = λ c. omega arith; low = λ a. omega arith; high = λ a. omega (arith, more a, known_up S' (start w) ds a) })

module _ {A : Type 0} (S : System A) where
  -- blocks are taken front to back: a run takes those from its first count up to its last
  pub takes-below : (s : State A) (cs : List ℕ) (c k : ℕ) → Takes S s cs c k
      → (s.taken c ≤ k) × (k < (after S s cs).taken c)
  unfolding Takes after
  takes-below s [] c k t = absurd t
  takes-below s (d ∷ cs) c k (inl w) =
      rw (w.0, w.1) (omega arith, omega (arith, step-own S s d, taken-up S (step S s d) cs d))
  takes-below s (d ∷ cs) c k (inr t) =
      let b = takes-below (step S s d) cs c k t in
      (omega (arith, step-up S s d c), b.1)

  pub takes_all : (s : State A) (cs : List ℕ) (c k : ℕ) → s.taken c ≤ k → k < (after S s cs).taken c → Takes S s cs c k
  unfolding Takes after
  takes_all s [] c k lo hi = absurd (omega arith)
  takes_all s (d ∷ cs) c k lo hi = go (below_or k ((step S s d).taken c)) (step-taken S s d c)
      (λ h. takes_all (step S s d) cs c k h hi)
    where
      go : (k < (step S s d).taken c) ⊎ ((step S s d).taken c ≤ k)
          → Moved S s d c → ((step S s d).taken c ≤ k → Takes S (step S s d) cs c k) → Takes S s (d ∷ cs) c k
      go (inr h) w rec = inr (rec h)
      go (inl h) (inr w) rec = absurd (omega arith)
      go (inl h) (inl w) rec = let e : k ≡ s.taken c = omega arith in inl (w.0, rw (← w.0) e)

module _ {A : Type 0} (S : System A) (mono : Monotone S) where
  self : (v : A → ℕ) → Covers S S v (λ c. 0)
  unfolding Monotone
  self v = record {
    old = λ c k h. absurd (omega arith);
    room = λ c. omega arith;
    sooner = λ κ κ' low high c k j e t. mono κ κ' high c j (subst (λ x. T (S.ready κ c x)) (omega arith) t);
    tells = λ c k j e a. let p : k ≡ j = omega arith in rw p (omega arith);
  }

  -- Demand 3: one outcome
  pub one-outcome : (v : A → ℕ) (cs ds : List ℕ) → Ends S (start v) cs → Ends S (start v) ds
      → after S (start v) cs ≡ after S (start v) ds
  one-outcome v cs ds e f =
      let b = no-further S S v v (λ c. 0) (self v) (λ a. omega arith) cs ds e.run f in
      let d = no-further S S v v (λ c. 0) (self v) (λ a. omega arith) ds cs f.run e in
      λ i. record {
        taken = fun_ext {f = (after S (start v) cs).taken} {g = (after S (start v) ds).taken}
            (λ c. omega (arith, b.counts c, d.counts c)) i;
        known = fun_ext {f = (after S (start v) cs).known} {g = (after S (start v) ds).known}
            (λ a. omega (arith, b.high a, d.high a)) i;
      }

  -- W-212: who knows more takes no less
  pub more-takes : (v w : A → ℕ) → ((a : A) → v a ≤ w a) → (cs ds : List ℕ) → Run S (start v) cs → Ends S (start w) ds
      → (c k : ℕ) → Takes S (start v) cs c k → Takes S (start w) ds c k
  more-takes v w more cs ds r e c k t =
      let b = no-further S S v w (λ c. 0) (self v) more cs ds r e in
      takes_all S (start w) ds c k (omega arith) (omega (arith, b.counts c, takes-below S (start v) cs c k t))

  -- Demand 3
  pub sorts : (v : A → ℕ) (cs : List ℕ) → Ends S (start v) cs → Sorts S v cs
  sorts v cs e = record {
    ends = e;
    same = λ ds f. one-outcome v ds cs f e;
    blocks = λ ds f c k. (more-takes v v (λ a. omega arith) ds cs f.run e c k, more-takes v v (λ a. omega arith) cs ds e.run f c k);
    pending = λ c k. ((λ h ds r t. h (more-takes v v (λ a. omega arith) ds cs r e c k t)), (λ h t. h cs e.run t));
  }

-- The order of highest clients is one order.
module _ {A : Type 0} (S : System A) where
  pub one-order : (s : State A) (cs ds : List ℕ) → Ends S s cs → Highest S s cs → Ends S s ds → Highest S s ds → cs ≡ ds
  unfolding Run Stuck after Highest
  one-order s [] [] e g f h = refl
  one-order s [] (d ∷ ds) e g f h = absurd (e.end d f.run.0)
  one-order s (c ∷ cs) [] e g f h = absurd (f.end c e.run.0)
  one-order s (c ∷ cs) (d ∷ ds) e g f h =
      go (omega (arith, g.0 d f.run.0, h.0 c e.run.0)) (record { run = f.run.1; end = f.end }) h.1
      (one-order (step S s c) cs ds (record { run = e.run.1; end = e.end }) g.1)
    where
      go : c ≡ d → Ends S (step S s d) ds → Highest S (step S s d) ds
          → (Ends S (step S s c) ds → Highest S (step S s c) ds → cs ≡ ds) → c ∷ cs ≡ d ∷ ds
      go p f h rec =
          let q : cs ≡ ds = rec (rw p f) (rw p h) in
          cc
