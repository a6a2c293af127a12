-- The normal form is unique, and `normal` computes it.
use mathlib.Core.Path.{◌≡◌, refl, sym, ◌∙◌}
use mathlib.Core.Bool.{Bool, true, false, cond}
use mathlib.Core.List.{List, [], ◌∷◌}
use mathlib.Core.Logic.{◌⊎◌, inl, inr}
use Prim.Native.Nat.{ℕ, suc, ◌+◌, ◌≤◌, ◌<◌}
use native.Mathlib.Omega.{arith}
use lib.Dec.{ltb}
use lib.ListN.{length}
use borrow.Author.Tests.{ltb-true, ltb-false}
use Rattle.ranges.specs.Ranges.{Range, hull, add, normal}
use Rattle.ranges.specs.RangesInner.{Hit, Deleted, Apart, Leads, Normal}

pub ltb-cases : (a b : ℕ) → ((ltb a b ≡ true) × (a < b)) ⊎ ((ltb a b ≡ false) × (b ≤ a))
ltb-cases a b = go (ltb a b) refl
  where
    go : (x : Bool) → ltb a b ≡ x → ((ltb a b ≡ true) × (a < b)) ⊎ ((ltb a b ≡ false) × (b ≤ a))
    go true e = inl (e, ltb-true a b e)
    go false e = inr (e, ltb-false a b e)

-- the id (c, k) comes after r, with a gap
abbrev pub After : Range → ℕ → ℕ → Type 0
After r c k = (c < r.client) ⊎ ((c ≡ r.client) × (r.clock + r.len < k))

first : (r : Range) → 0 < r.len → Hit r r.client r.clock
first r h = record { of = refl; from = omega arith; below = omega arith }

after-hit : (r q : Range) (c k : ℕ) → Apart r q → Hit q c k → After r c k
after-hit r q c k (inl a) h = inl (omega (arith, h.of))
after-hit r q c k (inr a) h = inr (omega (arith, h.of), omega (arith, h.from))

after-step : (r q : Range) (c k : ℕ) → 0 < q.len → Apart r q → After q c k → After r c k
after-step r q c k l (inl a) (inl h) = inl (omega arith)
after-step r q c k l (inl a) (inr h) = inl (omega arith)
after-step r q c k l (inr a) (inl h) = inl (omega arith)
after-step r q c k l (inr a) (inr h) = inr (omega arith, omega arith)

pub after : (r : Range) (rs : List Range) → Leads r rs → Normal rs → (c k : ℕ) → Deleted rs c k → After r c k
after r [] a n c k d = absurd d
after r (q ∷ qs) a n c k (inl h) = after-hit r q c k a h
after r (q ∷ qs) a n c k (inr d) = after-step r q c k n.0 a (after q qs n.1 n.2 c k d)

pub leads : (r : Range) (rs : List Range) → Normal rs → ((c k : ℕ) → Deleted rs c k → After r c k) → Leads r rs
leads r [] n f = tt
leads r (q ∷ qs) n f = f q.client q.clock (inl (first q n.0))

-- no id of r comes after r
not_after : (r : Range) (c k : ℕ) → Hit r c k → After r c k → ⊥
not_after r c k h (inl a) = omega (arith, h.of)
not_after r c k h (inr a) = omega (arith, h.below)

abbrev pub Same : List Range → List Range → Type 0
Same rs qs = (c k : ℕ) → (Deleted rs c k → Deleted qs c k) × (Deleted qs c k → Deleted rs c k)

pub same-range : (r q : Range) → r.client ≡ q.client → r.clock ≡ q.clock → r.len ≡ q.len → r ≡ q
same-range r q a b c = λ i. record { client = a i; clock = b i; len = c i }

-- the first id of a range held in r ∷ rs is not before r's
held : (r : Range) (c k : ℕ) → Hit r c k ⊎ After r c k → (c < r.client) ⊎ ((c ≡ r.client) × (r.clock ≤ k))
held r c k (inl h) = inr (omega (arith, h.of), h.from)
held r c k (inr (inl h)) = inl h
held r c k (inr (inr h)) = inr (h.0, omega (arith, h.1))

in-or : (r : Range) (rs : List Range) → Normal (r ∷ rs) → (c k : ℕ) → Deleted (r ∷ rs) c k → Hit r c k ⊎ After r c k
in-or r rs n c k (inl h) = inl h
in-or r rs n c k (inr d) = inr (after r rs n.1 n.2 c k d)

-- the head of the one is not before the head of the other
client-le : (r q : Range) (rs qs : List Range) → Normal (r ∷ rs) → Normal (q ∷ qs) → ((c k : ℕ) → Deleted (q ∷ qs) c k → Deleted (r ∷ rs) c k)
    → (q.client < r.client) ⊎ ((q.client ≡ r.client) × (r.clock ≤ q.clock))
client-le r q rs qs n m f =
    held r q.client q.clock (in-or r rs n q.client q.clock (f q.client q.clock (inl (first q m.0))))

len-le : (r q : Range) (rs qs : List Range) → Normal (r ∷ rs) → Normal (q ∷ qs) → ((c k : ℕ) → Deleted (q ∷ qs) c k → Deleted (r ∷ rs) c k)
    → r.client ≡ q.client → r.clock ≡ q.clock → q.len ≤ r.len
len-le r q rs qs n m f a b = go (ltb-cases r.len q.len)
  where
    c : ℕ
    c = q.client

    k : ℕ
    k = q.clock + r.len

    bad : r.len < q.len → Hit r q.client (q.clock + r.len) ⊎ After r q.client (q.clock + r.len) → ⊥
    bad l (inl h) = omega (arith, h.below)
    bad l (inr (inl h)) = omega arith
    bad l (inr (inr h)) = omega (arith, h.1)

    go : ((ltb r.len q.len ≡ true) × (r.len < q.len)) ⊎ ((ltb r.len q.len ≡ false) × (q.len ≤ r.len)) → q.len ≤ r.len
    go (inl l) = absurd (bad l.1 (in-or r rs n q.client (q.clock + r.len)
        (f q.client (q.clock + r.len) (inl (record { of = refl; from = omega arith; below = omega (arith, l.1) })))))
    go (inr l) = l.1

head-eq : (r q : Range) (rs qs : List Range) → Normal (r ∷ rs) → Normal (q ∷ qs) → Same (r ∷ rs) (q ∷ qs) → r ≡ q
head-eq r q rs qs n m s =
    go (client-le r q rs qs n m (λ c k. (s c k).1)) (client-le q r qs rs m n (λ c k. (s c k).0))
  where
    fin : r.client ≡ q.client → r.clock ≡ q.clock → r ≡ q
    fin a b = same-range r q a b (omega (arith, len-le r q rs qs n m (λ c k. (s c k).1) a b, len-le q r qs rs m n (λ c k. (s c k).0) (sym a) (sym b)))

    go : (q.client < r.client) ⊎ ((q.client ≡ r.client) × (r.clock ≤ q.clock))
        → (r.client < q.client) ⊎ ((r.client ≡ q.client) × (q.clock ≤ r.clock)) → r ≡ q
    go (inl a) (inl b) = absurd (omega arith)
    go (inl a) (inr b) = absurd (omega arith)
    go (inr a) (inl b) = absurd (omega arith)
    go (inr a) (inr b) = fin b.0 (omega arith)

tail-in : (r q : Range) (rs qs : List Range) → Normal (r ∷ rs) → r ≡ q → ((c k : ℕ) → Deleted (r ∷ rs) c k → Deleted (q ∷ qs) c k)
    → (c k : ℕ) → Deleted rs c k → Deleted qs c k
tail-in r q rs qs n e f c k d = go (f c k (inr d))
  where
    go : Hit q c k ⊎ Deleted qs c k → Deleted qs c k
    go (inl h) = absurd (not_after r c k (rw e h) (after r rs n.1 n.2 c k d))
    go (inr x) = x

-- (1) two normal lists with the same ids are equal
pub unique : (rs qs : List Range) → Normal rs → Normal qs → Same rs qs → rs ≡ qs
unique [] [] n m s = refl
unique [] (q ∷ qs) n m s = absurd ((s q.client q.clock).1 (inl (first q m.0)))
unique (r ∷ rs) [] n m s = absurd ((s r.client r.clock).0 (inl (first r n.0)))
unique (r ∷ rs) (q ∷ qs) n m s =
    let e = head-eq r q rs qs n m s in
    let t = unique rs qs n.2 m.2 (λ c k. (tail-in r q rs qs n e (λ c k. (s c k).0) c k, tail-in q r qs rs m (sym e) (λ c k. (s c k).1) c k)) in
    λ i. e i ∷ t i

-- `add` keeps lists normal, and adds the ids of r
pub record Adds (r : Range) (l out : List Range) : Type 0 where
  pub fit : Normal out
  pub sound : (c k : ℕ) → Deleted out c k → Hit r c k ⊎ Deleted l c k
  pub whole : (c k : ℕ) → Hit r c k ⊎ Deleted l c k → Deleted out c k

before-all : (r q : Range) (qs : List Range) → 0 < r.len → Normal (q ∷ qs) → Apart r q → Adds r (q ∷ qs) (r ∷ q ∷ qs)
before-all r q qs h n a = record { fit = (h, a, n); sound = λ c k d. d; whole = λ c k d. d }

past : (r q : Range) (qs out : List Range) → 0 < r.len → Normal (q ∷ qs) → Apart q r → Adds r qs out → Adds r (q ∷ qs) (q ∷ out)
past r q qs out h n a w = record {
  fit = (n.0, leads q out w.fit (λ c k d. far c k (w.sound c k d)), w.fit);
  sound = sound;
  whole = whole;
}
  where
    far : (c k : ℕ) → Hit r c k ⊎ Deleted qs c k → After q c k
    far c k (inl x) = after-hit q r c k a x
    far c k (inr d) = after q qs n.1 n.2 c k d

    sound : (c k : ℕ) → Deleted (q ∷ out) c k → Hit r c k ⊎ Deleted (q ∷ qs) c k
    sound c k (inl x) = inr (inl x)
    sound c k (inr d) = elim (w.sound c k d) [ inl x ↦ inl x | inr y ↦ inr (inr y) ]

    whole : (c k : ℕ) → Hit r c k ⊎ Deleted (q ∷ qs) c k → Deleted (q ∷ out) c k
    whole c k (inl x) = inr (w.whole c k (inl x))
    whole c k (inr (inl x)) = inl x
    whole c k (inr (inr d)) = inr (w.whole c k (inr d))

hull-hit : (r q : Range) → r.client ≡ q.client → q.clock ≤ r.clock + r.len → r.clock ≤ q.clock + q.len
    → (c k : ℕ) → Hit (hull r q) c k → Hit r c k ⊎ Hit q c k
hull-hit r q e a b c k h = go (ltb-cases k r.clock) (ltb-cases k (r.clock + r.len)) (ltb-cases k q.clock) (ltb-cases k (q.clock + q.len))
  where
    go : ((ltb k r.clock ≡ true) × (k < r.clock)) ⊎ ((ltb k r.clock ≡ false) × (r.clock ≤ k))
        → ((ltb k (r.clock + r.len) ≡ true) × (k < r.clock + r.len)) ⊎ ((ltb k (r.clock + r.len) ≡ false) × (r.clock + r.len ≤ k))
        → ((ltb k q.clock ≡ true) × (k < q.clock)) ⊎ ((ltb k q.clock ≡ false) × (q.clock ≤ k))
        → ((ltb k (q.clock + q.len) ≡ true) × (k < q.clock + q.len)) ⊎ ((ltb k (q.clock + q.len) ≡ false) × (q.clock + q.len ≤ k))
        → Hit r c k ⊎ Hit q c k
    go (inr x) (inl y) z w = inl (record { of = h.of; from = x.1; below = y.1 })
    go (inr x) (inr y) z (inl w) = inr (record { of = sym e ∙ h.of; from = omega (arith, y.1); below = w.1 })
    go (inl x) y (inr z) (inl w) = inr (record { of = sym e ∙ h.of; from = z.1; below = w.1 })
    go (inl x) y (inl z) w = absurd (omega (arith, h.from, x.1, z.1))
    go (inl x) y (inr z) (inr w) = absurd (omega (arith, x.1, w.1))
    go (inr x) (inr y) z (inr w) = absurd (omega (arith, h.below, y.1, w.1))

hull-left : (r q : Range) (c k : ℕ) → Hit r c k → Hit (hull r q) c k
hull-left r q c k h = record { of = h.of; from = omega (arith, h.from); below = omega (arith, h.from, h.below) }

hull-right : (r q : Range) → r.client ≡ q.client → (c k : ℕ) → Hit q c k → Hit (hull r q) c k
hull-right r q e c k h = record { of = e ∙ h.of; from = omega (arith, h.from); below = omega (arith, h.from, h.below) }

merged : (r q : Range) (qs out : List Range) → r.client ≡ q.client → q.clock ≤ r.clock + r.len → r.clock ≤ q.clock + q.len
    → Adds (hull r q) qs out → Adds r (q ∷ qs) out
merged r q qs out e a b w = record { fit = w.fit; sound = λ c k d. sound c k (w.sound c k d); whole = whole }
  where
    sound : (c k : ℕ) → Hit (hull r q) c k ⊎ Deleted qs c k → Hit r c k ⊎ Deleted (q ∷ qs) c k
    sound c k (inl x) = elim (hull-hit r q e a b c k x) [ inl y ↦ inl y | inr y ↦ inr (inl y) ]
    sound c k (inr d) = inr (inr d)

    whole : (c k : ℕ) → Hit r c k ⊎ Deleted (q ∷ qs) c k → Deleted out c k
    whole c k (inl x) = w.whole c k (inl (hull-left r q c k x))
    whole c k (inr (inl x)) = w.whole c k (inl (hull-right r q e c k x))
    whole c k (inr (inr d)) = w.whole c k (inr d)

pub adds : (l : List Range) (r : Range) → 0 < r.len → Normal l → Adds r l (add r l)
unfolding add
adds [] r h n = record { fit = (h, tt, tt); sound = λ c k d. d; whole = λ c k d. d }
adds (q ∷ qs) r h n =
    go (ltb q.client r.client) refl (ltb r.client q.client) refl
    (ltb (r.clock + r.len) q.clock) refl (ltb (q.clock + q.len) r.clock) refl
    (adds qs r h n.2) (adds qs (hull r q) (omega arith) n.2)
  where
    go : (x : Bool) → ltb q.client r.client ≡ x → (y : Bool) → ltb r.client q.client ≡ y
        → (z : Bool) → ltb (r.clock + r.len) q.clock ≡ z → (w : Bool) → ltb (q.clock + q.len) r.clock ≡ w
        → Adds r qs (add r qs) → Adds (hull r q) qs (add (hull r q) qs)
        → Adds r (q ∷ qs) (cond x (r ∷ q ∷ qs) (cond y (q ∷ add r qs) (cond z (r ∷ q ∷ qs) (cond w (q ∷ add r qs) (add (hull r q) qs)))))
    go true e y f z i w j p s = before-all r q qs h n (inl (ltb-true q.client r.client e))
    go false e true f z i w j p s = past r q qs (add r qs) h n (inl (ltb-true r.client q.client f)) p
    go false e false f true i w j p s =
        before-all r q qs h n (inr (omega (arith, ltb-false q.client r.client e, ltb-false r.client q.client f), ltb-true (r.clock + r.len) q.clock i))
    go false e false f false i true j p s =
        past r q qs (add r qs) h n (inr (omega (arith, ltb-false q.client r.client e, ltb-false r.client q.client f), ltb-true (q.clock + q.len) r.clock j)) p
    go false e false f false i false j p s =
        merged r q qs (add (hull r q) qs) (omega (arith, ltb-false q.client r.client e, ltb-false r.client q.client f))
        (ltb-false (r.clock + r.len) q.clock i) (ltb-false (q.clock + q.len) r.clock j) s

-- (2) `normal` gives a normal list with the same ids
pub normal-is : (l : List Range) → Normal (normal l) × Same (normal l) l
unfolding normal
normal-is [] = (tt, λ c k. ((λ d. d), (λ d. d)))
normal-is (r ∷ rs) = go (ltb 0 r.len) refl (normal-is rs)
  where
    go : (x : Bool) → ltb 0 r.len ≡ x → Normal (normal rs) × Same (normal rs) rs
        → Normal (cond x (add r (normal rs)) (normal rs)) × Same (cond x (add r (normal rs)) (normal rs)) (r ∷ rs)
    go true e w =
        let a = adds (normal rs) r (ltb-true 0 r.len e) w.0 in (
          a.fit,
          λ c k. (
            (λ d. elim (a.sound c k d) [ inl h ↦ inl h | inr x ↦ inr ((w.1 c k).0 x) ]),
            (λ d. elim d [ inl h ↦ a.whole c k (inl h) | inr x ↦ a.whole c k (inr ((w.1 c k).1 x)) ]),
          ),
        )
    go false e w = (
      w.0,
      λ c k. (
        (λ d. inr ((w.1 c k).0 d)),
        (λ d. elim d [ inl h ↦ absurd (omega (arith, ltb-false 0 r.len e, h.from, h.below)) | inr x ↦ (w.1 c k).1 x ]),
      ),
    )

-- so what is normal and has the same ids is what `normal` gives
pub is_normal : (l out : List Range) → Normal out → Same out l → out ≡ normal l
is_normal l out n s =
    let w = normal-is l in
    unique out (normal l) n w.0 (λ c k. ((λ d. (w.1 c k).1 ((s c k).0 d)), (λ d. (s c k).1 ((w.1 c k).0 d))))

-- ---- what is so of one range more, and of the normal form, by the cases of their definitions

module _ (P : Range → List Range → List Range → Type 0) (none : (r : Range) → P r [] (r ∷ []))
    (before : (r q : Range) (qs : List Range) → P r (q ∷ qs) (r ∷ q ∷ qs))
    (behind : (r q : Range) (qs out : List Range) → P r qs out → P r (q ∷ qs) (q ∷ out))
    (joined : (r q : Range) (qs out : List Range) → P (hull r q) qs out → P r (q ∷ qs) out) where
  pub add-by : (l : List Range) (r : Range) → P r l (add r l)
  unfolding add
  add-by [] r = none r
  add-by (q ∷ qs) r =
      go (ltb q.client r.client) (ltb r.client q.client) (ltb (r.clock + r.len) q.clock) (ltb (q.clock + q.len) r.clock)
      (add-by qs r) (add-by qs (hull r q))
    where
      go : (a b c d : Bool) → P r qs (add r qs) → P (hull r q) qs (add (hull r q) qs)
          → P r (q ∷ qs) (cond a (r ∷ q ∷ qs) (cond b (q ∷ add r qs) (cond c (r ∷ q ∷ qs) (cond d (q ∷ add r qs) (add (hull r q) qs)))))
      go true b c d h k = before r q qs
      go false true c d h k = behind r q qs (add r qs) h
      go false false true d h k = before r q qs
      go false false false true h k = behind r q qs (add r qs) h
      go false false false false h k = joined r q qs (add (hull r q) qs) k

module _ (P : List Range → List Range → Type 0) (none : P [] []) (more : (r : Range) (rs out : List Range) → P rs out → P (r ∷ rs) (add r out))
    (empty : (r : Range) (rs out : List Range) → P rs out → P (r ∷ rs) out) where
  pub normal-by : (l : List Range) → P l (normal l)
  unfolding normal
  normal-by [] = none
  normal-by (r ∷ rs) = go (ltb 0 r.len) (normal-by rs)
    where
      go : (x : Bool) → P rs (normal rs) → P (r ∷ rs) (cond x (add r (normal rs)) (normal rs))
      go true h = more r rs (normal rs) h
      go false h = empty r rs (normal rs) h

-- the normal form is not longer
add-length : (l : List Range) (r : Range) → length (add r l) ≤ suc (length l)
add-length =
    add-by (λ r l out. length out ≤ suc (length l)) (λ r. omega arith) (λ r q qs. omega arith) (λ r q qs out h. omega arith) (λ r q qs out h. omega arith)

pub normal-length : (l : List Range) → length (normal l) ≤ length l
normal-length =
    normal-by (λ l out. length out ≤ length l) (omega arith) (λ r rs out h. omega (arith, add-length out r)) (λ r rs out h. omega arith)
