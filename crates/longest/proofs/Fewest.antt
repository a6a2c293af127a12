-- The writers' runs are the longest there are: their number is how often keys change, which no list of runs can go below.
use Prim.Native.Nat.{ℕ, zero, suc, ◌+◌, ◌-◌, ◌≤◌, ◌<◌}
use mathlib.Core.Path.{◌≡◌, refl, sym, ap, subst, ◌∙◌}
use mathlib.Core.Bool.{Bool, true, false, false≢true}
use mathlib.Core.List.{List, [], ◌∷◌, ◌++◌, append-nil, nil≢cons, head-eq_of_cons-eq, tail-eq_of_cons-eq}
use native.Mathlib.Nat.{zero-add}
use native.Mathlib.Numerals.{add-one}
use native.Mathlib.Omega.{arith}
use lib.Dec.{leb, eqb}
use lib.ListN.{length, replicate}
use borrow.Author.Tests.{eq-eqb, eqb-true, eqb-false, leb-true}
use Rattle.numbers.specs.Number.{pick}
use Rattle.numbers.specs.Limits.{max_value, max_clock}
use Rattle.runs.specs.declared.ColumnKind.{ColumnKind}
use Rattle.runs.specs.declared.ColumnKind.TheVariants.{Number, Difference, Byte}
use Rattle.runs.specs.Difference.{zero_key}
use Rattle.runs.specs.Runs.{Coding, coding, runs_on, runs_after, column, within}
use Rattle.longest.specs.Longest.{Run, expanded, Rule, Stand, AtLeastOnce, Says, leads_in, leads_by, spelled, Apart, Longest, OfCodings, OfColumns}

-- ---- the keys of values

unfoldable keys_of : Coding → ℕ → List ℕ → List ℕ
keys_of c p [] = []
keys_of c p (v ∷ vs) = c.key_of p v ∷ keys_of c v vs

stand-keys : (c : Coding) (p : ℕ) (vs : List ℕ) → Stand (leads_by c) p (keys_of c p vs) vs
unfolding Stand keys_of
stand-keys c p [] = tt
stand-keys c p (v ∷ vs) = (refl, stand-keys c v vs)

keys-stand : (c : Coding) (p : ℕ) (ks vs : List ℕ) → Stand (leads_by c) p ks vs → ks ≡ keys_of c p vs
unfolding Stand keys_of
keys-stand c p [] [] h = refl
keys-stand c p [] (v ∷ vs) h = absurd h
keys-stand c p (k ∷ ks) [] h = absurd h
keys-stand c p (k ∷ ks) (v ∷ vs) h = cc (h.0, keys-stand c v ks vs h.1)

-- ---- how often keys change, after the key k

unfoldable turns : ℕ → List ℕ → ℕ
turns k [] = 0
turns k (x ∷ xs) = pick (eqb x k) 0 1 + turns x xs

-- a key again changes nothing
turns_same : (k n : ℕ) (xs : List ℕ) → turns k (replicate n k ++ xs) ≡ turns k xs
unfolding turns
turns_same k zero xs = refl
turns_same k (suc n) xs = rw (eq-eqb k k refl, zero-add) (turns_same k n xs)

one-turn : (b : Bool) (n : ℕ) → pick b 0 1 + n ≤ suc n
one-turn true n = omega arith
one-turn false n = omega arith

-- runs change keys no more often than there are runs
few-turns : (k : ℕ) (rs : List Run) → AtLeastOnce rs → turns k (expanded rs) ≤ length rs
unfolding turns expanded AtLeastOnce
few-turns k [] h = omega arith
few-turns k (r ∷ rs) h = go r.times h.0 (few-turns r.key rs h.1)
  where
    go : (n : ℕ) → 1 ≤ n → turns r.key (expanded rs) ≤ length rs → turns k (replicate n r.key ++ expanded rs) ≤ suc (length rs)
    go zero some few = absurd (omega arith)
    go (suc n) some few =
        let same = turns_same r.key n (expanded rs) in
        let one = one-turn (eqb r.key k) (turns r.key (replicate n r.key ++ expanded rs)) in
        omega arith

-- of keys that begin with k there are as many runs as changes, and one
fewest-of : (k : ℕ) (ks : List ℕ) (rs : List Run) → AtLeastOnce rs → expanded rs ≡ k ∷ ks → suc (turns k ks) ≤ length rs
unfolding expanded AtLeastOnce
fewest-of k ks [] some e = absurd (nil≢cons e)
fewest-of k ks (r ∷ rs) some e = go r.times some.0 e
  where
    go : (n : ℕ) → 1 ≤ n → replicate n r.key ++ expanded rs ≡ k ∷ ks → suc (turns k ks) ≤ suc (length rs)
    go zero one e = absurd (omega arith)
    go (suc n) one e =
        let same : turns k ks ≡ turns r.key (expanded rs) =
        cc (head-eq_of_cons-eq e, tail-eq_of_cons-eq e, turns_same r.key n (expanded rs)) in
        let few = few-turns r.key rs some.1 in
        omega arith

-- ---- the writer's own runs: of a key k that stood n + 1 times so far, the last time for the value p, and of the values that follow

unfoldable runs_over : Coding → ℕ → ℕ → ℕ → List ℕ → List Run
runs_over c p k n [] = record { key = k; times = n + 1 } ∷ []
runs_over c p k n (v ∷ vs) =
    pick (eqb (c.key_of p v) k) (runs_over c v k (n + 1) vs) (record { key = k; times = n + 1 } ∷ runs_over c v (c.key_of p v) 0 vs)

unfoldable runs_of : Coding → List ℕ → List Run
runs_of c [] = []
runs_of c (v ∷ vs) = runs_over c v (c.key_of 0 v) 0 vs

-- their number
over-many : (c : Coding) (p k n : ℕ) (vs : List ℕ) → length (runs_over c p k n vs) ≡ suc (turns k (keys_of c p vs))
unfolding runs_over turns keys_of
over-many c p k n [] = refl
over-many c p k n (v ∷ vs) = go (eqb (c.key_of p v) k) refl (over-many c v k (n + 1) vs) (over-many c v (c.key_of p v) 0 vs)
  where
    go : (b : Bool) → eqb (c.key_of p v) k ≡ b → length (runs_over c v k (n + 1) vs) ≡ suc (turns k (keys_of c v vs))
        → length (runs_over c v (c.key_of p v) 0 vs) ≡ suc (turns (c.key_of p v) (keys_of c v vs))
        → length (pick b (runs_over c v k (n + 1) vs) (record { key = k; times = n + 1 } ∷ runs_over c v (c.key_of p v) 0 vs)) ≡ suc (pick b 0 1 + turns (c.key_of p v) (keys_of c v vs))
    go true e same other = rw (eqb-true (c.key_of p v) k e, zero-add) same
    go false e same other = omega arith

-- the first of them has the key k; each stands at least once
over-once : (c : Coding) (p k n : ℕ) (vs : List ℕ) → AtLeastOnce (runs_over c p k n vs)
unfolding runs_over AtLeastOnce
over-once c p k n [] = (omega arith, tt)
over-once c p k n (v ∷ vs) = go (eqb (c.key_of p v) k) (over-once c v k (n + 1) vs) (over-once c v (c.key_of p v) 0 vs)
  where
    go : (b : Bool) → AtLeastOnce (runs_over c v k (n + 1) vs) → AtLeastOnce (runs_over c v (c.key_of p v) 0 vs)
        → AtLeastOnce (pick b (runs_over c v k (n + 1) vs) (record { key = k; times = n + 1 } ∷ runs_over c v (c.key_of p v) 0 vs))
    go true same other = same
    go false same other = (omega arith, other)

-- their keys are those of the values
again : (n k : ℕ) (xs : List ℕ) → replicate (suc n) k ++ xs ≡ replicate n k ++ (k ∷ xs)
again zero k xs = refl
again (suc n) k xs = ap (λ (l : List ℕ). k ∷ l) (again n k xs)

once_more : (n k : ℕ) (xs : List ℕ) → replicate (n + 1) k ++ xs ≡ replicate n k ++ (k ∷ xs)
once_more n k xs = rw (add-one n) (again n k xs)

over-keys : (c : Coding) (p k n : ℕ) (vs : List ℕ) → expanded (runs_over c p k n vs) ≡ replicate (n + 1) k ++ keys_of c p vs
unfolding runs_over expanded keys_of
over-keys c p k n [] = refl
over-keys c p k n (v ∷ vs) = go (eqb (c.key_of p v) k) refl (over-keys c v k (n + 1) vs) (over-keys c v (c.key_of p v) 0 vs)
  where
    go : (b : Bool) → eqb (c.key_of p v) k ≡ b → expanded (runs_over c v k (n + 1) vs) ≡ replicate (n + 1 + 1) k ++ keys_of c v vs
        → expanded (runs_over c v (c.key_of p v) 0 vs) ≡ replicate (0 + 1) (c.key_of p v) ++ keys_of c v vs
        → expanded (pick b (runs_over c v k (n + 1) vs) (record { key = k; times = n + 1 } ∷ runs_over c v (c.key_of p v) 0 vs)) ≡ replicate (n + 1) k ++ (c.key_of p v ∷ keys_of c v vs)
    go true e same other = rw (eqb-true (c.key_of p v) k e) (same ∙ once_more (n + 1) k (keys_of c v vs))
    go false e same other = ap (λ (l : List ℕ). replicate (n + 1) k ++ l) other

-- a run before them that has another key
over_first : (c : Coding) (p k n j m : ℕ) (vs : List ℕ) → (j ≡ k → ⊥) → Apart (runs_over c p k n vs) → Apart (record { key = j; times = m } ∷ runs_over c p k n vs)
unfolding runs_over Apart
over_first c p k n j m [] ne h = (ne, tt)
over_first c p k n j m (v ∷ vs) ne h = go (eqb (c.key_of p v) k) h (over_first c v k (n + 1) j m vs ne)
  where
    go : (b : Bool) → Apart (pick b (runs_over c v k (n + 1) vs) (record { key = k; times = n + 1 } ∷ runs_over c v (c.key_of p v) 0 vs))
        → (Apart (runs_over c v k (n + 1) vs) → Apart (record { key = j; times = m } ∷ runs_over c v k (n + 1) vs))
        → Apart (record { key = j; times = m } ∷ pick b (runs_over c v k (n + 1) vs) (record { key = k; times = n + 1 } ∷ runs_over c v (c.key_of p v) 0 vs))
    go true h more = more h
    go false h more = (ne, h)

over-apart : (c : Coding) (p k n : ℕ) (vs : List ℕ) → Apart (runs_over c p k n vs)
unfolding runs_over Apart
over-apart c p k n [] = tt
over-apart c p k n (v ∷ vs) = go (eqb (c.key_of p v) k) refl (over-apart c v k (n + 1) vs) (over-apart c v (c.key_of p v) 0 vs)
  where
    go : (b : Bool) → eqb (c.key_of p v) k ≡ b → Apart (runs_over c v k (n + 1) vs) → Apart (runs_over c v (c.key_of p v) 0 vs)
        → Apart (pick b (runs_over c v k (n + 1) vs) (record { key = k; times = n + 1 } ∷ runs_over c v (c.key_of p v) 0 vs))
    go true e same other = same
    go false e same other = over_first c v (c.key_of p v) 0 k (n + 1) vs (λ q. eqb-false (c.key_of p v) k e (sym q)) other

-- ---- what is written is their spelling

after_first : (c : Coding) (r : Run) (p k n : ℕ) (vs : List ℕ)
    → spelled c (r ∷ runs_over c p k n vs) ≡ c.spell r.key (r.times - 1) ++ spelled c (runs_over c p k n vs)
unfolding spelled runs_over
after_first c r p k n [] = refl
after_first c r p k n (v ∷ vs) = go (eqb (c.key_of p v) k) (after_first c r v k (n + 1) vs)
  where
    rest : Bool → List Run
    rest b = pick b (runs_over c v k (n + 1) vs) (record { key = k; times = n + 1 } ∷ runs_over c v (c.key_of p v) 0 vs)

    go : (b : Bool) → spelled c (r ∷ runs_over c v k (n + 1) vs) ≡ c.spell r.key (r.times - 1) ++ spelled c (runs_over c v k (n + 1) vs)
        → spelled c (r ∷ rest b) ≡ c.spell r.key (r.times - 1) ++ spelled c (rest b)
    go true h = h
    go false h = refl

over-spelled : (c : Coding) (p k n : ℕ) (vs : List ℕ) → runs_on c p k n vs ≡ spelled c (runs_over c p k n vs)
unfolding runs_on spelled runs_over
over-spelled c p k n [] = let less : n + 1 - 1 ≡ n = omega arith in rw less
over-spelled c p k n (v ∷ vs) = go (eqb (c.key_of p v) k) (over-spelled c v k (n + 1) vs) (over-spelled c v (c.key_of p v) 0 vs)
  where
    less : n + 1 - 1 ≡ n
    less = omega arith

    go : (b : Bool) → runs_on c v k (n + 1) vs ≡ spelled c (runs_over c v k (n + 1) vs) → runs_on c v (c.key_of p v) 0 vs ≡ spelled c (runs_over c v (c.key_of p v) 0 vs)
        → pick b (runs_on c v k (n + 1) vs) (c.spell k n ++ runs_on c v (c.key_of p v) 0 vs)
        ≡ spelled c (pick b (runs_over c v k (n + 1) vs) (record { key = k; times = n + 1 } ∷ runs_over c v (c.key_of p v) 0 vs))
    go true same other = same
    go false same other = rw (other, after_first c (record { key = k; times = n + 1 }) v (c.key_of p v) 0 vs, less)

-- ---- runs whose neighbours differ are told by their keys

-- the first of these keys, if there is one, is not k
unfoldable NotFirst : ℕ → List ℕ → Type 0
NotFirst k [] = Unit {0}
NotFirst k (x ∷ xs) = k ≡ x → ⊥

peel : (k j n m : ℕ) (xs ys : List ℕ) → NotFirst k xs → NotFirst j ys → replicate (suc n) k ++ xs ≡ replicate (suc m) j ++ ys
    → (k ≡ j) × (n ≡ m) × (xs ≡ ys)
unfolding NotFirst
peel k j zero zero xs ys h g e = (head-eq_of_cons-eq e, refl, tail-eq_of_cons-eq e)
peel k j zero (suc m) [] ys h g e = absurd (nil≢cons (tail-eq_of_cons-eq e))
peel k j zero (suc m) (x ∷ xs) ys h g e = absurd (h (head-eq_of_cons-eq e ∙ sym (head-eq_of_cons-eq (tail-eq_of_cons-eq e))))
peel k j (suc n) zero xs [] h g e = absurd (nil≢cons (sym (tail-eq_of_cons-eq e)))
peel k j (suc n) zero xs (y ∷ ys) h g e = absurd (g (sym (head-eq_of_cons-eq e) ∙ head-eq_of_cons-eq (tail-eq_of_cons-eq e)))
peel k j (suc n) (suc m) xs ys h g e =
    let rest = peel k j n m xs ys h g (tail-eq_of_cons-eq e) in
    (rest.0, ap suc rest.1, rest.2)

not_first : (r : Run) (rs : List Run) → AtLeastOnce rs → Apart (r ∷ rs) → NotFirst r.key (expanded rs)
unfolding NotFirst AtLeastOnce Apart expanded
not_first r [] some h = tt
not_first r (s ∷ rs) some h = go s.times some.0
  where
    go : (n : ℕ) → 1 ≤ n → NotFirst r.key (replicate n s.key ++ expanded rs)
    go zero one = absurd (omega arith)
    go (suc n) one = h.0

apart-rest : (r : Run) (rs : List Run) → Apart (r ∷ rs) → Apart rs
unfolding Apart
apart-rest r [] h = tt
apart-rest r (s ∷ rs) h = h.1

some-keys : (r : Run) (rs : List Run) → 1 ≤ r.times → expanded (r ∷ rs) ≡ replicate (suc (r.times - 1)) r.key ++ expanded rs
unfolding expanded
some-keys r rs h = let back : r.times ≡ suc (r.times - 1) = omega arith in ap (λ (n : ℕ). replicate n r.key ++ expanded rs) back

same_runs : (rs ss : List Run) → AtLeastOnce rs → AtLeastOnce ss → Apart rs → Apart ss → expanded rs ≡ expanded ss → rs ≡ ss
unfolding AtLeastOnce expanded
same_runs [] [] some some' h g e = refl
same_runs [] (s ∷ ss) some some' h g e = absurd (nil≢cons (e ∙ some-keys s ss some'.0))
same_runs (r ∷ rs) [] some some' h g e = absurd (nil≢cons (sym e ∙ some-keys r rs some.0))
same_runs (r ∷ rs) (s ∷ ss) some some' h g e =
    let first = peel r.key s.key (r.times - 1) (s.times - 1) (expanded rs) (expanded ss)
    (not_first r rs some.1 h) (not_first s ss some'.1 g) (sym (some-keys r rs some.0) ∙ e ∙ some-keys s ss some'.0) in
    let times : r.times ≡ s.times = omega (arith, first.1, some.0, some'.0) in
    let rest = same_runs rs ss some.1 some'.1 (apart-rest r rs h) (apart-rest s ss g) first.2 in
    let one : r ≡ s = ap (λ (k : ℕ). record { key = k; times = r.times }) first.0 ∙ ap (λ (n : ℕ). record { key = s.key; times = n }) times in
    cc (one, rest)

-- ---- of every coding

written_of : (c : Coding) (vs : List ℕ) → column c vs ≡ spelled c (runs_of c vs)
unfolding column runs_after runs_of spelled
written_of c [] = refl
written_of c (v ∷ vs) = over-spelled c v (c.key_of 0 v) 0 vs

keys-of : (c : Coding) (vs : List ℕ) → expanded (runs_of c vs) ≡ keys_of c 0 vs
unfolding runs_of expanded keys_of
keys-of c [] = refl
keys-of c (v ∷ vs) = over-keys c v (c.key_of 0 v) 0 vs

once-of : (c : Coding) (vs : List ℕ) → AtLeastOnce (runs_of c vs)
unfolding runs_of AtLeastOnce
once-of c [] = tt
once-of c (v ∷ vs) = over-once c v (c.key_of 0 v) 0 vs

apart_of : (c : Coding) (vs : List ℕ) → Apart (runs_of c vs)
unfolding runs_of Apart
apart_of c [] = tt
apart_of c (v ∷ vs) = over-apart c v (c.key_of 0 v) 0 vs

least-of : (c : Coding) (vs : List ℕ) (rs : List Run) → AtLeastOnce rs → expanded rs ≡ keys_of c 0 vs → length (runs_of c vs) ≤ length rs
unfolding runs_of keys_of
least-of c [] rs some e = omega arith
least-of c (v ∷ vs) rs some e =
    let many = over-many c v (c.key_of 0 v) 0 vs in
    let few = fewest-of (c.key_of 0 v) (keys_of c v vs) rs some e in
    omega arith

pub of-codings : OfCodings
of-codings c vs = record {
  runs = runs_of c vs;
  written = written_of c vs;
  says = (once-of c vs, rw keys-of (stand-keys c 0 vs));
  apart = apart_of c vs;
  fewest = λ others h. least-of c vs others h.0 (keys-stand c 0 (expanded others) vs h.1);
  only = λ others h apart. same_runs others (runs_of c vs) h.0 (once-of c vs) apart (apart_of c vs)
      (keys-stand c 0 (expanded others) vs h.1 ∙ sym (keys-of c vs));
}

-- ---- of the three columns: a key leads to a value exactly when it is the value's key

within-cons : (m v : ℕ) (vs : List ℕ) → within m (v ∷ vs) ≡ true → (v ≤ m) × (within m vs ≡ true)
unfolding within
within-cons m v vs h = go (leb v m) refl h
  where
    go : (b : Bool) → leb v m ≡ b → pick b (within m vs) false ≡ true → (v ≤ m) × (within m vs ≡ true)
    go true e h = (leb-true v m e, h)
    go false e h = absurd (false≢true h)

stands-as : (leads also : Rule) (m p : ℕ) (ks vs : List ℕ) → ((p k v : ℕ) → p ≤ m → leads p k v → also p k v)
    → p ≤ m → within m vs ≡ true → Stand leads p ks vs → Stand also p ks vs
unfolding Stand within
stands-as leads also m p [] [] same low h s = tt
stands-as leads also m p [] (v ∷ vs) same low h s = absurd s
stands-as leads also m p (k ∷ ks) [] same low h s = absurd s
stands-as leads also m p (k ∷ ks) (v ∷ vs) same low h s =
    let inside = within-cons m v vs h in
    (same p k v low s.0, stands-as leads also m v ks vs same inside.0 inside.1 s.1)

key-leads : (col : ColumnKind) (p k v : ℕ) → p ≤ (coding col).most → leads_in col p k v → leads_by (coding col) p k v
unfolding leads_in coding
key-leads Number p k v low h = h
key-leads Difference p k v low h = omega arith
key-leads Byte p k v low h = h

leads-key : (col : ColumnKind) (p k v : ℕ) → p ≤ (coding col).most → leads_by (coding col) p k v → leads_in col p k v
unfolding leads_in coding
leads-key Number p k v low h = h
leads-key Difference p k v low h = omega arith
leads-key Byte p k v low h = h

pub of-columns : OfColumns
of-columns col vs inside =
    let base = of-codings (coding col) vs in
    let low : 0 ≤ (coding col).most = omega arith in
    let by-coding : (rs : List Run) → Says (leads_in col) rs vs → Says (leads_by (coding col)) rs vs =
    λ rs h. (h.0, stands-as (leads_in col) (leads_by (coding col)) (coding col).most 0 (expanded rs) vs (key-leads col) low inside h.1) in
    record {
      runs = base.runs;
      written = base.written;
      says = (base.says.0, stands-as (leads_by (coding col)) (leads_in col) (coding col).most 0 (expanded base.runs) vs (leads-key col) low inside base.says.1);
      apart = base.apart;
      fewest = λ others h. base.fewest others (by-coding others h);
      only = λ others h apart. base.only others (by-coding others h) apart;
    }
