-- That columns and their refusals are those that the column writers write and give.
use Prim.Native.Nat.{ℕ, suc, ◌+◌, ◌-◌, ◌*◌}
use mathlib.Core.Path.{◌≡◌, refl, sym, ap, ◌∙◌}
use mathlib.Core.Bool.{Bool, true, false, ◌&&◌, and-true, and_self_left}
use mathlib.Core.List.{List, [], ◌∷◌, ◌++◌, append-nil}
use native.Mathlib.Omega.{arith}
use lib.Dec.{ltb, leb, eqb}
use lib.ListN.{length}
use borrow.Author.Tests.{eq-eqb, ne_eqb, eqb-true, eqb-false, leb-true, leb-false, le-leb, lt-leb}
use Rattle.numbers.specs.Number.{pick, unsigned, signed}
use Rattle.runs.specs.declared.ColumnKind.{ColumnKind}
use Rattle.runs.specs.declared.ColumnKind.TheVariants.{Number, Difference, Byte}
use Rattle.runs.specs.Number as number
use Rattle.runs.specs.Difference as difference
use Rattle.runs.specs.Byte as byte
use Rattle.runs.specs.Runs as old
use Rattle.meaning.specs.Reads.{when◌then◌else◌}
use Rattle.meaning.specs.Columns.{numbers, differences, octets, no_rise}
use Rattle.meaning_written.specs.Columns.{onto, runs, rises, runs_of, spelled, spelled_all, column, every, most, storable, near, why}
use Rattle.meaning_written.specs.Between.{kind_of}

abbrev Runs : Type 0
Runs = List (ℕ × ℕ)

pick-if : {A : Type 0} (b : Bool) (x y : A) → pick b x y ≡ (when b then x else y)
unfolding when◌then◌else◌
pick-if true x y = refl
pick-if false x y = refl

pick-and : (a b : Bool) → pick a b false ≡ (a && b)
pick-and true b = refl
pick-and false b = refl

-- ---- runs from the front, and runs from the back

-- a key, so often, in front of these
unfoldable front : ℕ → ℕ → Runs → Runs
front k n [] = (k, n) ∷ []
front k n (r ∷ rs) = when eqb k r.0 then (k, r.1 + n) ∷ rs else (k, n) ∷ r ∷ rs

front-one : (k : ℕ) (rs : Runs) → front k 1 rs ≡ onto k rs
unfolding front onto
front-one k [] = refl
front-one k (r ∷ rs) = refl

front_same : (k n : ℕ) (rs : Runs) → front k n (onto k rs) ≡ front k (n + 1) rs
unfolding front onto when◌then◌else◌
front_same k n [] = let more : 1 + n ≡ n + 1 = omega arith in rw (eq-eqb k k refl, more)
front_same k n (r ∷ rs) = go (eqb k r.0)
  where
    go : (b : Bool)
        → front k n (when b then (k, r.1 + 1) ∷ rs else (k, 1) ∷ r ∷ rs) ≡ (when b then (k, r.1 + (n + 1)) ∷ rs else (k, n + 1) ∷ r ∷ rs)
    go true = let more : r.1 + 1 + n ≡ r.1 + (n + 1) = omega arith in rw (eq-eqb k k refl, more)
    go false = let more : 1 + n ≡ n + 1 = omega arith in rw (eq-eqb k k refl, more)

-- the keys of values
unfoldable keys : old.Coding → ℕ → List ℕ → List ℕ
keys c p [] = []
keys c p (v ∷ vs) = c.key_of p v ∷ keys c v vs

-- What goes over the values with the run under way goes over the runs, if it says the same of a last run, and of one that another follows
module _ {X : Type 0} (c : old.Coding) (over : ℕ → ℕ → ℕ → List ℕ → X) (of : Runs → X)
    (ends : (p k n : ℕ) → over p k n [] ≡ of ((k, n + 1) ∷ []))
    (longer : (p k n v : ℕ) (vs : List ℕ) → eqb (c.key_of p v) k ≡ true → over p k n (v ∷ vs) ≡ over v k (n + 1) vs)
    (other : (p k n v : ℕ) (vs : List ℕ) (r : ℕ × ℕ) (rs : Runs) → eqb (c.key_of p v) k ≡ false → over v (c.key_of p v) 0 vs ≡ of (r ∷ rs)
    → over p k n (v ∷ vs) ≡ of ((k, n + 1) ∷ r ∷ rs)) where
  follows : (p k n v : ℕ) (vs : List ℕ) (rs : Runs) → eqb (c.key_of p v) k ≡ false → over v (c.key_of p v) 0 vs ≡ of (onto (c.key_of p v) rs)
      → over p k n (v ∷ vs) ≡ of (front k (n + 1) (onto (c.key_of p v) rs))
  unfolding front onto when◌then◌else◌
  follows p k n v vs rs e = go rs
    where
      not : eqb k (c.key_of p v) ≡ false
      not = ne_eqb k (c.key_of p v) (λ q. eqb-false (c.key_of p v) k e (sym q))

      go : (rs : Runs) → over v (c.key_of p v) 0 vs ≡ of (onto (c.key_of p v) rs) → over p k n (v ∷ vs) ≡ of (front k (n + 1) (onto (c.key_of p v) rs))
      go [] h = rw not (other p k n v vs (c.key_of p v, 1) [] e h)
      go (r ∷ rs) h = at (eqb (c.key_of p v) r.0) h
        where
          at : (b : Bool) → over v (c.key_of p v) 0 vs ≡ of (when b then (c.key_of p v, r.1 + 1) ∷ rs else (c.key_of p v, 1) ∷ r ∷ rs)
              → over p k n (v ∷ vs) ≡ of (front k (n + 1) (when b then (c.key_of p v, r.1 + 1) ∷ rs else (c.key_of p v, 1) ∷ r ∷ rs))
          at true h = rw not (other p k n v vs (c.key_of p v, r.1 + 1) rs e h)
          at false h = rw not (other p k n v vs (c.key_of p v, 1) (r ∷ rs) e h)

  over_runs : (p k n : ℕ) (vs : List ℕ) → over p k n vs ≡ of (front k (n + 1) (runs (keys c p vs)))
  unfolding keys runs front
  over_runs p k n [] = ends p k n
  over_runs p k n (v ∷ vs) = go (eqb (c.key_of p v) k) refl (λ l m. over_runs v l m vs)
    where
      rest : Runs
      rest = runs (keys c v vs)

      go : (b : Bool) → eqb (c.key_of p v) k ≡ b → ((l m : ℕ) → over v l m vs ≡ of (front l (m + 1) rest))
          → over p k n (v ∷ vs) ≡ of (front k (n + 1) (onto (c.key_of p v) rest))
      go true e on = longer p k n v vs e ∙ on k (n + 1) ∙ rw (eqb-true (c.key_of p v) k e) (ap of (sym (front_same k (n + 1) rest)))
      go false e on = follows p k n v vs rest e (on (c.key_of p v) 0 ∙ ap of (front-one (c.key_of p v) rest))

  -- no run is under way yet
  start-runs : (p v : ℕ) (vs : List ℕ) → over v (c.key_of p v) 0 vs ≡ of (runs (keys c p (v ∷ vs)))
  unfolding keys runs
  start-runs p v vs = over_runs v (c.key_of p v) 0 vs ∙ ap of (front-one (c.key_of p v) (runs (keys c v vs)))

-- the keys are the values, or their rises
values-are : (c : old.Coding) → ((p v : ℕ) → c.key_of p v ≡ v) → (p : ℕ) (vs : List ℕ) → keys c p vs ≡ vs
unfolding keys
values-are c same p [] = refl
values-are c same p (v ∷ vs) = rw (same p v, values-are c same v vs)

rises-are : (p : ℕ) (vs : List ℕ) → keys (old.coding Difference) p vs ≡ rises p vs
unfolding keys rises old.coding
rises-are p [] = refl
rises-are p (v ∷ vs) = ap (◌∷◌ (v + no_rise - p)) (rises-are v vs)

runs-are : (kind : ColumnKind) (vs : List ℕ) → runs (keys (old.coding kind) 0 vs) ≡ runs_of (kind_of kind) vs
unfolding old.coding kind_of runs_of
runs-are Number vs = ap runs (values-are (old.coding Number) (λ p v. refl) 0 vs)
runs-are Difference vs = ap runs (rises-are 0 vs)
runs-are Byte vs = ap runs (values-are (old.coding Byte) (λ p v. refl) 0 vs)

-- ---- the bytes

-- a run: the last one, and one that another follows
one_more : (n : ℕ) → eqb (n + 1) 1 ≡ eqb n 0
one_more n = go (eqb n 0) refl
  where
    go : (b : Bool) → eqb n 0 ≡ b → eqb (n + 1) 1 ≡ b
    go true e = eq-eqb (n + 1) 1 (omega (arith, eqb-true n 0 e))
    go false e = ne_eqb (n + 1) 1 (λ q. eqb-false n 0 e (omega arith))

number_spelled : (k n : ℕ) (last : Bool) → number.run_bytes k n ≡ spelled numbers k (n + 1) last
unfolding number.run_bytes spelled
number_spelled k n last =
    let less : n + 1 - 2 ≡ n - 1 = omega arith in
    rw (one_more n, less) (pick-if (eqb n 0) (signed false k) (signed true k ++ unsigned (n - 1)))

size_is : (k odd : ℕ) → difference.magnitude k odd ≡ (when ltb k no_rise then 2 * (no_rise - k) - odd else 2 * (k - no_rise) + odd)
unfolding difference.magnitude
size_is k odd = pick-if (ltb k no_rise) (2 * (no_rise - k) - odd) (2 * (k - no_rise) + odd)

difference-spelled : (k n : ℕ) (last : Bool) → difference.run_bytes k n ≡ spelled differences k (n + 1) last
unfolding difference.run_bytes spelled when◌then◌else◌
difference-spelled k n last = let less : n + 1 - 2 ≡ n - 1 = omega arith in rw (one_more n, less) (go (eqb n 0))
  where
    m : Bool
    m = ltb k no_rise

    go : (b : Bool) → pick b (signed m (difference.magnitude k 0)) (signed m (difference.magnitude k 1) ++ unsigned (n - 1))
        ≡ signed m (when m then 2 * (no_rise - k) - (when b then 0 else 1) else 2 * (k - no_rise) + (when b then 0 else 1)) ++ (when b then [] else unsigned (n - 1))
    go true = rw (size_is k 0) (sym (append-nil (signed m (when m then 2 * (no_rise - k) - 0 else 2 * (k - no_rise) + 0))))
    go false = rw (size_is k 1)

spell-same : (kind : ColumnKind) (k n : ℕ) → (old.coding kind).spell k n ≡ spelled (kind_of kind) k (n + 1) false
unfolding old.coding kind_of spelled byte.run_bytes when◌then◌else◌
spell-same Number k n = number_spelled k n false
spell-same Difference k n = difference-spelled k n false
spell-same Byte k n = let less : n + 1 - 1 ≡ n = omega arith in rw less

final-same : (kind : ColumnKind) (k n : ℕ) → (old.coding kind).final k n ≡ spelled (kind_of kind) k (n + 1) true
unfolding old.coding kind_of spelled when◌then◌else◌
final-same Number k n = number_spelled k n true
final-same Difference k n = difference-spelled k n true
final-same Byte k n = refl

column-runs : (kind : ColumnKind) (vs : List ℕ) → old.column_of kind vs ≡ spelled_all (kind_of kind) (runs (keys (old.coding kind) 0 vs))
unfolding old.column old.runs_after old.runs_on keys runs spelled_all
column-runs kind [] = refl
column-runs kind (v ∷ vs) = start-runs c (old.runs_on c) (spelled_all (kind_of kind)) ends longer other 0 v vs
  where
    c : old.Coding
    c = old.coding kind

    ends : (p k n : ℕ) → old.runs_on c p k n [] ≡ spelled_all (kind_of kind) ((k, n + 1) ∷ [])
    ends p k n = final-same kind k n ∙ sym (append-nil (spelled (kind_of kind) k (n + 1) true))

    longer : (p k n v : ℕ) (vs : List ℕ) → eqb (c.key_of p v) k ≡ true → old.runs_on c p k n (v ∷ vs) ≡ old.runs_on c v k (n + 1) vs
    longer p k n v vs e = rw e

    other : (p k n v : ℕ) (vs : List ℕ) (r : ℕ × ℕ) (rs : Runs) → eqb (c.key_of p v) k ≡ false
        → old.runs_on c v (c.key_of p v) 0 vs ≡ spelled_all (kind_of kind) (r ∷ rs)
        → old.runs_on c p k n (v ∷ vs) ≡ spelled_all (kind_of kind) ((k, n + 1) ∷ r ∷ rs)
    other p k n v vs r rs e h = rw (e, h, spell-same kind k n, ne_eqb (suc (length rs)) 0 (λ q. omega arith))

pub column-same : (kind : ColumnKind) (vs : List ℕ) → old.column_of kind vs ≡ column (kind_of kind) vs
unfolding column
column-same kind vs = column-runs kind vs ∙ ap (spelled_all (kind_of kind)) (runs-are kind vs)

pub numbers-same : (vs : List ℕ) → old.column_of Number vs ≡ column numbers vs
unfolding kind_of
numbers-same vs = column-same Number vs

pub differences-same : (vs : List ℕ) → old.column_of Difference vs ≡ column differences vs
unfolding kind_of
differences-same vs = column-same Difference vs

pub bytes_same : (vs : List ℕ) → old.column_of Byte vs ≡ column octets vs
unfolding kind_of
bytes_same vs = column-same Byte vs

-- ---- the refusals

within_all : (m : ℕ) (vs : List ℕ) → old.within m vs ≡ every (λ v. leb v m) vs
unfolding old.within every
within_all m [] = refl
within_all m (v ∷ vs) = rw (within_all m vs) (pick-and (leb v m) (every (λ v. leb v m) vs))

most-same : (kind : ColumnKind) → (old.coding kind).most ≡ most (kind_of kind)
unfolding old.coding kind_of most
most-same Number = refl
most-same Difference = refl
most-same Byte = refl

within_same : (kind : ColumnKind) (vs : List ℕ) → old.within (old.coding kind).most vs ≡ every (λ v. leb v (most (kind_of kind))) vs
within_same kind vs = rw (most-same kind) (within_all (most (kind_of kind)) vs)

-- how often less one, and how often
least : (n m : ℕ) → leb n m ≡ leb (n + 1) (m + 1)
least n m = go (leb n m) refl
  where
    go : (b : Bool) → leb n m ≡ b → b ≡ leb (n + 1) (m + 1)
    go true e = sym (le-leb (n + 1) (m + 1) (omega (arith, leb-true n m e)))
    go false e = sym (lt-leb (n + 1) (m + 1) (omega (arith, leb-false n m e)))

last_fits : (kind : ColumnKind) (k n : ℕ) → (old.coding kind).last_fits n ≡ storable (kind_of kind) ((k, n + 1) ∷ [])
unfolding old.coding old.fits_less_two kind_of storable
last_fits Number k n = least n 2147483646 ∙ sym (and-true (leb (n + 1) 2147483647))
last_fits Difference k n = least n 2147483646 ∙ sym (and-true (leb (n + 1) 2147483647))
last_fits Byte k n = refl

run_fits : (kind : ColumnKind) (k n : ℕ) (r : ℕ × ℕ) (rs : Runs)
    → pick ((old.coding kind).fits n) (storable (kind_of kind) (r ∷ rs)) false ≡ storable (kind_of kind) ((k, n + 1) ∷ r ∷ rs)
unfolding old.coding old.fits_less_two old.fits_less_one kind_of storable
run_fits Number k n r rs = rw (least n 2147483646) (pick-and (leb (n + 1) 2147483647) (storable numbers (r ∷ rs)))
run_fits Difference k n r rs = rw (least n 2147483646) (pick-and (leb (n + 1) 2147483647) (storable differences (r ∷ rs)))
run_fits Byte k n r rs = rw (least n 2147483645) (pick-and (leb (n + 1) 2147483646) (storable octets (r ∷ rs)))

storable-runs : (kind : ColumnKind) (vs : List ℕ) → old.storable (old.coding kind) 0 vs ≡ storable (kind_of kind) (runs (keys (old.coding kind) 0 vs))
unfolding old.storable old.over_fits keys runs storable
storable-runs kind [] = refl
storable-runs kind (v ∷ vs) = start-runs c (old.over_fits c) (storable (kind_of kind)) (λ p k n. last_fits kind k n) longer other 0 v vs
  where
    c : old.Coding
    c = old.coding kind

    longer : (p k n v : ℕ) (vs : List ℕ) → eqb (c.key_of p v) k ≡ true → old.over_fits c p k n (v ∷ vs) ≡ old.over_fits c v k (n + 1) vs
    longer p k n v vs e = rw e

    other : (p k n v : ℕ) (vs : List ℕ) (r : ℕ × ℕ) (rs : Runs) → eqb (c.key_of p v) k ≡ false
        → old.over_fits c v (c.key_of p v) 0 vs ≡ storable (kind_of kind) (r ∷ rs)
        → old.over_fits c p k n (v ∷ vs) ≡ storable (kind_of kind) ((k, n + 1) ∷ r ∷ rs)
    other p k n v vs r rs e h = rw (e, h) (run_fits kind k n r rs)

near-key : (kind : ColumnKind) (k : ℕ) → (old.coding kind).near k ≡ near (kind_of kind) k
unfolding old.coding old.near_key kind_of near
near-key Number k = refl
near-key Difference k = pick-and (leb 1073741824 k) (ltb k 3221225472)
near-key Byte k = refl

near-keys : (kind : ColumnKind) (p : ℕ) (vs : List ℕ) → old.spellable (old.coding kind) p vs ≡ every (near (kind_of kind)) (keys (old.coding kind) p vs)
unfolding old.spellable every keys
near-keys kind p [] = refl
near-keys kind p (v ∷ vs) =
    let k = (old.coding kind).key_of p v in
    rw (near-key kind k, near-keys kind v vs) (pick-and (near (kind_of kind) k) (every (near (kind_of kind)) (keys (old.coding kind) v vs)))

pub near_same : (vs : List ℕ) → old.spellable (old.coding Difference) 0 vs ≡ every (near differences) (rises 0 vs)
unfolding kind_of
near_same vs = near-keys Difference 0 vs ∙ ap (every (near differences)) (rises-are 0 vs)

-- what all keys have all runs have
module _ (test : ℕ → Bool) where
  abbrev of_runs : Runs → Bool
  of_runs rs = every (λ (r : ℕ × ℕ). test r.0) rs

  all-onto : (v : ℕ) (rs : Runs) → of_runs (onto v rs) ≡ (test v && of_runs rs)
  unfolding every onto when◌then◌else◌
  all-onto v [] = refl
  all-onto v (r ∷ rs) = go (eqb v r.0) refl
    where
      go : (b : Bool) → eqb v r.0 ≡ b → of_runs (when b then (v, r.1 + 1) ∷ rs else (v, 1) ∷ r ∷ rs) ≡ (test v && (test r.0 && of_runs rs))
      go true e = rw (← (eqb-true v r.0 e)) (sym (and_self_left (test v) (of_runs rs)))
      go false e = refl

  all_runs : (ks : List ℕ) → every test ks ≡ of_runs (runs ks)
  unfolding every runs
  all_runs [] = refl
  all_runs (k ∷ ks) = rw (all-onto k (runs ks), all_runs ks)

by_number : (a b c : Bool) → ◌≡◌ {A = ℕ} (pick a (pick b (pick c 0 13) 3) 3) (when a && b then (when c then 0 else 13) else 3)
unfolding when◌then◌else◌
by_number true true c = pick-if c 0 13
by_number true false c = refl
by_number false b c = refl

pub why-same : (kind : ColumnKind) (vs : List ℕ) → old.why_of kind vs ≡ why (kind_of kind) vs
unfolding old.why why
why-same kind vs =
    let to = kind_of kind in
    let rs = runs_of to vs in
    rw (
      within_same kind vs,
      storable-runs kind vs,
      near-keys kind 0 vs,
      all_runs (near to) (keys (old.coding kind) 0 vs),
      runs-are kind vs,
    )
    (by_number (every (λ v. leb v (most to)) vs) (storable to rs) (every (λ (r : ℕ × ℕ). near to r.0) rs))

pub numbers-why : (vs : List ℕ) → old.why_of Number vs ≡ why numbers vs
unfolding kind_of
numbers-why vs = why-same Number vs

pub differences-why : (vs : List ℕ) → old.why_of Difference vs ≡ why differences vs
unfolding kind_of
differences-why vs = why-same Difference vs

pub bytes-why : (vs : List ℕ) → old.why_of Byte vs ≡ why octets vs
unfolding kind_of
bytes-why vs = why-same Byte vs
