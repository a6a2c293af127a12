-- What is written is read, for any column: by induction on the values, what a run under way still gives and what the bytes after it give are the values to come.
use Prim.Native.Nat.{ℕ, suc, ◌+◌, ◌≤◌}
use mathlib.Core.Path.{◌≡◌, refl, sym, subst, ap}
use mathlib.Core.Bool.{Bool, true, false}
use mathlib.Core.List.{List, [], ◌∷◌, ◌++◌, append-nil, append_assoc}
use native.Mathlib.Nat.{add-zero, zero-add, suc-add}
use native.Mathlib.Omega.{arith}
use lib.Dec.{eqb, leb}
use lib.ListN.{length, get_or}
use borrow.Author.Tests.{leb-true, eqb-true}
use Rattle.numbers.specs.declared.Refusal.{Refusal}
use Rattle.numbers.specs.Number.{pick, none}
use Rattle.runs.specs.Runs.{Coding, runs_on, runs_after, column, within, over_fits, storable, spellable, why}
use Rattle.columns.specs.Reading.{Draw, drew, stop, Reading, and_then, reads}

-- the value v comes after p with the key k, both within the column's limit
pub record Step (c : Coding) (p v k : ℕ) : Type 0 where
  pub low : p ≤ c.most
  pub high : v ≤ c.most
  pub key : c.key_of p v ≡ k

-- a run is the last, or bytes of others follow
pub data Follows : Bool → List ℕ → Type 0 where
  nothing : Follows true []
  others : {q : List ℕ} → Follows false q

abbrev pub spelled : Coding → Bool → ℕ → ℕ → List ℕ
spelled c e k n = pick e (c.final k n) (c.spell k n)

abbrev pub stored : Coding → Bool → ℕ → Bool
stored c e n = pick e (c.last_fits n) (c.fits n)

-- What a column's reader has to do. `place e at from p k n`: the next byte at `at`, in a run from `from` on, the last one if e,
-- after the value p, whose key k still stands n times.
pub record Reader (c : Coding) {P : Type 0} (next : List ℕ → P → Draw P) : Type 0 where
  pub place : Bool → ℕ → ℕ → ℕ → ℕ → ℕ → P
  pub goes : (s : List ℕ) (e : Bool) (at from p v k n : ℕ) → Step c p v k
      → next s (place e at from p k (suc n)) ≡ drew v (place e at from v k n)
  pub begins : (pre q : List ℕ) (e : Bool) (from p l v k n : ℕ) → Follows e q → Step c p v k → c.near k ≡ true → stored c e n ≡ true
      → next (pre ++ (spelled c e k n ++ q)) (place false (length pre) from p l 0) ≡ drew v (place e (length (pre ++ spelled c e k n)) (length pre) v k n)

-- values before what is read
abbrev pub onto : List ℕ → Reading → Reading
onto vs r = record { values = vs ++ r.values; refusal = r.refusal }

-- refused where the bytes end
abbrev pub at_end : List ℕ → Refusal
at_end s = record { number = 1; place = length s }

pub both : (a b : Bool) → pick a b false ≡ true → (a ≡ true) × (b ≡ true)
both true b h = (refl, h)
both false b h = let z : ◌≡◌ {A = ℕ} 0 1 = cc in absurd (omega arith)

why-says : (c : Coding) (vs : List ℕ) → why c vs ≡ 0
    → (within c.most vs ≡ true) × (storable c 0 vs ≡ true) × (spellable c 0 vs ≡ true)
unfolding why
why-says c vs h = go (within c.most vs) (storable c 0 vs) (spellable c 0 vs) h
  where
    go : (a b d : Bool) → ◌≡◌ {A = ℕ} (pick a (pick b (pick d 0 13) 3) 3) 0 → (a ≡ true) × (b ≡ true) × (d ≡ true)
    go true true true h = (refl, refl, refl)
    go true true false h = absurd (omega arith)
    go true false d h = absurd (omega arith)
    go false b d h = absurd (omega arith)

-- ---- a draw at a time

-- draws give these values one after the other, and of the place after them End holds
abbrev pub Gives : {P : Type 0} → (P → Draw P) → (P → Type 0) → P → List ℕ → Type 0
Gives next End c [] = End c
Gives {P} next End c (v ∷ vs) = (d : P) × (next c ≡ drew v d) × Gives next End d vs

-- so a reading gives them, and then what it gives from that place on
pub gives-reads : {P : Type 0} (next : P → Draw P) (m : ℕ) (r : Reading) (vs : List ℕ) (c : P) → Gives next (λ d. reads next m d ≡ r) c vs
    → reads next (length vs + m) c ≡ onto vs r
unfolding reads and_then
gives-reads next m r [] c h = rw zero-add h
gives-reads next m r (v ∷ vs) c h = rw (suc-add, h.1) (ap (onto (v ∷ [])) (gives-reads next m r vs h.0 h.2))

-- The values are drawn, and then End holds of where the bytes end, of the last value and of the place.
module _ {c : Coding} {P : Type 0} {next : List ℕ → P → Draw P} (r : Reader c next) (End : List ℕ → ℕ → P → Type 0)
    (end : (s : List ℕ) (from b p k : ℕ) → Step c b p k → End s p (r.place true (length s) from p k 0)) where
  -- after the value p, whose key k stood n + 1 times so far: how often it still stands, whether its run is the last, and the bytes after the run
  record Ahead (p k n : ℕ) (vs : List ℕ) : Type 0 where
    more : ℕ
    ends : Bool
    rest : List ℕ
    follows : Follows ends rest
    bytes : runs_on c p k n vs ≡ spelled c ends k (n + more) ++ rest
    fits : stored c ends (n + more) ≡ true
    gives : (done : List ℕ) (from : ℕ)
        → Gives (next (done ++ rest)) (End (done ++ rest) (get_or (p ∷ vs) (length vs) 0)) (r.place ends (length done) from p k more) vs

  -- a run begins
  first : (pre vs : List ℕ) (from p l v : ℕ) → Step c p v (c.key_of p v) → c.near (c.key_of p v) ≡ true → Ahead v (c.key_of p v) 0 vs
      → Gives (next (pre ++ runs_on c v (c.key_of p v) 0 vs)) (End (pre ++ runs_on c v (c.key_of p v) 0 vs) (get_or (v ∷ vs) (length vs) 0))
      (r.place false (length pre) from p l 0) (v ∷ vs)
  first pre vs from p l v st near a =
      let k : ℕ = c.key_of p v in
      let b : List ℕ = spelled c a.ends k a.more in
      let bytes : runs_on c v k 0 vs ≡ b ++ a.rest = rw zero-add at a.bytes in
      let last : ℕ = get_or (v ∷ vs) (length vs) 0 in
      let whole : (z : List ℕ) → Type 0 = λ (z : List ℕ). Gives (next (pre ++ z)) (End (pre ++ z) last) (r.place false (length pre) from p l 0) (v ∷ vs) in
      let more : (z : List ℕ) → Type 0 = λ (z : List ℕ). Gives (next z) (End z last) (r.place a.ends (length (pre ++ b)) (length pre) v k a.more) vs in
      subst whole (sym bytes) (
        r.place a.ends (length (pre ++ b)) (length pre) v k a.more,
        r.begins pre a.rest a.ends from p l v k a.more a.follows st near (rw zero-add at a.fits),
        subst more (append_assoc pre b a.rest) (a.gives (pre ++ b) (length pre)),
      )

  abbrev All : List ℕ → Type 0
  All vs = (b p k n : ℕ) → Step c b p k → within c.most vs ≡ true → over_fits c p k n vs ≡ true → spellable c p vs ≡ true → Ahead p k n vs

  ahead : (vs : List ℕ) → All vs
  unfolding runs_on within over_fits spellable
  ahead [] b p k n st w f s = record {
    more = 0;
    ends = true;
    rest = [];
    follows = nothing;
    bytes = rw (add-zero, append-nil);
    fits = rw add-zero f;
    gives = λ done from. rw append-nil (end done from b p k st);
  }
  ahead (v ∷ vs) b p k n st w f s = go (ahead vs) (eqb (c.key_of p v) k) refl f
    where
      w' : (leb v c.most ≡ true) × (within c.most vs ≡ true)
      w' = both (leb v c.most) (within c.most vs) w

      s' : (c.near (c.key_of p v) ≡ true) × (spellable c v vs ≡ true)
      s' = both (c.near (c.key_of p v)) (spellable c v vs) s

      at_key : (k : ℕ) → c.key_of p v ≡ k → Step c p v k
      at_key k e = record { low = st.high; high = leb-true v c.most w'.0; key = e }

      go : All vs → (t : Bool) → eqb (c.key_of p v) k ≡ t
          → pick t (over_fits c v k (n + 1) vs) (pick (c.fits n) (over_fits c v (c.key_of p v) 0 vs) false) ≡ true → Ahead p k n (v ∷ vs)
      go rec true e f =
          let st' : Step c p v k = at_key k (eqb-true (c.key_of p v) k e) in
          let a = rec p v k (n + 1) st' w'.1 f s'.1 in
          let eq : n + 1 + a.more ≡ n + suc a.more = omega arith in
          record {
            more = suc a.more;
            ends = a.ends;
            rest = a.rest;
            follows = a.follows;
            bytes = rw e (rw eq at a.bytes);
            fits = rw eq at a.fits;
            gives = λ done from. (r.place a.ends (length done) from v k a.more, r.goes (done ++ a.rest) a.ends (length done) from p v k a.more st', a.gives done from);
          }
      go rec false e f =
          let f' = both (c.fits n) (over_fits c v (c.key_of p v) 0 vs) f in
          let st' : Step c p v (c.key_of p v) = at_key (c.key_of p v) refl in
          let a = rec p v (c.key_of p v) 0 st' w'.1 f'.1 s'.1 in
          record {
            more = 0;
            ends = false;
            rest = runs_on c v (c.key_of p v) 0 vs;
            follows = others;
            bytes = rw (e, add-zero);
            fits = rw add-zero f'.0;
            gives = λ done from. first done vs from p k v st' s'.0 a;
          }

  -- a column with a value
  pub some : (pre vs : List ℕ) (from l v : ℕ) → why c (v ∷ vs) ≡ 0
      → Gives (next (pre ++ column c (v ∷ vs))) (End (pre ++ column c (v ∷ vs)) (get_or (v ∷ vs) (length vs) 0)) (r.place false (length pre) from 0 l 0) (v ∷ vs)
  unfolding column runs_after within storable spellable
  some pre vs from l v h =
      let y = why-says c (v ∷ vs) h in
      let w = both (leb v c.most) (within c.most vs) y.0 in
      let s = both (c.near (c.key_of 0 v)) (spellable c v vs) y.2 in
      let st : Step c 0 v (c.key_of 0 v) = record { low = omega arith; high = leb-true v c.most w.0; key = refl } in
      first pre vs from 0 l v st s.0 (ahead vs 0 v (c.key_of 0 v) 0 st w.1 y.1 s.1)

module _ {c : Coding} {P : Type 0} {next : List ℕ → P → Draw P} (r : Reader c next) (pre : List ℕ) (from l : ℕ) where
  -- the values are drawn, and what holds of a place where the bytes end holds then
  pub gives_back : (End : List ℕ → P → Type 0) → ((s : List ℕ) (e : Bool) (from p k : ℕ) → End s (r.place e (length s) from p k 0))
      → (vs : List ℕ) → why c vs ≡ 0 → Gives (next (pre ++ column c vs)) (End (pre ++ column c vs)) (r.place false (length pre) from 0 l 0) vs
  unfolding column runs_after
  gives_back End end [] h = rw append-nil (end pre false from 0 l)
  gives_back End end (v ∷ vs) h = some r (λ s x d. End s d) (λ s from b p k st. end s true from p k) pre vs from l v h

  -- the values are read
  pub reads-back : (vs : List ℕ) → why c vs ≡ 0
      → reads (next (pre ++ column c vs)) (length vs) (r.place false (length pre) from 0 l 0) ≡ record { values = vs; refusal = none }
  unfolding reads
  reads-back vs h =
      rw (add-zero, append-nil) at
      (gives-reads (next (pre ++ column c vs)) 0 (record { values = []; refusal = none }) vs (r.place false (length pre) from 0 l 0)
      (gives_back (λ s d. reads (next s) 0 d ≡ record { values = []; refusal = none }) (λ s e from p k. refl) vs h))

  -- a column of no values gives none
  pub reads_none : (m : ℕ) → next pre (r.place false (length pre) from 0 l 0) ≡ stop (at_end pre)
      → reads (next (pre ++ column c [])) (suc m) (r.place false (length pre) from 0 l 0) ≡ record { values = []; refusal = at_end (pre ++ column c []) }
  unfolding reads and_then column runs_after
  reads_none m h = rw (append-nil, h)

  -- where the reader refuses at the end, nothing is left after the values
  pub reads_end : ((s : List ℕ) (e : Bool) (from p k : ℕ) → next s (r.place e (length s) from p k 0) ≡ stop (at_end s))
      → (vs : List ℕ) (m : ℕ) → why c vs ≡ 0
      → reads (next (pre ++ column c vs)) (length vs + suc m) (r.place false (length pre) from 0 l 0) ≡ record { values = vs; refusal = at_end (pre ++ column c vs) }
  unfolding reads and_then
  reads_end stops vs m h =
      rw append-nil at
      (gives-reads (next (pre ++ column c vs)) (suc m) (record { values = []; refusal = at_end (pre ++ column c vs) }) vs (r.place false (length pre) from 0 l 0)
      (gives_back (λ s d. reads (next s) (suc m) d ≡ record { values = []; refusal = at_end s }) (λ s e from p k. rw (stops s e from p k)) vs h))
