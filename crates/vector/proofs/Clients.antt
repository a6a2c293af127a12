-- The entries of a state vector: at most 64, and no client twice. Of every reader this holds, but for the count that is announced.
use Prim.Native.Nat.{ℕ, zero, suc, ◌≤◌}
use mathlib.Core.Path.{◌≡◌, refl}
use mathlib.Core.List.{List, [], ◌∷◌, ◌++◌}
use mathlib.Core.Bool.{Bool, true, false}
use native.Mathlib.Omega.{arith}
use lib.Dec.{eqb}
use lib.ListN.{length}
use borrow.Author.Tests.{eqb-true, eq-eqb}
use Rattle.numbers.specs.declared.Refusal.{Refusal}
use Rattle.numbers.specs.Number.{pick}
use Rattle.numbers.specs.Words.{among}
use Rattle.numbers.specs.Limits.{max_clock, max_clients}
use Rattle.grammar.specs.Grammar as grammar
use Rattle.grammar.specs.Grammar.{number, stop, ask, emit}
use Rattle.grammar.specs.Grammar.{◌>>=◌}
use Rattle.grammar.specs.Course.{Drawn, got, not, Reader, CourseTo, thing, over, stopped, on_drawn, run, things}
use Rattle.decoder.specs.Line.{up_to, line, number_by}
use Rattle.vector.specs.Vector.{Entry, entry, clients_in, holds, entries, a_vector, vector_of}
use Rattle.vector.proofs.Laws.{bounded-low, clients-more}

-- what holds of every run of entries: after those seen an entry is of a client that has none
module _ {S : Type 0} (r : Reader S) (P : ℕ → List Entry → CourseTo S Entry (Unit {0}) → Type 0) (at-end : (seen : List Entry) (s : S) → P 0 seen (over tt s))
    (at-stop : (n : ℕ) (seen : List Entry) (why : Refusal) → P n seen (stopped why))
    (at_item : (n : ℕ) (seen : List Entry) (e : Entry) (p : ℕ) (x : CourseTo S Entry (Unit {0})) → among e.client (clients_in seen) ≡ false → P n (seen ++ (e ∷ [])) x → P (suc n) seen (thing e p x)) where
  each : (n : ℕ) (seen : List Entry) (s : S) → P n seen (run r (entries n seen) s)
  unfolding entries holds ◌>>=◌ run on_drawn
  each zero seen s = at-end seen s
  each (suc n) seen s = with-client (λ seen s. each n seen s) (r (number grammar.client) s)
    where
      with-clock : ((seen : List Entry) (s : S) → P n seen (run r (entries n seen) s)) → (c p : ℕ) → among c (clients_in seen) ≡ false → (d : Drawn S (ℕ × ℕ))
          → P (suc n) seen (on_drawn d (λ b u. thing (entry c b.0) p (run r (entries n (seen ++ (entry c b.0 ∷ []))) u)))
      with-clock more c p f (not why) = at-stop (suc n) seen why
      with-clock more c p f (got b u) = at_item n seen (entry c b.0) p _ f (more (seen ++ (entry c b.0 ∷ [])) u)

      new : ((seen : List Entry) (s : S) → P n seen (run r (entries n seen) s)) → (c p : ℕ) (t : S) (b : Bool) → among c (clients_in seen) ≡ b
          → P (suc n) seen (run r (pick b (stop 4 p) (ask (number (grammar.up_to max_clock)) (λ k. emit (entry c k.0) p (entries n (seen ++ (entry c k.0 ∷ [])))))) t)
      new more c p t true e = at-stop (suc n) seen (record { number = 4; place = p })
      new more c p t false e = with-clock more c p e (r (number (grammar.up_to max_clock)) t)

      with-client : ((seen : List Entry) (s : S) → P n seen (run r (entries n seen) s)) → (d : Drawn S (ℕ × ℕ))
          → P (suc n) seen (on_drawn d (λ a t. run r (pick (among a.0 (clients_in seen)) (stop 4 a.1) (ask (number (grammar.up_to max_clock)) (λ k. emit (entry a.0 k.0) a.1 (entries n (seen ++ (entry a.0 k.0 ∷ [])))))) t))
      with-client more (not why) = at-stop (suc n) seen why
      with-client more (got a t) = new more a.0 a.1 t (among a.0 (clients_in seen)) refl

-- ---- at most 64

few : {S : Type 0} (r : Reader S) (n : ℕ) (seen : List Entry) (s : S) → length (things (run r (entries n seen) s)) ≤ n
unfolding things
few r n seen s =
    each r (λ n seen x. length (things x) ≤ n) (λ seen s. omega arith) (λ n seen why. omega arith) (λ n seen e p x f h. omega arith) n seen s

pub vector-most : (v : List ℕ) → length (things (vector_of v)) ≤ max_clients
unfolding vector_of a_vector ◌>>=◌ run on_drawn line number_by up_to things
vector-most v = go (up_to max_clients v 0) refl
  where
    go : (d : Drawn ℕ (ℕ × ℕ)) → up_to max_clients v 0 ≡ d → length (things (on_drawn d (λ a t. run (line 1 v) (entries a.0 []) t))) ≤ max_clients
    go (not why) e = omega arith
    go (got a t) e = omega (arith, few (line 1 v) a.0 [] t, bounded-low max_clients _ a t e)

-- ---- no client twice

-- no client among those after it
unfoldable pub apart : List ℕ → Bool
apart [] = true
apart (c ∷ cs) = pick (among c cs) false (apart cs)

-- each is new where those before it are seen
unfoldable Fresh : List ℕ → List ℕ → Type 0
Fresh seen [] = Unit {0}
Fresh seen (c ∷ cs) = (among c seen ≡ false) × Fresh (seen ++ (c ∷ [])) cs

among-last : (c : ℕ) (xs : List ℕ) → among c (xs ++ (c ∷ [])) ≡ true
unfolding among
among-last c [] = rw (eq-eqb c c refl)
among-last c (x ∷ xs) = go (eqb x c) (among-last c xs)
  where
    go : (b : Bool) → among c (xs ++ (c ∷ [])) ≡ true → pick b true (among c (xs ++ (c ∷ []))) ≡ true
    go true h = refl
    go false h = h

among-more : (c : ℕ) (xs ys : List ℕ) → among c xs ≡ true → among c (xs ++ ys) ≡ true
unfolding among
among-more c [] ys h = absurd (let z : ◌≡◌ {A = ℕ} 0 1 = cc in omega arith)
among-more c (x ∷ xs) ys h = go (eqb x c) (among-more c xs ys) h
  where
    go : (b : Bool) → (among c xs ≡ true → among c (xs ++ ys) ≡ true) → pick b true (among c xs) ≡ true → pick b true (among c (xs ++ ys)) ≡ true
    go true more h = refl
    go false more h = more h

-- one that is seen does not come again
seen-once : (c : ℕ) (seen cs : List ℕ) → Fresh seen cs → among c seen ≡ true → among c cs ≡ false
unfolding Fresh among
seen-once c seen [] f h = refl
seen-once c seen (x ∷ cs) f h = go (eqb x c) refl (seen-once c (seen ++ (x ∷ [])) cs f.1 (among-more c seen (x ∷ []) h))
  where
    go : (b : Bool) → eqb x c ≡ b → among c cs ≡ false → pick b true (among c cs) ≡ false
    go true e r = absurd (let s : x ≡ c = eqb-true x c e in let z : ◌≡◌ {A = ℕ} 0 1 = cc f.0 in omega arith)
    go false e r = r

fresh-apart : (seen cs : List ℕ) → Fresh seen cs → apart cs ≡ true
unfolding Fresh apart
fresh-apart seen [] f = refl
fresh-apart seen (c ∷ cs) f = rw (seen-once c (seen ++ (c ∷ [])) cs f.1 (among-last c seen)) (fresh-apart (seen ++ (c ∷ [])) cs f.1)

all-fresh : {S : Type 0} (r : Reader S) (n : ℕ) (seen : List Entry) (s : S) → Fresh (clients_in seen) (clients_in (things (run r (entries n seen) s)))
unfolding things Fresh
all-fresh r n seen s =
    each r (λ n seen x. Fresh (clients_in seen) (clients_in (things x))) (λ seen s. tt) (λ n seen why. tt) (λ n seen e p x f h. (f, rw clients-more at h)) n seen s

pub vector-apart : (v : List ℕ) → apart (clients_in (things (vector_of v))) ≡ true
unfolding vector_of a_vector ◌>>=◌ run on_drawn line number_by things apart
vector-apart v = go (up_to max_clients v 0)
  where
    go : (d : Drawn ℕ (ℕ × ℕ)) → apart (clients_in (things (on_drawn d (λ a t. run (line 1 v) (entries a.0 []) t)))) ≡ true
    go (not why) = refl
    go (got a t) = fresh-apart [] (clients_in (things (run (line 1 v) (entries a.0 []) t))) (all-fresh (line 1 v) a.0 [] t)
