-- The entries of a vector that was read into words lent for clients and clocks.
use Rattle.std.specs.Prelude.{Result, Ok, Err}
use Prim.Native.Nat.{ℕ, ◌-◌, ◌≤◌}
use mathlib.Core.Path.{◌≡◌, refl, sym, ap, subst, ◌∙◌}
use mathlib.Core.List.{List, [], ◌∷◌, ◌++◌, map}
use mathlib.Core.Logic.{◌⊎◌, inl, inr}
use native.Mathlib.Omega.{arith}
use lib.ListN.{length, take, replicate, length-append, length-map}
use Rattle.numbers.specs.declared.Refusal.{Refusal}
use Rattle.numbers.specs.Output.{padded}
use Rattle.grammar.specs.Course.{Course, thing, over, stopped, things, ending}
use Rattle.vector.specs.Vector.{Entry, clients_in}
use Rattle.vector.specs.VectorInner.{clocks_in, kept}
use Rattle.vector.specs.VectorInner as vector-inner
use Rattle.kept.specs.Plan.{paired, entries_of}

-- ---- how a course ends

abbrev Over : Course Entry → ℕ → Type 0
Over (thing a p c) s = Over c s
Over (over x t) s = t ≡ s
Over (stopped why) s = ⊥

abbrev Stopped : Course Entry → Refusal → Type 0
Stopped (thing a p c) why = Stopped c why
Stopped (over x t) why = ⊥
Stopped (stopped r) why = r ≡ why

ends : (c : Course Entry) → ((s : ℕ) × Over c s) ⊎ ((why : Refusal) × Stopped c why)
ends (thing a p c) = ends c
ends (over x t) = inl (t, refl)
ends (stopped why) = inr (why, refl)

over-ends : {X : Type 0} (c : Course Entry) (s : ℕ) (f : ℕ → X) (g : Refusal → X) → Over c s → ending c f g ≡ f s
unfolding ending
over-ends (thing a p c) s f g h = over-ends c s f g h
over-ends (over x t) s f g h = ap f h
over-ends (stopped why) s f g h = absurd h

stopped-ends : {X : Type 0} (c : Course Entry) (why : Refusal) (f : ℕ → X) (g : Refusal → X) → Stopped c why → ending c f g ≡ g why
unfolding ending
stopped-ends (thing a p c) why f g h = stopped-ends c why f g h
stopped-ends (over x t) why f g h = absurd h
stopped-ends (stopped r) why f g h = ap g h

-- ---- clients and clocks, in pairs again

take-map : {A : Type 0} (f : A → ℕ) (es : List A) (l : List ℕ) → take (length es) (map f es ++ l) ≡ map f es
take-map f [] l = refl
take-map f (e ∷ es) l = ap (λ (r : List ℕ). f e ∷ r) (take-map f es l)

paired-again : (es : List Entry) → paired (clients_in es) (clocks_in es) ≡ es
unfolding paired
paired-again [] = refl
paired-again (e ∷ es) = ap (λ (r : List Entry). e ∷ r) (paired-again es)

clients-again : (es : List Entry) (n : ℕ) → take (length es) (padded n (clients_in es)) ≡ clients_in es
unfolding padded
clients-again es n = take-map (λ (e : Entry). e.client) es _

clients-fit : (es : List Entry) (n : ℕ) → length es ≤ length (padded n (clients_in es))
unfolding padded
clients-fit es n = rw (length-append (clients_in es) (replicate (n - length (clients_in es)) 0), length-map es (λ (e : Entry). e.client)) (omega arith)

entries-again : (es : List Entry) (n m : ℕ) → entries_of (length es) (padded n (clients_in es)) (padded m (clocks_in es)) ≡ es
unfolding padded
entries-again es n m = rw (take-map (λ (e : Entry). e.client) es _, take-map (λ (e : Entry). e.clock) es _) (paired-again es)

-- ---- what was answered, and what the vector is then

abbrev read_is : Result ℕ Refusal → Type 0
read_is (Ok n) = Unit {0}
read_is (Err why) = ⊥

abbrev count : Result ℕ Refusal → ℕ
count (Ok n) = n
count (Err why) = 0

abbrev why-of : Result ℕ Refusal → Refusal → Refusal
why-of (Ok n) r = r
why-of (Err why) r = why

-- m entries were read
pub record WasRead (c : Course Entry) (m : ℕ) : Type 1 where
  pub after : ℕ
  pub ends_so : {X : Type 0} (f : ℕ → X) (g : Refusal → X) → ending c f g ≡ f after
  pub size : m ≡ length (things c)
  pub room : (k : ℕ) → m ≤ length (padded k (clients_in (kept c)))
  pub clients : (k : ℕ) → take m (padded k (clients_in (kept c))) ≡ clients_in (things c)
  pub entries : (k l : ℕ) → entries_of m (padded k (clients_in (kept c))) (padded l (clocks_in (kept c))) ≡ things c

pub was_read : (c : Course Entry) (m : ℕ) → vector-inner.entries_of c ≡ Ok m → WasRead c m
unfolding vector-inner.entries_of kept
was_read c m e = go (ends c)
  where
    go : ((s : ℕ) × Over c s) ⊎ ((why : Refusal) × Stopped c why) → WasRead c m
    go (inl x) =
        let h = x.1 in
        let all : kept c ≡ things c = over-ends c x.0 (λ (s : ℕ). things c) (λ (why : Refusal). []) h in
        let size : m ≡ length (things c) = sym (ap count e) ∙ ap count (over-ends c x.0 (λ (s : ℕ). Ok (length (things c))) (λ (why : Refusal). Err why) h) in
        record {
          after = x.0;
          ends_so = λ f g. over-ends c x.0 f g h;
          size = size;
          room = λ k. rw (all, size) (clients-fit (things c) k);
          clients = λ k. rw (all, size) (clients-again (things c) k);
          entries = λ k l. rw (all, size) (entries-again (things c) k l);
        }
    go (inr x) = absurd (subst read_is (sym e ∙ stopped-ends c x.0 (λ (s : ℕ). Ok (length (things c))) (λ (why : Refusal). Err why) x.1) tt)

-- it was refused
pub was-refused : {X : Type 0} (c : Course Entry) (why : Refusal) → vector-inner.entries_of c ≡ Err why → (f : ℕ → X) (g : Refusal → X) → ending c f g ≡ g why
unfolding vector-inner.entries_of
was-refused {X} c why e f g = go (ends c)
  where
    go : ((s : ℕ) × Over c s) ⊎ ((r : Refusal) × Stopped c r) → ending c f g ≡ g why
    go (inl x) = absurd (subst read_is (sym (over-ends c x.0 (λ (s : ℕ). Ok (length (things c))) (λ (r : Refusal). Err r) x.1) ∙ e) tt)
    go (inr x) =
        let same : x.0 ≡ why = ap (λ (a : Result ℕ Refusal). why-of a why) (sym (stopped-ends c x.0 (λ (s : ℕ). Ok (length (things c))) (λ (r : Refusal). Err r) x.1) ∙ e) in
        stopped-ends c x.0 f g x.1 ∙ ap g same
