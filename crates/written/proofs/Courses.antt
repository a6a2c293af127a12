-- A reading that goes on, field by field and part by part; and one that goes on as told: its items, its ending, and that rows enough take all of it.
use Prim.Native.Nat.{ℕ, zero, suc, ◌≤◌}
use mathlib.Core.Path.{◌≡◌, sym, ap, ap₂, subst, ◌∙◌}
use mathlib.Core.List.{List, [], ◌∷◌, ◌++◌}
use native.Mathlib.Omega.{arith}
use lib.ListN.{length}
use Rattle.numbers.specs.declared.Refusal.{Refusal}
use Rattle.block.specs.declared.Block.{Block}
use Rattle.grammar.specs.Grammar as grammar
use Rattle.grammar.specs.Grammar.{Field, Answer, Grammar, draw}
use Rattle.grammar.specs.Grammar.{◌>>=◌}
use Rattle.grammar.specs.Course.{got, Reader, CourseTo, thing, over, on_drawn, run, Course, fit, things, ending}
use Rattle.grammar.proofs.Runs.{and_then, run_bind}
use Rattle.draws.specs.Draws.{Lined}
use Rattle.draws.proofs.Fields.{bounded-in}
use Rattle.written.specs.Written.{AllAlike, Goes, AlikeIn}

-- ---- what is drawn or read, and what comes after it

module _ {S : Type 0} (r : Reader S) where
  pub draw-on : {E A : Type 0} (f : Field) (a : Answer f) (s m : S) (g : Answer f → Grammar E A) → r f s ≡ got a m → run r (draw f >>= g) s ≡ run r (g a) m
  unfolding run ◌>>=◌ on_drawn
  draw-on f a s m g e = rw e

  pub then-on : {E A B : Type 0} (x : Grammar E A) (a : A) (s m : S) (g : A → Grammar E B) → run r x s ≡ over a m → run r (x >>= g) s ≡ run r (g a) m
  unfolding and_then
  then-on x a s m g e = run_bind r x g s ∙ rw e

  pub within_on : {form : ℕ} {u : List ℕ} {place : S → ℕ} → Lined form u r place → (n v p : ℕ) (s m : S)
      → r (grammar.number grammar.any) s ≡ got (v, p) m → v ≤ n → r (grammar.number (grammar.up_to n)) s ≡ got (v, p) m
  within_on lined n v p s m e l = lined.bounds n s ∙ rw e (bounded-in n v p m l)

-- ---- a reading as told

module _ {S A B : Type 0} (R : A → B → Type 0) where
  pub goes-from : (bs : List B) (b c rest : CourseTo S A (Unit {0})) → b ≡ c → Goes R bs c rest → Goes R bs b rest
  goes-from bs b c rest e g = subst (λ (x : CourseTo S A (Unit {0})). Goes R bs x rest) (sym e) g

  -- one reading after another
  pub goes_then : (bs cs : List B) (c rest : CourseTo S A (Unit {0})) (m : S) (f : Unit {0} → S → CourseTo S A (Unit {0}))
      → Goes R bs c (over tt m) → Goes R cs (f tt m) rest → Goes R (bs ++ cs) (and_then c f) rest
  unfolding Goes and_then
  goes_then [] cs c rest m f g h = goes-from cs (and_then c f) (f tt m) rest (ap (λ (x : CourseTo S A (Unit {0})). and_then x f) g) h
  goes_then (b ∷ bs) cs c rest m f g h =
      (g.0, g.1, and_then g.2 f, ap (λ (x : CourseTo S A (Unit {0})). and_then x f) g.3, g.4, goes_then bs cs g.2 rest m f g.5 h)

  -- left at a place
  pub goes_left : (place : S → ℕ) (leave : CourseTo S A (Unit {0}) → Course A)
      → ((a : A) (p : ℕ) (c : CourseTo S A (Unit {0})) → leave (thing a p c) ≡ thing a p (leave c)) → ((s : S) → leave (over tt s) ≡ over tt (place s))
      → (bs : List B) (c : CourseTo S A (Unit {0})) (m : S) → Goes R bs c (over tt m) → Goes R bs (leave c) (over tt (place m))
  unfolding Goes
  goes_left place leave on end [] c m g = ap leave g ∙ end m
  goes_left place leave on end (b ∷ bs) c m g =
      (g.0, g.1, leave g.2, ap leave g.3 ∙ on g.0 g.1 g.2, g.4, goes_left place leave on end bs g.2 m g.5)

module _ {S A B : Type 0} (R : A → B → Type 0) (m : S) where
  pub goes-ending : {X : Type 0} (done : S → X) (refused : Refusal → X) (bs : List B) (c : CourseTo S A (Unit {0})) → Goes R bs c (over tt m)
      → ending c done refused ≡ done m
  unfolding Goes ending
  goes-ending done refused [] c g = ap (λ (x : CourseTo S A (Unit {0})). ending x done refused) g
  goes-ending done refused (b ∷ bs) c g = ap (λ (x : CourseTo S A (Unit {0})). ending x done refused) g.3 ∙ goes-ending done refused bs g.2 g.5

module _ {A B : Type 0} (R : A → B → Type 0) (m : ℕ) where
  pub goes-fit : (bs : List B) (n : ℕ) (c : Course A) → length bs ≤ n → Goes R bs c (over tt m) → fit n c ≡ c
  unfolding Goes fit
  goes-fit [] n c l g = rw g
  goes-fit (b ∷ bs) zero c l g = absurd (omega arith)
  goes-fit (b ∷ bs) (suc n) c l g = rw g.3 (ap (thing g.0 g.1) (goes-fit bs n g.2 (omega arith) g.5))

pub goes-alike : (d u : List ℕ) (m : ℕ) (bs : List Block) (c : Course Block) → Goes (AlikeIn d u) bs c (over tt m) → AllAlike d (things c) u bs
unfolding Goes things AllAlike
goes-alike d u m [] c g = rw g tt
goes-alike d u m (b ∷ bs) c g = rw g.3 (g.4, goes-alike d u m bs g.2 g.5)

pub goes_same : {A : Type 0} (m : ℕ) (bs : List A) (c : Course A) → Goes (λ (a b : A). a ≡ b) bs c (over tt m) → things c ≡ bs
unfolding Goes things
goes_same m [] c g = rw g
goes_same {A} m (b ∷ bs) c g = rw g.3 (ap₂ (λ (x : A) (l : List A). x ∷ l) g.4 (goes_same m bs g.2 g.5))
