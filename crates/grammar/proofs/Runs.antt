-- Grammars one after another are read one after another, and readers that answer the same read the same.
use Prim.Native.Nat.{ℕ}
use mathlib.Core.Path.{◌≡◌, refl, sym, ap, ◌∙◌}
use mathlib.Core.Bool.{Bool, true, false}
use Rattle.numbers.specs.Number.{pick}
use Rattle.grammar.specs.Grammar.{Field, Answer, Grammar, ask, emit, stop, done}
use Rattle.grammar.specs.Grammar.{◌>>=◌}
use Rattle.grammar.specs.Course.{Drawn, got, not, Reader, CourseTo, thing, over, stopped, on_drawn, run}

-- a choice that is made on both sides alike
pub both : {A B : Type 0} (R : A → B → Type 0) (b : Bool) {x x' : A} {y y' : B} → R x y → R x' y' → R (pick b x x') (pick b y y')
both R true p q = p
both R false p q = q

unfoldable pub and_then : {S E A B : Type 0} → CourseTo S E A → (A → S → CourseTo S E B) → CourseTo S E B
and_then (thing e p c) f = thing e p (and_then c f)
and_then (over a s) f = f a s
and_then (stopped why) f = stopped why

pub run_bind : {S E A B : Type 0} (r : Reader S) (x : Grammar E A) (g : A → Grammar E B) (s : S) → run r (x >>= g) s ≡ and_then (run r x s) (λ a t. run r (g a) t)
unfolding run and_then ◌>>=◌ on_drawn
run_bind r (ask f k) g s = go (r f s) (λ a t. run_bind r (k a) g t)
  where
    go : (d : Drawn _ (Answer f)) → ((a : Answer f) (t : _) → run r (k a >>= g) t ≡ and_then (run r (k a) t) (λ a t. run r (g a) t))
        → on_drawn d (λ a t. run r (k a >>= g) t) ≡ and_then (on_drawn d (λ a t. run r (k a) t)) (λ a t. run r (g a) t)
    go (got a t) h = h a t
    go (not why) h = refl
run_bind r (emit e p x) g s = ap (thing e p) (run_bind r x g s)
run_bind r (stop n p) g s = refl
run_bind r (done a) g s = refl

-- readers that answer the same
pub run-same : {S E A : Type 0} (r r' : Reader S) → ((f : Field) (s : S) → r f s ≡ r' f s) → (x : Grammar E A) (s : S) → run r x s ≡ run r' x s
unfolding run on_drawn
run-same r r' h (ask f k) s = go (r f s) (r' f s) (h f s) (λ a t. run-same r r' h (k a) t)
  where
    go : (d d' : Drawn _ (Answer f)) → d ≡ d' → ((a : Answer f) (t : _) → run r (k a) t ≡ run r' (k a) t)
        → on_drawn d (λ a t. run r (k a) t) ≡ on_drawn d' (λ a t. run r' (k a) t)
    go (got a t) d' e more = more a t ∙ ap (λ (z : Drawn _ (Answer f)). on_drawn z (λ a t. run r' (k a) t)) e
    go (not why) d' e more = ap (λ (z : Drawn _ (Answer f)). on_drawn z (λ a t. run r' (k a) t)) e
run-same r r' h (emit e p x) s = ap (thing e p) (run-same r r' h x s)
run-same r r' h (stop n p) s = refl
run-same r r' h (done a) s = refl
