-- What is shown of everything that a grammar reads, for any reader: where answers are good, each thing that a grammar comes to has what good answers give.
use mathlib.Core.List.{List, [], ◌∷◌}
use Rattle.grammar.specs.Grammar.{Field, Answer, Grammar, ask, emit, stop, done}
use Rattle.grammar.specs.Grammar.{◌>>=◌}
use Rattle.grammar.specs.Course.{Drawn, got, not, Reader, on_drawn, run, things}

-- what is drawn has P, and the state after it has Inv
unfoldable pub Gives : {S X : Type 0} → (X → Type 0) → (S → Type 0) → Drawn S X → Type 0
Gives P Inv (got a s) = P a × Inv s
Gives P Inv (not why) = Unit {0}

module _ (Good : (f : Field) → Answer f → Type 0) where
  -- a reader whose answers are good, at each state that has Inv
  abbrev pub Faithful : {S : Type 0} → (S → Type 0) → Reader S → Type 0
  Faithful {S} Inv r = (f : Field) (s : S) → Inv s → Gives (Good f) Inv (r f s)

  -- ---- a grammar that keeps nothing comes to what has P

  unfoldable pub Comes : {E A : Type 0} → (A → Type 0) → Grammar E A → Type 0
  Comes P (ask f k) = (a : Answer f) → Good f a → Comes P (k a)
  Comes P (emit e p x) = ⊥
  Comes P (stop n p) = Unit {0}
  Comes P (done a) = P a

  pub comes-bind : {E A B : Type 0} (P : A → Type 0) (Q : B → Type 0) (x : Grammar E A) (g : A → Grammar E B) → Comes P x → ((a : A) → P a → Comes Q (g a))
      → Comes Q (x >>= g)
  unfolding Comes ◌>>=◌
  comes-bind P Q (ask f k) g h then = λ a i. comes-bind P Q (k a) g (h a i) then
  comes-bind P Q (emit e p x) g h then = absurd h
  comes-bind P Q (stop n p) g h then = tt
  comes-bind P Q (done a) g h then = then a h

  -- ---- what a grammar keeps, wherever it ends, has N

  unfoldable pub Keeps : {E A : Type 0} → (List E → Type 0) → Grammar E A → Type 0
  Keeps N (ask f k) = N [] × ((a : Answer f) → Good f a → Keeps N (k a))
  Keeps N (emit e p x) = Keeps (λ l. N (e ∷ l)) x
  Keeps N (stop n p) = N []
  Keeps N (done a) = N []

  pub keeps-map : {E A : Type 0} (N M : List E → Type 0) (x : Grammar E A) → ((l : List E) → N l → M l) → Keeps N x → Keeps M x
  unfolding Keeps
  keeps-map N M (ask f k) n h = (n [] h.0, λ a i. keeps-map N M (k a) n (h.1 a i))
  keeps-map N M (emit e p x) n h = keeps-map _ _ x (λ l. n (e ∷ l)) h
  keeps-map N M (stop m p) n h = n [] h
  keeps-map N M (done a) n h = n [] h

  -- a grammar that keeps nothing, one that does, and then another
  pub comes-then : {E A B C : Type 0} (P : A → Type 0) (N : List E → Type 0) (x : Grammar E A) (g : A → Grammar E B) (h : B → Grammar E C) → N [] → Comes P x
      → ((a : A) → P a → Keeps N (g a >>= h)) → Keeps N (x >>= g >>= h)
  unfolding Comes Keeps ◌>>=◌
  comes-then P N (ask f k) g h none c then = (none, λ a i. comes-then P N (k a) g h none (c a i) then)
  comes-then P N (emit e p x) g h none c then = absurd c
  comes-then P N (stop n p) g h none c then = none
  comes-then P N (done a) g h none c then = then a c

  -- ---- so have the things that a reader keeps

  pub kept-has : {S E A : Type 0} (Inv : S → Type 0) (r : Reader S) → Faithful Inv r → (N : List E → Type 0) (x : Grammar E A) → Keeps N x → (s : S) → Inv s
      → N (things (run r x s))
  unfolding Keeps Gives run things on_drawn
  kept-has Inv r faith N (ask f k) h s i = go (r f s) (faith f s i) (λ a t g j. kept-has Inv r faith N (k a) (h.1 a g) t j)
    where
      go : (d : Drawn _ (Answer f)) → Gives (Good f) Inv d → ((a : Answer f) (t : _) → Good f a → Inv t → N (things (run r (k a) t)))
          → N (things (on_drawn d (λ a t. run r (k a) t)))
      go (got a t) q more = more a t q.0 q.1
      go (not why) q more = h.0
  kept-has Inv r faith N (emit e p x) h s i = kept-has Inv r faith (λ l. N (e ∷ l)) x h s i
  kept-has Inv r faith N (stop n p) h s i = h
  kept-has Inv r faith N (done a) h s i = h
