-- Two readers that answer alike read every grammar alike: one induction on the grammar, for any two readers over any states.
use Prim.Native.Nat.{ℕ}
use mathlib.Core.Path.{◌≡◌, refl, sym, ap, subst, ◌∙◌}
use Rattle.numbers.specs.declared.Refusal.{Refusal}
use Rattle.grammar.specs.Grammar.{Field, Answer, Grammar, ask, emit, stop, done}
use Rattle.grammar.specs.Course.{Drawn, got, not, Reader, CourseTo, thing, over, stopped, on_drawn, run}

-- states are alike by R; refusals of which Q holds are kept
module _ {S T : Type 0} (R : S → T → Type 0) (Q : Refusal → Type 0) where
  abbrev pub Follows : {X : Type 0} → Drawn S X → Drawn T X → Type 0
  Follows (got x s) d = (t : T) × (d ≡ got x t) × R s t
  Follows (not why) d = Q why → d ≡ not why

  unfoldable pub Mirrors : {E A : Type 0} → CourseTo S E A → CourseTo T E A → Type 0
  Mirrors {E} {A} (thing e p c) d = (d' : CourseTo T E A) × (d ≡ thing e p d') × Mirrors c d'
  Mirrors (over a s) d = (t : T) × (d ≡ over a t) × R s t
  Mirrors (stopped why) d = Q why → d ≡ stopped why

  module _ {E A : Type 0} (r : Reader S) (r' : Reader T) (alike : (f : Field) (s : S) (t : T) → R s t → Follows (r f s) (r' f t)) where
    pub mirrors : (x : Grammar E A) (s : S) (t : T) → R s t → Mirrors (run r x s) (run r' x t)
    unfolding run on_drawn Mirrors
    mirrors (ask f k) s t h = go (r f s) (r' f t) (alike f s t h) (λ a s t h. mirrors (k a) s t h)
      where
        go : (x : Drawn S (Answer f)) (y : Drawn T (Answer f)) → Follows x y → ((a : Answer f) (s : S) (t : T) → R s t → Mirrors (run r (k a) s) (run r' (k a) t))
            → Mirrors (on_drawn x (λ a s. run r (k a) s)) (on_drawn y (λ a t. run r' (k a) t))
        go (got a s) y h more = subst (λ (z : Drawn T (Answer f)). Mirrors (run r (k a) s) (on_drawn z (λ a t. run r' (k a) t))) (sym h.1) (more a s h.0 h.2)
        go (not why) y h more = λ q. ap (λ (z : Drawn T (Answer f)). on_drawn z (λ a t. run r' (k a) t)) (h q)
    mirrors (emit e p x) s t h = (run r' x t, refl, mirrors x s t h)
    mirrors (stop n p) s t h = λ q. refl
    mirrors (done a) s t h = (t, refl, h)
