-- A trace without its draws is the run.
use mathlib.Core.Path.{◌≡◌, refl, ap}
use Rattle.grammar.specs.Grammar.{Field, Answer, Grammar, ask, emit, stop, done}
use Rattle.grammar.specs.Course.{Drawn, got, not, Reader, thing, on_drawn, run}
use Rattle.grammar.specs.Trace.{drew, place_of, traced, forget}

module _ {S E A : Type 0} (r : Reader S) where
  pub forgotten : (x : Grammar E A) (s : S) → forget (run r (traced x) s) ≡ run r x s
  unfolding run traced forget on_drawn
  forgotten (ask f k) s = go (r f s) (λ a t. forgotten (k a) t)
    where
      go : (d : Drawn S (Answer f)) → ((a : Answer f) (t : S) → forget (run r (traced (k a)) t) ≡ run r (k a) t)
          → forget (on_drawn d (λ a t. thing (drew f a) (place_of f a) (run r (traced (k a)) t))) ≡ on_drawn d (λ a t. run r (k a) t)
      go (got a t) h = h a t
      go (not why) h = refl
  forgotten (emit e p x) s = ap (thing e p) (forgotten x s)
  forgotten (stop n p) s = refl
  forgotten (done a) s = refl
