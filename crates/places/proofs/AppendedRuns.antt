-- Where bytes behind an update leave each answer as it is, they leave every run as it is: one induction on the grammar, for any two readers; and the
-- reader of what stands in line.
use Prim.Native.Nat.{ℕ}
use mathlib.Core.Path.{◌≡◌, refl, sym, ap, subst}
use mathlib.Core.Logic.{◌≢◌}
use mathlib.Core.List.{List, ◌++◌}
use borrow.Author.Tests.{ne_eqb}
use Rattle.grammar.specs.Grammar.{Field, Grammar, ask, emit, stop, done}
use Rattle.grammar.specs.Course.{Drawn, got, not, Reader, CourseTo, on_drawn, run}
use Rattle.grammar.proofs.Fragments.{Firm}
use Rattle.decoder.specs.Line.{line}
use Rattle.pieces.proofs.Firm.{line-firm}
use Rattle.places.specs.Appended.{Stays}

-- with bytes behind: the same answer, and a state of which I holds; the same refusal, but for 1
abbrev pub Keeps : {S X : Type 0} → (S → Type 0) → Drawn S X → Drawn S X → Type 0
Keeps I (got x s) d = (d ≡ got x s) × I s
Keeps I (not why) d = (why.number ≢ 1) → d ≡ not why

pub drawn-stays : {S E A X : Type 0} (I : S → Type 0) (f g : X → S → CourseTo S E A) (x y : Drawn S X) → Keeps I x y
    → ((a : X) (s : S) → I s → Stays (f a s) (g a s)) → Stays (on_drawn x f) (on_drawn y g)
unfolding on_drawn Stays
drawn-stays I f g (got a s) y h more = subst (λ (z : Drawn _ _). Stays (f a s) (on_drawn z g)) (sym h.0) (more a s h.1)
drawn-stays I f g (not why) y h more = λ q. ap (λ (z : Drawn _ _). on_drawn z g) (h q)

-- where each field is kept, every grammar stays
module _ {S E A : Type 0} (I : S → Type 0) (r r' : Reader S) (keeps : (f : Field) (s : S) → I s → Keeps I (r f s) (r' f s)) where
  pub run-stays : (x : Grammar E A) (s : S) → I s → Stays (run r x s) (run r' x s)
  unfolding run Stays
  run-stays (ask f k) s h = drawn-stays I _ _ (r f s) (r' f s) (keeps f s h) (λ a t i. run-stays (k a) t i)
  run-stays (emit e p x) s h = (run r' x s, refl, run-stays x s h)
  run-stays (stop n p) s h = λ q. refl
  run-stays (done a) s h = refl

-- so what stands in line: a state is a place, of which nothing is to be said
abbrev Any : ℕ → Type 0
Any at = Unit {0}

pub line_stays : {E A : Type 0} (form : ℕ) (u w : List ℕ) (x : Grammar E A) (at : ℕ) → Stays (run (line form u) x at) (run (line form (u ++ w)) x at)
line_stays form u w x at =
    run-stays Any (line form u) (line form (u ++ w)) (λ f s i. keeps (line form u f s) (line form (u ++ w) f s) (line-firm u w s form f)) x at tt
  where
    keeps : {X : Type 0} (x y : Drawn ℕ X) → Firm x y → Keeps Any x y
    keeps (got x e) y h = (h, tt)
    keeps (not why) y h = λ q. h (ne_eqb why.number 1 q)
