-- What is seen while a grammar is read: each draw, with the states before and behind it, and each thing kept, as far as reading comes.
use Rattle.std.specs.Prelude.{List, [], ◌∷◌}
use Rattle.grammar.specs.Grammar.{Field, Answer, Grammar, ask, emit, stop, done}
use Rattle.grammar.specs.Course.{Drawn, got, not, Reader}

pub data Seen (S E : Type 0) : Type 0 where
  drew : (f : Field) → Answer f → S → S → Seen S E
  kept : E → Seen S E

unfoldable pub on_seen : {S E : Type 0} → (f : Field) → S → Drawn S (Answer f) → (Answer f → S → List (Seen S E)) → List (Seen S E)
on_seen f s (got a t) then = drew f a s t ∷ then a t
on_seen f s (not why) then = []

unfoldable pub watch : {S E A : Type 0} → Reader S → Grammar E A → S → List (Seen S E)
watch r (ask f k) s = on_seen f s (r f s) (λ a t. watch r (k a) t)
watch r (emit e p x) s = kept e ∷ watch r x s
watch r (stop n p) s = []
watch r (done a) s = []
