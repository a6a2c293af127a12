-- Which draw came from which byte: the grammar that keeps each draw too, with its place. Any reader reads it.
use Rattle.std.specs.Prelude.{ℕ}
use Rattle.grammar.specs.Grammar as grammar
use Rattle.grammar.specs.Grammar.{Field, Answer, Grammar, ask, emit, stop, done}
use Rattle.grammar.specs.Course.{CourseTo, thing, over, stopped}

pub data Event (E : Type 0) : Type 0 where
  drew : (f : Field) → Answer f → Event E
  kept : E → Event E

-- a number is blamed at its place; a text, bytes, a key and values begin at theirs
unfoldable pub place_of : (f : Field) → Answer f → ℕ
place_of (grammar.number n) a = a.1
place_of grammar.text a = a.0.place
place_of grammar.bytes a = a.place
place_of grammar.key a = a.place
place_of (grammar.value blame) a = a.place
place_of (grammar.values blame n) a = a.place

unfoldable pub traced : {E A : Type 0} → Grammar E A → Grammar (Event E) A
traced (ask f k) = ask f (λ a. emit (drew f a) (place_of f a) (traced (k a)))
traced (emit e p x) = emit (kept e) p (traced x)
traced (stop n p) = stop n p
traced (done a) = done a

-- the draws left out again
unfoldable pub forget : {S E A : Type 0} → CourseTo S (Event E) A → CourseTo S E A
forget (thing (drew f a) p c) = forget c
forget (thing (kept e) p c) = thing e p (forget c)
forget (over a s) = over a s
forget (stopped why) = stopped why
