-- A grammar that is read: the things kept, one after another, each with the place that is blamed if there is no row for it; then what came of it and
-- the state after it, or why not all could be read. And how much of it a table with so many rows takes.
use Rattle.std.specs.Prelude.{ℕ, zero, suc, List, [], ◌∷◌}
use Rattle.numbers.specs.declared.Refusal.{Refusal}
use Rattle.grammar.specs.Grammar.{Field, Answer, Grammar, ask, emit, stop, done}

-- what a field gives: its answer and the state after it, or a refusal
pub data Drawn (S X : Type 0) : Type 0 where
  got : X → S → Drawn S X
  not : Refusal → Drawn S X

-- a form: what each field gives at a state
abbrev pub Reader : Type 0 → Type 0
Reader S = (f : Field) → S → Drawn S (Answer f)

pub data CourseTo (S E A : Type 0) : Type 0 where
  thing : E → ℕ → CourseTo S E A → CourseTo S E A
  over : A → S → CourseTo S E A
  stopped : Refusal → CourseTo S E A

unfoldable pub on_drawn : {S E A X : Type 0} → Drawn S X → (X → S → CourseTo S E A) → CourseTo S E A
on_drawn (got x s) then = then x s
on_drawn (not why) then = stopped why

unfoldable pub run : {S E A : Type 0} → Reader S → Grammar E A → S → CourseTo S E A
run r (ask f k) s = on_drawn (r f s) (λ a t. run r (k a) t)
run r (emit e p x) s = thing e p (run r x s)
run r (stop n p) s = stopped (record { number = n; place = p })
run r (done a) s = over a s

-- ---- what comes out of an update, up to a place in it

abbrev pub Course : Type 0 → Type 0
Course E = CourseTo ℕ E (Unit {0})

-- what n rows take: one thing more is refused with 8
unfoldable pub fit : {S E A : Type 0} → ℕ → CourseTo S E A → CourseTo S E A
fit zero (thing a p c) = stopped (record { number = 8; place = p })
fit (suc n) (thing a p c) = thing a p (fit n c)
fit n (over a s) = over a s
fit n (stopped why) = stopped why

-- the things themselves
unfoldable pub things : {S E A : Type 0} → CourseTo S E A → List E
things (thing a p c) = a ∷ things c
things (over a s) = []
things (stopped why) = []

-- what follows the last of them
unfoldable pub ending : {S E A X : Type 0} → CourseTo S E A → (S → X) → (Refusal → X) → X
ending (thing a p c) read refused = ending c read refused
ending (over a s) read refused = read s
ending (stopped why) read refused = refused why
