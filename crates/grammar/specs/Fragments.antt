-- A grammar read as its bytes arrive: where bytes end early, the grammar waits at its next field, and goes on when more have come.
use Rattle.std.specs.Prelude.{ℕ, List, [], ◌∷◌, ◌++◌, eqb}
use Rattle.numbers.specs.declared.Refusal.{Refusal}
use Rattle.numbers.specs.Number.{pick}
use Rattle.grammar.specs.Grammar.{Field, Answer, Grammar, ask, emit, stop, done}
use Rattle.grammar.specs.Course.{Drawn, got, not, Reader, CourseTo, thing, over, stopped, run}

-- the grammar is at its end, or waits at a field
pub data Held (E A : Type 0) : Type 0 where
  ended : A → Held E A
  waits : Grammar E A → Held E A

-- refusal 1: the bytes end early
unfoldable pub or_wait : {S E A X : Type 0} → Grammar E A → S → Drawn S X → (X → S → CourseTo S E (Held E A)) → CourseTo S E (Held E A)
or_wait x s (got a t) then = then a t
or_wait x s (not why) then = pick (eqb why.number 1) (over (waits x) s) (stopped why)

unfoldable pub begin : {S E A : Type 0} → Reader S → Grammar E A → S → CourseTo S E (Held E A)
begin r (ask f k) s = or_wait (ask f k) s (r f s) (λ a t. begin r (k a) t)
begin r (emit e p x) s = thing e p (begin r x s)
begin r (stop n p) s = stopped (record { number = n; place = p })
begin r (done a) s = over (ended a) s

-- more bytes have come, which r has too
unfoldable pub go_on : {S E A : Type 0} → Reader S → CourseTo S E (Held E A) → CourseTo S E (Held E A)
go_on r (thing e p c) = thing e p (go_on r c)
go_on r (over (ended a) s) = over (ended a) s
go_on r (over (waits x) s) = begin r x s
go_on r (stopped why) = stopped why

-- no more will come
unfoldable pub finish : {S E A : Type 0} → Reader S → CourseTo S E (Held E A) → CourseTo S E A
finish r (thing e p c) = thing e p (finish r c)
finish r (over (ended a) s) = over a s
finish r (over (waits x) s) = run r x s
finish r (stopped why) = stopped why

-- fragment after fragment, then the end; u came before
unfoldable pub arrives : {S E A : Type 0} → (List ℕ → Reader S) → List ℕ → CourseTo S E (Held E A) → List (List ℕ) → CourseTo S E A
arrives r u c [] = finish (r u) c
arrives r u c (w ∷ ws) = arrives r (u ++ w) (go_on (r (u ++ w)) c) ws

unfoldable pub joined : List ℕ → List (List ℕ) → List ℕ
joined u [] = u
joined u (w ∷ ws) = joined (u ++ w) ws
