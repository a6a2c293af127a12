-- Either form over one state: form 1 moves the place alone, so the place is what it reads; any other form is form 2.
use Prim.Native.Nat.{ℕ}
use mathlib.Core.Path.{◌≡◌, refl, ap}
use mathlib.Core.Logic.{◌≢◌}
use mathlib.Core.List.{List}
use mathlib.Core.Bool.{Bool, true, false}
use lib.Dec.{eqb}
use borrow.Author.Tests.{ne_eqb}
use Rattle.numbers.specs.Number.{pick}
use Rattle.grammar.specs.Grammar as grammar
use Rattle.grammar.specs.Grammar.{Field, Answer, Grammar, ask, emit, stop, done}
use Rattle.grammar.specs.Course.{Drawn, got, not, thing, on_drawn, run}
use Rattle.grammar.proofs.Runs.{run-same}
use Rattle.decoder.specs.Line.{up_to, bytes_at, line, number_by}
use Rattle.decoder.specs.States.{State, moved_to}
use Rattle.decoder.specs.Columned.{onto, number_in, columned}
use Rattle.decoder.specs.ColumnedInner.{fields}
use Rattle.decoder.specs.Update.{rest_places}

-- ---- form 1

module _ {E A : Type 0} (u : List ℕ) where
  pub placed-line : (x : Grammar E A) (s : State) → rest_places (run (fields 1 u) x s) ≡ run (line 1 u) x s.at
  unfolding run rest_places fields on_drawn onto
  placed-line (ask f k) s = go (line 1 u f s.at) (λ a t. placed-line (k a) t)
    where
      go : (d : Drawn ℕ (Answer f)) → ((a : Answer f) (t : State) → rest_places (run (fields 1 u) (k a) t) ≡ run (line 1 u) (k a) t.at)
          → rest_places (on_drawn (onto s d) (λ a t. run (fields 1 u) (k a) t)) ≡ on_drawn d (λ a e. run (line 1 u) (k a) e)
      go (got a e) more = more a (moved_to s e)
      go (not why) more = refl
  placed-line (emit e p x) s = ap (thing e p) (placed-line x s)
  placed-line (stop n p) s = refl
  placed-line (done a) s = refl

-- ---- any other

pub fields-columned : (form : ℕ) (u : List ℕ) → form ≢ 1 → (f : Field) (s : State) → fields form u f s ≡ columned u f s
unfolding fields
fields-columned form u h f s = rw (ne_eqb form 1 h) refl

pub run-columned : {E A : Type 0} (form : ℕ) (u : List ℕ) → form ≢ 1 → (x : Grammar E A) (s : State) → run (fields form u) x s ≡ run (columned u) x s
run-columned form u h x s = run-same (fields form u) (columned u) (fields-columned form u h) x s

-- ---- what stands in line in both forms

pub fields-up-to : (form : ℕ) (u : List ℕ) (most : ℕ) (s : State) → fields form u (grammar.number (grammar.up_to most)) s ≡ onto s (up_to most u s.at)
unfolding fields columned number_in line number_by
fields-up-to form u most s = same (eqb form 1)
  where
    same : (b : Bool) → pick b (onto s (up_to most u s.at)) (onto s (up_to most u s.at)) ≡ onto s (up_to most u s.at)
    same true = refl
    same false = refl

pub fields-bytes : (form : ℕ) (u : List ℕ) (s : State) → fields form u grammar.bytes s ≡ onto s (bytes_at u s.at)
unfolding fields columned line
fields-bytes form u s = same (eqb form 1)
  where
    same : (b : Bool) → pick b (onto s (bytes_at u s.at)) (onto s (bytes_at u s.at)) ≡ onto s (bytes_at u s.at)
    same true = refl
    same false = refl
