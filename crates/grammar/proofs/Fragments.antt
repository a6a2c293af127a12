-- Bytes may come in any pieces: every way of cutting them gives the reading of the whole.
use Prim.Native.Nat.{ℕ}
use mathlib.Core.Path.{◌≡◌, refl, sym, ap, subst, ◌∙◌}
use mathlib.Core.Bool.{Bool, true, false}
use mathlib.Core.List.{List, [], ◌∷◌, ◌++◌}
use lib.Dec.{eqb}
use Rattle.numbers.specs.Number.{pick}
use Rattle.grammar.specs.Grammar.{Field, Answer, Grammar, ask, emit, stop, done}
use Rattle.grammar.specs.Course.{Drawn, got, not, Reader, CourseTo, thing, over, stopped, on_drawn, run}
use Rattle.grammar.specs.Fragments.{Held, ended, waits, or_wait, begin, go_on, finish, arrives, joined}

-- with more bytes an answer stays, and so does a refusal other than 1
abbrev pub Firm : {S X : Type 0} → Drawn S X → Drawn S X → Type 0
Firm (got x t) d = d ≡ got x t
Firm (not why) d = eqb why.number 1 ≡ false → d ≡ not why

module _ {S E A : Type 0} where
  -- feeding more
  go-on-begin : (r r' : Reader S) (firm : (f : Field) (s : S) → Firm (r f s) (r' f s)) (x : Grammar E A) (s : S) → go_on r' (begin r x s) ≡ begin r' x s
  unfolding go_on begin or_wait
  go-on-begin r r' firm (ask f k) s = go (r f s) refl (firm f s) (λ a t. go-on-begin r r' firm (k a) t)
    where
      go : (d : Drawn S (Answer f)) → r f s ≡ d → Firm d (r' f s) → ((a : Answer f) (t : S) → go_on r' (begin r (k a) t) ≡ begin r' (k a) t)
          → go_on r' (or_wait (ask f k) s d (λ a t. begin r (k a) t)) ≡ or_wait (ask f k) s (r' f s) (λ a t. begin r' (k a) t)
      go (got a t) e h more = rw h (more a t)
      go (not why) e h more = wait (eqb why.number 1) refl
        where
          wait : (b : Bool) → eqb why.number 1 ≡ b
              → go_on r' (pick b (over (waits (ask f k)) s) (stopped why)) ≡ or_wait (ask f k) s (r' f s) (λ a t. begin r' (k a) t)
          wait true q = refl
          wait false q = rw (h q, q)
  go-on-begin r r' firm (emit e p x) s = ap (thing e p) (go-on-begin r r' firm x s)
  go-on-begin r r' firm (stop n p) s = refl
  go-on-begin r r' firm (done a) s = refl

  -- the end
  finish-begin : (r : Reader S) (x : Grammar E A) (s : S) → finish r (begin r x s) ≡ run r x s
  unfolding finish begin or_wait run on_drawn
  finish-begin r (ask f k) s = go (r f s) refl (λ a t. finish-begin r (k a) t)
    where
      go : (d : Drawn S (Answer f)) → r f s ≡ d → ((a : Answer f) (t : S) → finish r (begin r (k a) t) ≡ run r (k a) t)
          → finish r (or_wait (ask f k) s d (λ a t. begin r (k a) t)) ≡ on_drawn d (λ a t. run r (k a) t)
      go (got a t) e more = more a t
      go (not why) e more = wait (eqb why.number 1)
        where
          wait : (b : Bool) → finish r (pick b (over (waits (ask f k)) s) (stopped why)) ≡ stopped why
          wait true = rw e refl
          wait false = refl
  finish-begin r (emit e p x) s = ap (thing e p) (finish-begin r x s)
  finish-begin r (stop n p) s = refl
  finish-begin r (done a) s = refl

  -- every way of cutting
  module _ (r : List ℕ → Reader S) (firm : (u w : List ℕ) (f : Field) (s : S) → Firm (r u f s) (r (u ++ w) f s)) (x : Grammar E A) (s : S) where
    pub arrives-whole : (u : List ℕ) (ws : List (List ℕ)) → arrives r u (begin (r u) x s) ws ≡ run (r (joined u ws)) x s
    unfolding arrives joined
    arrives-whole u [] = finish-begin (r u) x s
    arrives-whole u (w ∷ ws) = rw (go-on-begin (r u) (r (u ++ w)) (firm u w) x s) (arrives-whole (u ++ w) ws)
