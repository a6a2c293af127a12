-- Halving: what a turn leaves is sought from there on, and where it ends the rows before are past and the row there is not.
use mathlib.Core.Path.{◌≡◌, refl, sym, ◌∙◌}
use mathlib.Core.Bool.{Bool, true, false}
use Prim.Native.Nat.{ℕ, zero, suc, ◌+◌, ◌-◌, ◌/◌, ◌≤◌, ◌<◌}
use native.Mathlib.Omega.{arith}
use lib.Dec.{ltb}
use borrow.Author.Tests.{ltb-true, lt-ltb, le-ltb}
use Rattle.numbers.specs.Number.{pick}
use Rattle.placing.specs.declared.Span.{Span}
use Rattle.placing.specs.Halving.{span, middle, narrowed, halved, found}

module _ (past : ℕ → Bool) where
  done : (f lo hi : ℕ) → hi ≤ lo → halved past f lo hi ≡ lo
  unfolding halved
  done zero lo hi h = refl
  done (suc f) lo hi h = rw (le-ltb lo hi h) refl

  -- more halvings than rows change nothing
  enough : (f g lo hi : ℕ) → hi - lo ≤ f → hi - lo ≤ g → halved past f lo hi ≡ halved past g lo hi
  unfolding halved
  enough zero g lo hi h k = sym (done g lo hi (omega arith))
  enough (suc f) zero lo hi h k = done (suc f) lo hi (omega arith)
  enough (suc f) (suc g) lo hi h k = go (ltb lo hi) refl (enough f g)
    where
      m : ℕ
      m = lo + (hi - lo) / 2

      go : (x : Bool) → ltb lo hi ≡ x → ((l r : ℕ) → r - l ≤ f → r - l ≤ g → halved past f l r ≡ halved past g l r)
          → pick x (pick (past m) (halved past f (m + 1) hi) (halved past f lo m)) lo ≡ pick x (pick (past m) (halved past g (m + 1) hi) (halved past g lo m)) lo
      go true e rec =
          let l = ltb-true lo hi e in
          rw (rec (m + 1) hi (omega arith) (omega arith), rec lo m (omega arith) (omega arith)) refl
      go false e rec = refl

  pub found-done : (lo hi : ℕ) → hi ≤ lo → found past lo hi ≡ lo
  unfolding found
  found-done lo hi h = done (hi - lo) lo hi h

  module _ (lo hi : ℕ) (h : lo < hi) where
    turn : found past lo hi ≡ pick (past (middle lo hi)) (found past (middle lo hi + 1) hi) (found past lo (middle lo hi))
    unfolding found halved
    turn = enough (hi - lo) (suc (hi - lo)) lo hi (omega arith) (omega arith)
        ∙ rw (lt-ltb lo hi h, enough (hi - lo) (hi - (middle lo hi + 1)) (middle lo hi + 1) hi (omega arith) (omega arith), enough (hi - lo) (middle lo hi - lo) lo (middle lo hi) (omega arith) (omega arith)) refl

    pub found-past : past (middle lo hi) ≡ true → found past (middle lo hi + 1) hi ≡ found past lo hi
    found-past e = sym (turn ∙ rw e refl)

    pub found-not : past (middle lo hi) ≡ false → found past lo (middle lo hi) ≡ found past lo hi
    found-not e = sym (turn ∙ rw e refl)

-- ---- a turn

module _ (past : ℕ → Bool) (s : Span) (h : s.lo < s.hi) (x : Bool) (e : past (middle s.lo s.hi) ≡ x) where
  abbrev m : ℕ
  m = middle s.lo s.hi

  pub turn-found : found past (narrowed s m x).lo (narrowed s m x).hi ≡ found past s.lo s.hi
  unfolding narrowed
  turn-found = go x e
    where
      go : (y : Bool) → past (middle s.lo s.hi) ≡ y
          → found past (pick y (span (m + 1) s.hi) (span s.lo m)).lo (pick y (span (m + 1) s.hi) (span s.lo m)).hi ≡ found past s.lo s.hi
      go true f = found-past past s.lo s.hi h f
      go false f = found-not past s.lo s.hi h f

pub turn-less : (s : Span) → s.lo < s.hi → (x : Bool)
    → ((narrowed s (middle s.lo s.hi) x).hi - (narrowed s (middle s.lo s.hi) x).lo) < s.hi - s.lo
unfolding narrowed
turn-less s h true = omega arith
turn-less s h false = omega arith

pub turn_below : (s : Span) → s.lo < s.hi → (x : Bool) → (narrowed s (middle s.lo s.hi) x).hi ≤ s.hi
unfolding narrowed
turn_below s h true = omega arith
turn_below s h false = omega arith

pub middle-below : (s : Span) → s.lo < s.hi → middle s.lo s.hi < s.hi
middle-below s h = omega arith
