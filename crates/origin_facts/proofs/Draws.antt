-- What holds of every draw that succeeds.
use Prim.Native.Nat.{ℕ}
use mathlib.Core.Path.{◌≡◌, subst}
use mathlib.Core.Bool.{Bool, true, false}
use lib.Dec.{ltb}
use Rattle.numbers.specs.Number.{pick}
use Rattle.grammar.specs.Course.{Drawn, got, not}
use Rattle.decoder.specs.Line.{bounded}
use Rattle.decoder.specs.States.{State, moved_to}
use Rattle.decoder.specs.Columned.{onto}
use Rattle.origin_facts.specs.Facts.{On}

pub on-got : {S X : Type 0} (P : X → S → Type 0) (d : Drawn S X) (a : X) (t : S) → On P d → d ≡ got a t → P a t
unfolding On
on-got P d a t h e = subst (On P) e h

pub on-any : {S X : Type 0} (P : X → S → Type 0) (d : Drawn S X) → ((a : X) (t : S) → P a t) → On P d
unfolding On
on-any P (got a t) h = h a t
on-any P (not why) h = tt

-- in line the place alone is moved
pub on-onto : {X : Type 0} (P : X → State → Type 0) (s : State) (d : Drawn ℕ X) → ((a : X) (e : ℕ) → P a (moved_to s e)) → On P (onto s d)
unfolding On onto
on-onto P s (got a e) h = h a e
on-onto P s (not why) h = tt

-- a limit only refuses
pub on-bounded : {S : Type 0} (P : ℕ × ℕ → S → Type 0) (most : ℕ) (d : Drawn S (ℕ × ℕ)) → On P d → On P (bounded most d)
unfolding On bounded
on-bounded P most (got a t) h = go (ltb most a.0)
  where
    go : (b : Bool) → On P (pick b (not (record { number = 3; place = a.1 })) (got a t))
    go true = tt
    go false = h
on-bounded P most (not why) h = tt
