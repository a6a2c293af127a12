-- Two parts of an update, compared as slices are: the same, byte by byte.
use Prim.Native.Nat.{ℕ}
use mathlib.Core.Path.{◌≡◌, refl, ap}
use mathlib.Core.Bool.{Bool, ◌&&◌}
use mathlib.Core.List.{List, [], ◌∷◌}
use lib.Dec.{eqb}
use Rattle.std.specs.Prelude.{nat_eq}
use lib.Pointwise.{pointwise}
use Rattle.tokens.specs.Keys.{same}

pub pointwise-same : (b c : List ℕ) → pointwise nat_eq b c ≡ same b c
unfolding same
pointwise-same [] [] = refl
pointwise-same [] (y ∷ c) = refl
pointwise-same (x ∷ b) [] = refl
pointwise-same (x ∷ b) (y ∷ c) = ap (λ (t : Bool). eqb x y && t) (pointwise-same b c)
