-- Tokens one after the other are drawn one after the other: the state between them.
use Prim.Native.Nat.{ℕ}
use mathlib.Core.Path.{refl}
use mathlib.Core.List.{List, [], ◌∷◌, ◌++◌}
use Rattle.grammar.specs.Course.{Reader}
use Rattle.tokens.specs.Tokens.{Token, field, text, var, buf, key, value, values}
use Rattle.draws.specs.Draws.{Draws}

module _ {S : Type 0} (r : Reader S) (u : List ℕ) where
  pub record Split (s : S) (xs ys : List Token) (t : S) : Type 0 where
    pub between : S
    pub first : Draws r u s xs between
    pub then : Draws r u between ys t

  pub split : (xs ys : List Token) (s t : S) → Draws r u s (xs ++ ys) t → Split s xs ys t
  unfolding Draws
  split [] ys s t h = record { between = s; first = refl; then = h }
  split (field k v ∷ xs) ys s t h =
      let x = split xs ys h.1 t h.3 in
      record { between = x.between; first = (h.0, h.1, h.2, x.first); then = x.then }
  split (text b n ∷ xs) ys s t h =
      let x = split xs ys h.1 t h.4 in
      record { between = x.between; first = (h.0, h.1, h.2, h.3, x.first); then = x.then }
  split (var v ∷ xs) ys s t h =
      let x = split xs ys h.1 t h.3 in
      record { between = x.between; first = (h.0, h.1, h.2, x.first); then = x.then }
  split (buf b ∷ xs) ys s t h =
      let x = split xs ys h.1 t h.4 in
      record { between = x.between; first = (h.0, h.1, h.2, h.3, x.first); then = x.then }
  split (key b n ∷ xs) ys s t h =
      let x = split xs ys h.1 t h.4 in
      record { between = x.between; first = (h.0, h.1, h.2, h.3, x.first); then = x.then }
  split (value b ∷ xs) ys s t h =
      let x = split xs ys h.1 t h.4 in
      record { between = x.between; first = (h.0, h.1, h.2, h.3, x.first); then = x.then }
  split (values b ∷ xs) ys s t h =
      let x = split xs ys h.1 t h.4 in
      record { between = x.between; first = (h.0, h.1, h.2, h.3, x.first); then = x.then }
