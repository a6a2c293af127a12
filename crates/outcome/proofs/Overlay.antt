-- Words that overlay others, one more at a time.
use Prim.Native.Nat.{ℕ}
use mathlib.Core.Path.{◌≡◌, refl, ap}
use mathlib.Core.List.{List, [], ◌∷◌, ◌++◌}
use native.Mathlib.Omega.{arith}
use lib.ListN.{length, set, take}
use lib.Seq.{take-nil, drop-nil}
use Rattle.outcome.specs.Tie.{overlaid}

pub overlaid-none : (w : List ℕ) → overlaid w [] ≡ w
unfolding overlaid
overlaid-none w = rw (take-nil {A = ℕ} (length w)) refl

pub overlaid-more : (w ws : List ℕ) (x : ℕ) → set (overlaid w ws) (length ws) x ≡ overlaid w (ws ++ (x ∷ []))
unfolding overlaid
overlaid-more [] ws x = rw (drop-nil {A = ℕ} (length ws), drop-nil {A = ℕ} (length (ws ++ (x ∷ [])))) refl
overlaid-more (a ∷ w) [] x = rw (take-nil {A = ℕ} (length w)) refl
overlaid-more (a ∷ w) (b ∷ ws) x = ap (λ (l : List ℕ). b ∷ l) (overlaid-more w ws x)

-- as many of them as fit, and no more words than before
pub overlaid-front : (w ws : List ℕ) → take (length ws) (overlaid w ws) ≡ take (length w) ws
unfolding overlaid
overlaid-front w [] = rw (take-nil {A = ℕ} (length w)) refl
overlaid-front [] (x ∷ ws) = refl
overlaid-front (y ∷ w) (x ∷ ws) = ap (λ (l : List ℕ). x ∷ l) (overlaid-front w ws)

pub overlaid-length : (w ws : List ℕ) → length (overlaid w ws) ≡ length w
unfolding overlaid
overlaid-length w [] = rw (take-nil {A = ℕ} (length w)) refl
overlaid-length [] (x ∷ ws) = refl
overlaid-length (y ∷ w) (x ∷ ws) = omega (arith, overlaid-length w ws)
