-- Where a block has ended: what is decided of it.
use Prim.Native.Nat.{ℕ, ◌≤◌}
use native.Mathlib.Omega.{arith}
use mathlib.Core.Path.{◌≡◌, refl, sym, ◌∙◌}
use mathlib.Core.Bool.{Bool, true, false}
use lib.Dec.{eqb}
use borrow.Author.Tests.{eqb-false}
use Rattle.numbers.specs.Number.{pick}
use Rattle.roles.specs.declared.Plan.{Plan}
use Rattle.roles.specs.RolesInner.{is_kept}
use Rattle.explainer.specs.Following.{is_found}
use Rattle.explainer.proofs.Fits.{not-both}

-- a kept block that is not the one sought stands before it
pub not_first : (q : Plan) (ahead : ℕ) → is_found q ahead ≡ false → is_kept q ≡ true → 1 ≤ ahead
unfolding is_found
not_first q ahead f k = go (eqb ahead 0) refl f
  where
    go : (x : Bool) → eqb ahead 0 ≡ x → pick x (is_kept q) false ≡ false → 1 ≤ ahead
    go true e h = absurd (not-both (sym k ∙ h))
    go false e h = omega (arith, eqb-false ahead 0 e)
