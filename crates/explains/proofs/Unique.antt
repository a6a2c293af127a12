-- No other answer fits: two answers that keep the promise of `explain` for the same inputs are the same, and so is what is lent back, whatever stood in the
-- words that were lent, if they were as many.
use Prim.Native.Nat.{ℕ}
use mathlib.Core.Path.{◌≡◌}
use mathlib.Core.List.{List}
use lib.ListN.{length}
use Rattle.explains.specs.declared.Explained.{Explained}
use Rattle.explains.specs.Promises.{Explains}

pub only-explain : (form : ℕ) (u : List ℕ) (n : ℕ) (out out' : List ℕ) (r r' : Explained) (out₁ out₁' : List ℕ) → length out ≡ length out'
    → Explains form u n out r out₁ → Explains form u n out' r' out₁' → (r ≡ r') × (out₁ ≡ out₁')
only-explain form u n out out' r r' out₁ out₁' long p q = (cc, cc)
