-- Where no key can be read by its number, by the form and the update's second byte.
use Prim.Native.Nat.{ℕ, ◌<◌}
use mathlib.Core.Path.{◌≡◌, refl, sym, ◌∙◌}
use mathlib.Core.Logic.{◌≢◌}
use mathlib.Core.List.{List, [], ◌∷◌}
use mathlib.Core.Bool.{true}
use native.Mathlib.Omega.{arith}
use lib.Dec.{eqb}
use lib.ListN.{length, get_or}
use borrow.Author.Tests.{eq-eqb, ne_eqb, eqb-true}
use Rattle.reader.specs.Reader.{keyless}

module _ (form : ℕ) (u : List ℕ) where
  pub keyless-line : form ≡ 1 → keyless form u ≡ true
  unfolding keyless
  keyless-line h = rw (eq-eqb form 1 h) refl

  pub keyless-by : form ≢ 1 → keyless form u ≡ eqb (get_or u 1 0) 0
  unfolding keyless
  keyless-by h = rw (ne_eqb form 1 h) refl

  pub keyless-byte : keyless form u ≡ true → form ≢ 1 → get_or u 1 0 ≡ 0
  keyless-byte h other = eqb-true (get_or u 1 0) 0 (sym (keyless-by other) ∙ h)

  -- it may have no second byte
  pub keyless-short : form ≢ 1 → length u < 2 → keyless form u ≡ true
  keyless-short other l = keyless-by other ∙ eq-eqb (get_or u 1 0) 0 (none u l)
    where
      none : (t : List ℕ) → length t < 2 → get_or t 1 0 ≡ 0
      none [] m = refl
      none (x ∷ []) m = refl
      none (x ∷ y ∷ t) m = absurd (omega arith)
