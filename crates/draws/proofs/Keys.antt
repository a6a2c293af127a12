-- Keys that were read, as parts of an update: a key's number finds one that has its bytes.
use Prim.Native.Nat.{ℕ, suc, ◌<◌}
use mathlib.Core.Path.{◌≡◌, refl, sym, ap}
use mathlib.Core.Bool.{Bool, true, false, ◌&&◌}
use mathlib.Core.List.{List, [], ◌∷◌, ◌++◌, map}
use native.Mathlib.Omega.{arith}
use lib.Dec.{eqb}
use lib.ListN.{length, get_or}
use borrow.Author.Tests.{eqb-true}
use Rattle.numbers.specs.Number.{pick}
use Rattle.text.specs.declared.Part.{Part}
use Rattle.block.specs.Row.{no_part}
use Rattle.readings.specs.Sound.{bytes_in}
use Rattle.readings.proofs.Columns.{clash}
use Rattle.tokens.specs.Keys.{same, number_of}

-- the bytes of keys, one by one
unfoldable pub bytes_each : List ℕ → List Part → List (List ℕ)
bytes_each u ps = map (bytes_in u) ps

pub same-equal : (b c : List ℕ) → same b c ≡ true → b ≡ c
unfolding same
same-equal [] [] h = refl
same-equal [] (y ∷ c) h = clash (sym h)
same-equal (x ∷ b) [] h = clash (sym h)
same-equal (x ∷ b) (y ∷ c) h = go (eqb x y) refl (same b c) refl (same-equal b c) h
  where
    go : (p : Bool) → eqb x y ≡ p → (q : Bool) → same b c ≡ q → (same b c ≡ true → b ≡ c) → p && q ≡ true → x ∷ b ≡ y ∷ c
    go true e true f more h = rw (eqb-true x y e, more f)
    go true e false f more h = clash (sym h)
    go false e q f more h = clash (sym h)

module _ (u : List ℕ) where
  pub each-length : (ps : List Part) → length (bytes_each u ps) ≡ length ps
  unfolding bytes_each
  each-length [] = refl
  each-length (p ∷ ps) = ap suc (each-length ps)

  -- one more
  pub each-joins : (ps : List Part) (p : Part) → bytes_each u (ps ++ (p ∷ [])) ≡ bytes_each u ps ++ (bytes_in u p ∷ [])
  unfolding bytes_each
  each-joins [] p = refl
  each-joins (q ∷ ps) p = ap (λ (l : List (List ℕ)). bytes_in u q ∷ l) (each-joins ps p)

  -- a key that is known is the one of its number
  pub each-finds : (ps : List Part) (b : List ℕ) → number_of b (bytes_each u ps) < length ps → bytes_in u (get_or ps (number_of b (bytes_each u ps)) no_part) ≡ b
  unfolding bytes_each number_of
  each-finds [] b l = absurd (omega arith)
  each-finds (p ∷ ps) b l = go (same b (bytes_in u p)) refl (each-finds ps b) l
    where
      go : (x : Bool) → same b (bytes_in u p) ≡ x
          → (number_of b (map (bytes_in u) ps) < length ps → bytes_in u (get_or ps (number_of b (map (bytes_in u) ps)) no_part) ≡ b)
          → pick x 0 (suc (number_of b (map (bytes_in u) ps))) < suc (length ps)
          → bytes_in u (get_or (p ∷ ps) (pick x 0 (suc (number_of b (map (bytes_in u) ps)))) no_part) ≡ b
      go true e more l = sym (same-equal b (bytes_in u p) e)
      go false e more l = more (omega arith)
