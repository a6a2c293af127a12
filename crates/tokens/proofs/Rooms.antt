-- Words for keys: where there are keys to remember among tokens, there are among those before and behind them; form 1 has none to remember.
use Prim.Native.Nat.{ℕ, ◌≤◌}
use mathlib.Core.Path.{◌≡◌, refl, subst}
use mathlib.Core.Logic.{◌≢◌}
use mathlib.Core.Bool.{Bool, true, false}
use mathlib.Core.List.{List, [], ◌∷◌, ◌++◌}
use lib.Dec.{eqb}
use lib.ListN.{length}
use native.Mathlib.Omega.{arith}
use borrow.Author.Tests.{eq-eqb, ne_eqb}
use Rattle.numbers.specs.Number.{pick}
use Rattle.tokens.specs.Tokens.{Token, key}
use Rattle.tokens.specs.KeysInner.{is_key, keyless}
use Rattle.tokens.specs.Desk.{Room}

no : {A : Type 0} → true ≡ false → A
no p = absurd (let z : ◌≡◌ {A = ℕ} 0 1 = cc in omega arith)

-- ---- a key among tokens is one among more of them

pub keyed-later : (a b : List Token) → keyless b ≡ false → keyless (a ++ b) ≡ false
unfolding keyless
keyed-later [] b h = h
keyed-later (t ∷ a) b h = rw (keyed-later a b h) (go (is_key t))
  where
    go : (x : Bool) → pick x false false ≡ false
    go true = refl
    go false = refl

pub keyed-first : (a b : List Token) → keyless a ≡ false → keyless (a ++ b) ≡ false
unfolding keyless
keyed-first [] b h = no h
keyed-first (t ∷ a) b h = go (is_key t) h (λ k. keyed-first a b k)
  where
    go : (x : Bool) → pick x false (keyless a) ≡ false → (keyless a ≡ false → keyless (a ++ b) ≡ false) → pick x false (keyless (a ++ b)) ≡ false
    go true h more = refl
    go false h more = more h

-- ---- room

module _ {form : ℕ} {w : List ℕ} where
  pub room-later : (a b : List Token) → Room form (a ++ b) w → Room form b w
  room-later a b r = record { words = λ h. go (eqb form 1) r.words h }
    where
      go : (x : Bool) → (pick x true (keyless (a ++ b)) ≡ false → 1333 ≤ length w) → pick x true (keyless b) ≡ false → 1333 ≤ length w
      go true r h = no h
      go false r h = r (keyed-later a b h)

  pub room-first : (a b : List Token) → Room form (a ++ b) w → Room form a w
  room-first a b r = record { words = λ h. go (eqb form 1) r.words h }
    where
      go : (x : Bool) → (pick x true (keyless (a ++ b)) ≡ false → 1333 ≤ length w) → pick x true (keyless a) ≡ false → 1333 ≤ length w
      go true r h = no h
      go false r h = r (keyed-first a b h)

  -- the tokens under another name
  pub room-is : {a b : List Token} → a ≡ b → Room form a w → Room form b w
  room-is e r = subst (λ (ts : List Token). Room form ts w) e r

  -- other words, as many
  pub room-same : {ts : List Token} {w₁ : List ℕ} → length w₁ ≡ length w → Room form ts w → Room form ts w₁
  room-same e r = record { words = λ h. rw e (r.words h) }

  pub room-key : {b : List ℕ} {n : ℕ} {ts : List Token} → form ≢ 1 → Room form (key b n ∷ ts) w → 1333 ≤ length w
  unfolding keyless is_key
  room-key f r = r.words (rw (ne_eqb form 1 f))

  pub room-line : {ts : List Token} → form ≡ 1 → Room form ts w
  room-line f = record { words = λ h. no (rw (eq-eqb form 1 f) at h) }

  pub room-keyless : {ts : List Token} → keyless ts ≡ true → Room form ts w
  room-keyless k = record { words = λ h. go (eqb form 1) (rw k at h) }
    where
      go : (x : Bool) → pick x true true ≡ false → 1333 ≤ length w
      go true h = no h
      go false h = no h

  pub room-wide : {ts : List Token} → 1333 ≤ length w → Room form ts w
  room-wide l = record { words = λ h. l }
