-- A key is remembered: it stands in words behind those known, if there is room for it, and that there is none is said. A part is noted: it stands
-- behind the aliases with a number, if that is a known key's and there is room. Their texts are parts of any update.
use Rattle.std.specs.Prelude.{ℕ, ◌≤◌, ◌<◌, ◌≡◌, Bool, true, false, List, [], ◌∷◌, ◌++◌, ltb, eqb, get_or}
use Rattle.numbers.specs.Number.{pick}
use Rattle.text.specs.declared.Part.{Part}
use Rattle.readings.specs.Sound.{bytes_in}
use Rattle.decoder.specs.States.{max_keys}
use Rattle.tokens.specs.Keys.{number_of}
use Rattle.tokens.specs.Desk.{lanes_in, key_count, known_in, crowded_in, Tidy, Aliased}

pub record Remembers (p : Part) (w w₁ : List ℕ) : Type 0 where
  pub lanes : lanes_in w₁ ≡ lanes_in w
  pub tidy : Tidy w₁
  pub known : (u : List ℕ) → known_in u w₁ ≡ pick (ltb (key_count w) max_keys) (known_in u w ++ (bytes_in u p ∷ [])) (known_in u w)
  pub crowd : crowded_in w₁ ≡ pick (ltb (key_count w) max_keys) (crowded_in w) true
  pub aliases : (i : ℕ) → 564 ≤ i → get_or w₁ i 0 ≡ get_or w i 0

-- place and bytes
unfoldable pub same_part : Part → Part → Bool
same_part p q = pick (eqb p.place q.place) (eqb p.bytes.0 q.bytes.0) false

-- all but the aliases are the same
abbrev pub SameBelow : List ℕ → List ℕ → Type 0
SameBelow w w₁ = (i : ℕ) → i < 564 → get_or w₁ i 0 ≡ get_or w i 0

pub record Notes (p : Part) (n : ℕ) (w w₁ : List ℕ) : Type 0 where
  pub below : SameBelow w w₁
  pub aliased : (u : List ℕ) → Aliased u w → n ≡ number_of (bytes_in u p) (known_in u w) → Aliased u w₁
