-- The lanes of a form side by side, a token at a time: form 1 has one lane, form 2 eleven, and each takes its own of every token. The states of the
-- ten lanes before the last are words, five a lane; behind them stand the keys known, two words a key, and their aliases, three words each, where
-- there are keys to remember. The last lane, and form 1's only one, is all in line: its state is its place.
use Rattle.std.specs.Prelude.{ℕ, zero, suc, ◌+◌, ◌*◌, ◌≤◌, ◌<◌, ◌≡◌, ◌≢◌, Bool, true, false, List, [], ◌∷◌, ◌++◌, ltb, eqb, length, get_or}
use Rattle.numbers.specs.Number.{pick}
use Rattle.text.specs.declared.Part.{Part}
use Rattle.runs.specs.Writer.{Sound}
use Rattle.readings.specs.Sound.{bytes_in}
use Rattle.tokens.specs.Tokens.{Token, column_in, rest, whole}
use Rattle.decoder.specs.States.{max_keys}
use Rattle.tokens.specs.Keys.{number_of, crowded}
use Rattle.tokens.specs.KeysInner.{keyless, spelled, known_after}
use Rattle.tokens.specs.Lanes.{Lane, fresh_lane, put, laid, closed, laid_end}

-- ---- a token onto every lane

unfoldable pub put_each : List Lane → Token → List Lane
put_each [] t = []
put_each (e ∷ es) t = put e t ∷ put_each es t

unfoldable pub laid_each : List ℕ → List Lane → Token → List ℕ
laid_each out [] t = out
laid_each out (e ∷ es) t = laid_each (laid out e t) es t

unfoldable pub put_tokens : List Lane → List Token → List Lane
put_tokens es [] = es
put_tokens es (t ∷ ts) = put_tokens (put_each es t) ts

unfoldable pub laid_tokens : List ℕ → List Lane → List Token → List ℕ
laid_tokens out es [] = out
laid_tokens out es (t ∷ ts) = laid_tokens (laid_each out es t) (put_each es t) ts

-- the end of every lane
unfoldable pub closed_each : List Lane → List Lane
closed_each [] = []
closed_each (e ∷ es) = closed e ∷ closed_each es

unfoldable pub laid_ends : List ℕ → List Lane → List ℕ
laid_ends out [] = out
laid_ends out (e ∷ es) = laid_ends (laid_end out e) es

-- ---- lanes in words: place, last value, key and count of the run under way, and whether a difference could not be spelled

unfoldable pub lane_in : List ℕ → ℕ → Lane
lane_in w k = record {
  lane = k;
  run = record { column = column_in k; at = get_or w (5 * k) 0; last = get_or w (5 * k + 1) 0; key = get_or w (5 * k + 2) 0; count = get_or w (5 * k + 3) 0 };
  far = ltb 0 (get_or w (5 * k + 4) 0);
}

unfoldable pub lanes_in : List ℕ → List Lane
lanes_in w =
    lane_in w 0 ∷ (lane_in w 1 ∷ (lane_in w 2 ∷ (lane_in w 3 ∷ (lane_in w 4
    ∷ (lane_in w 5 ∷ (lane_in w 6 ∷ (lane_in w 7 ∷ (lane_in w 8 ∷ (lane_in w 9 ∷ [])))))))))

-- the lanes of a form, the words being w and the place in line `at`
unfoldable pub desk_in : ℕ → List ℕ → ℕ → List Lane
desk_in form w at = pick (eqb form 1) (fresh_lane whole at ∷ []) (lanes_in w ++ (fresh_lane rest at ∷ []))

-- ---- keys in words: how many there are (50), whether one found no room (51), and the places and bytes of their texts in u

unfoldable pub key_count : List ℕ → ℕ
key_count w = get_or w 50 0

unfoldable pub key_at : List ℕ → ℕ → Part
key_at w i = record { place = get_or w (52 + 2 * i) 0; bytes = record { 0 = get_or w (53 + 2 * i) 0 } }

unfoldable pub known_from : List ℕ → List ℕ → ℕ → ℕ → List (List ℕ)
known_from u w i zero = []
known_from u w i (suc n) = bytes_in u (key_at w i) ∷ known_from u w (suc i) n

unfoldable pub known_in : List ℕ → List ℕ → List (List ℕ)
known_in u w = known_from u w 0 (key_count w)

unfoldable pub crowded_in : List ℕ → Bool
crowded_in w = ltb 0 (get_or w 51 0)

-- ---- aliases in words: how many there are (564); of each the place and the bytes of a part of u that was seen as a key, and the number it has

unfoldable pub alias_count : List ℕ → ℕ
alias_count w = get_or w 564 0

unfoldable pub alias_at : List ℕ → ℕ → Part
alias_at w i = record { place = get_or w (565 + 3 * i) 0; bytes = record { 0 = get_or w (566 + 3 * i) 0 } }

unfoldable pub alias_number : List ℕ → ℕ → ℕ
alias_number w i = get_or w (567 + 3 * i) 0

-- what words have at all times
pub record Tidy (w : List ℕ) : Type 0 where
  pub size : 52 ≤ length w
  pub sound : (k : ℕ) → k < 10 → Sound (lane_in w k).run
  pub keys : key_count w ≤ max_keys

-- where there are keys to remember, there are words for them: form 1 remembers none
pub record Room (form : ℕ) (ts : List Token) (w : List ℕ) : Type 0 where
  pub words : pick (eqb form 1) true (keyless ts) ≡ false → 1333 ≤ length w

-- words in which nothing is written yet, and no key is known
pub record Blank (w : List ℕ) : Type 0 where
  pub size : 52 ≤ length w
  pub lanes : (i : ℕ) → i < 50 → get_or w i 0 ≡ 0
  pub keys : key_count w ≡ 0
  pub crowd : get_or w 51 0 ≡ 0
  pub aliases : alias_count w ≡ 0

-- what they have besides, where keys of u are written: an alias has the number of its key, and that is known
pub record Aliased (u w : List ℕ) : Type 0 where
  pub tidy : Tidy w
  pub few : alias_count w ≤ max_keys
  pub known : (i : ℕ) → i < alias_count w → alias_number w i < key_count w
  pub right : (i : ℕ) → i < alias_count w → alias_number w i ≡ number_of (bytes_in u (alias_at w i)) (known_in u w)

-- the keys are the same, and their aliases
abbrev pub SameKeys : List ℕ → List ℕ → Type 0
SameKeys w w₁ = (i : ℕ) → 50 ≤ i → get_or w₁ i 0 ≡ get_or w i 0

-- ---- what a writer leaves: of bytes, words and a place, the same after the tokens ts

pub record Wrote (form : ℕ) (ts : List Token) (out w : List ℕ) (at : ℕ) (out₁ w₁ : List ℕ) (at₁ : ℕ) : Type 0 where
  pub desk : desk_in form w₁ at₁ ≡ put_tokens (desk_in form w at) ts
  pub bytes : out₁ ≡ laid_tokens out (desk_in form w at) ts
  pub tidy : Tidy w₁
  pub keys : SameKeys w w₁

-- the same where there are keys among the tokens: form 2 has them by number, and remembers them
pub record WroteKeys (u : List ℕ) (form : ℕ) (ts : List Token) (out w : List ℕ) (at : ℕ) (out₁ w₁ : List ℕ) (at₁ : ℕ) : Type 0 where
  pub desk : desk_in form w₁ at₁ ≡ put_tokens (desk_in form w at) (spelled form (known_in u w) ts)
  pub bytes : out₁ ≡ laid_tokens out (desk_in form w at) (spelled form (known_in u w) ts)
  pub tidy : Tidy w₁
  pub known : known_in u w₁ ≡ known_after form (known_in u w) ts
  pub crowd : crowded_in w₁ ≡ pick (crowded_in w) true (pick (eqb form 1) false (crowded (known_in u w) ts))
  pub aliased : Aliased u w → Aliased u w₁

-- lane k alone goes on
pub record Alone (k : ℕ) (e : Lane) (w w₁ : List ℕ) : Type 0 where
  pub own : lane_in w₁ k ≡ e
  pub others : (j : ℕ) → j < 10 → j ≢ k → lane_in w₁ j ≡ lane_in w j
  pub tidy : Tidy w₁
  pub keys : SameKeys w w₁

-- ---- what measuring leaves: the words as if tokens were written where there is no room, wherever the place in line is

abbrev pub Gauged : List Token → List ℕ → List ℕ → Type 0
Gauged ts w w₁ = (at : ℕ) → (at₁ : ℕ) × Wrote 2 ts [] w at [] w₁ at₁

abbrev pub Sized : List ℕ → List Token → List ℕ → List ℕ → Type 0
Sized u ts w w₁ = (at : ℕ) → (at₁ : ℕ) × WroteKeys u 2 ts [] w at [] w₁ at₁
