-- Keys in words: looked for one after the other, and one more stored behind them.
use Prim.Native.Nat.{ℕ, zero, suc, ◌+◌, ◌-◌, ◌*◌, ◌≤◌, ◌<◌}
use mathlib.Core.Path.{◌≡◌, refl, sym, ap, subst, ◌∙◌}
use mathlib.Core.Logic.{◌≢◌}
use mathlib.Core.Bool.{true, false}
use mathlib.Core.List.{List, [], ◌∷◌, ◌++◌}
use native.Mathlib.Numerals.{add-one}
use native.Mathlib.Nat.{zero-add}
use native.Mathlib.Omega.{arith}
use lib.ListN.{length, get_or, set, length-set}
use lib.Seq.{get_or-set_same, get_or-set_other}
use borrow.Author.Tests.{lt-ltb, le-ltb}
use Rattle.runs.specs.Writer.{Sound}
use Rattle.text.specs.declared.Part.{Part}
use Rattle.readings.specs.Sound.{bytes_in}
use Rattle.decoder.specs.States.{max_keys}
use Rattle.tokens.specs.Keys.{same, number_of}
use Rattle.tokens.specs.Lanes.{Lane}
use Rattle.tokens.specs.Desk.{lane_in, lanes_in, key_count, key_at, known_from, known_in, crowded_in, Tidy}
use Rattle.numbering.specs.Numbering.{Remembers}

-- ---- looked for

module _ (u w : List ℕ) (i n : ℕ) where
  pub from-none : known_from u w i 0 ≡ []
  unfolding known_from
  from-none = refl

  from_cons : i < n → known_from u w i (n - i) ≡ bytes_in u (key_at w i) ∷ known_from u w (i + 1) (n - (i + 1))
  unfolding known_from
  from_cons l =
      let m : n - i ≡ suc (n - (i + 1)) = omega arith in
      rw (m, add-one)

  module _ (b : List ℕ) (l : i < n) where
    pub found_here : same b (bytes_in u (key_at w i)) ≡ true → i + number_of b (known_from u w i (n - i)) ≡ i
    unfolding number_of
    found_here h = rw (from_cons l, h) (omega arith)

    pub found-later : same b (bytes_in u (key_at w i)) ≡ false
        → i + 1 + number_of b (known_from u w (i + 1) (n - (i + 1))) ≡ i + number_of b (known_from u w i (n - i))
    unfolding number_of
    found-later h = rw (from_cons l, h) (omega arith)

  pub found_nowhere : (b : List ℕ) → n ≤ i → i + number_of b (known_from u w i (n - i)) ≡ i
  unfolding number_of
  found_nowhere b l = let z : n - i ≡ 0 = omega arith in rw (z, from-none) (omega arith)

-- ---- stored

-- words that have the same lanes
module _ (w w₁ : List ℕ) (h : (i : ℕ) → i < 50 → get_or w₁ i 0 ≡ get_or w i 0) where
  lane-same : (k : ℕ) → k < 10 → lane_in w₁ k ≡ lane_in w k
  unfolding lane_in
  lane-same k l = rw (h (5 * k) (omega arith), h (5 * k + 1) (omega arith), h (5 * k + 2) (omega arith), h (5 * k + 3) (omega arith), h (5 * k + 4) (omega arith))

  pub lanes-same : lanes_in w₁ ≡ lanes_in w
  unfolding lanes_in
  lanes-same =
      rw (
        lane-same 0 (omega arith),
        lane-same 1 (omega arith),
        lane-same 2 (omega arith),
        lane-same 3 (omega arith),
        lane-same 4 (omega arith),
        lane-same 5 (omega arith),
        lane-same 6 (omega arith),
        lane-same 7 (omega arith),
        lane-same 8 (omega arith),
        lane-same 9 (omega arith),
      )

  pub still-tidy : Tidy w → length w₁ ≡ length w → key_count w₁ ≤ max_keys → Tidy w₁
  still-tidy t s m = record {
    size = rw s t.size;
    sound = λ k l. subst (λ (e : Lane). Sound e.run) (sym (lane-same k l)) (t.sound k l);
    keys = m;
  }

-- the same keys below a number
pub from-below : (u w w₁ : List ℕ) (i n : ℕ) → ((j : ℕ) → j < i + n → key_at w₁ j ≡ key_at w j) → known_from u w₁ i n ≡ known_from u w i n
unfolding known_from
from-below u w w₁ i zero h = refl
from-below u w w₁ i (suc n) h = rw (h i (omega arith), from-below u w w₁ (suc i) n (λ j l. h j (omega arith)))

from-snoc : (u w : List ℕ) (i n : ℕ) → known_from u w i (suc n) ≡ known_from u w i n ++ (bytes_in u (key_at w (i + n)) ∷ [])
unfolding known_from
from-snoc u w i zero = ap (λ (j : ℕ). bytes_in u (key_at w j) ∷ []) (omega arith)
from-snoc u w i (suc n) =
    ap (λ (l : List (List ℕ)). bytes_in u (key_at w i) ∷ l)
    (from-snoc u w (suc i) n ∙ ap (λ (j : ℕ). known_from u w (suc i) n ++ (bytes_in u (key_at w j) ∷ [])) (omega arith))

module _ (w : List ℕ) (t : Tidy w) (count : ℕ) (e : count ≡ key_count w) (p : Part) where
  -- there is no room
  abbrev said : List ℕ
  said = set w 51 1

  said-other : (i : ℕ) → i ≢ 51 → get_or said i 0 ≡ get_or w i 0
  said-other i n = get_or-set_other w 51 i 1 0 n

  said-count : key_count said ≡ key_count w
  unfolding key_count
  said-count = said-other 50 (λ h. absurd (omega arith))

  said-key : (j : ℕ) → key_at said j ≡ key_at w j
  unfolding key_at
  said-key j = rw (said-other (52 + 2 * j) (λ h. absurd (omega arith)), said-other (53 + 2 * j) (λ h. absurd (omega arith)))

  said-known : (u : List ℕ) → known_in u said ≡ known_in u w
  unfolding known_in
  said-known u = rw said-count (from-below u w said 0 (key_count w) (λ j l. said-key j))

  said-crowd : crowded_in said ≡ true
  unfolding crowded_in
  said-crowd = rw (get_or-set_same w 51 1 0 (omega (arith, t.size)))

  pub says-crowded : max_keys ≤ count → Remembers p w said
  says-crowded m =
      let full = le-ltb (key_count w) max_keys (omega arith) in
      let low : (i : ℕ) → i < 50 → get_or said i 0 ≡ get_or w i 0 = λ i l. said-other i (λ h. absurd (omega arith)) in
      record {
        lanes = lanes-same w said low;
        tidy = still-tidy w said low t (length-set w 51 1) (rw said-count t.keys);
        known = λ u. rw full (said-known u);
        crowd = rw full said-crowd;
        aliases = λ i l. said-other i (λ h. absurd (omega arith));
      }

  -- there is
  abbrev w₁ : List ℕ
  w₁ = set w (52 + 2 * count) p.place

  abbrev w₂ : List ℕ
  w₂ = set w₁ (52 + 2 * count + 1) p.bytes.0

  abbrev w₃ : List ℕ
  w₃ = set w₂ 50 (count + 1)

  stored_other : (i : ℕ) → i ≢ 52 + 2 * count → i ≢ 52 + 2 * count + 1 → i ≢ 50 → get_or w₃ i 0 ≡ get_or w i 0
  stored_other i a b c =
      get_or-set_other w₂ 50 i (count + 1) 0 c ∙ get_or-set_other w₁ (52 + 2 * count + 1) i p.bytes.0 0 b ∙ get_or-set_other w (52 + 2 * count) i p.place 0 a

  module _ (wide : 1333 ≤ length w) (l : count < max_keys) where
    size₁ : length w₁ ≡ length w
    size₁ = length-set w (52 + 2 * count) p.place

    size₂ : length w₂ ≡ length w
    size₂ = length-set w₁ (52 + 2 * count + 1) p.bytes.0 ∙ size₁

    size₃ : length w₃ ≡ length w
    size₃ = length-set w₂ 50 (count + 1) ∙ size₂

    stored-count : key_count w₃ ≡ suc count
    unfolding key_count
    stored-count = get_or-set_same w₂ 50 (count + 1) 0 (omega (arith, size₂, wide)) ∙ add-one count

    place_is : get_or w₃ (52 + 2 * count) 0 ≡ p.place
    place_is =
        get_or-set_other w₂ 50 (52 + 2 * count) (count + 1) 0 (λ h. absurd (omega arith))
        ∙ get_or-set_other w₁ (52 + 2 * count + 1) (52 + 2 * count) p.bytes.0 0 (λ h. absurd (omega arith))
        ∙ get_or-set_same w (52 + 2 * count) p.place 0 (omega (arith, wide))

    bytes-are : get_or w₃ (53 + 2 * count) 0 ≡ p.bytes.0
    bytes-are =
        ap (λ (i : ℕ). get_or w₃ i 0) next
        ∙ get_or-set_other w₂ 50 (52 + 2 * count + 1) (count + 1) 0 (λ h. absurd (omega arith))
        ∙ get_or-set_same w₁ (52 + 2 * count + 1) p.bytes.0 0 (omega (arith, size₁, wide))
      where
        next : 53 + 2 * count ≡ 52 + 2 * count + 1
        next = omega arith

    stored-key : key_at w₃ count ≡ p
    unfolding key_at
    stored-key = rw (place_is, bytes-are)

    stored-below : (j : ℕ) → j < count → key_at w₃ j ≡ key_at w j
    unfolding key_at
    stored-below j m =
        rw (
          stored_other (52 + 2 * j) (λ h. absurd (omega arith)) (λ h. absurd (omega arith)) (λ h. absurd (omega arith)),
          stored_other (53 + 2 * j) (λ h. absurd (omega arith)) (λ h. absurd (omega arith)) (λ h. absurd (omega arith)),
        )

    stored-known : (u : List ℕ) → known_in u w₃ ≡ known_in u w ++ (bytes_in u p ∷ [])
    unfolding known_in
    stored-known u =
        rw (stored-count, ← e)
        (from-snoc u w₃ 0 count ∙ rw (zero-add, stored-key, from-below u w w₃ 0 count (λ j m. stored-below j (omega arith))))

    stored-crowd : crowded_in w₃ ≡ crowded_in w
    unfolding crowded_in
    stored-crowd = rw (stored_other 51 (λ h. absurd (omega arith)) (λ h. absurd (omega arith)) (λ h. absurd (omega arith)))

    pub stores : Remembers p w w₃
    stores =
        let room = lt-ltb (key_count w) max_keys (omega arith) in
        let low : (i : ℕ) → i < 50 → get_or w₃ i 0 ≡ get_or w i 0
        = λ i l. stored_other i (λ h. absurd (omega arith)) (λ h. absurd (omega arith)) (λ h. absurd (omega arith)) in
        record {
          lanes = lanes-same w w₃ low;
          tidy = still-tidy w w₃ low t size₃ (omega (arith, stored-count));
          known = λ u. rw room (stored-known u);
          crowd = rw room stored-crowd;
          aliases = λ i m. stored_other i (λ h. absurd (omega arith)) (λ h. absurd (omega arith)) (λ h. absurd (omega arith));
        }
