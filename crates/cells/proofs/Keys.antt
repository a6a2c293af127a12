-- The keys that words have: how many they are, each of them, and what they are where the words of keys did not change or one key joined.
use Prim.Native.Nat.{ℕ, zero, suc, ◌+◌, ◌*◌, ◌≤◌, ◌<◌}
use mathlib.Core.Path.{◌≡◌, refl, sym, ap, ◌∙◌}
use mathlib.Core.List.{List, [], ◌∷◌, ◌++◌}
use native.Mathlib.Omega.{arith}
use native.Mathlib.Numerals.{add-one}
use lib.ListN.{length, get_or, set, length-set}
use lib.Seq.{get_or-set_other, get_or-set_same}
use Rattle.text.specs.declared.Part.{Part}
use Rattle.block.specs.Row.{no_part}
use Rattle.decoder.specs.States.{max_keys}
use Rattle.cells.specs.Cells.{part_in, key_count, keys_from, keys_in, Small}

-- ---- how many, and each of them

module _ (w : List ℕ) where
  from-none : (i : ℕ) → keys_from w i zero ≡ []
  unfolding keys_from
  from-none i = refl

  from_some : (i n : ℕ) → keys_from w i (suc n) ≡ part_in w (68 + 2 * i) ∷ keys_from w (suc i) n
  unfolding keys_from
  from_some i n = refl

  from-length : (i n : ℕ) → length (keys_from w i n) ≡ n
  from-length i zero = ap length (from-none i)
  from-length i (suc n) = ap length (from_some i n) ∙ ap suc (from-length (suc i) n)

  pub keys_length : length (keys_in w) ≡ key_count w
  unfolding keys_in
  keys_length = from-length 0 (key_count w)

  from_at : (i n j : ℕ) → j < n → get_or (keys_from w i n) j no_part ≡ part_in w (68 + 2 * (i + j))
  from_at i zero j l = absurd (omega arith)
  from_at i (suc n) zero l =
      let e : i + zero ≡ i = omega arith in
      ap (λ (ps : List Part). get_or ps zero no_part) (from_some i n) ∙ rw e refl
  from_at i (suc n) (suc j) l =
      let e : suc i + j ≡ i + suc j = omega arith in
      ap (λ (ps : List Part). get_or ps (suc j) no_part) (from_some i n) ∙ from_at (suc i) n j (omega arith) ∙ ap (λ (m : ℕ). part_in w (68 + 2 * m)) e

  pub keys-at : (i : ℕ) → i < key_count w → get_or (keys_in w) i no_part ≡ part_in w (68 + 2 * i)
  unfolding keys_in
  keys-at i l = let e : 0 + i ≡ i = omega arith in from_at 0 (key_count w) i l ∙ ap (λ (m : ℕ). part_in w (68 + 2 * m)) e

  -- the last of them
  from_last : (i n : ℕ) → keys_from w i (suc n) ≡ keys_from w i n ++ (part_in w (68 + 2 * (i + n)) ∷ [])
  from_last i zero =
      let e : i + zero ≡ i = omega arith in
      from_some i zero ∙ rw (from-none i, from-none (suc i), e) refl
  from_last i (suc n) =
      let e : suc i + n ≡ i + suc n = omega arith in
      from_some i (suc n)
      ∙ ap (λ (ps : List Part). part_in w (68 + 2 * i) ∷ ps) (from_last (suc i) n ∙ ap (λ (m : ℕ). keys_from w (suc i) n ++ (part_in w (68 + 2 * m) ∷ [])) e)
      ∙ ap (λ (ps : List Part). ps ++ (part_in w (68 + 2 * (i + suc n)) ∷ [])) (sym (from_some i n))

-- ---- the same keys

module _ (w v : List ℕ) where
  pub part_same : (k : ℕ) → get_or v k 0 ≡ get_or w k 0 → get_or v (k + 1) 0 ≡ get_or w (k + 1) 0 → part_in v k ≡ part_in w k
  unfolding part_in
  part_same k a b = rw (a, b) refl

  -- the words of the first m keys are as before
  from-same : (m : ℕ) → ((j : ℕ) → 68 ≤ j → j < 68 + 2 * m → get_or v j 0 ≡ get_or w j 0) → (i n : ℕ) → i + n ≤ m → keys_from v i n ≡ keys_from w i n
  from-same m same i zero l = from-none v i ∙ sym (from-none w i)
  from-same m same i (suc n) l =
      from_some v i n
      ∙ ap (λ (p : Part). p ∷ keys_from v (suc i) n) (part_same (68 + 2 * i) (same (68 + 2 * i) (omega arith) (omega arith)) (same (68 + 2 * i + 1) (omega arith) (omega arith)))
      ∙ ap (λ (ps : List Part). part_in w (68 + 2 * i) ∷ ps) (from-same m same (suc i) n (omega arith))
      ∙ sym (from_some w i n)

  pub keys-same : ((i : ℕ) → 67 ≤ i → get_or v i 0 ≡ get_or w i 0) → keys_in v ≡ keys_in w
  unfolding keys_in key_count
  keys-same same =
      ap (keys_from v 0) (same 67 (omega arith))
      ∙ from-same (get_or w 67 0) (λ j l h. same j (omega arith)) 0 (get_or w 67 0) (omega arith)

-- ---- no key

pub keys_none : (w : List ℕ) → key_count w ≡ 0 → keys_in w ≡ []
unfolding keys_in
keys_none w e = ap (keys_from w 0) e ∙ from-none w 0

-- ---- a key more, its place and bytes in the first two words that are no key's

module _ (w : List ℕ) (s : Small w) (wide : 580 ≤ length w) (n : ℕ) (e : n ≡ key_count w) (few : n < max_keys) (place bytes : ℕ) where
  abbrev pub joined : List ℕ
  joined = set (set (set w (68 + 2 * n) place) (68 + 2 * n + 1) bytes) 67 (n + 1)

  pub joined-below : (i : ℕ) → i < 67 → get_or joined i 0 ≡ get_or w i 0
  joined-below i l =
      let v = set w (68 + 2 * n) place in
      get_or-set_other (set v (68 + 2 * n + 1) bytes) 67 i (n + 1) 0 (λ q. omega arith)
      ∙ get_or-set_other v (68 + 2 * n + 1) i bytes 0 (λ q. omega arith)
      ∙ get_or-set_other w (68 + 2 * n) i place 0 (λ q. omega arith)

  pub joined-size : length joined ≡ length w
  joined-size =
      let v = set w (68 + 2 * n) place in
      length-set (set v (68 + 2 * n + 1) bytes) 67 (n + 1) ∙ length-set v (68 + 2 * n + 1) bytes ∙ length-set w (68 + 2 * n) place

  pub joined-count : key_count joined ≡ n + 1
  unfolding key_count
  joined-count =
      let v = set w (68 + 2 * n) place in
      get_or-set_same (set v (68 + 2 * n + 1) bytes) 67 (n + 1) 0 (omega (arith, s.size, length-set v (68 + 2 * n + 1) bytes, length-set w (68 + 2 * n) place))

  joined-before : (j : ℕ) → 68 ≤ j → j < 68 + 2 * n → get_or joined j 0 ≡ get_or w j 0
  joined-before j l h =
      let v = set w (68 + 2 * n) place in
      get_or-set_other (set v (68 + 2 * n + 1) bytes) 67 j (n + 1) 0 (λ q. omega arith)
      ∙ get_or-set_other v (68 + 2 * n + 1) j bytes 0 (λ q. omega arith)
      ∙ get_or-set_other w (68 + 2 * n) j place 0 (λ q. omega arith)

  joined-part : part_in joined (68 + 2 * n) ≡ record { place = place; bytes = record { 0 = bytes } }
  unfolding part_in
  joined-part =
      let v = set w (68 + 2 * n) place in
      rw (
        get_or-set_other (set v (68 + 2 * n + 1) bytes) 67 (68 + 2 * n) (n + 1) 0 (λ q. omega arith),
        get_or-set_other v (68 + 2 * n + 1) (68 + 2 * n) bytes 0 (λ q. omega arith),
        get_or-set_same w (68 + 2 * n) place 0 (omega (arith, wide)),
        get_or-set_other (set v (68 + 2 * n + 1) bytes) 67 (68 + 2 * n + 1) (n + 1) 0 (λ q. omega arith),
        get_or-set_same v (68 + 2 * n + 1) bytes 0 (omega (arith, wide, length-set w (68 + 2 * n) place)),
      ) refl

  pub keys-joined : keys_in joined ≡ keys_in w ++ (record { place = place; bytes = record { 0 = bytes } } ∷ [])
  unfolding keys_in
  keys-joined =
      let m : 0 + n ≡ n = omega arith in
      ap (keys_from joined 0) (joined-count ∙ add-one n)
      ∙ from_last joined 0 n
      ∙ ap (λ (k : ℕ). keys_from joined 0 n ++ (part_in joined (68 + 2 * k) ∷ [])) m
      ∙ ap (λ (p : Part). keys_from joined 0 n ++ (p ∷ [])) joined-part
      ∙ ap (λ (ps : List Part). ps ++ (record { place = place; bytes = record { 0 = bytes } } ∷ [])) (from-same w joined n joined-before 0 n (omega arith) ∙ ap (keys_from w 0) e)
