-- Aliases in words: words that differ in them alone, one more stored behind them, and that a key remembered leaves them right.
use Prim.Native.Nat.{ℕ, suc, ◌+◌, ◌*◌, ◌≤◌, ◌<◌}
use mathlib.Core.Path.{◌≡◌, refl, ap, ◌∙◌}
use mathlib.Core.Logic.{◌≢◌}
use mathlib.Core.Bool.{Bool, true, false}
use mathlib.Core.List.{List, [], ◌∷◌, ◌++◌}
use native.Mathlib.Omega.{arith}
use lib.Dec.{ltb, eqb}
use lib.ListN.{length, length-append, get_or, set, length-set}
use lib.Seq.{get_or-set_same, get_or-set_other}
use borrow.Author.Tests.{eqb-true, eqb-false}
use Rattle.numbers.specs.Number.{pick}
use Rattle.text.specs.declared.Part.{Part}
use Rattle.readings.specs.Sound.{bytes_in}
use Rattle.decoder.specs.States.{max_keys}
use Rattle.tokens.specs.Tokens.{Token}
use Rattle.tokens.specs.Keys.{same, number_of}
use Rattle.tokens.specs.Desk.{desk_in, key_count, key_at, known_in, crowded_in, alias_count, alias_at, alias_number, Tidy, Aliased, WroteKeys}
use Rattle.tokens.proofs.Keyed.{known-length}
use Rattle.numbering.specs.Numbering.{Remembers, same_part, SameBelow, Notes}
use Rattle.numbering.proofs.Words.{lanes-same, still-tidy, from-below}

-- ---- the same part

no : {A : Type 0} → false ≡ true → A
no p = absurd (let z : ◌≡◌ {A = ℕ} 0 1 = cc in omega arith)

part-is : (a b c d : ℕ) → a ≡ c → b ≡ d → ◌≡◌ {A = Part} (record { place = a; bytes = record { 0 = b } }) (record { place = c; bytes = record { 0 = d } })
part-is a b c d e f = rw (e, f)

pub same-part : (p q : Part) → same_part p q ≡ true → p ≡ q
unfolding same_part
same-part p q h = go (eqb p.place q.place) (eqb p.bytes.0 q.bytes.0) refl refl h
  where
    go : (x y : Bool) → eqb p.place q.place ≡ x → eqb p.bytes.0 q.bytes.0 ≡ y → pick x y false ≡ true → p ≡ q
    go true true a b g = part-is p.place p.bytes.0 q.place q.bytes.0 (eqb-true p.place q.place a) (eqb-true p.bytes.0 q.bytes.0 b)
    go true false a b g = no g
    go false y a b g = no g

-- ---- words that differ in aliases alone

module _ (u w w₁ : List ℕ) (s : SameBelow w w₁) (t : Tidy w) where
  count-below : key_count w₁ ≡ key_count w
  unfolding key_count
  count-below = s 50 (omega arith)

  key_below : (j : ℕ) → j < key_count w → key_at w₁ j ≡ key_at w j
  unfolding key_at
  key_below j l = rw (s (52 + 2 * j) (omega (arith, t.keys)), s (53 + 2 * j) (omega (arith, t.keys)))

  pub known-below : known_in u w₁ ≡ known_in u w
  unfolding known_in
  known-below = rw count-below (from-below u w w₁ 0 (key_count w) (λ j l. key_below j (omega arith)))

  crowd-below : crowded_in w₁ ≡ crowded_in w
  unfolding crowded_in
  crowd-below = rw (s 51 (omega arith))

  desk-below : (form at : ℕ) → desk_in form w₁ at ≡ desk_in form w at
  unfolding desk_in
  desk-below form at = rw (lanes-same w w₁ (λ i l. s i (omega arith)))

  -- so the same is written from them
  pub wrote-below : {form : ℕ} {ts : List Token} {out : List ℕ} {at : ℕ} {out₂ w₂ : List ℕ} {at₂ : ℕ} → Aliased u w₁
      → WroteKeys u form ts out w₁ at out₂ w₂ at₂ → WroteKeys u form ts out w at out₂ w₂ at₂
  wrote-below {form} {ts} {out} {at} a k = record {
    desk = rw (desk-below form at, known-below) at k.desk;
    bytes = rw (desk-below form at, known-below) at k.bytes;
    tidy = k.tidy;
    known = rw known-below at k.known;
    crowd = rw (crowd-below, known-below) at k.crowd;
    aliased = λ _. k.aliased a;
  }

-- ---- a key remembered

-- a known key keeps its number
number-before : (b : List ℕ) (ks cs : List (List ℕ)) → number_of b ks < length ks → number_of b (ks ++ cs) ≡ number_of b ks
unfolding number_of
number-before b [] cs l = absurd (omega arith)
number-before b (k ∷ ks) cs l = go (same b k) l (λ m. number-before b ks cs m)
  where
    go : (x : Bool) → pick x 0 (suc (number_of b ks)) < suc (length ks) → (number_of b ks < length ks → number_of b (ks ++ cs) ≡ number_of b ks)
        → pick x 0 (suc (number_of b (ks ++ cs))) ≡ pick x 0 (suc (number_of b ks))
    go true l more = refl
    go false l more = ap suc (more (omega arith))

module _ (u : List ℕ) {p : Part} {w w₁ : List ℕ} (r : Remembers p w w₁) (a : Aliased u w) where
  abbrev ks : List (List ℕ)
  ks = known_in u w

  more-keys : key_count w ≤ key_count w₁
  more-keys = omega (arith, known-length u w, known-length u w₁, ap length (r.known u), go (ltb (key_count w) max_keys))
    where
      go : (x : Bool) → length ks ≤ length (pick x (ks ++ (bytes_in u p ∷ [])) ks)
      go true = omega (arith, length-append ks (bytes_in u p ∷ []))
      go false = omega arith

  same_number : (b : List ℕ) → number_of b ks < key_count w → number_of b (known_in u w₁) ≡ number_of b ks
  same_number b l = rw (r.known u) (go (ltb (key_count w) max_keys))
    where
      go : (x : Bool) → number_of b (pick x (ks ++ (bytes_in u p ∷ [])) ks) ≡ number_of b ks
      go true = number-before b ks (bytes_in u p ∷ []) (omega (arith, known-length u w))
      go false = refl

  count_same : alias_count w₁ ≡ alias_count w
  unfolding alias_count
  count_same = r.aliases 564 (omega arith)

  alias-same : (i : ℕ) → (alias_at w₁ i ≡ alias_at w i) × (alias_number w₁ i ≡ alias_number w i)
  unfolding alias_at alias_number
  alias-same i = (rw (r.aliases (565 + 3 * i) (omega arith), r.aliases (566 + 3 * i) (omega arith)), r.aliases (567 + 3 * i) (omega arith))

  pub remembers-aliased : Aliased u w₁
  remembers-aliased = record {
    tidy = r.tidy;
    few = rw count_same a.few;
    known = λ i l. omega (arith, (alias-same i).1, a.known i (rw count_same at l), more-keys);
    right = λ i l.
        let m = rw count_same at l in
        rw ((alias-same i).0, (alias-same i).1, same_number (bytes_in u (alias_at w i)) (omega (arith, a.right i m, a.known i m))) (a.right i m);
  }

-- ---- a part noted

pub notes-none : (w : List ℕ) (p : Part) (n : ℕ) → Notes p n w w
notes-none w p n = record { below = λ i l. refl; aliased = λ u a e. a }

-- of the first n + 1, the first n or the last
split : (P : ℕ → Type 0) (n : ℕ) → ((i : ℕ) → i < n → P i) → P n → (i : ℕ) → i < n + 1 → P i
split P n before last i l = go (eqb i n) refl
  where
    go : (x : Bool) → eqb i n ≡ x → P i
    go true h = rw (eqb-true i n h) last
    go false h = let d = eqb-false i n h in before i (omega (arith, l, d))

module _ (w : List ℕ) (t : Tidy w) (wide : 1333 ≤ length w) (p : Part) (n count : ℕ) (e : count ≡ alias_count w) (room : count < max_keys) where
  abbrev w₁ : List ℕ
  w₁ = set w (565 + 3 * count) p.place

  abbrev w₂ : List ℕ
  w₂ = set w₁ (565 + 3 * count + 1) p.bytes.0

  abbrev w₃ : List ℕ
  w₃ = set w₂ (565 + 3 * count + 2) n

  abbrev w₄ : List ℕ
  w₄ = set w₃ 564 (count + 1)

  size₁ : length w₁ ≡ length w
  size₁ = length-set w (565 + 3 * count) p.place

  size₂ : length w₂ ≡ length w
  size₂ = length-set w₁ (565 + 3 * count + 1) p.bytes.0 ∙ size₁

  size₃ : length w₃ ≡ length w
  size₃ = length-set w₂ (565 + 3 * count + 2) n ∙ size₂

  size₄ : length w₄ ≡ length w
  size₄ = length-set w₃ 564 (count + 1) ∙ size₃

  -- the other words
  noted_other : (i : ℕ) → i ≢ 564 → (i < 565 + 3 * count) → get_or w₄ i 0 ≡ get_or w i 0
  noted_other i d l =
      get_or-set_other w₃ 564 i (count + 1) 0 d
      ∙ get_or-set_other w₂ (565 + 3 * count + 2) i n 0 (λ h. absurd (omega (arith, l, h)))
      ∙ get_or-set_other w₁ (565 + 3 * count + 1) i p.bytes.0 0 (λ h. absurd (omega (arith, l, h)))
      ∙ get_or-set_other w (565 + 3 * count) i p.place 0 (λ h. absurd (omega (arith, l, h)))

  noted-below : SameBelow w w₄
  noted-below i l = noted_other i (λ h. absurd (omega (arith, l, h))) (omega (arith, l))

  noted-count : alias_count w₄ ≡ count + 1
  unfolding alias_count
  noted-count = get_or-set_same w₃ 564 (count + 1) 0 (omega (arith, size₃, wide))

  alias-before : (i : ℕ) → i < count → (alias_at w₄ i ≡ alias_at w i) × (alias_number w₄ i ≡ alias_number w i)
  unfolding alias_at alias_number
  alias-before i l =
      let d : (j : ℕ) → 565 ≤ j → j ≢ 564 = λ j m h. absurd (omega (arith, m, h)) in (
        rw (
          noted_other (565 + 3 * i) (d (565 + 3 * i) (omega arith)) (omega (arith, l)),
          noted_other (566 + 3 * i) (d (566 + 3 * i) (omega arith)) (omega (arith, l)),
        ),
        noted_other (567 + 3 * i) (d (567 + 3 * i) (omega arith)) (omega (arith, l)),
      )

  place_is : get_or w₄ (565 + 3 * count) 0 ≡ p.place
  place_is =
      get_or-set_other w₃ 564 (565 + 3 * count) (count + 1) 0 (λ h. absurd (omega (arith, h)))
      ∙ get_or-set_other w₂ (565 + 3 * count + 2) (565 + 3 * count) n 0 (λ h. absurd (omega (arith, h)))
      ∙ get_or-set_other w₁ (565 + 3 * count + 1) (565 + 3 * count) p.bytes.0 0 (λ h. absurd (omega (arith, h)))
      ∙ get_or-set_same w (565 + 3 * count) p.place 0 (omega (arith, wide, room))

  bytes-are : get_or w₄ (566 + 3 * count) 0 ≡ p.bytes.0
  bytes-are =
      ap (λ (i : ℕ). get_or w₄ i 0) next
      ∙ get_or-set_other w₃ 564 (565 + 3 * count + 1) (count + 1) 0 (λ h. absurd (omega (arith, h)))
      ∙ get_or-set_other w₂ (565 + 3 * count + 2) (565 + 3 * count + 1) n 0 (λ h. absurd (omega (arith, h)))
      ∙ get_or-set_same w₁ (565 + 3 * count + 1) p.bytes.0 0 (omega (arith, size₁, wide, room))
    where
      next : 566 + 3 * count ≡ 565 + 3 * count + 1
      next = omega arith

  number_is : get_or w₄ (567 + 3 * count) 0 ≡ n
  number_is =
      ap (λ (i : ℕ). get_or w₄ i 0) next
      ∙ get_or-set_other w₃ 564 (565 + 3 * count + 2) (count + 1) 0 (λ h. absurd (omega (arith, h)))
      ∙ get_or-set_same w₂ (565 + 3 * count + 2) n 0 (omega (arith, size₂, wide, room))
    where
      next : 567 + 3 * count ≡ 565 + 3 * count + 2
      next = omega arith

  alias-own : (alias_at w₄ count ≡ p) × (alias_number w₄ count ≡ n)
  unfolding alias_at alias_number
  alias-own = (rw (place_is, bytes-are), number_is)

  pub notes : n < key_count w → Notes p n w w₄
  notes l = record {
    below = noted-below;
    aliased = λ u a h.
        let same_keys = known-below u w w₄ noted-below t in
        let same_count = count-below u w w₄ noted-below t in
        record {
          tidy = still-tidy w w₄ (λ i m. noted-below i (omega (arith, m))) t size₄ (rw same_count t.keys);
          few = omega (arith, noted-count, room);
          known = λ i m.
              split (λ (j : ℕ). alias_number w₄ j < key_count w₄) count
              (λ j k. omega (arith, same_count, (alias-before j k).1, a.known j (omega (arith, e, k)))) (omega (arith, same_count, alias-own.1, l)) i
              (omega (arith, noted-count, m));
          right = λ i m.
              split (λ (j : ℕ). alias_number w₄ j ≡ number_of (bytes_in u (alias_at w₄ j)) (known_in u w₄)) count
              (λ j k. rw ((alias-before j k).0, (alias-before j k).1, same_keys) (a.right j (omega (arith, e, k))))
              (rw (alias-own.0, alias-own.1, same_keys) h) i (omega (arith, noted-count, m));
        };
  }
