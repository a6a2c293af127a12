-- Words stored in column k, or behind the columns: the column holds them, the other columns, the place in line and the keys are as before, and the words stay
-- small.
use Prim.Native.Nat.{ℕ, zero, suc, ◌+◌, ◌*◌, ◌≤◌, ◌<◌}
use mathlib.Core.Path.{◌≡◌, refl, sym, ◌∙◌}
use mathlib.Core.Logic.{◌≢◌}
use mathlib.Core.List.{List, [], ◌∷◌}
use mathlib.Core.Bool.{Bool, true, false}
use native.Mathlib.Omega.{arith}
use lib.Dec.{eqb}
use lib.ListN.{length, get_or, set, length-set}
use lib.Seq.{get_or-set_other, get_or-set_same}
use borrow.Author.Tests.{eqb-true, eqb-false}
use Rattle.cells.specs.Cells.{cell, numbers_in, differences_in, bytes_in, texts_in, at_in, place_in, why_in, key_count, Short, Idle, Small, Wide, Elsewhere}

-- ---- elsewhere

pub elsewhere-none : (k : ℕ) (w : List ℕ) → Elsewhere k w w
elsewhere-none k w = record { at = refl; same = λ j i s h l. refl; keys = λ i l. refl }

pub elsewhere-on : (k : ℕ) (w v u : List ℕ) → Elsewhere k w v → Elsewhere k v u → Elsewhere k w u
elsewhere-on k w v u a b = record {
  at = b.at ∙ a.at;
  same = λ j i s h l. b.same j i s h l ∙ a.same j i s h l;
  keys = λ i l. b.keys i l ∙ a.keys i l;
}

-- where no column changed, none but k did
pub elsewhere-any : (k : ℕ) (w v : List ℕ) → Elsewhere 9 w v → Elsewhere k w v
elsewhere-any k w v e = record { at = e.at; same = λ j i s h l. e.same j i s (λ q. omega arith) l; keys = e.keys }

-- a store in column k
pub elsewhere-in : (k j n a : ℕ) (w : List ℕ) → n ≡ 7 * k + j → j < 7 → k ≤ 8 → Elsewhere k w (set w n a)
unfolding cell at_in
elsewhere-in k j n a w e l few = record {
  at = get_or-set_other w n 63 a 0 (λ q. omega arith);
  same = λ m i s h b. get_or-set_other w n (7 * m + i) a 0 (λ q. h (omega arith));
  keys = λ i b. get_or-set_other w n i a 0 (λ q. omega arith);
}

-- a store between the place in line and the keys
pub elsewhere-behind : (k n a : ℕ) (w : List ℕ) → 64 ≤ n → n < 67 → Elsewhere k w (set w n a)
unfolding cell at_in
elsewhere-behind k n a w l m = record {
  at = get_or-set_other w n 63 a 0 (λ q. omega arith);
  same = λ m i s h b. get_or-set_other w n (7 * m + i) a 0 (λ q. omega arith);
  keys = λ i b. get_or-set_other w n i a 0 (λ q. omega arith);
}

-- ---- small words

pub short-same : (k j : ℕ) (w v : List ℕ) → Elsewhere k w v → j ≤ 8 → j ≢ k → Short w j → Short v j
short-same k j w v e few h s = record { last = rw (e.same j 2 few h (omega arith)) s.last; key = rw (e.same j 5 few h (omega arith)) s.key }

pub count_same : (k : ℕ) (w v : List ℕ) → Elsewhere k w v → key_count v ≡ key_count w
unfolding key_count
count_same k w v e = e.keys 67 (omega arith)

-- the key column is as before
pub idle-same : (w v : List ℕ) → ((i : ℕ) → i < 7 → cell v 0 i ≡ cell w 0 i) → Idle w → Idle v
idle-same w v e i = (e 3 (omega arith) ∙ i.0, rw (e 4 (omega arith), e 0 (omega arith)) i.1)

pub room-same : (w v : List ℕ) → ((i : ℕ) → i < 7 → cell v 0 i ≡ cell w 0 i) → length v ≡ length w → Small w → length v < 580 → Idle v
room-same w v e l s h = idle-same w v e (s.room (omega (arith, l, h)))

-- a column that is none of differences changed
pub small-wide : (k : ℕ) (w v : List ℕ) → Wide k → Small w → Elsewhere k w v → length v ≡ length w → get_or v 65 0 ≤ 255 → Small v
small-wide k w v few s e l b = record {
  size = rw l s.size;
  room = room-same w v (λ i m. e.same 0 i (omega arith) (λ q. few.1 (sym q)) m) l s;
  keys = rw (count_same k w v e) s.keys;
  key = short-same k 0 w v e (omega arith) (λ q. few.1 (sym q)) s.key;
  left = short-same k 2 w v e (omega arith) (λ q. few.2 (sym q)) s.left;
  right = short-same k 3 w v e (omega arith) (λ q. few.3 (sym q)) s.right;
  why = b;
}

-- any column changed, and is short if it is one of differences; the key column, and is idle unless there are words for keys
pub small_any : (k : ℕ) (w v : List ℕ) → Small w → (k ≡ 0 → length v < 580 → Idle v) → Elsewhere k w v → length v ≡ length w → get_or v 65 0 ≤ 255
    → Short v k → Small v
small_any k w v s own e l b short = record {
  size = rw l s.size;
  room = λ h. roomy h (eqb 0 k) refl;
  keys = rw (count_same k w v e) s.keys;
  key = at 0 (omega arith) s.key;
  left = at 2 (omega arith) s.left;
  right = at 3 (omega arith) s.right;
  why = b;
}
  where
    go : (j : ℕ) → j ≤ 8 → Short w j → (x : Bool) → eqb j k ≡ x → Short v j
    go j few h true q = rw (eqb-true j k q) short
    go j few h false q = short-same k j w v e few (eqb-false j k q) h

    at : (j : ℕ) → j ≤ 8 → Short w j → Short v j
    at j few h = go j few h (eqb j k) refl

    roomy : length v < 580 → (x : Bool) → eqb 0 k ≡ x → Idle v
    roomy h true q = own (sym (eqb-true 0 k q)) h
    roomy h false q = room-same w v (λ i m. e.same 0 i (omega arith) (eqb-false 0 k q) m) l s h

-- ---- words stored in column k, one after the other

-- v is w but for column k, whose seven words are c, and for the place blamed last
pub record Held (k : ℕ) (w c v : List ℕ) : Type 0 where
  pub long : 68 ≤ length w
  pub size : length v ≡ length w
  pub elsewhere : Elsewhere k w v
  pub why : get_or v 65 0 ≤ 255
  pub seven : length c ≡ 7
  pub words : (j : ℕ) → j < 7 → cell v k j ≡ get_or c j 0

abbrev pub column : List ℕ → ℕ → List ℕ
column w k = cell w k 0 ∷ cell w k 1 ∷ cell w k 2 ∷ cell w k 3 ∷ cell w k 4 ∷ cell w k 5 ∷ cell w k 6 ∷ []

module _ (k : ℕ) (w : List ℕ) where
  pub held : Small w → Held k w (column w k) w
  held s = record { long = s.size; size = refl; elsewhere = elsewhere-none k w; why = s.why; seven = refl; words = at }
    where
      at : (j : ℕ) → j < 7 → cell w k j ≡ get_or (column w k) j 0
      at zero l = refl
      at (suc zero) l = refl
      at (suc (suc zero)) l = refl
      at (suc (suc (suc zero))) l = refl
      at (suc (suc (suc (suc zero)))) l = refl
      at (suc (suc (suc (suc (suc zero))))) l = refl
      at (suc (suc (suc (suc (suc (suc zero)))))) l = refl
      at (suc (suc (suc (suc (suc (suc (suc j))))))) l = omega arith

  module _ (c v : List ℕ) (few : k ≤ 8) (h : Held k w c v) where
    pub put-at : (n j a : ℕ) → n ≡ 7 * k + j → j < 7 → Held k w (set c j a) (set v n a)
    unfolding cell
    put-at n j a e l = record {
      long = h.long;
      size = length-set v n a ∙ h.size;
      elsewhere = elsewhere-on k w v (set v n a) h.elsewhere (elsewhere-in k j n a v e l few);
      why = rw (get_or-set_other v n 65 a 0 (λ q. omega arith)) h.why;
      seven = length-set c j a ∙ h.seven;
      words = λ i b. go i b (eqb i j) refl;
    }
      where
        go : (i : ℕ) → i < 7 → (x : Bool) → eqb i j ≡ x → get_or (set v n a) (7 * k + i) 0 ≡ get_or (set c j a) i 0
        go i b true q =
            let s = eqb-true i j q in
            rw (s, ← e) (get_or-set_same v n a 0 (omega (arith, h.size, h.long)) ∙ sym (get_or-set_same c j a 0 (omega (arith, h.seven))))
        go i b false q =
            let s = eqb-false i j q in
            get_or-set_other v n (7 * k + i) a 0 (λ p. s (omega arith)) ∙ h.words i b ∙ sym (get_or-set_other c j i a 0 s)

    -- the place blamed
    pub put-place : (a : ℕ) → Held k w c (set v 64 a)
    unfolding cell
    put-place a = record {
      long = h.long;
      size = length-set v 64 a ∙ h.size;
      elsewhere = elsewhere-on k w v (set v 64 a) h.elsewhere (elsewhere-behind k 64 a v (omega arith) (omega arith));
      why = rw (get_or-set_other v 64 65 a 0 (λ q. omega arith)) h.why;
      seven = h.seven;
      words = λ i b. get_or-set_other v 64 (7 * k + i) a 0 (λ q. omega arith) ∙ h.words i b;
    }

    pub place-put : (a : ℕ) → place_in (set v 64 a) ≡ a
    unfolding place_in
    place-put a = get_or-set_same v 64 a 0 (omega (arith, h.size, h.long))

-- the first four words of a column, one after the other
module _ (k : ℕ) (w : List ℕ) (s : Small w) (few : k ≤ 8) (at from last count : ℕ) where
  abbrev pub run : List ℕ
  run = set (set (set (set w (7 * k) at) (7 * k + 1) from) (7 * k + 2) last) (7 * k + 3) count

  pub put-run : Held k w (at ∷ from ∷ last ∷ count ∷ cell w k 4 ∷ cell w k 5 ∷ cell w k 6 ∷ []) run
  put-run =
      let w0 = set w (7 * k) at in
      let w1 = set w0 (7 * k + 1) from in
      let w2 = set w1 (7 * k + 2) last in
      let h0 = put-at k w (column w k) w few (held k w s) (7 * k) 0 at (omega arith) (omega arith) in
      let h1 = put-at k w _ w0 few h0 (7 * k + 1) 1 from refl (omega arith) in
      let h2 = put-at k w _ w1 few h1 (7 * k + 2) 2 last refl (omega arith) in
      put-at k w _ w2 few h2 (7 * k + 3) 3 count refl (omega arith)

-- ---- what the column is then

module _ (k : ℕ) (w c v : List ℕ) (h : Held k w c v) where
  pub numbers-held : numbers_in v k ≡ record { place = record { at = get_or c 0 0; from = get_or c 1 0; last = get_or c 2 0; count = get_or c 3 0 }; to = get_or c 4 0 }
  unfolding numbers_in
  numbers-held = rw (h.words 0 (omega arith), h.words 1 (omega arith), h.words 2 (omega arith), h.words 3 (omega arith), h.words 4 (omega arith)) refl

  pub differences-held : differences_in v k ≡ record { place = record { at = get_or c 0 0; from = get_or c 1 0; last = get_or c 2 0; key = get_or c 5 0; count = get_or c 3 0 }; to = get_or c 4 0 }
  unfolding differences_in
  differences-held = rw (h.words 0 (omega arith), h.words 1 (omega arith), h.words 2 (omega arith), h.words 3 (omega arith), h.words 4 (omega arith), h.words 5 (omega arith)) refl

  pub bytes-held : bytes_in v k ≡ record { place = record { at = get_or c 0 0; from = get_or c 1 0; last = get_or c 2 0; count = get_or c 3 0; endless = eqb (get_or c 5 0) 1 }; to = get_or c 4 0 }
  unfolding bytes_in
  bytes-held = rw (h.words 0 (omega arith), h.words 1 (omega arith), h.words 2 (omega arith), h.words 3 (omega arith), h.words 4 (omega arith), h.words 5 (omega arith)) refl

  pub texts-held : texts_in v k ≡ record { place = record { at = get_or c 5 0; end = get_or c 6 0; units = record { at = get_or c 0 0; from = get_or c 1 0; last = get_or c 2 0; count = get_or c 3 0 } }; to = get_or c 4 0 }
  unfolding texts_in numbers_in
  texts-held = rw (h.words 0 (omega arith), h.words 1 (omega arith), h.words 2 (omega arith), h.words 3 (omega arith), h.words 4 (omega arith), h.words 5 (omega arith), h.words 6 (omega arith)) refl

  pub held-wide : Wide k → Small w → Small v
  held-wide few s = small-wide k w v few s h.elsewhere h.size h.why

  pub held-short : Small w → (k ≡ 0 → length v < 580 → Idle v) → get_or c 2 0 ≤ 4294967295 → get_or c 5 0 ≤ 4294967295 → Small v
  held-short s own last key =
      small_any k w v s own h.elsewhere h.size h.why (record { last = rw (h.words 2 (omega arith)) last; key = rw (h.words 5 (omega arith)) key })

-- ---- why a field was refused

module _ (w : List ℕ) (s : Small w) (number place : ℕ) where
  abbrev pub blamed : List ℕ
  blamed = set (set w 65 number) 66 place

  pub elsewhere-refused : Elsewhere 9 w blamed
  elsewhere-refused =
      let v = set w 65 number in
      elsewhere-on 9 w v blamed (elsewhere-behind 9 65 number w (omega arith) (omega arith)) (elsewhere-behind 9 66 place v (omega arith) (omega arith))

  size-refused : length blamed ≡ length w
  size-refused = length-set (set w 65 number) 66 place ∙ length-set w 65 number

  number-refused : get_or blamed 65 0 ≡ number
  number-refused = get_or-set_other (set w 65 number) 66 65 place 0 (λ q. omega arith) ∙ get_or-set_same w 65 number 0 (omega (arith, s.size))

  pub why-refused : why_in blamed ≡ record { number = number; place = place }
  unfolding why_in
  why-refused = rw (number-refused, get_or-set_same (set w 65 number) 66 place 0 (omega (arith, s.size, length-set w 65 number))) refl

  pub small-refused : number ≤ 255 → Small blamed
  small-refused l = record {
    size = rw size-refused s.size;
    room = room-same w blamed (λ i m. elsewhere-refused.same 0 i (omega arith) (λ q. omega arith) m) size-refused s;
    keys = rw (count_same 9 w blamed elsewhere-refused) s.keys;
    key = short-same 9 0 w blamed elsewhere-refused (omega arith) (λ q. omega arith) s.key;
    left = short-same 9 2 w blamed elsewhere-refused (omega arith) (λ q. omega arith) s.left;
    right = short-same 9 3 w blamed elsewhere-refused (omega arith) (λ q. omega arith) s.right;
    why = rw number-refused l;
  }
