-- Six words a front: a front that is put is the front that is there, and no other changes; the fronts and reaches of slots; the first front that is due.
use mathlib.Core.Path.{◌≡◌, refl, sym, ap, ◌∙◌}
use mathlib.Core.Logic.{◌≢◌}
use mathlib.Core.Bool.{Bool, true, false}
use mathlib.Core.List.{List, [], ◌∷◌}
use Prim.Native.Nat.{ℕ, zero, suc, ◌+◌, ◌-◌, ◌*◌, ◌/◌, ◌≤◌, ◌<◌}
use native.Mathlib.Omega.{arith}
use native.Mathlib.Numerals.{add-one}
use lib.Dec.{ltb, leb, eqb}
use lib.ListN.{length, get_or, set, length-set}
use lib.Seq.{sets, length-sets, get_or-set_same, get_or-set_other}
use borrow.Author.Tests.{lt-ltb, le-ltb, lt-leb, ne_eqb, ltb-true, ltb-false, eqb-true, eqb-false}
use Rattle.numbers.specs.Number.{pick}
use Rattle.numbers.proofs.Moves.{get_d_sets_before}
use Rattle.vector.specs.Vector.{Entry}
use Rattle.kept.specs.Kept.{remote}
use Rattle.slots.specs.Slots.{Slot, slot_at, slots_from}
use Rattle.slots.proofs.Words.{slots-here, slots-ended}
use Rattle.picker.specs.declared.fronts.Front.{Front}
use Rattle.picker.specs.Fronts.{no_front, fresh, front_at, put_front, opened_from, filled_from, is_due, due_from}

same-front : (f g : Front) → f.next ≡ g.next → f.left ≡ g.left → f.slot ≡ g.slot → f.need ≡ g.need → f.stage ≡ g.stage → f.missing ≡ g.missing
    → f ≡ g
same-front f g a b c d e m = λ i. record { next = a i; left = b i; slot = c i; need = d i; stage = e i; missing = m i }

-- ---- words stored one after the other

get_d-sets-behind : (vs w : List ℕ) (i j : ℕ) → i + length vs ≤ j → get_or (sets w i vs) j 0 ≡ get_or w j 0
get_d-sets-behind [] w i j h = refl
get_d-sets-behind (v ∷ vs) w i j h = get_d-sets-behind vs (set w i v) (suc i) j (omega arith) ∙ get_or-set_other w i j v 0 (λ e. omega arith)

get_d-sets-in : (vs w : List ℕ) (i k j : ℕ) → j ≡ i + k → k < length vs → j < length w → get_or (sets w i vs) j 0 ≡ get_or vs k 0
get_d-sets-in [] w i k j e h l = absurd (omega arith)
get_d-sets-in (v ∷ vs) w i zero j e h l =
    let e' : j ≡ i = omega arith in
    get_d_sets_before vs (set w i v) (suc i) j (omega arith) ∙ rw e' (get_or-set_same w i v 0 (omega arith))
get_d-sets-in (v ∷ vs) w i (suc k) j e h l = get_d-sets-in vs (set w i v) (suc i) k j (omega arith) (omega arith) (simp length-set (omega arith))

-- ---- fronts in words

abbrev words : Front → List ℕ
words f = f.next ∷ (f.left ∷ (f.slot ∷ (f.need ∷ (f.stage ∷ (f.missing ∷ [])))))

module _ (w : List ℕ) (i : ℕ) where
  module _ (h : i < length w / 6) where
    pub front-there : front_at w i
        ≡ record {
          next = get_or w (6 * i) 0;
          left = get_or w (6 * i + 1) 0;
          slot = get_or w (6 * i + 2) 0;
          need = get_or w (6 * i + 3) 0;
          stage = get_or w (6 * i + 4) 0;
          missing = get_or w (6 * i + 5) 0;
        }
    unfolding front_at
    front-there = rw (lt-ltb i (length w / 6) h) refl

    put-there : (f : Front) → put_front w i f ≡ sets w (6 * i) (words f)
    unfolding put_front
    put-there f =
        let e2 : 6 * i + 2 ≡ suc (suc (6 * i)) = omega arith in
        let e3 : 6 * i + 3 ≡ suc (suc (suc (6 * i))) = omega arith in
        let e4 : 6 * i + 4 ≡ suc (suc (suc (suc (6 * i)))) = omega arith in
        let e5 : 6 * i + 5 ≡ suc (suc (suc (suc (suc (6 * i))))) = omega arith in
        rw (lt-ltb i (length w / 6) h, e5, e4, e3, e2, add-one) refl

  module _ (h : length w / 6 ≤ i) where
    pub front-nowhere : front_at w i ≡ no_front
    unfolding front_at
    front-nowhere = rw (le-ltb i (length w / 6) h) refl

    pub put-nowhere : (f : Front) → put_front w i f ≡ w
    unfolding put_front
    put-nowhere f = rw (le-ltb i (length w / 6) h) refl

-- a front that is put
module _ (w : List ℕ) (i : ℕ) (f : Front) where
  pub length-put : length (put_front w i f) ≡ length w
  length-put = go (ltb i (length w / 6)) refl
    where
      go : (x : Bool) → ltb i (length w / 6) ≡ x → length (put_front w i f) ≡ length w
      go true e = rw (put-there w i (ltb-true i (length w / 6) e) f) (length-sets w (6 * i) (words f))
      go false e = ap length (put-nowhere w i (ltb-false i (length w / 6) e) f)

  pub front-put : i < length w / 6 → front_at (put_front w i f) i ≡ f
  front-put h =
      front-there (put_front w i f) i (rw length-put h)
      ∙ same-front _ f (word 0 (6 * i) (omega arith) (omega arith)) (word 1 (6 * i + 1) refl (omega arith)) (word 2 (6 * i + 2) refl (omega arith))
      (word 3 (6 * i + 3) refl (omega arith)) (word 4 (6 * i + 4) refl (omega arith)) (word 5 (6 * i + 5) refl (omega arith))
    where
      word : (k p : ℕ) → p ≡ 6 * i + k → k < 6 → get_or (put_front w i f) p 0 ≡ get_or (words f) k 0
      word k p e b = rw (put-there w i h f) (get_d-sets-in (words f) w (6 * i) k p e b (omega arith))

  module _ (j : ℕ) (ne : j ≢ i) where
    module _ (h : i < length w / 6) (k p : ℕ) (at : p ≡ 6 * j + k) (b : k < 6) where
      word-by : (x : Bool) → ltb j i ≡ x → get_or (put_front w i f) p 0 ≡ get_or w p 0
      word-by true e = rw (put-there w i h f) (get_d_sets_before (words f) w (6 * i) p (omega (arith, ltb-true j i e)))
      word-by false e =
          let lt : i < j = omega (arith, ltb-false j i e, ne) in
          rw (put-there w i h f) (get_d-sets-behind (words f) w (6 * i) p (omega arith))

      same_word : get_or (put_front w i f) p 0 ≡ get_or w p 0
      same_word = word-by (ltb j i) refl

    -- no other front changes
    pub other-put : front_at (put_front w i f) j ≡ front_at w j
    other-put = go (ltb i (length w / 6)) refl (ltb j (length w / 6)) refl
      where
        go : (x : Bool) → ltb i (length w / 6) ≡ x → (y : Bool) → ltb j (length w / 6) ≡ y → front_at (put_front w i f) j ≡ front_at w j
        go false e y e' = ap (λ (v : List ℕ). front_at v j) (put-nowhere w i (ltb-false i (length w / 6) e) f)
        go true e false e' =
            let h = ltb-false j (length w / 6) e' in
            front-nowhere (put_front w i f) j (rw length-put h) ∙ sym (front-nowhere w j h)
        go true e true e' =
            let g = ltb-true i (length w / 6) e in
            let h = ltb-true j (length w / 6) e' in
            front-there (put_front w i f) j (rw length-put h)
            ∙ same-front _ _ (same_word g 0 (6 * j) (omega arith) (omega arith)) (same_word g 1 (6 * j + 1) refl (omega arith))
            (same_word g 2 (6 * j + 2) refl (omega arith)) (same_word g 3 (6 * j + 3) refl (omega arith)) (same_word g 4 (6 * j + 4) refl (omega arith))
            (same_word g 5 (6 * j + 5) refl (omega arith))
            ∙ sym (front-there w j h)

-- ---- the fronts of slots

pub length-opened : (k : ℕ) (ss : List Slot) (w : List ℕ) → length (opened_from k ss w) ≡ length w
unfolding opened_from
length-opened k [] w = refl
length-opened k (s ∷ ss) w = length-opened (suc k) ss (put_front w k (fresh s.first s.count)) ∙ length-put w k (fresh s.first s.count)

opened-before : (k j : ℕ) (ss : List Slot) (w : List ℕ) → j < k → front_at (opened_from k ss w) j ≡ front_at w j
unfolding opened_from
opened-before k j [] w h = refl
opened-before k j (s ∷ ss) w h =
    opened-before (suc k) j ss (put_front w k (fresh s.first s.count)) (omega arith)
    ∙ other-put w k (fresh s.first s.count) j (λ e. omega arith)

opened-at : (k i j : ℕ) (ss : List Slot) (w : List ℕ) (d : Slot) → j ≡ k + i → i < length ss → 6 * (k + length ss) ≤ length w
    → front_at (opened_from k ss w) j ≡ fresh (get_or ss i d).first (get_or ss i d).count
unfolding opened_from
opened-at k i j [] w d e h fits = absurd (omega arith)
opened-at k zero j (s ∷ ss) w d e h fits =
    let f = fresh s.first s.count in
    let e' : j ≡ k = omega arith in
    opened-before (suc k) j ss (put_front w k f) (omega arith) ∙ rw e' (front-put w k f (omega arith))
opened-at k (suc i) j (s ∷ ss) w d e h fits =
    let f = fresh s.first s.count in
    opened-at (suc k) i j ss (put_front w k f) d (omega arith) (omega arith) (rw (length-put w k f) (omega arith))

-- front i is the one that the client of slot i begins with
pub opened-front : (ss : List Slot) (w : List ℕ) (d : Slot) (i : ℕ) → i < length ss → 6 * length ss ≤ length w
    → front_at (opened_from 0 ss w) i ≡ fresh (get_or ss i d).first (get_or ss i d).count
opened-front ss w d i h fits = opened-at 0 i i ss w d (omega arith) h (omega arith)

-- ---- the reaches of slots

module _ (v : List Entry) where
  pub length-filled : (k : ℕ) (ss : List Slot) (w : List ℕ) → length (filled_from k ss v w) ≡ length w
  unfolding filled_from
  length-filled k [] w = refl
  length-filled k (s ∷ ss) w = length-filled (suc k) ss (set w k (remote v s.client)) ∙ length-set w k (remote v s.client)

  filled-before : (k j : ℕ) (ss : List Slot) (w : List ℕ) → j < k → get_or (filled_from k ss v w) j 0 ≡ get_or w j 0
  unfolding filled_from
  filled-before k j [] w h = refl
  filled-before k j (s ∷ ss) w h =
      filled-before (suc k) j ss (set w k (remote v s.client)) (omega arith) ∙ get_or-set_other w k j (remote v s.client) 0 (λ e. omega arith)

  filled_at : (k i j : ℕ) (ss : List Slot) (w : List ℕ) (d : Slot) → j ≡ k + i → i < length ss → k + length ss ≤ length w
      → get_or (filled_from k ss v w) j 0 ≡ remote v (get_or ss i d).client
  unfolding filled_from
  filled_at k i j [] w d e h fits = absurd (omega arith)
  filled_at k zero j (s ∷ ss) w d e h fits =
      let r = remote v s.client in
      let e' : j ≡ k = omega arith in
      filled-before (suc k) j ss (set w k r) (omega arith) ∙ rw e' (get_or-set_same w k r 0 (omega arith))
  filled_at k (suc i) j (s ∷ ss) w d e h fits =
      filled_at (suc k) i j ss (set w k (remote v s.client)) d (omega arith) (omega arith) (simp length-set (omega arith))

  -- reach i is what the vector has of the client of slot i
  pub filled-reach : (ss : List Slot) (w : List ℕ) (d : Slot) (i : ℕ) → i < length ss → length ss ≤ length w
      → get_or (filled_from 0 ss v w) i 0 ≡ remote v (get_or ss i d).client
  filled-reach ss w d i h fits = filled_at 0 i i ss w d (omega arith) h (omega arith)

-- ---- slots one after the other

module _ (s w : List ℕ) (n i : ℕ) where
  pub open_turn : i < n
      → opened_from (i + 1) (slots_from s (i + 1) (n - (i + 1))) (put_front w i (fresh (get_or s (3 * i + 1) 0) (get_or s (3 * i + 2) 0)))
      ≡ opened_from i (slots_from s i (n - i)) w
  unfolding opened_from slot_at
  open_turn h = rw (slots-here s n i h, add-one i) refl

  pub open-ended : n ≤ i → opened_from i (slots_from s i (n - i)) w ≡ w
  unfolding opened_from
  open-ended h = rw (slots-ended s n i h) refl

  module _ (v : List Entry) where
    pub fill-turn : i < n
        → filled_from (i + 1) (slots_from s (i + 1) (n - (i + 1))) v (set w i (remote v (get_or s (3 * i) 0))) ≡ filled_from i (slots_from s i (n - i)) v w
    unfolding filled_from slot_at
    fill-turn h = rw (slots-here s n i h, add-one i) refl

    pub fill-ended : n ≤ i → filled_from i (slots_from s i (n - i)) v w ≡ w
    unfolding filled_from
    fill-ended h = rw (slots-ended s n i h) refl

-- ---- the first front that is due

-- a slot without a reach has come to nothing
pub leb-zero : (k : ℕ) → leb k 0 ≡ eqb k 0
leb-zero zero = refl
leb-zero (suc k) = lt-leb (suc k) 0 (omega arith) ∙ sym (ne_eqb (suc k) 0 (λ e. omega arith))

module _ (w r : List ℕ) where
  module _ (i : ℕ) where
    pub due-there : i < length w / 6 → is_due w r i ≡ leb (get_or w (6 * i + 3) 0) (get_or r (get_or w (6 * i + 2) 0) 0)
    unfolding is_due
    due-there h = rw (lt-ltb i (length w / 6) h, front-there w i h) refl

    pub due-nowhere : length w / 6 ≤ i → is_due w r i ≡ false
    unfolding is_due
    due-nowhere h = rw (le-ltb i (length w / 6) h) refl

  module _ (n i : ℕ) (h : i < n) where
    due-here : due_from w r i (n - i) ≡ pick (is_due w r i) i (due_from w r (i + 1) (n - (i + 1)))
    unfolding due_from
    due-here = let e : n - i ≡ suc (n - (i + 1)) = omega arith in rw (e, add-one) refl

    pub due-found : is_due w r i ≡ true → due_from w r i (n - i) ≡ i
    due-found e = due-here ∙ rw e refl

    pub due-later : is_due w r i ≡ false → due_from w r i (n - i) ≡ due_from w r (i + 1) (n - (i + 1))
    due-later e = due-here ∙ rw e refl

  pub due-ended : (n i : ℕ) → i ≡ n → due_from w r i (n - i) ≡ n
  unfolding due_from
  due-ended n i h = let e : n - i ≡ 0 = omega arith in rw e h

  due-from-le : (i k : ℕ) → due_from w r i k ≤ i + k
  unfolding due_from
  due-from-le i zero = omega arith
  due-from-le i (suc k) = go (is_due w r i) (due-from-le (suc i) k)
    where
      go : (x : Bool) → due_from w r (suc i) k ≤ suc i + k → pick x i (due_from w r (suc i) k) ≤ i + suc k
      go true more = omega arith
      go false more = omega arith

  due-from-is : (i k : ℕ) → due_from w r i k < i + k → is_due w r (due_from w r i k) ≡ true
  unfolding due_from
  due-from-is i zero h = absurd (omega arith)
  due-from-is i (suc k) h = go (is_due w r i) refl h (due-from-is (suc i) k)
    where
      go : (x : Bool) → is_due w r i ≡ x → pick x i (due_from w r (suc i) k) < i + suc k
          → (due_from w r (suc i) k < suc i + k → is_due w r (due_from w r (suc i) k) ≡ true) → is_due w r (pick x i (due_from w r (suc i) k)) ≡ true
      go true e l more = e
      go false e l more = more (omega arith)

  due-from-not : (i k j : ℕ) → i ≤ j → j < due_from w r i k → is_due w r j ≡ false
  unfolding due_from
  due-from-not i zero j le lt = absurd (omega arith)
  due-from-not i (suc k) j le lt = go (is_due w r i) refl lt (eqb j i) refl (due-from-not (suc i) k j)
    where
      go : (x : Bool) → is_due w r i ≡ x → j < pick x i (due_from w r (suc i) k) → (y : Bool) → eqb j i ≡ y
          → (suc i ≤ j → j < due_from w r (suc i) k → is_due w r j ≡ false) → is_due w r j ≡ false
      go true e l y e' more = absurd (omega arith)
      go false e l true e' more = rw (eqb-true j i e') e
      go false e l false e' more = let ne = eqb-false j i e' in more (omega (arith, ne)) l

  -- of n slots: the first that is due, or n where none is
  module _ (n : ℕ) where
    pub due-le : due_from w r 0 n ≤ n
    due-le = omega (arith, due-from-le 0 n)

    pub due-is : (i : ℕ) → due_from w r 0 n ≡ i → i < n → is_due w r i ≡ true
    due-is i e h = rw e at (due-from-is 0 n (omega arith))

    pub due-first : (i j : ℕ) → due_from w r 0 n ≡ i → j < i → is_due w r j ≡ false
    due-first i j e h = due-from-not 0 n j (omega arith) (omega arith)

    pub due-none : due_from w r 0 n ≡ n → (j : ℕ) → j < n → is_due w r j ≡ false
    due-none e j h = due-first n j e h
