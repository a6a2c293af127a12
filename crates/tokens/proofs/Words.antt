-- Lanes in words: what a lane is after stores to its own five words, and that the other lanes are then what they were.
use Prim.Native.Nat.{ℕ, ◌+◌, ◌*◌, ◌≤◌, ◌<◌}
use mathlib.Core.Path.{◌≡◌, refl, sym, ap, ◌∙◌, subst}
use mathlib.Core.Logic.{◌≢◌}
use mathlib.Core.Bool.{Bool, true, false}
use mathlib.Core.List.{List}
use native.Mathlib.Omega.{arith}
use lib.Dec.{ltb, eqb}
use lib.ListN.{length, get_or, set, length-set}
use lib.Seq.{get_or-set_same, get_or-set_other}
use borrow.Author.Tests.{eqb-true, eqb-false}
use Rattle.runs.specs.Runs.{coding}
use Rattle.runs.specs.RunsInner.{key_most}
use Rattle.runs.specs.Writer.{Sound}
use Rattle.tokens.specs.Tokens.{column_in}
use Rattle.tokens.specs.Lanes.{Lane, moved_to}
use Rattle.decoder.specs.States.{max_keys}
use Rattle.tokens.specs.Desk.{lane_in, key_count, Tidy, SameKeys, Alone}

-- stores to the words of lane k alone
pub record Own (k : ℕ) (w w₁ : List ℕ) : Type 0 where
  pub size : length w₁ ≡ length w
  pub others : (p : ℕ) → ((i : ℕ) → i < 5 → p ≢ 5 * k + i) → get_or w₁ p 0 ≡ get_or w p 0

pub own-none : (k : ℕ) (w : List ℕ) → Own k w w
own-none k w = record { size = refl; others = λ p n. refl }

pub own-store : (k : ℕ) (w w₁ : List ℕ) (i p x : ℕ) → i < 5 → p ≡ 5 * k + i → Own k w w₁ → Own k w (set w₁ p x)
own-store k w w₁ i p x l e o = record {
  size = length-set w₁ p x ∙ o.size;
  others = λ q n. get_or-set_other w₁ p q x 0 (λ h. n i l (h ∙ e)) ∙ o.others q n;
}

-- ---- the other lanes

apart : (j k c i : ℕ) → j ≢ k → c < 5 → i < 5 → 5 * j + c ≢ 5 * k + i
apart j k c i n a b h = n (omega arith)

apart-first : (j k i : ℕ) → j ≢ k → i < 5 → 5 * j ≢ 5 * k + i
apart-first j k i n b h = n (omega arith)

pub lane-other : (k : ℕ) (w w₁ : List ℕ) → Own k w w₁ → (j : ℕ) → j ≢ k → lane_in w₁ j ≡ lane_in w j
unfolding lane_in
lane-other k w w₁ o j n =
    rw (
      o.others (5 * j) (λ i l. apart-first j k i n l),
      o.others (5 * j + 1) (λ i l. apart j k 1 i n (omega arith) l),
      o.others (5 * j + 2) (λ i l. apart j k 2 i n (omega arith) l),
      o.others (5 * j + 3) (λ i l. apart j k 3 i n (omega arith) l),
      o.others (5 * j + 4) (λ i l. apart j k 4 i n (omega arith) l),
    )

-- ---- lane k alone

-- the words of keys stand behind those of lanes
keys-other : (k : ℕ) → k < 10 → (w w₁ : List ℕ) → Own k w w₁ → SameKeys w w₁
keys-other k l w w₁ o p h = o.others p (λ i m e. absurd (omega arith))

module _ (k : ℕ) (w : List ℕ) (t : Tidy w) (l : k < 10) where
  few-keys : (w₁ : List ℕ) → SameKeys w w₁ → key_count w₁ ≤ max_keys
  unfolding key_count
  few-keys w₁ h = rw (h 50 (omega arith)) t.keys

  pub alone-own : (e : Lane) (w₁ : List ℕ) → Own k w w₁ → lane_in w₁ k ≡ e → Sound e.run → Alone k e w w₁
  alone-own e w₁ o own s = record {
    own = own;
    others = λ j m n. lane-other k w w₁ o j n;
    tidy = record { size = rw o.size t.size; sound = sound; keys = few-keys w₁ (keys-other k l w w₁ o) };
    keys = keys-other k l w w₁ o;
  }
    where
      sound : (j : ℕ) → j < 10 → Sound (lane_in w₁ j).run
      sound j m = go (eqb j k) refl
        where
          go : (b : Bool) → eqb j k ≡ b → Sound (lane_in w₁ j).run
          go true h = subst (λ (x : Lane). Sound x.run) (sym (ap (lane_in w₁) (eqb-true j k h) ∙ own)) s
          go false h = subst (λ (x : Lane). Sound x.run) (sym (lane-other k w w₁ o j (eqb-false j k h))) (t.sound j m)

  pub alone-none : Alone k (lane_in w k) w w
  alone-none = alone-own (lane_in w k) w (own-none k w) refl (t.sound k l)

pub alone-then : (k : ℕ) (e e₁ : Lane) (w w₁ w₂ : List ℕ) → Alone k e w w₁ → Alone k e₁ w₁ w₂ → Alone k e₁ w w₂
alone-then k e e₁ w w₁ w₂ a b = record { own = b.own; others = λ j l n. b.others j l n ∙ a.others j l n; tidy = b.tidy; keys = λ p h. b.keys p h ∙ a.keys p h }

pub alone-is : (k : ℕ) (e e₁ : Lane) (w w₁ : List ℕ) → Alone k e w w₁ → e ≡ e₁ → Alone k e₁ w w₁
alone-is k e e₁ w w₁ a h = subst (λ (x : Lane). Alone k x w w₁) h a

-- what a lane's last value and key have at all times
module _ (w : List ℕ) (k : ℕ) (t : Tidy w) (l : k < 10) where
  pub last-low : get_or w (5 * k + 1) 0 ≤ (coding (column_in k)).most
  unfolding lane_in
  last-low = (t.sound k l).0

  pub key-low : get_or w (5 * k + 2) 0 ≤ key_most (column_in k)
  unfolding lane_in
  key-low = (t.sound k l).1

-- ---- stores

module _ (k : ℕ) (w : List ℕ) (t : Tidy w) (l : k < 10) where
  -- place, last value, key and count
  abbrev pub noted : ℕ → ℕ → ℕ → ℕ → List ℕ
  noted at last key count = set (set (set (set w (5 * k) at) (5 * k + 1) last) (5 * k + 2) key) (5 * k + 3) count

  module _ (at last key count : ℕ) where
    abbrev w₁ : List ℕ
    w₁ = set w (5 * k) at

    abbrev w₂ : List ℕ
    w₂ = set w₁ (5 * k + 1) last

    abbrev w₃ : List ℕ
    w₃ = set w₂ (5 * k + 2) key

    abbrev w₄ : List ℕ
    w₄ = noted at last key count

    -- what a store at a later word leaves
    below : (v : List ℕ) (p q x : ℕ) → p < q → get_or (set v q x) p 0 ≡ get_or v p 0
    below v p q x h = get_or-set_other v q p x 0 (λ e. absurd (omega arith))

    above : (v : List ℕ) (p q x : ℕ) → q < p → get_or (set v q x) p 0 ≡ get_or v p 0
    above v p q x h = get_or-set_other v q p x 0 (λ e. absurd (omega arith))

    word-0 : get_or w₄ (5 * k) 0 ≡ at
    word-0 =
        below w₃ (5 * k) (5 * k + 3) count (omega arith) ∙ below w₂ (5 * k) (5 * k + 2) key (omega arith) ∙ below w₁ (5 * k) (5 * k + 1) last (omega arith)
        ∙ get_or-set_same w (5 * k) at 0 (omega (arith, t.size))

    word-1 : get_or w₄ (5 * k + 1) 0 ≡ last
    word-1 =
        below w₃ (5 * k + 1) (5 * k + 3) count (omega arith) ∙ below w₂ (5 * k + 1) (5 * k + 2) key (omega arith)
        ∙ get_or-set_same w₁ (5 * k + 1) last 0 (omega (arith, t.size, length-set w (5 * k) at))

    word-2 : get_or w₄ (5 * k + 2) 0 ≡ key
    word-2 =
        below w₃ (5 * k + 2) (5 * k + 3) count (omega arith)
        ∙ get_or-set_same w₂ (5 * k + 2) key 0 (omega (arith, t.size, length-set w (5 * k) at, length-set w₁ (5 * k + 1) last))

    word-3 : get_or w₄ (5 * k + 3) 0 ≡ count
    word-3 =
        get_or-set_same w₃ (5 * k + 3) count 0
        (omega (arith, t.size, length-set w (5 * k) at, length-set w₁ (5 * k + 1) last, length-set w₂ (5 * k + 2) key))

    word-4 : get_or w₄ (5 * k + 4) 0 ≡ get_or w (5 * k + 4) 0
    word-4 =
        above w₃ (5 * k + 4) (5 * k + 3) count (omega arith) ∙ above w₂ (5 * k + 4) (5 * k + 2) key (omega arith)
        ∙ above w₁ (5 * k + 4) (5 * k + 1) last (omega arith) ∙ above w (5 * k + 4) (5 * k) at (omega arith)

    pub notes : last ≤ (coding (column_in k)).most → key ≤ key_most (column_in k) → Alone k (record {
      lane = k;
      run = record { column = column_in k; at = at; last = last; key = key; count = count };
      far = (lane_in w k).far;
    }) w w₄
    unfolding lane_in
    notes a b =
        alone-own k w t l (record {
          lane = k;
          run = record { column = column_in k; at = at; last = last; key = key; count = count };
          far = ltb 0 (get_or w (5 * k + 4) 0);
        }) w₄ own (rw (word-0, word-1, word-2, word-3, word-4)) (a, b)
      where
        own : Own k w w₄
        own =
            own-store k w w₃ 3 (5 * k + 3) count (omega arith) refl
            (own-store k w w₂ 2 (5 * k + 2) key (omega arith) refl
            (own-store k w w₁ 1 (5 * k + 1) last (omega arith) refl (own-store k w w 0 (5 * k) at (omega arith) (omega arith) (own-none k w))))

  -- the place alone
  pub moves : (at : ℕ) → Alone k (moved_to (lane_in w k) at) w (set w (5 * k) at)
  unfolding lane_in
  moves at =
      alone-own k w t l (moved_to (lane_in w k) at) (set w (5 * k) at) (own-store k w w 0 (5 * k) at (omega arith) (omega arith) (own-none k w)) (
      rw (
        get_or-set_same w (5 * k) at 0 (omega (arith, t.size)),
        other 1 (omega arith),
        other 2 (omega arith),
        other 3 (omega arith),
        other 4 (omega arith),
      )) (t.sound k l)
    where
      other : (i : ℕ) → 0 < i → get_or (set w (5 * k) at) (5 * k + i) 0 ≡ get_or w (5 * k + i) 0
      other i h = get_or-set_other w (5 * k) (5 * k + i) at 0 (λ e. absurd (omega arith))

  -- that a difference could not be spelled
  pub notes-far : Alone k (record { lane = k; run = (lane_in w k).run; far = true }) w (set w (5 * k + 4) 1)
  unfolding lane_in
  notes-far =
      alone-own k w t l (record { lane = k; run = (lane_in w k).run; far = true }) (set w (5 * k + 4) 1)
      (own-store k w w 4 (5 * k + 4) 1 (omega arith) refl (own-none k w)) (
      rw (
        get_or-set_same w (5 * k + 4) 1 0 (omega (arith, t.size)),
        other (5 * k) (omega arith),
        other (5 * k + 1) (omega arith),
        other (5 * k + 2) (omega arith),
        other (5 * k + 3) (omega arith),
      )) (t.sound k l)
    where
      other : (p : ℕ) → p < 5 * k + 4 → get_or (set w (5 * k + 4) 1) p 0 ≡ get_or w p 0
      other p h = get_or-set_other w (5 * k + 4) p 1 0 (λ e. absurd (omega arith))
