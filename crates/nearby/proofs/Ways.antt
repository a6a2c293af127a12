-- The facts that the walks come to: the loops over rows and slots, and each way out.
use Prim.Native.Nat.{ℕ, suc, ◌+◌, ◌-◌, ◌≤◌, ◌<◌}
use mathlib.Core.Path.{◌≡◌, refl, sym, ap, ◌∙◌}
use mathlib.Core.Bool.{Bool, true, false}
use mathlib.Core.List.{List}
use native.Mathlib.Omega.{arith}
use native.Mathlib.Numerals.{add-one}
use lib.Dec.{ltb, eqb}
use lib.ListN.{length, get_or}
use borrow.Author.Tests.{ltb-true, lt-ltb, le-ltb}
use Rattle.numbers.specs.Number.{pick}
use Rattle.block.specs.declared.Block.{Block}
use Rattle.block.specs.Row.{no_block}
use Rattle.slots.specs.Slots.{Slot, slot_at, slots_from}
use Rattle.slots.proofs.Words.{slots-here, slots-ended}
use Rattle.picker.specs.Stages.{stage_at}
use Rattle.placing.specs.declared.Span.{Span}
use Rattle.placing.specs.Placing.{is_held, span_at, span_of, capped, held_by}
use Rattle.chaining.specs.declared.Chain.{Chain}
use Rattle.chaining.specs.declared.Stand.{Stand}
use Rattle.chaining.specs.Chaining.{no_chain, unlinked, linked, put_chain, chain_from, chain_of, chains_from, Chains, stand_of, is_seen, seen, near_of, id_of, unmet_word, settled, light_block, waits_for, looked_by}
use Rattle.chaining.proofs.Near.{taken-met, next-holds}

-- ---- the rows of a span

module _ (rows : List Block) (s : Span) where
  pub record Linking (w : Chain) (i : ℕ) : Type 0 where
    pub same : chain_from rows i (s.hi - i) w ≡ chain_of rows s
    pub there : s.hi ≤ length rows

  pub chain-none : s.hi ≤ s.lo → no_chain ≡ chain_of rows s
  unfolding chain_of
  chain-none l = rw (le-ltb s.lo s.hi l) refl

  module _ (some : s.lo < s.hi) where
    pub chain-short : length rows < s.hi → no_chain ≡ chain_of rows s
    unfolding chain_of
    chain-short l = rw (lt-ltb s.lo s.hi some, lt-ltb (length rows) s.hi l) refl

    pub link-first : s.hi ≤ length rows → Linking (unlinked (get_or rows s.lo no_block)) s.lo
    unfolding chain_of
    link-first l = record { same = rw (lt-ltb s.lo s.hi some, le-ltb (length rows) s.hi l) refl; there = l }

  module _ (w : Chain) (i : ℕ) (g : Linking w i) where
    pub link-turn : i < s.hi → Linking (linked w (get_or rows i no_block)) (i + 1)
    unfolding chain_from
    link-turn l =
        let e : s.hi - i ≡ suc (s.hi - (i + 1)) = omega arith in
        record { same = sym (rw e refl) ∙ g.same; there = g.there }

    pub link-end : s.hi ≤ i → w ≡ chain_of rows s
    unfolding chain_from
    link-end l =
        let e : s.hi - i ≡ 0 = omega arith in
        sym (rw e refl) ∙ g.same

-- ---- all slots

module _ (rows : List Block) (slots : List ℕ) (n : ℕ) (w₀ : List ℕ) where
  pub record Filling (w : List ℕ) (p : ℕ) : Type 0 where
    pub same : chains_from p (slots_from slots p (n - p)) rows w ≡ chains_from 0 (slots_from slots 0 n) rows w₀

  module _ (w : List ℕ) (p : ℕ) (g : Filling w p) where
    pub fill-turn : p < n → Filling (put_chain w p (chain_of rows (span_at (slot_at slots p)))) (p + 1)
    unfolding chains_from
    fill-turn l = record { same = sym (rw (slots-here slots n p l, add-one) refl) ∙ g.same }

    pub fill_end : n ≤ p → w ≡ chains_from 0 (slots_from slots 0 n) rows w₀
    unfolding chains_from
    fill_end l = sym (rw (slots-ended slots n p l) refl) ∙ g.same

-- ---- what is seen

module _ (rows : List Block) (t : Stand) (k : ℕ) where
  rows_seen : is_seen t (length rows) ≡ true → (t.first < length rows) × (t.next < length rows)
  unfolding is_seen
  rows_seen e = go (eqb t.clear 0) (ltb t.first (length rows)) refl e
    where
      go : (x y : Bool) → ltb t.first (length rows) ≡ y → pick x false (pick y (ltb t.next (length rows)) false) ≡ true
          → (t.first < length rows) × (t.next < length rows)
      go true y f g = absurd (let z : ◌≡◌ {A = ℕ} 0 1 = cc in omega arith)
      go false false f g = absurd (let z : ◌≡◌ {A = ℕ} 0 1 = cc in omega arith)
      go false true f g = (ltb-true t.first (length rows) f, ltb-true t.next (length rows) g)

  pub first-seen : is_seen t (length rows) ≡ true → t.first < length rows
  first-seen e = (rows_seen e).0

  pub next-seen : is_seen t (length rows) ≡ true → t.next < length rows
  next-seen e = (rows_seen e).1

  pub near-seen : is_seen t (length rows) ≡ true → seen t (get_or rows t.first no_block) (get_or rows t.next no_block) k ≡ near_of rows t k
  unfolding near_of
  near-seen e = rw e refl

  pub near_none : is_seen t (length rows) ≡ false → 0 ≡ near_of rows t k
  unfolding near_of
  near_none e = rw e refl

-- ---- what an id waits for

module _ (w : List ℕ) (h : ℕ) (ss : List Slot) (rows : List Block) (chains reach : List ℕ) (there : Bool) (c k : ℕ) where
  pub settled-off : there ≡ false → 0 ≡ settled w h ss rows reach there c k
  unfolding settled
  settled-off e = rw e refl

  module _ (on : there ≡ true) where
    pub settled-held : is_held w h (id_of c k) ≡ true → 0 ≡ settled w h ss rows reach there c k
    unfolding settled
    settled-held e = rw (on, e) refl

    pub settled-taken : Chains ss rows chains → near_of rows (stand_of ss chains reach c) k ≡ 1 → 0 ≡ settled w h ss rows reach there c k
    unfolding settled unmet_word
    settled-taken are e = rw (on, taken-met ss rows chains reach are c k e) (go (is_held w h (id_of c k)))
      where
        go : (x : Bool) → ◌≡◌ {A = ℕ} 0 (pick x 0 0)
        go true = refl
        go false = refl

    module _ (not-held : is_held w h (id_of c k) ≡ false) where
      pub settled-sought : unmet_word ss reach c (held_by rows (span_of ss c) k) ≡ settled w h ss rows reach there c k
      unfolding settled
      settled-sought = rw (on, not-held) refl

      pub settled-next : Chains ss rows chains → near_of rows (stand_of ss chains reach c) k ≡ 2
          → unmet_word ss reach c (capped (stand_of ss chains reach c).taken) ≡ settled w h ss rows reach there c k
      settled-next are e = ap (unmet_word ss reach c) (next-holds ss rows chains reach are c k e) ∙ settled-sought

-- ---- a row

pub looked-so : (w : List ℕ) (h : ℕ) (ss : List Slot) (rows : List Block) (reach : List ℕ) (i : ℕ) (b : Block)
    → light_block ss i b (waits_for w h ss rows reach (stage_at 28 b 0)) (waits_for w h ss rows reach (stage_at 28 b 1)) (waits_for w h ss rows reach (stage_at 28 b 2))
    ≡ looked_by w h ss rows reach i b
unfolding looked_by
looked-so w h ss rows reach i b = refl
