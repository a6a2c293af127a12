-- The parts of what is sought, as the code tests them.
use mathlib.Core.Path.{◌≡◌, refl, sym, ap, ◌∙◌}
use mathlib.Core.Logic.{◌≢◌}
use mathlib.Core.Bool.{Bool, true, false, not}
use Prim.Native.Nat.{ℕ, ◌+◌, ◌-◌, ◌*◌, ◌≤◌, ◌<◌, min}
use native.Mathlib.Omega.{arith}
use lib.Dec.{ltb, leb}
use borrow.Author.Tests.{ltb-true, ltb-false, leb-true, leb-false, lt-ltb, le-ltb, le-leb, lt-leb}
use Rattle.numbers.specs.Number.{pick}
use Rattle.block.specs.declared.Id.{Id}
use Rattle.block.specs.declared.Block.{Block}
use Rattle.ranges.specs.Ranges.{Range}
use mathlib.Core.List.{List}
use lib.ListN.{get_or, get_or-eq_default}
use Rattle.slots.specs.Slots.{Slot, slot, slot_at, slots_from, rank, is_named}
use Rattle.slots.proofs.Words.{slots_length, slot-at, first-at}
use Rattle.slots.proofs.Ranks.{named-slot}
use Rattle.placing.specs.declared.Span.{Span}
use Rattle.placing.specs.Halving.{span, clipped}
use Rattle.placing.specs.Placing.{is_before, past_row, span_at, span_of, first_of}

-- a span from a clock on, which ends at or below another
less_by : (clock len k : ℕ) → clock ≤ k → leb len (k - clock) ≡ leb (clock + len) k
less_by clock len k h = go (leb len (k - clock)) refl
  where
    go : (x : Bool) → leb len (k - clock) ≡ x → leb len (k - clock) ≡ leb (clock + len) k
    go true e = e ∙ sym (le-leb (clock + len) k (omega (arith, leb-true len (k - clock) e)))
    go false e = e ∙ sym (lt-leb (clock + len) k (omega (arith, leb-false len (k - clock) e)))

pub past-none : (b : Block) (k : ℕ) → k < b.clock → past_row b k ≡ false
unfolding past_row
past-none b k h = lt-leb (b.clock + b.length.0) k (omega arith)

pub past-less : (b : Block) (k : ℕ) → b.clock ≤ k → leb b.length.0 (k - b.clock) ≡ past_row b k
unfolding past_row
past-less b k h = less_by b.clock b.length.0 k h

module _ (r : Range) (d : Id) where
  pub before-other : d.client ≢ r.client → ltb d.client r.client ≡ is_before r d
  unfolding is_before
  before-other n = go (ltb d.client r.client) refl
    where
      go : (x : Bool) → ltb d.client r.client ≡ x → x ≡ pick x true (pick (ltb r.client d.client) false (leb (r.clock + r.len) d.clock))
      go true e = refl
      go false e =
          let h = ltb-false d.client r.client e in
          rw (lt-ltb r.client d.client (omega (arith, n))) refl

  module _ (own : d.client ≡ r.client) where
    same : is_before r d ≡ leb (r.clock + r.len) d.clock
    unfolding is_before
    same = rw (le-ltb d.client r.client (omega arith), le-ltb r.client d.client (omega arith)) refl

    pub before-not : d.clock < r.clock → is_before r d ≡ false
    before-not h = same ∙ lt-leb (r.clock + r.len) d.clock (omega arith)

    pub before-by : r.clock ≤ d.clock → leb r.len (d.clock - r.clock) ≡ is_before r d
    before-by h = less_by r.clock r.len d.clock h ∙ sym same

-- ---- a client's slot

module _ (w : List ℕ) (n c p : ℕ) (is : p ≡ rank c (slots_from w 0 n)) where
  pub span_none : is_named c (slots_from w 0 n) ≡ false → span_of (slots_from w 0 n) c ≡ span 0 0
  unfolding span_of
  span_none e = rw e refl

  pub named-below : is_named c (slots_from w 0 n) ≡ true → p < n
  named-below e = omega (arith, (named-slot c (slots_from w 0 n) e).0, slots_length w 0 n)

  pub span-some : is_named c (slots_from w 0 n) ≡ true → span_of (slots_from w 0 n) c ≡ span_at (slot_at w p)
  unfolding span_of
  span-some e = rw (e, ← is) (rw (slot-at w n p (named-below e)) refl)

  pub first_out : n ≤ p → first_of (slots_from w 0 n) c ≡ 0
  unfolding first_of
  first_out h =
      ap (λ (i : ℕ). (get_or (slots_from w 0 n) i (slot 0 0 0)).first) (sym is)
      ∙ ap (λ (s : Slot). s.first) (get_or-eq_default (slots_from w 0 n) (slot 0 0 0) {n = p} (omega (arith, slots_length w 0 n)))

  pub first-in : p < n → first_of (slots_from w 0 n) c ≡ get_or w (3 * p + 1) 0
  unfolding first_of
  first-in h = ap (λ (i : ℕ). (get_or (slots_from w 0 n) i (slot 0 0 0)).first) (sym is) ∙ first-at w n p h

-- ---- the smaller of two

pub min-pick : (a b : ℕ) → min a b ≡ pick (ltb b a) b a
min-pick a b = go (ltb b a) refl
  where
    go : (x : Bool) → ltb b a ≡ x → min a b ≡ pick x b a
    go true e = omega (arith, ltb-true b a e)
    go false e = omega (arith, ltb-false b a e)

pub min-clipped : (s : Span) (n : ℕ) → span s.lo (min s.hi n) ≡ clipped s n
unfolding clipped
min-clipped s n = rw (min-pick s.hi n) (go (ltb n s.hi))
  where
    go : (x : Bool) → span s.lo (pick x n s.hi) ≡ pick x (span s.lo n) s
    go true = refl
    go false = refl

-- ---- a dependency

pub not-pick : (x : Bool) → not x ≡ pick x false true
not-pick true = refl
not-pick false = refl
