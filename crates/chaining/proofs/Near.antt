-- What is seen of a clock from where its client's queue stands is so: halving over the client's rows would find the same.
use Prim.Native.Nat.{ℕ, zero, suc, ◌+◌, ◌-◌, ◌*◌, ◌/◌, ◌≤◌, ◌<◌}
use mathlib.Core.Path.{◌≡◌, refl, sym, ap, subst, ◌∙◌}
use mathlib.Core.Logic.{◌≢◌, ◌⊎◌, inl, inr}
use mathlib.Core.Bool.{Bool, true, false}
use mathlib.Core.List.{List, [], ◌∷◌}
use native.Mathlib.Omega.{arith}
use lib.Dec.{ltb, leb, eqb}
use lib.ListN.{length, get_or, set, length-set}
use lib.Seq.{get_or-set_same, get_or-set_other}
use borrow.Author.Tests.{lt-ltb, le-ltb, ltb-true, ltb-false, leb-true, leb-false, eqb-true, eqb-false}
use Rattle.numbers.specs.Number.{pick}
use Rattle.numbers.specs.Limits.{max_clock}
use Rattle.block.specs.declared.Block.{Block}
use Rattle.block.specs.Row.{no_block}
use Rattle.slots.specs.Slots.{Slot, slot, rank, is_named}
use Rattle.slots.proofs.Ranks.{named-slot}
use Rattle.picker.specs.Picker.{met_at, is_met}
use Rattle.placing.specs.declared.Span.{Span}
use Rattle.placing.specs.Halving.{span}
use Rattle.placing.specs.Placing.{span_at, span_of, capped, held_by}
use Rattle.chaining.specs.declared.Chain.{Chain}
use Rattle.chaining.specs.declared.Stand.{Stand}
use Rattle.chaining.specs.Chaining.{chain_of, put_chain, chains_from, Chains, no_stand, stand_in, stand_at, stand_of, is_seen, is_clear, seen_next, seen, near_of, id_of}
use Rattle.chaining.proofs.Ways.{stand-all, stand-some, put_in, put-out}
use Rattle.chaining.proofs.Chained.{whole, holder-is, under-is}

-- ---- what was tested

near_by : (rows : List Block) (t : Stand) (k : ℕ) (x : Bool) → is_seen t (length rows) ≡ x
    → near_of rows t k ≡ pick x (seen t (get_or rows t.first no_block) (get_or rows t.next no_block) k) 0
unfolding near_of
near_by rows t k x e = rw e refl

seen-chain : (t : Stand) (n : ℕ) → is_seen t n ≡ true → t.clear ≢ 0
unfolding is_seen
seen-chain t n e = go (eqb t.clear 0) refl e
  where
    go : (x : Bool) → eqb t.clear 0 ≡ x → pick x false (pick (ltb t.first n) (ltb t.next n) false) ≡ true → t.clear ≢ 0
    go true f g = absurd (let z : ◌≡◌ {A = ℕ} 0 1 = cc in omega arith)
    go false f g = eqb-false t.clear 0 f

module _ (rows : List Block) (t : Stand) (k r : ℕ) (e : near_of rows t k ≡ suc r) where
  looked : (x : Bool) → is_seen t (length rows) ≡ x → (t.clear ≢ 0) × (seen t (get_or rows t.first no_block) (get_or rows t.next no_block) k ≡ suc r)
  looked true f = (seen-chain t (length rows) f, sym (near_by rows t k true f) ∙ e)
  looked false f = absurd (let z : 0 ≡ suc r = sym (near_by rows t k false f) ∙ e in omega arith)

  seen-so : (t.clear ≢ 0) × (seen t (get_or rows t.first no_block) (get_or rows t.next no_block) k ≡ suc r)
  seen-so = looked (is_seen t (length rows)) refl

module _ (t : Stand) (a b : Block) (k : ℕ) where
  -- a clock in the next row, which is no Skip
  abbrev In : Type 0
  In = (b.kind ≢ 2) × (b.clock ≤ k) × (k < b.clock + b.length.0)

  abbrev Taken : Type 0
  Taken = (a.clock ≤ k) × (((k < b.clock) × (is_clear t k ≡ true)) ⊎ (In × (t.all ≡ 1)))

  abbrev Next : Type 0
  Next = In × (t.all ≢ 1)

  next-by : (x y z : Bool) → eqb b.kind 2 ≡ x → leb b.length.0 (k - b.clock) ≡ y → eqb t.all 1 ≡ z
      → seen_next t b k ≡ pick x 0 (pick y 0 (pick z 1 2))
  unfolding seen_next
  next-by x y z e f g = rw (e, f, g) refl

  next-taken : b.clock ≤ k → seen_next t b k ≡ 1 → In × (t.all ≡ 1)
  next-taken l h = go (eqb b.kind 2) refl (leb b.length.0 (k - b.clock)) refl (eqb t.all 1) refl
    where
      go : (x : Bool) → eqb b.kind 2 ≡ x → (y : Bool) → leb b.length.0 (k - b.clock) ≡ y → (z : Bool) → eqb t.all 1 ≡ z → In × (t.all ≡ 1)
      go true e y f z g = absurd (let q = next-by true y z e f g in omega (arith, q))
      go false e true f z g = absurd (let q = next-by false true z e f g in omega (arith, q))
      go false e false f true g = ((eqb-false b.kind 2 e, l, omega (arith, leb-false b.length.0 (k - b.clock) f)), eqb-true t.all 1 g)
      go false e false f false g = absurd (let q = next-by false false false e f g in omega (arith, q))

  next-next : b.clock ≤ k → seen_next t b k ≡ 2 → Next
  next-next l h = go (eqb b.kind 2) refl (leb b.length.0 (k - b.clock)) refl (eqb t.all 1) refl
    where
      go : (x : Bool) → eqb b.kind 2 ≡ x → (y : Bool) → leb b.length.0 (k - b.clock) ≡ y → (z : Bool) → eqb t.all 1 ≡ z → Next
      go true e y f z g = absurd (let q = next-by true y z e f g in omega (arith, q))
      go false e true f z g = absurd (let q = next-by false true z e f g in omega (arith, q))
      go false e false f true g = absurd (let q = next-by false false true e f g in omega (arith, q))
      go false e false f false g = ((eqb-false b.kind 2 e, l, omega (arith, leb-false b.length.0 (k - b.clock) f)), eqb-false t.all 1 g)

  seen_by : (x y z : Bool) → ltb k a.clock ≡ x → ltb k b.clock ≡ y → is_clear t k ≡ z → seen t a b k ≡ pick x 0 (pick y (pick z 1 0) (seen_next t b k))
  unfolding seen
  seen_by x y z e f g = rw (e, f, g) refl

  seen-taken : seen t a b k ≡ 1 → Taken
  seen-taken h = go (ltb k a.clock) refl (ltb k b.clock) refl (is_clear t k) refl
    where
      go : (x : Bool) → ltb k a.clock ≡ x → (y : Bool) → ltb k b.clock ≡ y → (z : Bool) → is_clear t k ≡ z → Taken
      go true e y f z g = absurd (let q = seen_by true y z e f g in omega (arith, q))
      go false e true f true g = (ltb-false k a.clock e, inl (ltb-true k b.clock f, g))
      go false e true f false g = absurd (let q = seen_by false true false e f g in omega (arith, q))
      go false e false f z g =
          (ltb-false k a.clock e, inr (next-taken (ltb-false k b.clock f) (sym (seen_by false false z e f g) ∙ h)))

  seen_next_lem : seen t a b k ≡ 2 → Next
  seen_next_lem h = go (ltb k a.clock) refl (ltb k b.clock) refl (is_clear t k) refl
    where
      go : (x : Bool) → ltb k a.clock ≡ x → (y : Bool) → ltb k b.clock ≡ y → (z : Bool) → is_clear t k ≡ z → Next
      go true e y f z g = absurd (let q = seen_by true y z e f g in omega (arith, q))
      go false e true f true g = absurd (let q = seen_by false true true e f g in omega (arith, q))
      go false e true f false g = absurd (let q = seen_by false true false e f g in omega (arith, q))
      go false e false f z g = next-next (ltb-false k b.clock f) (sym (seen_by false false z e f g) ∙ h)

is-clear : (t : Stand) (k : ℕ) → is_clear t k ≡ true → (k + 1 < t.clear) ⊎ (t.resume ≤ k)
unfolding is_clear
is-clear t k e = go (ltb (k + 1) t.clear) refl e
  where
    go : (x : Bool) → ltb (k + 1) t.clear ≡ x → pick x true (leb t.resume k) ≡ true → (k + 1 < t.clear) ⊎ (t.resume ≤ k)
    go true f g = inl (ltb-true (k + 1) t.clear f)
    go false f g = inr (leb-true t.resume k g)

-- ---- so it is in a span

cap-low : (x : ℕ) → x ≤ max_clock → capped x ≡ x
unfolding capped
cap-low x h = rw (le-ltb max_clock x h) refl

module _ (rows : List Block) (s : Span) (few : s.hi - s.lo ≤ max_clock) (taken k : ℕ) where
  abbrev clear : ℕ
  clear = (chain_of rows s).clear

  abbrev resume : ℕ
  resume = (chain_of rows s).resume

  abbrev t : Stand
  t = stand_in s taken clear resume

  abbrev at : ℕ → Block
  at i = get_or rows i no_block

  abbrev all_taken : Stand
  all_taken = record { first = s.lo; next = s.hi - 1; taken = taken; all = 1; clear = clear; resume = resume }

  abbrev some_taken : Stand
  some_taken = record { first = s.lo; next = s.lo + taken; taken = taken; all = 0; clear = clear; resume = resume }

  low : (x : ℕ) → s.lo + x < s.hi → held_by rows s k ≡ capped x → x < taken → held_by rows s k < taken
  low x l e h = omega (arith, e, cap-low x (omega arith))

  all-taken : near_of rows all_taken k ≡ 1 → s.hi - s.lo ≤ taken → held_by rows s k < taken
  all-taken e l = go (seen-so rows all_taken k 0 e)
    where
      go : (clear ≢ 0) × (seen all_taken (at s.lo) (at (s.hi - 1)) k ≡ 1) → held_by rows s k < taken
      go q = by (seen-taken all_taken (at s.lo) (at (s.hi - 1)) k q.1)
        where
          some : s.lo < s.hi
          some = (whole rows s q.0).some

          by : Taken all_taken (at s.lo) (at (s.hi - 1)) k → held_by rows s k < taken
          by (f, inl g) =
              let u = under-is rows s q.0 k f (is-clear all_taken k g.1) (s.hi - 1) (omega (arith, some)) (omega (arith, some)) g.0 in
              low u.0 (omega (arith, u.1)) u.2 (omega (arith, u.1))
          by (f, inr g) =
              low (s.hi - 1 - s.lo) (omega (arith, some))
              (holder-is rows s q.0 k (s.hi - 1) (omega (arith, some)) (omega (arith, some)) g.0.0 g.0.1 g.0.2) (omega (arith, some))

  some-taken : near_of rows some_taken k ≡ 1 → taken < s.hi - s.lo → held_by rows s k < taken
  some-taken e l = go (seen-so rows some_taken k 0 e)
    where
      go : (clear ≢ 0) × (seen some_taken (at s.lo) (at (s.lo + taken)) k ≡ 1) → held_by rows s k < taken
      go q = by (seen-taken some_taken (at s.lo) (at (s.lo + taken)) k q.1)
        where
          by : Taken some_taken (at s.lo) (at (s.lo + taken)) k → held_by rows s k < taken
          by (f, inl g) =
              let u = under-is rows s q.0 k f (is-clear some_taken k g.1) (s.lo + taken) (omega arith) (omega arith) g.0 in
              low u.0 (omega (arith, u.1)) u.2 (omega (arith, u.1))
          by (f, inr g) = absurd (omega (arith, g.1))

  pub near-taken : near_of rows t k ≡ 1 → held_by rows s k < taken
  near-taken e = go (leb (s.hi - s.lo) taken) refl
    where
      go : (x : Bool) → leb (s.hi - s.lo) taken ≡ x → held_by rows s k < taken
      go true f =
          let l = leb-true (s.hi - s.lo) taken f in
          all-taken (ap (λ (u : Stand). near_of rows u k) (sym (stand-all s taken clear resume l)) ∙ e) l
      go false f =
          let l = leb-false (s.hi - s.lo) taken f in
          some-taken (ap (λ (u : Stand). near_of rows u k) (sym (stand-some s taken clear resume l)) ∙ e) l

  all-next : near_of rows all_taken k ≡ 2 → capped taken ≡ held_by rows s k
  all-next e = absurd ((seen_next_lem all_taken (at s.lo) (at (s.hi - 1)) k (seen-so rows all_taken k 1 e).1).1 refl)

  some_next : near_of rows some_taken k ≡ 2 → taken < s.hi - s.lo → capped taken ≡ held_by rows s k
  some_next e l =
      let q = seen-so rows some_taken k 1 e in
      let g = seen_next_lem some_taken (at s.lo) (at (s.lo + taken)) k q.1 in
      let m : s.lo + taken - s.lo ≡ taken = omega arith in
      sym (holder-is rows s q.0 k (s.lo + taken) (omega arith) (omega arith) g.0.0 g.0.1 g.0.2 ∙ ap capped m)

  pub near_next : near_of rows t k ≡ 2 → capped taken ≡ held_by rows s k
  near_next e = go (leb (s.hi - s.lo) taken) refl
    where
      go : (x : Bool) → leb (s.hi - s.lo) taken ≡ x → capped taken ≡ held_by rows s k
      go true f =
          let l = leb-true (s.hi - s.lo) taken f in
          all-next (ap (λ (u : Stand). near_of rows u k) (sym (stand-all s taken clear resume l)) ∙ e)
      go false f =
          let l = leb-false (s.hi - s.lo) taken f in
          some_next (ap (λ (u : Stand). near_of rows u k) (sym (stand-some s taken clear resume l)) ∙ e) l

-- ---- and of a client

span-few : (s : Slot) → (span_at s).hi - (span_at s).lo ≤ max_clock
unfolding span_at
span-few s = go (ltb max_clock s.first) (ltb max_clock s.count) refl
  where
    go : (x y : Bool) → ltb max_clock s.count ≡ y
        → (pick x (span 0 0) (pick y (span 0 0) (span s.first (s.first + s.count)))).hi - (pick x (span 0 0) (pick y (span 0 0) (span s.first (s.first + s.count)))).lo ≤ max_clock
    go true y e = omega arith
    go false true e = omega arith
    go false false e = omega (arith, ltb-false max_clock s.count e)

none-near : (rows : List Block) (k : ℕ) → near_of rows no_stand k ≡ 0
unfolding near_of is_seen
none-near rows k = refl

module _ (ss : List Slot) (rows : List Block) (chains reach : List ℕ) (are : Chains ss rows chains) (c k : ℕ) where
  abbrev p : ℕ
  p = rank c ss

  abbrev s : Span
  s = span_at (get_or ss p (slot 0 0 0))

  record Stands : Type 0 where
    named : is_named c ss ≡ true
    at : stand_of ss chains reach c ≡ stand_in s (get_or reach p 0) (chain_of rows s).clear (chain_of rows s).resume

  stand-by : (x y z : Bool) → is_named c ss ≡ x → ltb p (length chains / 2) ≡ y → ltb p (length reach) ≡ z
      → stand_of ss chains reach c
      ≡ pick x (pick y (pick z (stand_in s (get_or reach p 0) (get_or chains (2 * p) 0) (get_or chains (2 * p + 1) 0)) no_stand) no_stand) no_stand
  unfolding stand_of stand_at
  stand-by x y z e f g = rw (e, f, g) refl

  chain-is : is_named c ss ≡ true → p < length chains / 2
      → (get_or chains (2 * p) 0 ≡ (chain_of rows s).clear) × (get_or chains (2 * p + 1) 0 ≡ (chain_of rows s).resume)
  unfolding Chains
  chain-is e l = are p (named-slot c ss e).0 l

  none_so : (r : ℕ) → near_of rows (stand_of ss chains reach c) k ≡ suc r → stand_of ss chains reach c ≡ no_stand → Stands
  none_so r e f =
      absurd (let z : 0 ≡ suc r = sym (none-near rows k) ∙ ap (λ (u : Stand). near_of rows u k) (sym f) ∙ e in omega arith)

  stands : (r : ℕ) → near_of rows (stand_of ss chains reach c) k ≡ suc r → Stands
  stands r e = go (is_named c ss) refl (ltb p (length chains / 2)) refl (ltb p (length reach)) refl
    where
      go : (x : Bool) → is_named c ss ≡ x → (y : Bool) → ltb p (length chains / 2) ≡ y → (z : Bool) → ltb p (length reach) ≡ z → Stands
      go false a y b z d = none_so r e (stand-by false y z a b d)
      go true a false b z d = none_so r e (stand-by true false z a b d)
      go true a true b false d = none_so r e (stand-by true true false a b d)
      go true a true b true d =
          let q = chain-is a (ltb-true p (length chains / 2) b) in
          record { named = a; at = stand-by true true true a b d ∙ rw (q.0, q.1) refl }

  span-is : is_named c ss ≡ true → span_of ss c ≡ s
  unfolding span_of
  span-is e = rw e refl

  -- a taken block holds it
  pub taken-met : near_of rows (stand_of ss chains reach c) k ≡ 1 → is_met ss reach (id_of c (held_by rows (span_of ss c) k)) ≡ true
  unfolding is_met met_at
  taken-met e =
      let q = stands 0 e in
      let l = near-taken rows s (span-few (get_or ss p (slot 0 0 0))) (get_or reach p 0) k (ap (λ (u : Stand). near_of rows u k) (sym q.at) ∙ e) in
      rw (q.named, span-is q.named) (lt-ltb (held_by rows s k) (get_or reach p 0) l)

  -- the next block holds it
  pub next-holds : near_of rows (stand_of ss chains reach c) k ≡ 2 → capped (stand_of ss chains reach c).taken ≡ held_by rows (span_of ss c) k
  next-holds e =
      let q = stands 1 e in
      let n = near_next rows s (span-few (get_or ss p (slot 0 0 0))) (get_or reach p 0) k (ap (λ (u : Stand). near_of rows u k) (sym q.at) ∙ e) in
      ap (λ (u : Stand). capped u.taken) q.at ∙ ap capped (taken_is s (get_or reach p 0) (chain_of rows s).clear (chain_of rows s).resume) ∙ n ∙ ap (λ (u : Span). held_by rows u k) (sym (span-is q.named))
    where
      taken_is : (u : Span) (x y z : ℕ) → (stand_in u x y z).taken ≡ x
      taken_is u x y z = go (leb (u.hi - u.lo) x) refl
        where
          go : (q : Bool) → leb (u.hi - u.lo) x ≡ q → (stand_in u x y z).taken ≡ x
          go true f = ap (λ (v : Stand). v.taken) (stand-all u x y z (leb-true (u.hi - u.lo) x f))
          go false f = ap (λ (v : Stand). v.taken) (stand-some u x y z (leb-false (u.hi - u.lo) x f))

-- ---- the chains of all slots, in words

module _ (w : List ℕ) (i : ℕ) (c : Chain) where
  put-length : length (put_chain w i c) ≡ length w
  put-length = go (ltb i (length w / 2)) refl
    where
      go : (x : Bool) → ltb i (length w / 2) ≡ x → length (put_chain w i c) ≡ length w
      go true e =
          ap length (sym (put_in w i c (ltb-true i (length w / 2) e)))
          ∙ length-set (set w (2 * i) c.clear) (2 * i + 1) c.resume ∙ length-set w (2 * i) c.clear
      go false e = ap length (sym (put-out w i c (ltb-false i (length w / 2) e)))

  put_other : (q : ℕ) → q < 2 * i → get_or (put_chain w i c) q 0 ≡ get_or w q 0
  put_other q h = go (ltb i (length w / 2)) refl
    where
      go : (x : Bool) → ltb i (length w / 2) ≡ x → get_or (put_chain w i c) q 0 ≡ get_or w q 0
      go true e =
          ap (λ (v : List ℕ). get_or v q 0) (sym (put_in w i c (ltb-true i (length w / 2) e)))
          ∙ get_or-set_other (set w (2 * i) c.clear) (2 * i + 1) q c.resume 0 (λ f. omega arith) ∙ get_or-set_other w (2 * i) q c.clear 0 (λ f. omega arith)
      go false e = ap (λ (v : List ℕ). get_or v q 0) (sym (put-out w i c (ltb-false i (length w / 2) e)))

  module _ (h : i < length w / 2) where
    put-clear : get_or (put_chain w i c) (2 * i) 0 ≡ c.clear
    put-clear =
        ap (λ (v : List ℕ). get_or v (2 * i) 0) (sym (put_in w i c h))
        ∙ get_or-set_other (set w (2 * i) c.clear) (2 * i + 1) (2 * i) c.resume 0 (λ f. omega arith) ∙ get_or-set_same w (2 * i) c.clear 0 (omega arith)

    put-resume : get_or (put_chain w i c) (2 * i + 1) 0 ≡ c.resume
    put-resume =
        ap (λ (v : List ℕ). get_or v (2 * i + 1) 0) (sym (put_in w i c h))
        ∙ get_or-set_same (set w (2 * i) c.clear) (2 * i + 1) c.resume 0 (simp length-set (omega arith))

chains-before : (i : ℕ) (ss : List Slot) (rows : List Block) (w : List ℕ) (q : ℕ) → q < 2 * i → get_or (chains_from i ss rows w) q 0 ≡ get_or w q 0
unfolding chains_from
chains-before i [] rows w q h = refl
chains-before i (s ∷ ss) rows w q h =
    chains-before (suc i) ss rows (put_chain w i (chain_of rows (span_at s))) q (omega arith) ∙ put_other w i (chain_of rows (span_at s)) q h

chains-length : (i : ℕ) (ss : List Slot) (rows : List Block) (w : List ℕ) → length (chains_from i ss rows w) ≡ length w
unfolding chains_from
chains-length i [] rows w = refl
chains-length i (s ∷ ss) rows w =
    chains-length (suc i) ss rows (put_chain w i (chain_of rows (span_at s))) ∙ put-length w i (chain_of rows (span_at s))

abbrev Kept : List ℕ → ℕ → Chain → Type 0
Kept w p c = (get_or w (2 * p) 0 ≡ c.clear) × (get_or w (2 * p + 1) 0 ≡ c.resume)

chains-at : (i : ℕ) (ss : List Slot) (rows : List Block) (w : List ℕ) (p q : ℕ) → p < length ss → q ≡ i + p → q < length w / 2
    → Kept (chains_from i ss rows w) q (chain_of rows (span_at (get_or ss p (slot 0 0 0))))
unfolding chains_from
chains-at i [] rows w p q h e l = absurd (omega arith)
chains-at i (s ∷ ss) rows w zero q h e l =
    let f : i ≡ q = omega arith in
    let v = put_chain w i (chain_of rows (span_at s)) in
    subst (λ (x : ℕ). Kept (chains_from (suc i) ss rows v) x (chain_of rows (span_at s))) f (
      chains-before (suc i) ss rows v (2 * i) (omega arith) ∙ put-clear w i (chain_of rows (span_at s)) (omega arith),
      chains-before (suc i) ss rows v (2 * i + 1) (omega arith) ∙ put-resume w i (chain_of rows (span_at s)) (omega arith),
    )
chains-at i (s ∷ ss) rows w (suc p) q h e l =
    let v = put_chain w i (chain_of rows (span_at s)) in
    let m : length v ≡ length w = put-length w i (chain_of rows (span_at s)) in
    chains-at (suc i) ss rows v p q (omega arith) (omega arith) (omega (arith, m))

pub chains-are : (ss : List Slot) (rows : List Block) (w : List ℕ) → Chains ss rows (chains_from 0 ss rows w)
unfolding Chains
chains-are ss rows w p h l = chains-at 0 ss rows w p p h (omega arith) (omega (arith, chains-length 0 ss rows w))
