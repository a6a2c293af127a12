-- Held ids and reaches: where the held ids are those below the vector's clocks and no block is taken across a gap, both sorters take the same, in the same order.
use mathlib.Core.Path.{◌≡◌, refl, sym, ap, ◌∙◌}
use mathlib.Core.Bool.{Bool, true, false, ◌||◌, ◌&&◌}
use mathlib.Core.List.{List, [], ◌∷◌}
use mathlib.Core.Logic.{◌⊎◌, inl, inr}
use mathlib.Core.Option.{Option}
use Prim.Native.Nat.{ℕ, ◌+◌, ◌≤◌, ◌<◌, max}
use native.Mathlib.Omega.{arith}
use lib.Dec.{T, ltb, leb, eqb}
use lib.ListN.{length, get_or}
use borrow.Author.Tests.{ltb-true, ltb-false, lt-ltb, le-ltb, le-leb, eqb-true}
use Rattle.numbers.specs.Number.{pick}
use Rattle.block.specs.declared.Id.{Id}
use Rattle.block.specs.declared.Block.{Block}
use Rattle.vector.specs.Vector.{Entry}
use Rattle.kept.specs.Kept.{remote}
use Rattle.sorting.specs.Steps.{State, start, can, step, after}
use Rattle.sorting.specs.Quick.{Listed}
use Rattle.sorting.specs.Rules.{queue, is_skip, Rule, unmet, waits, free, system, below, by_reaches}
use Rattle.sorting.specs.Rule28.{asks28}
use Rattle.sorting.specs.Rule28Inner.{rule28}
use Rattle.sorting.specs.Sorted.{all_clients, steps, order, outcome, block_numbers_from, numbers_by, counts_in, outcome_of, order_of}
use Rattle.sorting.specs.Held.{in_range, rule_held, owners}
use Rattle.sorting.proofs.Outcome.{Moved, step-taken}
use Rattle.sorting.proofs.Rules.{RuleMonotone}
use Rattle.sorting.proofs.Clients.{clients-blocks}
use Rattle.sorting.proofs.Demand.{front, sorted, highest, is-order}
use Rattle.sorting.proofs.Held.{held-mono, fact-more}
use Rattle.sorting.proofs.Alike.{Along, Alike, Matched, quick-same}

-- ---- which clients are looked at changes nothing, those with blocks being among them

pub any-clients : {A : Type 0} (R : Rule A) → RuleMonotone R → (bs : List Block) (cs ds : List ℕ) → ((c : ℕ) → 0 < length (queue bs c) → Listed c cs)
    → ((c : ℕ) → 0 < length (queue bs c) → Listed c ds) → (κ : A → ℕ) → order R bs cs κ ≡ order R bs ds κ
any-clients R mono bs cs ds in-cs in-ds κ =
    is-order R mono bs ds in-ds κ (order R bs cs κ) (sorted R mono bs cs in-cs κ).ends (highest R mono bs cs in-cs κ)

-- ---- the same taken counts give the same numbers and reports

module _ {A B : Type 0} (R : Rule A) (Q : Rule B) where
  pub numbers-same : (bs ds : List Block) → ((c : ℕ) → block_numbers_from 0 bs c ≡ block_numbers_from 0 ds c) → (s : State A) (u : State B)
      → ((c : ℕ) → s.taken c ≡ u.taken c) → (cs : List ℕ) → numbers_by R bs s cs ≡ numbers_by Q ds u cs
  unfolding numbers_by
  numbers-same bs ds n s u t [] = refl
  numbers-same bs ds n s u t (c ∷ cs) =
      rw (n c, t c) (ap (λ (ns : List ℕ). get_or (block_numbers_from 0 ds c) (u.taken c) 0 ∷ ns)
      (numbers-same bs ds n (step (steps R bs) s c) (step (steps Q ds) u c) (λ d. go d (step-taken (steps R bs) s c d) (step-taken (steps Q ds) u c d)) cs))
    where
      go : (d : ℕ) → Moved (steps R bs) s c d → Moved (steps Q ds) u c d → (step (steps R bs) s c).taken d ≡ (step (steps Q ds) u c).taken d
      go d (inl v) (inl w) = omega (arith, v.1, w.1, t d)
      go d (inl v) (inr w) = absurd (w.0 v.0)
      go d (inr v) (inl w) = absurd (v.0 w.0)
      go d (inr v) (inr w) = omega (arith, v.1, w.1, t d)

  pub counts_same : (bs ds : List Block) → ((c : ℕ) → length (queue bs c) ≡ length (queue ds c)) → (s : State A) (u : State B)
      → ((c : ℕ) → s.taken c ≡ u.taken c) → (cs : List ℕ) → counts_in bs s cs ≡ counts_in ds u cs
  unfolding counts_in
  counts_same bs ds n s u t [] = refl
  counts_same bs ds n s u t (c ∷ cs) = rw (n c, t c, counts_same bs ds n s u t cs) refl

-- ---- reaches that are held ids

-- the front is taken at or below its own client's reach, or is a Skip
abbrev pub Gapless : List Block → State ℕ → ℕ → Type 0
Gapless bs s c = (is_skip (front bs s c) ≡ true) ⊎ ((front bs s c).clock ≤ s.known c)

-- the same is taken, and held are the ids below the reaches
pub record Level (s : State ℕ) (u : State Id) : Type 0 where
  pub taken : (c : ℕ) → s.taken c ≡ u.taken c
  pub held : (d : Id) → ltb 0 (u.known d) ≡ ltb d.clock (s.known d.client)

unmet-same : (f g : Id → Bool) → ((d : Id) → f d ≡ g d) → (ds : List Id) → unmet f ds ≡ unmet g ds
unfolding unmet
unmet-same f g e [] = refl
unmet-same f g e (d ∷ ds) = rw (e d, unmet-same f g e ds) refl

-- a block from `clock` to `end` that starts at or below the reach r
and-false : (x : Bool) → (x && false) ≡ false
and-false true = refl
and-false false = refl

lift-own : (r k clock end : ℕ) → clock ≤ r → (ltb k r || (leb clock k && ltb k end)) ≡ ltb k (max r end)
lift-own r k clock end h = go (ltb k r) refl (ltb k end) refl
  where
    go : (x : Bool) → ltb k r ≡ x → (y : Bool) → ltb k end ≡ y → (x || (leb clock k && y)) ≡ ltb k (max r end)
    go true e y f = sym (lt-ltb k (max r end) (omega (arith, ltb-true k r e)))
    go false e true f = rw (le-leb clock k (omega (arith, ltb-false k r e))) (sym (lt-ltb k (max r end) (omega (arith, ltb-true k end f))))
    go false e false f = and-false (leb clock k) ∙ sym (le-ltb k (max r end) (omega (arith, ltb-false k r e, ltb-false k end f)))

lift-same : (k a r clock end : ℕ) (skip own : Bool) → ltb 0 a ≡ ltb k r → (skip ≡ false → own ≡ true → clock ≤ r)
    → ltb 0 (max a (pick skip 0 (pick (own && (leb clock k && ltb k end)) 1 0))) ≡ ltb k (max r (pick skip 0 (pick own end 0)))
lift-same k a r clock end true own e h =
    let p : max a 0 ≡ a = omega arith in
    let q : max r 0 ≡ r = omega arith in
    rw (p, q) e
lift-same k a r clock end false true e h =
    fact-more a false (leb clock k && ltb k end) ∙ ap (λ (x : Bool). x || (leb clock k && ltb k end)) e ∙ lift-own r k clock end (h refl refl)
lift-same k a r clock end false false e h =
    let p : max a 0 ≡ a = omega arith in
    let q : max r 0 ≡ r = omega arith in
    rw (p, q) e

module _ (bs : List Block) where
  level-can : (s : State ℕ) (u : State Id) → Level s u → (c : ℕ) → can (steps rule28 bs) s c ≡ can (steps rule_held bs) u c
  unfolding can system waits by_reaches rule_held
  level-can s u l c =
      rw (← (l.taken c)) (ap (λ (o : Option Id). ltb (s.taken c) (length (queue bs c)) && (is_skip (front bs s c) || free o))
      (unmet-same (below s.known) (λ (d : Id). ltb 0 (u.known d)) (λ d. sym (l.held d)) (asks28 c (front bs s c))))

  level-step : (s : State ℕ) (u : State Id) → Level s u → (c : ℕ) → T (can (steps rule28 bs) s c) → Gapless bs s c
      → Level (step (steps rule28 bs) s c) (step (steps rule_held bs) u c)
  unfolding step system by_reaches rule_held in_range
  level-step s u l c t gap = record {
    taken = λ d. rw (l.taken d) refl;
    held = λ d. rw (← (l.taken c)) (lift-same d.clock (u.known d) (s.known d.client) (front bs s c).clock
        ((front bs s c).clock + (front bs s c).length.0) (is_skip (front bs s c)) (eqb d.client c) (l.held d) (λ e f. go d gap e f));
  }
    where
      go : (d : Id) → Gapless bs s c → is_skip (front bs s c) ≡ false → eqb d.client c ≡ true → (front bs s c).clock ≤ s.known d.client
      go d (inl e) f own = absurd (let z : ◌≡◌ {A = ℕ} 0 1 = cc in omega arith)
      go d (inr h) f own = let p : d.client ≡ c = eqb-true d.client c own in rw p h

  level : Alike (steps rule28 bs) (steps rule_held bs) (Gapless bs) Level
  unfolding system
  level = record { size = λ c. refl; taken = λ s u l. l.taken; same = level-can; goes = level-step }

  module _ (v : List Entry) (held : Id → ℕ) (below-clocks : (d : Id) → ltb 0 (held d) ≡ ltb d.clock (remote v d.client))
      (gapless : Along (steps rule28 bs) (Gapless bs) (start (remote v)) (order rule28 bs (all_clients bs v) (remote v))) where
    matched : Matched level (start (remote v)) (start held) (order rule28 bs (all_clients bs v) (remote v)) (order rule_held bs (all_clients bs v) held)
    unfolding order
    matched = quick-same level (all_clients bs v) (start (remote v)) (start held) (record { taken = λ c. refl; held = below-clocks }) gapless

    same-order : order rule28 bs (all_clients bs v) (remote v) ≡ order rule_held bs (owners bs) held
    same-order = matched.one ∙ any-clients rule_held held-mono bs (all_clients bs v) (owners bs) (clients-blocks bs v) (clients-blocks bs []) held

    -- W-206: both take the same blocks in the same order, and as many of each client
    pub same_taken : order_of rule28 bs v ≡ numbers_by rule_held bs (start held) (order rule_held bs (owners bs) held)
    unfolding order_of
    same_taken = numbers-same rule28 rule_held bs bs (λ c. refl) (start (remote v)) (start held) (λ c. refl) (order rule28 bs (all_clients bs v) (remote v))
        ∙ ap (numbers_by rule_held bs (start held)) same-order

    pub same-counts : (cs : List ℕ) → counts_in bs (outcome_of rule28 bs v) cs ≡ counts_in bs (outcome rule_held bs (owners bs) held) cs
    unfolding outcome
    same-counts cs = counts_same rule28 rule_held bs bs (λ c. refl) (after (steps rule28 bs) (start (remote v)) (order rule28 bs (all_clients bs v) (remote v)))
        (after (steps rule_held bs) (start held) (order rule_held bs (owners bs) held))
        (λ c. matched.ends.taken c
        ∙ ap (λ (ds : List ℕ). (after (steps rule_held bs) (start held) ds).taken c)
        (any-clients rule_held held-mono bs (all_clients bs v) (owners bs) (clients-blocks bs v) (clients-blocks bs []) held)) cs
