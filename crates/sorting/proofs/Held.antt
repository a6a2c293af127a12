-- Sorting by held ids in the paper's words: demand 3 over held sets, which ids are held after any steps, which blocks are ready, and what is reported.
use mathlib.Core.Path.{◌≡◌, refl, sym, ap, subst, ◌∙◌}
use mathlib.Core.Bool.{Bool, true, false, ◌||◌}
use mathlib.Core.List.{List, [], ◌∷◌}
use mathlib.Core.Logic.{◌⊎◌, inl, inr, ◌≢◌, ◌↔◌}
use mathlib.Core.Option.{some}
use Prim.Native.Nat.{ℕ, zero, suc, ◌+◌, ◌<◌, max}
use native.Mathlib.Omega.{arith}
use lib.Dec.{T, ltb, leb, eqb, ltb→lt, lt→ltb, leb→le, le→leb, eqb→eq, eqb_refl}
use lib.ListN.{get_or}
use borrow.Author.Tests.{ltb-true, ltb-false, lt-ltb, ne_eqb}
use Rattle.numbers.specs.Number.{pick}
use Rattle.block.specs.declared.Id.{Id}
use Rattle.block.specs.declared.Block.{Block}
use Rattle.block.specs.Row.{no_block}
use Rattle.ranges.specs.Ranges.{Range}
use Rattle.ranges.specs.RangesInner.{Hit, Deleted}
use Rattle.readings.specs.Sound.{All}
use Rattle.sorting.specs.Steps.{State, start, step, after, Ends, Highest, Sorts}
use Rattle.sorting.specs.Rules.{queue, is_skip, deps, others, waits, free, system, report}
use Rattle.sorting.specs.Rule28.{asks28}
use Rattle.sorting.specs.Sorted.{steps, order}
use Rattle.sorting.specs.Held.{in_range, rule_held, held_in, owners}
use Rattle.sorting.proofs.Outcome.{both, pair, Moved, step-taken}
use Rattle.sorting.proofs.Rules.{RuleMonotone, unmet-is, report-waits, others-are, others-free}
use Rattle.sorting.proofs.Clients.{clients-blocks}
use Rattle.sorting.proofs.Demand.{sorted, highest, is-order}

-- ---- demand 3 over held sets: instances of what holds of every rule under which more knowledge holds nothing back

pub held-mono : RuleMonotone rule_held
unfolding RuleMonotone rule_held
held-mono κ κ' up d t = lt→ltb 0 (κ' d) (omega (arith, ltb→lt 0 (κ d) t, up d))

module _ (bs : List Block) (κ : Id → ℕ) where
  pub held-sorts : Sorts (steps rule_held bs) κ (order rule_held bs (owners bs) κ)
  held-sorts = sorted rule_held held-mono bs (owners bs) (clients-blocks bs []) κ

  pub held-highest : Highest (steps rule_held bs) (start κ) (order rule_held bs (owners bs) κ)
  held-highest = highest rule_held held-mono bs (owners bs) (clients-blocks bs []) κ

  pub held-only : (cs : List ℕ) → Ends (steps rule_held bs) (start κ) cs → Highest (steps rule_held bs) (start κ) cs → cs ≡ order rule_held bs (owners bs) κ
  held-only = is-order rule_held held-mono bs (owners bs) (clients-blocks bs []) κ

-- ---- which blocks are ready, and what is waited for

module _ (held : Id → ℕ) (c : ℕ) (b : Block) where
  -- a block is ready exactly when each dependency on another client is held
  pub ready_held : T (free (waits rule_held held c b)) ↔ All (λ (d : Id). (d.client ≡ c) ⊎ (0 < held d)) (deps b)
  unfolding waits rule_held asks28
  ready_held = others-free (λ (d : Id). ltb 0 (held d)) (λ (d : Id). 0 < held d) (λ d e. ltb-true 0 (held d) e)
      (λ d e h. let g = ltb-false 0 (held d) e in omega arith) c (deps b)

  -- what is waited for is another client's, and not held
  pub waits-held : (d : Id) → waits rule_held held c b ≡ some d → (d.client ≢ c) × (held d ≡ 0)
  unfolding waits rule_held asks28
  waits-held d p =
      let w = unmet-is (λ (e : Id). e.client ≢ c) (λ (e : Id). ltb 0 (held e)) (others c (deps b)) d (others-are c (deps b)) p in
      (w.0, omega (arith, ltb-false 0 (held d) w.1))

pub reported-held : (q : ℕ → List Block) (s : State Id) (c : ℕ) (d : Id) → report rule_held q s c ≡ some d → (d.client ≢ c) × (s.known d ≡ 0)
reported-held q s c d p = waits-held s.known c _ d (report-waits rule_held q s c d p)

-- ---- which ids are held

-- block k of a queue holds the id
unfoldable pub holds_at : List Block → ℕ → Id → Bool
holds_at q k d = pick (is_skip (get_or q k no_block)) false (in_range d.client (get_or q k no_block).clock (get_or q k no_block).length.0 d)

-- one of its first n blocks does
unfoldable pub told : List Block → ℕ → Id → Bool
told q zero d = false
told q (suc n) d = told q n d || holds_at q n d

or-false : (x : Bool) → (x || false) ≡ x
or-false true = refl
or-false false = refl

or-true : (x : Bool) → (x || true) ≡ true
or-true true = refl
or-true false = refl

or_assoc : (x y z : Bool) → ((x || y) || z) ≡ (x || (y || z))
or_assoc true y z = refl
or_assoc false y z = refl

-- what is known of an id after one fact more
pub fact-more : (a : ℕ) (x y : Bool) → ltb 0 (max a (pick x 0 (pick y 1 0))) ≡ (ltb 0 a || pick x false y)
fact-more a true y = let e : max a 0 ≡ a = omega arith in rw e (sym (or-false (ltb 0 a)))
fact-more a false true = lt-ltb 0 (max a 1) (omega arith) ∙ sym (or-true (ltb 0 a))
fact-more a false false = let e : max a 0 ≡ a = omega arith in rw e (sym (or-false (ltb 0 a)))

module _ (bs : List Block) (s : State Id) (c : ℕ) (d : Id) where
  -- a step tells of its own client's ids what its block holds, and of others nothing
  step-tells : d.client ≡ c → ltb 0 ((step (steps rule_held bs) s c).known d) ≡ (ltb 0 (s.known d) || holds_at (queue bs c) (s.taken c) d)
  unfolding step system rule_held holds_at
  step-tells p =
      let b = get_or (queue bs c) (s.taken c) no_block in
      fact-more (s.known d) (is_skip b) (in_range c b.clock b.length.0 d)
      ∙ ap (λ (x : ℕ). ltb 0 (s.known d) || pick (is_skip b) false (in_range x b.clock b.length.0 d)) (sym p)

  step-silent : d.client ≢ c → (step (steps rule_held bs) s c).known d ≡ s.known d
  unfolding step system rule_held in_range
  step-silent ne = rw (ne_eqb d.client c ne) (go (is_skip (get_or (queue bs c) (s.taken c) no_block)))
    where
      go : (x : Bool) → max (s.known d) (pick x 0 0) ≡ s.known d
      go true = omega arith
      go false = omega arith

module _ (bs : List Block) (κ : Id → ℕ) where
  -- an id is held exactly where it was held at first or lies in a taken block that is no Skip
  unfoldable pub HeldBy : State Id → Type 0
  HeldBy s = (d : Id) → ltb 0 (s.known d) ≡ (ltb 0 (κ d) || told (queue bs d.client) (s.taken d.client) d)

  pub held_start : HeldBy (start κ)
  unfolding HeldBy told
  held_start d = sym (or-false (ltb 0 (κ d)))

  pub held-step : (s : State Id) (c : ℕ) → HeldBy s → HeldBy (step (steps rule_held bs) s c)
  unfolding HeldBy told
  held-step s c h d = go (step-taken (steps rule_held bs) s c d.client)
    where
      go : Moved (steps rule_held bs) s c d.client → ltb 0 ((step (steps rule_held bs) s c).known d)
          ≡ (ltb 0 (κ d) || told (queue bs d.client) ((step (steps rule_held bs) s c).taken d.client) d)
      go (inl w) =
          step-tells bs s c d w.0 ∙ ap (λ (x : Bool). x || holds_at (queue bs c) (s.taken c) d) (h d)
          ∙ or_assoc (ltb 0 (κ d)) (told (queue bs d.client) (s.taken d.client) d) (holds_at (queue bs c) (s.taken c) d)
          ∙ ap (λ (x : Bool). ltb 0 (κ d) || x)
          (ap (λ (x : ℕ). told (queue bs d.client) (s.taken d.client) d || holds_at (queue bs x) (s.taken x) d) (sym w.0)
          ∙ ap (λ (n : ℕ). told (queue bs d.client) n d) (sym w.1))
      go (inr w) = ap (ltb 0) (step-silent bs s c d w.0) ∙ h d ∙ rw w.1 refl

  held-run : (s : State Id) (cs : List ℕ) → HeldBy s → HeldBy (after (steps rule_held bs) s cs)
  unfolding after
  held-run s [] h = h
  held-run s (c ∷ cs) h = held-run (step (steps rule_held bs) s c) cs (held-step s c h)

  pub held-is : (cs : List ℕ) → HeldBy (after (steps rule_held bs) (start κ) cs)
  held-is cs = held-run (start κ) cs held_start

-- ---- what ranges hold, as ids of a delete set

pub within-is : (c clock n : ℕ) (d : Id) → T (in_range c clock n d) ↔ Hit (record { client = c; clock = clock; len = n }) d.client d.clock
unfolding in_range
within-is c clock n d = (
  (λ t. let e = both (eqb d.client c) _ t in
      let f = both (leb clock d.clock) _ e.1 in
      record { of = sym (eqb→eq d.client c e.0); from = leb→le clock d.clock f.0; below = ltb→lt d.clock (clock + n) f.1 }),
  (λ h. pair (eqb d.client c) _ (subst (λ (x : ℕ). T (eqb d.client x)) (sym h.of) (eqb_refl d.client))
      (pair (leb clock d.clock) _ (le→leb clock d.clock h.from) (lt→ltb d.clock (clock + n) h.below))),
)

pub ranges-hold : (rs : List Range) (d : Id) → (0 < held_in rs d) ↔ Deleted rs d.client d.clock
unfolding held_in
ranges-hold [] d = ((λ h. absurd (omega arith)), (λ h. absurd h))
ranges-hold (r ∷ rs) d = go (in_range r.client r.clock r.len d) refl (ranges-hold rs d)
  where
    go : (x : Bool) → in_range r.client r.clock r.len d ≡ x → ((0 < held_in rs d) ↔ Deleted rs d.client d.clock)
        → (0 < pick x 1 (held_in rs d)) ↔ (Hit r d.client d.clock ⊎ Deleted rs d.client d.clock)
    go true e rec = ((λ h. inl ((within-is r.client r.clock r.len d).0 (rw e tt))), (λ h. omega arith))
    go false e rec = (
      (λ h. inr (rec.0 h)),
      (λ h. elim h [ inl t ↦ absurd (subst T e ((within-is r.client r.clock r.len d).1 t)) | inr t ↦ rec.1 t ]),
    )
