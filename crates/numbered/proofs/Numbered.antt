-- Sorting by held ids and sorting the numbered blocks by reaches, from nothing, make the same steps.
use mathlib.Core.Path.{◌≡◌, refl, sym, ap, ◌∙◌}
use mathlib.Core.Bool.{Bool, true, false, ◌||◌, ◌&&◌}
use mathlib.Core.List.{List, [], ◌∷◌}
use mathlib.Core.Logic.{inl, inr}
use mathlib.Core.Option.{some}
use Prim.Native.Nat.{ℕ, suc, ◌+◌, ◌≤◌, ◌<◌}
use native.Mathlib.Omega.{arith}
use lib.Dec.{T, ltb, eqb}
use lib.ListN.{length, get_or}
use borrow.Author.Tests.{ltb-true}
use Rattle.numbers.specs.Number.{pick}
use Rattle.numbers.specs.Limits.{max_blocks}
use Rattle.block.specs.declared.Id.{Id}
use Rattle.block.specs.declared.Block.{Block}
use Rattle.block.specs.Row.{no_block, left_id, right_id, parent_id}
use Rattle.kept.specs.Kept.{remote}
use Rattle.readings.specs.SoundInner.{Ordered}
use Rattle.sorting.specs.Steps.{State, start, can, step}
use Rattle.sorting.specs.Rules.{queue, is_skip, also, deps, others, unmet, waits, free, system, below, by_reaches}
use Rattle.sorting.specs.Rule28.{asks28}
use Rattle.sorting.specs.Rule28Inner.{rule28}
use Rattle.sorting.specs.Sorted.{steps, order, outcome, block_numbers_from, numbers_by, counts_in, outcome_of, order_of}
use Rattle.sorting.specs.Held.{rule_held, owners}
use Rattle.sorting.proofs.Outcome.{Moved, step-taken, step-own, can-fits}
use Rattle.sorting.proofs.Numbers.{one_more, owner_at}
use Rattle.sorting.proofs.Demand.{front, lifts, others-stay}
use Rattle.sorting.proofs.Held.{HeldBy, held_start, held-step}
use Rattle.sorting.proofs.HeldReaches.{numbers-same, counts_same}
use Rattle.sorting.proofs.Alike.{Along, Alike, Matched, quick-same}
use Rattle.numbered.specs.Numbered.{holder, asked, placed, by_number, numbered_from}
use Rattle.numbered.proofs.Holders.{queue-chain, told_below}
use Rattle.numbered.proofs.Blocks.{numbered-clients, numbered-numbers, numbered-queue, numbered-at}

pub queue-short : (bs : List Block) (c : ℕ) → length (queue bs c) ≤ length bs
unfolding queue
queue-short [] c = omega arith
queue-short (b ∷ bs) c = one_more (λ ns q. length q ≤ suc (length bs)) 0 b bs c (λ e. omega (arith, queue-short bs c)) (λ e. omega (arith, queue-short bs c))

-- ---- what a block still asks for is met exactly when what it asked for is

module _ (gone : Id → Bool) (place : Id → ℕ) (f g : Id → Bool) (same : (d : Id) → f d ≡ (gone d || g (record { client = d.client; clock = place d }))) (c : ℕ)
    (b : Block) (own : b.client ≡ c) (item : is_skip b ≡ false) where
  one-asked : (there : Bool) (d : Id) (ds es : List Id) → free (unmet g (others c es)) ≡ free (unmet f (others c ds))
      → free (unmet g (others c (also (asked gone place b there d) (placed gone place (asked gone place b there d) d) es)))
      ≡ free (unmet f (others c (also there d ds)))
  unfolding asked placed others unmet
  one-asked false d ds es rec = rw item rec
  one-asked true d ds es rec = rw (item, own) (go (eqb d.client c) refl (gone d) (same d))
    where
      n : Id
      n = record { client = d.client; clock = place d }

      met : (x y : Bool) → x ≡ y → free (pick y (unmet g (others c es)) (some n)) ≡ free (pick x (unmet f (others c ds)) (some d))
      met x true e = rw e rec
      met x false e = rw e refl

      go : (x : Bool) → eqb d.client c ≡ x → (y : Bool) → f d ≡ (y || g n)
          → free (unmet g (others c (also (pick x false (pick y false true)) (pick (pick x false (pick y false true)) n (record { client = 0; clock = 0 })) es)))
          ≡ free (unmet f (pick x (others c ds) (d ∷ others c ds)))
      go true e y h = rec
      go false e true h = rw h rec
      go false e false h = rw e (met (f d) (g n) h)

  asked-free : (k : ℕ) → free (unmet g (others c (deps (by_number gone place k b)))) ≡ free (unmet f (others c (deps b)))
  unfolding by_number deps others unmet
  asked-free k =
      one-asked b.has_left (left_id b) _ _ (one-asked b.has_right (right_id b) _ _ (one-asked b.has_parent (parent_id b) [] [] refl))

-- a Skip asks for nothing
skip-free : (gone : Id → Bool) (place : Id → ℕ) (g : Id → Bool) (c : ℕ) (b : Block) → is_skip b ≡ true → (k : ℕ)
    → free (unmet g (others c (deps (by_number gone place k b)))) ≡ true
unfolding by_number deps others unmet asked
skip-free gone place g c b e k = rw e refl

pub never-skips : (gone : Id → Bool) (place : Id → ℕ) (k : ℕ) (b : Block) → is_skip (by_number gone place k b) ≡ false
unfolding by_number
never-skips gone place k b = refl

-- ---- the same steps

module _ (bs : List Block) (ordered : Ordered bs) (few : length bs ≤ max_blocks) (κ : Id → ℕ)
    (gone : Id → Bool) (gone-is : (d : Id) → gone d ≡ ltb 0 (κ d))
    (place : Id → ℕ) (place_is : (d : Id) → place d ≡ holder (queue bs d.client) d.clock)
    (first : ℕ → ℕ) (firsts : (c : ℕ) → 0 < length (queue bs c) → first c ≡ get_or (block_numbers_from 0 bs c) 0 0) where
  abbrev ns : List Block
  ns = numbered_from gone place first 0 bs

  -- the same is taken, held is what was held at first or taken, and the reaches are the counts
  pub record Same (s : State Id) (u : State ℕ) : Type 0 where
    pub taken : (c : ℕ) → s.taken c ≡ u.taken c
    pub held : HeldBy bs κ s
    pub counts : (c : ℕ) → u.known c ≡ u.taken c
    pub fits : (c : ℕ) → s.taken c ≤ length (queue bs c)

  module _ (s : State Id) (u : State ℕ) (l : Same s u) where
    -- an id is held exactly if it was at first or the queue of its client has got past its holder
    pub met-same : (d : Id) → ltb 0 (s.known d) ≡ (gone d || below u.known (record { client = d.client; clock = place d }))
    unfolding HeldBy
    met-same d =
        l.held d ∙ ap (λ (x : Bool). ltb 0 (κ d) || x)
        (told_below (queue bs d.client) (queue-chain bs d.client ordered) (omega (arith, queue-short bs d.client)) d (s.taken d.client) (l.fits d.client))
        ∙ rw (gone-is d, place_is d, l.counts d.client, l.taken d.client) refl

    module _ (c : ℕ) (h : s.taken c < length (queue bs c)) where
      abbrev b : Block
      b = get_or (queue bs c) (s.taken c) no_block

      -- the numbered front
      is : get_or (queue ns c) (s.taken c) no_block ≡ by_number gone place (s.taken c) b
      is = numbered-at gone place first bs ordered firsts c (s.taken c) h

      ready_by : (x : Bool) → is_skip b ≡ x
          → (x || free (unmet (λ (d : Id). ltb 0 (s.known d)) (others c (deps b))))
          ≡ free (unmet (below u.known) (others c (deps (by_number gone place (s.taken c) b))))
      ready_by true e = sym (skip-free gone place (below u.known) c b e (s.taken c))
      ready_by false e =
          sym (asked-free gone place (λ (d : Id). ltb 0 (s.known d)) (below u.known) met-same c b (owner_at bs c (s.taken c) h) e (s.taken c))

      ready-same : (is_skip b || free (unmet (λ (d : Id). ltb 0 (s.known d)) (others c (deps b))))
          ≡ (is_skip (get_or (queue ns c) (s.taken c) no_block) || free (unmet (below u.known) (others c (deps (get_or (queue ns c) (s.taken c) no_block)))))
      ready-same = rw is (rw (never-skips gone place (s.taken c) b) (ready_by (is_skip b) refl))

    same-can : (c : ℕ) → can (steps rule_held bs) s c ≡ can (steps rule28 ns) u c
    unfolding can system waits by_reaches rule_held asks28
    same-can c = rw (numbered-queue gone place first bs c, ← (l.taken c)) (go (ltb (s.taken c) (length (queue bs c))) refl)
      where
        b₀ : Block
        b₀ = get_or (queue bs c) (s.taken c) no_block

        n₀ : Block
        n₀ = get_or (queue ns c) (s.taken c) no_block

        go : (x : Bool) → ltb (s.taken c) (length (queue bs c)) ≡ x
            → (x && (is_skip b₀ || free (unmet (λ (d : Id). ltb 0 (s.known d)) (others c (deps b₀)))))
            ≡ (x && (is_skip n₀ || free (unmet (below u.known) (others c (deps n₀)))))
        go true e = ready-same c (ltb-true (s.taken c) (length (queue bs c)) e)
        go false e = refl

    module _ (c : ℕ) (t : T (can (steps rule_held bs) s c)) where
      fit : s.taken c < length (queue bs c)
      unfolding system
      fit = can-fits (steps rule_held bs) s c t

      taken_step : (d : ℕ) → Moved (steps rule_held bs) s c d → Moved (steps rule28 ns) u c d
          → (step (steps rule_held bs) s c).taken d ≡ (step (steps rule28 ns) u c).taken d
      taken_step d (inl v) (inl w) = omega (arith, v.1, w.1, l.taken d)
      taken_step d (inl v) (inr w) = absurd (w.0 v.0)
      taken_step d (inr v) (inl w) = absurd (v.0 w.0)
      taken_step d (inr v) (inr w) = omega (arith, v.1, w.1, l.taken d)

      -- the front that is taken is the numbered one: at clock `taken`, of length 1, and no Skip
      front-is : front ns u c ≡ by_number gone place (s.taken c) (get_or (queue bs c) (s.taken c) no_block)
      front-is = rw (← (l.taken c)) (is c fit)

      front-end : (front ns u c).clock + (front ns u c).length.0 ≡ s.taken c + 1
      unfolding by_number
      front-end = rw front-is refl

      front-item : is_skip (front ns u c) ≡ false
      front-item = rw front-is (never-skips gone place (s.taken c) (get_or (queue bs c) (s.taken c) no_block))

      counts_step : (d : ℕ) → Moved (steps rule28 ns) u c d → (step (steps rule28 ns) u c).known d ≡ (step (steps rule28 ns) u c).taken d
      counts_step d (inl w) =
          rw w.0 (omega (arith, lifts asks28 ns u c front-item, front-end, l.taken c, l.counts c, step-own (steps rule28 ns) u c))
      counts_step d (inr w) = omega (arith, others-stay asks28 ns u c d w.0, l.counts d, w.1)

      fits-step : (d : ℕ) → Moved (steps rule_held bs) s c d → (step (steps rule_held bs) s c).taken d ≤ length (queue bs d)
      fits-step d (inl w) = rw w.0 (omega (arith, step-own (steps rule_held bs) s c, fit))
      fits-step d (inr w) = omega (arith, w.1, l.fits d)

      same_step : Same (step (steps rule_held bs) s c) (step (steps rule28 ns) u c)
      same_step = record {
        taken = λ d. taken_step d (step-taken (steps rule_held bs) s c d) (step-taken (steps rule28 ns) u c d);
        held = held-step bs κ s c l.held;
        counts = λ d. counts_step d (step-taken (steps rule28 ns) u c d);
        fits = λ d. fits-step d (step-taken (steps rule_held bs) s c d);
      }

  abbrev pub Any : State Id → ℕ → Type 0
  Any s c = Unit {0}

  pub alike : Alike (steps rule_held bs) (steps rule28 ns) Any Same
  unfolding system
  alike = record {
    size = λ c. sym (numbered-queue gone place first bs c);
    taken = λ s u l. l.taken;
    same = same-can;
    goes = λ s u l c t p. same_step s u l c t;
  }

  any-along : (s : State Id) (cs : List ℕ) → Along (steps rule_held bs) Any s cs
  unfolding Along
  any-along s [] = tt
  any-along s (c ∷ cs) = (tt, any-along (step (steps rule_held bs) s c) cs)

  pub begun : Same (start κ) (start (remote []))
  unfolding remote
  begun = record { taken = λ c. refl; held = held_start bs κ; counts = λ c. refl; fits = λ c. omega arith }

  matched : Matched alike (start κ) (start (remote [])) (order rule_held bs (owners bs) κ) (order rule28 ns (owners bs) (remote []))
  unfolding order
  matched = quick-same alike (owners bs) (start κ) (start (remote [])) begun (any-along (start κ) _)

  -- ---- so the same blocks are taken in the same order, and where they end the same is met

  pub same-order : numbers_by rule_held bs (start κ) (order rule_held bs (owners bs) κ) ≡ order_of rule28 ns []
  unfolding order_of
  same-order = rw (numbered-clients gone place first bs [])
      (numbers-same rule_held rule28 bs ns (λ c. sym (numbered-numbers gone place first 0 0 bs c)) (start κ) (start (remote [])) (λ c. refl)
      (order rule_held bs (owners bs) κ)
      ∙ ap (numbers_by rule28 ns (start (remote []))) matched.one)

  pub same_end : Same (outcome rule_held bs (owners bs) κ) (outcome_of rule28 ns [])
  unfolding outcome
  same_end = rw (numbered-clients gone place first bs []) matched.ends

  pub same-counts : (cs : List ℕ) → counts_in bs (outcome rule_held bs (owners bs) κ) cs ≡ counts_in ns (outcome_of rule28 ns []) cs
  same-counts cs = counts_same rule_held rule28 bs ns (λ c. sym (numbered-queue gone place first bs c)) (outcome rule_held bs (owners bs) κ) (outcome_of rule28 ns []) same_end.taken cs
