-- Demand 3 said of the blocks' numbers: in the order stand those that some allowed order takes, each once.
use mathlib.Core.Path.{◌≡◌, refl, sym, subst, ◌∙◌}
use mathlib.Core.List.{List, [], ◌∷◌}
use mathlib.Core.Logic.{inl, inr, ◌↔◌}
use Prim.Native.Nat.{ℕ, ◌≤◌, ◌<◌}
use native.Mathlib.Omega.{arith}
use lib.ListN.{length, get_or}
use Rattle.block.specs.declared.Block.{Block}
use Rattle.vector.specs.Vector.{Entry}
use Rattle.kept.specs.Kept.{remote}
use Rattle.readings.specs.Sound.{All}
use Rattle.readings.specs.Groups.{Distinct}
use Rattle.sorting.specs.Steps.{State, start, step, Run, Ends, Takes, Sorts}
use Rattle.sorting.specs.Quick.{Listed}
use Rattle.sorting.specs.Rules.{queue, Rule, system}
use Rattle.sorting.specs.Sorted.{all_clients, steps, order, block_numbers_from, numbers_by, Taking, order_of}
use Rattle.sorting.proofs.Outcome.{can-fits, step-own, takes-below, more-takes}
use Rattle.sorting.proofs.Rules.{RuleMonotone, system-monotone}
use Rattle.sorting.proofs.Clients.{clients-blocks}
use Rattle.sorting.proofs.Numbers.{number-below, number-one}
use Rattle.sorting.proofs.Demand.{sorted}

all_listed : (P : ℕ → Type 0) (ns : List ℕ) → ((m : ℕ) → Listed m ns → P m) → All P ns
all_listed P [] f = tt
all_listed P (n ∷ ns) f = (f n (inl refl), all_listed P ns (λ m l. f m (inr l)))

-- ---- the numbers of an allowed order are those of the blocks that it takes

module _ {A : Type 0} (R : Rule A) (bs : List Block) where
  fits : (s : State A) (c : ℕ) (cs : List ℕ) → Run (steps R bs) s (c ∷ cs) → s.taken c < length (queue bs c)
  unfolding Run system
  fits s c cs r = can-fits (steps R bs) s c r.0

  pub takes-number : (s : State A) (cs : List ℕ) (c k : ℕ) → Takes (steps R bs) s cs c k → Listed (get_or (block_numbers_from 0 bs c) k 0) (numbers_by R bs s cs)
  unfolding Takes numbers_by
  takes-number s [] c k t = absurd t
  takes-number s (d ∷ cs) c k (inl w) = inl (rw (w.1, w.0))
  takes-number s (d ∷ cs) c k (inr t) = inr (takes-number (step (steps R bs) s d) cs c k t)

  -- n is the number of a block that is taken
  pub record Taken (s : State A) (cs : List ℕ) (n : ℕ) : Type 0 where
    pub c : ℕ
    pub k : ℕ
    pub takes : Takes (steps R bs) s cs c k
    pub inside : k < length (queue bs c)
    pub is : n ≡ get_or (block_numbers_from 0 bs c) k 0

  pub number-takes : (s : State A) (cs : List ℕ) (n : ℕ) → Run (steps R bs) s cs → Listed n (numbers_by R bs s cs) → Taken s cs n
  unfolding Takes Run numbers_by
  number-takes s [] n r l = absurd l
  number-takes s (d ∷ cs) n r (inl p) = record { c = d; k = s.taken d; takes = inl (refl, refl); inside = fits s d cs r; is = p }
  number-takes s (d ∷ cs) n r (inr l) =
      let w = number-takes (step (steps R bs) s d) cs n r.1 l in
      record { c = w.c; k = w.k; takes = inr w.takes; inside = w.inside; is = w.is }

  pub numbers-below : (s : State A) (cs : List ℕ) → Run (steps R bs) s cs → All (λ n. n < length bs) (numbers_by R bs s cs)
  numbers-below s cs r = all_listed (λ n. n < length bs) (numbers_by R bs s cs)
      (λ n l. let w = number-takes s cs n r l in subst (λ x. x < length bs) (sym w.is) (number-below bs w.c w.k w.inside))

  -- what a step takes, no later step takes
  not-again : (s : State A) (d : ℕ) (cs : List ℕ) → Run (steps R bs) s (d ∷ cs) → (n : ℕ) → Listed n (numbers_by R bs (step (steps R bs) s d) cs)
      → n ≡ get_or (block_numbers_from 0 bs d) (s.taken d) 0 → ⊥
  unfolding Run
  not-again s d cs r n l e =
      let w = number-takes (step (steps R bs) s d) cs n r.1 l in
      let one = number-one bs w.c d w.k (s.taken d) w.inside (fits s d cs r) (sym w.is ∙ e) in
      let low = (takes-below (steps R bs) (step (steps R bs) s d) cs w.c w.k w.takes).0 in
      let own : (step (steps R bs) s d).taken d ≤ w.k = subst (λ x. (step (steps R bs) s d).taken x ≤ w.k) one.0 low in
      omega (arith, own, one.1, step-own (steps R bs) s d)

  pub numbers-once : (s : State A) (cs : List ℕ) → Run (steps R bs) s cs → Distinct (numbers_by R bs s cs)
  unfolding Run numbers_by Distinct
  numbers-once s [] r = tt
  numbers-once s (d ∷ cs) r = (all_listed _ (numbers_by R bs (step (steps R bs) s d) cs) (not-again s d cs r), numbers-once (step (steps R bs) s d) cs r.1)

-- ---- an order carried to its end takes what any allowed order takes

module _ {A : Type 0} (R : Rule A) (mono : RuleMonotone R) (bs : List Block) (κ : A → ℕ) where
  pub whole_takes : (cs : List ℕ) → Ends (steps R bs) (start κ) cs → (n : ℕ) → Listed n (numbers_by R bs (start κ) cs) ↔ Taking R bs κ n
  whole_takes cs e n = ((λ l. record { by = cs; run = e.run; takes = l }), back)
    where
      back : Taking R bs κ n → Listed n (numbers_by R bs (start κ) cs)
      back t =
          let w = number-takes R bs (start κ) t.by n t.run t.takes in
          subst (λ x. Listed x (numbers_by R bs (start κ) cs)) (sym w.is) (takes-number R bs (start κ) cs w.c w.k
          (more-takes (steps R bs) (system-monotone R (queue bs) mono) κ κ (λ a. omega arith) t.by cs t.run e w.c w.k w.takes))

  -- a block is left pending exactly when no allowed order takes it
  pub whole-leaves : (cs : List ℕ) → Ends (steps R bs) (start κ) cs → (n : ℕ) → (Listed n (numbers_by R bs (start κ) cs) → ⊥)
      ↔ ((ds : List ℕ) → Run (steps R bs) (start κ) ds → Listed n (numbers_by R bs (start κ) ds) → ⊥)
  whole-leaves cs e n = (
    (λ h ds r l. h ((whole_takes cs e n).1 (record { by = ds; run = r; takes = l }))),
    (λ h l. let t = (whole_takes cs e n).0 l in h t.by t.run t.takes),
  )

-- ---- against a state vector, by a rule by reaches

module _ (R : Rule ℕ) (mono : RuleMonotone R) (bs : List Block) (v : List Entry) where
  pub sorts : Sorts (steps R bs) (remote v) (order R bs (all_clients bs v) (remote v))
  sorts = sorted R mono bs (all_clients bs v) (clients-blocks bs v) (remote v)

  -- a number stands in the order exactly when some allowed order takes its block
  pub taken : (n : ℕ) → Listed n (order_of R bs v) ↔ Taking R bs (remote v) n
  unfolding order_of
  taken = whole_takes R mono bs (remote v) (order R bs (all_clients bs v) (remote v)) sorts.ends

  pub untaken : (n : ℕ) → (Listed n (order_of R bs v) → ⊥)
      ↔ ((cs : List ℕ) → Run (steps R bs) (start (remote v)) cs → Listed n (numbers_by R bs (start (remote v)) cs) → ⊥)
  unfolding order_of
  untaken = whole-leaves R mono bs (remote v) (order R bs (all_clients bs v) (remote v)) sorts.ends

  -- each number stands there once, and each is a block's
  pub taken-once : Distinct (order_of R bs v)
  unfolding order_of
  taken-once = numbers-once R bs (start (remote v)) (order R bs (all_clients bs v) (remote v)) sorts.ends.run

  pub taken-below : All (λ n. n < length bs) (order_of R bs v)
  unfolding order_of
  taken-below = numbers-below R bs (start (remote v)) (order R bs (all_clients bs v) (remote v)) sorts.ends.run
