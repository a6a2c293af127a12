-- More knowledge holds no block back: one theorem, of any two runs over the same blocks, each carried to its end, by a rule under which what is met stays met.
use Prim.Native.Nat.{ℕ, ◌≤◌}
use mathlib.Core.Path.{refl, sym, subst}
use mathlib.Core.Logic.{inl, inr}
use mathlib.Core.List.{List, [], ◌∷◌}
use native.Mathlib.Omega.{arith}
use Rattle.block.specs.declared.Block.{Block}
use Rattle.sorting.specs.Steps.{System, State, start, step, after, Takes}
use Rattle.sorting.specs.Quick.{Listed}
use Rattle.sorting.specs.Rules.{queue, Rule}
use Rattle.sorting.specs.Sorted.{steps, numbers_by}
use Rattle.sorting.proofs.Outcome.{known_up, learnt, takes-below, more-takes}
use Rattle.sorting.proofs.Rules.{RuleMonotone, system-monotone}
use Rattle.sorting.proofs.Taken.{takes-number, number-takes}
use Rattle.knowledge.specs.More.{AtLeast, Ran, known_by, NoneHeldBack}

-- a run ends knowing what it knew and what its blocks tell
known-below : {A : Type 0} (S : System A) (s : State A) (cs : List ℕ) (a : A) (m : ℕ) → s.known a ≤ m
    → ((c k : ℕ) → Takes S s cs c k → S.fact c k a ≤ m) → (after S s cs).known a ≤ m
unfolding after step Takes
known-below S s [] a m h told = h
known-below S s (c ∷ cs) a m h told =
    known-below S (step S s c) cs a m (omega (arith, told c (s.taken c) (inl (refl, refl)))) (λ d k t. told d k (inr t))

module _ {A : Type 0} (R : Rule A) (mono : RuleMonotone R) (bs : List Block) (κ κ' : A → ℕ) (more : AtLeast κ κ') {ns ms : List ℕ} (a : Ran R bs κ ns)
    (b : Ran R bs κ' ms) where
  takes : (c k : ℕ) → Takes (steps R bs) (start κ) a.run c k → Takes (steps R bs) (start κ') b.run c k
  takes = more-takes (steps R bs) (system-monotone R (queue bs) mono) κ κ' more a.run b.run a.whole.run b.whole

  told : (x : A) (c k : ℕ) → Takes (steps R bs) (start κ) a.run c k → (steps R bs).fact c k x ≤ known_by b x
  told x c k t =
      let h = takes-below (steps R bs) (start κ') b.run c k (takes c k t) in
      learnt (steps R bs) (start κ') b.run c k h.0 h.1 x

  numbers : (n : ℕ) → Listed n (numbers_by R bs (start κ) a.run) → Listed n (numbers_by R bs (start κ') b.run)
  numbers n l =
      let w = number-takes R bs (start κ) a.run n a.whole.run l in
      subst (λ (x : ℕ). Listed x (numbers_by R bs (start κ') b.run)) (sym w.is)
      (takes-number R bs (start κ') b.run w.c w.k (takes w.c w.k w.takes))

  -- W-212
  pub more-knowledge : NoneHeldBack a b
  more-knowledge = record {
    taken = λ n l. subst (Listed n) (sym b.order) (numbers n (subst (Listed n) a.order l));
    known = λ x. known-below (steps R bs) (start κ) a.run x (known_by b x) (omega (arith, more x, known_up (steps R bs) (start κ') b.run x)) (told x);
  }
