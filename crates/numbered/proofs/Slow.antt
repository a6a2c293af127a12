-- Two systems that may make the same steps sweep alike. So sorting by held ids slowly and sorting the numbered blocks by reaches slowly, from nothing, make the
-- same steps (W-211).
use mathlib.Core.Path.{◌≡◌, refl, sym, ap, subst, ◌∙◌}
use mathlib.Core.Bool.{Bool, true, false}
use mathlib.Core.List.{List, [], ◌∷◌, ◌++◌}
use Prim.Native.Nat.{ℕ, zero, suc, ◌-◌, ◌≤◌, ◌<◌}
use lib.Dec.{ltb}
use lib.ListN.{length, get_or}
use Rattle.numbers.specs.Number.{pick}
use Rattle.numbers.specs.Limits.{max_blocks}
use Rattle.block.specs.declared.Id.{Id}
use Rattle.block.specs.declared.Block.{Block}
use Rattle.kept.specs.Kept.{remote}
use Rattle.readings.specs.SoundInner.{Ordered}
use Rattle.sorting.specs.Steps.{System, State, start, can, step, after}
use Rattle.sorting.specs.Quick.{remaining}
use Rattle.sorting.specs.Rules.{queue}
use Rattle.sorting.specs.Rule28Inner.{rule28}
use Rattle.sorting.specs.Sorted.{block_numbers_from, numbers_by}
use Rattle.sorting.specs.Slow.{lowest_first, again, fronts, drain, sweep, sweeps, slow, slow_steps, slow_order_of}
use Rattle.sorting.specs.Held.{rule_held, owners}
use Rattle.sorting.proofs.Quick.{after-append}
use Rattle.sorting.proofs.HeldReaches.{numbers-same}
use Rattle.sorting.proofs.Alike.{Alike, Matched}
use Rattle.numbered.specs.Numbered.{holder, numbered_from}
use Rattle.numbered.proofs.Blocks.{numbered-clients, numbered-numbers}
use Rattle.numbered.proofs.Numbered.{alike, begun}

-- ---- any two systems that are alike, whatever their steps are

module _ {A B : Type 0} {S : System A} {U : System B} {P : State A → ℕ → Type 0} {Like : State A → State B → Type 0} (same : Alike S U P Like)
    (any : (s : State A) (c : ℕ) → P s c) where
  abbrev One : State A → State B → List ℕ → List ℕ → Type 0
  One s u cs ds = Matched same s u cs ds

  -- steps, and others after them
  on_same : (s : State A) (u : State B) (cs ds es fs : List ℕ) → One s u cs ds → One (after S s cs) (after U u ds) es fs → One s u (cs ++ es) (ds ++ fs)
  on_same s u cs ds es fs m k = record {
    one = λ i. m.one i ++ k.one i;
    ends = rw (after-append S s cs es, after-append U u ds fs) k.ends;
  }

  fronts-same : (k : ℕ) (s : State A) (u : State B) → Like s u → (c : ℕ) → One s u (fronts S k s c) (fronts U k u c)
  unfolding fronts after
  fronts-same zero s u l c = record { one = refl; ends = l }
  fronts-same (suc k) s u l c = rw (← (same.same s u l c)) (go (can S s c) refl (λ h. fronts-same k (step S s c) (step U u c) h c))
    where
      go : (x : Bool) → can S s c ≡ x
          → (Like (step S s c) (step U u c) → One (step S s c) (step U u c) (fronts S k (step S s c) c) (fronts U k (step U u c) c))
          → One s u (pick x (c ∷ fronts S k (step S s c) c) []) (pick x (c ∷ fronts U k (step U u c) c) [])
      go true e rec =
          let m = rec (same.goes s u l c (rw e tt) (any s c)) in
          record { one = ap (λ (ds : List ℕ). c ∷ ds) m.one; ends = m.ends }
      go false e rec = record { one = refl; ends = l }

  drain-same : (s : State A) (u : State B) → Like s u → (c : ℕ) → One s u (drain S s c) (drain U u c)
  unfolding drain
  drain-same s u l c = rw (← (same.size c), ← (same.taken s u l c)) (fronts-same (S.size c - s.taken c) s u l c)

  sweep-same : (cs : List ℕ) (s : State A) (u : State B) → Like s u → One s u (sweep S s cs) (sweep U u cs)
  unfolding sweep after
  sweep-same [] s u l = record { one = refl; ends = l }
  sweep-same (c ∷ cs) s u l =
      let m = drain-same s u l c in
      on_same s u (drain S s c) (drain U u c) (sweep S (after S s (drain S s c)) cs) (sweep U (after U u (drain U u c)) cs) m
      (sweep-same cs (after S s (drain S s c)) (after U u (drain U u c)) m.ends)

  sweeps-same : (k : ℕ) (cs : List ℕ) (s : State A) (u : State B) → Like s u → One s u (sweeps S k cs s) (sweeps U k cs u)
  unfolding sweeps after
  sweeps-same zero cs s u l = record { one = refl; ends = l }
  sweeps-same (suc k) cs s u l =
      let m = sweep-same cs s u l in
      subst (λ (x : List ℕ). One s u (again (sweep S s cs) (λ t. sweeps S k cs (after S s t))) (again x (λ t. sweeps U k cs (after U u t)))) m.one
      (go (sweep S s cs) (subst (λ (x : List ℕ). Like (after S s (sweep S s cs)) (after U u x)) (sym m.one) m.ends) (sweeps-same k cs))
    where
      go : (x : List ℕ) → Like (after S s x) (after U u x) → ((s : State A) (u : State B) → Like s u → One s u (sweeps S k cs s) (sweeps U k cs u))
          → One s u (again x (λ t. sweeps S k cs (after S s t))) (again x (λ t. sweeps U k cs (after U u t)))
      go [] e rec = record { one = refl; ends = l }
      go (c ∷ x) e rec =
          on_same s u (c ∷ x) (c ∷ x) (sweeps S k cs (after S s (c ∷ x))) (sweeps U k cs (after U u (c ∷ x))) (record { one = refl; ends = e })
          (rec (after S s (c ∷ x)) (after U u (c ∷ x)) e)

  left-same : (cs : List ℕ) (s : State A) (u : State B) → Like s u → remaining S s cs ≡ remaining U u cs
  unfolding remaining
  left-same [] s u l = refl
  left-same (c ∷ cs) s u l = rw (same.size c, same.taken s u l c, left-same cs s u l) refl

  pub slow-same : (cs : List ℕ) (s : State A) (u : State B) → Like s u → One s u (slow S cs s) (slow U cs u)
  unfolding slow
  slow-same cs s u l = rw (← (left-same cs s u l)) (sweeps-same (suc (remaining S s cs)) (lowest_first cs) s u l)

-- ---- held ids, and numbers

module _ (bs : List Block) (ordered : Ordered bs) (few : length bs ≤ max_blocks) (κ : Id → ℕ)
    (gone : Id → Bool) (gone-is : (d : Id) → gone d ≡ ltb 0 (κ d))
    (place : Id → ℕ) (place_is : (d : Id) → place d ≡ holder (queue bs d.client) d.clock)
    (first : ℕ → ℕ) (firsts : (c : ℕ) → 0 < length (queue bs c) → first c ≡ get_or (block_numbers_from 0 bs c) 0 0) where
  abbrev ns : List Block
  ns = numbered_from gone place first 0 bs

  one-order : slow_steps rule_held bs (owners bs) κ ≡ slow_steps rule28 ns (owners bs) (remote [])
  unfolding slow_steps
  one-order =
      (slow-same (alike bs ordered few κ gone gone-is place place_is first firsts) (λ s c. tt) (owners bs) (start κ) (start (remote []))
      (begun bs ordered few κ gone gone-is place place_is first firsts)).one

  pub same-slow-order : numbers_by rule_held bs (start κ) (slow_steps rule_held bs (owners bs) κ) ≡ slow_order_of rule28 ns []
  unfolding slow_order_of
  same-slow-order = rw (numbered-clients gone place first bs [])
      (numbers-same rule_held rule28 bs ns (λ c. sym (numbered-numbers gone place first 0 0 bs c)) (start κ) (start (remote [])) (λ c. refl)
      (slow_steps rule_held bs (owners bs) κ)
      ∙ ap (numbers_by rule28 ns (start (remote []))) one-order)
