-- When a step is allowed: a block is left and it is ready, which each rule says in its own words.
use Prim.Native.Nat.{ℕ}
use mathlib.Core.Path.{◌≡◌, refl}
use mathlib.Core.Logic.{◌⊎◌, inl, inr, ◌↔◌}
use mathlib.Core.Bool.{Bool, true, false, ◌||◌}
use mathlib.Core.List.{List}
use native.Mathlib.Omega.{arith}
use lib.Dec.{T}
use Rattle.block.specs.declared.Block.{Block}
use Rattle.sorting.specs.Steps.{State, can}
use Rattle.sorting.specs.Rules.{is_skip, Rule, system, waits, free}
use Rattle.sorting.specs.Rule28Inner.{rule28}
use Rattle.sorting.specs.Rule13Inner.{rule13}
use Rattle.sorting.specs.Sorted.{steps}
use Rattle.sorting.proofs.Outcome.{can-fits, can-ready, can-intro}
use Rattle.sorting.proofs.Rule28.{ready-28}
use Rattle.sorting.proofs.Rule13.{ready-13}
use Rattle.demands.specs.Allowed.{Left, front, CanIff28, CanIff13}

-- a test or another
split : (a b : Bool) → T (a || b) → (a ≡ true) ⊎ T b
split true b t = inl refl
split false b t = inr t

join : (a b : Bool) → (a ≡ true) ⊎ T b → T (a || b)
join true b h = tt
join false b h = elim h [ inl p ↦ never p | inr t ↦ t ]
  where
    never : false ≡ true → T b
    never p = let z : ◌≡◌ {A = ℕ} 0 1 = cc in absurd (omega arith)

-- a front that is left and is a Skip, or waits for nothing
can-iff : (R : Rule ℕ) (bs : List Block) (s : State ℕ) (c : ℕ)
    → T (can (steps R bs) s c) ↔ (Left bs s c × ((is_skip (front bs s c) ≡ true) ⊎ T (free (waits R s.known c (front bs s c)))))
unfolding system
can-iff R bs s c = (
  (λ t. (can-fits (steps R bs) s c t, split (is_skip (front bs s c)) (free (waits R s.known c (front bs s c))) (can-ready (steps R bs) s c t))),
  (λ h. can-intro (steps R bs) s c h.0 (join (is_skip (front bs s c)) (free (waits R s.known c (front bs s c))) h.1)),
)

-- the second of two, said otherwise
second : {A B C D : Type 0} → (C ↔ D) → (A × (B ⊎ C)) ↔ (A × (B ⊎ D))
second e = (
  (λ h. (h.0, elim h.1 [ inl b ↦ inl b | inr c ↦ inr (e.0 c) ])),
  (λ h. (h.0, elim h.1 [ inl b ↦ inl b | inr d ↦ inr (e.1 d) ])),
)

and_then : {A B C : Type 0} → (A ↔ B) → (B ↔ C) → (A ↔ C)
and_then f g = ((λ a. g.0 (f.0 a)), (λ c. f.1 (g.1 c)))

pub can-iff-28 : CanIff28
can-iff-28 bs s c = and_then (can-iff rule28 bs s c) (second (ready-28 s.known c (front bs s c)))

with-clock : {A B C : Type 0} → (A ↔ (B × C)) → {D : Type 0} → (B ↔ D) → (A ↔ (D × C))
with-clock f g = ((λ a. (g.0 (f.0 a).0, (f.0 a).1)), (λ h. f.1 (g.1 h.0, h.1)))

pub can-iff-13 : CanIff13
can-iff-13 bs s c =
    and_then (can-iff rule13 bs s c) (second (with-clock (ready-13 s.known c (front bs s c)) (ready-28 s.known c (front bs s c))))
