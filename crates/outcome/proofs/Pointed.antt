-- Which front is pointed at: the first that is due, while looks are left.
use Prim.Native.Nat.{ℕ, suc, ◌<◌}
use mathlib.Core.Path.{◌≡◌, refl}
use mathlib.Core.Logic.{◌⊎◌, inl, inr}
use mathlib.Core.Bool.{Bool, true, false}
use mathlib.Core.List.{List}
use native.Mathlib.Omega.{arith}
use lib.Dec.{ltb}
use borrow.Author.Tests.{ltb-true, ltb-false, lt-ltb}
use Rattle.numbers.specs.Number.{pick}
use Rattle.picker.specs.declared.Look.{Look}
use Rattle.picker.specs.Fronts.{front_at, is_due, due_from}
use Rattle.picker.specs.Picker.{nowhere, pointed}
use Rattle.picker.proofs.FrontLaws.{due-le, due-is, due-first, due-none}

abbrev pub look : ℕ → ℕ → ℕ → ℕ → Look
look i row steps left = record { slot = i; row = row; steps = steps; left = left }

-- none of n fronts is due
abbrev pub Idle : List ℕ → List ℕ → ℕ → Type 0
Idle fronts reach n = (j : ℕ) → j < n → is_due fronts reach j ≡ false

-- front i of n is due
pub record Due (fronts reach : List ℕ) (n i : ℕ) : Type 0 where
  pub small : i < n
  pub due : is_due fronts reach i ≡ true

-- it is the first that is
pub record Chosen (fronts reach : List ℕ) (n i : ℕ) : Type 0 where
  pub here : Due fronts reach n i
  pub first : (j : ℕ) → j < i → is_due fronts reach j ≡ false

module _ (fronts reach : List ℕ) (n steps : ℕ) where
  pub pointed-zero : pointed fronts reach n steps 0 ≡ look 0 nowhere steps 0
  unfolding pointed
  pointed-zero = refl

  pub pointed-one : (k : ℕ)
      → ((i : ℕ) × (Chosen fronts reach n i) × (pointed fronts reach n steps (suc k) ≡ look i (front_at fronts i).next steps (suc k)))
      ⊎ ((Idle fronts reach n) × (pointed fronts reach n steps (suc k) ≡ look 0 nowhere steps (suc k)))
  unfolding pointed
  pointed-one k = rw (lt-ltb 0 (suc k) (omega arith)) (go (ltb (due_from fronts reach 0 n) n) refl)
    where
      p : ℕ
      p = due_from fronts reach 0 n

      go : (x : Bool) → ltb (due_from fronts reach 0 n) n ≡ x
          → ((i : ℕ) × (Chosen fronts reach n i)
          × (pick x (look p (front_at fronts p).next steps (suc k)) (look 0 nowhere steps (suc k)) ≡ look i (front_at fronts i).next steps (suc k)))
          ⊎ ((Idle fronts reach n) × (pick x (look p (front_at fronts p).next steps (suc k)) (look 0 nowhere steps (suc k)) ≡ look 0 nowhere steps (suc k)))
      go true e =
          let h = ltb-true p n e in
          inl (p, record { here = record { small = h; due = due-is fronts reach n p refl h }; first = λ j l. due-first fronts reach n p j refl l }, refl)
      go false e = inr (due-none fronts reach n (omega (arith, ltb-false p n e, due-le fronts reach n)), refl)
