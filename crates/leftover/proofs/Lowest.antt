-- The lowest byte of stretches is one of theirs, and none of theirs is below it; where they have none, it is what it was.
use Prim.Native.Nat.{ℕ, ◌≤◌, ◌<◌}
use mathlib.Core.Path.{◌≡◌, refl}
use mathlib.Core.Bool.{Bool, true, false}
use mathlib.Core.Logic.{◌⊎◌, inl, inr, ⊎_elim}
use mathlib.Core.List.{List, [], ◌∷◌}
use native.Mathlib.Omega.{arith}
use lib.Dec.{ltb}
use borrow.Author.Tests.{ltb-true, ltb-false, le-ltb}
use Rattle.numbers.specs.Number.{pick}
use Rattle.leftover.specs.Leftover.{Stretch, lower, lowest}
use Rattle.leftover.specs.LeftoverInner.{Among, Spent}

-- what a stretch makes of n: n, where nothing of it is below; else its first byte
record Lowers (n : ℕ) (x : Stretch) (m : ℕ) : Type 0 where
  most : m ≤ n
  below : (p : ℕ) → x.from ≤ p → p < x.to → m ≤ p
  own : (m ≡ n) ⊎ ((m ≡ x.from) × (x.from < x.to))

lowers : (n : ℕ) (x : Stretch) → Lowers n x (lower n x)
unfolding lower
lowers n x = go (ltb x.from x.to) refl (ltb x.from n) refl
  where
    go : (a : Bool) → ltb x.from x.to ≡ a → (b : Bool) → ltb x.from n ≡ b → Lowers n x (pick a (pick b x.from n) n)
    go true e true f = record { most = omega (arith, ltb-true x.from n f); below = λ p l h. l; own = inr (refl, ltb-true x.from x.to e) }
    go true e false f = record { most = omega arith; below = λ p l h. omega (arith, ltb-false x.from n f, l); own = inl refl }
    go false e b f = record { most = omega arith; below = λ p l h. absurd (omega (arith, ltb-false x.from x.to e, l, h)); own = inl refl }

pub at_most : (n : ℕ) (xs : List Stretch) → lowest n xs ≤ n
unfolding lowest
at_most n [] = omega arith
at_most n (x ∷ xs) = omega (arith, at_most (lower n x) xs, (lowers n x).most)

-- no byte that is left lies below
pub none_below : (n : ℕ) (xs : List Stretch) (p : ℕ) → Among p xs → lowest n xs ≤ p
unfolding lowest Among
none_below n [] p x' = elim x' [ ]
none_below n (x ∷ xs) p (inl h) = omega (arith, at_most (lower n x) xs, (lowers n x).below p h.0 h.1)
none_below n (x ∷ xs) p (inr h) = none_below (lower n x) xs p h

-- and it is one of them
pub lowest-among : (n : ℕ) (xs : List Stretch) → (lowest n xs ≡ n) ⊎ Among (lowest n xs) xs
unfolding lowest Among
lowest-among n [] = inl refl
lowest-among n (x ∷ xs) = ⊎_elim same (λ h. inr (inr h)) (lowest-among (lower n x) xs)
  where
    same : lowest (lower n x) xs ≡ lower n x
        → (lowest (lower n x) xs ≡ n) ⊎ (((x.from ≤ lowest (lower n x) xs) × (lowest (lower n x) xs < x.to)) ⊎ Among (lowest (lower n x) xs) xs)
    same e = ⊎_elim (λ q. inl (omega (arith, e, q))) (λ q. inr (inl (omega (arith, e, q.0), omega (arith, e, q.0, q.1)))) (lowers n x).own

-- where nothing is left
pub spent-lowest : (n : ℕ) (xs : List Stretch) → Spent xs → lowest n xs ≡ n
unfolding lowest lower Spent
spent-lowest n [] h = refl
spent-lowest n (x ∷ xs) h = rw (le-ltb x.from x.to h.0) (spent-lowest n xs h.1)

-- and the other way: all that ends by n and begins below it has no byte
pub lowest-spent : (n : ℕ) (xs : List Stretch) → n ≤ lowest n xs → (p : ℕ) → Among p xs → n ≤ p
lowest-spent n xs h p a = omega (arith, h, none_below n xs p a)
