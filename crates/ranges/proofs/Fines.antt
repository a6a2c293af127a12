-- The normal form of ranges within the limits is within them.
use mathlib.Core.Path.{◌≡◌, sym, subst}
use mathlib.Core.List.{List, [], ◌∷◌}
use Prim.Native.Nat.{ℕ, zero, suc, ◌+◌, ◌≤◌, ◌<◌}
use native.Mathlib.Omega.{arith}
use native.Mathlib.Decide.{ℕ_discrete}
use Rattle.ranges.specs.Ranges.{Range, hull, add, normal}
use Rattle.ranges.specs.TableInner.{row, rows_from, Fine, AllFine, normal_count, normalized}
use Rattle.ranges.proofs.Theory.{add-by, normal-by}
use Rattle.ranges.proofs.Flat.{normalized-rows}

abbrev Fines : List Range → Type 0
Fines [] = Unit {0}
Fines (r ∷ rs) = Fine r × Fines rs

pub hull-fine : (r q : Range) → Fine r → Fine q → Fine (hull r q)
hull-fine r q f g = record { some = omega (arith, f.some); end = omega (arith, f.end, g.end); client = f.client }

add-fine : (l : List Range) (r : Range) → Fine r → Fines l → Fines (add r l)
add-fine =
    add-by (λ r l out. Fine r → Fines l → Fines out) (λ r f g. (f, tt)) (λ r q qs f g. (f, g)) (λ r q qs out h f g. (g.0, h f g.1))
    (λ r q qs out h f g. h (hull-fine r q f g.0) g.1)

normal-fine : (l : List Range) → Fines l → Fines (normal l)
normal-fine =
    normal-by (λ l out. Fines l → Fines out) (λ f. tt) (λ r rs out h f. add-fine out r f.0 (h f.1)) (λ r rs out h f. h f.1)

rows-fine : (s : List ℕ) (n i : ℕ) → ((x : ℕ) → x < i + n → Fine (row s x)) → Fines (rows_from s i n)
unfolding rows_from
rows-fine s zero i f = tt
rows-fine s (suc n) i f = (f i (omega arith), rows-fine s n (suc i) (λ x l. f x (omega arith)))

fine-row : (s : List ℕ) (n i : ℕ) → Fines (rows_from s i n) → (x : ℕ) → i ≤ x → x < i + n → Fine (row s x)
unfolding rows_from
fine-row s zero i f x a b = absurd (omega arith)
fine-row s (suc n) i f x a b = go (ℕ_discrete i x) (λ l. fine-row s n (suc i) f.1 x l (omega arith))
  where
    go : Dec (i ≡ x) → (suc i ≤ x → Fine (row s x)) → Fine (row s x)
    go (yes e) rec = subst (λ y. Fine (row s y)) e f.0
    go (no e) rec = rec (omega (arith, e))

pub normalized-fine : (s : List ℕ) (n : ℕ) → AllFine s n → AllFine (normalized s n) (normal_count s n)
unfolding AllFine
normalized-fine s n f x h =
    fine-row (normalized s n) (normal_count s n) 0
    (subst Fines (sym (normalized-rows s n)) (normal-fine (rows_from s 0 n) (rows-fine s n 0 (λ x l. f x (omega arith)))))
    x (omega arith) (omega arith)
