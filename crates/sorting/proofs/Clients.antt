-- The clients that are reported: those with blocks and the vector's, each once, highest first.
use mathlib.Core.Path.{◌≡◌, refl}
use mathlib.Core.Bool.{Bool, true, false}
use mathlib.Core.List.{List, [], ◌∷◌, map}
use mathlib.Core.Logic.{◌⊎◌, inl, inr}
use Prim.Native.Nat.{ℕ, ◌<◌}
use native.Mathlib.Omega.{arith}
use lib.Dec.{ltb, eqb}
use lib.ListN.{length}
use borrow.Author.Tests.{ltb-true, ltb-false, eqb-true, eqb-false}
use Rattle.numbers.specs.Number.{pick}
use Rattle.block.specs.declared.Block.{Block}
use Rattle.vector.specs.Vector.{Entry, clients_in}
use Rattle.readings.specs.Sound.{owner}
use Rattle.sorting.specs.Quick.{Listed}
use Rattle.sorting.specs.Rules.{queue}
use Rattle.sorting.specs.Sorted.{insert, insert_all, all_clients}
use Rattle.sorting.proofs.Rules.{listed, has_some}

-- where c goes: after a higher client, nowhere if it is there, else before
insert-cases : (P : List ℕ → Type 0) (c d : ℕ) (ds : List ℕ) → (c < d → P (d ∷ insert c ds)) → (c ≡ d → P (d ∷ ds)) → (d < c → P (c ∷ (d ∷ ds)))
    → P (insert c (d ∷ ds))
unfolding insert
insert-cases P c d ds below same above = go (ltb c d) refl (eqb c d) refl
  where
    go : (x : Bool) → ltb c d ≡ x → (y : Bool) → eqb c d ≡ y → P (pick x (d ∷ insert c ds) (pick y (d ∷ ds) (c ∷ (d ∷ ds))))
    go true e y f = below (ltb-true c d e)
    go false e true f = same (eqb-true c d f)
    go false e false f =
        let h = ltb-false c d e in
        let n = eqb-false c d f in
        above (omega (arith, n))

-- ---- what is listed

pub insert-adds : (c : ℕ) (ds : List ℕ) → Listed c (insert c ds)
unfolding insert
insert-adds c [] = inl refl
insert-adds c (d ∷ ds) = insert-cases (Listed c) c d ds (λ h. inr (insert-adds c ds)) inl (λ h. inl refl)

pub insert-keeps : (c e : ℕ) (ds : List ℕ) → Listed e ds → Listed e (insert c ds)
unfolding insert
insert-keeps c e [] l = absurd l
insert-keeps c e (d ∷ ds) l = insert-cases (Listed e) c d ds (λ h. elim l [ inl p ↦ inl p | inr m ↦ inr (insert-keeps c e ds m) ]) (λ h. l) (λ h. inr l)

pub insert-only : (c e : ℕ) (ds : List ℕ) → Listed e (insert c ds) → (e ≡ c) ⊎ Listed e ds
unfolding insert
insert-only c e [] l = l
insert-only c e (d ∷ ds) l = insert-cases (λ x. Listed e x → (e ≡ c) ⊎ Listed e (d ∷ ds)) c d ds
    (λ h k. elim k [ inl p ↦ inr (inl p) | inr m ↦ go (insert-only c e ds m) ]) (λ h k. inr k) (λ h k. k) l
  where
    go : (e ≡ c) ⊎ Listed e ds → (e ≡ c) ⊎ Listed e (d ∷ ds)
    go (inl p) = inl p
    go (inr m) = inr (inr m)

pub insert_all-keeps : (cs : List ℕ) (e : ℕ) (ds : List ℕ) → Listed e ds → Listed e (insert_all cs ds)
unfolding insert_all
insert_all-keeps [] e ds l = l
insert_all-keeps (c ∷ cs) e ds l = insert_all-keeps cs e (insert c ds) (insert-keeps c e ds l)

pub insert_all-adds : (cs : List ℕ) (e : ℕ) (ds : List ℕ) → Listed e cs → Listed e (insert_all cs ds)
unfolding insert_all
insert_all-adds [] e ds l = absurd l
insert_all-adds (c ∷ cs) e ds (inl p) = insert_all-keeps cs e (insert c ds) (rw p (insert-adds c ds))
insert_all-adds (c ∷ cs) e ds (inr m) = insert_all-adds cs e (insert c ds) m

pub insert_all-only : (cs : List ℕ) (e : ℕ) (ds : List ℕ) → Listed e (insert_all cs ds) → Listed e cs ⊎ Listed e ds
unfolding insert_all
insert_all-only [] e ds l = inr l
insert_all-only (c ∷ cs) e ds l = go (insert_all-only cs e (insert c ds) l)
  where
    go : Listed e cs ⊎ Listed e (insert c ds) → Listed e (c ∷ cs) ⊎ Listed e ds
    go (inl m) = inl (inr m)
    go (inr m) = elim (insert-only c e ds m) [ inl p ↦ inl (inl p) | inr k ↦ inr k ]

pub clients-blocks : (bs : List Block) (v : List Entry) (c : ℕ) → 0 < length (queue bs c) → Listed c (all_clients bs v)
unfolding all_clients
clients-blocks bs v c h = insert_all-keeps (clients_in v) c (insert_all (map owner bs) []) (insert_all-adds (map owner bs) c [] (listed bs c h))

pub clients-vector : (bs : List Block) (v : List Entry) (c : ℕ) → Listed c (clients_in v) → Listed c (all_clients bs v)
unfolding all_clients
clients-vector bs v c l = insert_all-adds (clients_in v) c (insert_all (map owner bs) []) l

pub clients-only : (bs : List Block) (v : List Entry) (c : ℕ) → Listed c (all_clients bs v) → (0 < length (queue bs c)) ⊎ Listed c (clients_in v)
unfolding all_clients
clients-only bs v c l = go (insert_all-only (clients_in v) c (insert_all (map owner bs) []) l)
  where
    go : Listed c (clients_in v) ⊎ Listed c (insert_all (map owner bs) []) → (0 < length (queue bs c)) ⊎ Listed c (clients_in v)
    go (inl m) = inr m
    go (inr m) = elim (insert_all-only (map owner bs) c [] m) [ inl k ↦ inl (has_some bs c k) | inr k ↦ absurd k ]

-- ---- highest first

abbrev pub Below : ℕ → List ℕ → Type 0
Below c [] = Unit {0}
Below c (d ∷ ds) = d < c

-- each is greater than the next
abbrev pub Falls : List ℕ → Type 0
Falls [] = Unit {0}
Falls (c ∷ cs) = Below c cs × Falls cs

insert-below : (c e : ℕ) (ds : List ℕ) → c < e → Below e ds → Below e (insert c ds)
unfolding insert
insert-below c e [] h b = h
insert-below c e (d ∷ ds) h b = insert-cases (Below e) c d ds (λ g. b) (λ g. b) (λ g. h)

pub insert-falls : (c : ℕ) (ds : List ℕ) → Falls ds → Falls (insert c ds)
unfolding insert
insert-falls c [] f = (tt, tt)
insert-falls c (d ∷ ds) f = insert-cases Falls c d ds (λ h. (insert-below c d ds h f.0, insert-falls c ds f.1)) (λ h. f) (λ h. (h, f))

pub insert_all-falls : (cs ds : List ℕ) → Falls ds → Falls (insert_all cs ds)
unfolding insert_all
insert_all-falls [] ds f = f
insert_all-falls (c ∷ cs) ds f = insert_all-falls cs (insert c ds) (insert-falls c ds f)

pub clients-fall : (bs : List Block) (v : List Entry) → Falls (all_clients bs v)
unfolding all_clients
clients-fall bs v = insert_all-falls (clients_in v) (insert_all (map owner bs) []) (insert_all-falls (map owner bs) [] tt)
