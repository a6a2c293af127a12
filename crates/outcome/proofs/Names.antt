-- The clients that are reported: no more than blocks have groups and a vector has entries; where there is room for them, they are the slots'.
use mathlib.Core.Path.{◌≡◌, refl, ap, ◌∙◌}
use mathlib.Core.Bool.{Bool, true, false}
use mathlib.Core.List.{List, [], ◌∷◌, map}
use Prim.Native.Nat.{ℕ, suc, ◌+◌, ◌≤◌, ◌<◌}
use native.Mathlib.Omega.{arith}
use lib.Dec.{ltb, eqb}
use lib.ListN.{length, length-map}
use borrow.Author.Tests.{ltb-true, ltb-false, lt-ltb, le-ltb, eqb-true, eqb-false, eq-eqb}
use Rattle.numbers.specs.Number.{pick}
use Rattle.block.specs.declared.Block.{Block}
use Rattle.vector.specs.Vector.{Entry, clients_in}
use Rattle.readings.specs.Sound.{owner}
use Rattle.readings.specs.Groups.{groups, join}
use Rattle.readings.proofs.Groups.{two}
use Rattle.slots.specs.Slots.{Slot, noted, named, noted_in, named_in, noted_all, named_all}
use Rattle.slots.proofs.Notes.{noted-in-room, named-in-room}
use Rattle.slots.proofs.Clients.{clients_of, noted-clients, named-clients, noted-all-clients, named-all-clients}
use Rattle.sorting.specs.Sorted.{insert, insert_all, all_clients}

-- the two tests that say whether c goes after d, is d, or goes before it
pub ways : (P : Bool → Bool → Type 0) (c d : ℕ) → (c < d → (y : Bool) → P true y) → (c ≡ d → P false true) → (d < c → P false false) → P (ltb c d) (eqb c d)
ways P c d after same before = go (ltb c d) refl (eqb c d) refl
  where
    go : (x : Bool) → ltb c d ≡ x → (y : Bool) → eqb c d ≡ y → P x y
    go true e y f = after (ltb-true c d e) y
    go false e true f = same (eqb-true c d f)
    go false e false f =
        let h = ltb-false c d e in
        let n = eqb-false c d f in
        before (omega (arith, n))

-- ---- how many clients there are

insert-length : (c : ℕ) (ds : List ℕ) → (length ds ≤ length (insert c ds)) × (length (insert c ds) ≤ suc (length ds))
unfolding insert
insert-length c [] = (omega arith, omega arith)
insert-length c (d ∷ ds) =
    let (lo, hi) = insert-length c ds in
    ways (λ x y.
    (suc (length ds) ≤ length (pick x (d ∷ insert c ds) (pick y (d ∷ ds) (c ∷ (d ∷ ds)))))
    × (length (pick x (d ∷ insert c ds) (pick y (d ∷ ds) (c ∷ (d ∷ ds)))) ≤ suc (suc (length ds)))) c d
    (λ h y. (omega arith, omega arith)) (λ e. (omega arith, omega arith)) (λ h. (omega arith, omega arith))

-- a client that is there comes to nothing
insert-twice : (c : ℕ) (ds : List ℕ) → insert c (insert c ds) ≡ insert c ds
unfolding insert
insert-twice c [] = rw (le-ltb c c (omega arith), eq-eqb c c refl) refl
insert-twice c (d ∷ ds) =
    ways (λ x y. insert c (pick x (d ∷ insert c ds) (pick y (d ∷ ds) (c ∷ (d ∷ ds)))) ≡ pick x (d ∷ insert c ds) (pick y (d ∷ ds) (c ∷ (d ∷ ds)))) c d
    (λ h y. rw (lt-ltb c d h) (ap (λ (l : List ℕ). d ∷ l) (insert-twice c ds)))
    (λ e. rw (le-ltb c d (omega arith), eq-eqb c d e) refl)
    (λ h. rw (le-ltb c c (omega arith), eq-eqb c c refl) refl)

insert_all-longer : (cs ds : List ℕ) → length ds ≤ length (insert_all cs ds)
unfolding insert_all
insert_all-longer [] ds = omega arith
insert_all-longer (c ∷ cs) ds = omega (arith, (insert-length c ds).0, insert_all-longer cs (insert c ds))

insert_all-most : (cs ds : List ℕ) → length (insert_all cs ds) ≤ length cs + length ds
unfolding insert_all
insert_all-most [] ds = omega arith
insert_all-most (c ∷ cs) ds = omega (arith, (insert-length c ds).1, insert_all-most cs (insert c ds))

-- no more than blocks have groups
owners-most : (bs : List Block) (ds : List ℕ) → length (insert_all (map owner bs) ds) ≤ length (groups owner bs) + length ds
unfolding insert_all groups join
owners-most [] ds = omega arith
owners-most (b ∷ []) ds = omega (arith, (insert-length b.client ds).1)
owners-most (a ∷ (b ∷ bs)) ds = go (owners-most (b ∷ bs))
  where
    go : ((es : List ℕ) → length (insert_all (map owner (b ∷ bs)) es) ≤ length (groups owner (b ∷ bs)) + length es)
        → length (insert_all (map owner (b ∷ bs)) (insert a.client ds)) ≤ length (groups owner (a ∷ (b ∷ bs))) + length ds
    go rec =
        two owner (λ (hs : List (List Block)). length (insert_all (map owner (b ∷ bs)) (insert a.client ds)) ≤ length hs + length ds) a b bs
        (λ g gs is e.
        let once : insert b.client (insert a.client ds) ≡ insert b.client ds =
        ap (λ (c : ℕ). insert b.client (insert c ds)) e ∙ insert-twice b.client ds in
        omega (arith, ap (λ (l : List ℕ). length (insert_all (map owner bs) l)) once, ap length is, rec ds))
        (λ n. omega (arith, (insert-length a.client ds).1, rec (insert a.client ds)))

pub clients-most : (bs : List Block) (v : List Entry) → length (all_clients bs v) ≤ length (groups owner bs) + length v
unfolding all_clients
clients-most bs v =
    omega (
      arith,
      insert_all-most (clients_in v) (insert_all (map owner bs) []),
      length-map v (λ (e : Entry). e.client),
      owners-most bs [],
    )

-- ---- the clients of slots

insert-none : (c : ℕ) → insert c [] ≡ c ∷ []
unfolding insert
insert-none c = refl

insert-some : (c d : ℕ) (ds : List ℕ) → insert c (d ∷ ds) ≡ pick (ltb c d) (d ∷ insert c ds) (pick (eqb c d) (d ∷ ds) (c ∷ (d ∷ ds)))
unfolding insert
insert-some c d ds = refl

insert_all-none : (ds : List ℕ) → insert_all [] ds ≡ ds
unfolding insert_all
insert_all-none ds = refl

insert_all-some : (c : ℕ) (cs ds : List ℕ) → insert_all (c ∷ cs) ds ≡ insert_all cs (insert c ds)
unfolding insert_all
insert_all-some c cs ds = refl

pub noted-names : (c i : ℕ) (ss : List Slot) → clients_of (noted c i ss) ≡ insert c (clients_of ss)
noted-names = noted-clients insert insert-none insert-some

pub named-names : (c : ℕ) (ss : List Slot) → clients_of (named c ss) ≡ insert c (clients_of ss)
named-names = named-clients insert insert-none insert-some

-- a block noted or a client named has room, if all that come have
pub noted-has-room : (most c i : ℕ) (cs : List ℕ) (ss : List Slot) → length (insert_all cs (clients_of (noted c i ss))) ≤ most → noted_in most c i ss ≡ noted c i ss
noted-has-room most c i cs ss h =
    noted-in-room most c ss i (omega (arith, length-map (noted c i ss) (λ (s : Slot). s.client), insert_all-longer cs (clients_of (noted c i ss))))

pub named-has-room : (most c : ℕ) (cs : List ℕ) (ss : List Slot) → length (insert_all cs (clients_of (named c ss))) ≤ most → named_in most c ss ≡ named c ss
named-has-room most c cs ss h =
    named-in-room most c ss (omega (arith, length-map (named c ss) (λ (s : Slot). s.client), insert_all-longer cs (clients_of (named c ss))))

-- so with room for all clients that are reported, these are the slots'
module _ (bs : List Block) (v : List Entry) (most : ℕ) (room : length (all_clients bs v) ≤ most) where
  pub owners-fit : length (insert_all (map owner bs) []) ≤ most
  unfolding all_clients
  owners-fit = omega (arith, insert_all-longer (clients_in v) (insert_all (map owner bs) []), room)

  pub owners-names : clients_of (noted_all most 0 bs []) ≡ insert_all (map owner bs) []
  owners-names = noted-all-clients insert insert-none insert-some insert_all insert_all-none insert_all-some most 0 bs [] owners-fit

  pub entries_fit : length (insert_all (clients_in v) (clients_of (noted_all most 0 bs []))) ≤ most
  unfolding all_clients
  entries_fit = rw owners-names room

  pub slots-names : clients_of (named_all most (clients_in v) (noted_all most 0 bs [])) ≡ all_clients bs v
  unfolding all_clients
  slots-names =
      named-all-clients insert insert-none insert-some insert_all insert_all-none insert_all-some most (clients_in v) (noted_all most 0 bs []) entries_fit
      ∙ ap (insert_all (clients_in v)) owners-names
