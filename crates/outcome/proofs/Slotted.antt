-- The slots of an update's blocks and of a vector: noted block by block, then named, they are those of the clients that are reported.
use mathlib.Core.Path.{◌≡◌, refl, sym, ap, subst, ◌∙◌}
use mathlib.Core.Logic.{◌≢◌}
use mathlib.Core.Bool.{true, false, false≢true}
use mathlib.Core.List.{List, [], ◌∷◌, map}
use Prim.Native.Nat.{ℕ, zero, suc, ◌+◌, ◌*◌, ◌≤◌, ◌<◌}
use native.Mathlib.Omega.{arith}
use lib.ListN.{length, length-map, get_or}
use borrow.Author.Tests.{lt-ltb}
use Rattle.numbers.specs.Number.{pick}
use Rattle.numbers.specs.Limits.{max_clients, max_blocks}
use Rattle.block.specs.declared.Block.{Block}
use Rattle.vector.specs.Vector.{Entry, clients_in}
use Rattle.readings.specs.Sound.{owner, All}
use Rattle.readings.specs.Groups.{groups}
use Rattle.readings.proofs.Groups.{all_map}
use Rattle.slots.specs.Slots.{Slot, slot, is_named, more, noted, named, noted_all, named_all, Lower, Falling}
use Rattle.slots.proofs.Puts.{put}
use Rattle.slots.proofs.Notes.{counted, same, noted-put, named_put, noted-falling, named-falling, noted-named, named-named, noted-others, named-others}
use Rattle.slots.proofs.Clients.{clients_of}
use Rattle.sorting.specs.Rules.{queue}
use Rattle.sorting.specs.Sorted.{insert_all, all_clients, block_numbers_from}
use Rattle.sorting.proofs.Numbers.{one_more}
use Rattle.outcome.specs.Tie.{slot_of, Slotted}
use Rattle.outcome.proofs.Names.{ways, clients-most, noted-names, named-names, noted-has-room, named-has-room, owners-fit, entries_fit, slots-names}

-- ---- what all slots have, with one more

all-below : (P Q : Slot → Type 0) (d : ℕ) (ss : List Slot) → ((s : Slot) → s.client < d → P s → Q s) → Lower d ss → Falling ss → All P ss → All Q ss
unfolding Lower Falling
all-below P Q d [] to l f all = tt
all-below P Q d (s ∷ ss) to l f all = (to s l all.0, all-below P Q s.client ss (λ t h. to t (omega arith)) f.0 f.1 all.1)

module _ (f : Slot → Slot) (x : Slot) (P Q : Slot → Type 0) (other : (s : Slot) → s.client ≢ x.client → P s → Q s)
    (same : (s : Slot) → x.client ≡ s.client → P s → Q (f s)) where
  put_all : (ss : List Slot) → Falling ss → (is_named x.client ss ≡ false → Q x) → All P ss → All Q (put f x ss)
  unfolding put is_named Falling
  put_all [] l new all = (new refl, tt)
  put_all (s ∷ ss) l new all =
      ways (λ a b. (pick a (is_named x.client ss) b ≡ false → Q x) → All Q (pick a (s ∷ put f x ss) (pick b (f s ∷ ss) (x ∷ (s ∷ ss))))) x.client s.client
      (λ h b new. (other s (λ e. omega arith) all.0, put_all ss l.1 new all.1))
      (λ e new. (same s e all.0, rest (omega arith)))
      (λ h new. (new refl, (other s (λ e. omega arith) all.0, rest (omega arith)))) new
    where
      rest : s.client ≤ x.client → All Q ss
      rest h = all-below P Q s.client ss (λ t g. other t (λ e. omega arith)) l.0 l.1 all.1

-- ---- a client's blocks among those still to come

own-more : (n : ℕ) (b : Block) (bs : List Block)
    → (length (queue (b ∷ bs) b.client) ≡ suc (length (queue bs b.client))) × (get_or (block_numbers_from n (b ∷ bs) b.client) 0 0 ≡ n)
own-more n b bs =
    one_more (λ ns q. (length q ≡ suc (length (queue bs b.client))) × (get_or ns 0 0 ≡ n)) n b bs b.client (λ e. (refl, refl)) (λ ne. absurd (ne refl))

other-more : (n : ℕ) (b : Block) (bs : List Block) (c : ℕ) → c ≢ b.client
    → (length (queue (b ∷ bs) c) ≡ length (queue bs c)) × (get_or (block_numbers_from n (b ∷ bs) c) 0 0 ≡ get_or (block_numbers_from (suc n) bs c) 0 0)
other-more n b bs c ne =
    one_more (λ ns q. (length q ≡ length (queue bs c)) × (get_or ns 0 0 ≡ get_or (block_numbers_from (suc n) bs c) 0 0)) n b bs c
    (λ e. absurd (ne (sym e))) (λ e. (refl, refl))

queue-most : (bs : List Block) (c : ℕ) → length (queue bs c) ≤ length bs
unfolding queue
queue-most [] c = omega arith
queue-most (b ∷ bs) c =
    one_more (λ ns q. length q ≤ suc (length bs)) 0 b bs c (λ e. omega (arith, queue-most bs c)) (λ e. omega (arith, queue-most bs c))

more-suc : (k : ℕ) → k < max_blocks → more k ≡ suc k
unfolding more
more-suc k h = rw (lt-ltb k max_blocks h) refl

-- ---- blocks noted one by one

-- a slot of client c, with first block i and so many of them, when these blocks are still to come
abbrev Has : List Block → List Block → ℕ → ℕ → ℕ → Type 0
Has all bs c i k = (k + length (queue bs c) ≡ length (queue all c)) × (i ≡ get_or (block_numbers_from 0 all c) 0 0)

-- slots when the blocks from number n on are still to come: a client without one has all its blocks among them
record Noting (all : List Block) (n : ℕ) (bs : List Block) (ss : List Slot) : Type 0 where
  falling : Falling ss
  has : All (λ (s : Slot). Has all bs s.client s.first s.count) ss
  lacks : (c : ℕ) → is_named c ss ≡ false → (length (queue bs c) ≡ length (queue all c)) × (get_or (block_numbers_from n bs c) 0 0 ≡ get_or (block_numbers_from 0 all c) 0 0)

-- a slot, and slots, when none is
abbrev Fits : List Block → Slot → Type 0
Fits all s = (s.count ≡ length (queue all s.client)) × (0 < s.count → s.first ≡ get_or (block_numbers_from 0 all s.client) 0 0)

record Noted (all : List Block) (ss : List Slot) : Type 0 where
  falling : Falling ss
  has : All (Fits all) ss
  lacks : (c : ℕ) → is_named c ss ≡ false → length (queue all c) ≡ 0

-- a client without a slot had none before this one had
lacked : (us ss : List Slot) (x : ℕ) → is_named x us ≡ true → ((c : ℕ) → c ≢ x → is_named c us ≡ is_named c ss) → (c : ℕ) → is_named c us ≡ false
    → (c ≢ x) × (is_named c ss ≡ false)
lacked us ss x own others c none = (differs, sym (others c differs) ∙ none)
  where
    differs : c ≢ x
    differs e = false≢true (sym none ∙ ap (λ (d : ℕ). is_named d us) e ∙ own)

module _ (all : List Block) (few : length all ≤ max_blocks) where
  module _ (n : ℕ) (b : Block) (bs : List Block) (ss : List Slot) (g : Noting all n (b ∷ bs) ss) where
    again : (s : Slot) → b.client ≡ s.client → Has all (b ∷ bs) s.client s.first s.count → Has all bs b.client s.first (more s.count)
    again s e h =
        let (count, first) = subst (λ (c : ℕ). Has all (b ∷ bs) c s.first s.count) (sym e) h in
        let own = (own-more n b bs).0 in
        (omega (arith, more-suc s.count (omega (arith, queue-most all b.client))), first)

    new : is_named b.client ss ≡ false → Has all bs b.client n 1
    new none =
        let (count, first) = g.lacks b.client none in
        let (count', first') = own-more n b bs in
        (omega arith, sym first' ∙ first)

    one-noted : Noting all (suc n) bs (noted b.client n ss)
    one-noted = record {
      falling = noted-falling b.client n ss g.falling;
      has = subst (All (λ (s : Slot). Has all bs s.client s.first s.count)) (sym (noted-put b.client n ss))
          (put_all (counted b.client) (slot b.client n 1) (λ (s : Slot). Has all (b ∷ bs) s.client s.first s.count)
          (λ (s : Slot). Has all bs s.client s.first s.count) (λ s ne h. (omega (arith, h.0, (other-more n b bs s.client ne).0), h.1))
          again ss g.falling new g.has);
      lacks = λ c none.
          let (ne, before) = lacked (noted b.client n ss) ss b.client (noted-named b.client n ss) (λ d. noted-others b.client n d ss) c none in
          let (count, first) = g.lacks c before in
          let (count', first') = other-more n b bs c ne in
          (omega arith, sym first' ∙ first);
    }

  all_noted : (n : ℕ) (ss : List Slot) → Noting all n [] ss → Noted all ss
  unfolding queue
  all_noted n ss g = record {
    falling = g.falling;
    has = all_map (λ (s : Slot). Has all [] s.client s.first s.count) (Fits all) (λ s h. (omega (arith, h.0), λ some. h.1)) ss g.has;
    lacks = λ c none. sym (g.lacks c none).0;
  }

  -- with room for all clients that come
  noting : (most n : ℕ) (bs : List Block) (ss : List Slot) → length (insert_all (map owner bs) (clients_of ss)) ≤ most → Noting all n bs ss
      → Noted all (noted_all most n bs ss)
  unfolding noted_all insert_all
  noting most n [] ss room g = all_noted n ss g
  noting most n (b ∷ bs) ss room g =
      let fits = subst (λ (l : List ℕ). length (insert_all (map owner bs) l) ≤ most) (sym (noted-names b.client n ss)) room in
      rw (noted-has-room most b.client n (map owner bs) ss fits) (noting most (suc n) bs (noted b.client n ss) fits (one-noted n b bs ss g))

-- ---- clients named one by one

one-named : (all : List Block) (c : ℕ) (ss : List Slot) → Noted all ss → Noted all (named c ss)
one-named all c ss g = record {
  falling = named-falling c ss g.falling;
  has = subst (All (Fits all)) (sym (named_put c ss))
      (put_all same (slot c 0 0) (Fits all) (Fits all) (λ s ne h. h) (λ s e h. h) ss g.falling
      (λ none. (sym (g.lacks c none), λ some. absurd (omega arith))) g.has);
  lacks = λ d none. g.lacks d (lacked (named c ss) ss c (named-named c ss) (λ e. named-others c e ss) d none).1;
}

naming : (all : List Block) (most : ℕ) (cs : List ℕ) (ss : List Slot) → length (insert_all cs (clients_of ss)) ≤ most → Noted all ss
    → Noted all (named_all most cs ss)
unfolding named_all insert_all
naming all most [] ss room g = g
naming all most (c ∷ cs) ss room g =
    let fits = subst (λ (l : List ℕ). length (insert_all cs l) ≤ most) (sym (named-names c ss)) room in
    rw (named-has-room most c cs ss fits) (naming all most cs (named c ss) fits (one-named all c ss g))

-- ---- all of them

slot-at : (P : Slot → Type 0) (ss : List Slot) (i : ℕ) → All P ss → i < length ss → P (slot_of ss i)
slot-at P [] i all h = absurd (omega arith)
slot-at P (s ∷ ss) zero all h = all.0
slot-at P (s ∷ ss) (suc i) all h = slot-at P ss i all.1 (omega arith)

-- with room for all clients that are reported
module _ (bs : List Block) (v : List Entry) (most : ℕ) (room : length (all_clients bs v) ≤ most) (few : length bs ≤ max_blocks) where
  abbrev made : List Slot
  made = named_all most (clients_in v) (noted_all most 0 bs [])

  made-noted : Noted bs made
  unfolding Falling
  made-noted =
      naming bs most (clients_in v) (noted_all most 0 bs []) (entries_fit bs v most room)
      (noting bs few most 0 bs [] (owners-fit bs v most room) (record { falling = tt; has = tt; lacks = λ c none. (refl, refl) }))

  made-slotted : Slotted bs v made
  made-slotted = record {
    falling = made-noted.falling;
    names = slots-names bs v most room;
    counts = λ i h. (slot-at (Fits bs) made i made-noted.has h).0;
    firsts = λ i h. (slot-at (Fits bs) made i made-noted.has h).1;
  }

-- which there is, with 64 clients of blocks and 64 of a vector
pub slotted : (bs : List Block) (v : List Entry) (most : ℕ) → length (groups owner bs) ≤ max_clients → length v ≤ max_clients → 2 * max_clients ≤ most
    → length bs ≤ max_blocks → Slotted bs v (named_all most (clients_in v) (noted_all most 0 bs []))
slotted bs v most owners entries room few = made-slotted bs v most (omega (arith, clients-most bs v)) few

pub slots-most : (bs : List Block) (v : List Entry) (ss : List Slot) → Slotted bs v ss → length (groups owner bs) ≤ max_clients → length v ≤ max_clients
    → length ss ≤ 2 * max_clients
slots-most bs v ss h owners entries = omega (arith, length-map ss (λ (s : Slot). s.client), ap length h.names, clients-most bs v)
