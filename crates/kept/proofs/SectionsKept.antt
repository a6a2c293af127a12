-- What is kept of an update's blocks: sections of descending clients, at most one a client, each a chain of its client's blocks of which only the first is cut.
use Prim.Native.Nat.{ℕ, suc, ◌+◌, ◌-◌, ◌≤◌, ◌<◌}
use mathlib.Core.Path.{◌≡◌, refl, sym, ap, subst}
use mathlib.Core.Logic.{◌≢◌}
use mathlib.Core.Bool.{Bool, true, false}
use mathlib.Core.List.{List, [], ◌∷◌, map}
use native.Mathlib.Omega.{arith}
use lib.Dec.{leb}
use lib.ListN.{length, length-append, length-map}
use borrow.Author.Tests.{leb-false}
use Rattle.numbers.specs.Number.{pick}
use Rattle.block.specs.declared.Block.{Block}
use Rattle.block.specs.Kinds.{is_skip}
use Rattle.vector.specs.Vector.{Entry}
use Rattle.readings.specs.Sound.{All}
use Rattle.readings.specs.SoundInner.{Sound, Ordered, Chain}
use Rattle.readings.specs.Groups.{groups, Distinct}
use Rattle.readings.specs.GroupsInner.{joined, Single, clients}
use Rattle.readings.proofs.Groups.{groups-joined, groups-single, groups-all, ordered-distinct, ordered-chains}
use Rattle.kept.specs.Kept.{Piece, Section, remote, falls, piece, whole_piece, keep_from, with_pieces, keep_each, client_of, sections_of}
use Rattle.kept.specs.KeptInner.{Descends, clients_of, piece_count, rows_of, Begins, Whole, Pieces, SoundSection}
use Rattle.kept.proofs.SectionsPlaced.{falling-all, falling-length, falling-count, falling-descends, descends-distinct}

-- ---- a block that does not fall

pub record Stays (k : ℕ) (b : Block) : Type 0 where
  pub kind : is_skip b.kind ≡ false
  pub end : k < b.clock + b.length.0

pub not-fallen : (k : ℕ) (b : Block) → falls k b ≡ false → Stays k b
unfolding falls
not-fallen k b e = go (is_skip b.kind) refl e
  where
    go : (t : Bool) → is_skip b.kind ≡ t → pick t true (leb (b.clock + b.length.0) k) ≡ false → Stays k b
    go true q e = absurd (let z : ◌≡◌ {A = ℕ} 0 1 = cc in omega arith)
    go false q e = record { kind = q; end = leb-false (b.clock + b.length.0) k e }

-- it is cut by what the other side has of it
pub first-begins : (u : List ℕ) (k : ℕ) (b : Block) → Sound u b → Stays k b → Begins (piece b (k - b.clock) b.length.0)
first-begins u k b sound s =
    record {
      to = refl;
      from = omega (arith, s.end);
      inside = λ l. omega (arith, s.end);
      some = λ l. omega (arith, s.end, sound.stored.some l);
      kept = s.kind;
    }

-- ---- of one client's blocks

rows_whole : (g : List Block) → rows_of (map whole_piece g) ≡ g
rows_whole [] = refl
rows_whole (b ∷ g) = ap (λ (l : List Block). b ∷ l) (rows_whole g)

all_whole : (g : List Block) → All Whole (map whole_piece g)
all_whole [] = tt
all_whole (b ∷ g) = (record { from = refl; to = refl }, all_whole g)

-- what the rest of blocks has with them, those kept have
keep-rows : (P : List Block → Type 0) → ((b : Block) (g : List Block) → P (b ∷ g) → P g) → (k : ℕ) (g : List Block) → P g → P (rows_of (keep_from k g))
unfolding keep_from
keep-rows P rest k [] h = h
keep-rows P rest k (b ∷ g) h = go (keep-rows P rest k g (rest b g h)) (falls k b)
  where
    go : P (rows_of (keep_from k g)) → (t : Bool) → P (rows_of (pick t (keep_from k g) (piece b (k - b.clock) b.length.0 ∷ map whole_piece g)))
    go on true = on
    go on false = subst (λ (l : List Block). P (b ∷ l)) (sym (rows_whole g)) h

abbrev Held : List Piece → Type 0
Held [] = Unit {0}
Held (p ∷ ps) = Begins p × All Whole ps

keep-held : (u : List ℕ) (k : ℕ) (g : List Block) → All (Sound u) g → Held (keep_from k g)
unfolding keep_from
keep-held u k [] h = tt
keep-held u k (b ∷ g) h = go (keep-held u k g h.1) (falls k b) refl
  where
    go : Held (keep_from k g) → (t : Bool) → falls k b ≡ t → Held (pick t (keep_from k g) (piece b (k - b.clock) b.length.0 ∷ map whole_piece g))
    go on true e = on
    go on false e = (first-begins u k b h.0 (not-fallen k b e), all_whole g)

keep-count : (k : ℕ) (g : List Block) → length (keep_from k g) ≤ length g
unfolding keep_from
keep-count k [] = omega arith
keep-count k (b ∷ g) = go (keep-count k g) (falls k b)
  where
    go : length (keep_from k g) ≤ length g → (t : Bool)
        → length (pick t (keep_from k g) (piece b (k - b.clock) b.length.0 ∷ map whole_piece g)) ≤ suc (length g)
    go on true = omega arith
    go on false = omega (arith, length-map g whole_piece)

-- ---- of all clients: what pieces have, their section has

with_all : (P : Section → Type 0) (Q : List Piece → Type 0) (c : ℕ) → ((p : Piece) (ps : List Piece) → Q (p ∷ ps) → P (record { client = c; pieces = p ∷ ps }))
    → (ps : List Piece) (ss : List Section) → Q ps → All P ss → All P (with_pieces c ps ss)
unfolding with_pieces
with_all P Q c f [] ss q h = h
with_all P Q c f (p ∷ ps) ss q h = (f p ps q, h)

with-length : (c : ℕ) (ps : List Piece) (ss : List Section) → length (with_pieces c ps ss) ≤ suc (length ss)
unfolding with_pieces
with-length c [] ss = omega arith
with-length c (p ∷ ps) ss = omega arith

with-count : (c : ℕ) (ps : List Piece) (ss : List Section) → piece_count (with_pieces c ps ss) ≡ length ps + piece_count ss
unfolding with_pieces piece_count
with-count c [] ss = omega arith
with-count c (p ∷ ps) ss = refl

with-clients : (P : ℕ → Type 0) (c : ℕ) (ps : List Piece) (ss : List Section) → P c → All P (clients_of ss) → All P (clients_of (with_pieces c ps ss))
unfolding with_pieces
with-clients P c [] ss p h = h
with-clients P c (q ∷ ps) ss p h = (p, h)

with-distinct : (c : ℕ) (ps : List Piece) (ss : List Section) → All (λ (d : ℕ). d ≢ c) (clients_of ss) → Distinct (clients_of ss)
    → Distinct (clients_of (with_pieces c ps ss))
unfolding with_pieces Distinct
with-distinct c [] ss new h = h
with-distinct c (p ∷ ps) ss new h = (new, h)

module _ (v : List Entry) where
  each-length : (gs : List (List Block)) → length (keep_each v gs) ≤ length gs
  unfolding keep_each
  each-length [] = omega arith
  each-length ([] ∷ gs) = omega (arith, each-length gs)
  each-length ((b ∷ g) ∷ gs) = omega (arith, each-length gs, with-length b.client (keep_from (remote v b.client) (b ∷ g)) (keep_each v gs))

  each-count : (gs : List (List Block)) → piece_count (keep_each v gs) ≤ length (joined gs)
  unfolding keep_each joined piece_count
  each-count [] = omega arith
  each-count ([] ∷ gs) = each-count gs
  each-count ((b ∷ g) ∷ gs) =
      omega (
        arith,
        each-count gs,
        with-count b.client (keep_from (remote v b.client) (b ∷ g)) (keep_each v gs),
        keep-count (remote v b.client) (b ∷ g),
        length-append g (joined gs),
      )

  each-clients : (P : ℕ → Type 0) (gs : List (List Block)) → All P (clients client_of gs) → All P (clients_of (keep_each v gs))
  unfolding keep_each clients
  each-clients P [] h = tt
  each-clients P ([] ∷ gs) h = each-clients P gs h
  each-clients P ((b ∷ g) ∷ gs) h = with-clients P b.client (keep_from (remote v b.client) (b ∷ g)) (keep_each v gs) h.0 (each-clients P gs h.1)

  pub each-distinct : (gs : List (List Block)) → Distinct (clients client_of gs) → Distinct (clients_of (keep_each v gs))
  unfolding keep_each clients Distinct
  each-distinct [] h = tt
  each-distinct ([] ∷ gs) h = each-distinct gs h
  each-distinct ((b ∷ g) ∷ gs) h =
      with-distinct b.client (keep_from (remote v b.client) (b ∷ g)) (keep_each v gs)
      (each-clients (λ (d : ℕ). d ≢ b.client) gs h.0) (each-distinct gs h.1)

  -- what a section's pieces have
  record Has (u : List ℕ) (c : ℕ) (ps : List Piece) : Type 0 where
    pieces : Held ps
    client : All (λ (b : Block). b.client ≡ c) (rows_of ps)
    chain : Chain (rows_of ps)
    sound : All (Sound u) (rows_of ps)

  group-has : (u : List ℕ) (k : ℕ) (b : Block) (g : List Block) → Single client_of (b ∷ g) → Chain (b ∷ g) → All (Sound u) (b ∷ g)
      → Has u b.client (keep_from k (b ∷ g))
  unfolding Single Chain
  group-has u k b g single chain sound =
      record {
        pieces = keep-held u k (b ∷ g) sound;
        client = keep-rows (All (λ (d : Block). d.client ≡ b.client)) (λ a l h. h.1) k (b ∷ g) (refl, single);
        chain = keep-rows Chain (λ a l h. h.1) k (b ∷ g) chain;
        sound = keep-rows (All (Sound u)) (λ a l h. h.1) k (b ∷ g) sound;
      }

  each-sound : (u : List ℕ) (gs : List (List Block)) → All (Single client_of) gs → All Chain gs → All (All (Sound u)) gs → All (SoundSection u) (keep_each v gs)
  unfolding keep_each Pieces
  each-sound u [] single chain sound = tt
  each-sound u ([] ∷ gs) single chain sound = each-sound u gs single.1 chain.1 sound.1
  each-sound u ((b ∷ g) ∷ gs) single chain sound =
      with_all (SoundSection u) (Has u b.client) b.client
      (λ p ps h. record { pieces = h.pieces; client = h.client; chain = h.chain; sound = h.sound })
      (keep_from (remote v b.client) (b ∷ g)) (keep_each v gs) (group-has u (remote v b.client) b g single.0 chain.0 sound.0)
      (each-sound u gs single.1 chain.1 sound.1)

  -- ---- of an update's blocks

  module _ (bs : List Block) where
    pub sections-length : length (sections_of v bs) ≤ length (groups client_of bs)
    unfolding sections_of
    sections-length = omega (arith, falling-length (keep_each v (groups client_of bs)), each-length (groups client_of bs))

    pub sections-count : piece_count (sections_of v bs) ≤ length bs
    unfolding sections_of
    sections-count =
        omega (arith, falling-count (keep_each v (groups client_of bs)), each-count (groups client_of bs), ap length (groups-joined client_of bs))

    module _ (ordered : Ordered bs) where
      pub sections-descend : Descends (clients_of (sections_of v bs))
      unfolding sections_of
      sections-descend = falling-descends (keep_each v (groups client_of bs)) (each-distinct (groups client_of bs) (ordered-distinct bs ordered))

      pub sections-distinct : Distinct (clients_of (sections_of v bs))
      sections-distinct = descends-distinct (clients_of (sections_of v bs)) sections-descend

      pub sections-sound : (u : List ℕ) → All (Sound u) bs → All (SoundSection u) (sections_of v bs)
      unfolding sections_of
      sections-sound u sound =
          falling-all (SoundSection u) (keep_each v (groups client_of bs))
          (each-sound u (groups client_of bs) (groups-single client_of bs) (ordered-chains bs ordered) (groups-all client_of (Sound u) bs sound))
