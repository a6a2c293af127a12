-- What a diff has left of the blocks comes as far as all of them, by rules 28 and 13, from the clocks that it was made against.
use Prim.Native.Nat.{ℕ, zero, suc, ◌+◌, ◌-◌, ◌≤◌, ◌<◌}
use mathlib.Core.Path.{◌≡◌, refl, ap}
use mathlib.Core.Logic.{◌⊎◌, inl, inr}
use mathlib.Core.Bool.{Bool, true, false, ◌||◌}
use mathlib.Core.List.{List, [], ◌∷◌, map}
use native.Mathlib.Omega.{arith}
use native.Mathlib.Nat.{le_of_suc-le-suc}
use lib.Dec.{T, leb, eqb}
use lib.ListN.{length, get_or, drop, length-drop}
use lib.Seq.{get_or-drop}
use borrow.Author.Tests.{leb-true, eqb-true}
use Rattle.numbers.specs.Number.{pick}
use Rattle.block.specs.declared.Id.{Id}
use Rattle.block.specs.declared.Block.{Block}
use Rattle.block.specs.Row.{no_block}
use Rattle.kept.specs.Kept.{piece, falls, whole_piece, keep_from}
use Rattle.kept.specs.KeptInner.{rows_of}
use Rattle.sorting.specs.Steps.{start, after, Run, Ends}
use Rattle.sorting.specs.Rules.{queue, is_skip, unmet, waits, free, system, below, by_reaches}
use Rattle.sorting.specs.Rule28.{asks28}
use Rattle.sorting.specs.Rule13.{asks13}
use Rattle.sorting.specs.Named.{asks_of}
use Rattle.sorting.specs.Sorted.{steps}
use Rattle.sorting.proofs.Outcome.{Covers, no-further}
use Rattle.sorting.proofs.Rules.{or_map, unmet-mono, below-mono}
use Rattle.sorting.proofs.Rule13.{ready-13}
use Rattle.knowledge.specs.More.{AtLeast}
use Rattle.knowledge.specs.Rests.{Rest, Rests, Remains}

-- ---- one client's blocks

-- how many leading blocks fall
unfoldable fallen : ℕ → List Block → ℕ
fallen k [] = 0
fallen k (b ∷ bs) = pick (falls k b) (suc (fallen k bs)) 0

fallen-falls : (k : ℕ) (bs : List Block) (i : ℕ) → i < fallen k bs → falls k (get_or bs i no_block) ≡ true
unfolding fallen
fallen-falls k [] i h = absurd (omega arith)
fallen-falls k (b ∷ bs) i h = go (falls k b) refl i h (fallen-falls k bs)
  where
    go : (x : Bool) → falls k b ≡ x → (i : ℕ) → i < pick x (suc (fallen k bs)) 0
        → ((j : ℕ) → j < fallen k bs → falls k (get_or bs j no_block) ≡ true) → falls k (get_or (b ∷ bs) i no_block) ≡ true
    go true e zero h rec = e
    go true e (suc i) h rec = rec i (le_of_suc-le-suc h)
    go false e i h rec = absurd (omega arith)

whole-rows : (bs : List Block) → rows_of (map whole_piece bs) ≡ bs
whole-rows [] = refl
whole-rows (b ∷ bs) = ap (λ (l : List Block). b ∷ l) (whole-rows bs)

-- the others are what is kept
rows_left : (k : ℕ) (bs : List Block) → rows_of (keep_from k bs) ≡ drop (fallen k bs) bs
unfolding fallen keep_from
rows_left k [] = refl
rows_left k (b ∷ bs) = go (falls k b) (rows_left k bs)
  where
    go : (x : Bool) → rows_of (keep_from k bs) ≡ drop (fallen k bs) bs
        → rows_of (pick x (keep_from k bs) (piece b (k - b.clock) b.length.0 ∷ map whole_piece bs)) ≡ drop (pick x (suc (fallen k bs)) 0) (b ∷ bs)
    go true rec = rec
    go false rec = ap (λ (l : List Block). b ∷ l) (whole-rows bs)

module _ (c k : ℕ) where
  none-rests : Rest c k no_block no_block
  none-rests = record { kind = refl; end = refl; start = inl refl; waits = λ met t. t }

  rests-at : (bs es : List Block) → Rests c k bs es → (i : ℕ) → Rest c k (get_or bs i no_block) (get_or es i no_block)
  unfolding Rests
  rests-at [] [] r i = none-rests
  rests-at [] (e ∷ es) r i = absurd r
  rests-at (b ∷ bs) [] r i = absurd r
  rests-at (b ∷ bs) (e ∷ es) r zero = r.0
  rests-at (b ∷ bs) (e ∷ es) r (suc i) = rests-at bs es r.1 i

  rests-length : (bs es : List Block) → Rests c k bs es → length bs ≡ length es
  unfolding Rests
  rests-length [] [] r = refl
  rests-length [] (e ∷ es) r = absurd r
  rests-length (b ∷ bs) [] r = absurd r
  rests-length (b ∷ bs) (e ∷ es) r = omega (arith, rests-length bs es r.1)

  remains-at : (bs es : List Block) → Remains c k bs es → (i j : ℕ) → i ≡ fallen k bs + j → Rest c k (get_or bs i no_block) (get_or es j no_block)
  remains-at bs es r i j p =
      rw (p, ← (get_or-drop (fallen k bs) bs j no_block), ← (rows_left k bs)) (rests-at (rows_of (keep_from k bs)) es r j)

  remains-room : (bs es : List Block) → Remains c k bs es → length bs ≤ fallen k bs + length es
  remains-room bs es r =
      omega (arith, rests-length (rows_of (keep_from k bs)) es r, ap length (rows_left k bs), length-drop (fallen k bs) bs)

-- ---- what a rule owes: where all that the diff was made against is known, what is left of a block is ready if the block is

abbrev pub StaysReady : (ℕ → Block → List Id) → Type 0
StaysReady asks = (κ : ℕ → ℕ) (c k : ℕ) (b e : Block) → k ≤ κ c → Rest c k b e
    → T (free (waits (by_reaches asks) κ c b)) → T (free (waits (by_reaches asks) κ c e))

stays-28 : StaysReady asks28
unfolding waits by_reaches asks28
stays-28 κ c k b e low r t = r.waits (below κ) t

stays-13 : StaysReady asks13
stays-13 κ c k b e low r t =
    let (ready, there) = (ready-13 κ c b).0 t in
    (ready-13 κ c e).1 (stays-28 κ c k b e low r ready, begins there r.start)
  where
    begins : b.clock ≤ κ c → (e.clock ≡ b.clock) ⊎ (e.clock ≤ k) → e.clock ≤ κ c
    begins there (inl same) = omega arith
    begins there (inr lower) = omega arith

pub stays-ready : (rule : ℕ) → StaysReady (asks_of rule)
unfolding asks_of waits by_reaches
stays-ready rule κ c k b e low r = go (eqb rule 13)
  where
    go : (x : Bool) → T (free (unmet (below κ) (pick x (asks13 c b) (asks28 c b)))) → T (free (unmet (below κ) (pick x (asks13 c e) (asks28 c e))))
    go true t = stays-13 κ c k b e low r t
    go false t = stays-28 κ c k b e low r t

-- ---- all clients

module _ (asks : ℕ → Block → List Id) (stays : StaysReady asks) (v : ℕ → ℕ) (bs es : List Block)
    (left : (c : ℕ) → Remains c (v c) (queue bs c) (queue es c)) where
  -- a block that falls makes known nothing that is not known
  old-tells : (c : ℕ) (b : Block) → falls (v c) b ≡ true → (d : ℕ) → pick (is_skip b) 0 (pick (eqb d c) (b.clock + b.length.0) 0) ≤ v d
  unfolding falls
  old-tells c b h d = go (is_skip b) h (eqb d c) refl
    where
      go : (x : Bool) → pick x true (leb (b.clock + b.length.0) (v c)) ≡ true → (y : Bool) → eqb d c ≡ y
          → pick x 0 (pick y (b.clock + b.length.0) 0) ≤ v d
      go true h y p = omega arith
      go false h true p =
          let q : d ≡ c = eqb-true d c p in
          rw q (leb-true (b.clock + b.length.0) (v c) h)
      go false h false p = omega arith

  ready-too : (κ κ' : ℕ → ℕ) → AtLeast v κ → AtLeast κ κ' → (c : ℕ) (b e : Block) → Rest c (v c) b e
      → T (is_skip b || free (waits (by_reaches asks) κ c b)) → T (is_skip e || free (waits (by_reaches asks) κ' c e))
  unfolding waits by_reaches
  ready-too κ κ' low high c b e r t =
      or_map (is_skip b) (free (unmet (below κ) (asks c b))) (is_skip e) (free (unmet (below κ') (asks c e))) (λ x. rw r.kind x)
      (λ x. stays κ' c (v c) b e (omega (arith, low c, high c)) r (unmet-mono (below κ) (below κ') (below-mono κ κ' high) (asks c b) x)) t

  tells-too : (c : ℕ) (b e : Block) → Rest c (v c) b e → (d : ℕ)
      → pick (is_skip b) 0 (pick (eqb d c) (b.clock + b.length.0) 0) ≤ pick (is_skip e) 0 (pick (eqb d c) (e.clock + e.length.0) 0)
  tells-too c b e r d = rw (r.kind, r.end) (omega arith)

  covers : Covers (steps (by_reaches asks) bs) (steps (by_reaches asks) es) v (λ c. fallen (v c) (queue bs c))
  unfolding system by_reaches
  covers = record {
    old = λ c i h. old-tells c (get_or (queue bs c) i no_block) (fallen-falls (v c) (queue bs c) i h);
    room = λ c. remains-room c (v c) (queue bs c) (queue es c) (left c);
    sooner = λ κ κ' low high c i j p.
        ready-too κ κ' low high c (get_or (queue bs c) i no_block) (get_or (queue es c) j no_block) (remains-at c (v c) (queue bs c) (queue es c) (left c) i j p);
    tells = λ c i j p.
        tells-too c (get_or (queue bs c) i no_block) (get_or (queue es c) j no_block) (remains-at c (v c) (queue bs c) (queue es c) (left c) i j p);
  }

  -- W-212: no run of all of them ends in reaches above those of a whole run of what is left
  pub no_lower : (cs ds : List ℕ) → Run (steps (by_reaches asks) bs) (start v) cs → Ends (steps (by_reaches asks) es) (start v) ds
      → AtLeast (after (steps (by_reaches asks) bs) (start v) cs).known (after (steps (by_reaches asks) es) (start v) ds).known
  no_lower cs ds r e =
      (no-further (steps (by_reaches asks) bs) (steps (by_reaches asks) es) v v (λ c. fallen (v c) (queue bs c)) covers (λ a. omega arith) cs ds r e).high
