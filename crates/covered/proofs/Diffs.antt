-- The pieces that a diff keeps hold exactly the ids that the blocks cover at or above their client's remote clock.
use Prim.Native.Nat.{ℕ, ◌+◌, ◌-◌, ◌≤◌}
use mathlib.Core.Path.{◌≡◌, refl, sym, subst, ◌∙◌}
use mathlib.Core.Logic.{◌⊎◌, inl, inr}
use mathlib.Core.Bool.{Bool, true, false}
use mathlib.Core.List.{List, [], ◌∷◌, ◌++◌, map}
use native.Mathlib.Omega.{arith}
use lib.Dec.{ltb, leb, eqb}
use borrow.Author.Tests.{leb-true, eqb-true}
use Rattle.numbers.specs.Number.{pick}
use Rattle.block.specs.declared.Block.{Block}
use Rattle.vector.specs.Vector.{Entry}
use Rattle.readings.specs.Sound.{All, owner}
use Rattle.readings.specs.SoundInner.{Ordered, Chain, Adjoins}
use Rattle.readings.specs.Groups.{groups}
use Rattle.readings.specs.GroupsInner.{joined, Single}
use Rattle.readings.proofs.Groups.{groups-joined, groups-single, ordered-chains}
use Rattle.kept.specs.Kept.{Piece, piece, Section, remote, falls, whole_piece, keep_from, with_pieces, keep_each, put_section, falling, sections_of}
use Rattle.kept.proofs.SectionsKept.{not-fallen}
use Rattle.covered.specs.Covered.{Covers, Covered, Holds, Held, HeldIn, Both}

-- ---- one client's blocks, each starting where the one before ended

abbrev Client : ℕ → List Block → Type 0
Client c bs = All (λ (b : Block). b.client ≡ c) bs

-- none starts before the first
above-first : (b : Block) (bs : List Block) → Chain (b ∷ bs) → (c k : ℕ) → Covered bs c k → b.clock + b.length.0 ≤ k
unfolding Chain Adjoins
above-first b [] h c k i = absurd i
above-first b (a ∷ xs) h c k (inl i) = omega (arith, h.0.1, i.from)
above-first b (a ∷ xs) h c k (inr i) = omega (arith, h.0.1, above-first a xs h.1 c k i)

chain-rest : (b : Block) (bs : List Block) → Chain (b ∷ bs) → Chain bs
unfolding Chain
chain-rest b bs h = h.1

whole_to : (bs : List Block) (c k : ℕ) → Held (map whole_piece bs) c k → Covered bs c k
whole_to [] c k h = h
whole_to (b ∷ bs) c k (inl i) = inl (record { client = i.client; kind = i.kind; from = omega (arith, i.from); below = i.below })
whole_to (b ∷ bs) c k (inr i) = inr (whole_to bs c k i)

whole_from : (bs : List Block) (c k : ℕ) → Covered bs c k → Held (map whole_piece bs) c k
whole_from [] c k h = h
whole_from (b ∷ bs) c k (inl i) = inl (record { client = i.client; kind = i.kind; from = omega (arith, i.from); below = i.below })
whole_from (b ∷ bs) c k (inr i) = inr (whole_from bs c k i)

-- a block that falls covers nothing at r or above
fallen-none : (r : ℕ) (b : Block) (c k : ℕ) → falls r b ≡ true → r ≤ k → Covers b c k → ⊥
unfolding falls
fallen-none r b c k e l h = go (eqb b.kind 2) refl e
  where
    go : (t : Bool) → eqb b.kind 2 ≡ t → pick t true (leb (b.clock + b.length.0) r) ≡ true → ⊥
    go true q e = h.kind (eqb-true b.kind 2 q)
    go false q e = omega (arith, leb-true (b.clock + b.length.0) r e, h.below)

module _ (r : ℕ) where
  keep-to : (bs : List Block) → Chain bs → (c k : ℕ) → Held (keep_from r bs) c k → Covered bs c k × (r ≤ k)
  unfolding keep_from
  keep-to [] chain c k h = absurd h
  keep-to (b ∷ bs) chain c k h = go (keep-to bs (chain-rest b bs chain) c k) (falls r b) refl h
    where
      stays : falls r b ≡ false → Held (piece b (r - b.clock) b.length.0 ∷ map whole_piece bs) c k → Covered (b ∷ bs) c k × (r ≤ k)
      stays e (inl i) = (inl (record { client = i.client; kind = i.kind; from = omega (arith, i.from); below = i.below }), omega (arith, i.from))
      stays e (inr i) =
          let x = whole_to bs c k i in
          (inr x, omega (arith, above-first b bs chain c k x, (not-fallen r b e).end))

      go : (Held (keep_from r bs) c k → Covered bs c k × (r ≤ k)) → (t : Bool) → falls r b ≡ t
          → Held (pick t (keep_from r bs) (piece b (r - b.clock) b.length.0 ∷ map whole_piece bs)) c k → Covered (b ∷ bs) c k × (r ≤ k)
      go on true e i = let x = on i in (inr x.0, x.1)
      go on false e i = stays e i

  keep-from : (bs : List Block) (c k : ℕ) → r ≤ k → Covered bs c k → Held (keep_from r bs) c k
  unfolding keep_from
  keep-from [] c k l h = h
  keep-from (b ∷ bs) c k l h = go (keep-from bs c k l) (falls r b) refl h
    where
      first : Covers b c k → Holds (piece b (r - b.clock) b.length.0) c k
      first i = record { client = i.client; kind = i.kind; from = omega (arith, i.from); below = i.below }

      go : (Covered bs c k → Held (keep_from r bs) c k) → (t : Bool) → falls r b ≡ t → Covered (b ∷ bs) c k
          → Held (pick t (keep_from r bs) (piece b (r - b.clock) b.length.0 ∷ map whole_piece bs)) c k
      go on true e (inl i) = absurd (fallen-none r b c k e l i)
      go on true e (inr i) = on i
      go on false e (inl i) = inl (first i)
      go on false e (inr i) = inr (whole_from bs c k i)

-- ---- all clients

covered-append-to : (xs bs : List Block) (c k : ℕ) → Covered (xs ++ bs) c k → Covered xs c k ⊎ Covered bs c k
covered-append-to [] bs c k h = inr h
covered-append-to (a ∷ xs) bs c k (inl i) = inl (inl i)
covered-append-to (a ∷ xs) bs c k (inr i) = elim (covered-append-to xs bs c k i) [ inl x ↦ inl (inr x) | inr x ↦ inr x ]

covered-left : (xs bs : List Block) (c k : ℕ) → Covered xs c k → Covered (xs ++ bs) c k
covered-left [] bs c k h = absurd h
covered-left (a ∷ xs) bs c k (inl i) = inl i
covered-left (a ∷ xs) bs c k (inr i) = inr (covered-left xs bs c k i)

covered-right : (xs bs : List Block) (c k : ℕ) → Covered bs c k → Covered (xs ++ bs) c k
covered-right [] bs c k h = h
covered-right (a ∷ xs) bs c k h = inr (covered-right xs bs c k h)

with-to : (d : ℕ) (ps : List Piece) (ss : List Section) (c k : ℕ) → HeldIn (with_pieces d ps ss) c k → Held ps c k ⊎ HeldIn ss c k
unfolding with_pieces
with-to d [] ss c k h = inr h
with-to d (p ∷ ps) ss c k h = h

with-from : (d : ℕ) (ps : List Piece) (ss : List Section) (c k : ℕ) → Held ps c k ⊎ HeldIn ss c k → HeldIn (with_pieces d ps ss) c k
unfolding with_pieces
with-from d [] ss c k (inl i) = absurd i
with-from d [] ss c k (inr i) = i
with-from d (p ∷ ps) ss c k h = h

-- an id that blocks of one client cover is that client's
of-client : (d : ℕ) (bs : List Block) → Client d bs → (c k : ℕ) → Covered bs c k → d ≡ c
of-client d [] o c k h = absurd h
of-client d (b ∷ bs) o c k (inl i) = sym o.0 ∙ i.client
of-client d (b ∷ bs) o c k (inr i) = of-client d bs o.1 c k i

module _ (v : List Entry) where
  each_to : (gs : List (List Block)) → All (Single owner) gs → All Chain gs → (c k : ℕ) → HeldIn (keep_each v gs) c k
      → Covered (joined gs) c k × (remote v c ≤ k)
  unfolding keep_each joined Single
  each_to [] one chain c k h = absurd h
  each_to ([] ∷ gs) one chain c k h = each_to gs one.1 chain.1 c k h
  each_to ((b ∷ g) ∷ gs) one chain c k h =
      elim (with-to b.client (keep_from (remote v b.client) (b ∷ g)) (keep_each v gs) c k h) [
        | inl i ↦ here (keep-to (remote v b.client) (b ∷ g) chain.0 c k i)
        | inr i ↦ let x = each_to gs one.1 chain.1 c k i in (covered-right (b ∷ g) (joined gs) c k x.0, x.1)
      ]
    where
      here : Covered (b ∷ g) c k × (remote v b.client ≤ k) → Covered ((b ∷ g) ++ joined gs) c k × (remote v c ≤ k)
      here x =
          (covered-left (b ∷ g) (joined gs) c k x.0, subst (λ (d : ℕ). remote v d ≤ k) (of-client b.client (b ∷ g) (refl, one.0) c k x.0) x.1)

  each_from : (gs : List (List Block)) → All (Single owner) gs → (c k : ℕ) → remote v c ≤ k → Covered (joined gs) c k → HeldIn (keep_each v gs) c k
  unfolding keep_each joined Single
  each_from [] one c k l h = h
  each_from ([] ∷ gs) one c k l h = absurd one.0
  each_from ((b ∷ g) ∷ gs) one c k l h =
      with-from b.client (keep_from (remote v b.client) (b ∷ g)) (keep_each v gs) c k
      (elim (covered-append-to (b ∷ g) (joined gs) c k h) [ inl i ↦ inl (here i) | inr i ↦ inr (each_from gs one.1 c k l i) ])
    where
      here : Covered (b ∷ g) c k → Held (keep_from (remote v b.client) (b ∷ g)) c k
      here i =
          let same = of-client b.client (b ∷ g) (refl, one.0) c k i in
          keep-from (remote v b.client) (b ∷ g) c k (subst (λ (d : ℕ). remote v d ≤ k) (sym same) l) i

-- ---- highest client first

place-to : (s : Section) (ts : List Section) (c k : ℕ) → HeldIn (put_section s ts) c k → HeldIn (s ∷ ts) c k
unfolding put_section
place-to s [] c k h = h
place-to s (t ∷ ts) c k h = go (place-to s ts c k) (ltb s.client t.client) h
  where
    go : (HeldIn (put_section s ts) c k → HeldIn (s ∷ ts) c k) → (x : Bool) → HeldIn (pick x (t ∷ put_section s ts) (s ∷ (t ∷ ts))) c k → HeldIn (s ∷ (t ∷ ts)) c k
    go on false h = h
    go on true (inl i) = inr (inl i)
    go on true (inr i) = elim (on i) [ inl x ↦ inl x | inr x ↦ inr (inr x) ]

place-from : (s : Section) (ts : List Section) (c k : ℕ) → HeldIn (s ∷ ts) c k → HeldIn (put_section s ts) c k
unfolding put_section
place-from s [] c k h = h
place-from s (t ∷ ts) c k h = go (place-from s ts c k) (ltb s.client t.client) h
  where
    go : (HeldIn (s ∷ ts) c k → HeldIn (put_section s ts) c k) → (x : Bool) → HeldIn (s ∷ (t ∷ ts)) c k → HeldIn (pick x (t ∷ put_section s ts) (s ∷ (t ∷ ts))) c k
    go on false h = h
    go on true (inl i) = inr (on (inl i))
    go on true (inr (inl i)) = inl i
    go on true (inr (inr i)) = inr (on (inr i))

falling-to : (ss : List Section) (c k : ℕ) → HeldIn (falling ss) c k → HeldIn ss c k
unfolding falling
falling-to [] c k h = h
falling-to (s ∷ ss) c k h = elim (place-to s (falling ss) c k h) [ inl x ↦ inl x | inr x ↦ inr (falling-to ss c k x) ]

falling-from : (ss : List Section) (c k : ℕ) → HeldIn ss c k → HeldIn (falling ss) c k
unfolding falling
falling-from [] c k h = h
falling-from (s ∷ ss) c k (inl i) = place-from s (falling ss) c k (inl i)
falling-from (s ∷ ss) c k (inr i) = place-from s (falling ss) c k (inr (falling-from ss c k i))

-- ---- what a diff keeps, in ids

pub diff-keeps : (v : List Entry) (bs : List Block) → Ordered bs → (c k : ℕ)
    → Both (HeldIn (sections_of v bs) c k) (Covered bs c k × (remote v c ≤ k))
unfolding sections_of
diff-keeps v bs ordered c k =
    let one = groups-single owner bs in
    let all = groups-joined owner bs in
    record {
      to = λ h.
          let x = each_to v (groups owner bs) one (ordered-chains bs ordered) c k (falling-to (keep_each v (groups owner bs)) c k h) in
          (subst (λ (l : List Block). Covered l c k) all x.0, x.1);
      from = λ h.
          falling-from (keep_each v (groups owner bs)) c k
          (each_from v (groups owner bs) one c k h.1 (subst (λ (l : List Block). Covered l c k) (sym all) h.0));
    }
