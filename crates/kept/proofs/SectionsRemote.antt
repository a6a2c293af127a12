-- Which clocks of the other side count, and what is kept where it has everything, or nothing.
use Prim.Native.Nat.{ℕ, ◌+◌, ◌-◌, ◌≤◌}
use mathlib.Core.Path.{◌≡◌, refl, ap, ap₂, subst}
use mathlib.Core.Bool.{Bool, true, false}
use mathlib.Core.List.{List, [], ◌∷◌, map}
use native.Mathlib.Omega.{arith}
use lib.Dec.{leb, eqb}
use borrow.Author.Tests.{leb-true, le-leb, eqb-true, eqb-false}
use Rattle.numbers.specs.Number.{pick}
use Rattle.block.specs.declared.Block.{Block}
use Rattle.block.specs.Kinds.{is_skip}
use Rattle.vector.specs.Vector.{Entry}
use Rattle.readings.specs.Sound.{All}
use Rattle.readings.specs.Groups.{groups}
use Rattle.readings.specs.GroupsInner.{Single}
use Rattle.readings.proofs.Groups.{groups-all, groups-single}
use Rattle.kept.specs.Kept.{Section, remote, falls, piece, whole_piece, keep_from, with_pieces, keep_each, falling, client_of, sections_of}
use Rattle.kept.specs.KeptInner.{without_lead, whole_each}

-- ---- only the clocks of clients that have blocks count

keep_same : (v v' : List Entry) (gs : List (List Block)) → All (All (λ (b : Block). remote v b.client ≡ remote v' b.client)) gs
    → keep_each v gs ≡ keep_each v' gs
unfolding keep_each
keep_same v v' [] h = refl
keep_same v v' ([] ∷ gs) h = keep_same v v' gs h.1
keep_same v v' ((b ∷ g) ∷ gs) h =
    ap₂ (λ (k : ℕ) (ss : List Section). with_pieces b.client (keep_from k (b ∷ g)) ss) h.0.0 (keep_same v v' gs h.1)

pub same-remote : (v v' : List Entry) (bs : List Block) → All (λ (b : Block). remote v b.client ≡ remote v' b.client) bs
    → sections_of v bs ≡ sections_of v' bs
unfolding sections_of
same-remote v v' bs h = ap falling (keep_same v v' (groups client_of bs) (groups-all client_of _ bs h))

-- ---- the other side has everything

ended-falls : (k : ℕ) (b : Block) → b.clock + b.length.0 ≤ k → falls k b ≡ true
unfolding falls
ended-falls k b l = go (is_skip b.kind)
  where
    go : (t : Bool) → pick t true (leb (b.clock + b.length.0) k) ≡ true
    go true = refl
    go false = le-leb (b.clock + b.length.0) k l

keep-none : (k : ℕ) (g : List Block) → All (λ (b : Block). b.clock + b.length.0 ≤ k) g → keep_from k g ≡ []
unfolding keep_from
keep-none k [] h = refl
keep-none k (b ∷ g) h = rw (ended-falls k b h.0) (keep-none k g h.1)

abbrev Has : List Entry → Block → Type 0
Has v b = b.clock + b.length.0 ≤ remote v b.client

each_none : (v : List Entry) (gs : List (List Block)) → All (Single client_of) gs → All (All (Has v)) gs → keep_each v gs ≡ []
unfolding keep_each Single with_pieces
each_none v [] one h = refl
each_none v ([] ∷ gs) one h = each_none v gs one.1 h.1
each_none v ((b ∷ g) ∷ gs) one h =
    rw (keep-none (remote v b.client) (b ∷ g) (h.0.0, of-client g one.0 h.0.1)) (each_none v gs one.1 h.1)
  where
    of-client : (g : List Block) → All (λ (a : Block). a.client ≡ b.client) g → All (Has v) g
        → All (λ (a : Block). a.clock + a.length.0 ≤ remote v b.client) g
    of-client [] c h = tt
    of-client (a ∷ g) c h = (subst (λ (x : ℕ). a.clock + a.length.0 ≤ remote v x) c.0 h.0, of-client g c.1 h.1)

pub nothing-kept : (v : List Entry) (bs : List Block) → All (λ (b : Block). b.clock + b.length.0 ≤ remote v b.client) bs → sections_of v bs ≡ []
unfolding sections_of falling
nothing-kept v bs h = rw (each_none v (groups client_of bs) (groups-single client_of bs) (groups-all client_of _ bs h))

-- ---- the other side has nothing

none_below : (n : ℕ) → leb n 0 ≡ eqb n 0
none_below n = go (eqb n 0) refl
  where
    go : (t : Bool) → eqb n 0 ≡ t → leb n 0 ≡ t
    go true e = le-leb n 0 (omega (arith, eqb-true n 0 e))
    go false e = go_on (leb n 0) refl
      where
        go_on : (t : Bool) → leb n 0 ≡ t → t ≡ false
        go_on true l = absurd (eqb-false n 0 e (omega (arith, leb-true n 0 l)))
        go_on false l = refl

pub all-kept : (g : List Block) → keep_from 0 g ≡ map whole_piece (without_lead g)
unfolding keep_from without_lead falls
all-kept [] = refl
all-kept (b ∷ g) = rw (none_below (b.clock + b.length.0)) (go (all-kept g) (pick (is_skip b.kind) true (eqb (b.clock + b.length.0) 0)))
  where
    whole : 0 - b.clock ≡ 0
    whole = omega arith

    go : keep_from 0 g ≡ map whole_piece (without_lead g) → (t : Bool)
        → pick t (keep_from 0 g) (piece b (0 - b.clock) b.length.0 ∷ map whole_piece g) ≡ map whole_piece (pick t (without_lead g) (b ∷ g))
    go on true = on
    go on false = ap (λ (n : ℕ). piece b n b.length.0 ∷ map whole_piece g) whole

each-kept : (gs : List (List Block)) → keep_each [] gs ≡ whole_each gs
unfolding keep_each whole_each remote
each-kept [] = refl
each-kept ([] ∷ gs) = each-kept gs
each-kept ((b ∷ g) ∷ gs) = ap₂ (with_pieces b.client) (all-kept (b ∷ g)) (each-kept gs)

pub against-nothing : (bs : List Block) → sections_of [] bs ≡ falling (whole_each (groups client_of bs))
unfolding sections_of
against-nothing bs = ap falling (each-kept (groups client_of bs))
