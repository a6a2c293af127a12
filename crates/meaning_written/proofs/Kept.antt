-- That a diff keeps what it has always kept of blocks: sections, and pieces of blocks that go on to their ends.
use Prim.Native.Nat.{ℕ, ◌+◌, ◌-◌}
use mathlib.Core.Path.{◌≡◌, refl, ap}
use mathlib.Core.Bool.{Bool, true, false, ◌||◌}
use mathlib.Core.List.{List, [], ◌∷◌, map}
use lib.Dec.{ltb, leb, eqb}
use Rattle.numbers.specs.Number.{pick}
use Rattle.block.specs.declared.Block.{Block}
use Rattle.vector.specs.Vector.{Entry}
use Rattle.readings.specs.Groups.{groups}
use Rattle.kept.specs.Kept as kept
use Rattle.kept.specs.Kept.{Piece, piece, Section, remote, whole_piece, with_pieces, keep_each, put_section, falling, sections_of}
use Rattle.meaning.specs.Reads.{when◌then◌else◌}
use Rattle.meaning.proofs.Line.{both}
use Rattle.meaning_written.specs.Diff.{keep_from, insert_section, sections}

abbrev pub piece_of : Block × ℕ → Piece
piece_of p = piece p.0 p.1 p.0.length.0

abbrev pub section_of : ℕ × List (Block × ℕ) → Section
section_of s = record { client = s.0; pieces = map piece_of s.1 }

-- a choice that is made alike
pub alike : {A : Type 0} (b : Bool) {x x' y y' : A} → y ≡ x → y' ≡ x' → pick b y y' ≡ (when b then x else x')
alike b p q = both (λ new old. old ≡ new) b p q

pub either : (x y : Bool) → pick x true y ≡ (x || y)
either true y = refl
either false y = refl

-- ---- of one client

whole-pieces : (bs : List Block) → map whole_piece bs ≡ map piece_of (map (λ (b : Block). (b, 0)) bs)
whole-pieces [] = refl
whole-pieces (b ∷ bs) = ap (λ ps. whole_piece b ∷ ps) (whole-pieces bs)

kept_same : (k : ℕ) (bs : List Block) → kept.keep_from k bs ≡ map piece_of (keep_from k bs)
unfolding kept.keep_from kept.falls keep_from
kept_same k [] = refl
kept_same k (b ∷ bs) =
    let falls : Bool = eqb b.kind 2 || leb (b.clock + b.length.0) k in
    rw (either (eqb b.kind 2) (leb (b.clock + b.length.0) k))
    (both (λ new old. old ≡ map piece_of new) falls (kept_same k bs) (ap (λ ps. piece_of (b, k - b.clock) ∷ ps) (whole-pieces bs)))

-- ---- of all

put_same : (c : ℕ) (p : Block × ℕ) (ps : List (Block × ℕ)) (ss : List (ℕ × List (Block × ℕ)))
    → put_section (section_of (c, p ∷ ps)) (map section_of ss) ≡ map section_of (insert_section c (p ∷ ps) ss)
unfolding put_section insert_section
put_same c p ps [] = refl
put_same c p ps (s ∷ ss) = both (λ new old. old ≡ map section_of new) (ltb c s.0) (ap (λ ts. section_of s ∷ ts) (put_same c p ps ss)) refl

fallen : (c : ℕ) (ps : List (Block × ℕ)) (ss : List (ℕ × List (Block × ℕ))) (ts : List Section)
    → falling ts ≡ map section_of ss → falling (with_pieces c (map piece_of ps) ts) ≡ map section_of (insert_section c ps ss)
unfolding falling with_pieces insert_section
fallen c [] ss ts e = e
fallen c (p ∷ ps) ss ts e = rw e (put_same c p ps ss)

each-kept : (v : List Entry) (gs : List (List Block)) → falling (keep_each v gs) ≡ map section_of (sections v gs)
unfolding falling keep_each sections
each-kept v [] = refl
each-kept v ([] ∷ gs) = each-kept v gs
each-kept v ((b ∷ bs) ∷ gs) =
    let k : ℕ = remote v b.client in
    rw (kept_same k (b ∷ bs)) (fallen b.client (keep_from k (b ∷ bs)) (sections v gs) (keep_each v gs) (each-kept v gs))

pub sections-same : (v : List Entry) (bs : List Block) → sections_of v bs ≡ map section_of (sections v (groups (λ (b : Block). b.client) bs))
unfolding sections_of
sections-same v bs = each-kept v (groups (λ (b : Block). b.client) bs)
