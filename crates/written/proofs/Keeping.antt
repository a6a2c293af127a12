-- What a diff keeps of an update can be written in a form and read again, where it cuts inside no pair, and keeps no format of another form.
use Prim.Native.Nat.{ℕ}
use mathlib.Core.Path.{◌≡◌, refl}
use mathlib.Core.Logic.{◌⊎◌, inl, inr}
use mathlib.Core.Bool.{Bool, true, false}
use mathlib.Core.List.{List, [], ◌∷◌}
use native.Mathlib.Omega.{arith}
use lib.Dec.{eqb}
use borrow.Author.Tests.{eqb-true, eqb-false}
use Rattle.numbers.specs.Number.{pick}
use Rattle.block.specs.declared.Block.{Block}
use Rattle.grammar.specs.Course.{fit, things}
use Rattle.decoder.specs.Update.{blocks_of, delete_set}
use Rattle.vector.specs.Vector.{Entry}
use Rattle.ranges.specs.Ranges.{normal}
use Rattle.ranges.proofs.Theory.{normal-is}
use Rattle.readings.specs.Sound.{All}
use Rattle.readings.specs.SoundInner.{Sound, Valued, Adjoins, Chain}
use Rattle.readings.proofs.Sounds.{blocks-sound}
use Rattle.readings.proofs.Orders.{blocks-ordered}
use Rattle.readings.proofs.Counts.{blocks-count, blocks-groups}
use Rattle.readings.proofs.RangesFound.{normal-fine, fit-fine, range-clients}
use Rattle.kept.specs.Kept.{Piece, Section, sections_of}
use Rattle.kept.specs.KeptInner.{rows_of, Begins, Whole, Inside, Pieces, SoundSection}
use Rattle.kept.specs.Cut.{torn, any_format}
use Rattle.kept.proofs.SectionsKept.{sections-length, sections-count, sections-distinct, sections-sound}
use Rattle.written.specs.Kept.{KeptPiece, Meets, Joined, KeptSection, Kept, Clean, KeptRanges}
use Rattle.written.proofs.Rows.{sections-valued}

-- ---- a sound section whose pieces are not torn

module _ (form : ℕ) (u : List ℕ) where
  abbrev Untorn : Piece → Type 0
  Untorn p = torn u p ≡ false

  first-kept : (p : Piece) → Begins p → Sound u p.row → Valued form u p.row → Untorn p → KeptPiece form u p
  first-kept p b sound valued clean = record { sound = sound; valued = valued; ends = cut (eqb p.from 0) refl; clean = clean }
    where
      cut : (x : Bool) → eqb p.from 0 ≡ x → Whole p ⊎ Inside p
      cut true e = inl (record { from = eqb-true p.from 0 e; to = b.to })
      cut false e = inr (record { some = omega (arith, b.to, b.inside (omega (arith, eqb-false p.from 0 e))); most = omega (arith, b.to) })

  later-kept : (ps : List Piece) → All Whole ps → All (Sound u) (rows_of ps) → All (Valued form u) (rows_of ps) → All Untorn ps → All (KeptPiece form u) ps
  later-kept [] w sound valued clean = tt
  later-kept (p ∷ ps) w sound valued clean = (
    record { sound = sound.0; valued = valued.0; ends = inl w.0; clean = clean.0 },
    later-kept ps w.1 sound.1 valued.1 clean.1,
  )

  -- of all rows, and of all pieces
  of-rows : (P : Block → Type 0) (ps : List Piece) → All P (rows_of ps) → All (λ (p : Piece). P p.row) ps
  of-rows P [] h = tt
  of-rows P (p ∷ ps) h = (h.0, of-rows P ps h.1)

  -- only the first is cut, and at its start: where the rows adjoin, the pieces do
  chain-joined : (p : Piece) (ps : List Piece) → p.to ≡ p.row.length.0 → All Whole ps → Chain (rows_of (p ∷ ps)) → Joined (p ∷ ps)
  unfolding Chain Adjoins Joined Meets
  chain-joined p [] e w c = (tt, tt)
  chain-joined p (q ∷ ps) e w c = (omega (arith, c.0.1, w.0.from, e), chain-joined q ps w.0.to w.1 c.1)

  section-kept : (c : ℕ) (ps : List Piece) → SoundSection u (record { client = c; pieces = ps }) → All (Valued form u) (rows_of ps) → All Untorn ps
      → KeptSection form u (record { client = c; pieces = ps })
  unfolding Pieces
  section-kept c [] h valued clean = absurd h.pieces
  section-kept c (p ∷ ps) h valued clean =
      record {
        some = omega arith;
        each = (first-kept p h.pieces.0 h.sound.0 valued.0 clean.0, later-kept ps h.pieces.1 h.sound.1 valued.1 clean.1);
        client = of-rows (λ (b : Block). b.client ≡ c) (p ∷ ps) h.client;
        joined = chain-joined p ps h.pieces.0.to h.pieces.1 h.chain;
      }

  all-kept : (ss : List Section) → All (SoundSection u) ss → All (λ (s : Section). All (Valued form u) (rows_of s.pieces)) ss → Clean u ss
      → All (KeptSection form u) ss
  all-kept [] h valued clean = tt
  all-kept (s ∷ ss) h valued clean =
      (section-kept s.client s.pieces h.0 valued.0 clean.0, all-kept ss h.1 valued.1 clean.1)

-- ---- of an update, against any vector, to be written in the form `to`

pub kept-sections : (form to : ℕ) (u : List ℕ) (v : List Entry) → Clean u (sections_of v (things (blocks_of form u)))
    → pick (eqb form to) false (any_format (sections_of v (things (blocks_of form u)))) ≡ false → Kept to u (sections_of v (things (blocks_of form u)))
kept-sections form to u v clean same =
    let bs = things (blocks_of form u) in
    let ordered = blocks-ordered form u in
    record {
      count = omega (arith, sections-length v bs, blocks-groups form u);
      clients = sections-distinct v bs ordered;
      each = all-kept to u (sections_of v bs) (sections-sound v bs ordered u (blocks-sound form u)) (sections-valued to u form v same) clean;
      pieces = omega (arith, sections-count v bs, blocks-count form u);
    }

-- and its delete ranges, from a place on, with so many rows
pub kept-ranges : (form : ℕ) (u : List ℕ) (at n : ℕ) → KeptRanges (normal (things (fit n (delete_set form u at))))
kept-ranges form u at n =
    record {
      normal = (normal-is (things (fit n (delete_set form u at)))).0;
      fine = normal-fine (things (fit n (delete_set form u at))) (fit-fine form u at n);
      clients = range-clients form u at n;
    }
