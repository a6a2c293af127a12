-- What all rows of an update have, those of the pieces kept have; and which formats among them are valued.
use Prim.Native.Nat.{ℕ, ◌-◌}
use mathlib.Core.Path.{◌≡◌, refl, sym, ap, subst, ◌∙◌}
use mathlib.Core.Bool.{Bool, true, false}
use mathlib.Core.List.{List, [], ◌∷◌, map}
use lib.Dec.{eqb}
use borrow.Author.Tests.{eqb-true}
use Rattle.numbers.specs.Number.{pick}
use Rattle.block.specs.declared.Block.{Block}
use Rattle.block.specs.Kinds.{FORMAT, is_format}
use Rattle.grammar.specs.Course.{things}
use Rattle.decoder.specs.Update.{blocks_of}
use Rattle.vector.specs.Vector.{Entry}
use Rattle.readings.specs.Sound.{All}
use Rattle.readings.specs.SoundInner.{Valued}
use Rattle.readings.specs.Groups.{groups}
use Rattle.readings.proofs.Columns.{clash}
use Rattle.readings.proofs.Groups.{groups-all}
use Rattle.readings.proofs.Sounds.{blocks-valued}
use Rattle.kept.specs.Kept.{Piece, Section, remote, falls, piece, whole_piece, keep_from, with_pieces, keep_each, client_of, sections_of}
use Rattle.kept.specs.KeptInner.{rows_of}
use Rattle.kept.specs.Cut.{format_in, any_format}
use Rattle.kept.proofs.SectionsPlaced.{falling-all}

-- ---- of all rows

module _ (P : Block → Type 0) where
  abbrev pub InRows : Section → Type 0
  InRows s = All P (rows_of s.pieces)

  whole-rows : (g : List Block) → All P g → All P (rows_of (map whole_piece g))
  whole-rows [] h = tt
  whole-rows (b ∷ g) h = (h.0, whole-rows g h.1)

  keep-rows : (k : ℕ) (g : List Block) → All P g → All P (rows_of (keep_from k g))
  unfolding keep_from
  keep-rows k [] h = tt
  keep-rows k (b ∷ g) h = go (keep-rows k g h.1) (falls k b)
    where
      go : All P (rows_of (keep_from k g)) → (t : Bool) → All P (rows_of (pick t (keep_from k g) (piece b (k - b.clock) b.length.0 ∷ map whole_piece g)))
      go on true = on
      go on false = (h.0, whole-rows g h.1)

  with_rows : (c : ℕ) (ps : List Piece) (ss : List Section) → All P (rows_of ps) → All InRows ss → All InRows (with_pieces c ps ss)
  unfolding with_pieces
  with_rows c [] ss q h = h
  with_rows c (p ∷ ps) ss q h = (q, h)

  each_rows : (v : List Entry) (gs : List (List Block)) → All (All P) gs → All InRows (keep_each v gs)
  unfolding keep_each
  each_rows v [] h = tt
  each_rows v ([] ∷ gs) h = each_rows v gs h.1
  each_rows v ((b ∷ g) ∷ gs) h =
      with_rows b.client (keep_from (remote v b.client) (b ∷ g)) (keep_each v gs) (keep-rows (remote v b.client) (b ∷ g) h.0) (each_rows v gs h.1)

  pub sections-rows : (v : List Entry) (bs : List Block) → All P bs → All (λ (s : Section). All P (rows_of s.pieces)) (sections_of v bs)
  unfolding sections_of
  sections-rows v bs h = falling-all InRows (keep_each v (groups client_of bs)) (each_rows v (groups client_of bs) (groups-all client_of P bs h))

-- ---- values

module _ (form : ℕ) (u : List ℕ) where
  abbrev pub AllValued : Section → Type 0
  AllValued s = All (Valued form u) (rows_of s.pieces)

  unvalued : (b : Block) → is_format b.kind ≡ false → Valued form u b
  unvalued b l =
      let no : b.kind ≡ FORMAT → true ≡ false = λ e. sym (ap (λ (k : ℕ). is_format k) e) ∙ l in
      record { text = λ e _. clash (no e); value = λ e _. clash (no e) }

  -- where no format is kept
  pieces-unvalued : (ps : List Piece) → format_in ps ≡ false → All (Valued form u) (rows_of ps)
  unfolding format_in
  pieces-unvalued [] h = tt
  pieces-unvalued (p ∷ ps) h = go (is_format p.row.kind) refl h (pieces-unvalued ps)
    where
      go : (x : Bool) → is_format p.row.kind ≡ x → pick x true (format_in ps) ≡ false → (format_in ps ≡ false → All (Valued form u) (rows_of ps))
          → All (Valued form u) (rows_of (p ∷ ps))
      go true e h more = clash h
      go false e h more = (unvalued p.row e, more h)

  sections-unvalued : (ss : List Section) → any_format ss ≡ false → All AllValued ss
  unfolding any_format
  sections-unvalued [] h = tt
  sections-unvalued (s ∷ ss) h = go (format_in s.pieces) refl h (sections-unvalued ss)
    where
      go : (x : Bool) → format_in s.pieces ≡ x → pick x true (any_format ss) ≡ false → (any_format ss ≡ false → All AllValued ss) → All AllValued (s ∷ ss)
      go true e h more = clash h
      go false e h more = (pieces-unvalued s.pieces e, more h)

  -- of an update of a form `from`: no format is kept, or it is the same form
  pub sections-valued : (from : ℕ) (v : List Entry) → pick (eqb from form) false (any_format (sections_of v (things (blocks_of from u)))) ≡ false
      → All (λ (s : Section). All (Valued form u) (rows_of s.pieces)) (sections_of v (things (blocks_of from u)))
  sections-valued from v h = go (eqb from form) refl h
    where
      go : (x : Bool) → eqb from form ≡ x → pick x false (any_format (sections_of v (things (blocks_of from u)))) ≡ false
          → All (λ (s : Section). All (Valued form u) (rows_of s.pieces)) (sections_of v (things (blocks_of from u)))
      go true e h =
          sections-rows (Valued form u) v (things (blocks_of from u))
          (subst (λ (f : ℕ). All (Valued f u) (things (blocks_of from u))) (eqb-true from form e) (blocks-valued from u))
      go false e h = sections-unvalued (sections_of v (things (blocks_of from u))) h
