-- The rows that the plan names are written as the sections that are kept.
use Prim.Native.Nat.{ℕ, suc, ◌+◌, ◌*◌, ◌≤◌, ◌<◌}
use mathlib.Core.Path.{◌≡◌, sym, ap, ap₂, ◌∙◌}
use mathlib.Core.Bool.{false}
use mathlib.Core.List.{List, [], ◌∷◌, ◌++◌, append_assoc}
use native.Mathlib.Omega.{arith}
use lib.ListN.{length, take}
use borrow.Author.Tests.{ne_eqb}
use Rattle.block.specs.declared.Block.{Block}
use Rattle.ranges.specs.Ranges.{Range}
use Rattle.vector.specs.Vector.{Entry}
use Rattle.readings.specs.Sound.{All}
use Rattle.readings.specs.SoundInner.{Sound, Ordered}
use Rattle.readings.specs.Groups.{groups}
use Rattle.parts.specs.Brim.{brim}
use Rattle.tokens.specs.Tokens.{Token, client, var}
use Rattle.kept.specs.Kept.{Piece, Section, client_of, sections_of}
use Rattle.kept.specs.KeptInner.{SoundSection, rows_of}
use Rattle.kept.specs.Cut.{cut_row, any_torn}
use Rattle.kept.specs.Plan.{Stop, Of, Opens, further, GoesOn, Goes, stops_of, planned_from}
use Rattle.kept.proofs.SectionsKept.{sections-sound}
use Rattle.kept.proofs.SectionsGoes.{row_is, PlanOf, plan-kept}
use Rattle.kept.proofs.SectionsTorn.{plan-torn}
use Rattle.records.specs.Records.{block_tokens, pieces_tokens, section_start, section_tokens, sections_tokens, delete_tokens, update_tokens}
use Rattle.records.specs.Stops.{head_tokens, row_tokens, stops_tokens}
use Rattle.records.proofs.Stops.{stop_tokens, stops-none, stops-in}
use Rattle.encoder.specs.Passes.{outcome_of, outcome_for, words_for, planned_tokens}

head_opened : (count from : ℕ) (b : Block) (n c : ℕ) → count ≡ suc n → b.client ≡ c
    → head_tokens count from b ≡ var (suc n) ∷ (client c ∷ (var (b.clock + from) ∷ []))
unfolding head_tokens
head_opened count from b n c e own =
    rw (ne_eqb count 0 (λ z. omega (arith, z, e))) (ap₂ (λ (k d : ℕ). var k ∷ (client d ∷ (var (b.clock + from) ∷ []))) e own)

-- ---- rows of a table that begins with these blocks

module _ (u : List ℕ) (bs rows : List Block) (same : take (length bs) rows ≡ bs) (fits : length bs ≤ length rows) where
  abbrev written : List Stop → List Token
  written sts = stops_tokens u rows (length rows) sts

  row_written : (st : Stop) (p : Piece) → Of u bs st p
      → stop_tokens u rows (length rows) st ≡ head_tokens st.head p.from p.row ++ block_tokens u (cut_row u p)
  unfolding row_tokens
  row_written st p of = rw (row_is bs rows same st.row of.within, of.row, of.fits, of.left, of.from)

  stop-written : (st : Stop) (sts : List Stop) (p : Piece) → Of u bs st p
      → written (st ∷ sts) ≡ (head_tokens st.head p.from p.row ++ block_tokens u (cut_row u p)) ++ written sts
  stop-written st sts p of =
      stops-in u rows (length rows) st sts (omega (arith, of.within, fits)) ∙ ap (λ (ts : List Token). ts ++ written sts) (row_written st p of)

  -- a piece of the section under way
  piece-written : (st : Stop) (sts : List Stop) (p : Piece) → st.head ≡ 0 → Of u bs st p
      → written (st ∷ sts) ≡ block_tokens u (cut_row u p) ++ written sts
  unfolding head_tokens
  piece-written st sts p e of = stop-written st sts p of ∙ rw e

  -- the first piece of a section
  opened-written : (st : Stop) (sts : List Stop) (ps : List Piece) (c : ℕ) (ss : List Section) → Opens u bs st ps
      → All (λ (b : Block). b.client ≡ c) (rows_of ps) → written sts ≡ pieces_tokens u (further ps) ++ sections_tokens u ss
      → written (st ∷ sts) ≡ (var (length ps) ∷ (client c ∷ (var (section_start ps) ∷ pieces_tokens u ps))) ++ sections_tokens u ss
  unfolding Opens further section_start pieces_tokens
  opened-written st sts [] c ss opens own on = absurd opens
  opened-written st sts (p ∷ ps) c ss opens own on =
      let b = block_tokens u (cut_row u p) in
      let head : List Token = var (suc (length ps)) ∷ (client c ∷ (var (p.row.clock + p.from) ∷ [])) in
      stop-written st sts p opens.1
      ∙ ap₂ (λ (h ts : List Token). (h ++ b) ++ ts) (head_opened st.head p.from p.row (length ps) c opens.0 own.0) on
      ∙ ap (λ (ts : List Token). head ++ ts) (sym (append_assoc b (pieces_tokens u ps) (sections_tokens u ss)))

  goes-written : (sts : List Stop) (ps : List Piece) (ss : List Section) → All (SoundSection u) ss → GoesOn u bs sts ps ss
      → written sts ≡ pieces_tokens u ps ++ sections_tokens u ss
  unfolding GoesOn pieces_tokens sections_tokens section_tokens
  goes-written [] [] [] sound h = stops-none u rows (length rows)
  goes-written [] [] (s ∷ ss) sound h = absurd h
  goes-written [] (p ∷ ps) ss sound h = absurd h
  goes-written (st ∷ sts) (p ∷ ps) ss sound h =
      piece-written st sts p h.0 h.1
      ∙ ap (λ (ts : List Token). block_tokens u (cut_row u p) ++ ts) (goes-written sts ps ss sound h.2)
      ∙ sym (append_assoc (block_tokens u (cut_row u p)) (pieces_tokens u ps) (sections_tokens u ss))
  goes-written (st ∷ sts) [] [] sound h = absurd h
  goes-written (st ∷ sts) [] (s ∷ ss) sound h =
      opened-written st sts s.pieces s.client ss h.0 sound.0.client (goes-written sts (further s.pieces) ss sound.1 h.1)

  pub stops-written : (sts : List Stop) (ss : List Section) → All (SoundSection u) ss → Goes u bs sts ss
      → stops_tokens u rows (length rows) sts ≡ sections_tokens u ss
  unfolding pieces_tokens
  stops-written sts ss sound h = goes-written sts [] ss sound h

-- ---- the plan of blocks that were read

module _ (u : List ℕ) (v : List Entry) (w : List ℕ) (bs : List Block) (short : length u < brim) (ordered : Ordered bs) (sound : All (Sound u) bs)
    (brimmed : length bs ≤ brim) (room : 5 * length (groups client_of bs) ≤ length w) where
  pub torn-is : (outcome_for u v w bs).torn ≡ any_torn u (sections_of v bs)
  unfolding outcome_for outcome_of
  torn-is = plan-torn u v w bs ordered sound brimmed room

  pub plan-is : PlanOf u v bs w (words_for u v w bs) (outcome_for u v w bs).sections
  unfolding outcome_for outcome_of words_for
  plan-is = plan-kept u v w bs short ordered sound brimmed room

  pub planned-are : (rows : List Block) → take (length bs) rows ≡ bs → length bs ≤ length rows → any_torn u (sections_of v bs) ≡ false
      → planned_tokens u rows (words_for u v w bs) (outcome_for u v w bs).sections ≡ sections_tokens u (sections_of v bs)
  unfolding planned_tokens
  planned-are rows same fits untorn =
      let n = (outcome_for u v w bs).sections in
      let ss = sections_of v bs in
      stops-written u bs rows same fits (stops_of rows (planned_from (words_for u v w bs) 0 n)) ss (sections-sound v bs ordered u sound) (plan-is.goes rows same untorn)

  pub tokens-are : (rows : List Block) (t : ℕ) (rs : List Range) → take (length bs) rows ≡ bs → length bs ≤ length rows
      → any_torn u (sections_of v bs) ≡ false
      → var (outcome_for u v w bs).sections ∷ (planned_tokens u rows (words_for u v w bs) (outcome_for u v w bs).sections ++ delete_tokens t rs)
      ≡ update_tokens t u (sections_of v bs) rs
  unfolding update_tokens
  tokens-are rows t rs same fits untorn =
      ap₂ (λ (k : ℕ) (ts : List Token). var k ∷ (ts ++ delete_tokens t rs)) plan-is.count (planned-are rows same fits untorn)
