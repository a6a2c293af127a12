-- What was written is read again: where the tokens of an update are drawn, its records and its delete ranges are read.
use Prim.Native.Nat.{ℕ, suc, ◌+◌, ◌≤◌}
use mathlib.Core.Path.{◌≡◌, refl, sym, ap, ap₂, subst, ◌∙◌}
use mathlib.Core.List.{List, [], ◌∷◌, map}
use native.Mathlib.Omega.{arith}
use lib.ListN.{length, length-append}
use Rattle.numbers.specs.Limits.{max_clients, max_blocks}
use Rattle.numbers.specs.declared.Refusal.{Refusal}
use Rattle.block.specs.declared.Block.{Block}
use Rattle.grammar.specs.Grammar as grammar
use Rattle.grammar.specs.Course.{Course, fit, things, ending}
use Rattle.grammar.specs.Blocks.{all_blocks}
use Rattle.decoder.specs.Update.{blocks_of, delete_set}
use Rattle.ranges.specs.Ranges.{Range, normal}
use Rattle.ranges.specs.RangesInner.{Normal}
use Rattle.leftover.specs.Leftover.{set_end, unread_of}
use Rattle.leftover.specs.LeftoverInner.{Spent}
use Rattle.draws.specs.Draws.{Draws, DrawnAgain}
use Rattle.draws.proofs.Splits.{split}
use Rattle.kept.specs.Kept.{Piece, Section}
use Rattle.kept.specs.KeptInner.{piece_count}
use Rattle.records.specs.Records.{sections_tokens, delete_tokens, update_tokens}
use Rattle.written.specs.Written.{AllAlike, pieces_read, sections_read, AlikeIn, WrittenReads}
use Rattle.written.specs.Kept.{client_in, Kept, KeptRanges}
use Rattle.written.proofs.Courses.{draw-on, within_on, goes-from, goes_left, goes-ending, goes-fit, goes-alike, goes_same}
use Rattle.written.proofs.Sections.{all_new, sections-read}
use Rattle.written.proofs.Deletes.{deletes-read, normal-same}
use Rattle.written.proofs.Left.{deletes-stay}

pub written-reads : (form : ℕ) (d u : List ℕ) (ss : List Section) (rs : List Range) (x : DrawnAgain form d (update_tokens form u ss rs)) → Kept form u ss → KeptRanges rs
    → WrittenReads form d u ss rs (x.place x.last)
unfolding update_tokens Draws all_blocks
written-reads form d u ss rs x k kept =
    let r = x.reader in
    let h = x.drawn in
    let two = split r d (sections_tokens u ss) (delete_tokens form rs) h.1 x.last h.3 in
    let m = two.between in
    let count = within_on r x.lined max_clients (length ss) h.0 x.first h.1 h.2 k.count in
    let goes = goes-from (AlikeIn d u) (sections_read u ss) _ _ _ (draw-on r (grammar.number (grammar.up_to max_clients)) (length ss, h.0) x.first h.1 _ count)
    (sections-read x.lined u ss [] max_blocks h.1 m k.each k.clients (all_new (map client_in ss)) k.pieces two.first) in
    record {
      between = x.place m;
      blocks = goes-from (AlikeIn d u) (sections_read u ss) _ _ _ x.blocks (goes_left (AlikeIn d u) x.place x.leave x.leaves x.leaves-over (sections_read u ss) _ m goes);
      ranges = deletes-read x.lined rs m x.last kept two.then;
      spent = subst Spent (deletes-stay r d x.left x.stays form rs m x.last two.then ∙ sym (x.columns ∙ goes-ending (AlikeIn d u) m x.left (λ why. []) (sections_read u ss) _ goes)) x.spent;
    }

-- ---- what a caller makes of it

-- a record for each piece
pieces-count : (u : List ℕ) (ps : List Piece) → length (pieces_read u ps) ≡ length ps
unfolding pieces_read
pieces-count u [] = refl
pieces-count u (p ∷ ps) = ap suc (pieces-count u ps)

pub records-count : (u : List ℕ) (ss : List Section) → length (sections_read u ss) ≡ piece_count ss
unfolding sections_read piece_count
records-count u [] = refl
records-count u (s ∷ ss) =
    length-append (pieces_read u s.pieces) (sections_read u ss) ∙ ap₂ (λ (a b : ℕ). a + b) (pieces-count u s.pieces) (records-count u ss)

module _ (form : ℕ) (d u : List ℕ) (ss : List Section) (rs : List Range) (t : ℕ) (reads : WrittenReads form d u ss rs t) where
  abbrev bs : Course Block
  bs = blocks_of form d

  -- all blocks are there
  pub records-alike : AllAlike d (things (blocks_of form d)) u (sections_read u ss)
  records-alike = goes-alike d u reads.between (sections_read u ss) bs reads.blocks

  -- rows for all pieces take them all
  pub blocks-fit : (m : ℕ) → piece_count ss ≤ m → fit m (blocks_of form d) ≡ blocks_of form d
  blocks-fit m l = goes-fit (AlikeIn d u) reads.between (sections_read u ss) m bs (omega (arith, records-count u ss)) reads.blocks

  pub blocks_end : {X : Type 0} (done : ℕ → X) (refused : Refusal → X) → ending (blocks_of form d) done refused ≡ done reads.between
  blocks_end done refused = goes-ending (AlikeIn d u) reads.between done refused (sections_read u ss) bs reads.blocks

  abbrev ds : Course Range
  ds = delete_set form d reads.between

  pub ranges-same : things (delete_set form d reads.between) ≡ rs
  ranges-same = goes_same t rs ds reads.ranges

  pub ranges-fit : (n : ℕ) → length rs ≤ n → fit n (delete_set form d reads.between) ≡ delete_set form d reads.between
  ranges-fit n l = goes-fit (λ (a b : Range). a ≡ b) t rs n ds l reads.ranges

  pub ranges-end : {X : Type 0} (done : ℕ → X) (refused : Refusal → X) → ending (delete_set form d reads.between) done refused ≡ done t
  ranges-end done refused = goes-ending (λ (a b : Range). a ≡ b) t done refused rs ds reads.ranges

  -- where the delete set ends the update, no byte of it is left
  pub nothing_left : t ≡ length d → Spent (unread_of form d)
  unfolding unread_of set_end Spent
  nothing_left end = (omega (arith, end, set-end), reads.spent)
    where
      set-end : set_end form d ≡ t
      set-end = blocks_end (λ at. ending (delete_set form d at) (λ e. e) (λ why. length d)) (λ why. length d) ∙ ranges-end (λ e. e) (λ why. length d)

  -- a reading with rows enough, as `reading` of the crate updates has it: `whole` is made of the blocks and of the ranges, `refused` of a refusal
  module _ {X : Type 0} (whole : List Block → List Range → X) (refused : Refusal → X) where
    abbrev pub set_read : List Block → Course Range → X
    set_read bs c = ending c (λ _. whole bs (normal (things c))) refused

    abbrev pub update_read : ℕ → Course Block → X
    update_read n c = ending c (λ (m : ℕ). set_read (things c) (fit n (delete_set form d m))) refused

    pub reading-written : (m n : ℕ) → piece_count ss ≤ m → length rs ≤ n → Normal rs
        → update_read n (fit m (blocks_of form d)) ≡ whole (things (blocks_of form d)) rs
    reading-written m n l k normal-rs =
        ap (update_read n) (blocks-fit m l)
        ∙ blocks_end (λ (m : ℕ). set_read (things bs) (fit n (delete_set form d m))) refused
        ∙ ap (set_read (things bs)) (ranges-fit n k)
        ∙ ranges-end (λ _. whole (things bs) (normal (things ds))) refused
        ∙ ap (λ (l : List Range). whole (things bs) (normal l)) ranges-same
        ∙ ap (whole (things bs)) (normal-same rs normal-rs)
