-- A diff is read again, with rows enough, if it is not longer than an update may be: the same delete ranges, and the records of the pieces kept.
use Prim.Native.Nat.{ℕ, ◌≤◌}
use mathlib.Core.Path.{◌≡◌, refl, sym, ap, subst, ◌∙◌}
use mathlib.Core.Logic.{◌⊎◌, inl, inr, ◌≢◌}
use mathlib.Core.Bool.{Bool, true, false}
use mathlib.Core.List.{List, [], ◌∷◌}
use native.Mathlib.Omega.{arith}
use lib.Dec.{eqb}
use lib.ListN.{length, get_or}
use borrow.Author.Tests.{eqb-true, ne_eqb}
use Rattle.numbers.specs.Number.{pick, none}
use Rattle.numbers.specs.Limits.{max_update}
use Rattle.block.specs.declared.Block.{Block}
use Rattle.grammar.specs.Course.{things}
use Rattle.ranges.specs.Ranges.{Range}
use Rattle.decoder.specs.Update.{blocks_of}
use Rattle.agreement.proofs.Readings.{read-on}
use Rattle.leftover.specs.Leftover.{unread_of}
use Rattle.leftover.specs.LeftoverInner.{Spent}
use Rattle.updates.specs.Promises.{Reading, refused, with_ranges, with_blocks, known, reading}
use Rattle.readings.specs.Sound.{All}
use Rattle.tokens.specs.Tokens.{Token}
use Rattle.tokens.specs.Keys.{many_keys}
use Rattle.tokens.specs.Bytes.{form2, bytes_of, near}
use Rattle.draws.proofs.Drawn.{draws}
use Rattle.kept.specs.Kept.{Piece, Section, sections_of}
use Rattle.kept.specs.KeptInner.{piece_count}
use Rattle.kept.specs.Cut.{torn, torn_pieces, any_torn, any_format}
use Rattle.kept.proofs.SectionsKept.{sections-count}
use Rattle.records.specs.Records.{update_tokens}
use Rattle.written.specs.Written.{AllAlike, sections_read}
use Rattle.written.specs.Kept.{Kept, Clean, KeptRanges}
use Rattle.written.proofs.LegalUpdate.{update-legal}
use Rattle.written.proofs.Keeping.{kept-sections, kept-ranges}
use Rattle.written.proofs.Whole.{written-reads, records-alike, reading-written, nothing_left}
use Rattle.writing.specs.Diff.{diff_tokens, diff_bytes, diff_why, turned_format}
use Rattle.writing.proofs.SmallRanges.{found-few}
use Rattle.diffs.specs.Promises.{Diffed, diff_of}
use Rattle.rereading.specs.Vectors.{entries_in}
use Rattle.rereading.specs.Again.{kept_by, ReadAgain}
use Rattle.rereading.proofs.Few.{few-tokens}
use Rattle.rereading.proofs.Doable.{all-good}
use Rattle.rereading.proofs.Done.{Done, done}
use Rattle.rereading.proofs.Wholes.{AllRead, in-time, all_read}

one-or-two : (to : ℕ) → known to ≡ true → (to ≡ 1) ⊎ (to ≡ 2)
unfolding known
one-or-two to e = go (eqb to 1) refl e
  where
    go : (x : Bool) → eqb to 1 ≡ x → pick x true (eqb to 2) ≡ true → (to ≡ 1) ⊎ (to ≡ 2)
    go true one e = inl (eqb-true to 1 one)
    go false one e = inr (eqb-true to 2 e)

-- ---- nothing is torn

abbrev Clear : List ℕ → List Piece → Type 0
Clear u ps = All (λ (p : Piece). torn u p ≡ false) ps

clean-pieces : (u : List ℕ) (ps : List Piece) → torn_pieces u ps ≡ false → Clear u ps
unfolding torn_pieces
clean-pieces u [] e = tt
clean-pieces u (p ∷ ps) e = go (torn u p) refl e (clean-pieces u ps)
  where
    go : (x : Bool) → torn u p ≡ x → pick x true (torn_pieces u ps) ≡ false → (torn_pieces u ps ≡ false → Clear u ps) → Clear u (p ∷ ps)
    go true t e more = absurd (omega (arith, ap (λ (b : Bool). pick {A = ℕ} b 1 0) e))
    go false t e more = (t, more e)

clean-sections : (u : List ℕ) (ss : List Section) → any_torn u ss ≡ false → Clean u ss
unfolding any_torn
clean-sections u [] e = tt
clean-sections u (s ∷ ss) e = go (torn_pieces u s.pieces) refl e (clean-sections u ss)
  where
    go : (x : Bool) → torn_pieces u s.pieces ≡ x → pick x true (any_torn u ss) ≡ false → (any_torn u ss ≡ false → Clean u ss) → Clean u (s ∷ ss)
    go true t e more = absurd (omega (arith, ap (λ (b : Bool). pick {A = ℕ} b 1 0) e))
    go false t e more = (clean-pieces u s.pieces t, more e)

-- ---- what is written of sections and ranges is read again

record Found (to : ℕ) (u d : List ℕ) (ss : List Section) (rs : List Range) (r : Reading) : Type 0 where
  same : r ≡ record { refusal = none; blocks = things (blocks_of to d); ranges = rs }
  alike : AllAlike d (things (blocks_of to d)) u (sections_read u ss)
  spent : Spent (unread_of to d)

module _ (to : ℕ) (u : List ℕ) (ss : List Section) (rs : List Range) (k : Kept to u ss) (l : KeptRanges rs) where
  abbrev ts : List Token
  ts = update_tokens to u ss rs

  abbrev d : List ℕ
  d = bytes_of to ts

  found : known to ≡ true → length u ≤ max_update → length rs ≤ length u → near to (update_tokens to u ss rs) ≡ true → many_keys to (update_tokens to u ss rs) ≡ false
      → length (bytes_of to (update_tokens to u ss rs)) ≤ max_update → (m n : ℕ) → piece_count ss ≤ m → length rs ≤ n
      → Found to u (bytes_of to (update_tokens to u ss rs)) ss rs (reading to (bytes_of to (update_tokens to u ss rs)) m n)
  unfolding with_blocks with_ranges
  found e short few close keys small m n rows ranges =
      let drawn = draws to (one-or-two to e) ts (update-legal to u ss rs short k l) close keys (few-tokens to u ss rs short k few) (omega arith) in
      let reads = written-reads to d u ss rs drawn k l in
      record {
        same = read-on to d m n (in-time to d e small)
            ∙ reading-written to d u ss rs (drawn.place drawn.last) reads {X = Reading} (λ bs rs. record { refusal = none; blocks = bs; ranges = rs }) (λ why. refused why)
            m n rows ranges l.normal;
        alike = records-alike to d u ss rs (drawn.place drawn.last) reads;
        spent = nothing_left to d u ss rs (drawn.place drawn.last) reads drawn.whole;
      }

-- ---- a diff

module _ (form : ℕ) (u v : List ℕ) (to m n room : ℕ) where
  abbrev R : Reading
  R = reading form u m n

  abbrev D : Diffed
  D = diff_of form u v to m n room

  -- what is kept of blocks is written and read again, if nothing is torn and no format changes its form
  abbrev Keeps : List Block → Type 0
  Keeps bs =
      Clean u (sections_of (entries_in v) bs) → pick (eqb form to) false (any_format (sections_of (entries_in v) bs)) ≡ false
      → Kept to u (sections_of (entries_in v) bs)

  -- as the update was read
  from-reading : Done form u v to m n room → AllRead form u R m n → length (diff_bytes to u (entries_in v) R.blocks R.ranges) ≤ max_update
      → (m' n' : ℕ) → piece_count (kept_by v R) ≤ m' → length R.ranges ≤ n'
      → Found to u (diff_bytes to u (entries_in v) R.blocks R.ranges) (kept_by v R) R.ranges
      (reading to (diff_bytes to u (entries_in v) R.blocks R.ranges) m' n')
  unfolding diff_why diff_bytes diff_tokens turned_format
  from-reading h a small m' n' rows ranges =
      let ts = update_tokens to u (kept_by v R) R.ranges in
      let g = all-good (many_keys to ts) (any_torn u (kept_by v R)) (turned_format form to (kept_by v R)) (near to ts) h.why in
      let k = subst Keeps (sym a.blocks) (kept-sections form to u (entries_in v)) (clean-sections u (kept_by v R) g.untorn) g.formats in
      let l = subst KeptRanges (sym a.ranges) (kept-ranges form u a.middle n) in
      let few : length R.ranges ≤ length u = omega (arith, ap length a.ranges, found-few form u a.middle n) in
      found to u (kept_by v R) R.ranges k l h.target a.short few g.close g.keys small m' n' rows ranges

  pub reread : (diff_of form u v to m n room).refusal.number ≡ 0 → length (diff_of form u v to m n room).bytes ≤ max_update
      → (m' n' : ℕ) → piece_count (kept_by v (diff_of form u v to m n room).reading) ≤ m' → length (diff_of form u v to m n room).reading.ranges ≤ n'
      → ReadAgain u v (diff_of form u v to m n room) (reading to (diff_of form u v to m n room).bytes m' n')
  reread z small m' n' rows ranges =
      let h = done form u v to m n room z in
      let b = h.bytes in
      let s = h.source in
      let f = from-reading h (all_read form u m n h.read) (subst (λ (x : List ℕ). length x ≤ max_update) b small) m' n'
      (subst (λ (r : Reading). piece_count (kept_by v r) ≤ m') s rows) (subst (λ (r : Reading). length r.ranges ≤ n') s ranges) in
      let same = ap (λ (x : List ℕ). reading to x m' n') b ∙ f.same in
      record {
        refusal = ap (λ (r : Reading). r.refusal) same;
        ranges = ap (λ (r : Reading). r.ranges) same ∙ sym (ap (λ (r : Reading). r.ranges) s);
        blocks = subst (λ (r : Reading). AllAlike D.bytes (reading to D.bytes m' n').blocks u (sections_read u (kept_by v r))) (sym s)
            (subst (λ (x : List ℕ). AllAlike x (reading to x m' n').blocks u (sections_read u (kept_by v R))) (sym b)
            (subst (λ (r : Reading). AllAlike (diff_bytes to u (entries_in v) R.blocks R.ranges) r.blocks u (sections_read u (kept_by v R))) (sym f.same)
            f.alike));
      }

  -- ---- the rows that took the update take the diff

  pub reread-there : (diff_of form u v to m n room).refusal.number ≡ 0 → length (diff_of form u v to m n room).bytes ≤ max_update
      → ReadAgain u v (diff_of form u v to m n room) (reading to (diff_of form u v to m n room).bytes m n)
  reread-there z small =
      let h = done form u v to m n room z in
      let s = sym h.source in
      let a = all_read form u m n h.read in
      let rows : piece_count (kept_by v R) ≤ m = omega (arith, sections-count (entries_in v) R.blocks, a.rows) in
      reread z small m n (subst (λ (r : Reading). piece_count (kept_by v r) ≤ m) s rows) (subst (λ (r : Reading). length r.ranges ≤ n) s a.range-rows)

  -- ---- and no byte of it stays unread

  pub reread-whole : (diff_of form u v to m n room).refusal.number ≡ 0 → length (diff_of form u v to m n room).bytes ≤ max_update
      → Spent (unread_of to (diff_of form u v to m n room).bytes)
  reread-whole z small =
      let h = done form u v to m n room z in
      let a = all_read form u m n h.read in
      let rows : piece_count (kept_by v R) ≤ m = omega (arith, sections-count (entries_in v) R.blocks, a.rows) in
      subst (λ (x : List ℕ). Spent (unread_of to x)) (sym h.bytes)
      (from-reading h a (subst (λ (x : List ℕ). length x ≤ max_update) h.bytes small) m n rows a.range-rows).spent

  -- in form 2 it begins with 0
  pub reread-flag : (diff_of form u v to m n room).refusal.number ≡ 0 → to ≢ 1 → get_or (diff_of form u v to m n room).bytes 0 0 ≡ 0
  unfolding diff_bytes bytes_of form2
  reread-flag z other = ap (λ (x : List ℕ). get_or x 0 0) (done form u v to m n room z).bytes ∙ rw (ne_eqb to 1 other) refl
