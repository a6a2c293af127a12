-- A diff that is done covers, read again, exactly the ids that the update covers at or above their client's remote clock.
use Prim.Native.Nat.{ℕ, ◌+◌, ◌-◌, ◌≤◌}
use mathlib.Core.Path.{◌≡◌, refl, sym, ap, subst, ◌∙◌}
use mathlib.Core.Logic.{◌⊎◌, inl, inr}
use mathlib.Core.Bool.{Bool, true, false}
use mathlib.Core.List.{List, [], ◌∷◌, ◌++◌}
use native.Mathlib.Omega.{arith}
use lib.Dec.{eqb}
use lib.ListN.{length}
use borrow.Author.Tests.{eqb-true}
use Rattle.numbers.specs.Number.{pick}
use Rattle.numbers.specs.Limits.{max_update}
use Rattle.block.specs.declared.Block.{Block}
use Rattle.grammar.specs.Course.{things}
use Rattle.decoder.specs.Update.{blocks_of}
use Rattle.updates.specs.Promises.{Reading, reading}
use Rattle.readings.specs.Sound.{linked}
use Rattle.readings.specs.SoundInner.{Ordered}
use Rattle.readings.proofs.Orders.{blocks-ordered}
use Rattle.kept.specs.Kept.{Piece, Section, remote}
use Rattle.kept.specs.Cut.{is_whole, cut_row, shortened, begun_later}
use Rattle.covered.specs.Covered.{Covers, Covered, Holds, Held, HeldIn, Both}
use Rattle.covered.proofs.Diffs.{diff-keeps}
use Rattle.written.specs.Written.{Alike, AllAlike, keyless, reread as reread_row, pieces_read, sections_read}
use Rattle.diffs.specs.Promises.{diff_of}
use Rattle.rereading.specs.Vectors.{entries_in}
use Rattle.rereading.specs.Again.{kept_by}
use Rattle.rereading.proofs.Done.{done}
use Rattle.rereading.proofs.Wholes.{all_read}
use Rattle.rereading.proofs.Reread.{reread-there}

-- ---- records with the same client, kind, clock and length cover the same ids

record Same (b e : Block) : Type 0 where
  client : b.client ≡ e.client
  kind : b.kind ≡ e.kind
  clock : b.clock ≡ e.clock
  length : b.length.0 ≡ e.length.0

turned : (b e : Block) → Same b e → Same e b
turned b e s = record { client = sym s.client; kind = sym s.kind; clock = sym s.clock; length = sym s.length }

same-covers : (b e : Block) → Same b e → (c k : ℕ) → Covers b c k → Covers e c k
same-covers b e s c k i =
    record {
      client = sym s.client ∙ i.client;
      kind = λ z. i.kind (s.kind ∙ z);
      from = omega (arith, s.clock, i.from);
      below = omega (arith, s.clock, s.length, i.below);
    }

alike_same : (d : List ℕ) (b : Block) (u : List ℕ) (e : Block) → Alike d b u e → Same b e
alike_same d b u e a =
    record {
      client = ap (λ (x : Block). x.client) a.same;
      kind = ap (λ (x : Block). x.kind) a.same;
      clock = ap (λ (x : Block). x.clock) a.same;
      length = ap (λ (x : Block). x.length.0) a.same;
    }

alike-to : (d : List ℕ) (bs : List Block) (u : List ℕ) (es : List Block) → AllAlike d bs u es → (c k : ℕ) → Covered bs c k → Covered es c k
unfolding AllAlike
alike-to d [] u es a c k h = absurd h
alike-to d (b ∷ bs) u [] a c k h = absurd a
alike-to d (b ∷ bs) u (e ∷ es) a c k (inl i) = inl (same-covers b e (alike_same d b u e a.0) c k i)
alike-to d (b ∷ bs) u (e ∷ es) a c k (inr i) = inr (alike-to d bs u es a.1 c k i)

alike_from : (d : List ℕ) (bs : List Block) (u : List ℕ) (es : List Block) → AllAlike d bs u es → (c k : ℕ) → Covered es c k → Covered bs c k
unfolding AllAlike
alike_from d bs u [] a c k h = absurd h
alike_from d [] u (e ∷ es) a c k h = absurd a
alike_from d (b ∷ bs) u (e ∷ es) a c k (inl i) = inl (same-covers e b (turned b e (alike_same d b u e a.0)) c k i)
alike_from d (b ∷ bs) u (e ∷ es) a c k (inr i) = inr (alike_from d bs u es a.1 c k i)

-- ---- a piece as a record covers what the piece holds

record Piecewise (b : Block) (p : Piece) : Type 0 where
  client : b.client ≡ p.row.client
  kind : b.kind ≡ p.row.kind
  clock : b.clock ≡ p.row.clock + p.from
  length : b.length.0 ≡ p.to - p.from

cut-piecewise : (u : List ℕ) (p : Piece) → Piecewise (cut_row u p) p
unfolding cut_row is_whole
cut-piecewise u p = go (eqb p.from 0) refl (eqb p.to p.row.length.0) refl
  where
    go : (s : Bool) → eqb p.from 0 ≡ s → (t : Bool) → eqb p.to p.row.length.0 ≡ t
        → Piecewise (pick (pick s t false) p.row (pick s (shortened u p) (begun_later u p))) p
    go true e true f =
        let a = eqb-true p.from 0 e in
        let b = eqb-true p.to p.row.length.0 f in
        record { client = refl; kind = refl; clock = omega arith; length = omega arith }
    go true e false f = let a = eqb-true p.from 0 e in record { client = refl; kind = refl; clock = omega arith; length = omega arith }
    go false e t f = record { client = refl; kind = refl; clock = refl; length = refl }

-- the key that is not spelled changes none of it
reread-piecewise : (u : List ℕ) (p : Piece) → Piecewise (reread_row (cut_row u p)) p
unfolding reread_row
reread-piecewise u p = go (linked (cut_row u p)) (cut-piecewise u p)
  where
    go : (t : Bool) → Piecewise (cut_row u p) p → Piecewise (pick t (keyless (cut_row u p)) (cut_row u p)) p
    go true h = record { client = h.client; kind = h.kind; clock = h.clock; length = h.length }
    go false h = h

row-to : (b : Block) (p : Piece) → Piecewise b p → (c k : ℕ) → Covers b c k → Holds p c k
row-to b p h c k i =
    record {
      client = sym h.client ∙ i.client;
      kind = λ z. i.kind (h.kind ∙ z);
      from = omega (arith, h.clock, i.from);
      below = omega (arith, h.clock, h.length, i.from, i.below);
    }

row_from : (b : Block) (p : Piece) → Piecewise b p → (c k : ℕ) → Holds p c k → Covers b c k
row_from b p h c k i =
    record {
      client = h.client ∙ i.client;
      kind = λ z. i.kind (sym h.kind ∙ z);
      from = omega (arith, h.clock, i.from);
      below = omega (arith, h.clock, h.length, i.from, i.below);
    }

module _ (u : List ℕ) (c k : ℕ) where
  pieces-to : (ps : List Piece) (bs : List Block) → Covered (pieces_read u ps ++ bs) c k → Held ps c k ⊎ Covered bs c k
  unfolding pieces_read
  pieces-to [] bs h = inr h
  pieces-to (p ∷ ps) bs (inl i) = inl (inl (row-to (reread_row (cut_row u p)) p (reread-piecewise u p) c k i))
  pieces-to (p ∷ ps) bs (inr i) = elim (pieces-to ps bs i) [ inl x ↦ inl (inr x) | inr x ↦ inr x ]

  pieces-from : (ps : List Piece) (bs : List Block) → Held ps c k ⊎ Covered bs c k → Covered (pieces_read u ps ++ bs) c k
  unfolding pieces_read
  pieces-from [] bs (inl i) = absurd i
  pieces-from [] bs (inr i) = i
  pieces-from (p ∷ ps) bs (inl (inl i)) = inl (row_from (reread_row (cut_row u p)) p (reread-piecewise u p) c k i)
  pieces-from (p ∷ ps) bs (inl (inr i)) = inr (pieces-from ps bs (inl i))
  pieces-from (p ∷ ps) bs (inr i) = inr (pieces-from ps bs (inr i))

  sections-to : (ss : List Section) → Covered (sections_read u ss) c k → HeldIn ss c k
  unfolding sections_read
  sections-to [] h = h
  sections-to (s ∷ ss) h = elim (pieces-to s.pieces (sections_read u ss) h) [ inl x ↦ inl x | inr x ↦ inr (sections-to ss x) ]

  sections-from : (ss : List Section) → HeldIn ss c k → Covered (sections_read u ss) c k
  unfolding sections_read
  sections-from [] h = h
  sections-from (s ∷ ss) (inl i) = pieces-from s.pieces (sections_read u ss) (inl i)
  sections-from (s ∷ ss) (inr i) = pieces-from s.pieces (sections_read u ss) (inr (sections-from ss i))

-- ---- a diff, read again

module _ (form : ℕ) (u v : List ℕ) (to m n room : ℕ) where
  pub diff-covers : (diff_of form u v to m n room).refusal.number ≡ 0 → length (diff_of form u v to m n room).bytes ≤ max_update → (c k : ℕ)
      → Both (Covered (reading to (diff_of form u v to m n room).bytes m n).blocks c k)
      (Covered (diff_of form u v to m n room).reading.blocks c k × (remote (entries_in v) c ≤ k))
  diff-covers z small c k =
      let d = diff_of form u v to m n room in
      let h = done form u v to m n room z in
      let a = all_read form u m n h.read in
      let again = (reread-there form u v to m n room z small).blocks in
      let same : d.reading.blocks ≡ things (blocks_of form u) = ap (λ (r : Reading). r.blocks) h.source ∙ a.blocks in
      let keeps = diff-keeps (entries_in v) d.reading.blocks (subst Ordered (sym same) (blocks-ordered form u)) c k in
      let ss = kept_by v d.reading in
      record {
        to = λ x. keeps.to (sections-to u c k ss (alike-to d.bytes (reading to d.bytes m n).blocks u (sections_read u ss) again c k x));
        from = λ x. alike_from d.bytes (reading to d.bytes m n).blocks u (sections_read u ss) again c k (sections-from u c k ss (keeps.from x));
      }
