-- Two vectors that read and differ only in entries for clients without a block give the same diff: the same bytes, and the same refusals.
use Prim.Native.Nat.{ℕ}
use mathlib.Core.Path.{◌≡◌, refl, sym, ap, ◌∙◌}
use mathlib.Core.Bool.{Bool, true, false}
use mathlib.Core.List.{List, [], ◌∷◌}
use lib.Dec.{eqb}
use native.Mathlib.Omega.{arith}
use Rattle.numbers.specs.declared.Refusal.{Refusal}
use Rattle.numbers.specs.Number.{pick, nowhere}
use Rattle.block.specs.declared.Block.{Block}
use Rattle.grammar.specs.Course.{Course, thing, over, stopped, ending}
use Rattle.vector.specs.Vector.{Entry, vector_of}
use Rattle.updates.specs.Promises.{Reading, known, reading}
use Rattle.kept.specs.Kept.{remote, sections_of}
use Rattle.kept.proofs.SectionsRemote.{same-remote}
use Rattle.writing.specs.Diff.{diff_tokens, diff_bytes, diff_why}
use Rattle.diffs.specs.Promises.{Diffed, refused_with, why_not, diffed, against, after_reading, diff_of}
use Rattle.rereading.specs.Vectors.{Reads, entries_in, clocks_for, DifferElsewhere, SameRemote}

-- ---- of a vector that reads, the entries count

pub ends-well : {A X : Type 0} (c : Course A) → ending c (λ s. true) (λ why. false) ≡ true → (x : X) (refused : Refusal → X)
    → ending c (λ s. x) refused ≡ x
unfolding ending
ends-well (thing a p c) e x refused = ends-well c e x refused
ends-well (over y s) e x refused = refl
ends-well (stopped why) e x refused = absurd (omega (arith, ap (λ (t : Bool). pick {A = ℕ} t 1 0) e))

module _ (u : List ℕ) (form to room : ℕ) (r : Reading) where
  pub vector-read : (v : List ℕ) → Reads v → against u (vector_of v) form to room r ≡ diffed u (entries_in v) form to room r
  unfolding against
  vector-read v e = ends-well (vector_of v) e (diffed u (entries_in v) form to room r) (λ why. refused_with (nowhere why.number))

  kept_same : (es fs : List Entry) → sections_of es r.blocks ≡ sections_of fs r.blocks → diffed u es form to room r ≡ diffed u fs form to room r
  unfolding diffed why_not diff_why diff_bytes diff_tokens
  kept_same es fs e = rw e

  same_after : (v w : List ℕ) → Reads v → Reads w → SameRemote v w r.blocks
      → after_reading u (vector_of v) form to room r ≡ after_reading u (vector_of w) form to room r
  unfolding after_reading
  same_after v w e f h =
      ap (λ (d : Diffed). pick (eqb r.refusal.number 0) d (refused_with r.refusal))
      (vector-read v e ∙ kept_same (entries_in v) (entries_in w) (same-remote (entries_in v) (entries_in w) r.blocks h) ∙ sym (vector-read w f))

module _ (form : ℕ) (u v w : List ℕ) (to m n room : ℕ) (e : Reads v) (f : Reads w) where
  -- only remote clocks of clients that have blocks count
  pub same_bytes : SameRemote v w (reading form u m n).blocks → diff_of form u v to m n room ≡ diff_of form u w to m n room
  unfolding diff_of
  same_bytes h = ap (λ (d : Diffed). pick (known to) d (refused_with (nowhere 12))) (same_after u form to room (reading form u m n) v w e f h)

  -- ---- the remote clock is the first of a client's entries

  abbrev first : List ℕ → ℕ
  first [] = 0
  first (k ∷ ks) = k

  remote-first : (es : List Entry) (c : ℕ) → remote es c ≡ first (clocks_for c es)
  unfolding remote clocks_for
  remote-first [] c = refl
  remote-first (x ∷ es) c = go (eqb x.client c) (remote-first es c)
    where
      go : (t : Bool) → remote es c ≡ first (clocks_for c es) → pick t x.clock (remote es c) ≡ first (pick t (x.clock ∷ clocks_for c es) (clocks_for c es))
      go true h = refl
      go false h = h

  remotes : (bs : List Block) → DifferElsewhere v w bs → SameRemote v w bs
  remotes [] h = tt
  remotes (b ∷ bs) h =
      (remote-first (entries_in v) b.client ∙ ap first h.0 ∙ sym (remote-first (entries_in w) b.client), remotes bs h.1)

  pub differ-elsewhere : DifferElsewhere v w (reading form u m n).blocks → diff_of form u v to m n room ≡ diff_of form u w to m n room
  differ-elsewhere h = same_bytes (remotes (reading form u m n).blocks h)
