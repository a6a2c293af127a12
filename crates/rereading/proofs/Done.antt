-- A diff with the number 0 was made: form, update and vector were good, form 2 had not too many keys, nothing was cut inside a pair, no format changed its
-- form, every difference could be spelled, the bytes fit.
use Prim.Native.Nat.{ℕ, ◌≤◌}
use mathlib.Core.Path.{◌≡◌, refl, sym, ap, ◌∙◌}
use mathlib.Core.Bool.{Bool, true, false}
use mathlib.Core.List.{List}
use native.Mathlib.Omega.{arith}
use lib.Dec.{leb, eqb}
use lib.ListN.{length}
use borrow.Author.Tests.{eqb-true, eqb-false, leb-true}
use Rattle.numbers.specs.Number.{pick, none, nowhere}
use Rattle.numbers.specs.Output.{verdict}
use Rattle.grammar.specs.Course.{Course, thing, over, stopped, ending}
use Rattle.vector.specs.Vector.{Entry, vector_of}
use Rattle.updates.specs.Promises.{Reading, known, reading}
use Rattle.grammar.specs.Numbered.{Stops}
use Rattle.agreement.specs.Numbered.{Low}
use Rattle.agreement.proofs.Vectors.{vector-numbered}
use Rattle.writing.specs.Diff.{diff_bytes, diff_why}
use Rattle.diffs.specs.Promises.{Diffed, refused_with, why_not, diffed, against, after_reading, diff_of}
use Rattle.rereading.specs.Vectors.{Reads, entries_in}
use Rattle.rereading.proofs.Elsewhere.{vector-read}

-- ---- a vector is never refused with 0

read_whole : (c : Course Entry) (d : Diffed) → Stops Low c
    → (ending c (λ s. d) (λ why. refused_with (nowhere why.number))).refusal.number ≡ 0
    → ending c (λ s. true) (λ why. false) ≡ true
unfolding ending Stops
read_whole (thing e p c) d h z = read_whole c d h z
read_whole (over x s) d h z = refl
read_whole (stopped why) d h z = absurd (omega (arith, h.0, z))

-- ---- what 0 says of a diff

pub record Done (form : ℕ) (u v : List ℕ) (to m n room : ℕ) : Type 0 where
  pub target : known to ≡ true
  pub refusal : (diff_of form u v to m n room).refusal ≡ none
  pub read : (reading form u m n).refusal.number ≡ 0
  pub vector : Reads v
  pub why : diff_why form to u (entries_in v) (reading form u m n).blocks (reading form u m n).ranges ≡ 0
  pub fits : length (diff_bytes to u (entries_in v) (reading form u m n).blocks (reading form u m n).ranges) ≤ room
  pub bytes : (diff_of form u v to m n room).bytes ≡ diff_bytes to u (entries_in v) (reading form u m n).blocks (reading form u m n).ranges
  pub source : (diff_of form u v to m n room).reading ≡ reading form u m n

not-refused : (why room : ℕ) (b : List ℕ) → verdict why room b ≡ 0 → why ≡ 0
unfolding verdict
not-refused why room b z = go (eqb why 0) refl z
  where
    go : (x : Bool) → eqb why 0 ≡ x → pick x (pick (leb (length b) room) 0 10) why ≡ 0 → why ≡ 0
    go true e z = eqb-true why 0 e
    go false e z = z

had-room : (why room : ℕ) (b : List ℕ) → verdict why room b ≡ 0 → length b ≤ room
unfolding verdict
had-room why room b z = go (eqb why 0) refl (leb (length b) room) refl z
  where
    go : (x : Bool) → eqb why 0 ≡ x → (y : Bool) → leb (length b) room ≡ y → pick x (pick y 0 10) why ≡ 0 → length b ≤ room
    go true e true l z = leb-true (length b) room l
    go true e false l z = absurd (omega (arith, z))
    go false e y l z = absurd (eqb-false why 0 e z)

module _ (u v : List ℕ) (form to room : ℕ) (r : Reading) where
  abbrev bytes : List ℕ
  bytes = diff_bytes to u (entries_in v) r.blocks r.ranges

  record Made (d : Diffed) : Type 0 where
    why : diff_why form to u (entries_in v) r.blocks r.ranges ≡ 0
    fits : length (diff_bytes to u (entries_in v) r.blocks r.ranges) ≤ room
    same : d ≡ record { refusal = none; bytes = diff_bytes to u (entries_in v) r.blocks r.ranges; reading = r }

  made : (diffed u (entries_in v) form to room r).refusal.number ≡ 0 → Made (diffed u (entries_in v) form to room r)
  unfolding diffed why_not
  made z = go (eqb (why_not u (entries_in v) form to room r) 0) refl z
    where
      go : (x : Bool) → eqb (why_not u (entries_in v) form to room r) 0 ≡ x
          → (pick x (record { refusal = none; bytes = bytes; reading = r }) (refused_with (nowhere (why_not u (entries_in v) form to room r)))).refusal.number
          ≡ 0
          → Made (pick x (record { refusal = none; bytes = bytes; reading = r }) (refused_with (nowhere (why_not u (entries_in v) form to room r))))
      go true e z =
          let zero = eqb-true (why_not u (entries_in v) form to room r) 0 e in
          record { why = not-refused _ room bytes zero; fits = had-room _ room bytes zero; same = refl }
      go false e z = absurd (eqb-false (why_not u (entries_in v) form to room r) 0 e z)

  record MadeAfter (d : Diffed) : Type 0 where
    read : r.refusal.number ≡ 0
    vector : Reads v
    made : Made d

  reads_then : (against u (vector_of v) form to room r).refusal.number ≡ 0 → Reads v
  unfolding against
  reads_then z = read_whole (vector_of v) (diffed u (entries_in v) form to room r) (vector-numbered v) z

  made_after : (after_reading u (vector_of v) form to room r).refusal.number ≡ 0 → MadeAfter (after_reading u (vector_of v) form to room r)
  unfolding after_reading
  made_after z = go (eqb r.refusal.number 0) refl z
    where
      go : (x : Bool) → eqb r.refusal.number 0 ≡ x
          → (pick x (against u (vector_of v) form to room r) (refused_with r.refusal)).refusal.number ≡ 0
          → MadeAfter (pick x (against u (vector_of v) form to room r) (refused_with r.refusal))
      go true e z =
          let reads = reads_then z in
          let same = vector-read u form to room r v reads in
          let k = made (ap (λ (d : Diffed). d.refusal.number) (sym same) ∙ z) in
          record { read = eqb-true r.refusal.number 0 e; vector = reads; made = record { why = k.why; fits = k.fits; same = same ∙ k.same } }
      go false e z = absurd (eqb-false r.refusal.number 0 e z)

module _ (form : ℕ) (u v : List ℕ) (to m n room : ℕ) where
  abbrev R : Reading
  R = reading form u m n

  pub done : (diff_of form u v to m n room).refusal.number ≡ 0 → Done form u v to m n room
  unfolding diff_of
  done z = go (known to) refl z refl
    where
      go : (x : Bool) → known to ≡ x → (pick x (after_reading u (vector_of v) form to room R) (refused_with (nowhere 12))).refusal.number ≡ 0
          → diff_of form u v to m n room ≡ pick x (after_reading u (vector_of v) form to room R) (refused_with (nowhere 12)) → Done form u v to m n room
      go true e z same =
          let k = made_after u v form to room R z in
          let all = same ∙ k.made.same in
          record {
            target = e;
            refusal = ap (λ (d : Diffed). d.refusal) all;
            read = k.read;
            vector = k.vector;
            why = k.made.why;
            fits = k.made.fits;
            bytes = ap (λ (d : Diffed). d.bytes) all;
            source = ap (λ (d : Diffed). d.reading) all;
          }
      go false e z same = absurd (omega (arith, z))
