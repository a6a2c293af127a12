-- A diff is done exactly where it can be: the number is 0 if form, update and vector are good, form 2 has not too many keys, no cut falls inside a pair, no
-- format changes its form, no difference is too far and the bytes fit, and only then.
use Prim.Native.Nat.{ℕ}
use mathlib.Core.Path.{◌≡◌, refl, ap, ◌∙◌}
use mathlib.Core.Bool.{Bool, true, false}
use mathlib.Core.List.{List}
use native.Mathlib.Omega.{arith}
use borrow.Author.Tests.{eq-eqb}
use Rattle.numbers.specs.Number.{pick, none, nowhere}
use Rattle.numbers.proofs.Output.{verdict-done}
use Rattle.vector.specs.Vector.{vector_of}
use Rattle.tokens.specs.Keys.{many_keys}
use Rattle.tokens.specs.Bytes.{near}
use Rattle.kept.specs.Cut.{any_torn}
use Rattle.updates.specs.Promises.{Reading, reading}
use Rattle.writing.specs.Diff.{diff_tokens, diff_bytes, diff_why, turned_format}
use Rattle.diffs.specs.Promises.{Diffed, refused_with, why_not, diffed, against, after_reading, diff_of}
use Rattle.rereading.specs.Vectors.{entries_in}
use Rattle.rereading.specs.Again.{kept_by}
use Rattle.rereading.specs.Doable.{Doable}
use Rattle.rereading.proofs.Elsewhere.{vector-read}
use Rattle.rereading.proofs.Done.{done}

-- none of 3, 9, 19, 13
pub record AllGood (many torn turned spelt : Bool) : Type 0 where
  pub keys : many ≡ false
  pub untorn : torn ≡ false
  pub formats : turned ≡ false
  pub close : spelt ≡ true

pub all-good : (many torn turned spelt : Bool) → ◌≡◌ {A = ℕ} (pick many 3 (pick torn 9 (pick turned 19 (pick spelt 0 13)))) 0
    → AllGood many torn turned spelt
all-good true torn turned spelt z = absurd (omega (arith, z))
all-good false true turned spelt z = absurd (omega (arith, z))
all-good false false true spelt z = absurd (omega (arith, z))
all-good false false false true z = record { keys = refl; untorn = refl; formats = refl; close = refl }
all-good false false false false z = absurd (omega (arith, z))

module _ (form : ℕ) (u v : List ℕ) (to m n room : ℕ) where
  abbrev R : Reading
  R = reading form u m n

  abbrev made : Diffed
  made = record { refusal = none; bytes = diff_bytes to u (entries_in v) R.blocks R.ranges; reading = R }

  module _ (h : Doable form u v to m n room) where
    why-none : diff_why form to u (entries_in v) R.blocks R.ranges ≡ 0
    unfolding diff_why
    why-none = rw (h.keys, h.untorn, h.formats, h.close)

    kept-made : diffed u (entries_in v) form to room R ≡ made
    unfolding diffed why_not
    kept-made =
        rw (verdict-done (diff_why form to u (entries_in v) R.blocks R.ranges) room (diff_bytes to u (entries_in v) R.blocks R.ranges) why-none h.fits)

    -- the bytes are the diff's, and the reading is the update's
    pub diff-made : diff_of form u v to m n room
        ≡ record { refusal = none; bytes = diff_bytes to u (entries_in v) (reading form u m n).blocks (reading form u m n).ranges; reading = reading form u m n }
    unfolding diff_of after_reading
    diff-made =
        ap (λ (x : Bool). pick x (after_reading u (vector_of v) form to room R) (refused_with (nowhere 12))) h.target
        ∙ ap (λ (x : Bool). pick x (against u (vector_of v) form to room R) (refused_with R.refusal)) (eq-eqb R.refusal.number 0 h.read)
        ∙ vector-read u form to room R v h.vector ∙ kept-made

    pub diff-done : (diff_of form u v to m n room).refusal.number ≡ 0
    diff-done = ap (λ (d : Diffed). d.refusal.number) diff-made

  pub done-only : (diff_of form u v to m n room).refusal.number ≡ 0 → Doable form u v to m n room
  unfolding diff_why
  done-only z =
      let d = done form u v to m n room z in
      let ts = diff_tokens to u (entries_in v) R.blocks R.ranges in
      let good = all-good (many_keys to ts) (any_torn u (kept_by v R)) (turned_format form to (kept_by v R)) (near to ts) d.why in
      record {
        target = d.target;
        read = d.read;
        vector = d.vector;
        keys = good.keys;
        untorn = good.untorn;
        formats = good.formats;
        close = good.close;
        fits = d.fits;
      }
