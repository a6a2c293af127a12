-- The ways out of what writes an update that was read.
use Prim.Native.Nat.{ℕ, zero, suc, ◌≤◌}
use mathlib.Core.Path.{◌≡◌, refl, sym, ap, subst, ◌∙◌}
use mathlib.Core.Bool.{Bool, true, false, not}
use mathlib.Core.List.{List, []}
use lib.Dec.{ltb, eqb}
use native.Mathlib.Omega.{arith}
use lib.ListN.{length, take, get_or, replicate, length-replicate}
use borrow.Author.Tests.{not-true, not-false}
use Rattle.numbers.specs.declared.Written.{Written}
use Rattle.numbers.specs.Output.{padded}
use Rattle.numbers.specs.OutputInner.{refusal, done}
use Rattle.block.specs.declared.Block.{Block}
use Rattle.ranges.specs.Ranges.{Range}
use Rattle.vector.specs.Vector.{Entry}
use Rattle.tokens.specs.Tokens.{Token}
use Rattle.tokens.specs.Desk.{key_count, alias_count, Room, Blank}
use Rattle.tokens.proofs.Rooms.{room-wide}
use Rattle.encoder.specs.declared.steps.Outcome.{Outcome}
use Rattle.encoder.specs.Passes.{outcome_for}
use Rattle.passes.specs.declared.Measured.{Measured}
use Rattle.passes.specs.Forms.{end_for, out_for}
use Rattle.passes.specs.Measures.{measured_for}
use Rattle.writing.specs.Writing.{Job, planned_in, deletes_in, body_in, sizes_in, planned_answer, planned_out, no_plan, job_for, why_for, kept_answer, kept_out}
use Rattle.writing.specs.WritingInner.{measured_why, measured_answer, measured_out}

-- ---- planned rows, the sizes of their lanes being z

module _ (j : Job) (form : ℕ) (out z : List ℕ) (sizes : z ≡ sizes_in j form) where
  abbrev end : ℕ
  end = end_for form z (body_in j form) (deletes_in form j)

  abbrev bytes : List ℕ
  bytes = out_for form z (body_in j form) (deletes_in form j) out

  abbrev Right : Written → List ℕ → Type 0
  Right r out₁ = (r ≡ planned_answer j form (length out)) × (out₁ ≡ planned_out j form out)

  tested : (b : Bool) → ltb (length out) end ≡ b → ltb (length out) (end_for form (sizes_in j form) (body_in j form) (deletes_in form j)) ≡ b
  tested b y = subst (λ (s : List ℕ). ltb (length out) (end_for form s (body_in j form) (deletes_in form j)) ≡ b) sizes y

  module _ (same : length bytes ≡ length out) where
    pub exit-end : ltb (length out) end ≡ true → Right (refusal 10) (padded (length bytes) [])
    unfolding planned_answer planned_out
    exit-end y = (rw (tested true y), rw (tested true y, same))

    pub exit-done : ltb (length out) end ≡ false → Right (done end) (padded (length bytes) (take end bytes))
    unfolding planned_answer planned_out
    exit-done y = (rw (tested false y, sizes), rw (tested false y, same, sizes))

  -- the same of a place and of bytes that are these
  module _ {r : ℕ} {o : List ℕ} (e : r ≡ end) (b : o ≡ bytes) (same : length o ≡ length out) where
    long : length bytes ≡ length out
    long = sym (ap length b) ∙ same

    tested-there : (x : Bool) → ltb (length out) r ≡ x → ltb (length out) end ≡ x
    tested-there x y = subst (λ (n : ℕ). ltb (length out) n ≡ x) e y

    pub told-end : ltb (length out) r ≡ true → Right (refusal 10) (padded (length o) [])
    told-end y = subst (λ (l : List ℕ). Right (refusal 10) (padded (length l) [])) (sym b) (exit-end long (tested-there true y))

    pub told-done : ltb (length out) r ≡ false → Right (done r) (padded (length o) (take r o))
    told-done y =
        subst (λ (n : ℕ). Right (done n) (padded (length o) (take n o))) (sym e)
        (subst (λ (l : List ℕ). Right (done end) (padded (length l) (take end l))) (sym b) (exit-done long (tested-there false y)))

-- ---- planned rows that are measured first

module _ (j : Job) (from form : ℕ) (o : Outcome) (out : List ℕ) {m : Measured} (e : m ≡ measured_for form (planned_in j)) where
  abbrev Told : Written → List ℕ → Type 0
  Told r out₁ = (r ≡ measured_answer j from form o (length out)) × (out₁ ≡ measured_out j from form o out)

  asked : (x : Bool) → eqb (why_for from form o m) 0 ≡ x → eqb (measured_why j from form o) 0 ≡ x
  asked x y = subst (λ (n : Measured). eqb (why_for from form o n) 0 ≡ x) e y

  pub told-why : not (eqb (why_for from form o m) 0) ≡ true → Told (refusal (why_for from form o m)) (padded (length out) [])
  unfolding measured_answer measured_out
  told-why y =
      let z = asked false (not-true (eqb (why_for from form o m) 0) y) in
      (ap (λ (n : Measured). refusal (why_for from form o n)) e ∙ rw z, rw z)

  pub told-planned : not (eqb (why_for from form o m) 0) ≡ false → {r : Written} {out₁ : List ℕ}
      → (r ≡ planned_answer j form (length out)) × (out₁ ≡ planned_out j form out) → Told r out₁
  unfolding measured_answer measured_out
  told-planned y h = let z = asked true (not-false (eqb (why_for from form o m) 0) y) in (h.0 ∙ rw z, h.1 ∙ rw z)

-- ---- blocks that are kept

module _ (u : List ℕ) (v : List Entry) (from form : ℕ) (rows : List Block) (n : ℕ) (rs : List Range) (out : List ℕ) where
  abbrev plan : Outcome
  plan = outcome_for u v no_plan (take n rows)

  pub exit-kept : {r : Written} {out₁ : List ℕ}
      → (r ≡ measured_answer (job_for u v rows n rs) from form plan (length out)) × (out₁ ≡ measured_out (job_for u v rows n rs) from form plan out)
      → (r ≡ kept_answer u v from form rows n rs (length out)) × (out₁ ≡ kept_out u v from form rows n rs out)
  unfolding kept_answer kept_out measured_answer measured_out
  exit-kept h = h

-- ---- words that are zero

zero-at : (n i : ℕ) → get_or (replicate {A = ℕ} n 0) i 0 ≡ 0
zero-at zero i = refl
zero-at (suc n) zero = refl
zero-at (suc n) (suc i) = zero-at n i

pub blank-zeros : (n : ℕ) → 52 ≤ n → Blank (replicate {A = ℕ} n 0)
unfolding key_count alias_count
blank-zeros n l = record {
  size = rw (length-replicate {A = ℕ} n 0) l;
  lanes = λ i m. zero-at n i;
  keys = zero-at n 50;
  crowd = zero-at n 51;
  aliases = zero-at n 564;
}

pub wide-zeros : (form : ℕ) (ts : List Token) → Room form ts (replicate {A = ℕ} 1333 0)
wide-zeros form ts = room-wide (rw (length-replicate {A = ℕ} 1333 0) (omega arith))
