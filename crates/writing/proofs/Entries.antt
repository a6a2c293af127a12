-- Written against the entries of a vector that was read, or its refusal.
use Rattle.std.specs.Prelude.{Ok, Err}
use Prim.Native.Nat.{ℕ}
use mathlib.Core.Path.{◌≡◌, sym, ap, ◌∙◌}
use mathlib.Core.List.{List, []}
use lib.ListN.{length}
use Rattle.numbers.specs.declared.Refusal.{Refusal}
use Rattle.numbers.specs.declared.Written.{Written}
use Rattle.numbers.specs.Output.{padded}
use Rattle.numbers.specs.OutputInner.{refusal}
use Rattle.block.specs.declared.Block.{Block}
use Rattle.grammar.specs.Course.{Course}
use Rattle.ranges.specs.Ranges.{Range}
use Rattle.vector.specs.Vector.{Entry, clients_in}
use Rattle.vector.specs.VectorInner.{clocks_in, kept}
use Rattle.vector.specs.VectorInner as vector-inner
use Rattle.kept.specs.Plan.{entries_of}
use Rattle.kept.proofs.VectorRead.{was_read, was-refused}
use Rattle.writing.specs.Writing.{kept_answer, kept_out, read_answer, read_out}

module _ (u : List ℕ) (c : Course Entry) (from form : ℕ) (rows : List Block) (n : ℕ) (rs : List Range) (out : List ℕ) where
  abbrev Right : Written → List ℕ → Type 0
  Right r out₁ = (r ≡ read_answer u c from form rows n rs (length out)) × (out₁ ≡ read_out u c from form rows n rs out)

  abbrev with_entries : ℕ → ℕ → ℕ → List Entry
  with_entries m k l = entries_of m (padded k (clients_in (kept c))) (padded l (clocks_in (kept c)))

  pub exit_read : (m k l : ℕ) → vector-inner.entries_of c ≡ Ok m
      → Right (kept_answer u (with_entries m k l) from form rows n rs (length out)) (kept_out u (with_entries m k l) from form rows n rs out)
  unfolding read_answer read_out
  exit_read m k l e =
      let r = was_read c m e in (
        ap (λ (v : List Entry). kept_answer u v from form rows n rs (length out)) (r.entries k l) ∙ sym (r.ends_so _ _),
        ap (λ (v : List Entry). kept_out u v from form rows n rs out) (r.entries k l) ∙ sym (r.ends_so _ _),
      )

  pub exit-refused : (why : Refusal) → vector-inner.entries_of c ≡ Err why → Right (refusal why.number) (padded (length out) [])
  unfolding read_answer read_out
  exit-refused why e = (sym (was-refused c why e _ _), sym (was-refused c why e _ _))
