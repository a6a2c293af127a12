-- Beside Writing: what inner functions say. No promise comes to it.
use Rattle.std.specs.Prelude.{ℕ, List, [], eqb, length}
use Rattle.numbers.specs.declared.Written.{Written}
use Rattle.numbers.specs.Number.{pick}
use Rattle.numbers.specs.Output.{padded}
use Rattle.numbers.specs.OutputInner.{refusal}
use Rattle.encoder.specs.declared.steps.Outcome.{Outcome}
use Rattle.passes.specs.Measures.{measured_for}
use Rattle.writing.specs.Writing.{Job, planned_in, planned_answer, planned_out, why_for}

-- ---- planned rows that are measured first: why they are not written, or what is

abbrev pub measured_why : Job → ℕ → ℕ → Outcome → ℕ
measured_why j from form o = why_for from form o (measured_for form (planned_in j))

unfoldable pub measured_answer : Job → ℕ → ℕ → Outcome → ℕ → Written
measured_answer j from form o room = pick (eqb (measured_why j from form o) 0) (planned_answer j form room) (refusal (measured_why j from form o))

unfoldable pub measured_out : Job → ℕ → ℕ → Outcome → List ℕ → List ℕ
measured_out j from form o out = pick (eqb (measured_why j from form o) 0) (planned_out j form out) (padded (length out) [])
