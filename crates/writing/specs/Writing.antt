-- What is written of an update that was read, against a vector: the steps with their refusals, 3, 9, 19, 13, 10. `Meaning` in the proofs says that
-- this is the diff.
use Rattle.std.specs.Prelude.{ℕ, Bool, false, List, [], ◌∷◌, ltb, eqb, length, take, replicate}
use Rattle.numbers.specs.declared.Written.{Written}
use Rattle.numbers.specs.Number.{pick}
use Rattle.numbers.specs.Output.{padded}
use Rattle.numbers.specs.OutputInner.{refusal, done}
use Rattle.block.specs.declared.Block.{Block}
use Rattle.grammar.specs.Course.{Course, things, ending}
use Rattle.ranges.specs.Ranges.{Range}
use Rattle.vector.specs.Vector.{Entry}
use Rattle.tokens.specs.Tokens.{Token, var}
use Rattle.tokens.specs.KeysInner.{spelled}
use Rattle.records.specs.Records.{delete_tokens}
use Rattle.encoder.specs.declared.steps.Outcome.{Outcome}
use Rattle.encoder.specs.Passes.{outcome_for, words_for, planned_tokens}
use Rattle.passes.specs.declared.Measured.{Measured}
use Rattle.passes.specs.Forms.{sizes_for, end_for, out_for}
use Rattle.passes.specs.Measures.{measured_for}

-- ---- planned rows, in a form, into the bytes lent

-- planned rows of a table, and ranges
pub record Job : Type 0 where
  pub update : List ℕ
  pub rows : List Block
  pub plan : List ℕ
  pub sections : ℕ
  pub ranges : List Range

abbrev pub job : List ℕ → List Block → List ℕ → ℕ → List Range → Job
job u rows w n rs = record { update = u; rows = rows; plan = w; sections = n; ranges = rs }

abbrev pub planned_in : Job → List Token
planned_in j = planned_tokens j.update j.rows j.plan j.sections

abbrev pub deletes_in : ℕ → Job → List Token
deletes_in form j = delete_tokens form j.ranges

-- the tokens of the planned rows as a form has them, behind the number of sections
abbrev pub body_in : Job → ℕ → List Token
body_in j form = var j.sections ∷ spelled form [] (planned_in j)

-- of the lanes that are led by them
abbrev pub sizes_in : Job → ℕ → List ℕ
sizes_in j form = sizes_for form (spelled form [] (planned_in j)) (replicate 10 0)

abbrev pub end_in : Job → ℕ → ℕ
end_in j form = end_for form (sizes_in j form) (body_in j form) (deletes_in form j)

abbrev pub bytes_in : Job → ℕ → List ℕ → List ℕ
bytes_in j form out = out_for form (sizes_in j form) (body_in j form) (deletes_in form j) out

-- 10 where there is no room for it
unfoldable pub planned_answer : Job → ℕ → ℕ → Written
planned_answer j form room = pick (ltb room (end_in j form)) (refusal 10) (done (end_in j form))

unfoldable pub planned_out : Job → ℕ → List ℕ → List ℕ
planned_out j form out = padded (length out) (pick (ltb (length out) (end_in j form)) [] (take (end_in j form) (bytes_in j form out)))

-- ---- blocks, kept against the entries v

abbrev pub no_plan : List ℕ
no_plan = replicate 320 0

abbrev pub job_for : List ℕ → List Entry → List Block → ℕ → List Range → Job
job_for u v rows n rs = job u rows (words_for u v no_plan (take n rows)) (outcome_for u v no_plan (take n rows)).sections rs

-- a format would change its form
unfoldable pub turned : ℕ → ℕ → Bool → Bool
turned from form formats = pick (eqb from form) false formats

-- too many keys (3), a cut inside a pair (9), a format that would change its form (19), a difference that cannot be spelled (13)
unfoldable pub why_for : ℕ → ℕ → Outcome → Measured → ℕ
why_for from form o m = pick m.crowded 3 (pick o.torn 9 (pick (turned from form o.formats) 19 (pick m.far 13 0)))

abbrev pub kept_why : List ℕ → List Entry → ℕ → ℕ → List Block → ℕ → List Range → ℕ
kept_why u v from form rows n rs = why_for from form (outcome_for u v no_plan (take n rows)) (measured_for form (planned_in (job_for u v rows n rs)))

unfoldable pub kept_answer : List ℕ → List Entry → ℕ → ℕ → List Block → ℕ → List Range → ℕ → Written
kept_answer u v from form rows n rs room =
    pick (eqb (kept_why u v from form rows n rs) 0) (planned_answer (job_for u v rows n rs) form room) (refusal (kept_why u v from form rows n rs))

unfoldable pub kept_out : List ℕ → List Entry → ℕ → ℕ → List Block → ℕ → List Range → List ℕ → List ℕ
kept_out u v from form rows n rs out =
    pick (eqb (kept_why u v from form rows n rs) 0) (planned_out (job_for u v rows n rs) form out) (padded (length out) [])

-- ---- against a vector

unfoldable pub read_answer : List ℕ → Course Entry → ℕ → ℕ → List Block → ℕ → List Range → ℕ → Written
read_answer u c from form rows n rs room = ending c (λ s. kept_answer u (things c) from form rows n rs room) (λ why. refusal why.number)

unfoldable pub read_out : List ℕ → Course Entry → ℕ → ℕ → List Block → ℕ → List Range → List ℕ → List ℕ
read_out u c from form rows n rs out = ending c (λ s. kept_out u (things c) from form rows n rs out) (λ why. padded (length out) [])
