-- What the passes over the block table make: a plan, and the tokens that it names.
use Rattle.std.specs.Prelude.{ℕ, List, length}
use Rattle.block.specs.declared.Block.{Block}
use Rattle.vector.specs.Vector.{Entry}
use Rattle.tokens.specs.Tokens.{Token}
use Rattle.tokens.specs.Desk.{Room}
use Rattle.kept.specs.declared.plan.Planning.{Planning}
use Rattle.kept.specs.Plan.{unplanned, plan_all, plan_all_words, ended_count, ended_words, planned_from, stops_of}
use Rattle.records.specs.Stops.{stops_tokens}
use Rattle.encoder.specs.declared.steps.Outcome.{Outcome}

-- ---- the plan

unfoldable pub outcome_of : List ℕ → Planning → Outcome
outcome_of w s = record { sections = ended_count w s; torn = s.torn; formats = s.formats }

unfoldable pub outcome_for : List ℕ → List Entry → List ℕ → List Block → Outcome
outcome_for u v w bs = outcome_of (plan_all_words u v w unplanned 0 bs) (plan_all u v w unplanned 0 bs)

unfoldable pub words_for : List ℕ → List Entry → List ℕ → List Block → List ℕ
words_for u v w bs = ended_words (plan_all_words u v w unplanned 0 bs) (plan_all u v w unplanned 0 bs)

-- ---- the rows that n planned sections name, as tokens

unfoldable pub planned_tokens : List ℕ → List Block → List ℕ → ℕ → List Token
planned_tokens u rows w n = stops_tokens u rows (length rows) (stops_of rows (planned_from w 0 n))

-- no key is to be remembered of them, whatever their texts are
abbrev pub Plain : ℕ → List Block → List ℕ → ℕ → Type 0
Plain form rows w n = (u lanes : List ℕ) → Room form (planned_tokens u rows w n) lanes
