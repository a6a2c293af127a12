-- Whether an update reads, from its form to its delete set.
use Rattle.std.specs.Prelude.{ℕ, List, Result, Ok, Err}
use Rattle.numbers.specs.declared.Refusal.{Refusal}
use Rattle.grammar.specs.Course.{ending}
use Rattle.decoder.specs.Update.{blocks_of, delete_set}

unfoldable pub whole_of : ℕ → List ℕ → Result (Unit {0}) Refusal
whole_of form u = ending (blocks_of form u) (λ at. ending (delete_set form u at) (λ e. Ok tt) (λ why. Err why)) (λ why. Err why)
