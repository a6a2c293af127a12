-- Beside Content: what inner functions say and proofs need. No promise comes to it.
use Rattle.std.specs.Prelude.{ℕ, Result, Ok, Err}
use Rattle.numbers.specs.declared.Refusal.{Refusal}
use Rattle.block.specs.declared.Block.{Block}
use Rattle.grammar.specs.Course.{Course, ending}
use Rattle.content.specs.Content.{nth}

unfoldable pub scanned_of : ℕ → Course Block → Result (Block × ℕ) Refusal
scanned_of n c = ending c (λ at. Ok (nth n c, at)) (λ why. Err why)
