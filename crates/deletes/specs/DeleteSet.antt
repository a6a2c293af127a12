-- What is read of the delete set of an update: its ranges in normal form, as far as the words lent take them.
use Rattle.numbers.specs.declared.Refusal.{Refusal}
use Rattle.std.specs.Prelude.{ℕ, ◌/◌, List, [], length, Result, Ok, Err}
use Rattle.numbers.specs.Output.{padded}
use Rattle.grammar.specs.Course.{Course, fit, things, ending}
use Rattle.decoder.specs.Update.{delete_set}
use Rattle.ranges.specs.Ranges.{Range, normal}
use Rattle.ranges.specs.Table.{flat}

-- what so many words take of it, three a range
unfoldable pub taken : ℕ → List ℕ → ℕ → ℕ → Course Range
taken form u at n = fit (n / 3) (delete_set form u at)

-- read into n words: how many ranges the normal form has, or why not
unfoldable pub set_of : ℕ → List ℕ → ℕ → ℕ → Result (ℕ × ℕ) Refusal
set_of form u at n = ending (taken form u at n) (λ t. Ok (length (normal (things (taken form u at n))), t)) Err

-- what the words are then: the normal form and zeros, or zeros
unfoldable pub words_of : ℕ → List ℕ → ℕ → ℕ → List ℕ
words_of form u at n = padded n (ending (taken form u at n) (λ t. flat (normal (things (taken form u at n)))) (λ why. []))
