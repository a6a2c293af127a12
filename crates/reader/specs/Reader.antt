-- What so many rows hold of the blocks of an update: the blocks, then rows without one; or no block at all after a refusal. And where the words then
-- stand; and whether no key can be read.
use Rattle.numbers.specs.declared.Refusal.{Refusal}
use Rattle.std.specs.Prelude.{ℕ, ◌-◌, ◌≡◌, List, ◌++◌, Bool, true, eqb, length, get_or, replicate, Result, Ok, Err}
use Rattle.numbers.specs.Number.{pick}
use Rattle.block.specs.declared.Block.{Block}
use Rattle.block.specs.Row.{no_block}
use Rattle.grammar.specs.Course.{CourseTo, thing, over, stopped, Course, fit, things, ending}
use Rattle.decoder.specs.States.{State, moved_to}
use Rattle.cells.specs.Cells.{state_in}

unfoldable pub filled_of : ℕ → Course Block → Result (ℕ × ℕ) Refusal
filled_of n c = ending (fit n c) (λ at. Ok (length (things (fit n c)), at)) (λ why. Err why)

unfoldable pub rows_of : ℕ → Course Block → List Block
rows_of n c = ending (fit n c) (λ at. things (fit n c) ++ replicate (n - length (things (fit n c))) no_block) (λ why. replicate n no_block)

-- the words v hold the columns as they are where the run ends, if it does
unfoldable pub Stands : {E A : Type 0} → CourseTo State E A → List ℕ → Type 0
Stands (thing e p c) v = Stands c v
Stands (over a s) v = s ≡ moved_to (state_in v) s.at
Stands (stopped why) v = Unit {0}

-- no key can be read by its number: in form 1 none has one; in form 2 byte 1 is the length of the key column
unfoldable pub keyless : ℕ → List ℕ → Bool
keyless form u = pick (eqb form 1) true (eqb (get_or u 1 0) 0)
