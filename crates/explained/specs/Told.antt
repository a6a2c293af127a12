-- What an explanation says of its block.
use Rattle.std.specs.Prelude.{ℕ, ◌+◌, ◌≡◌, ◌≢◌, List, [], ◌∷◌}
use Rattle.block.specs.declared.Block.{Block}
use Rattle.decoder.specs.Update.{blocks_of}
use Rattle.content.specs.Content.{nth}
use Rattle.origins.specs.declared.Line.{Line}
use Rattle.explainer.specs.Explanation.{explanation}
use Rattle.explainer.specs.Record.{row_of}

-- the lines of block n, read as a record, are its row; where there is no block n, there is no line
abbrev pub Values-are-fields : Type 0
Values-are-fields = (form : ℕ) (u : List ℕ) (n : ℕ) → row_of (explanation form u n) ≡ nth n (blocks_of form u)

-- block count, client, first clock, clock, and then the block's own: the clock is the first clock and what was added, and it is the block's
pub record Clock-told (ls : List Line) (b : Block) : Type 0 where
  pub count : Line
  pub client : Line
  pub first : Line
  pub clock : Line
  pub own : List Line
  pub lines : ls ≡ count ∷ client ∷ first ∷ clock ∷ own
  pub named : (first.field ≡ 4) × (clock.field ≡ 5)
  pub base : clock.rise.base ≡ first.value
  pub sum : clock.value ≡ clock.rise.base + clock.rise.size
  pub is : b.clock ≡ clock.value

-- where block n has lines
abbrev pub Clock-is : Type 0
Clock-is = (form : ℕ) (u : List ℕ) (n : ℕ) → explanation form u n ≢ [] → Clock-told (explanation form u n) (nth n (blocks_of form u))
