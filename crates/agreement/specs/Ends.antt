-- An update is read whole.
use Rattle.std.specs.Prelude.{ℕ, List}
use Rattle.grammar.specs.Course.{fit}
use Rattle.grammar.specs.Whole.{Ends}
use Rattle.decoder.specs.Update.{blocks_of, delete_set}

-- its blocks to a place, and from there its delete set to another, into b block rows and r range rows
pub record Whole (form : ℕ) (u : List ℕ) (b r : ℕ) : Type 0 where
  pub middle : ℕ
  pub last : ℕ
  pub blocks : Ends (fit b (blocks_of form u)) middle
  pub ranges : Ends (fit r (delete_set form u middle)) last
