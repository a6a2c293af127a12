-- The whole update as one grammar: blocks, then delete ranges.
use Rattle.block.specs.declared.Block.{Block}
use Rattle.ranges.specs.Ranges.{Range}
use Rattle.grammar.specs.Grammar.{Grammar, ask, emit, stop, done}
use Rattle.grammar.specs.Grammar.{◌>>=◌}
use Rattle.grammar.specs.Blocks.{all_blocks}
use Rattle.grammar.specs.Deletes.{all_ranges}

pub data Row : Type 0 where
  block : Block → Row
  range : Range → Row

unfoldable pub each : {E F A : Type 0} → (E → F) → Grammar E A → Grammar F A
each g (ask f k) = ask f (λ a. each g (k a))
each g (emit e p x) = emit (g e) p (each g x)
each g (stop n p) = stop n p
each g (done a) = done a

unfoldable pub an_update : Grammar Row (Unit {0})
an_update = each block all_blocks >>= λ _. each range all_ranges
