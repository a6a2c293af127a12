-- The numbers that are told, as numbers of the grammar.
use Rattle.grammar.specs.Grammar as grammar
use Rattle.origins.specs.declared.Number as origins-number
use Rattle.origins.specs.declared.Number.TheVariants as number

unfoldable pub numeral : origins-number.Number → grammar.Number
numeral number.Client = grammar.client
numeral number.LeftClock = grammar.left_clock
numeral number.RightClock = grammar.right_clock
numeral number.Info = grammar.info
numeral number.ParentInfo = grammar.parent_info
numeral number.Len = grammar.len
numeral number.TypeNumber = grammar.type_number
numeral (number.UpTo most) = grammar.up_to most
