-- Beside Columns: which column each of the writers' is, for proofs only. No promise comes to it.
use Rattle.runs.specs.declared.ColumnKind.{ColumnKind}
use Rattle.runs.specs.declared.ColumnKind.TheVariants.{Number, Difference, Byte}
use Rattle.meaning.specs.Columns.{Coding, numbers, differences, octets}

unfoldable pub kind_of : ColumnKind → Coding
kind_of Number = numbers
kind_of Difference = differences
kind_of Byte = octets
