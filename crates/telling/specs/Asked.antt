-- What a plan asks for, as fields of the grammar.
use Rattle.std.specs.Prelude.{ℕ, List}
use Rattle.text.specs.declared.Part.{Part}
use Rattle.grammar.specs.Grammar as grammar
use Rattle.grammar.specs.Course.{Drawn}
use Rattle.decoder.specs.States.{State}
use Rattle.decoder.specs.ColumnedInner.{fields}
use Rattle.origins.specs.Numerals.{numeral}
use Rattle.telling.specs.declared.Stored as telling-stored
use Rattle.telling.specs.declared.Stored.TheVariants as stored-as
use Rattle.telling.specs.declared.Asked as telling-asked
use Rattle.telling.specs.declared.Asked.TheVariants as asked

unfoldable pub stored : telling-stored.Stored → grammar.Field
stored stored-as.Bytes = grammar.bytes
stored (stored-as.Value blame) = grammar.value blame
stored (stored-as.Values blame n) = grammar.values blame n

-- what is drawn of it
unfoldable pub stored_in : ℕ → List ℕ → telling-stored.Stored → State → Drawn State Part
stored_in form u stored-as.Bytes s = fields form u grammar.bytes s
stored_in form u (stored-as.Value blame) s = fields form u (grammar.value blame) s
stored_in form u (stored-as.Values blame n) s = fields form u (grammar.values blame n) s

unfoldable pub asks : telling-asked.Asked → grammar.Field
asks (asked.Number n) = grammar.number (numeral n)
asks asked.Text = grammar.text
asks asked.Key = grammar.key
asks (asked.Stored x) = stored x
