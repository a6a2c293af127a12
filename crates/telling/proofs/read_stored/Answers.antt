-- `telling::read_stored` meets its contract: the function of these bytes.
use mathlib.Core.Path.{sym, ◌∙◌}
use Rattle.cells.specs.Cells.{state_in}
use Rattle.telling.specs.Asked.{stored_in}
use Rattle.decoder.proofs.Laws.{fields-bytes}
use Rattle.telling.proofs.read_stored.Goals as goal

pub returns-in-Bytes : goal.returns-in-Bytes
unfolding stored_in state_in
returns-in-Bytes c = let a = c.args in
    let k = c.read_buf.ensures in
    rw c.in-Bytes.is (k.0, k.1, k.2 ∙ sym (fields-bytes a.form a.update.now (state_in a.w.now)))

pub returns-in-Value : goal.returns-in-Value
unfolding stored_in
returns-in-Value c = rw c.in-Value.is c.read_value.ensures

pub returns-in-Values : goal.returns-in-Values
unfolding stored_in
returns-in-Values c = rw c.in-Values.is c.read_values.ensures
