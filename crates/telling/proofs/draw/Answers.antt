-- `telling::draw` meets its contract: the number's function.
use mathlib.Core.Path.{sym, ◌∙◌}
use Rattle.cells.specs.Cells.{state_in}
use Rattle.fields.specs.Fields.{clock_at}
use Rattle.origins.specs.Numerals.{numeral}
use Rattle.decoder.proofs.Laws.{fields-up-to}
use Rattle.telling.proofs.draw.Goals as goal

pub returns-in-Client : goal.returns-in-Client
unfolding numeral clock_at
returns-in-Client c = rw c.in-Client.is c.read_client.ensures

pub returns-in-LeftClock : goal.returns-in-LeftClock
unfolding numeral clock_at
returns-in-LeftClock c = rw c.in-LeftClock.is c.read_clock.ensures

pub returns-in-RightClock : goal.returns-in-RightClock
unfolding numeral clock_at
returns-in-RightClock c = rw c.in-RightClock.is c.read_clock-in-RightClock.ensures

pub returns-in-Info : goal.returns-in-Info
unfolding numeral clock_at
returns-in-Info c = rw c.in-Info.is c.read_info.ensures

pub returns-in-ParentInfo : goal.returns-in-ParentInfo
unfolding numeral clock_at
returns-in-ParentInfo c = rw c.in-ParentInfo.is c.read_parent_info.ensures

pub returns-in-Len : goal.returns-in-Len
unfolding numeral clock_at
returns-in-Len c = rw c.in-Len.is c.read_len.ensures

pub returns-in-TypeNumber : goal.returns-in-TypeNumber
unfolding numeral clock_at
returns-in-TypeNumber c = rw c.in-TypeNumber.is c.read_type.ensures

pub returns-in-UpTo : goal.returns-in-UpTo
unfolding numeral state_in
returns-in-UpTo c = let a = c.args in
    let k = c.read_var.ensures in
    rw c.in-UpTo.is (k.0, k.1 ∙ sym (fields-up-to a.form a.update.now _ (state_in a.w.now)))
