-- `origins::base_of` meets its contract: what the column gave last.
use mathlib.Core.Path.{refl}
use Rattle.cells.specs.Cells.{cell, differences_in, state_in}
use Rattle.origins.specs.Numerals.{numeral}
use Rattle.origins.specs.Origins.{base_of}
use Rattle.origins.proofs.base_of.Goals as goal

pub returns-in-Client : goal.returns-in-Client
unfolding base_of numeral state_in differences_in cell
returns-in-Client c = rw c.in-Client.is refl

pub returns-in-LeftClock : goal.returns-in-LeftClock
unfolding base_of numeral state_in differences_in cell
returns-in-LeftClock c = rw c.in-LeftClock.is refl

pub returns-in-RightClock : goal.returns-in-RightClock
unfolding base_of numeral state_in differences_in cell
returns-in-RightClock c = rw c.in-RightClock.is refl

pub returns-in-Info : goal.returns-in-Info
unfolding base_of numeral state_in differences_in cell
returns-in-Info c = rw c.in-Info.is refl

pub returns-in-ParentInfo : goal.returns-in-ParentInfo
unfolding base_of numeral state_in differences_in cell
returns-in-ParentInfo c = rw c.in-ParentInfo.is refl

pub returns-in-Len : goal.returns-in-Len
unfolding base_of numeral state_in differences_in cell
returns-in-Len c = rw c.in-Len.is refl

pub returns-in-TypeNumber : goal.returns-in-TypeNumber
unfolding base_of numeral state_in differences_in cell
returns-in-TypeNumber c = rw c.in-TypeNumber.is refl

pub returns-in-UpTo : goal.returns-in-UpTo
unfolding base_of numeral state_in differences_in cell
returns-in-UpTo c = rw c.in-UpTo.is refl
