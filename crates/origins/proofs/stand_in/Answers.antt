-- `origins::stand_in` meets its contract: the number's column.
use Rattle.cells.specs.Cells.{state_in, at_in}
use Rattle.origins.specs.Numerals.{numeral}
use Rattle.origins.specs.Origins.{stand_in}
use Rattle.origins.proofs.stand_in.Goals as goal

pub returns-in-Client : goal.returns-in-Client
unfolding stand_in numeral state_in
returns-in-Client c = rw c.in-Client.is c.number_stand.ensures

pub returns-in-LeftClock : goal.returns-in-LeftClock
unfolding stand_in numeral state_in
returns-in-LeftClock c = rw c.in-LeftClock.is c.difference_stand.ensures

pub returns-in-RightClock : goal.returns-in-RightClock
unfolding stand_in numeral state_in
returns-in-RightClock c = rw c.in-RightClock.is c.difference_stand-in-RightClock.ensures

pub returns-in-Info : goal.returns-in-Info
unfolding stand_in numeral state_in
returns-in-Info c = rw c.in-Info.is c.byte_stand.ensures

pub returns-in-ParentInfo : goal.returns-in-ParentInfo
unfolding stand_in numeral state_in
returns-in-ParentInfo c = rw c.in-ParentInfo.is c.byte_stand-in-ParentInfo.ensures

pub returns-in-Len : goal.returns-in-Len
unfolding stand_in numeral state_in
returns-in-Len c = rw c.in-Len.is c.number_stand-in-Len.ensures

pub returns-in-TypeNumber : goal.returns-in-TypeNumber
unfolding stand_in numeral state_in
returns-in-TypeNumber c = rw c.in-TypeNumber.is c.number_stand-in-TypeNumber.ensures

pub returns-in-UpTo : goal.returns-in-UpTo
unfolding stand_in numeral state_in at_in
returns-in-UpTo c = rw c.in-UpTo.is c.in_line.ensures
