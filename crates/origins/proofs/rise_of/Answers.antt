-- `origins::rise_of` meets its contract: by the column's difference.
use Rattle.cells.specs.Cells.{cell, differences_in, state_in}
use Rattle.origins.specs.Numerals.{numeral}
use Rattle.origins.specs.Origins.{rise_of}
use Rattle.origins.proofs.rise_of.Goals as goal

pub returns-in-Client : goal.returns-in-Client
unfolding rise_of numeral state_in differences_in cell
returns-in-Client c = rw c.in-Client.is c.no_rise.ensures

pub returns-in-LeftClock : goal.returns-in-LeftClock
unfolding rise_of numeral state_in differences_in cell
returns-in-LeftClock c = rw c.in-LeftClock.is c.rising.ensures

pub returns-in-RightClock : goal.returns-in-RightClock
unfolding rise_of numeral state_in differences_in cell
returns-in-RightClock c = rw c.in-RightClock.is c.rising-in-RightClock.ensures

pub returns-in-Info : goal.returns-in-Info
unfolding rise_of numeral state_in differences_in cell
returns-in-Info c = rw c.in-Info.is c.no_rise-in-Info.ensures

pub returns-in-ParentInfo : goal.returns-in-ParentInfo
unfolding rise_of numeral state_in differences_in cell
returns-in-ParentInfo c = rw c.in-ParentInfo.is c.no_rise-in-ParentInfo.ensures

pub returns-in-Len : goal.returns-in-Len
unfolding rise_of numeral state_in differences_in cell
returns-in-Len c = rw c.in-Len.is c.no_rise-in-Len.ensures

pub returns-in-TypeNumber : goal.returns-in-TypeNumber
unfolding rise_of numeral state_in differences_in cell
returns-in-TypeNumber c = rw c.in-TypeNumber.is c.no_rise-in-TypeNumber.ensures

pub returns-in-UpTo : goal.returns-in-UpTo
unfolding rise_of numeral state_in differences_in cell
returns-in-UpTo c = rw c.in-UpTo.is c.no_rise-in-UpTo.ensures
