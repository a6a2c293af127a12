-- `telling::ask` meets its contract: a field for each role.
use mathlib.Core.Path.{◌≡◌, sym, ap}
use Rattle.roles.specs.declared.Role.{Role}
use Rattle.roles.specs.declared.Plan.{Plan}
use Rattle.origins.specs.Numerals.{numeral}
use Rattle.telling.specs.Asked.{stored, asks}
use Rattle.telling.specs.TellingInner.{field_of}
use Rattle.telling.proofs.ask.Goals as goal

by-role : (q : Plan) {r : Role} → q.role ≡ r → field_of r q ≡ field_of q.role q
by-role q e = ap (λ (r : Role). field_of r q) (sym e)

pub returns-in-Sections : goal.returns-in-Sections
unfolding asks numeral stored field_of
returns-in-Sections c = by-role c.args.q c.in-Sections.is

pub returns-in-Blocks : goal.returns-in-Blocks
unfolding asks numeral stored field_of
returns-in-Blocks c = by-role c.args.q c.in-Blocks.is

pub returns-in-Client : goal.returns-in-Client
unfolding asks numeral stored field_of
returns-in-Client c = by-role c.args.q c.in-Client.is

pub returns-in-FirstClock : goal.returns-in-FirstClock
unfolding asks numeral stored field_of
returns-in-FirstClock c = by-role c.args.q c.in-FirstClock.is

pub returns-in-Info : goal.returns-in-Info
unfolding asks numeral stored field_of
returns-in-Info c = by-role c.args.q c.in-Info.is

pub returns-in-SkipLength : goal.returns-in-SkipLength
unfolding asks numeral stored field_of
returns-in-SkipLength c = by-role c.args.q c.in-SkipLength.is

pub returns-in-GcLength : goal.returns-in-GcLength
unfolding asks numeral stored field_of
returns-in-GcLength c = by-role c.args.q c.in-GcLength.is

pub returns-in-LeftClient : goal.returns-in-LeftClient
unfolding asks numeral stored field_of
returns-in-LeftClient c = by-role c.args.q c.in-LeftClient.is

pub returns-in-LeftClock : goal.returns-in-LeftClock
unfolding asks numeral stored field_of
returns-in-LeftClock c = by-role c.args.q c.in-LeftClock.is

pub returns-in-RightClient : goal.returns-in-RightClient
unfolding asks numeral stored field_of
returns-in-RightClient c = by-role c.args.q c.in-RightClient.is

pub returns-in-RightClock : goal.returns-in-RightClock
unfolding asks numeral stored field_of
returns-in-RightClock c = by-role c.args.q c.in-RightClock.is

pub returns-in-ParentInfo : goal.returns-in-ParentInfo
unfolding asks numeral stored field_of
returns-in-ParentInfo c = by-role c.args.q c.in-ParentInfo.is

pub returns-in-ParentName : goal.returns-in-ParentName
unfolding asks numeral stored field_of
returns-in-ParentName c = by-role c.args.q c.in-ParentName.is

pub returns-in-ParentClient : goal.returns-in-ParentClient
unfolding asks numeral stored field_of
returns-in-ParentClient c = by-role c.args.q c.in-ParentClient.is

pub returns-in-ParentClock : goal.returns-in-ParentClock
unfolding asks numeral stored field_of
returns-in-ParentClock c = by-role c.args.q c.in-ParentClock.is

pub returns-in-Key : goal.returns-in-Key
unfolding asks numeral stored field_of
returns-in-Key c = by-role c.args.q c.in-Key.is

pub returns-in-DeletedLength : goal.returns-in-DeletedLength
unfolding asks numeral stored field_of
returns-in-DeletedLength c = by-role c.args.q c.in-DeletedLength.is

pub returns-in-Binary : goal.returns-in-Binary
unfolding asks numeral stored field_of
returns-in-Binary c = by-role c.args.q c.in-Binary.is

pub returns-in-Text : goal.returns-in-Text
unfolding asks numeral stored field_of
returns-in-Text c = by-role c.args.q c.in-Text.is

pub returns-in-MarkKey : goal.returns-in-MarkKey
unfolding asks numeral stored field_of
returns-in-MarkKey c = by-role c.args.q c.in-MarkKey.is

pub returns-in-MarkValue : goal.returns-in-MarkValue
unfolding asks numeral stored field_of
returns-in-MarkValue c = by-role c.args.q c.in-MarkValue.is

pub returns-in-TypeNumber : goal.returns-in-TypeNumber
unfolding asks numeral stored field_of
returns-in-TypeNumber c = by-role c.args.q c.in-TypeNumber.is

pub returns-in-NodeName : goal.returns-in-NodeName
unfolding asks numeral stored field_of
returns-in-NodeName c = by-role c.args.q c.in-NodeName.is

pub returns-in-ListLength : goal.returns-in-ListLength
unfolding asks numeral stored field_of
returns-in-ListLength c = by-role c.args.q c.in-ListLength.is

pub returns-in-ListValues : goal.returns-in-ListValues
unfolding asks numeral stored field_of
returns-in-ListValues c = by-role c.args.q c.in-ListValues.is

pub returns-in-Ended : goal.returns-in-Ended
unfolding asks numeral stored field_of
returns-in-Ended c = by-role c.args.q c.in-Ended.is

pub returns-in-Over : goal.returns-in-Over
unfolding asks numeral stored field_of
returns-in-Over c = by-role c.args.q c.in-Over.is
