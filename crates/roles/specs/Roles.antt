-- What each draw of an update's blocks is drawn for: the role of the next one, by what was drawn before. A label for the grammar's draws, which
-- stand in `grammar`; that the labels fit is proved (`explainer`, proofs).
use Rattle.std.specs.Prelude.{ℕ, ◌+◌, ◌-◌, ◌%◌, Bool, ltb, eqb}
use Rattle.numbers.specs.Number.{pick}
use Rattle.numbers.specs.Limits.{max_blocks}
use Rattle.block.specs.Kinds.{max_type, is_named}
use Rattle.roles.specs.declared.Role.{Role}
use Rattle.roles.specs.declared.Role.TheVariants.{Sections, Blocks, Client, FirstClock, Info, SkipLength, GcLength, LeftClient, LeftClock, RightClient, RightClock, ParentInfo, ParentName, ParentClient, ParentClock, Key, DeletedLength, Binary, Text, MarkKey, MarkValue, TypeNumber, NodeName, ListLength, ListValues, Ended, Over}
use Rattle.roles.specs.declared.Plan.{Plan}

-- a role, sections and blocks left, room for blocks; the section's first clock, the block's; its info byte and the byte's place; its length
abbrev pub plan : Role → ℕ → ℕ → ℕ → ℕ → ℕ → ℕ → ℕ → ℕ → Plan
plan r n k m f c i p l = record { role = r; sections = n; blocks = k; room = m; first = f; clock = c; info = i; place = p; length = l }

-- the plan before the first draw
abbrev pub start : Plan
start = plan Sections 0 0 max_blocks 0 0 0 0 0

-- ---- how a plan goes on

unfoldable pub go_to : Role → Plan → Plan
go_to r q = plan r q.sections q.blocks q.room q.first q.clock q.info q.place q.length

-- before so many sections
unfoldable pub section_role : ℕ → Role
section_role n = pick (eqb n 0) Over Blocks

-- so many sections
unfoldable pub sectioned : ℕ → Plan → Plan
sectioned n q = plan (section_role n) n 0 q.room 0 0 0 0 0

-- one section of them, with so many blocks
unfoldable pub announced : ℕ → Plan → Plan
announced k q = plan Client (q.sections - 1) k (q.room - k) 0 0 0 0 0

-- before so many blocks, and then so many sections
unfoldable pub block_role : ℕ → ℕ → Role
block_role k n = pick (eqb k 0) (section_role n) Info

-- behind a block, or a section's head: the next block of this section, which begins where the one before ended; where none is left, the next section
unfoldable pub onward : Plan → Plan
onward q = plan (block_role q.blocks q.sections) q.sections (q.blocks - 1) q.room q.first (q.clock + q.length) 0 0 0

-- the first clock
unfoldable pub headed : ℕ → Plan → Plan
headed c q = onward (plan Ended q.sections q.blocks q.room c c 0 0 0)

-- the info byte, and its place
unfoldable pub informed : Role → ℕ → ℕ → Plan → Plan
informed r i p q = plan r q.sections q.blocks q.room q.first q.clock i p 0

-- the length
unfoldable pub lengthened : Role → ℕ → Plan → Plan
lengthened r n q = plan r q.sections q.blocks q.room q.first q.clock q.info q.place n

-- nothing more of this block is drawn, and it has so many clocks
abbrev pub ended_with : ℕ → Plan → Plan
ended_with n q = lengthened Ended n q

-- ---- what an info byte announces

-- exactly 10 is a Skip, exactly 0 a GC; else a left id, a right id, or neither, and then a parent
unfoldable pub info_role : ℕ → Role
info_role i = pick (eqb i 10) SkipLength (pick (eqb i 0) GcLength (pick (ltb i 64) ParentInfo (pick (ltb i 128) RightClient LeftClient)))

-- by the low five bits
unfoldable pub content_role : ℕ → Role
content_role n =
    pick (eqb n 1) DeletedLength
    (pick (eqb n 3) Binary (pick (eqb n 4) Text (pick (eqb n 6) MarkKey (pick (eqb n 7) TypeNumber (pick (eqb n 8) ListLength Over)))))

abbrev pub to_content : Plan → Plan
to_content q = go_to (content_role (q.info % 32)) q

abbrev pub to_key : Plan → Plan
to_key q = pick (ltb q.info 32) (to_content q) (go_to Key q)

-- behind a left id: a right id, where the info byte has one
unfoldable pub to_right : Plan → Plan
to_right q = pick (ltb (q.info % 128) 64) (to_content q) (go_to RightClient q)

-- a parent info of 1: a name; otherwise an id
unfoldable pub to_parent : ℕ → Plan → Plan
to_parent v q = pick (eqb v 1) (go_to ParentName q) (go_to ParentClient q)

-- a type number too high ends the plan: it is refused
unfoldable pub to_node : ℕ → Plan → Plan
to_node v q = pick (ltb max_type v) (go_to Over q) (pick (is_named v) (go_to NodeName q) (ended_with 1 q))

-- ---- behind a draw: v is the number drawn, or a text's units, and p the place that it is blamed at

unfoldable pub plan_after : Role → Plan → ℕ → ℕ → Plan
plan_after Sections q v p = sectioned v q
plan_after Blocks q v p = announced v q
plan_after Client q v p = go_to FirstClock q
plan_after FirstClock q v p = headed v q
plan_after Info q v p = informed (info_role v) v p q
plan_after SkipLength q v p = ended_with v q
plan_after GcLength q v p = ended_with v q
plan_after LeftClient q v p = go_to LeftClock q
plan_after LeftClock q v p = to_right q
plan_after RightClient q v p = go_to RightClock q
plan_after RightClock q v p = to_content q
plan_after ParentInfo q v p = to_parent v q
plan_after ParentName q v p = to_key q
plan_after ParentClient q v p = go_to ParentClock q
plan_after ParentClock q v p = to_key q
plan_after Key q v p = to_content q
plan_after DeletedLength q v p = ended_with v q
plan_after Binary q v p = ended_with 1 q
plan_after Text q v p = ended_with v q
plan_after MarkKey q v p = go_to MarkValue q
plan_after MarkValue q v p = ended_with 1 q
plan_after TypeNumber q v p = to_node v q
plan_after NodeName q v p = ended_with 1 q
plan_after ListLength q v p = lengthened ListValues v q
plan_after ListValues q v p = go_to Ended q
plan_after Ended q v p = q
plan_after Over q v p = q

unfoldable pub after : Plan → ℕ → ℕ → Plan
after q v p = plan_after q.role q v p

-- ---- what is told of a role

-- its number: what a line's first word says. 5 is the block's own clock, which is not drawn, and 27 the text of a key that has a number
unfoldable pub code_of : Role → ℕ
code_of Sections = 1
code_of Blocks = 2
code_of Client = 3
code_of FirstClock = 4
code_of Info = 6
code_of SkipLength = 7
code_of GcLength = 8
code_of LeftClient = 9
code_of LeftClock = 10
code_of RightClient = 11
code_of RightClock = 12
code_of ParentInfo = 13
code_of ParentName = 14
code_of ParentClient = 15
code_of ParentClock = 16
code_of Key = 17
code_of DeletedLength = 18
code_of Binary = 19
code_of Text = 20
code_of MarkKey = 21
code_of MarkValue = 22
code_of TypeNumber = 23
code_of NodeName = 24
code_of ListLength = 25
code_of ListValues = 26
code_of Ended = 0
code_of Over = 28

abbrev pub own_clock : ℕ
own_clock = 5

abbrev pub key_text : ℕ
key_text = 27

unfoldable pub is_ended : Plan → Bool
is_ended q = eqb (code_of q.role) 0

-- ---- from one block to the next

-- what is drawn next, where a block has ended
unfoldable pub moved_on : Plan → Plan
moved_on q = pick (is_ended q) (onward q) q
