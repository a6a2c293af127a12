-- A row with something set. Five setters have every field: what stands first in a row, its ids, its root, its part, its mark. All others are made of
-- them, and so is every record of a block, from the row that has no block or from another: a field more is said in `row` and here.
use Rattle.std.specs.Prelude.{ℕ, Bool, true, false}
use Rattle.text.specs.declared.Part.{Part}
use Rattle.text.specs.declared.Units.{Units}
use Rattle.block.specs.declared.Id.{Id}
use Rattle.block.specs.declared.Block.{Block}
use Rattle.block.specs.Row.{no_id, no_part, row, no_block, left_id, right_id, parent_id}

-- ---- every field

-- client, clock, length and kind
abbrev pub head_is : ℕ → ℕ → Units → ℕ → Block → Block
head_is client clock n kind b =
    row client clock n kind b.has_left (left_id b) b.has_right (right_id b)
    b.has_parent (parent_id b) b.has_name b.name b.has_key b.key b.part b.mark b.type_number

-- a left and a right id, each if it is there
abbrev pub ids_are : Bool → Id → Bool → Id → Block → Block
ids_are l i r j b =
    row b.client b.clock b.length b.kind l i r j
    b.has_parent (parent_id b) b.has_name b.name b.has_key b.key b.part b.mark b.type_number

-- a parent by its id, a parent by its name, and a key
abbrev pub root_is : Bool → Id → Bool → Part → Bool → Part → Block → Block
root_is h i n p k q b =
    row b.client b.clock b.length b.kind b.has_left (left_id b) b.has_right (right_id b)
    h i n p k q b.part b.mark b.type_number

-- the stored part
abbrev pub with_part : Part → Block → Block
with_part p b =
    row b.client b.clock b.length b.kind b.has_left (left_id b) b.has_right (right_id b)
    b.has_parent (parent_id b) b.has_name b.name b.has_key b.key p b.mark b.type_number

-- the mark, and the type number
abbrev pub mark_is : Part → ℕ → Block → Block
mark_is p type b =
    row b.client b.clock b.length b.kind b.has_left (left_id b) b.has_right (right_id b)
    b.has_parent (parent_id b) b.has_name b.name b.has_key b.key b.part p type

-- ---- one of them

abbrev pub starting_at : ℕ → Block → Block
starting_at k b = head_is b.client k b.length b.kind b

abbrev pub lasting : ℕ → Block → Block
lasting n b = head_is b.client b.clock (record { 0 = n }) b.kind b

abbrev pub left_is : Bool → Id → Block → Block
left_is there i b = ids_are there i b.has_right (right_id b) b

abbrev pub right_is : Bool → Id → Block → Block
right_is there i b = ids_are b.has_left (left_id b) there i b

abbrev pub parent_is : Bool → Id → Block → Block
parent_is there i b = root_is there i b.has_name b.name b.has_key b.key b

abbrev pub name_is : Bool → Part → Block → Block
name_is there p b = root_is b.has_parent (parent_id b) there p b.has_key b.key b

abbrev pub key_is : Bool → Part → Block → Block
key_is there p b = root_is b.has_parent (parent_id b) b.has_name b.name there p b

abbrev pub with_mark : Part → Block → Block
with_mark p b = mark_is p b.type_number b

abbrev pub with_type : ℕ → Block → Block
with_type type b = mark_is b.mark type b

-- ---- there, and not

abbrev pub with_left : Id → Block → Block
with_left i b = left_is true i b

abbrev pub with_right : Id → Block → Block
with_right i b = right_is true i b

abbrev pub with_parent : Id → Block → Block
with_parent i b = parent_is true i b

abbrev pub with_name : Part → Block → Block
with_name p b = name_is true p b

abbrev pub with_key : Part → Block → Block
with_key p b = key_is true p b

abbrev pub without_parent : Block → Block
without_parent b = parent_is false no_id b

abbrev pub without_name : Block → Block
without_name b = name_is false no_part b

-- ---- at once

-- a row with its place, its length and its kind alone
abbrev pub plain : ℕ → ℕ → ℕ → ℕ → Block
plain client clock len kind = head_is client clock (record { 0 = len }) kind no_block

abbrev pub with_content : ℕ → Units → Part → Block → Block
with_content kind n p b = head_is b.client b.clock n kind (with_part p b)
