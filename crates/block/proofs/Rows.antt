-- Laws of setters. A field of a row that was set computes; what follows does not.
use mathlib.Core.Path.{◌≡◌, refl}
use mathlib.Core.Bool.{Bool}
use Rattle.text.specs.declared.Part.{Part}
use Rattle.block.specs.declared.Block.{Block}
use Rattle.block.specs.Row.{no_block, left_id, right_id, parent_id}
use Rattle.block.specs.Rows.{head_is, ids_are, root_is, key_is, with_part, mark_is}

-- the five setters name every field: a row is what they make of the row that has no block
pub made : (b : Block)
    → head_is b.client b.clock b.length b.kind
    (ids_are b.has_left (left_id b) b.has_right (right_id b)
    (root_is b.has_parent (parent_id b) b.has_name b.name b.has_key b.key (with_part b.part (mark_is b.mark b.type_number no_block))))
    ≡ b
made b = refl

-- what is set to what it was is the same row
pub same_key : (b : Block) (there : Bool) (p : Part) → there ≡ b.has_key → p ≡ b.key → key_is there p b ≡ b
same_key b there p e f = rw (e, f)
