-- The row that has no block, and the ids that a row has.
use Rattle.std.specs.Prelude.{ℕ, Bool, false}
use Rattle.text.specs.declared.Part.{Part}
use Rattle.text.specs.declared.Units.{Units}
use Rattle.block.specs.declared.Id.{Id}
use Rattle.block.specs.declared.Block.{Block}

abbrev pub no_id : Id
no_id = record { client = 0; clock = 0 }

abbrev pub no_part : Part
no_part = record { place = 0; bytes = record { 0 = 0 } }

-- ---- a row by all that it has: every field is named here

-- client, clock, length and kind; a left id, a right id, a parent by its id, by its name, and a key, each if it is there; part, mark and type number
abbrev pub row : ℕ → ℕ → Units → ℕ → Bool → Id → Bool → Id → Bool → Id → Bool → Part → Bool → Part → Part → Part → ℕ → Block
row client clock n kind l left r right h parent m name k key part mark type =
    record {
      client = client;
      clock = clock;
      length = n;
      kind = kind;
      has_left = l;
      left_client = left.client;
      left_clock = left.clock;
      has_right = r;
      right_client = right.client;
      right_clock = right.clock;
      has_parent = h;
      parent_client = parent.client;
      parent_clock = parent.clock;
      has_name = m;
      name = name;
      has_key = k;
      key = key;
      part = part;
      mark = mark;
      type_number = type;
    }

abbrev pub no_block : Block
no_block = row 0 0 (record { 0 = 0 }) 0 false no_id false no_id false no_id false no_part false no_part no_part no_part 0

-- ---- the ids of a row, whose clients and clocks stand apart

abbrev pub left_id : Block → Id
left_id b = record { client = b.left_client; clock = b.left_clock }

abbrev pub right_id : Block → Id
right_id b = record { client = b.right_client; clock = b.right_clock }

abbrev pub parent_id : Block → Id
parent_id b = record { client = b.parent_client; clock = b.parent_clock }
