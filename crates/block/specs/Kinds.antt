-- The kinds of a block, as a row's `kind` has them, and what a kind says. Each is named where it is meant: a number that is none of them says
-- nothing, and 0 is the row that has no block.
use Rattle.std.specs.Prelude.{ℕ, Bool, ◌||◌, eqb}

abbrev pub GC : ℕ
GC = 1

abbrev pub SKIP : ℕ
SKIP = 2

abbrev pub DELETED : ℕ
DELETED = 3

abbrev pub BINARY : ℕ
BINARY = 4

abbrev pub TEXT : ℕ
TEXT = 5

abbrev pub FORMAT : ℕ
FORMAT = 6

abbrev pub TYPE : ℕ
TYPE = 7

abbrev pub ANY : ℕ
ANY = 8

-- ---- which kind

abbrev pub is_gc : ℕ → Bool
is_gc kind = eqb kind GC

abbrev pub is_skip : ℕ → Bool
is_skip kind = eqb kind SKIP

abbrev pub is_deleted : ℕ → Bool
is_deleted kind = eqb kind DELETED

abbrev pub is_binary : ℕ → Bool
is_binary kind = eqb kind BINARY

abbrev pub is_text : ℕ → Bool
is_text kind = eqb kind TEXT

abbrev pub is_format : ℕ → Bool
is_format kind = eqb kind FORMAT

abbrev pub is_type : ℕ → Bool
is_type kind = eqb kind TYPE

abbrev pub is_any : ℕ → Bool
is_any kind = eqb kind ANY

-- ---- what a kind says

-- it has content
unfoldable pub is_item : ℕ → Bool
is_item kind = is_deleted kind || is_binary kind || is_text kind || is_format kind || is_type kind || is_any kind

-- ---- types

-- the highest type number
abbrev pub max_type : ℕ
max_type = 6

-- a type that has a node name: an XML element and an XML hook
unfoldable pub is_named : ℕ → Bool
is_named type = eqb type 3 || eqb type 5
