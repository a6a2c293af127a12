-- Updates worked by hand, in either form: their bytes, most of them as Yjs 13.5.43 writes them, and the rows that they are. What is said of each is
-- computed from the definitions (proofs/ReadSo), so a mistake that code and definition shared would show here.
use Rattle.std.specs.Prelude.{ℕ, ◌≡◌, List, [], ◌∷◌}
use Rattle.numbers.specs.Number.{none}
use Rattle.text.specs.declared.Part.{Part}
use Rattle.block.specs.declared.Id.{Id}
use Rattle.block.specs.declared.Block.{Block}
use Rattle.block.specs.Rows.{plain, with_left, with_right, with_parent, with_name, with_key, with_part, with_type}
use Rattle.block.specs.Kinds.{GC, SKIP, DELETED, BINARY, TEXT, TYPE, ANY}
use Rattle.ranges.specs.Ranges.{Range}
use Rattle.ranges.specs.Table.{range}
use Rattle.updates.specs.Promises.{reading}

-- ---- the words of the examples

abbrev pub id : ℕ → ℕ → Id
id client clock = record { client = client; clock = clock }

-- so many bytes from a place on
abbrev pub at : ℕ → ℕ → Part
at place n = record { place = place; bytes = record { 0 = n } }

-- the stored part, and a parent's name of one byte
abbrev pub text : ℕ → ℕ → Block → Block
text place n b = with_part (at place n) b

abbrev pub named : ℕ → Block → Block
named place b = with_name (at place 1) b

-- an update of a form is read as these blocks and these delete ranges
pub record Read : Type 0 where
  pub form : ℕ
  pub bytes : List ℕ
  pub blocks : List Block
  pub ranges : List Range

abbrev pub read : ℕ → List ℕ → List Block → List Range → Read
read form u bs rs = record { form = form; bytes = u; blocks = bs; ranges = rs }

abbrev pub Reads : Read → Type 0
Reads e = reading e.form e.bytes 4 4 ≡ record { refusal = none; blocks = e.blocks; ranges = e.ranges }

-- ---- the examples

-- Yjs: "ab", and "x" put between: a left and a right id
abbrev pub between1 : Read
between1 =
    read 1
    (0x01 ∷ 0x03 ∷ 0x05 ∷ 0x00 ∷ 0x04 ∷ 0x01 ∷ 0x01 ∷ 0x74 ∷ 0x01 ∷ 0x61 ∷ 0x84 ∷ 0x05 ∷ 0x00 ∷ 0x01 ∷ 0x62 ∷ 0xc4
    ∷ 0x05 ∷ 0x00 ∷ 0x05 ∷ 0x01 ∷ 0x01 ∷ 0x78 ∷ 0x00 ∷ [])
    (named 7 (text 9 1 (plain 5 0 1 TEXT))
    ∷ with_left (id 5 0) (text 14 1 (plain 5 1 1 TEXT))
    ∷ with_left (id 5 0) (with_right (id 5 1) (text 21 1 (plain 5 2 1 TEXT))) ∷ [])
    []

abbrev pub between2 : Read
between2 =
    read 2
    (0x00 ∷ 0x00 ∷ 0x02 ∷ 0x45 ∷ 0x02 ∷ 0x02 ∷ 0x01 ∷ 0x00 ∷ 0x01 ∷ 0x02 ∷ 0x05 ∷ 0x04 ∷ 0x00 ∷ 0x84 ∷ 0x00 ∷ 0xc4
    ∷ 0x07 ∷ 0x04 ∷ 0x74 ∷ 0x61 ∷ 0x62 ∷ 0x78 ∷ 0x41 ∷ 0x02 ∷ 0x01 ∷ 0x01 ∷ 0x00 ∷ 0x00 ∷ 0x01 ∷ 0x03 ∷ 0x00 ∷ 0x00 ∷ [])
    (named 18 (text 19 1 (plain 5 0 1 TEXT))
    ∷ with_left (id 5 0) (text 20 1 (plain 5 1 1 TEXT))
    ∷ with_left (id 5 0) (with_right (id 5 1) (text 21 1 (plain 5 2 1 TEXT))) ∷ [])
    []

-- Yjs: a binary in a map, under a key
abbrev pub keyed1 : Read
keyed1 =
    read 1
    (0x01 ∷ 0x01 ∷ 0x05 ∷ 0x00 ∷ 0x23 ∷ 0x01 ∷ 0x01 ∷ 0x6d ∷ 0x01 ∷ 0x6b ∷ 0x01 ∷ 0x07 ∷ 0x00 ∷ [])
    (named 7 (with_key (at 9 1) (text 11 1 (plain 5 0 1 BINARY))) ∷ [])
    []

abbrev pub keyed2 : Read
keyed2 =
    read 2
    (0x00 ∷ 0x00 ∷ 0x01 ∷ 0x05 ∷ 0x00 ∷ 0x00 ∷ 0x01 ∷ 0x23 ∷ 0x05 ∷ 0x02 ∷ 0x6d ∷ 0x6b ∷ 0x41 ∷ 0x00 ∷ 0x01 ∷ 0x01
    ∷ 0x00 ∷ 0x00 ∷ 0x01 ∷ 0x01 ∷ 0x00 ∷ 0x01 ∷ 0x07 ∷ 0x00 ∷ [])
    (named 10 (with_key (at 11 1) (text 22 1 (plain 5 0 1 BINARY))) ∷ [])
    []

-- Yjs: a text type in a map, and a letter in it, whose parent is an id
abbrev pub nested1 : Read
nested1 =
    read 1
    (0x01 ∷ 0x02 ∷ 0x05 ∷ 0x00 ∷ 0x27 ∷ 0x01 ∷ 0x01 ∷ 0x6d ∷ 0x01 ∷ 0x74 ∷ 0x02 ∷ 0x04 ∷ 0x00 ∷ 0x05 ∷ 0x00 ∷ 0x01
    ∷ 0x71 ∷ 0x00 ∷ [])
    (named 7 (with_key (at 9 1) (with_type 2 (plain 5 0 1 TYPE)))
    ∷ with_parent (id 5 0) (text 16 1 (plain 5 1 1 TEXT)) ∷ [])
    []

abbrev pub nested2 : Read
nested2 =
    read 2
    (0x00 ∷ 0x00 ∷ 0x02 ∷ 0x45 ∷ 0x00 ∷ 0x01 ∷ 0x00 ∷ 0x00 ∷ 0x03 ∷ 0x27 ∷ 0x00 ∷ 0x04 ∷ 0x06 ∷ 0x03 ∷ 0x6d ∷ 0x74
    ∷ 0x71 ∷ 0x41 ∷ 0x01 ∷ 0x03 ∷ 0x01 ∷ 0x00 ∷ 0x00 ∷ 0x01 ∷ 0x02 ∷ 0x00 ∷ 0x01 ∷ 0x02 ∷ 0x00 ∷ 0x00 ∷ [])
    (named 14 (with_key (at 15 1) (with_type 2 (plain 5 0 1 TYPE)))
    ∷ with_parent (id 5 0) (text 16 1 (plain 5 1 1 TEXT)) ∷ [])
    []

-- Yjs: client 9 goes on behind client 5
abbrev pub others1 : Read
others1 =
    read 1
    (0x02 ∷ 0x01 ∷ 0x09 ∷ 0x00 ∷ 0x84 ∷ 0x05 ∷ 0x00 ∷ 0x01 ∷ 0x62 ∷ 0x01 ∷ 0x05 ∷ 0x00 ∷ 0x04 ∷ 0x01 ∷ 0x01 ∷ 0x74
    ∷ 0x01 ∷ 0x61 ∷ 0x00 ∷ [])
    (with_left (id 5 0) (text 8 1 (plain 9 0 1 TEXT))
    ∷ named 15 (text 17 1 (plain 5 0 1 TEXT)) ∷ [])
    []

abbrev pub others2 : Read
others2 =
    read 2
    (0x00 ∷ 0x00 ∷ 0x03 ∷ 0x09 ∷ 0x45 ∷ 0x00 ∷ 0x01 ∷ 0x00 ∷ 0x00 ∷ 0x03 ∷ 0x84 ∷ 0x00 ∷ 0x04 ∷ 0x06 ∷ 0x03 ∷ 0x62
    ∷ 0x74 ∷ 0x61 ∷ 0x41 ∷ 0x01 ∷ 0x01 ∷ 0x01 ∷ 0x00 ∷ 0x00 ∷ 0x02 ∷ 0x01 ∷ 0x00 ∷ 0x01 ∷ 0x00 ∷ 0x00 ∷ [])
    (with_left (id 5 0) (text 15 1 (plain 9 0 1 TEXT))
    ∷ named 16 (text 17 1 (plain 5 0 1 TEXT)) ∷ [])
    []

-- Yjs: "abc" without its "b"
abbrev pub deleted1 : Read
deleted1 =
    read 1
    (0x01 ∷ 0x03 ∷ 0x05 ∷ 0x00 ∷ 0x04 ∷ 0x01 ∷ 0x01 ∷ 0x74 ∷ 0x01 ∷ 0x61 ∷ 0x81 ∷ 0x05 ∷ 0x00 ∷ 0x01 ∷ 0x84 ∷ 0x05
    ∷ 0x01 ∷ 0x01 ∷ 0x63 ∷ 0x01 ∷ 0x05 ∷ 0x01 ∷ 0x01 ∷ 0x01 ∷ [])
    (named 7 (text 9 1 (plain 5 0 1 TEXT))
    ∷ with_left (id 5 0) (plain 5 1 1 DELETED)
    ∷ with_left (id 5 1) (text 18 1 (plain 5 2 1 TEXT)) ∷ [])
    (range 5 1 1 ∷ [])

abbrev pub deleted2 : Read
deleted2 =
    read 2
    (0x00 ∷ 0x00 ∷ 0x02 ∷ 0x45 ∷ 0x01 ∷ 0x02 ∷ 0x00 ∷ 0x02 ∷ 0x00 ∷ 0x05 ∷ 0x04 ∷ 0x00 ∷ 0x81 ∷ 0x00 ∷ 0x84 ∷ 0x06
    ∷ 0x03 ∷ 0x74 ∷ 0x61 ∷ 0x63 ∷ 0x41 ∷ 0x01 ∷ 0x01 ∷ 0x01 ∷ 0x00 ∷ 0x01 ∷ 0x01 ∷ 0x01 ∷ 0x03 ∷ 0x00 ∷ 0x01 ∷ 0x05
    ∷ 0x01 ∷ 0x01 ∷ 0x00 ∷ [])
    (named 17 (text 18 1 (plain 5 0 1 TEXT))
    ∷ with_left (id 5 0) (plain 5 1 1 DELETED)
    ∷ with_left (id 5 1) (text 19 1 (plain 5 2 1 TEXT)) ∷ [])
    (range 5 1 1 ∷ [])

-- Yjs: a type deleted, and what was in it collected (GC)
abbrev pub collected1 : Read
collected1 =
    read 1
    (0x01 ∷ 0x02 ∷ 0x05 ∷ 0x00 ∷ 0x21 ∷ 0x01 ∷ 0x01 ∷ 0x6d ∷ 0x01 ∷ 0x74 ∷ 0x01 ∷ 0x00 ∷ 0x02 ∷ 0x01 ∷ 0x05 ∷ 0x01
    ∷ 0x00 ∷ 0x03 ∷ [])
    (named 7 (with_key (at 9 1) (plain 5 0 1 DELETED))
    ∷ plain 5 1 2 GC ∷ [])
    (range 5 0 3 ∷ [])

abbrev pub collected2 : Read
collected2 =
    read 2
    (0x00 ∷ 0x00 ∷ 0x01 ∷ 0x05 ∷ 0x00 ∷ 0x00 ∷ 0x03 ∷ 0x21 ∷ 0x00 ∷ 0x00 ∷ 0x05 ∷ 0x02 ∷ 0x6d ∷ 0x74 ∷ 0x41 ∷ 0x00
    ∷ 0x01 ∷ 0x01 ∷ 0x00 ∷ 0x02 ∷ 0x01 ∷ 0x02 ∷ 0x01 ∷ 0x02 ∷ 0x00 ∷ 0x01 ∷ 0x05 ∷ 0x01 ∷ 0x00 ∷ 0x02 ∷ [])
    (named 12 (with_key (at 13 1) (plain 5 0 1 DELETED))
    ∷ plain 5 1 2 GC ∷ [])
    (range 5 0 3 ∷ [])

-- Yjs: "abc" of which the message with "b" is missing, merged (Skip)
abbrev pub gap1 : Read
gap1 =
    read 1
    (0x01 ∷ 0x03 ∷ 0x05 ∷ 0x00 ∷ 0x04 ∷ 0x01 ∷ 0x01 ∷ 0x74 ∷ 0x01 ∷ 0x61 ∷ 0x0a ∷ 0x01 ∷ 0x84 ∷ 0x05 ∷ 0x01 ∷ 0x01
    ∷ 0x63 ∷ 0x00 ∷ [])
    (named 7 (text 9 1 (plain 5 0 1 TEXT))
    ∷ plain 5 1 1 SKIP
    ∷ with_left (id 5 1) (text 16 1 (plain 5 2 1 TEXT)) ∷ [])
    []

abbrev pub gap2 : Read
gap2 =
    read 2
    (0x00 ∷ 0x00 ∷ 0x02 ∷ 0x45 ∷ 0x00 ∷ 0x01 ∷ 0x02 ∷ 0x00 ∷ 0x05 ∷ 0x04 ∷ 0x00 ∷ 0x0a ∷ 0x00 ∷ 0x84 ∷ 0x06 ∷ 0x03
    ∷ 0x74 ∷ 0x61 ∷ 0x63 ∷ 0x41 ∷ 0x01 ∷ 0x01 ∷ 0x01 ∷ 0x00 ∷ 0x00 ∷ 0x01 ∷ 0x03 ∷ 0x00 ∷ 0x01 ∷ 0x00 ∷ [])
    (named 16 (text 17 1 (plain 5 0 1 TEXT))
    ∷ plain 5 1 1 SKIP
    ∷ with_left (id 5 1) (text 18 1 (plain 5 2 1 TEXT)) ∷ [])
    []

-- Yjs: "a" and an emoji: five bytes, three units
abbrev pub pair1 : Read
pair1 =
    read 1
    (0x01 ∷ 0x01 ∷ 0x05 ∷ 0x00 ∷ 0x04 ∷ 0x01 ∷ 0x01 ∷ 0x74 ∷ 0x05 ∷ 0x61 ∷ 0xf0 ∷ 0x9f ∷ 0x98 ∷ 0x80 ∷ 0x00 ∷ [])
    (named 7 (text 9 5 (plain 5 0 3 TEXT)) ∷ [])
    []

abbrev pub pair2 : Read
pair2 =
    read 2
    (0x00 ∷ 0x00 ∷ 0x01 ∷ 0x05 ∷ 0x00 ∷ 0x00 ∷ 0x01 ∷ 0x04 ∷ 0x09 ∷ 0x06 ∷ 0x74 ∷ 0x61 ∷ 0xf0 ∷ 0x9f ∷ 0x98 ∷ 0x80
    ∷ 0x01 ∷ 0x03 ∷ 0x01 ∷ 0x01 ∷ 0x00 ∷ 0x00 ∷ 0x01 ∷ 0x01 ∷ 0x00 ∷ 0x00 ∷ [])
    (named 10 (text 11 5 (plain 5 0 3 TEXT)) ∷ [])
    []

-- Yjs: true, null and "z" in an array
abbrev pub list1 : Read
list1 =
    read 1
    (0x01 ∷ 0x01 ∷ 0x05 ∷ 0x00 ∷ 0x08 ∷ 0x01 ∷ 0x01 ∷ 0x61 ∷ 0x03 ∷ 0x78 ∷ 0x7e ∷ 0x77 ∷ 0x01 ∷ 0x7a ∷ 0x00 ∷ [])
    (named 7 (text 9 5 (plain 5 0 3 ANY)) ∷ [])
    []

abbrev pub list2 : Read
list2 =
    read 2
    (0x00 ∷ 0x00 ∷ 0x01 ∷ 0x05 ∷ 0x00 ∷ 0x00 ∷ 0x01 ∷ 0x08 ∷ 0x03 ∷ 0x01 ∷ 0x61 ∷ 0x01 ∷ 0x01 ∷ 0x01 ∷ 0x00 ∷ 0x01
    ∷ 0x03 ∷ 0x01 ∷ 0x01 ∷ 0x00 ∷ 0x78 ∷ 0x7e ∷ 0x77 ∷ 0x01 ∷ 0x7a ∷ 0x00 ∷ [])
    (named 10 (text 20 5 (plain 5 0 3 ANY)) ∷ [])
    []

-- by hand: a Skip of length 0 is a row
abbrev pub empty-skip1 : Read
empty-skip1 =
    read 1
    (0x01 ∷ 0x02 ∷ 0x05 ∷ 0x00 ∷ 0x0a ∷ 0x00 ∷ 0x00 ∷ 0x01 ∷ 0x00 ∷ [])
    (plain 5 0 0 SKIP
    ∷ plain 5 0 1 GC ∷ [])
    []

-- by hand: an item of length 0 is dropped, and the clock does not move
abbrev pub empty-item1 : Read
empty-item1 =
    read 1
    (0x01 ∷ 0x02 ∷ 0x05 ∷ 0x00 ∷ 0x01 ∷ 0x01 ∷ 0x01 ∷ 0x74 ∷ 0x00 ∷ 0x00 ∷ 0x01 ∷ 0x00 ∷ [])
    (plain 5 0 1 GC ∷ [])
    []

-- by hand: FORMAT's delete set, its ranges turned and one of them in two
abbrev pub ranges1 : Read
ranges1 =
    read 1
    (0x00 ∷ 0x01 ∷ 0x05 ∷ 0x03 ∷ 0x0a ∷ 0x02 ∷ 0x01 ∷ 0x01 ∷ 0x00 ∷ 0x01 ∷ [])
    []
    (range 5 0 2 ∷ range 5 10 2 ∷ [])

abbrev pub ranges2 : Read
ranges2 =
    read 2
    (0x00 ∷ 0x00 ∷ 0x00 ∷ 0x00 ∷ 0x00 ∷ 0x00 ∷ 0x01 ∷ 0x00 ∷ 0x00 ∷ 0x00 ∷ 0x00 ∷ 0x00 ∷ 0x01 ∷ 0x05 ∷ 0x02 ∷ 0x00
    ∷ 0x01 ∷ 0x08 ∷ 0x01 ∷ [])
    []
    (range 5 0 2 ∷ range 5 10 2 ∷ [])

-- all of them
abbrev pub examples : List Read
examples =
    between1 ∷ between2 ∷ keyed1 ∷ keyed2 ∷ nested1 ∷ nested2 ∷ others1 ∷ others2
    ∷ deleted1 ∷ deleted2 ∷ collected1 ∷ collected2 ∷ gap1 ∷ gap2 ∷ pair1 ∷ pair2
    ∷ list1 ∷ list2 ∷ empty-skip1 ∷ empty-item1 ∷ ranges1 ∷ ranges2 ∷ []
