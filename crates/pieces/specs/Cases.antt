-- Cases C and D of document 01, the same block in either form, and which draw of C came from which byte; and a mark in either form, as Yjs writes it.
use Rattle.std.specs.Prelude.{ℕ, List, [], ◌∷◌}
use Rattle.block.specs.declared.Block.{Block}
use Rattle.block.specs.Rows.{plain, with_name, with_mark, with_part}
use Rattle.block.specs.Kinds.{TEXT, FORMAT}
use Rattle.grammar.specs.Grammar.{up_to, client, info, parent_info, number, text}
use Rattle.grammar.specs.Trace.{Event, drew, kept}

abbrev pub update_c : List ℕ
update_c = 0x01 ∷ 0x01 ∷ 0x05 ∷ 0x00 ∷ 0x04 ∷ 0x01 ∷ 0x01 ∷ 0x74 ∷ 0x02 ∷ 0x68 ∷ 0x69 ∷ 0x00 ∷ []

abbrev pub update_d : List ℕ
update_d =
    0x00 ∷ 0x00 ∷ 0x01 ∷ 0x05 ∷ 0x00 ∷ 0x00 ∷ 0x01 ∷ 0x04 ∷ 0x06 ∷ 0x03 ∷ 0x74 ∷ 0x68
    ∷ 0x69 ∷ 0x01 ∷ 0x02 ∷ 0x01 ∷ 0x01 ∷ 0x00 ∷ 0x00 ∷ 0x01 ∷ 0x01 ∷ 0x00 ∷ 0x00 ∷ []

-- the text "hi" of client 5 in the parent "t", whose bytes lie at these places
abbrev pub hi : ℕ → ℕ → Block
hi name at =
    with_name (record { place = name; bytes = record { 0 = 1 } })
    (with_part (record { place = at; bytes = record { 0 = 2 } }) (plain 5 0 2 TEXT))

abbrev pub blocks_c : List Block
blocks_c = hi 7 9 ∷ []

abbrev pub blocks_d : List Block
blocks_d = hi 10 11 ∷ []

-- one section; one block; client, clock, info; a name for a parent; the text
abbrev pub trace_c : List (Event Block)
trace_c =
    drew (number (up_to 64)) (1, 0)
    ∷ drew (number (up_to 65535)) (1, 1)
    ∷ drew (number client) (5, 2)
    ∷ drew (number (up_to 2147483647)) (0, 3)
    ∷ drew (number info) (4, 4)
    ∷ drew (number parent_info) (1, 5)
    ∷ drew text (record { place = 7; bytes = record { 0 = 1 } }, record { 0 = 1 })
    ∷ drew text (record { place = 9; bytes = record { 0 = 2 } }, record { 0 = 2 })
    ∷ kept (hi 7 9)
    ∷ []

-- ---- a mark: client 5 begins bold in the parent "t"

-- its key is a text, and its value JSON text
abbrev pub update_bold1 : List ℕ
update_bold1 =
    0x01 ∷ 0x01 ∷ 0x05 ∷ 0x00 ∷ 0x06 ∷ 0x01 ∷ 0x01 ∷ 0x74 ∷ 0x04 ∷ 0x62 ∷ 0x6f ∷ 0x6c
    ∷ 0x64 ∷ 0x04 ∷ 0x74 ∷ 0x72 ∷ 0x75 ∷ 0x65 ∷ 0x00 ∷ []

-- its key is number 0, a new one, so the next text is it; and its value is an any-value, true, in the rest
abbrev pub update_bold2 : List ℕ
update_bold2 =
    0x00 ∷ 0x01 ∷ 0x00 ∷ 0x01 ∷ 0x05 ∷ 0x00 ∷ 0x00 ∷ 0x01 ∷ 0x06 ∷ 0x08 ∷ 0x05 ∷ 0x74 ∷ 0x62 ∷ 0x6f
    ∷ 0x6c ∷ 0x64 ∷ 0x01 ∷ 0x04 ∷ 0x01 ∷ 0x01 ∷ 0x00 ∷ 0x00 ∷ 0x01 ∷ 0x01 ∷ 0x00 ∷ 0x78 ∷ 0x00 ∷ []

-- name, key and value of so many bytes lie at these places
abbrev pub bold : ℕ → ℕ → ℕ → ℕ → Block
bold name key at n =
    with_name (record { place = name; bytes = record { 0 = 1 } })
    (with_mark (record { place = key; bytes = record { 0 = 4 } }) (with_part (record { place = at; bytes = record { 0 = n } }) (plain 5 0 1 FORMAT)))

abbrev pub blocks_bold1 : List Block
blocks_bold1 = bold 7 9 14 4 ∷ []

abbrev pub blocks_bold2 : List Block
blocks_bold2 = bold 11 12 25 1 ∷ []
