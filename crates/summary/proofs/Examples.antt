-- Summaries as bytes, in one table: what is written of rows, and what bytes read as (READING-02, S2 to S10).
use mathlib.Core.Path.{◌≡◌, refl}
use mathlib.Core.List.{List, [], ◌∷◌}
use Prim.Native.Nat.{ℕ}
use Rattle.bits.specs.Bits.{in_bits, value_of, of_bytes, bytes, packed}
use Rattle.summary.specs.Summary.{one, row_bits, rows_bits, summary_bits, summary_of, read, refused, field, a_row, in_order, legal, filled, rows_after, after_version, read_of}
use Rattle.summary.specs.Words.{summary_row}

-- the first of two rows, which has no blocks: 10 40 00 .. 09 00 .. 04 00 00
abbrev cut_off : List ℕ
cut_off = 16 ∷ 64 ∷ 0 ∷ 0 ∷ 0 ∷ 0 ∷ 0 ∷ 9 ∷ 0 ∷ 0 ∷ 0 ∷ 0 ∷ 0 ∷ 0 ∷ 0 ∷ 4 ∷ 0 ∷ 0 ∷ []

-- client 9 twice
abbrev twice : List ℕ
twice = 16 ∷ 64 ∷ 0 ∷ 0 ∷ 0 ∷ 0 ∷ 0 ∷ 9 ∷ 0 ∷ 0 ∷ 0 ∷ 0 ∷ 0 ∷ 0 ∷ 0 ∷ 4 ∷ 0 ∷ 4 ∷ 0 ∷ 0 ∷ 0 ∷ 0 ∷ 0 ∷ 1 ∷ 32 ∷ 0 ∷ 0 ∷ 0 ∷ 0 ∷ 0 ∷ 0 ∷ 0 ∷ 128 ∷ 0 ∷ 128 ∷ []

-- rows of 65,536 blocks together
abbrev many : List ℕ
many = 16 ∷ 64 ∷ 0 ∷ 0 ∷ 0 ∷ 0 ∷ 0 ∷ 9 ∷ 0 ∷ 0 ∷ 0 ∷ 0 ∷ 0 ∷ 0 ∷ 0 ∷ 7 ∷ 255 ∷ 252 ∷ 0 ∷ 0 ∷ 0 ∷ 0 ∷ 0 ∷ 0 ∷ 160 ∷ 0 ∷ 0 ∷ 0 ∷ 0 ∷ 0 ∷ 0 ∷ 0 ∷ 128 ∷ 0 ∷ 128 ∷ []

pub examples :
    -- written: client 5 from clock 0 up to 2, in one block
    (summary_of one (summary_row 5 0 2 1 ∷ []) ≡ 16 ∷ 32 ∷ 0 ∷ 0 ∷ 0 ∷ 0 ∷ 0 ∷ 5 ∷ 0 ∷ 0 ∷ 0 ∷ 0 ∷ 0 ∷ 0 ∷ 0 ∷ 8 ∷ 0 ∷ 4 ∷ [])
    × (summary_of one (summary_row 5 3 7 1 ∷ []) ≡ 16 ∷ 32 ∷ 0 ∷ 0 ∷ 0 ∷ 0 ∷ 0 ∷ 5 ∷ 0 ∷ 0 ∷ 0 ∷ 6 ∷ 0 ∷ 0 ∷ 0 ∷ 28 ∷ 0 ∷ 4 ∷ [])  -- S2: a Skip of four from clock 3 on is a block
    × (summary_of one (summary_row 5 3 3 1 ∷ []) ≡ 16 ∷ 32 ∷ 0 ∷ 0 ∷ 0 ∷ 0 ∷ 0 ∷ 5 ∷ 0 ∷ 0 ∷ 0 ∷ 6 ∷ 0 ∷ 0 ∷ 0 ∷ 12 ∷ 0 ∷ 4 ∷ [])  -- S3: and a GC of length 0
    × (summary_of one [] ≡ 16 ∷ 0 ∷ [])  -- S4: 10 00
    × (read_of 0 [] ≡ refused 1)
    × (read_of 0 (16 ∷ 32 ∷ []) ≡ refused 1)  -- S5: 10 20, and no rows lent
    × (read_of 0 (32 ∷ []) ≡ refused 16)
    × (read_of 2 cut_off ≡ refused 1)
    × (read_of 0 (16 ∷ 32 ∷ 0 ∷ 0 ∷ 0 ∷ 0 ∷ 0 ∷ 5 ∷ 0 ∷ 0 ∷ 0 ∷ 0 ∷ 0 ∷ 0 ∷ 0 ∷ 8 ∷ 0 ∷ 4 ∷ []) ≡ refused 8)
    × (read_of 1 (16 ∷ 32 ∷ 0 ∷ 0 ∷ 0 ∷ 0 ∷ 0 ∷ 5 ∷ 0 ∷ 0 ∷ 0 ∷ 0 ∷ 0 ∷ 0 ∷ 0 ∷ 8 ∷ 0 ∷ 4 ∷ []) ≡ read (summary_row 5 0 2 1 ∷ []))
    × (read_of 64 (24 ∷ 32 ∷ []) ≡ refused 3)  -- S6: 18 20
    × (read_of 2 many ≡ read (summary_row 9 0 1 65535 ∷ summary_row 5 0 1 1 ∷ []))  -- S7
    × (read_of 2 twice ≡ refused 17)  -- S8
    × (read_of 1 (16 ∷ 32 ∷ 0 ∷ 0 ∷ 0 ∷ 0 ∷ 0 ∷ 9 ∷ 0 ∷ 0 ∷ 0 ∷ 10 ∷ 0 ∷ 0 ∷ 0 ∷ 20 ∷ 0 ∷ 4 ∷ []) ≡ read (summary_row 9 5 5 1 ∷ []))  -- S9
    × (read_of 0 (16 ∷ 1 ∷ []) ≡ refused 17)  -- S10: 10 01, 10 00 00, 10 00
    × (read_of 0 (16 ∷ 0 ∷ 0 ∷ []) ≡ refused 17)
    × (read_of 0 (16 ∷ 0 ∷ []) ≡ read [])
unfolding in_bits value_of of_bytes bytes packed row_bits rows_bits summary_bits summary_of field a_row in_order legal filled rows_after after_version read_of
examples = (refl, refl, refl, refl, refl, refl, refl, refl, refl, refl, refl, refl, refl, refl, refl, refl, refl)
