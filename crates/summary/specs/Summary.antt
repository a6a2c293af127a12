-- A summary, bit by bit: version, row count, then a row a client, highest client first; zeros fill the last byte. How it is written, and how it is
-- read.
use Rattle.std.specs.Prelude.{ℕ, zero, suc, ◌-◌, ◌^◌, Bool, true, ◌&&◌, List, [], ◌∷◌, ◌++◌, ltb, leb, eqb, length, drop}
use Rattle.numbers.specs.Number.{pick}
use Rattle.bits.specs.Bits.{in_bits, value_of, of_bytes, packed}
use Rattle.summary.specs.Rows.{Row}

-- a version: its number, how many bits its row count has, and how many rows at most
pub record Version : Type 0 where
  pub number : ℕ
  pub bits : ℕ
  pub most : ℕ

abbrev pub one : Version
one = record { number = 1; bits = 7; most = 64 }

-- ---- written

unfoldable pub row_bits : Row → List Bool
row_bits r = in_bits 53 r.client ++ (in_bits 31 r.first ++ (in_bits 31 r.end ++ in_bits 16 r.blocks))

unfoldable pub rows_bits : List Row → List Bool
rows_bits [] = []
rows_bits (r ∷ rows) = row_bits r ++ rows_bits rows

unfoldable pub summary_bits : Version → List Row → List Bool
summary_bits v rows = in_bits 4 v.number ++ (in_bits v.bits (length rows) ++ rows_bits rows)

unfoldable pub summary_of : Version → List Row → List ℕ
summary_of v rows = packed (summary_bits v rows)

-- ---- read: the rows, or the number of a refusal

pub data RowsFound : Type 0 where
  read : List Row → RowsFound
  refused : ℕ → RowsFound

-- a number of k bits, and the bits behind it; 1 where there are not so many
unfoldable pub field : ℕ → List Bool → (ℕ → List Bool → RowsFound) → RowsFound
field k bits then = pick (ltb (length bits) k) (refused 1) (then (value_of k bits) (drop k bits))

unfoldable pub a_row : List Bool → (Row → List Bool → RowsFound) → RowsFound
a_row bits then =
    field 53 bits λ client bits. field 31 bits λ first bits. field 31 bits λ end bits. field 16 bits λ blocks bits.
    then (record { client = client; first = first; end = end; blocks = blocks }) bits

-- each client below the one before it, some blocks, and no first clock above the last end
unfoldable pub in_order : ℕ → List Row → Bool
in_order above [] = true
in_order above (r ∷ rows) = ltb r.client above && (ltb 0 r.blocks && (leb r.first r.end && in_order r.client rows))

-- every client is below 2^53, so the first may be any
unfoldable pub legal : List Row → Bool
legal rows = in_order (2 ^ 53) rows

-- what is left behind the last row: zeros, and no whole byte
unfoldable pub filled : List Bool → Bool
filled bits = ltb (length bits) 8 && eqb (value_of (length bits) bits) 0

-- n rows more, behind those seen, into so many rows lent: 8 where a row is complete and none is left for it; last of all 17
unfoldable pub rows_after : ℕ → ℕ → List Row → List Bool → RowsFound
rows_after zero room seen bits = pick (legal seen && filled bits) (read seen) (refused 17)
rows_after (suc n) room seen bits = a_row bits λ row rest. pick (eqb room 0) (refused 8) (rows_after n (room - 1) (seen ++ (row ∷ [])) rest)

-- what stands behind the version: the row count, 3 over the limit, and the rows
unfoldable pub after_version : Version → ℕ → List Bool → RowsFound
after_version v room bits = field v.bits bits λ n rest. pick (ltb v.most n) (refused 3) (rows_after n room [] rest)

-- a summary's bytes, into so many rows: 16 for a version that is unknown
unfoldable pub read_of : ℕ → List ℕ → RowsFound
read_of room s = field 4 (of_bytes s) λ version rest. pick (eqb version 1) (after_version one room rest) (refused 16)
