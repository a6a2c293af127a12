-- Text: what is well-formed UTF-8, by the Unicode Standard's table of well-formed byte sequences (Table 3-7), and what a text of so many UTF-16 units
-- takes.
use Rattle.std.specs.Prelude.{ℕ, ◌+◌, ◌-◌, ◌*◌, ◌%◌, Bool, false, ◌||◌, List, [], ◌∷◌, ltb, eqb}
use Rattle.std.proofs.Math.Option.{Option, some, none}
use Rattle.text.specs.declared.Taken.{Taken}
use Rattle.text.specs.declared.Taken.TheVariants.{Took, Refused}
use Rattle.meaning.specs.Reads.{when◌then◌else◌}

-- inside a character: so many bytes follow, the next from `low` to `high`, any later one 80..BF; and the character as far as it is read
pub record Inside : Type 0 where
  pub more : ℕ
  pub low : ℕ
  pub high : ℕ
  pub value : ℕ

abbrev pub inside : ℕ → ℕ → ℕ → ℕ → Option Inside
inside more low high value = some (record { more = more; low = low; high = high; value = value })

-- a character's first byte: the table, a line a row; none begins with any other
unfoldable pub lead : ℕ → Option Inside
lead b =
    when ltb b 128 then inside 0 128 191 b else  -- 00..7F
    when ltb b 194 then none else
    when ltb b 224 then inside 1 128 191 (b % 32) else  -- C2..DF 80..BF
    when ltb b 225 then inside 2 160 191 (b % 16) else  -- E0     A0..BF 80..BF
    when ltb b 237 then inside 2 128 191 (b % 16) else  -- E1..EC 80..BF 80..BF
    when ltb b 238 then inside 2 128 159 (b % 16) else  -- ED     80..9F 80..BF
    when ltb b 240 then inside 2 128 191 (b % 16) else  -- EE..EF 80..BF 80..BF
    when ltb b 241 then inside 3 144 191 (b % 8) else  -- F0     90..BF 80..BF 80..BF
    when ltb b 244 then inside 3 128 191 (b % 8) else  -- F1..F3 80..BF 80..BF 80..BF
    when ltb b 245 then inside 3 128 143 (b % 8) else none  -- F4     80..8F 80..BF 80..BF

-- one byte more: it begins a character where none is under way, and else gives its six low bits; none where it does not fit
unfoldable pub go_on : Option Inside → ℕ → Option Inside
go_on none b = none
go_on (some c) b =
    when eqb c.more 0 then lead b
    else when ltb b c.low || ltb c.high b then none else inside (c.more - 1) 128 191 (c.value * 64 + b % 64)

-- no character is under way
unfoldable pub is_whole : Option Inside → Bool
is_whole none = false
is_whole (some c) = eqb c.more 0

unfoldable pub fits : Option Inside → List ℕ → Bool
fits c [] = is_whole c
fits c (b ∷ t) = fits (go_on c b) t

unfoldable pub well_formed : List ℕ → Bool
well_formed t = fits (inside 0 128 191 0) t

-- the units of the character that a byte ended: two, a pair, from U+10000 up
unfoldable pub gains : Option Inside → ℕ
gains none = 0
gains (some c) = when eqb c.more 0 then (when ltb c.value 65536 then 1 else 2) else 0

-- w units are to be taken and k bytes have been: 7 where the units run past the text, `pair` where they end inside a pair
unfoldable pub taking : ℕ → Option Inside → ℕ → ℕ → List ℕ → Taken
taking pair c w k [] = when eqb w 0 then Took (record { 0 = k }) else Refused 7
taking pair c w k (b ∷ t) =
    let d = go_on c b in
    when eqb w 0 then Took (record { 0 = k }) else when ltb w (gains d) then Refused pair else taking pair d (w - gains d) (k + 1) t

-- the bytes of the whole characters that use exactly n units
unfoldable pub take_units : ℕ → ℕ → List ℕ → Taken
take_units pair n t = taking pair (inside 0 128 191 0) n 0 t
