-- Worked examples, by computing the definition: one table, one theorem.
use Prim.Native.Nat.{ℕ, zero, suc}
use mathlib.Core.Path.{◌≡◌, refl}
use mathlib.Core.List.{List, [], ◌∷◌}
use Rattle.numbers.specs.Number.{low_part, spelt, answer_at, read_unsigned, spelt_signed, minus_of, with_sign, read_signed}
use Rattle.text.specs.Utf8.{lead, next, after as after_text, settled, well_formed}
use Rattle.anys.specs.declared.Skipped.{Skipped}
use Rattle.anys.specs.declared.Skipped.TheVariants.{At}
use Rattle.anys.specs.Any.{refused, then_at, on_count, on_signed, signed_at, skip_bytes, skip_led, text_from, text_at, tagged, head_at, on_head, each, member, any, anys}

-- bytes, how many values are to be passed over from their start, and what that comes to; an unknown tag is blamed at 100
pub record Case : Type 0 where
  pub bytes : List ℕ
  pub count : ℕ
  pub comes : Skipped

abbrev case : List ℕ → ℕ → Skipped → Case
case b n s = record { bytes = b; count = n; comes = s }

-- n arrays of one member, each in the one before, and then these bytes
abbrev nested : ℕ → List ℕ → List ℕ
nested zero b = b
nested (suc n) b = 0x75 ∷ 0x01 ∷ nested n b

abbrev pub table : List Case
table =
    case (0x76 ∷ 0x01 ∷ 0x01 ∷ 0x61 ∷ 0x7d ∷ 0x05 ∷ []) 1 (At 6)  -- {a: 5}
    ∷ case (0x75 ∷ 0x02 ∷ 0x77 ∷ 0x01 ∷ 0x78 ∷ 0x7e ∷ []) 1 (At 6)  -- ["x", null]
    ∷ case (0x7f ∷ 0x79 ∷ 0x78 ∷ 0x7e ∷ []) 3 (At 3)  -- undefined, false, true, and one that is left
    ∷ case (0x7c ∷ 1 ∷ 2 ∷ 3 ∷ 4 ∷ 0x74 ∷ 2 ∷ 0xff ∷ 0xff ∷ []) 2 (At 9)  -- a float32 and two bytes
    ∷ case (0x7b ∷ 1 ∷ 2 ∷ 3 ∷ 4 ∷ 5 ∷ 6 ∷ 7 ∷ []) 1 (refused 1 8)  -- a float64 with seven bytes
    ∷ case (0x75 ∷ 0x00 ∷ 0x76 ∷ 0x00 ∷ []) 2 (At 4)  -- [] and {}
    ∷ case [] 0 (At 0)
    ∷ case [] 1 (refused 1 0)
    ∷ case (0x7e ∷ 0x73 ∷ []) 2 (refused 5 100)  -- an unknown tag
    ∷ case (0x76 ∷ 0x01 ∷ 0x02 ∷ 0xc0 ∷ 0x80 ∷ 0x7e ∷ []) 1 (refused 6 3)  -- a key that is not UTF-8
    ∷ case (0x7d ∷ 128 ∷ 128 ∷ 128 ∷ 128 ∷ 128 ∷ 128 ∷ 128 ∷ 128 ∷ 128 ∷ 0 ∷ []) 1 (refused 2 1)  -- an integer's ninth byte says more
    ∷ case (0x75 ∷ 255 ∷ 255 ∷ 255 ∷ 255 ∷ 255 ∷ 255 ∷ 255 ∷ 255 ∷ 127 ∷ 0x7e ∷ 0x7e ∷ []) 1 (refused 1 12)  -- 2^63 - 1 entries, of which two are there
    ∷ case (0x75 ∷ 0x01 ∷ 0x73 ∷ []) 1 (refused 5 100)  -- an unknown tag in an array
    ∷ case (nested 16 (0x7e ∷ [])) 1 (At 33)  -- sixteen arrays are open around a value
    ∷ case (nested 17 (0x7e ∷ [])) 1 (refused 3 32)  -- the seventeenth
    ∷ case (nested 16 (0x75 ∷ [])) 1 (refused 3 32)  -- before its count
    ∷ case (nested 14 (0x75 ∷ 0x02 ∷ 0x75 ∷ 0x00 ∷ 0x76 ∷ 0x00 ∷ [])) 1 (At 34)  -- the sixteenth is closed, and another opened
    ∷ case (nested 15 (0x76 ∷ 0x01 ∷ 0x01 ∷ 0x61 ∷ 0x76 ∷ 0x00 ∷ [])) 1 (refused 3 34)  -- objects are counted too
    ∷ []

unfoldable pub Right : List Case → Type 0
Right [] = Unit {0}
Right (x ∷ xs) = (anys x.bytes 100 x.count 0 ≡ x.comes) × Right xs

pub worked : Right table
unfolding Right anys any each member on_head head_at tagged text_at text_from skip_led skip_bytes signed_at on_signed on_count then_at read_unsigned read_signed answer_at spelt low_part spelt_signed minus_of with_sign well_formed settled after_text next lead
worked = (refl, (refl, (refl, (refl, (refl, (refl, (refl, (refl, (refl, (refl, (refl, (refl, (refl, (refl, (refl, (refl, (refl, (refl, tt))))))))))))))))))
