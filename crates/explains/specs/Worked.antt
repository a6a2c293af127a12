-- Explanations worked by hand: docs/FORMAT.md, "A line behind the wrong reading", in both forms. Block 2 is z; each row is a line, twelve words.
use Rattle.std.specs.Prelude.{ℕ, ◌≡◌, List, [], ◌∷◌}
use Rattle.numbers.specs.Number.{none, nowhere}
use Rattle.explainer.specs.Explanation.{words}
use Rattle.explains.specs.Promises.{explain_of}

abbrev pub march1 : List ℕ
march1 =
    0x01 ∷ 0x03 ∷ 0x05 ∷ 0x00 ∷ 0xc4 ∷ 0x09 ∷ 0x01 ∷ 0x09 ∷ 0x02 ∷ 0x01 ∷ 0x78 ∷ 0xc4 ∷ 0x09 ∷ 0x02 ∷ 0x09 ∷ 0x03 ∷ 0x01 ∷ 0x79 ∷ 0x84 ∷ 0x09 ∷ 0x03
    ∷ 0x01 ∷ 0x7a ∷ 0x00 ∷ []

abbrev pub march2 : List ℕ
march2 =
    0x00 ∷ 0x00 ∷ 0x03 ∷ 0x05 ∷ 0x49 ∷ 0x03 ∷ 0x02 ∷ 0x03 ∷ 0x01 ∷ 0x02 ∷ 0x04 ∷ 0x02 ∷ 0x03 ∷ 0xc4 ∷ 0x01 ∷ 0x84 ∷ 0x06 ∷ 0x03 ∷ 0x78 ∷ 0x79 ∷ 0x7a
    ∷ 0x41 ∷ 0x01 ∷ 0x00 ∷ 0x00 ∷ 0x00 ∷ 0x01 ∷ 0x03 ∷ 0x00 ∷ 0x00 ∷ []

-- block count, client, first clock, own clock, info, left client, left clock, text: each stands in the bytes as it is, but the clock
abbrev pub z1 : List ℕ
z1 =
    2 ∷ 3 ∷ 1 ∷ 1 ∷ 0 ∷ 0 ∷ 0 ∷ 0 ∷ 0 ∷ 0 ∷ 0 ∷ 0
    ∷ 3 ∷ 5 ∷ 2 ∷ 1 ∷ 0 ∷ 0 ∷ 0 ∷ 0 ∷ 0 ∷ 0 ∷ 0 ∷ 0
    ∷ 4 ∷ 0 ∷ 3 ∷ 1 ∷ 0 ∷ 0 ∷ 0 ∷ 0 ∷ 0 ∷ 0 ∷ 0 ∷ 0
    ∷ 5 ∷ 2 ∷ 0 ∷ 0 ∷ 0 ∷ 0 ∷ 0 ∷ 0 ∷ 1 ∷ 2 ∷ 0 ∷ 0
    ∷ 6 ∷ 0x84 ∷ 18 ∷ 1 ∷ 0 ∷ 0 ∷ 0 ∷ 0 ∷ 0 ∷ 0 ∷ 0 ∷ 0
    ∷ 9 ∷ 9 ∷ 19 ∷ 1 ∷ 0 ∷ 0 ∷ 0 ∷ 0 ∷ 0 ∷ 0 ∷ 0 ∷ 0
    ∷ 10 ∷ 3 ∷ 20 ∷ 1 ∷ 0 ∷ 0 ∷ 0 ∷ 0 ∷ 0 ∷ 0 ∷ 0 ∷ 0
    ∷ 20 ∷ 1 ∷ 21 ∷ 1 ∷ 0 ∷ 0 ∷ 0 ∷ 0 ∷ 0 ∷ 0 ∷ 22 ∷ 1 ∷ []

-- the left clock, 10: value 3, from byte 7, which has 2 bytes (03 01), a run, the third of 3; base 2, plus, 1
abbrev pub z2 : List ℕ
z2 =
    2 ∷ 3 ∷ 27 ∷ 1 ∷ 0 ∷ 0 ∷ 0 ∷ 0 ∷ 0 ∷ 0 ∷ 0 ∷ 0
    ∷ 3 ∷ 5 ∷ 3 ∷ 1 ∷ 1 ∷ 1 ∷ 1 ∷ 0 ∷ 0 ∷ 0 ∷ 0 ∷ 0
    ∷ 4 ∷ 0 ∷ 28 ∷ 1 ∷ 0 ∷ 0 ∷ 0 ∷ 0 ∷ 0 ∷ 0 ∷ 0 ∷ 0
    ∷ 5 ∷ 2 ∷ 0 ∷ 0 ∷ 0 ∷ 0 ∷ 0 ∷ 0 ∷ 1 ∷ 2 ∷ 0 ∷ 0
    ∷ 6 ∷ 0x84 ∷ 15 ∷ 1 ∷ 2 ∷ 0 ∷ 0 ∷ 0 ∷ 0 ∷ 0 ∷ 0 ∷ 0
    ∷ 9 ∷ 9 ∷ 4 ∷ 2 ∷ 1 ∷ 5 ∷ 5 ∷ 0 ∷ 0 ∷ 0 ∷ 0 ∷ 0
    ∷ 10 ∷ 3 ∷ 7 ∷ 2 ∷ 1 ∷ 3 ∷ 3 ∷ 2 ∷ 1 ∷ 1 ∷ 0 ∷ 0
    ∷ 20 ∷ 1 ∷ 21 ∷ 2 ∷ 1 ∷ 3 ∷ 3 ∷ 0 ∷ 0 ∷ 0 ∷ 20 ∷ 1 ∷ []

-- eight lines are 96 words; one word less is 10, and block 3 is not there
abbrev pub March : Type 0
March =
    ((explain_of 1 march1 2 96).why ≡ none) × (words (explain_of 1 march1 2 96).lines ≡ z1) × ((explain_of 2 march2 2 96).why ≡ none)
    × (words (explain_of 2 march2 2 96).lines ≡ z2) × ((explain_of 2 march2 2 95).why ≡ nowhere 10) × ((explain_of 2 march2 3 192).why ≡ nowhere 11)
