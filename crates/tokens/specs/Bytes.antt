-- The bytes of tokens. Form 1 has all in line. Form 2 has a flag byte, nine columns, each led by its length, in the order key, client, left clock,
-- right clock, info, text, parent info, type, length, and then the rest.
use Rattle.std.specs.Prelude.{ℕ, Bool, true, false, List, [], ◌∷◌, ◌++◌, eqb}
use Rattle.numbers.specs.Number.{pick}
use Rattle.runs.specs.declared.ColumnKind.TheVariants.{Difference}
use Rattle.runs.specs.Runs.{coding, spellable}
use Rattle.tokens.specs.Tokens.{Token, led, taken_all, lane, keys, clients, lefts, rights, infos, texts, units, parents, types, lens, rest, whole}
use Rattle.tokens.specs.Keys.{numbered}

unfoldable pub form1 : List Token → List ℕ
form1 ts = lane whole ts

unfoldable pub form2 : List Token → List ℕ
form2 ts =
    0 ∷ (led (lane keys ts)
    ++ (led (lane clients ts)
    ++ (led (lane lefts ts)
    ++ (led (lane rights ts)
    ++ (led (lane infos ts)
    ++ (led (led (lane texts ts) ++ lane units ts)
    ++ (led (lane parents ts)
    ++ (led (lane types ts)
    ++ (led (lane lens ts)
    ++ lane rest ts)))))))))

unfoldable pub bytes_of : ℕ → List Token → List ℕ
bytes_of form ts = pick (eqb form 1) (form1 ts) (form2 (numbered [] ts))

-- whether the differences of a column can be spelled
unfoldable pub near_in : ℕ → List Token → Bool
near_in k ts = spellable (coding Difference) 0 (taken_all k ts)

-- form 2 needs every difference from -2^30 to 2^30-1
unfoldable pub near : ℕ → List Token → Bool
near form ts = pick (eqb form 1) true (pick (near_in lefts ts) (near_in rights ts) false)
