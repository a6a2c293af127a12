-- The tokens of an update that Yjs 13.5.43 made, z typed between a and b by another client: in both forms they are its bytes.
use mathlib.Core.Path.{◌≡◌, refl}
use mathlib.Core.List.{List, [], ◌∷◌}
use Rattle.numbers.specs.Number.{spell, unsigned, signed}
use Rattle.runs.specs.Runs as runs
use Rattle.runs.specs.Number as number-run
use Rattle.runs.specs.Byte as byte-run
use Rattle.runs.specs.Difference as difference-run
use Rattle.tokens.specs.Tokens as tokens
use Rattle.tokens.specs.Tokens.{Token, client, left, right, info, parent_info, text, var}
use Rattle.tokens.specs.Keys.{numbered}
use Rattle.tokens.specs.Bytes.{form1, form2, bytes_of}

abbrev typed : List Token
typed =
    var 2 ∷ var 1 ∷ client 9 ∷ var 0 ∷ info 196 ∷ client 7 ∷ left 0 ∷ client 7 ∷ right 1 ∷ text (122 ∷ []) 1
    ∷ var 2 ∷ client 7 ∷ var 0 ∷ info 4 ∷ parent_info 1 ∷ text (116 ∷ []) 1 ∷ text (97 ∷ []) 1
    ∷ info 132 ∷ client 7 ∷ left 0 ∷ text (98 ∷ []) 1 ∷ var 0 ∷ []

pub in-form-1 : bytes_of 1 typed ≡ 2 ∷ 1 ∷ 9 ∷ 0 ∷ 196 ∷ 7 ∷ 0 ∷ 7 ∷ 1 ∷ 1 ∷ 122 ∷ 2 ∷ 7 ∷ 0 ∷ 4 ∷ 1 ∷ 1 ∷ 116 ∷ 1 ∷ 97 ∷ 132 ∷ 7 ∷ 0 ∷ 1 ∷ 98 ∷ 0 ∷ []
unfolding bytes_of form1 tokens.lane tokens.taken tokens.taken_all tokens.inlined tokens.in_line unsigned spell
in-form-1 = refl

pub in-form-2 : bytes_of 2 typed ≡ 0 ∷ 0 ∷ 3 ∷ 9 ∷ 71 ∷ 2 ∷ 2 ∷ 1 ∷ 0 ∷ 1 ∷ 2 ∷ 5 ∷ 196 ∷ 0 ∷ 4 ∷ 0 ∷ 132 ∷ 7 ∷ 4 ∷ 122 ∷ 116 ∷ 97 ∷ 98 ∷ 65 ∷ 2 ∷ 1 ∷ 1 ∷ 0 ∷ 0 ∷ 2 ∷ 1 ∷ 0 ∷ 2 ∷ 0 ∷ 0 ∷ []
unfolding bytes_of form2 numbered tokens.lane tokens.taken tokens.taken_all tokens.in_line tokens.column_in unsigned spell signed runs.runs_on runs.runs_after runs.column runs.coding number-run.run_bytes byte-run.run_bytes difference-run.run_bytes difference-run.magnitude difference-run.odd
in-form-2 = refl
