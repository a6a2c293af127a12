-- Beside Runs: what inner functions say and proofs need. No promise comes to it.
use Rattle.std.specs.Prelude.{ℕ, ◌+◌, ◌-◌, List, [], ◌++◌, Bool, eqb}
use Rattle.numbers.specs.Number.{pick, signed, unsigned}
use Rattle.runs.specs.declared.ColumnKind.{ColumnKind}
use Rattle.runs.specs.declared.ColumnKind.TheVariants.{Number, Difference, Byte}

-- ---- the three columns of numbers

-- how number and difference column spell a run: a signed number, and where it stands more than once, how often less two
unfoldable pub signed_run : Bool → ℕ → ℕ → List ℕ
signed_run m x n = signed m x ++ pick (eqb n 0) [] (unsigned (n - 1))

-- the largest key of a column
unfoldable pub key_most : ColumnKind → ℕ
key_most Number = 9007199254740991
key_most Difference = 4294967295
key_most Byte = 255
