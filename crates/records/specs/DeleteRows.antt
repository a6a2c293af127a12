-- The tokens of a delete set, a row of the table at a time.
use Rattle.std.specs.Prelude.{ℕ, zero, suc, ◌+◌, ◌-◌, ◌≡◌, Bool, true, false, List, [], ◌∷◌, ◌++◌, eqb}
use Rattle.numbers.specs.Number.{pick}
use Rattle.ranges.specs.Ranges.{Range}
use Rattle.ranges.specs.TableInner.{row, rows_from}
use Rattle.tokens.specs.Tokens.{Token, var, whole}
use Rattle.tokens.specs.Lanes.{fresh_lane, put_all, laid_all}
use Rattle.records.specs.Records.{clock_from, length_of}

-- row i is its client's first
unfoldable pub is_first : List ℕ → ℕ → Bool
is_first s i = pick (eqb i 0) true (pick (eqb (row s (i - 1)).client (row s i).client) false true)

-- where the row before ended, 0 at a client's first
unfoldable pub end_before : List ℕ → ℕ → ℕ
end_before s i = pick (is_first s i) 0 ((row s (i - 1)).clock + (row s (i - 1)).len)

-- how many of the first rows are client c's
unfoldable pub leading : ℕ → List Range → ℕ
leading c [] = 0
leading c (r ∷ rs) = pick (eqb r.client c) (suc (leading c rs)) 0

-- how many rows a client has whose first is row i, k rows being left after it
unfoldable pub siblings : List ℕ → ℕ → ℕ → ℕ
siblings s i k = suc (leading (row s i).client (rows_from s (suc i) k))

unfoldable pub owner_tokens : List ℕ → ℕ → ℕ → List Token
owner_tokens s i k = pick (is_first s i) (var (row s i).client ∷ (var (siblings s i k) ∷ [])) []

unfoldable pub range_tokens : ℕ → List ℕ → ℕ → ℕ → List Token
range_tokens form s i k = owner_tokens s i k ++ (var (clock_from form (end_before s i) (row s i)) ∷ (var (length_of form (row s i)) ∷ []))

-- k rows from row i on
unfoldable pub table_tokens : ℕ → List ℕ → ℕ → ℕ → List Token
table_tokens form s i zero = []
table_tokens form s i (suc k) = range_tokens form s i k ++ table_tokens form s (suc i) k

-- numbers without columns, in line from a place on: the bytes lent and the place after them. They stand so in form 1 and in the rest of form 2
pub record InLine (ts : List Token) (out : List ℕ) (at : ℕ) (out₁ : List ℕ) (at₁ : ℕ) : Type 0 where
  pub place : at₁ ≡ (put_all (fresh_lane whole at) ts).run.at
  pub bytes : out₁ ≡ laid_all out (fresh_lane whole at) ts
