-- One pass over a slice: what a run's end writes, where room may be short, and what the end answers. The functions of `once` and their
-- loops go by it.
use Rattle.std.specs.Prelude.{ℕ, ◌+◌, ◌-◌, ◌≡◌, List, [], ◌++◌, Bool, true, false, leb, eqb, length, take}
use Rattle.std.proofs.lemmas.List.Edits.{sets}
use Rattle.numbers.specs.declared.Written.{Written}
use Rattle.numbers.specs.Number.{pick}
use Rattle.numbers.specs.Output.{padded, written, put}
use Rattle.numbers.specs.OutputInner.{refusal}
use Rattle.runs.specs.declared.ColumnKind.{ColumnKind}
use Rattle.runs.specs.declared.writer.Writer.{Writer}
use Rattle.runs.specs.Runs.{coding, column_of, why_of}
use Rattle.runs.specs.Writer.{Judge, finished, sentence}

-- the key k ends a run of `key`, which stood so often
unfoldable pub ends_run : ℕ → ℕ → ℕ → Bool
ends_run key count k = pick (eqb count 0) false (pick (eqb k key) false true)

-- the bytes of the run that k ends, if it ends one
unfoldable pub ended_run : ColumnKind → ℕ → ℕ → ℕ → List ℕ
ended_run col key count k = pick (ends_run key count k) ((coding col).spell key (count - 1)) []

-- bytes b put at a place of n bytes: the place after them, or the one past the end
unfoldable pub went_to : ℕ → ℕ → List ℕ → ℕ
went_to n at b = pick (leb (at + length b) n) (at + length b) (n + 1)

unfoldable pub out_at : List ℕ → ℕ → List ℕ → List ℕ
out_at out at b = pick (leb (at + length b) (length out)) (sets out at b) out

-- what a function that puts b leaves: the place, and the bytes lent
abbrev pub PutAt : List ℕ → ℕ → List ℕ → ℕ → List ℕ → Type 0
PutAt e at b r x = (r ≡ went_to (length e) at b) × (x ≡ out_at e at b)

-- the end, of values judged and put so far, as a state and whether a difference was far
abbrev pub judged_so : Writer → Bool → Judge
judged_so w far = record { writer = w; far = far; over = false }

-- the refusal of all values, then 10 where room had ended, then the last run
unfoldable pub end_answer : List ℕ → Writer → Bool → Written
end_answer out w far =
    pick (eqb (sentence (judged_so w far)) 0) (pick (leb w.at (length out)) (written 0 (length out) (take w.at out ++ finished w)) (refusal 10))
    (refusal (sentence (judged_so w far)))

unfoldable pub end_bytes : List ℕ → Writer → Bool → List ℕ
end_bytes out w far =
    pick (eqb (sentence (judged_so w far)) 0)
    (pick (leb w.at (length out)) (put 0 (length out) (take w.at out ++ finished w)) (padded (length out) [])) (padded (length out) [])

-- the writer of a column: its answer, and what the bytes lent hold then
abbrev pub Writes : ColumnKind → List ℕ → List ℕ → Written → List ℕ → Type 0
Writes col vs e r x =
    (r ≡ written (why_of col vs) (length e) (column_of col vs)) × (x ≡ put (why_of col vs) (length e) (column_of col vs))
