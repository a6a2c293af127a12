-- Sorts worked by hand, of updates of form 1 by rule 28 and by rule 13: the order, and the reports, highest client first.
use Rattle.std.specs.Prelude.{ℕ, ◌≡◌, List, [], ◌∷◌}
use Rattle.numbers.specs.Number.{none}
use Rattle.sort_answers.specs.Answers.{Sort, Room}
use Rattle.sorts.specs.Promises.{sort_of}
use Rattle.worked.specs.Updates.{gap1, others1}

pub record Taken : Type 0 where
  pub rule : ℕ
  pub update : List ℕ
  pub vector : List ℕ
  -- the numbers of the blocks that are taken; client and how many; client and reach; client, what it waits for and how far that reaches
  pub order : List ℕ
  pub counts : List ℕ
  pub reaches : List ℕ
  pub pending : List ℕ

abbrev pub taken : ℕ → List ℕ → List ℕ → List ℕ → List ℕ → List ℕ → List ℕ → Taken
taken rule u v order counts reaches pending =
    record { rule = rule; update = u; vector = v; order = order; counts = counts; reaches = reaches; pending = pending }

abbrev pub room : Room
room = record { order = 4; counts = 8; reaches = 8; pending = 12 }

abbrev pub sorted_for : Taken → Sort
sorted_for e = sort_of e.rule 1 e.update e.vector 4 4 room

abbrev pub Takes : Taken → Type 0
Takes e =
    ((sorted_for e).refusal ≡ none) × ((sorted_for e).order ≡ e.order) × ((sorted_for e).counts ≡ e.counts) × ((sorted_for e).reaches ≡ e.reaches)
    × ((sorted_for e).pending ≡ e.pending)

-- a vector that names nobody
abbrev pub nobody : List ℕ
nobody = 0x00 ∷ []

-- ---- the examples

-- 5's binary has a right id at 9, which 9's block has: 9 goes first, being the highest client; and without 9's block it waits for 9
abbrev pub right : Taken
right =
    taken 28
    (0x02 ∷ 0x01 ∷ 0x05 ∷ 0x00 ∷ 0x43 ∷ 0x09 ∷ 0x00 ∷ 0x01 ∷ 0x61 ∷ 0x01 ∷ 0x09 ∷ 0x00 ∷ 0x03 ∷ 0x01 ∷ 0x01 ∷ 0x74 ∷ 0x01 ∷ 0x62 ∷ 0x00 ∷ [])
    nobody (1 ∷ 0 ∷ []) (9 ∷ 1 ∷ 5 ∷ 1 ∷ []) (9 ∷ 1 ∷ 5 ∷ 1 ∷ []) []

abbrev pub right_waits : Taken
right_waits =
    taken 28 (0x01 ∷ 0x01 ∷ 0x05 ∷ 0x00 ∷ 0x43 ∷ 0x09 ∷ 0x00 ∷ 0x01 ∷ 0x61 ∷ 0x00 ∷ [])
    nobody [] (5 ∷ 0 ∷ []) (5 ∷ 0 ∷ []) (5 ∷ 9 ∷ 0 ∷ [])

-- 9's binary has a parent id at 5, an array: 5 goes first, though 9 is higher
abbrev pub parent : Taken
parent =
    taken 28
    (0x02 ∷ 0x01 ∷ 0x09 ∷ 0x00 ∷ 0x03 ∷ 0x00 ∷ 0x05 ∷ 0x00 ∷ 0x01 ∷ 0x61 ∷ 0x01 ∷ 0x05 ∷ 0x00 ∷ 0x07 ∷ 0x01 ∷ 0x01 ∷ 0x74 ∷ 0x00 ∷ 0x00 ∷ [])
    nobody (1 ∷ 0 ∷ []) (9 ∷ 1 ∷ 5 ∷ 1 ∷ []) (9 ∷ 1 ∷ 5 ∷ 1 ∷ []) []

-- Yjs: client 9 goes on behind client 5
abbrev pub left : Taken
left = taken 28 others1.bytes nobody (1 ∷ 0 ∷ []) (9 ∷ 1 ∷ 5 ∷ 1 ∷ []) (9 ∷ 1 ∷ 5 ∷ 1 ∷ []) []

-- a block whose left id is its own client's, far ahead: it is not asked for by rule 28; by rule 13 the block waits behind the gap, and names its own
-- client
abbrev pub own : List ℕ
own = 0x01 ∷ 0x01 ∷ 0x05 ∷ 0x03 ∷ 0x83 ∷ 0x05 ∷ 0x07 ∷ 0x01 ∷ 0x61 ∷ 0x00 ∷ []

abbrev pub own28 : Taken
own28 = taken 28 own nobody (0 ∷ []) (5 ∷ 1 ∷ []) (5 ∷ 4 ∷ []) []

abbrev pub own13 : Taken
own13 = taken 13 own nobody [] (5 ∷ 0 ∷ []) (5 ∷ 0 ∷ []) (5 ∷ 5 ∷ 0 ∷ [])

-- Yjs: "a", a Skip, "c". The Skip is taken by either rule and lifts nothing: by rule 28 "c" is taken across the gap, by rule 13 it waits for clock 1
abbrev pub skip28 : Taken
skip28 = taken 28 gap1.bytes nobody (0 ∷ 1 ∷ 2 ∷ []) (5 ∷ 3 ∷ []) (5 ∷ 3 ∷ []) []

abbrev pub skip13 : Taken
skip13 = taken 13 gap1.bytes nobody (0 ∷ 1 ∷ []) (5 ∷ 2 ∷ []) (5 ∷ 1 ∷ []) (5 ∷ 5 ∷ 1 ∷ [])

-- client 9 stands in the vector alone: its reach is reported, and what hangs on it is taken
abbrev pub named : Taken
named =
    taken 28 (0x01 ∷ 0x01 ∷ 0x05 ∷ 0x00 ∷ 0x83 ∷ 0x09 ∷ 0x00 ∷ 0x01 ∷ 0x61 ∷ 0x00 ∷ [])
    (0x01 ∷ 0x09 ∷ 0x01 ∷ []) (0 ∷ []) (5 ∷ 1 ∷ []) (9 ∷ 1 ∷ 5 ∷ 1 ∷ []) []

abbrev pub sorts : List Taken
sorts = right ∷ right_waits ∷ parent ∷ left ∷ own28 ∷ own13 ∷ skip28 ∷ skip13 ∷ named ∷ []
