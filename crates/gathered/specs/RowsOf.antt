-- The rows of an update: for each client that has kept blocks, highest first, the clock of the first of them, the end of the last, and how many they
-- are.
use Rattle.std.specs.Prelude.{ℕ, ◌+◌, List, [], ◌∷◌, map, ltb, eqb, length}
use Rattle.numbers.specs.declared.Refusal.{Refusal}
use Rattle.numbers.specs.Number.{pick}
use Rattle.block.specs.declared.Block.{Block}
use Rattle.grammar.specs.Course.{things, ending}
use Rattle.decoder.specs.Update.{blocks_of, delete_set}
use Rattle.summary.specs.Rows.{Row}
use Rattle.summary.specs.Words.{summary_row}

-- the blocks of one client, in reading order
unfoldable pub of_client : ℕ → List Block → List Block
of_client c [] = []
of_client c (b ∷ bs) = pick (eqb b.client c) (b ∷ of_client c bs) (of_client c bs)

unfoldable pub first_clock : List Block → ℕ
first_clock [] = 0
first_clock (b ∷ bs) = b.clock

unfoldable pub last_end : List Block → ℕ
last_end [] = 0
last_end (b ∷ []) = b.clock + b.length.0
last_end (b ∷ (c ∷ bs)) = last_end (c ∷ bs)

unfoldable pub row_of : List Block → ℕ → Row
row_of bs c = summary_row c (first_clock (of_client c bs)) (last_end (of_client c bs)) (length (of_client c bs))

-- a client among others, highest first, each once
unfoldable pub insert_client : ℕ → List ℕ → List ℕ
insert_client c [] = c ∷ []
insert_client c (d ∷ ds) = pick (ltb d c) (c ∷ (d ∷ ds)) (pick (eqb d c) (d ∷ ds) (d ∷ insert_client c ds))

-- the clients of blocks, with those seen before
unfoldable pub clients_after : List ℕ → List Block → List ℕ
clients_after cs [] = cs
clients_after cs (b ∷ bs) = clients_after (insert_client b.client cs) bs

unfoldable pub rows_of : List Block → List Row
rows_of bs = map (row_of bs) (clients_after [] bs)

-- ---- of an update: its rows, once all of it reads, its delete set too; or why it does not

pub data Told : Type 0 where
  rows : List Row → Told
  refused : Refusal → Told

unfoldable pub told_of : ℕ → List ℕ → Told
told_of form u =
    ending (blocks_of form u)
    (λ at. ending (delete_set form u at) (λ e. rows (rows_of (things (blocks_of form u)))) (λ why. refused why))
    (λ why. refused why)
