-- A vector that reads, and the entries that it has for a client.
use Rattle.std.specs.Prelude.{ℕ, ◌+◌, ◌≤◌, ◌≡◌, true, false, List, [], ◌∷◌, eqb}
use Rattle.numbers.specs.Number.{pick}
use Rattle.block.specs.declared.Block.{Block}
use Rattle.grammar.specs.Course.{things, ending}
use Rattle.vector.specs.Vector.{Entry, vector_of}
use Rattle.readings.specs.Sound.{All}
use Rattle.kept.specs.Kept.{remote}

-- all of its entries are read
abbrev pub Reads : List ℕ → Type 0
Reads v = ending (vector_of v) (λ s. true) (λ why. false) ≡ true

abbrev pub entries_in : List ℕ → List Entry
entries_in v = things (vector_of v)

-- the clocks of a client's entries: a vector that reads has one at most
unfoldable pub clocks_for : ℕ → List Entry → List ℕ
clocks_for c [] = []
clocks_for c (e ∷ es) = pick (eqb e.client c) (e.clock ∷ clocks_for c es) (clocks_for c es)

-- v and w have the same entries for every client of these blocks: they differ only in entries for other clients
abbrev pub DifferElsewhere : List ℕ → List ℕ → List Block → Type 0
DifferElsewhere v w bs = All (λ (b : Block). clocks_for b.client (entries_in v) ≡ clocks_for b.client (entries_in w)) bs

-- and the same remote clock
abbrev pub SameRemote : List ℕ → List ℕ → List Block → Type 0
SameRemote v w bs = All (λ (b : Block). remote (entries_in v) b.client ≡ remote (entries_in w) b.client) bs

-- every block ends at or below its client's remote clock
abbrev pub HasAll : List ℕ → List Block → Type 0
HasAll v bs = All (λ (b : Block). b.clock + b.length.0 ≤ remote (entries_in v) b.client) bs
