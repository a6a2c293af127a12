-- How many blocks an update has, and how many clients they are of.
use Prim.Native.Nat.{ℕ, suc, ◌+◌, ◌≤◌}
use mathlib.Core.Path.{◌≡◌, sym, ◌∙◌}
use mathlib.Core.List.{List, [], ◌∷◌}
use native.Mathlib.Omega.{arith}
use lib.ListN.{length}
use Rattle.numbers.specs.Limits.{max_clients, max_blocks}
use Rattle.block.specs.declared.Block.{Block}
use Rattle.grammar.specs.Course.{things}
use Rattle.decoder.specs.Update.{blocks_of}
use Rattle.readings.specs.Sound.{owner}
use Rattle.readings.specs.Groups.{groups}
use Rattle.readings.proofs.Groups.{join-length, same_length}
use Rattle.readings.proofs.Sections.{OfSections, OfPart, Holds, blocks-by}

-- ---- blocks

abbrev Counted : OfSections
Counted n seen room bs = length bs ≤ room

abbrev CountedPart : OfPart
CountedPart n seen room k client clock bs = length bs ≤ k + room

count-holds : (form : ℕ) (u : List ℕ) → Holds form u Counted CountedPart
count-holds form u =
    record {
      none = λ n seen room. omega arith;
      stopped = λ n seen room k client clock. omega arith;
      head = λ n seen room k client clock bs l new h. omega arith;
      end = λ n seen room client clock bs new h. omega arith;
      drop = λ n seen room k client clock bs h. omega arith;
      block = λ n seen room k client clock b bs new sound c t h. omega arith;
    }

pub blocks-count : (form : ℕ) (u : List ℕ) → length (things (blocks_of form u)) ≤ max_blocks
blocks-count form u = (blocks-by form u Counted CountedPart (count-holds form u)).holds

-- ---- groups: one a section at most

abbrev Grouped : OfSections
Grouped n seen room bs = length (groups owner bs) ≤ n

-- with a block of the section before them, too
abbrev GroupedPart : OfPart
GroupedPart n seen room k client clock bs =
    (length (groups owner bs) ≤ suc n) × ((b : Block) → b.client ≡ client → length (groups owner (b ∷ bs)) ≤ suc n)

group-holds : (form : ℕ) (u : List ℕ) → Holds form u Grouped GroupedPart
unfolding groups
group-holds form u =
    record {
      none = λ n seen room. omega arith;
      stopped = λ n seen room k client clock. (omega arith, λ b e. omega (arith, join-length owner b (groups owner [])));
      head = λ n seen room k client clock bs l new h. h.0;
      end = λ n seen room client clock bs new h. (omega arith, λ b e. omega (arith, join-length owner b (groups owner bs)));
      drop = λ n seen room k client clock bs h. h;
      block = λ n seen room k client clock b bs new sound c t h. (h.1 b c, λ d e. omega (arith, same_length owner d b bs (e ∙ sym c), h.1 b c));
    }

pub blocks-groups : (form : ℕ) (u : List ℕ) → length (groups owner (things (blocks_of form u))) ≤ max_clients
blocks-groups form u =
    let all = blocks-by form u Grouped GroupedPart (group-holds form u) in
    omega (arith, all.holds, all.fits)
