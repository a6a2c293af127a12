-- A reading with the number 0 has all blocks of the update, and the normal form of its delete ranges.
use Prim.Native.Nat.{ℕ, ◌≤◌}
use mathlib.Core.Path.{◌≡◌, ap, ◌∙◌}
use mathlib.Core.Bool.{true, false}
use mathlib.Core.List.{List}
use native.Mathlib.Omega.{arith}
use lib.ListN.{length}
use borrow.Author.Tests.{le-ltb}
use Rattle.numbers.specs.Number.{none}
use Rattle.numbers.specs.Limits.{max_update}
use Rattle.block.specs.declared.Block.{Block}
use Rattle.grammar.specs.Course.{Course, fit, things}
use Rattle.ranges.specs.Ranges.{normal}
use Rattle.ranges.proofs.Theory.{normal-length}
use Rattle.decoder.specs.Update.{blocks_of, delete_set}
use Rattle.updates.specs.Promises.{Reading, with_ranges, with_blocks, known, early, reading}
use Rattle.updates.proofs.Read.{not-early, short}
use Rattle.readings.proofs.Fits.{fit-items, fit_count}
use Rattle.agreement.specs.Ends.{Whole}
use Rattle.agreement.proofs.Courses.{ending_at}
use Rattle.agreement.proofs.Readings as readings
use Rattle.agreement.proofs.Readings.{read-on}

pub record AllRead (form : ℕ) (u : List ℕ) (r : Reading) (m n : ℕ) : Type 0 where
  pub short : length u ≤ max_update
  pub blocks : r.blocks ≡ things (blocks_of form u)
  pub rows : length r.blocks ≤ m
  pub middle : ℕ
  pub ranges : r.ranges ≡ normal (things (fit n (delete_set form u middle)))
  pub range-rows : length r.ranges ≤ n

-- a known form, and bytes within the limit: nothing is refused before they are read
pub in-time : (form : ℕ) (u : List ℕ) → known form ≡ true → length u ≤ max_update → early form u ≡ 0
unfolding early
in-time form u e l = rw (e, le-ltb max_update (length u) l)

module _ (form : ℕ) (u : List ℕ) (m n : ℕ) where
  abbrev c : Course Block
  c = fit m (blocks_of form u)

  whole-at : early form u ≡ 0 → (w : Whole form u m n)
      → reading form u m n
      ≡ record { refusal = none; blocks = things (fit m (blocks_of form u)); ranges = normal (things (fit n (delete_set form u w.middle))) }
  unfolding with_blocks with_ranges
  whole-at e w =
      read-on form u m n e
      ∙ ending_at c (λ s. with_ranges (things c) (fit n (delete_set form u s))) _ w.middle w.blocks
      ∙ ending_at (fit n (delete_set form u w.middle)) _ _ w.last w.ranges

  pub all_read : (reading form u m n).refusal.number ≡ 0 → AllRead form u (reading form u m n) m n
  all_read z =
      let e = not-early form u m n z in
      let w = readings.done form u m n z in
      let same = whole-at e w in
      record {
        short = short form u m n z;
        blocks = ap (λ (r : Reading). r.blocks) same ∙ fit-items m (blocks_of form u) (ending_at c (λ s. true) (λ why. false) w.middle w.blocks);
        rows = omega (arith, ap (λ (r : Reading). length r.blocks) same, fit_count m (blocks_of form u));
        middle = w.middle;
        ranges = ap (λ (r : Reading). r.ranges) same;
        range-rows = omega (
          arith,
          ap (λ (r : Reading). length r.ranges) same,
          normal-length (things (fit n (delete_set form u w.middle))),
          fit_count n (delete_set form u w.middle),
        );
      }
