-- `listing_text::put_ranges` meets its contract: what is left to put from here, onto what is there now, is the whole onto what was there.
use Prim.Native.Nat.{◌+◌, ◌-◌, ◌*◌, ◌≤◌}
use mathlib.Core.Path.{◌≡◌}
use lib.ListN.{length}
use Rattle.ranges.specs.TableInner.{rows_from}
use Rattle.lines.specs.LinesInner.{overlay}
use Rattle.listing_text.specs.Listing.{range_lines}
use Rattle.listing_text.proofs.put_ranges.Given as goal

abbrev pub invariant-loop-i : goal.invariant-loop-i
invariant-loop-i l =
    (l.at ≤ l.used + 63 * l.i)
    × (l.at + length (range_lines (rows_from l.words l.i (l.n - l.i))) ≡ l.used + length (range_lines (rows_from l.words 0 l.n)))
    × (overlay l.out l.at (range_lines (rows_from l.words l.i (l.n - l.i))) ≡ overlay l.initial.out l.used (range_lines (rows_from l.words 0 l.n)))
    × (length l.out ≡ length l.initial.out)
