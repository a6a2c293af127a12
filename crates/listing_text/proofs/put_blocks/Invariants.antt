-- `listing_text::put_blocks`: at each turn the lines of the first i rows stand in the buffer.
use Rattle.listing_text.proofs.Laws.{Rows}
use Rattle.listing_text.proofs.put_blocks.Given as goal

abbrev pub invariant-loop-i : goal.invariant-loop-i
invariant-loop-i l = Rows l.initial.out l.initial.used l.initial.n l.initial.rows l.at l.i l.out
