-- `bulk::read_texts` meets its contract: the first 2 i words are the places and lengths of what i draws gave, and c is the place that they left.
use Prim.Native.Nat.{◌*◌}
use lib.ListN.{length}
use Rattle.string.specs.String.{next_text}
use Rattle.bulk.specs.Bulk.{text_draw, part_words}
use Rattle.bulk.proofs.Drawing.{ReadTo}
use Rattle.bulk.proofs.read_texts.Given as goal

abbrev pub invariant-loop-i : goal.invariant-loop-i
invariant-loop-i l = ReadTo (λ d. text_draw (next_text l.column d)) part_words (length l.initial.out) l.room l.initial.c l.out (2 * l.i) l.i l.c
