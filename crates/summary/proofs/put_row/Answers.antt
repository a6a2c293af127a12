-- `summary::put_row` meets its contract: two words of bits, and three bits more.
use Rattle.summary.proofs.Laws.{row-adds}
use Rattle.summary.proofs.put_row.Goals as goal

pub returns : goal.returns
returns c = let a = c.args in
    row-adds a.o a.k a.rows.now a.out.now c.put_wide.new.out c.upper-a.result c.lower-b.result c.upper-a.ensures c.lower-b.ensures c.put_wide.ensures
