-- `summary::write` meets its contract: version, row count and rows, from the first bit on.
use Rattle.summary.proofs.Laws.{summary-starts}
use Rattle.summary.proofs.write.Goals as goal

pub returns : goal.returns
returns c = let a = c.args in
    summary-starts a.n a.rows.now a.out.now c.put.new.out c.put-2.new.out c.put_rows.new.out c.put.ensures c.put-2.ensures c.put_rows.ensures
