-- `encode_update` meets its contract: the diff against zeros, which name no client.
use Rattle.diffs.proofs.Empty.{against-zeros}
use Rattle.diffs.proofs.encode_update.Goals as goal

pub returns : goal.returns
returns c = let a = c.args in
    let e = c.encode_diff.ensures in
    rw (e.0, e.1, e.2, e.3) (against-zeros a.form a.update.now a.to a.rows.now a.ranges.now a.out.now)
