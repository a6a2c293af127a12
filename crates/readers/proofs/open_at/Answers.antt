-- `open_at` meets its contract: the refusal and the reader's place are taken from what `open` gives.
use Rattle.std.proofs.Common.{ap}
use Rattle.readers.specs.declared.Opened.{Opened}
use Rattle.readers.specs.declared.Start.{Start}
use Rattle.readers.specs.Promises.{opened}
use Rattle.readers.proofs.open_at.Goals as goal

pub returns : goal.returns
unfolding opened
returns c =
    let told = λ (o : Opened). let s : Start = record { refusal = o.refusal; place = o.column.place } in s in
    ap told c.open-opened.ensures
