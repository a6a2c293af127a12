-- `open` meets its contract: `begin` decides all, and what it says goes with the bytes into the answer.
use Rattle.std.proofs.Common.{ap}
use Rattle.readers.specs.declared.Opened.{Opened}
use Rattle.readers.specs.declared.Start.{Start}
use Rattle.readers.specs.Readers.{reader}
use Rattle.readers.specs.Promises.{opened}
use Rattle.readers.proofs.open.Goals as goal

pub returns : goal.returns
unfolding opened
returns c =
    let made = λ (s : Start). let o : Opened = record { refusal = s.refusal; column = reader c.args.bytes s.place } in o in
    ap made c.begin-s.ensures
