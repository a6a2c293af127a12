-- `is_same` meets its contract: slices are the same where their bytes are.
use mathlib.Core.Path.{◌∙◌}
use Rattle.readings.specs.Sound.{bytes_in}
use Rattle.numbering.proofs.Bytes.{pointwise-same}
use Rattle.numbering.proofs.is_same.Goals as goal

pub returns : goal.returns
returns c = let a = c.args in
    let u = a.update.now in
    c.eq.ensures ∙ rw (c.bytes.ensures, c.bytes-2.ensures) (pointwise-same (bytes_in u a.p) (bytes_in u a.q))
