-- `parts::bytes` meets its contract: from the part's place, or the update's end, as many bytes as lie inside.
use Rattle.std.proofs.Common.{◌≡◌, ◌+◌, ◌-◌, length, take, drop, sym, ap, arith}
use Rattle.std.specs.Prelude.{min}
use Rattle.std.proofs.lemmas.List.{drop-take, drop_min, take_min, length-take}
use Rattle.readings.specs.Sound.{bytes_in}
use Rattle.parts.proofs.bytes.Goals as goal

pub returns : goal.returns
unfolding bytes_in
returns c = let a = c.args in
    let u = a.update.now in
    let p = a.part in
    let rest = drop p.place u in
    let is : bytes_in u p ≡ take p.bytes.0 rest = drop-take p.place p.bytes.0 u in
    let size : c.min-from.result + c.bytes_inside.result - c.min-from.result ≡ min p.bytes.0 (length rest) =
    omega (arith, c.bytes_inside.ensures.0, ap length is, length-take p.bytes.0 rest) in
    rw (size, c.min-from.ensures, drop_min p.place u, take_min p.bytes.0 rest) (sym is)
