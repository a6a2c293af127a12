-- `info_byte` meets its contract, with no sum that wraps.
use Rattle.records.proofs.Writes.{info-byte-is}
use Rattle.records.proofs.info_byte.Goals as goal

pub returns : goal.returns
returns c = let p1 = c in
    let p2 = c in
    let p3 = c in
    let p4 = c in
    info-byte-is p4.args.b p3.content_number-content.result p2.bit-left.result p1.bit-right.result c.bit-key.result
    p3.content_number-content.ensures.0 p2.bit-left.ensures.0 p1.bit-right.ensures.0 c.bit-key.ensures.0
