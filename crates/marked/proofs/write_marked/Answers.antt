-- `write_marked` meets its contract: by the content.
use Rattle.readings.specs.Sound.{bytes_in}
use Rattle.tokens.specs.Tokens.{lens}
use Rattle.tokens.proofs.Rooms.{room-is}
use Rattle.tokens.proofs.Wrote.{wrote_then, wrote-values}
use Rattle.tokens.proofs.Keyed.{wrote-keys, wrote-keys-is, wrote-keys-none}
use Rattle.marked.proofs.Marked.{marked-format, marked-type, marked-any, marked-none, field-values}
use Rattle.marked.proofs.write_marked.Goals as goal

pub write_format-requires : goal.write_format-requires
write_format-requires c = let start = c in
    let a = start.args in
    (start.requires.0, room-is (marked-format a.update.now a.b c.if-b-eq-FORMAT.true) start.requires.1)

pub write_type-requires : goal.write_type-requires
write_type-requires c = let p2 = c in
    let p4 = c in
    let start = c in
    let a = start.args in
    (start.requires.0, room-is (marked-type a.update.now a.b p4.if-b-eq-FORMAT.false p2.if-b-eq-TYPE.true) start.requires.1)

pub returns-then-b-eq-FORMAT : goal.returns-then-b-eq-FORMAT
returns-then-b-eq-FORMAT c = let p4 = c in
    let p7 = c in
    let p12 = c in
    let a = p12.args in
    wrote-keys-is (marked-format a.update.now a.b p7.if-b-eq-FORMAT.true) p4.write_format.ensures

pub returns-then-b-eq-TYPE : goal.returns-then-b-eq-TYPE
returns-then-b-eq-TYPE c = let p4 = c in
    let p7 = c in
    let p9 = c in
    let p14 = c in
    let a = p14.args in
    wrote-keys-is (marked-type a.update.now a.b p9.if-b-eq-FORMAT.false p7.if-b-eq-TYPE.true) p4.write_type.ensures

pub returns-then-b-eq-ANY : goal.returns-then-b-eq-ANY
returns-then-b-eq-ANY c = let p2 = c in
    let p8 = c in
    let p12 = c in
    let p14 = c in
    let p16 = c in
    let p21 = c in
    let a = p21.args in
    let b = bytes_in a.update.now a.b.part in
    wrote-keys-is (marked-any a.update.now a.b p16.if-b-eq-FORMAT.false p14.if-b-eq-TYPE.false p12.if-b-eq-ANY.true)
    (wrote-keys (field-values lens a.b.length.0 b)
    (wrote_then p8.write_len-counted.ensures (wrote-values b p8.write_len-counted.ensures.tidy p2.part.ensures)))

pub returns : goal.returns
returns c = let p2 = c in
    let p4 = c in
    let p9 = c in
    let a = p9.args in
    wrote-keys-is (marked-none a.update.now a.b p4.if-b-eq-FORMAT.false p2.if-b-eq-TYPE.false c.if-b-eq-ANY.false) (wrote-keys-none p9.requires.0.tidy)
