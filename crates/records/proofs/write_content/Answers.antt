-- `write_content` meets its contract: by the content, one token or those of a marked content.
use Rattle.readings.specs.Sound.{bytes_in}
use Rattle.tokens.specs.Tokens.{lens}
use Rattle.tokens.proofs.Rooms.{room-is}
use Rattle.tokens.proofs.Wrote.{wrote-buf}
use Rattle.tokens.proofs.Keyed.{wrote-keys, wrote-keys-is}
use Rattle.marked.proofs.Marked.{one_field, one-text, one-buf}
use Rattle.records.proofs.Writes.{content-deleted, content-binary, content-text, content-marked}
use Rattle.records.proofs.write_content.Goals as goal

pub write_marked-requires : goal.write_marked-requires
write_marked-requires c = let p2 = c in
    let p4 = c in
    let p6 = c in
    let start = c in
    let a = start.args in
    (start.requires.0, room-is (content-marked a.update.now a.b p6.if-b-eq-DELETED.false p4.if-b-eq-BINARY.false p2.if-b-eq-TEXT.false) start.requires.1)

pub returns-then-b-eq-DELETED : goal.returns-then-b-eq-DELETED
returns-then-b-eq-DELETED c = let p4 = c in
    let p7 = c in
    let p14 = c in
    let a = p14.args in
    wrote-keys-is (content-deleted a.update.now a.b p7.if-b-eq-DELETED.true) (wrote-keys (one_field lens a.b.length.0) p4.write_len.ensures)

pub returns-then-b-eq-BINARY : goal.returns-then-b-eq-BINARY
returns-then-b-eq-BINARY c = let p2 = c in
    let p4 = c in
    let p6 = c in
    let p13 = c in
    let a = p13.args in
    let b = bytes_in a.update.now a.b.part in
    wrote-keys-is (content-binary a.update.now a.b p6.if-b-eq-DELETED.false p4.if-b-eq-BINARY.true)
    (wrote-keys (one-buf b) (wrote-buf b p13.requires.0.tidy p2.led_part.ensures))

pub returns-then-b-eq-TEXT : goal.returns-then-b-eq-TEXT
returns-then-b-eq-TEXT c = let p4 = c in
    let p7 = c in
    let p9 = c in
    let p11 = c in
    let p18 = c in
    let a = p18.args in
    wrote-keys-is (content-text a.update.now a.b p11.if-b-eq-DELETED.false p9.if-b-eq-BINARY.false p7.if-b-eq-TEXT.true)
    (wrote-keys (one-text (bytes_in a.update.now a.b.part) a.b.length.0) p4.write_string.ensures)

pub returns : goal.returns
returns c = let p4 = c in
    let p7 = c in
    let p9 = c in
    let p11 = c in
    let p18 = c in
    let a = p18.args in
    wrote-keys-is (content-marked a.update.now a.b p11.if-b-eq-DELETED.false p9.if-b-eq-BINARY.false p7.if-b-eq-TEXT.false) p4.write_marked.ensures
