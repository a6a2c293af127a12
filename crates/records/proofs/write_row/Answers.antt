-- `write_row` meets its contract: a row whose cut lies within it, its head before it.
use mathlib.Core.Path.{sym, ap, ◌∙◌}
use Rattle.tokens.proofs.Keyed.{aliased-same, wrote-keys, wrote-keys-then, wrote-keys-is, wrote-keys-none}
use Rattle.tokens.proofs.Rooms.{room-same, room-later, room-is}
use Rattle.kept.specs.Plan.{rest_of, cut_at}
use Rattle.records.specs.Records.{block_tokens}
use Rattle.records.specs.Stops.{head_tokens}
use Rattle.records.proofs.Writes.{row-none, row-some}
use Rattle.records.proofs.Keyless.{head-keyless}
use Rattle.records.proofs.Sane.{sane-limits}
use Rattle.records.proofs.write_row.Goals as goal

pub returns-then-not-is_sane : goal.returns-then-not-is_sane
returns-then-not-is_sane c = let p1 = c in
    let p2 = c in
    let p8 = c in
    let a = p8.args in
    let e = rw p2.rest-ends.ensures at p1.is_sane.ensures in
    let h = sym e ∙ c.if-not-is_sane.true in
    wrote-keys-is (row-none a.update.now a.b a.c.head (rest_of a.b a.c.from.0 a.c.skip.0) h)
    (wrote-keys-none p8.requires.0.tidy)

pub write_head-headed-requires : goal.write_head-headed-requires
write_head-headed-requires c = let p2 = c in
    let p3 = c in
    let p4 = c in
    let p10 = c in
    let a = p10.args in
    let e = rw p4.rest-ends.ensures at p3.is_sane.ensures in
    (p10.requires.0.tidy, sane-limits a.b (rest_of a.b a.c.from.0 a.c.skip.0) (sym e ∙ p2.if-not-is_sane.false))

pub cut-piece-requires : goal.cut-piece-requires
cut-piece-requires c = let p7 = c in
    let p8 = c in
    sym p8.is_sane.ensures ∙ p7.if-not-is_sane.false

pub write_block-requires : goal.write_block-requires
write_block-requires c = let p7 = c in
    let p18 = c in
    let a = p18.args in
    let u = a.update.now in
    let r = rest_of a.b a.c.from.0 a.c.skip.0 in
    let p10 = c in
    let p11 = c in
    let p12 = c in
    let e = rw p12.rest-ends.ensures at p11.is_sane.ensures in
    let h = sym e ∙ p10.if-not-is_sane.false in
    let piece = rw p12.rest-ends.ensures at c.cut-piece.ensures in (
      aliased-same u a.lanes.now c.write_head-headed.new.lanes c.write_head-headed.ensures.keys c.write_head-headed.ensures.tidy p18.requires.0,
      room-same c.write_head-headed.auto.lanes (room-is (ap (block_tokens u) (sym piece)) (room-later (head_tokens a.c.head a.c.from.0 a.b) (block_tokens u (cut_at a.b r))
          (room-is (row-some u a.b a.c.head r h) p18.requires.1))),
    )

pub returns : goal.returns
returns c = let p4 = c in
    let p7 = c in
    let p12 = c in
    let p15 = c in
    let p16 = c in
    let p17 = c in
    let p23 = c in
    let a = p23.args in
    let e = rw p17.rest-ends.ensures at p16.is_sane.ensures in
    let h = sym e ∙ p15.if-not-is_sane.false in
    let piece = rw p17.rest-ends.ensures at p7.cut-piece.ensures in
    wrote-keys-is (row-some a.update.now a.b a.c.head (rest_of a.b a.c.from.0 a.c.skip.0) h)
    (wrote-keys-then (wrote-keys (head-keyless a.c.head a.c.from.0 a.b) p12.write_head-headed.ensures) (rw piece at p4.write_block.ensures))
