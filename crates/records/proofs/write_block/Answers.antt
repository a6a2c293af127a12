-- `write_block` meets its contract: a GC, a Skip, or an item.
use mathlib.Core.Path.{sym, ◌∙◌}
use mathlib.Core.List.{[], ◌∷◌, ◌++◌}
use Rattle.tokens.specs.Tokens.{info, infos, lens}
use Rattle.tokens.proofs.Rooms.{room-same, room-later, room-is}
use Rattle.tokens.proofs.Wrote.{wrote_then, wrote-var}
use Rattle.tokens.proofs.Keyed.{aliased-same, wrote-keys, wrote-keys-then, wrote-keys-is, wrote-keys-none}
use Rattle.marked.proofs.Marked.{one_field, field-field, field-var}
use Rattle.records.specs.Records.{info_byte, place_tokens, content_tokens}
use Rattle.records.proofs.Writes.{block-gc, block-skip, block-item, block_none}
use Rattle.records.proofs.Keyless.{place-keyless}
use Rattle.records.proofs.write_block.Goals as goal

pub returns-then-b-eq-GC : goal.returns-then-b-eq-GC
returns-then-b-eq-GC c = let p4 = c in
    let p11 = c in
    let p14 = c in
    let p20 = c in
    let a = p20.args in
    wrote-keys-is (block-gc a.update.now a.b p14.if-b-eq-GC.true)
    (wrote-keys (field-field infos 0 lens a.b.length.0) (wrote_then p11.write_info-gc.ensures p4.write_len.ensures))

pub returns-then-b-eq-SKIP : goal.returns-then-b-eq-SKIP
returns-then-b-eq-SKIP c = let p2 = c in
    let p8 = c in
    let p11 = c in
    let p13 = c in
    let p19 = c in
    let a = p19.args in
    wrote-keys-is (block-skip a.update.now a.b p13.if-b-eq-GC.false p11.if-b-eq-SKIP.true)
    (wrote-keys (field-var infos 10 a.b.length.0)
    (wrote_then p8.write_info-skip.ensures (wrote-var a.b.length.0 p8.write_info-skip.ensures.tidy p2.number.ensures)))

pub returns-then-not-is_item : goal.returns-then-not-is_item
returns-then-not-is_item c = let p1 = c in
    let p2 = c in
    let p4 = c in
    let p10 = c in
    let a = p10.args in
    let h = sym p1.is_item.ensures ∙ c.if-not-is_item.true in
    wrote-keys-is (block_none a.update.now a.b p4.if-b-eq-GC.false p2.if-b-eq-SKIP.false h) (wrote-keys-none p10.requires.0.tidy)

pub write_content-requires : goal.write_content-requires
write_content-requires c = let p6 = c in
    let p13 = c in
    let p27 = c in
    let u = p27.args.update.now in
    let b = p27.args.b in
    let p17 = c in
    let p18 = c in
    let p19 = c in
    let p21 = c in
    let item = sym p18.is_item.ensures ∙ p17.if-not-is_item.false in (
      aliased-same u c.write_info-item.new.lanes c.write_place-placed.new.lanes c.write_place-placed.ensures.keys c.write_place-placed.ensures.tidy
          (aliased-same u p27.args.lanes.now c.write_info-item.new.lanes c.write_info-item.ensures.keys c.write_info-item.ensures.tidy p27.requires.0),
      room-same (c.write_place-placed.auto.lanes ∙ c.write_info-item.auto.lanes) (room-later (place_tokens u b) (content_tokens u b)
          (room-later (info (info_byte b) ∷ []) (place_tokens u b ++ content_tokens u b) (room-is (block-item u b p21.if-b-eq-GC.false p19.if-b-eq-SKIP.false item) p27.requires.1))),
    )

pub returns : goal.returns
returns c = let p4 = c in
    let p11 = c in
    let p18 = c in
    let p19 = c in
    let p22 = c in
    let p23 = c in
    let p24 = c in
    let p26 = c in
    let p32 = c in
    let a = p32.args in
    let h = sym p23.is_item.ensures ∙ p22.if-not-is_item.false in
    wrote-keys-is (block-item a.update.now a.b p26.if-b-eq-GC.false p24.if-b-eq-SKIP.false h)
    (wrote-keys-then (wrote-keys (one_field infos (info_byte a.b)) (rw p19.info_byte.ensures at p18.write_info-item.ensures))
    (wrote-keys-then (wrote-keys (place-keyless a.update.now a.b) p11.write_place-placed.ensures) p4.write_content.ensures))
