-- `size_block` meets its contract: a GC, an item beside others, or nothing.
use mathlib.Core.Path.{refl, sym, ◌∙◌}
use native.Mathlib.Omega.{arith}
use Rattle.tokens.specs.Tokens.{infos, lens, in_line, column_in}
use Rattle.tokens.proofs.Sized.{gauged-then, gauged-is, gauged-tidy, gauged-field}
use Rattle.records.specs.Records.{info_byte}
use Rattle.records.proofs.Writes.{block-gc}
use Rattle.sizing.proofs.Plain.{plain-far, plain-gc, plain_other, plain-linked, plain-item, passed_over, measured}
use Rattle.sizing.proofs.size_block.Goals as goal

pub returns-then-not-is_in_limits : goal.returns-then-not-is_in_limits
returns-then-not-is_in_limits c = let p1 = c in
    let p5 = c in
    let far = sym p1.is_in_limits.ensures ∙ c.if-not-is_in_limits.true in
    passed_over p5.args.b p5.args.update.now p5.requires (plain-far p5.args.b far)

pub size_byte-requires : goal.size_byte-requires
unfolding column_in
size_byte-requires c = (c.requires, omega arith, refl)

pub size_number-requires : goal.size_number-requires
unfolding column_in
size_number-requires c = (c.size_byte.ensures.tidy, omega arith, refl)

pub returns-then-b-eq-GC : goal.returns-then-b-eq-GC
unfolding in_line
returns-then-b-eq-GC c = let p2 = c in
    let p6 = c in
    let p8 = c in
    let p10 = c in
    let p11 = c in
    let a = p11.args in
    let near = sym p11.is_in_limits.ensures ∙ p10.if-not-is_in_limits.false in
    measured a.b a.update.now (plain-gc a.b near p8.if-b-eq-GC.true)
    (gauged-is (block-gc a.update.now a.b p8.if-b-eq-GC.true)
    (gauged-then (gauged-field infos 0 (omega arith) refl p6.size_byte.ensures)
    (gauged-field lens a.b.length.0 (omega arith) refl p2.size_number.ensures)))

pub returns-then-not-is_simple : goal.returns-then-not-is_simple
returns-then-not-is_simple c = let p1 = c in
    let p2 = c in
    let p4 = c in
    let p5 = c in
    let p9 = c in
    let near = sym p5.is_in_limits.ensures ∙ p4.if-not-is_in_limits.false in
    let other = sym p1.is_simple.ensures ∙ c.if-not-is_simple.true in
    passed_over p9.args.b p9.args.update.now p9.requires (plain_other p9.args.b near p2.if-b-eq-GC.false other)

pub returns-then-not-is_linked : goal.returns-then-not-is_linked
returns-then-not-is_linked c = let p1 = c in
    let p2 = c in
    let p3 = c in
    let p4 = c in
    let p6 = c in
    let p7 = c in
    let p11 = c in
    let near = sym p7.is_in_limits.ensures ∙ p6.if-not-is_in_limits.false in
    let s = sym p3.is_simple.ensures ∙ p2.if-not-is_simple.false in
    let alone = sym (c.if-not-is_linked.true) ∙ p1.is_linked.ensures in
    passed_over p11.args.b p11.args.update.now p11.requires (alone ∙ plain-linked p11.args.b near p4.if-b-eq-GC.false s)

pub size_byte-requires-2 : goal.size_byte-requires-2
unfolding column_in
size_byte-requires-2 c = (c.requires, omega arith, refl)

pub size_right-requires : goal.size_right-requires
size_right-requires c = gauged-tidy c.size_left.ensures

pub size_content-requires : goal.size_content-requires
size_content-requires c = let p3 = c in
    let p16 = c in
    let p17 = c in
    (gauged-tidy p3.size_right.ensures, sym p17.is_simple.ensures ∙ p16.if-not-is_simple.false)

pub returns : goal.returns
unfolding in_line
returns c = let p2 = c in
    let p6 = c in
    let p10 = c in
    let p14 = c in
    let p15 = c in
    let p17 = c in
    let p18 = c in
    let p19 = c in
    let p20 = c in
    let p21 = c in
    let p23 = c in
    let p24 = c in
    let a = p24.args in
    let near = sym p24.is_in_limits.ensures ∙ p23.if-not-is_in_limits.false in
    let s = sym p20.is_simple.ensures ∙ p19.if-not-is_simple.false in
    let l = sym p18.is_linked.ensures ∙ p17.if-not-is_linked.false in
    measured a.b a.update.now (sym l ∙ plain-linked a.b near p21.if-b-eq-GC.false s)
    (gauged-is (plain-item a.b a.update.now p21.if-b-eq-GC.false s l)
    (gauged-then (gauged-field infos (info_byte a.b) (omega arith) refl (rw p15.info_byte.ensures at p14.size_byte-2.ensures))
    (gauged-then (gauged-then p10.size_left.ensures p6.size_right.ensures) p2.size_content.ensures)))
