-- `size_content` meets its contract: a text, a length, or nothing on any lane but the rest.
use mathlib.Core.Path.{refl}
use native.Mathlib.Omega.{arith}
use Rattle.readings.specs.Sound.{bytes_in}
use Rattle.tokens.specs.Tokens.{lens, in_line, column_in}
use Rattle.tokens.proofs.Sized.{gauged-is, gauged-field, gauged-text, gauged-buf}
use Rattle.records.proofs.Writes.{content-deleted, content-binary, content-text}
use Rattle.sizing.proofs.Plain.{only-binary}
use Rattle.sizing.proofs.size_content.Goals as goal

pub size_number-requires : goal.size_number-requires
unfolding column_in
size_number-requires c = (c.size_text.ensures.tidy, omega arith, refl)

pub returns-then-b-eq-TEXT : goal.returns-then-b-eq-TEXT
returns-then-b-eq-TEXT c = let p2 = c in
    let p6 = c in
    let p9 = c in
    let a = p9.args in
    let h = p9.if-b-eq-TEXT.true in
    gauged-is (content-text a.update.now a.b (λ n. absurd (omega (arith, h))) (λ n. absurd (omega (arith, h))) h)
    (gauged-text (bytes_in a.update.now a.b.part) a.b.length.0 p6.size_text.ensures p2.size_number.ensures)

pub size_number-requires-then-b-eq-DELETED : goal.size_number-requires-then-b-eq-DELETED
unfolding column_in
size_number-requires-then-b-eq-DELETED c = (c.requires.0, omega arith, refl)

pub returns-then-b-eq-DELETED : goal.returns-then-b-eq-DELETED
unfolding in_line
returns-then-b-eq-DELETED c = let p2 = c in
    let p4 = c in
    let a = p4.args in
    gauged-is (content-deleted a.update.now a.b p4.if-b-eq-DELETED.true)
    (gauged-field lens a.b.length.0 (omega arith) refl p2.size_number-then-b-eq-DELETED.ensures)

pub returns-else-b-eq-DELETED : goal.returns-else-b-eq-DELETED
returns-else-b-eq-DELETED c = let p2 = c in
    let p7 = c in
    let a = p7.args in
    gauged-is (content-binary a.update.now a.b c.if-b-eq-DELETED.false (only-binary a.b.kind p7.requires.1 c.if-b-eq-DELETED.false p2.if-b-eq-TEXT.false))
    (gauged-buf (bytes_in a.update.now a.b.part) p7.requires.0)
