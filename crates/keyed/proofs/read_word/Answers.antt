-- `keyed::read_word` meets its contract: what is read is the text.
use mathlib.Core.Path.{sym, ap, ◌∙◌}
use Rattle.decoder.specs.Line.{word_of}
use Rattle.fields.specs.Fields.{text_given}
use Rattle.keyed.proofs.Laws.{word-done, word-refused}
use Rattle.keyed.proofs.read_word.Goals as goal

pub returns-in_err-read_text : goal.returns-in_err-read_text
returns-in_err-read_text c = rw c.from_residual.ensures (let b = c in
    let n = b.args.k in
    let v = c.read_text.new.w in
    let q = c.read_text.new.r in
    let k = c.read_text.ensures in
    (k.0, k.1, word-refused n v q ∙ ap word_of (ap (text_given n v q) (sym c.in_err-read_text.was) ∙ k.2)))

pub returns : goal.returns
returns c = let b = c in
    let n = b.args.k in
    let v = c.read_text.new.w in
    let q = c.read_text.new.r in
    let k = c.read_text.ensures in
    (k.0, k.1, word-done n v q _ ∙ ap word_of (ap (text_given n v q) (sym c.in_ok-read_text.was) ∙ k.2))
