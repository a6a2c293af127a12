-- `telling::tell` meets its contract: what the plan asks for.
use mathlib.Core.Path.{sym, ap, ◌∙◌}
use Rattle.telling.specs.Asked.{asks}
use Rattle.telling.proofs.Laws.{retold}
use Rattle.telling.proofs.tell.Goals as goal

pub returns-in-Number : goal.returns-in-Number
unfolding asks
returns-in-Number c = let b = c in
    let a = b.args in
    let f = ap asks (sym c.in-Number.is) ∙ c.ask.ensures in
    (retold a.form a.update.now a.w.now _ a.sheet.now _ a.i _ f c.code_of-code.ensures c.tell_number.ensures, b.requires.1)

pub returns-in-Text : goal.returns-in-Text
unfolding asks
returns-in-Text c = let b = c in
    let a = b.args in
    let f = ap asks (sym c.in-Text.is) ∙ c.ask.ensures in
    (retold a.form a.update.now a.w.now _ a.sheet.now _ a.i _ f c.code_of-code.ensures c.tell_text.ensures.0, c.tell_text.ensures.1)

pub returns-in-Key : goal.returns-in-Key
unfolding asks
returns-in-Key c = let b = c in
    let a = b.args in
    let f = ap asks (sym c.in-Key.is) ∙ c.ask.ensures in
    (retold a.form a.update.now a.w.now _ a.sheet.now _ a.i _ f c.code_of-code.ensures c.tell_key.ensures.0, c.tell_key.ensures.1)

pub returns-in-Stored : goal.returns-in-Stored
unfolding asks
returns-in-Stored c = let b = c in
    let a = b.args in
    let f = ap asks (sym c.in-Stored.is) ∙ c.ask.ensures in
    (retold a.form a.update.now a.w.now _ a.sheet.now _ a.i _ f c.code_of-code.ensures c.tell_stored.ensures.0, c.tell_stored.ensures.1)
