-- `listed::put_update` meets its contract: the empty update, or what is read.
use mathlib.Core.Path.{sym, ap, ◌∙◌}
use Rattle.lines.specs.LinesInner.{overlay}
use lib.ListN.{length}
use Rattle.listed.proofs.Laws.{put_as, text-empty, text-reading}
use Rattle.listed.proofs.put_update.Goals as goal

pub returns-then-is_empty : goal.returns-then-is_empty
returns-then-is_empty c = let a = c.args in
    put_as a.out.now (text-empty a.form a.update.now (sym c.is_empty.ensures ∙ c.if-is_empty.true)) c.put_empty.ensures

pub returns : goal.returns
returns c = let a = c.args in
    let text = text-reading a.form a.update.now (sym c.is_empty.ensures ∙ c.if-is_empty.false) in
    let p = c.put_reading.ensures in
    (p.0 ∙ ap length text, p.1 ∙ ap (overlay a.out.now 0) text)
