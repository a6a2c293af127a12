-- `origins::put_line` meets its contract: word by word.
use Rattle.origins.proofs.Sheets.{filled-held, line-held, above-held}
use Rattle.origins.proofs.put_line.Goals as goal

pub returns : goal.returns
returns c = let b = c in
    let a = b.args in
    let h = filled-held a.sheet.now a.i a.l b.requires in
    (above-held a.i a.sheet.now _ a.l h, line-held a.i a.sheet.now _ a.l h)
