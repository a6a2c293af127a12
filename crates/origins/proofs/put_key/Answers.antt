-- `origins::put_key` meets its contract: a line, and another where the key is new.
use mathlib.Core.Path.{◌∙◌}
use native.Mathlib.Omega.{arith}
use Rattle.cells.specs.Cells.{key_count}
use Rattle.origins.proofs.Sheets.{above_on, key-known, key-new}
use Rattle.origins.proofs.put_key.Goals as goal

pub returns-then-w-keys : goal.returns-then-w-keys
unfolding key_count
returns-then-w-keys c = let a = c.args in
    let p = c.put_line.ensures in
    let l = p.1 ∙ c.key_line-l.ensures in
    (p.0, omega arith, omega arith, key-known a.update.now a.code a.part a.base a.keys a.w.now _ a.i l c.if-w-keys.true)

pub returns : goal.returns
unfolding key_count
returns c = let a = c.args in
    let p = c.put_line.ensures in
    let q = c.put_line-2.ensures in
    let l = q.0.same a.i (omega arith) ∙ p.1 ∙ c.key_line-l.ensures in
    let t = q.1 ∙ c.text_line-t.ensures in
    (above_on a.i a.sheet.now _ _ p.0 q.0, omega arith, omega arith, key-new a.update.now a.code a.part a.base a.keys a.w.now _ a.i l c.if-w-keys.false t)
