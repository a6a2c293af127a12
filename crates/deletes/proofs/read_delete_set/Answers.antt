-- `deletes::read_delete_set` meets its contract: the rows that are kept, in normal form; zeros on a refusal.
use mathlib.Core.Path.{◌∙◌}
use Rattle.deletes.specs.DeleteSet.{taken}
use Rattle.deletes.proofs.Sets.{set-refused, rows-ready, set-rows}
use Rattle.deletes.proofs.read_delete_set.Goals as goal

pub normalize-m-requires : goal.normalize-m-requires
unfolding taken
normalize-m-requires c = let a = c.args in rows-ready a.form a.update.now a.at a.words.now _ _ c.collect.ensures _ _ c.in-Ok.is

pub returns-in-Ok : goal.returns-in-Ok
unfolding taken
returns-in-Ok c = let a = c.args in
    let o = set-rows a.form a.update.now a.at a.words.now _ _ c.collect.ensures _ _ c.in-Ok.is in
    (rw c.normalize-m.ensures.0 o.0, c.normalize-m.ensures.1 ∙ o.1)

pub returns-in-Err : goal.returns-in-Err
unfolding taken
returns-in-Err c = let a = c.args in
    let o = set-refused a.form a.update.now a.at a.words.now _ _ c.collect.ensures _ c.in-Err.is in
    (o.0, c.clear.ensures ∙ o.1)
