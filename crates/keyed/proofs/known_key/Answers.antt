-- `keyed::known_key` meets its contract: the words of that key.
use mathlib.Core.Path.{sym, ◌∙◌}
use Rattle.cells.specs.Cells.{part_in}
use Rattle.cells.proofs.Keys.{keys-at}
use Rattle.cells.proofs.States.{beside-put}
use Rattle.fields.proofs.Laws.{part-put}
use Rattle.keyed.proofs.known_key.Goals as goal

pub returns : goal.returns
unfolding part_in
returns c = let b = c in
    let r = b.args.r.now in
    let w = b.args.w.now in
    let n = b.args.k in
    (beside-put n _ _ r b.requires.1, part-put n _ _ r b.requires.1 ∙ sym (keys-at w b.args.number b.requires.2))
