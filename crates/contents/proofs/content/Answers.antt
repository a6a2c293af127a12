-- `content` meets its contract: `look` decides all, `cut` gives the part, and both go into the answer.
use Rattle.contents.proofs.Inside.{where-inside}
use Rattle.contents.proofs.content.Goals as goal

pub cut-part-requires : goal.cut-part-requires
cut-part-requires c = rw c.look-w.ensures (where-inside c.args.form c.args.update.now c.args.n)
