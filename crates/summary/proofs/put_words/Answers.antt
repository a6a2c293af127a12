-- `summary::put_words` meets its contract: four stores.
use Rattle.summary.proofs.Laws.{four-words}
use Rattle.summary.proofs.put_words.Goals as goal

pub returns : goal.returns
returns c = let a = c.args in four-words a.rows.now a.k a.client a.first a.end a.blocks
