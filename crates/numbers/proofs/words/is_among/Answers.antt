-- `numbers::words::is_among` meets its contract: the library's `contains` asks what `among` says.
use Rattle.std.proofs.Common.{◌∙◌, take}
use Rattle.numbers.proofs.Among.{any-among}
use Rattle.numbers.proofs.words.is_among.Goals as goal

pub returns : goal.returns
returns c = c.contains.ensures.value ∙ any-among c.args.word (take c.args.n c.args.words.now)
