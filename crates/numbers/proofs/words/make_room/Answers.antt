-- `numbers::words::make_room` meets its contract: the library's `copy_within` stores what lay between.
use Rattle.std.proofs.Common.{◌∙◌, ◌+◌, arith}
use Rattle.numbers.proofs.Moves.{copied}
use Rattle.numbers.proofs.words.make_room.Goals as goal

pub returns : goal.returns
returns c = c.copy_within.ensures.after ∙ copied c.args.words.now c.args.from c.args.to (c.args.from + c.args.by) c.requires.0 (omega (arith, c.requires.0, c.requires.1)) (omega (arith, c.requires.0, c.requires.1))
