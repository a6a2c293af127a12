-- `reader::read_blocks` meets its contract: its words are fresh and enough, and what they hold at the end is forgotten.
use Rattle.std.proofs.Common.{sym, ◌∙◌}
use Rattle.update.proofs.Laws.{fresh, fresh-enough, fresh-few}
use Rattle.reader.proofs.Keyless.{keyless-byte}
use Rattle.reader.proofs.read_blocks.Goals as goal

pub read_blocks_over-requires : goal.read_blocks_over-requires
read_blocks_over-requires c = (fresh-few, λ other _. keyless-byte c.args.form c.args.update.now (sym c.is_keyless.ensures ∙ c.if-is_keyless.true) other)

pub read_blocks_over-requires-2 : goal.read_blocks_over-requires-2
read_blocks_over-requires-2 c = (fresh, λ other. fresh-enough c.args.update.now)
