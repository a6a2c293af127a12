-- `unread::lowest_of_columns` meets its contract: ten stretches, one after the other, each with its words.
use Rattle.leftover.specs.Leftover as leftover
use Rattle.cells.specs.Cells.{cell, numbers_in, differences_in, bytes_in, texts_in, state_in}
use Rattle.unread.proofs.lowest_of_columns.Goals as goal

pub returns : goal.returns
unfolding leftover.lowest leftover.columns_at cell numbers_in differences_in bytes_in texts_in state_in
returns c = rw (
  ← c.lower-key.ensures,
  ← c.lower-client.ensures,
  ← c.lower-left.ensures,
  ← c.lower-right.ensures,
  ← c.lower-info.ensures,
  ← c.lower-texts.ensures,
  ← c.lower-units.ensures,
  ← c.lower-parent.ensures,
  ← c.lower-types.ensures,
)
    c.lower.ensures
