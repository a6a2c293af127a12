-- `begin` meets its contract, by the kind.
use Rattle.readers.specs.Readers.{start_of}
use Rattle.readers.proofs.begin.Goals as goal

pub returns-in-Number : goal.returns-in-Number
unfolding start_of
returns-in-Number c = rw (c.start-first.ensures, c.in-Number.is)

pub returns-in-Difference : goal.returns-in-Difference
unfolding start_of
returns-in-Difference c = rw (c.start-first-in-Difference.ensures, c.in-Difference.is)

pub returns-in-Byte : goal.returns-in-Byte
unfolding start_of
returns-in-Byte c = rw (c.start-first-in-Byte.ensures, c.in-Byte.is)

pub returns-in-Text : goal.returns-in-Text
unfolding start_of
returns-in-Text c = rw (c.begin_text.ensures, c.in-Text.is)
