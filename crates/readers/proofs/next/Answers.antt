-- `next` meets its contract: the reader's parts go to `step_of`, and it is left at the new place.
use Rattle.std.proofs.Common.{ap}
use Rattle.readers.specs.declared.Step.{Step}
use Rattle.readers.specs.Readers.{reader, answer_of, after}
use Rattle.readers.proofs.next.Goals as goal

pub returns : goal.returns
unfolding answer_of after
returns c = (ap (λ (s : Step). s.answer) c.step_of-s.ensures, ap (λ (s : Step). reader c.args.column.now.bytes s.place) c.step_of-s.ensures)
