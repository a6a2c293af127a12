-- `next_at` meets its contract: the reader is made of the parameters and lent to `next`; its place is taken from it after the call.
use Rattle.std.proofs.Common.{◌∙◌, ap}
use Rattle.readers.specs.declared.Answer.{Answer}
use Rattle.readers.specs.declared.Column.{Column}
use Rattle.readers.specs.declared.Step.{Step}
use Rattle.readers.specs.Readers.{answer_of, after}
use Rattle.readers.proofs.next_at.Goals as goal

abbrev step : Column → Answer → Step
step d a = record { place = d.place; answer = a }

pub returns : goal.returns
unfolding answer_of after
returns c =
    let n = c.next-answer in
    ap (λ (a : Answer). step n.new.column a) n.ensures.0 ∙ ap (λ (d : Column). step d (answer_of (record { bytes = c.args.bytes; place = c.args.place }))) n.ensures.1
