-- `fields::read_clock` meets its contract: in line, or from the column of its side.
use Rattle.fields.proofs.Laws.{clock-read}
use Rattle.fields.proofs.read_clock.Goals as goal

pub returns : goal.returns
returns c = let b = c in
    clock-read b.args.form b.args.update.now b.args.w.now c.read_difference.new.w c.read_difference.result b.args.k b.requires.1 c.read_difference.ensures
