-- `take_text` meets its contract: from the place on, or from the end where the place is past it.
use mathlib.Core.Path.{ap, ◌∙◌}
use Rattle.text.specs.Utf8.{take_units}
use Rattle.wairokabi.specs.Promises.{cut_answer}
use Rattle.wairokabi.proofs.Laws.{slice-from, slice-end}
use Rattle.wairokabi.proofs.take_text.Goals as goal

pub returns-then-text-at : goal.returns-then-text-at
returns-then-text-at c = let t = c.args.text.now in
    c.cut_of.ensures ∙ ap cut_answer (c.take_units.ensures ∙ ap (take_units 7 _) (slice-end t c.args.at c.if-text-at.true))

pub returns : goal.returns
returns c = let t = c.args.text.now in
    c.cut_of-2.ensures ∙ ap cut_answer (c.take_units-2.ensures ∙ ap (take_units 7 _) (slice-from t c.args.at))
