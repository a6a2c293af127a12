-- `begin_text` meets its contract, by the cases of the opening.
use mathlib.Core.Path.{sym, ap, ◌∙◌}
use Rattle.readers.specs.Readers.{text_start}
use Rattle.readers.proofs.begin_text.Goals as goal

pub returns-in-At : goal.returns-in-At
unfolding text_start
returns-in-At c = let r = c.open.ensures in sym (ap (text_start _) (sym r ∙ c.in-At.is))

pub returns-in-Not : goal.returns-in-Not
unfolding text_start
returns-in-Not c = let r = c.open.ensures in rw c.start-units.ensures (sym (ap (text_start _) (sym r ∙ c.in-Not.is)))
