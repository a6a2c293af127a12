-- `string::take_text` meets its contract: brought within the bytes, the texts from the place on are the same bytes, so what is taken is the same.
use mathlib.Core.Path.{◌≡◌, sym, ap, ◌∙◌}
use lib.Seq.{slice}
use Rattle.text.specs.declared.Taken.{Taken}
use Rattle.text.specs.declared.Taken.TheVariants as units
use Rattle.text.specs.Utf8.{take_units}
use Rattle.string.specs.StringInner.{TookWithin}
use Rattle.string.proofs.Texts.{slice-within, taken-within}
use Rattle.string.proofs.take_text.Goals as goal
use Rattle.string.proofs.take_text.Goals.{After-least-from}

-- the bytes that are looked at are those that were asked for
same : (c : After-least-from)
    → let a = c.args in slice c.least-from.result c.least-to.result a.column.now ≡ slice a.at a.end a.column.now
same c =
    let a = c.args in
    slice-within a.column.now a.at a.end c.least-from.result c.least-to.result c.least-to.ensures.1 c.least-to.ensures.0 c.least-to.ensures.2 c.least-from.ensures.0 c.least-from.ensures.1 c.least-from.ensures.2

within : (c : After-least-from) (r : Taken)
    → let a = c.args in r ≡ take_units 7 a.u (slice c.least-from.result c.least-to.result a.column.now) → TookWithin a.column.now a.at r
unfolding TookWithin
within c (units.Took b) e =
    let a = c.args in
    taken-within a.column.now a.at a.end c.least-from.result c.least-to.result c.least-to.ensures.1 c.least-to.ensures.0 c.least-to.ensures.2 c.least-from.ensures.0 c.least-from.ensures.1 c.least-from.ensures.2 a.u b.0 (sym e)
within c (units.Refused why) e = tt

pub returns : goal.returns
returns c = (c.take_units.ensures ∙ ap (take_units 7 _) (same (goal.at.returns c).After-least-from), within (goal.at.returns c).After-least-from _ c.take_units.ensures)
