-- `text::check` meets its contract: what is behind plain bytes is well-formed exactly if the whole is.
use mathlib.Core.Path.{ap, ◌∙◌}
use Rattle.text.specs.Utf8.{settled, well_formed}
use Rattle.text.proofs.Laws.{legal-start}
use Rattle.text.proofs.Plain.{behind-check}
use borrow.Author.Rules.{rules}
use Rattle.text.proofs.check.Goals as goal

pub feed-st-requires : goal.feed-st-requires
feed-st-requires c = (search rules, search rules, legal-start)

pub returns : goal.returns
unfolding well_formed
returns c = let p = c.plain_to-at.ensures in
    let k = c in
    c.is_settled.ensures
    ∙ ap settled c.feed-st.ensures.0
    ∙ behind-check k.args.s.now k.args.from c.plain_to-at.result k.args.to p.0 p.1 k.requires.1 p.2
