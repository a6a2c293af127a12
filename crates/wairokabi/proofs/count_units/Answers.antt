-- `count_units` meets its contract: whether the text is whole decides.
use mathlib.Core.Path.{◌≡◌, sym, ap, ◌∙◌}
use mathlib.Core.Bool.{true, false}
use Rattle.text.specs.declared.Counted as text
use Rattle.text.specs.Utf8.{well_formed, counted_in}
use Rattle.wairokabi.specs.Promises.{count_answer}
use Rattle.wairokabi.proofs.Laws.{slice-whole}
use Rattle.wairokabi.proofs.count_units.Goals as goal

pub returns-then-c : goal.returns-then-c
unfolding count_answer counted_in
returns-then-c c = let t = c.args.text.now in
    let e = c.count_units-c.ensures ∙ ap counted_in (slice-whole t) in
    let w : well_formed t ≡ true = sym (ap (λ (x : text.Counted). x.whole) e) ∙ c.if-c.true in
    let u = ap (λ (x : text.Counted). x.units) e in
    rw (w, u) (rw w)

pub returns : goal.returns
unfolding count_answer counted_in
returns c = let t = c.args.text.now in
    let e = c.count_units-c.ensures ∙ ap counted_in (slice-whole t) in
    let w : well_formed t ≡ false = sym (ap (λ (x : text.Counted). x.whole) e) ∙ c.if-c.false in
    rw w
