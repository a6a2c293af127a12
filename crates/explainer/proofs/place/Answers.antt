-- `explainer::place` meets its contract: a block's clock is put with its info byte.
use native.Mathlib.Omega.{arith}
use mathlib.Core.Path.{refl, sym, ap, ◌∙◌}
use Rattle.explainer.specs.Following.{line_for}
use Rattle.explainer.proofs.place.Goals as goal

pub returns-then-code-ne6 : goal.returns-then-code-ne6
returns-then-code-ne6 c = let is = c.code_of-code.ensures in
    record {
      line = c.line_for.ensures ∙ ap (λ x. line_for x c.args.own) is;
      above = record { size = refl; same = λ j h. refl };
      other = λ _. refl;
      clock = λ e. absurd (c.if-code-ne6.true (is ∙ e));
    }

pub put_line-requires : goal.put_line-requires
put_line-requires c = omega (arith, c.requires)

pub returns : goal.returns
unfolding line_for
returns c = let is = c.code_of-code.ensures in
    let six = sym is ∙ c.if-code-ne6.false in
    record {
      line = sym (ap (λ x. line_for x c.args.own) six);
      above = c.put_line.ensures.0;
      other = λ n. absurd (n six);
      clock = λ e. c.put_line.ensures.1 ∙ c.clock_line-l.ensures;
    }
