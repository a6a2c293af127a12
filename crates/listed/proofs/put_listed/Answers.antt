-- `listed::put_listed` meets its contract: too long, no byte, or a form and its update.
use mathlib.Core.Path.{ap, ◌∙◌}
use native.Mathlib.Omega.{arith}
use borrow.Author.Tests.{lt-ltb, le-ltb}
use lib.ListN.{length}
use Rattle.lines.specs.LinesInner.{overlay}
use Rattle.listed.specs.Listed.{max_input}
use Rattle.listed.proofs.Laws.{put_as, text-long, text-none, text-parts}
use Rattle.listed.proofs.put_listed.Goals as goal

pub returns-then-input-gt-MAX_INPUT : goal.returns-then-input-gt-MAX_INPUT
returns-then-input-gt-MAX_INPUT c = let a = c.args in
    put_as a.out.now (text-long a.input.now (lt-ltb max_input (length a.input.now) c.if-input-gt-MAX_INPUT.true)) c.put_refused.ensures

pub returns-then-input-eq0 : goal.returns-then-input-eq0
returns-then-input-eq0 c = let a = c.args in
    put_as a.out.now (text-none a.input.now c.if-input-eq0.true) c.put_refused-then-input-eq0.ensures

pub returns : goal.returns
returns c = let a = c.args in
    let text = text-parts a.input.now (le-ltb max_input (length a.input.now) c.if-input-gt-MAX_INPUT.false) (omega (arith, c.if-input-eq0.false)) in
    let p = c.put_update.ensures in
    (p.0 ∙ ap length text, p.1 ∙ ap (overlay a.out.now 0) text)
