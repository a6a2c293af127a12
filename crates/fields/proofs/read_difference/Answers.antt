-- `fields::read_difference` meets its contract: a clock in line, or from a difference column.
use Rattle.fields.proofs.read_difference.Goals as goal

pub returns-then-form-eq1 : goal.returns-then-form-eq1
returns-then-form-eq1 c = ((λ q. c.read_var.ensures), (λ q. absurd (q c.if-form-eq1.true)))

pub returns : goal.returns
returns c = ((λ q. absurd (c.if-form-eq1.false q)), (λ q. c.draw_difference.ensures))
