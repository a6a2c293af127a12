-- `lines::put_byte` meets its contract: a store where the place is there, nothing where it is not.
use mathlib.Core.Path.{refl, sym, ◌∙◌}
use lib.Seq.{set_out}
use Rattle.lines.proofs.Laws.{overlay-byte}
use Rattle.lines.proofs.put_byte.Goals as goal
use Rattle.lines.proofs.put_byte.Goals.{then-used-out, else-used-out}

pub returns : goal.returns
returns c = let a = c.args in (
  refl,
  elim c.if-used-out.branch [
    | then-used-out w ↦ w.out-is ∙ sym (overlay-byte a.out.now a.used a.b)
    | else-used-out w ↦ w.out-is ∙ sym (overlay-byte a.out.now a.used a.b ∙ set_out a.out.now a.used a.b w.if-used-out.false)
  ],
)
