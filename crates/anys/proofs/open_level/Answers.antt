-- `anys::open_level` meets its contract: the depth first, and then the count.
use mathlib.Core.Path.{ap, ◌∙◌}
use Rattle.numbers.specs.NumberInner.{why_read}
use Rattle.anys.specs.declared.Next.TheVariants as next
use Rattle.anys.specs.Steps.{opening, open_at}
use Rattle.anys.proofs.open_level.Goals as goal

pub returns-then-not-room : goal.returns-then-not-room
unfolding open_at
returns-then-not-room c = rw (c.if-not-room.true)

pub returns-in_default : goal.returns-in_default
unfolding open_at opening
returns-in_default c = let told = c.in_default.is in
    rw (c.if-not-room.false, ← c.read_unsigned-r.ensures, told) (ap next.Refused (c.why_read.ensures ∙ ap why_read told))

pub returns : goal.returns
unfolding open_at opening
returns c = rw (c.if-not-room.false, ← c.read_unsigned-r.ensures, c.in-Number.is)
