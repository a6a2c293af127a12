-- `find` meets its contract: what it finds is the part.
use native.Mathlib.Omega.{arith}
use mathlib.Core.Path.{sym, ◌∙◌}
use Rattle.tokens.specs.Desk.{alias_count, alias_at}
use Rattle.numbering.proofs.Noted.{same-part}
use Rattle.numbering.proofs.aliases.find.Goals as goal

pub is_part-requires : goal.is_part-requires
unfolding alias_count
is_part-requires c = let start = c in (start.requires.0, start.requires.1, omega (arith, start.requires.2))

pub returns-then-is_part : goal.returns-then-is_part
returns-then-is_part c = let p = c in
    let a = p.args in
    λ l. same-part (alias_at a.lanes.now p.loop-i.i) a.part (sym p.is_part.ensures ∙ c.if-is_part.true)

pub returns : goal.returns
unfolding alias_count
returns c = λ l. absurd (omega (arith, l))
