-- `bulk::take` meets its contract: what is taken is `taken`, and the place after it is within the bytes, or where it was.
use Prim.Native.Nat.{◌+◌, ◌≤◌}
use mathlib.Core.Path.{◌≡◌, subst}
use mathlib.Core.Logic.{◌⊎◌, ⊎_elim}
use native.Mathlib.Omega.{arith}
use lib.ListN.{length}
use Rattle.text.specs.declared.Taken.{Taken}
use Rattle.string.specs.String.{text_ending, units_taken}
use Rattle.string.specs.StringInner.{TookWithin}
use Rattle.bulk.proofs.take.Goals as goal

pub returns-then-is_plain : goal.returns-then-is_plain
unfolding units_taken text_ending
returns-then-is_plain c = rw (c.is_plain.ensures c.if-is_plain.true).1

pub overflow_add-next-in-Took : goal.overflow_add-next-in-Took
unfolding TookWithin
overflow_add-next-in-Took c = let a = c.args in
    let w : (a.at + c.in-Took.bytes.0 ≤ length a.column.now) ⊎ (c.in-Took.bytes.0 ≡ 0) = subst (λ (r : Taken). TookWithin a.column.now a.at r) c.in-Took.is c.take_text.ensures.1 in
    ⊎_elim (λ l. omega (arith, l)) (λ z. omega (arith, z)) w

pub returns-in-Took : goal.returns-in-Took
unfolding units_taken text_ending
returns-in-Took c = rw (← c.take_text.ensures.0, c.in-Took.is)

pub returns-in-Refused : goal.returns-in-Refused
unfolding units_taken text_ending
returns-in-Refused c = rw (← c.take_text.ensures.0, c.in-Refused.is)
