-- `gathered::scan` meets its contract: each way out is a law of the walk down the sections.
use Prim.Native.Nat.{◌-◌}
use mathlib.Core.Path.{◌≡◌}
use mathlib.Core.List.{[]}
use lib.ListN.{length}
use Rattle.numbers.specs.Limits.{max_blocks}
use Rattle.gathered.specs.Gathered.{sections_from}
use Rattle.gathered.proofs.Sections.{Walked}
use Rattle.gathered.proofs.scan.Given as goal

abbrev pub invariant-loop-seen : goal.invariant-loop-seen
invariant-loop-seen l =
    Walked l.form l.update (sections_from l.form l.update l.sections [] max_blocks l.initial.w) l.w l.rows l.order (l.n - l.seen) l.room l.seen × (length l.fields ≡ 24) × (length l.w ≡ length l.initial.w)
