-- The reports are words of one slot after another.
use Prim.Native.Nat.{ℕ}
use mathlib.Core.Path.{refl}
use mathlib.Core.List.{List}
use lib.ListN.{get_or}
use Rattle.block.specs.declared.Block.{Block}
use Rattle.slots.specs.Slots.{Slot}
use Rattle.reports.proofs.Turns.{Report}
use Rattle.sweep_reports.specs.Reports.{taken_of, taken_from, front_waits, waits_from}

pub counts : (taken : List ℕ) → Report (λ i s. taken_of s (get_or taken i 0)) (λ i ss. taken_from i ss taken)
unfolding taken_from
counts taken = record { none = λ i. refl; more = λ i s ss. refl }

pub waits : (rule : ℕ) (ss : List Slot) (rows : List Block) (reach taken : List ℕ)
    → Report (λ i s. front_waits rule ss rows reach s (get_or taken i 0)) (λ i rest. waits_from i rule ss rows reach taken rest)
unfolding waits_from
waits rule ss rows reach taken = record { none = λ i. refl; more = λ i s rest. refl }
