-- The slow plain sorter (W-211): asking later never makes things worse, and sorting a diff comes as far, as of `sort`; one of each will do, too.
use Prim.Native.Nat.{ℕ, ◌≤◌}
use mathlib.Core.List.{List}
use native.Mathlib.Omega.{arith}
use Rattle.sorting.specs.Named.{asks_of, rule_of}
use Rattle.slow_sorts.specs.Promises.{slow_sort_of}
use Rattle.slow_sorts.proofs.Same.{swept-by}
use Rattle.knowledge.proofs.Diffs.{stays-ready}
use Rattle.later.specs.Calls.{Call, SortCall, reach_by, DiffCall, written_by}
use Rattle.later.specs.Sorters.{Sorter}
use Rattle.later.specs.Worse.{AsHigh, NotWorse}
use Rattle.later.proofs.Later.{not-worse, sort-sorts}
use Rattle.later.proofs.Diffs.{as-far}

-- a call of `sort_slowly` that is done: what it promises is `SortSlowly`
abbrev pub SlowCall : ℕ → ℕ → List ℕ → List ℕ → Type 0
SlowCall rule form u v = Call (slow_sort_of rule form u v)

pub slow-sorts : (rule form : ℕ) (u v : List ℕ) → Sorter (rule_of rule) form u v (slow_sort_of rule form u v)
slow-sorts rule form u v m n room z =
    let d = swept-by rule form u v m n room z in
    (d.read.0, record { ran = record { run = d.run; whole = d.sorts.ends; order = d.order }; reaches = d.reaches })

-- W-212
pub asking-slowly : (rule form : ℕ) (u v w : List ℕ) → AsHigh v w → (a : SlowCall rule form u v) (b : SlowCall rule form u w) → NotWorse a b
asking-slowly rule form u v w = not-worse (asks_of rule) form u v w (slow-sorts rule form u v) (slow-sorts rule form u w)

-- first by the one and later by the other
pub quick-then-slow : (rule form : ℕ) (u v w : List ℕ) → AsHigh v w → (a : SortCall rule form u v) (b : SlowCall rule form u w) → NotWorse a b
quick-then-slow rule form u v w = not-worse (asks_of rule) form u v w (sort-sorts rule form u v) (slow-sorts rule form u w)

pub slow-diff-as-far : (rule form : ℕ) (u v : List ℕ) (to : ℕ) (d : DiffCall form u v to) (a : SlowCall rule form u v) (b : SlowCall rule to (written_by d) v)
    → (c : ℕ) → reach_by a c ≤ reach_by b c
slow-diff-as-far rule form u v to d =
    as-far form u v to d (asks_of rule) (stays-ready rule) v (λ c. omega arith) (slow-sorts rule form u v) (slow-sorts rule to (written_by d) v)
