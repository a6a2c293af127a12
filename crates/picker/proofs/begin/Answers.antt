-- `picker::begin` meets its contract: a table has no more than so many blocks, a rule no more than four stages.
use Prim.Native.Nat.{ℕ, suc, ◌+◌}
use mathlib.Core.Path.{◌≡◌, ap, ◌∙◌}
use native.Mathlib.Numerals.{add-one}
use borrow.Author.Tests.{le-leb, lt-leb}
use Rattle.numbers.specs.Limits.{max_blocks}
use Rattle.picker.specs.Stages.{stage_count}
use Rattle.picker.specs.Picker.{looks, looks_each}
use Rattle.picker.proofs.begin.Goals as goal

pub returns-then-blocks-gt-MAX_BLOCKS : goal.returns-then-blocks-gt-MAX_BLOCKS
unfolding looks
returns-then-blocks-gt-MAX_BLOCKS c = rw (lt-leb c.args.blocks max_blocks c.if-blocks-gt-MAX_BLOCKS.true) c.point.ensures

pub returns : goal.returns
unfolding looks looks_each
returns c = let a = c.args in
    let each : c.count-each.result + 1 ≡ suc (stage_count a.rule) = ap (λ (n : ℕ). n + 1) c.count-each.ensures.0 ∙ add-one (stage_count a.rule) in
    rw (le-leb a.blocks max_blocks c.if-blocks-gt-MAX_BLOCKS.false, ← each) c.point-2.ensures
