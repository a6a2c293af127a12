-- `gathered::scan` meets its contract: each way out is a law of the walk down the sections.
use Rattle.std.proofs.lemmas.Result.{err_from_is_err_and}
use Rattle.std.specs.Prelude.{Ok}
use Prim.Native.Nat.{ℕ, ◌-◌, ◌+◌, ◌<◌, ◌≤◌}
use mathlib.Core.Path.{◌≡◌, refl, sym, subst, ◌∙◌}
use mathlib.Core.List.{[]}
use Rattle.numbers.specs.Limits.{max_blocks}
use Rattle.gathered.specs.Gathered.{sections_from, Scans}
use native.Mathlib.Omega.{arith}
use Rattle.cells.specs.Cells.{at_in}
use Rattle.gathered.proofs.Sections.{opens, walk_begins, at-end, no-head, few-blocks, can-here, no_blocks, section-read}
use Rattle.gathered.proofs.scan.Goals as goal

pub loop-seen-init : goal.loop-seen-init
loop-seen-init c = let a = c.args in
    let h = c.requires in
    let none : a.sections - 0 ≡ a.sections = omega arith in
    (rw none (walk_begins a.form a.update.now a.w.now a.rows.now a.order.now a.sections h.0 (omega (arith, h.1)) h.2 h.3 h.4), refl, refl)

pub read_head-requires : goal.read_head-requires
read_head-requires c = let i = c.loop-seen.invariant.0 in
    (i.small, omega (arith, i.words, i.few, c.loop-seen-test.true), omega (arith, i.few, c.loop-seen-test.true), i.falls)

pub returns-in_err-blocks : goal.returns-in_err-blocks
returns-in_err-blocks c = let a = c.args in
    let some : 0 < c.args.sections - c.loop-seen.seen = omega (arith, c.loop-seen-test.true) in
    let w₁ = c.read_head.new.w in
    let o₁ = c.read_head.new.order in
    let p = err_from_is_err_and c.from_residual.result c.from_residual.ensures.1 in
    rw (p.1, p.2) (no-head a.form a.update.now _ c.loop-seen.w c.loop-seen.rows c.loop-seen.order (c.args.sections - c.loop-seen.seen) c.loop-seen.room c.loop-seen.seen c.loop-seen.invariant.0 some w₁ o₁ c.read_head.result _ c.read_head.ensures.2 c.in_err-blocks.was)

pub tally_blocks-requires : goal.tally_blocks-requires
tally_blocks-requires c = let a = c.args in
    let some : 0 < c.args.sections - c.loop-seen.seen = omega (arith, c.loop-seen-test.true) in
    let w₁ = c.read_head.new.w in
    let o₁ = c.read_head.new.order in
    let o = opens a.form a.update.now c.loop-seen.w c.loop-seen.order c.loop-seen.seen c.loop-seen.room w₁ o₁ c.read_head.result _ _ _ c.read_head.ensures.2 c.in_ok-blocks.was in
    (c.read_head.ensures.0, c.loop-seen.invariant.1, few-blocks a.form a.update.now _ c.loop-seen.w c.loop-seen.rows c.loop-seen.order (c.args.sections - c.loop-seen.seen) c.loop-seen.room c.loop-seen.seen c.loop-seen.invariant.0 some w₁ o₁ _ _ _ o, o.low, can-here a.form a.update.now _ c.loop-seen.w c.loop-seen.rows c.loop-seen.order (c.args.sections - c.loop-seen.seen) c.loop-seen.room c.loop-seen.seen c.loop-seen.invariant.0 some w₁ o₁ _ _ _ o)

pub returns-in_err-first : goal.returns-in_err-first
returns-in_err-first c = let a = c.args in
    let some : 0 < c.args.sections - c.loop-seen.seen = omega (arith, c.loop-seen-test.true) in
    let w₁ = c.read_head.new.w in
    let o₁ = c.read_head.new.order in
    let o = opens a.form a.update.now c.loop-seen.w c.loop-seen.order c.loop-seen.seen c.loop-seen.room w₁ o₁ c.read_head.result _ _ _ c.read_head.ensures.2 c.in_ok-blocks.was in
    let p = err_from_is_err_and c.from_residual-in_err-first.result c.from_residual-in_err-first.ensures.1 in
    rw (p.1, p.2) (no_blocks a.form a.update.now _ c.loop-seen.w c.loop-seen.rows c.loop-seen.order (c.args.sections - c.loop-seen.seen) c.loop-seen.room c.loop-seen.seen c.loop-seen.invariant.0 some w₁ o₁ _ _ _ o _ c.tally_blocks.result _ c.tally_blocks.ensures.2 c.in_err-first.was)

pub put_words-requires : goal.put_words-requires
put_words-requires c = omega (arith, c.loop-seen.invariant.0.size, c.loop-seen.invariant.0.few, c.loop-seen-test.true)

pub overflow_sub-room : goal.overflow_sub-room
overflow_sub-room c = let a = c.args in
    let some : 0 < c.args.sections - c.loop-seen.seen = omega (arith, c.loop-seen-test.true) in
    let w₁ = c.read_head.new.w in
    let o₁ = c.read_head.new.order in
    let o = opens a.form a.update.now c.loop-seen.w c.loop-seen.order c.loop-seen.seen c.loop-seen.room w₁ o₁ c.read_head.result _ _ _ c.read_head.ensures.2 c.in_ok-blocks.was in
    o.few

pub loop-seen-preserved : goal.loop-seen-preserved
loop-seen-preserved c = let a = c.args in
    let some : 0 < c.args.sections - c.loop-seen.seen = omega (arith, c.loop-seen-test.true) in
    let w₁ = c.read_head.new.w in
    let o₁ = c.read_head.new.order in
    let o = opens a.form a.update.now c.loop-seen.w c.loop-seen.order c.loop-seen.seen c.loop-seen.room w₁ o₁ c.read_head.result _ _ _ c.read_head.ensures.2 c.in_ok-blocks.was in
    let less : c.args.sections - (c.loop-seen.seen + 1) ≡ c.args.sections - c.loop-seen.seen - 1 = omega arith in
    (rw less (section-read a.form a.update.now _ c.loop-seen.w c.loop-seen.rows c.loop-seen.order (c.args.sections - c.loop-seen.seen) c.loop-seen.room c.loop-seen.seen c.loop-seen.invariant.0 some w₁ o₁ _ _ _ o c.tally_blocks.new.w c.put_words.new.rows c.tally_blocks.result _ _ _ c.tally_blocks.ensures.0 c.tally_blocks.ensures.2 c.in_ok-first.was c.put_words.ensures c.read_head.ensures.1), c.tally_blocks.ensures.1, c.tally_blocks.auto.w ∙ c.read_head.auto.w ∙ c.loop-seen.invariant.2)

pub returns : goal.returns
unfolding at_in
returns c = let a = c.args in
    let over : a.sections - c.loop-seen.seen ≤ 0 = omega (arith, c.loop-seen-test.false) in
    let all : a.sections ≡ c.loop-seen.seen = omega (arith, c.loop-seen-test.false, c.loop-seen.auto.seen-end) in
    subst (λ (m : ℕ). Scans (sections_from a.form a.update.now a.sections [] max_blocks a.w.now) c.loop-seen.rows c.loop-seen.order (Ok (m, at_in c.loop-seen.w))) (sym all)
    (at-end a.form a.update.now _ c.loop-seen.w c.loop-seen.rows c.loop-seen.order (a.sections - c.loop-seen.seen) c.loop-seen.room c.loop-seen.seen c.loop-seen.invariant.0 over)
