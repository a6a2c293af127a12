-- `bulk::run_of` meets its contract: a count of one byte, or none, is what `begun` has, and all else is `long_run`'s.
use Prim.Native.Nat.{ℕ, ◌+◌, ◌*◌, ◌<◌}
use mathlib.Core.Path.{sym, ap, subst, ◌∙◌}
use lib.ListN.{get_or}
use Rattle.columns.specs.Number.{place_at, drawn}
use Rattle.bulk.proofs.Spreading.{short-run}
use Rattle.bulk.proofs.run_of.Goals as goal

pub returns-then-c-lt128 : goal.returns-then-c-lt128
returns-then-c-lt128 c = let a = c.args in
    let o = c.one_if-m.ensures in
    let h = subst (λ (m : ℕ). m * get_or a.column.now a.e 0 < 128) o c.if-c-lt128.true in
    c.draw_number.ensures
    ∙ ap (λ (m : ℕ). drawn (place_at (a.e + m) a.from a.x (1 + m + m * get_or a.column.now a.e 0))) o
    ∙ sym (short-run a.column.now a.from a.minus a.x a.e c.if-e-column.true h)
