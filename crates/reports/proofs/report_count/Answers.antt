-- `reports::report_count` meets its contract: no words, or two.
use mathlib.Core.Path.{refl, sym}
use native.Mathlib.Nat.{add-zero}
use native.Mathlib.Numerals.{add-one}
use native.Mathlib.Omega.{arith}
use Rattle.picker.specs.Fronts.{front_at}
use Rattle.reports.proofs.Words.{count_none, count-some}
use Rattle.reports.proofs.report_count.Goals as goal

pub returns-then-count-eq0 : goal.returns-then-count-eq0
returns-then-count-eq0 c = let a = c.args in
    rw (count_none a.slots.now a.i (front_at a.fronts.now a.i) c.if-count-eq0.true) (sym (add-zero a.at), omega arith, refl)

pub returns : goal.returns
returns c = let a = c.args in
    let e = count-some a.slots.now a.i c.front_at-f.result c.if-count-eq0.false in
    rw (← c.front_at-f.ensures, e) (
      refl,
      omega arith,
      rw (c.put_word-2.ensures, c.put_word.ensures, c.saturating_sub-taken.ensures, add-one),
    )
