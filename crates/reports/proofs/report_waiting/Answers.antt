-- `reports::report_waiting` meets its contract: no words, or three.
use Prim.Native.Nat.{suc, ◌+◌}
use mathlib.Core.Path.{◌≡◌, refl, sym}
use native.Mathlib.Nat.{add-zero}
use native.Mathlib.Numerals.{add-one}
use native.Mathlib.Omega.{arith}
use Rattle.reports.proofs.Words.{pending-none, pending-some}
use Rattle.reports.proofs.report_waiting.Goals as goal

pub returns-then-f-eq0 : goal.returns-then-f-eq0
returns-then-f-eq0 c = let a = c.args in
    let e = pending-none a.slots.now a.i c.front_at-f.result a.reach.now c.if-f-eq0.true in
    rw (← c.front_at-f.ensures, e) (sym (add-zero a.at), omega arith, refl)

pub returns : goal.returns
returns c = let a = c.args in
    let e = pending-some a.slots.now a.i c.front_at-f.result a.reach.now c.if-f-eq0.false in
    let two : a.at + 2 ≡ suc (suc a.at) = omega arith in
    rw (← c.front_at-f.ensures, e) (
      refl,
      omega arith,
      rw (c.put_word-3.ensures, c.put_word-2.ensures, c.put_word.ensures, c.awaited_reach-clock.ensures, two, add-one),
    )
