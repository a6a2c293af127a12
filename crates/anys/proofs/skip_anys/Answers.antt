-- `anys::skip_anys` meets its contract: what is left of the open levels, from here, is all that was to be passed over. Each turn
-- takes a byte or closes a level.
use Prim.Native.Nat.{◌-◌}
use mathlib.Core.Path.{refl, ◌∙◌}
use mathlib.Core.Bool.{false}
use native.Mathlib.Omega.{arith}
use lib.ListN.{length-set, replicate}
use Rattle.anys.proofs.Laws.{past-goes, opens-goes}
use Rattle.anys.proofs.Levels.{begun, closed, passed, stopped, opened, all_closed, deeper}
use borrow.Author.Rules.{rules}
use Rattle.anys.proofs.skip_anys.Invariants.{levels}
use Rattle.anys.proofs.skip_anys.Goals as goal

pub loop-open-init : goal.loop-open-init
loop-open-init c = (search rules, search rules, search rules, begun c.args.update.now c.args.blame (replicate levels 0) (replicate levels false) c.args.count c.args.at (search rules) refl)

pub loop-open-preserved-then-more-eq0 : goal.loop-open-preserved-then-more-eq0
loop-open-preserved-then-more-eq0 c = let u = c.args.update.now in
    let b = c.args.blame in
    (omega arith, c.loop-open.invariant.1, c.loop-open.invariant.2, closed u b c.loop-open.left c.loop-open.keyed c.loop-open.«open» c.loop-open.at (omega arith) c.if-more-eq0.true ∙ c.loop-open.invariant.3)

pub loop-open-smaller-in-Past : goal.loop-open-smaller-in-Past
loop-open-smaller-in-Past c = let u = c.args.update.now in
    let b = c.args.blame in
    omega (arith, past-goes u b _ _ c.loop-open.at _ c.next_entry-x.ensures _ c.in-Past.is)

pub loop-open-preserved-in-Past : goal.loop-open-preserved-in-Past
loop-open-preserved-in-Past c = let u = c.args.update.now in
    let b = c.args.blame in
    (c.loop-open.invariant.0, simp length-set c.loop-open.invariant.1, c.loop-open.invariant.2, passed u b c.loop-open.left c.loop-open.keyed c.loop-open.«open» c.loop-open.at (omega arith) c.if-more-eq0.false (omega arith) _ c.next_entry-x.ensures _ c.in-Past.is ∙ c.loop-open.invariant.3)

pub bounds-left-open : goal.bounds-left-open
bounds-left-open c = let u = c.args.update.now in
    let b = c.args.blame in
    omega (arith, deeper u b (c.loop-open.«open» - 1) _ _ _ _ _ _ c.next_entry-x.ensures c.in-Opens.is)

pub bounds-keyed-open : goal.bounds-keyed-open
bounds-keyed-open c = let u = c.args.update.now in
    let b = c.args.blame in
    omega (arith, deeper u b (c.loop-open.«open» - 1) _ _ _ _ _ _ c.next_entry-x.ensures c.in-Opens.is)

pub loop-open-smaller : goal.loop-open-smaller
loop-open-smaller c = let u = c.args.update.now in
    let b = c.args.blame in
    omega (arith, opens-goes u b _ _ c.loop-open.at _ c.next_entry-x.ensures _ _ _ c.in-Opens.is)

pub loop-open-preserved : goal.loop-open-preserved
loop-open-preserved c = let u = c.args.update.now in
    let b = c.args.blame in
    let r = deeper u b (c.loop-open.«open» - 1) _ _ _ _ _ _ c.next_entry-x.ensures c.in-Opens.is in
    (omega arith, simp length-set c.loop-open.invariant.1, simp length-set c.loop-open.invariant.2, opened u b c.loop-open.left c.loop-open.keyed c.loop-open.«open» c.loop-open.at (omega arith) c.if-more-eq0.false (omega arith) _ c.next_entry-x.ensures _ _ _ (omega arith) (omega arith) c.in-Opens.is ∙ c.loop-open.invariant.3)

pub returns-in-Refused : goal.returns-in-Refused
returns-in-Refused c = let u = c.args.update.now in
    let b = c.args.blame in
    stopped u b c.loop-open.left c.loop-open.keyed c.loop-open.«open» c.loop-open.at (omega arith) c.if-more-eq0.false (omega arith) _ c.next_entry-x.ensures _ c.in-Refused.is ∙ c.loop-open.invariant.3

pub returns : goal.returns
returns c = all_closed c.args.update.now c.args.blame c.loop-open.left c.loop-open.keyed c.loop-open.«open» c.loop-open.at (omega arith) ∙ c.loop-open.invariant.3
