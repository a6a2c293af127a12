-- `text::units_by_rule` meets its contract: the units so far and those that the rule gives the rest are those that it gives the whole.
use Prim.Native.Nat.{◌+◌}
use mathlib.Core.Path.{◌≡◌}
use native.Mathlib.Omega.{arith}
use lib.ListN.{get_or}
use Rattle.text.specs.Rule.{worth}
use Rattle.text.proofs.Rule.{once, once-plain, once-later, once-long, once-le, worth-one, worth-pair, worth-le, turn-rule, end-rule}
use Rattle.text.proofs.units_by_rule.Goals as goal
use Rattle.text.proofs.units_by_rule.Goals.{Joined-b-ge240, Joined-b-lt128, then-b-lt128, then-b-lt128-via-then-b-lt128, then-b-lt128-via-else-b-lt128+then-b-ge192, else-b-lt128+else-b-ge192, then-b-ge240, else-b-ge240}

-- the first `if` counts a byte that does not continue a character
begun : (c : Joined-b-lt128) → let k = c in
    c.if-b-lt128.n ≡ k.loop-i.n + once (get_or k.args.s.now k.loop-i.i 0)
begun c =
    let k = c in
    let b = get_or k.args.s.now k.loop-i.i 0 in
    elim c.if-b-lt128.branch [
      | then-b-lt128 w ↦
          elim w.then-b-lt128.branch [
            | then-b-lt128-via-then-b-lt128 l ↦ omega (arith, once-plain b l.if-b-lt128.true, w.n-is)
            | then-b-lt128-via-else-b-lt128+then-b-ge192 h ↦ omega (arith, once-long b h.if-b-ge192.true, w.n-is)
          ]
      | else-b-lt128+else-b-ge192 w ↦ omega (arith, once-later b w.if-b-lt128.false w.if-b-ge192.false, w.n-is)
    ]

-- and the second counts it once more from F0 up
counted : (c : Joined-b-ge240) → let k = c in
    c.if-b-ge240.n ≡ k.loop-i.n + worth (get_or k.args.s.now k.loop-i.i 0)
counted c =
    let k = c in
    let b = get_or k.args.s.now k.loop-i.i 0 in
    elim c.if-b-ge240.branch [
      | then-b-ge240 w ↦ omega (arith, begun (record { before = c.before.before; type_inv = record { s = c.type_inv.s } }), worth-pair b (omega arith), w.n-is)
      | else-b-ge240 w ↦ omega (arith, begun (record { before = c.before.before; type_inv = record { s = c.type_inv.s } }), worth-one b (omega arith), w.n-is)
    ]

pub overflow_add-n-then-b-ge240 : goal.overflow_add-n-then-b-ge240
overflow_add-n-then-b-ge240 c = let k = c in
    omega (arith, begun (goal.at.overflow_add-n-then-b-ge240 c).Joined-b-lt128, once-le (get_or k.args.s.now k.loop-i.i 0))

pub loop-i-preserved : goal.loop-i-preserved
loop-i-preserved c = let k = c in
    let b = get_or k.args.s.now k.loop-i.i 0 in
    let t = turn-rule k.args.s.now k.loop-i.i k.args.to (omega arith) k.requires.1 in
    (omega arith, omega (arith, counted c, worth-le b), omega (arith, counted c, t))

pub returns : goal.returns
returns c = let k = c in omega (arith, end-rule k.args.s.now k.loop-i.i k.args.to (omega arith))
