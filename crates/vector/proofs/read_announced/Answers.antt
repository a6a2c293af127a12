-- `vector::read_announced` meets its contract: what is seen and what is to come make the answer that they made at the start.
use Prim.Native.Nat.{◌-◌, ◌+◌}
use mathlib.Core.Path.{◌≡◌, refl}
use native.Mathlib.Omega.{arith}
use lib.ListN.{length-set}
use Rattle.vector.proofs.Laws.{drew, drew-not, none_read, few, read-begin, read-on, read-stop, read-over, no-client, twice, no-clock, one_more}
use Rattle.vector.proofs.read_announced.Goals as goal

pub returns-in_default : goal.returns-in_default
returns-in_default c = none_read c.args.vector.now _ _ _ (drew-not _ _ _ c.read_up_to-d.ensures _ _ c.in_default.is c.why_read.ensures)

pub loop-i-init : goal.loop-i-init
loop-i-init c = let v = c.args.vector.now in let h = drew _ _ _ c.read_up_to-d.ensures _ _ c.in-Number.is in (read-begin v _ _ _ _ h, refl, refl, few v _ _ h)

pub returns-in_default-c : goal.returns-in_default-c
returns-in_default-c c = let v = c.args.vector.now in let n = c.in-Number.n in
    read-stop v n c.loop-i.i c.loop-i.at _ _ c.loop-i.invariant.0 _ (omega arith)
    (no-client v (n - (c.loop-i.i + 1)) _ c.loop-i.at _ (drew-not _ _ _ c.read_up_to-c.ensures _ _ c.in_default-c.is c.why_read-in_default-c.ensures))

pub returns-then-seen : goal.returns-then-seen
returns-then-seen c = let v = c.args.vector.now in let n = c.in-Number.n in
    read-stop v n c.loop-i.i c.loop-i.at _ _ c.loop-i.invariant.0 _ (omega arith)
    (twice v (n - (c.loop-i.i + 1)) _ c.loop-i.at _ _ (drew _ _ _ c.read_up_to-c.ensures _ _ c.in-Number-c.is) (rw (← c.loop-i.invariant.0.clients, ← c.is_among-seen.ensures) c.if-seen.true))

pub returns-in_default-k : goal.returns-in_default-k
returns-in_default-k c = let v = c.args.vector.now in let n = c.in-Number.n in
    read-stop v n c.loop-i.i c.loop-i.at _ _ c.loop-i.invariant.0 _ (omega arith)
    (no-clock v (n - (c.loop-i.i + 1)) _ c.loop-i.at _ _ (drew _ _ _ c.read_up_to-c.ensures _ _ c.in-Number-c.is) (rw (← c.loop-i.invariant.0.clients, ← c.is_among-seen.ensures) c.if-seen.false)
    _ (drew-not _ _ _ c.read_up_to-k.ensures _ _ c.in_default-k.is c.why_read-in_default-k.ensures))

pub offset_bounds-clients-i : goal.offset_bounds-clients-i
offset_bounds-clients-i c = omega (arith, c.requires.0, c.well_formed.1.0.1)

pub offset_bounds-clocks-i : goal.offset_bounds-clocks-i
offset_bounds-clocks-i c = omega (arith, c.requires.1, c.well_formed.1.1.0.1)

pub loop-i-preserved : goal.loop-i-preserved
loop-i-preserved c = let v = c.args.vector.now in let n = c.in-Number.n in
    let one = one_more v (n - (c.loop-i.i + 1)) c.loop-i.invariant.0.seen c.loop-i.at _ _ (drew _ _ _ c.read_up_to-c.ensures _ _ c.in-Number-c.is) (rw (← c.loop-i.invariant.0.clients, ← c.is_among-seen.ensures) c.if-seen.false) _ _ (drew _ _ _ c.read_up_to-k.ensures _ _ c.in-Number-k.is) in (
      read-on v n c.loop-i.i c.loop-i.at _ _ c.loop-i.invariant.0 _ _ _ _ (omega arith) (omega (arith, c.requires.0, c.loop-i.invariant.1)) (omega (arith, c.requires.1, c.loop-i.invariant.2)) one,
      simp length-set c.loop-i.invariant.1,
      simp length-set c.loop-i.invariant.2,
      c.loop-i.invariant.3,
    )

pub returns : goal.returns
returns c = let e : c.in-Number.n ≡ c.loop-i.i = omega (arith, c.loop-i-test.false, c.loop-i.auto.i-end) in
    rw e (read-over c.args.vector.now _ c.loop-i.i c.loop-i.at _ _ c.loop-i.invariant.0 (omega arith) c.loop-i.invariant.3)
