-- `numbers::rest` meets its contract: what is left to spell, from here, is what was there to spell at the start.
use Rattle.std.proofs.Common.{◌+◌, ◌-◌, ◌∙◌, ◌<◌, ◌≤◌, length, get_or, arith, ◌≡◌}
use Rattle.numbers.specs.Number.{low_part, answer_at}
use Rattle.numbers.proofs.Laws.{at-end, at_last, turn, at-limit, room, unit-fits, digit-fits}
use Rattle.numbers.proofs.rest.Goals as goal

pub returns-then-left-k : goal.returns-then-left-k
unfolding answer_at low_part
returns-then-left-k c = let some : 0 < 8 - c.loop-k.k = omega (arith, c.loop-k-test.true) in
    let past : length c.args.s.now ≤ c.args.at + c.loop-k.k = omega (arith, c.if-left-k.true, c.requires.0) in
    rw (← c.loop-k.invariant.0, at-end _ _ _ some past)

pub overflow_cast-b : goal.overflow_cast-b
overflow_cast-b c = omega (arith, c.type_inv.s (c.args.at + c.loop-k.k))

pub overflow_mul-result : goal.overflow_mul-result
overflow_mul-result c = let k = c.loop-k.k in let some : 0 < 8 - k = omega (arith, c.loop-k-test.true) in
    omega (arith, digit-fits c.loop-k.unit (8 - k) c.loop-k.value _ some c.loop-k.invariant.1 c.loop-k.invariant.2 c.if-b-lt128.true, unit-fits c.loop-k.unit (8 - k) some c.loop-k.invariant.1)

pub overflow_add-result : goal.overflow_add-result
overflow_add-result c = let k = c.loop-k.k in let some : 0 < 8 - k = omega (arith, c.loop-k-test.true) in
    omega (arith, digit-fits c.loop-k.unit (8 - k) c.loop-k.value _ some c.loop-k.invariant.1 c.loop-k.invariant.2 c.if-b-lt128.true, unit-fits c.loop-k.unit (8 - k) some c.loop-k.invariant.1)

pub returns-then-b-lt128 : goal.returns-then-b-lt128
unfolding answer_at low_part
returns-then-b-lt128 c = let some : 0 < 8 - c.loop-k.k = omega (arith, c.loop-k-test.true) in
    let inside : c.args.at + c.loop-k.k < length c.args.s.now = omega (arith, c.if-left-k.false) in
    rw (← c.loop-k.invariant.0, at_last _ _ _ some inside c.if-b-lt128.true)

pub overflow_mul-value : goal.overflow_mul-value
overflow_mul-value c = let k = c.loop-k.k in let some : 0 < 8 - k = omega (arith, c.loop-k-test.true) in
    omega (arith, digit-fits c.loop-k.unit (8 - k) c.loop-k.value (get_or c.args.s.now (c.args.at + k) 0 - 128) some c.loop-k.invariant.1 c.loop-k.invariant.2 (omega (arith, c.type_inv.s (c.args.at + k))), unit-fits c.loop-k.unit (8 - k) some c.loop-k.invariant.1)

pub overflow_add-value : goal.overflow_add-value
overflow_add-value c = let k = c.loop-k.k in let some : 0 < 8 - k = omega (arith, c.loop-k-test.true) in
    omega (arith, digit-fits c.loop-k.unit (8 - k) c.loop-k.value (get_or c.args.s.now (c.args.at + k) 0 - 128) some c.loop-k.invariant.1 c.loop-k.invariant.2 (omega (arith, c.type_inv.s (c.args.at + k))), unit-fits c.loop-k.unit (8 - k) some c.loop-k.invariant.1)

pub overflow_mul-unit : goal.overflow_mul-unit
overflow_mul-unit c = omega (arith, unit-fits c.loop-k.unit (8 - c.loop-k.k) (omega (arith, c.loop-k-test.true)) c.loop-k.invariant.1)

pub loop-k-preserved : goal.loop-k-preserved
loop-k-preserved c = let k = c.loop-k.k in let i = c.args.at + k in let s = c.args.s.now in
    let some : 0 < 8 - k = omega (arith, c.loop-k-test.true) in
    let less : 8 - (k + 1) ≡ 8 - k - 1 = omega arith in
    let on : c.args.at + (k + 1) ≡ i + 1 = omega arith in (
      rw (less, on) (turn s (8 - k) i some c.loop-k.unit c.loop-k.value (omega (arith, c.if-left-k.false)) c.if-b-lt128.false ∙ c.loop-k.invariant.0),
      rw less (omega (arith, room c.loop-k.unit (8 - k) some, c.loop-k.invariant.1)),
      omega (arith, digit-fits c.loop-k.unit (8 - k) c.loop-k.value (get_or s i 0 - 128) some c.loop-k.invariant.1 c.loop-k.invariant.2 (omega (arith, c.type_inv.s i)), unit-fits c.loop-k.unit (8 - k) some c.loop-k.invariant.1),
    )

pub returns : goal.returns
unfolding answer_at low_part
returns c = let none : 8 - c.loop-k.k ≤ 0 = omega (arith, c.loop-k-test.false) in
    rw (← c.loop-k.invariant.0, at-limit _ _ _ none)
