-- `bulk::number_rest` meets its contract: what is left to spell, from here, is what was there to spell at the start.
use Rattle.std.proofs.Common.{ℕ, ◌+◌, ◌-◌, ◌*◌, ◌^◌, ◌≤◌, ◌<◌, ◌≡◌, ◌∙◌, arith, get_or}
use Rattle.numbers.specs.Number.{low_part, answer_at}
use Rattle.numbers.proofs.Laws.{at-end, at_last, turn, at-limit, room, unit-fits, digit-fits}
use Rattle.bulk.proofs.number_rest.Goals as goal
use Rattle.bulk.proofs.number_rest.Goals.{In-loop-k}

pub returns-then-s-i : goal.returns-then-s-i
unfolding answer_at low_part
returns-then-s-i c = let some : 0 < 8 - c.loop-k.k = omega (arith, c.loop-k-test.true) in
    rw (← c.loop-k.invariant.same, at-end _ _ _ some c.if-s-i.true)

pub returns-then-b-lt128 : goal.returns-then-b-lt128
unfolding answer_at low_part
returns-then-b-lt128 c = let some : 0 < 8 - c.loop-k.k = omega (arith, c.loop-k-test.true) in
    rw (← c.loop-k.invariant.same, at_last _ _ _ some c.if-s-i.false c.if-b-lt128.true)

-- a digit more has room, at every turn
more : (c : In-loop-k) (d : ℕ) → d < 128 → c.loop-k.value + c.loop-k.unit * d < c.loop-k.unit * 128
more c d l = digit-fits c.loop-k.unit (8 - c.loop-k.k) c.loop-k.value d (omega (arith, c.loop-k-test.true)) c.loop-k.invariant.fits c.loop-k.invariant.low l

most : (c : In-loop-k) → c.loop-k.unit * 128 ≤ 2 ^ 63
most c = unit-fits c.loop-k.unit (8 - c.loop-k.k) (omega (arith, c.loop-k-test.true)) c.loop-k.invariant.fits

pub overflow_mul-result : goal.overflow_mul-result
overflow_mul-result c = let l = (goal.at.overflow_mul-result c).In-loop-k in omega (arith, more l _ c.if-b-lt128.true, most l)

pub overflow_add-result : goal.overflow_add-result
overflow_add-result c = let l = (goal.at.overflow_add-result c).In-loop-k in omega (arith, more l _ c.if-b-lt128.true, most l)

pub overflow_mul-value : goal.overflow_mul-value
overflow_mul-value c = let l = (goal.at.overflow_mul-value c).In-loop-k in
    omega (arith, more l (get_or c.args.s.now (c.args.at + c.loop-k.k) 0 - 128) (omega (arith, c.type_inv.s (c.args.at + c.loop-k.k))), most l)

pub overflow_add-value : goal.overflow_add-value
overflow_add-value c = let l = (goal.at.overflow_add-value c).In-loop-k in
    omega (arith, more l (get_or c.args.s.now (c.args.at + c.loop-k.k) 0 - 128) (omega (arith, c.type_inv.s (c.args.at + c.loop-k.k))), most l)

pub overflow_mul-unit : goal.overflow_mul-unit
overflow_mul-unit c = omega (arith, most (goal.at.overflow_mul-unit c).In-loop-k)

pub loop-k-preserved : goal.loop-k-preserved
loop-k-preserved c = let some : 0 < 8 - c.loop-k.k = omega (arith, c.loop-k-test.true) in
    let i = c.args.at + c.loop-k.k in
    let left : 8 - (c.loop-k.k + 1) ≡ 8 - c.loop-k.k - 1 = omega arith in
    let next : c.args.at + (c.loop-k.k + 1) ≡ i + 1 = omega arith in
    record {
      same = rw (left, next) (turn c.args.s.now _ _ some c.loop-k.unit c.loop-k.value c.if-s-i.false c.if-b-lt128.false ∙ c.loop-k.invariant.same);
      fits = rw left (omega (arith, room c.loop-k.unit (8 - c.loop-k.k) some, c.loop-k.invariant.fits));
      low = more (goal.at.loop-k-preserved c).In-loop-k (get_or c.args.s.now i 0 - 128) (omega (arith, c.type_inv.s i));
      there = omega (arith, c.if-s-i.false);
    }

pub returns : goal.returns
unfolding answer_at low_part
returns c = let none : 8 - c.loop-k.k ≤ 0 = omega (arith, c.loop-k-test.false) in
    rw (← c.loop-k.invariant.same, at-limit _ _ _ none)
