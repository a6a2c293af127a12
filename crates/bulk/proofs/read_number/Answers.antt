-- `bulk::read_number` meets its contract: the sign is in the first byte, and `number_rest` goes on from its six bits.
use mathlib.Core.Path.{sym, ap, ◌∙◌}
use lib.ListN.{drop_of_length-le}
use Rattle.numbers.proofs.Laws.{signed-last, signed-more}
use Rattle.numbers.specs.Number.{read_signed, spelt_signed, minus_of, with_sign, answer_at}
use Rattle.bulk.proofs.read_number.Goals as goal

pub returns-then-s-at : goal.returns-then-s-at
unfolding read_signed spelt_signed minus_of with_sign answer_at
returns-then-s-at c = rw (drop_of_length-le _ c.if-s-at.true)

pub returns-then-b-lt128 : goal.returns-then-b-lt128
returns-then-b-lt128 c = sym (signed-last c.args.s.now _ c.if-s-at.false c.if-b-lt128.true)

pub returns-in-Number : goal.returns-in-Number
unfolding with_sign
returns-in-Number c = let d = c in
    ap (with_sign _) (sym c.in-Number.is ∙ c.number_rest.ensures)
    ∙ sym (signed-more _ _ d.if-s-at.false d.if-b-lt128.false)

pub returns-in-Refused : goal.returns-in-Refused
unfolding with_sign
returns-in-Refused c = let d = c in
    ap (with_sign _) (sym c.in-Refused.is ∙ c.number_rest.ensures)
    ∙ sym (signed-more _ _ d.if-s-at.false d.if-b-lt128.false)
