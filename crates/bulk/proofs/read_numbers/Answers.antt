-- `bulk::read_numbers` meets its contract: the words before i are what i draws gave, and c is the place that they left.
use Prim.Native.Nat.{ℕ}
use mathlib.Core.Path.{◌≡◌, sym, ap, ◌∙◌}
use native.Mathlib.Omega.{arith}
use lib.Dec.{eqb}
use lib.ListN.{length}
use Rattle.numbers.specs.declared.Refusal.{Refusal}
use Rattle.numbers.specs.Number.{pick, none}
use Rattle.columns.specs.declared.number.Place.{Place}
use Rattle.columns.specs.declared.number.Answer.{Answer}
use Rattle.columns.specs.declared.number.Answer.TheVariants.{Bad}
use Rattle.columns.specs.NumberInner.{why_number}
use Rattle.bulk.specs.declared.NumbersRead.{NumbersRead}
use Rattle.bulk.specs.Bulk.{stop, number_draw}
use Rattle.bulk.specs.Promises.{numbers_answer}
use Rattle.bulk.proofs.Drawing.{read-stop, read-end, end-answer, end-words, end-full, none-either}
use Rattle.bulk.proofs.Spreading.{read-run}
use Rattle.bulk.proofs.read_numbers.Goals as goal

abbrev make : Refusal → ℕ → Place → NumbersRead
make w k d = record { refusal = w; count = k; place = d }

refused : (r : Answer) (w : Refusal) → r ≡ Bad w → number_draw r ≡ stop (why_number r)
unfolding number_draw
refused r w e = rw e

pub returns-in_default : goal.returns-in_default
unfolding numbers_answer
returns-in_default c = let n = c in
    let e = read-stop c.loop-i.invariant _ (ap number_draw (sym n.next_number-r.ensures) ∙ refused _ _ c.in_default.is) (omega (arith, c.loop-i.invariant.size, n.loop-i-test.true)) in (
      ap (λ (w : Refusal). make w c.loop-i.i c.loop-i.c) (c.told-refusal.ensures ∙ ap (λ (w : Refusal). pick (eqb c.loop-i.i 0) w none) c.why-why.ensures) ∙ end-answer c.loop-i.invariant _ e make,
      c.clear.ensures ∙ end-words c.loop-i.invariant _ e,
    )

pub loop-i-preserved : goal.loop-i-preserved
loop-i-preserved c = let a = c.args in
    rw c.less_drawn-c.ensures
    (read-run a.column.now (length a.out.now) a.place c.loop-i.out c.loop-i.i c.loop-i.c c.loop-i.invariant c.in-Next.v c.in-Next.d (sym c.next_number-r.ensures ∙ c.in-Next.is) c.as_many-n.result c.as_many-n.ensures.0 (omega (arith, c.as_many-n.ensures.1, c.loop-i.invariant.size, c.loop-i-test.true)) c.as_many-n.ensures.2 c.spread.new.out (c.spread.auto.out ∙ c.loop-i.invariant.size) c.spread.ensures)

pub returns : goal.returns
unfolding numbers_answer
returns c = let e = read-end c.loop-i.invariant (omega (arith, c.loop-i.invariant.size)) in
    (ap (λ (w : Refusal). make w c.loop-i.i c.loop-i.c) (sym (none-either (eqb c.loop-i.i 0))) ∙ end-answer c.loop-i.invariant _ e make, end-full c.loop-i.invariant _ e (omega (arith, c.loop-i.invariant.size, c.loop-i.invariant.fits)))
