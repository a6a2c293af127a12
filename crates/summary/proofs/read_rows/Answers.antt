-- `summary::read_rows` meets its contract: all rows and zeros behind them, or a refusal.
use Prim.Native.Nat.{◌/◌}
use mathlib.Core.Path.{sym, ap, ◌∙◌}
use mathlib.Core.Bool.{Bool, ◌&&◌}
use lib.ListN.{length}
use Rattle.summary.proofs.Answers.{refused-answers, took-refused, took-all, is-wrong, is_read}
use borrow.Author.Rules.{rules}
use Rattle.summary.proofs.read_rows.Goals as goal

pub is_filled-zeros-requires : goal.is_filled-zeros-requires
is_filled-zeros-requires c = let a = c.args in
    let m = length a.rows.now / 4 in
    ((took-all a.s.now a.n m _ c.take_rows.result _ c.in-Ok.is c.take_rows.ensures.1).there, search rules)

pub clear-requires : goal.clear-requires
clear-requires c = let a = c.args in
    let m = length a.rows.now / 4 in
    (took-all a.s.now a.n m _ c.take_rows.result _ c.in-Ok.is c.take_rows.ensures.1).fits

pub returns-then-good-zeros : goal.returns-then-good-zeros
returns-then-good-zeros c = let a = c.args in
    let m = length a.rows.now / 4 in
    let all = took-all a.s.now a.n m _ c.take_rows.result _ c.in-Ok.is c.take_rows.ensures.1 in
    is_read a.s.now a.n m c.take_rows.new.rows _ all a.rows.now c.clear.new.words c.take_rows.ensures.0
    (sym (ap (λ (y : Bool). c.in-Ok.good && y) c.is_filled-zeros.ensures) ∙ c.if-good-zeros.true) c.clear.ensures

pub returns-else-good-zeros : goal.returns-else-good-zeros
returns-else-good-zeros c = let a = c.args in
    let m = length a.rows.now / 4 in
    let all = took-all a.s.now a.n m _ c.take_rows.result _ c.in-Ok.is c.take_rows.ensures.1 in
    refused-answers _ 17 a.rows.now c.take_rows.new.rows c.refuse.new.rows c.refuse.result (is-wrong a.s.now a.n m c.take_rows.new.rows _ all
    (sym (ap (λ (y : Bool). c.in-Ok.good && y) c.is_filled-zeros.ensures) ∙ c.if-good-zeros.false)) c.take_rows.ensures.0 c.refuse.ensures

pub returns-in-Err : goal.returns-in-Err
returns-in-Err c = let a = c.args in
    let m = length a.rows.now / 4 in
    refused-answers _ _ a.rows.now c.take_rows.new.rows c.refuse-in-Err.new.rows c.refuse-in-Err.result
    (took-refused a.s.now a.n m c.take_rows.new.rows c.take_rows.result _ c.in-Err.is c.take_rows.ensures.1) c.take_rows.ensures.0 c.refuse-in-Err.ensures
