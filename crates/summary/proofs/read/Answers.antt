-- `summary::read` meets its contract: version, row count, rows.
use Prim.Native.Nat.{ℕ, ◌/◌, ◌≤◌, ◌<◌}
use mathlib.Core.Path.{refl, sym, ap, subst, ◌∙◌}
use mathlib.Core.List.{[]}
use lib.ListN.{length, drop}
use Rattle.bits.specs.Bits.{of_bytes}
use Rattle.summary.specs.Summary.{rows_after}
use Rattle.summary.proofs.Answers.{same-answers, refused-answers, no_byte, unknown, no-count, too_many, some-rows}
use Rattle.summary.proofs.read.Goals as goal

pub returns-then-s-lt1 : goal.returns-then-s-lt1
returns-then-s-lt1 c = let a = c.args in
    refused-answers _ 1 a.rows.now a.rows.now _ _ (no_byte _ a.s.now c.if-s-lt1.true) refl c.refuse.ensures

pub returns-then-get-ne-VERSION : goal.returns-then-get-ne-VERSION
returns-then-get-ne-VERSION c = let a = c.args in
    refused-answers _ 16 a.rows.now a.rows.now _ _ (unknown _ a.s.now c.if-s-lt1.false (λ e. c.if-get-ne-VERSION.true (c.get.ensures ∙ e))) refl c.refuse-then-get-ne-VERSION.ensures

pub returns-then-s-lt2 : goal.returns-then-s-lt2
returns-then-s-lt2 c = let a = c.args in
    refused-answers _ 1 a.rows.now a.rows.now _ _ (no-count _ a.s.now c.if-s-lt1.false (sym c.get.ensures ∙ c.if-get-ne-VERSION.false) c.if-s-lt2.true) refl c.refuse-then-s-lt2.ensures

pub returns-then-n-gt-MOST : goal.returns-then-n-gt-MOST
returns-then-n-gt-MOST c = let a = c.args in
    refused-answers _ 3 a.rows.now a.rows.now _ _ (too_many _ a.s.now c.if-s-lt1.false (sym c.get.ensures ∙ c.if-get-ne-VERSION.false) c.if-s-lt2.false
    (subst (λ (n : ℕ). 64 < n) c.get-n.ensures c.if-n-gt-MOST.true)) refl c.refuse-then-n-gt-MOST.ensures

pub returns : goal.returns
returns c = let a = c.args in
    let e = some-rows (length a.rows.now / 4) a.s.now c.if-s-lt1.false (sym c.get.ensures ∙ c.if-get-ne-VERSION.false) c.if-s-lt2.false
    (subst (λ (n : ℕ). n ≤ 64) c.get-n.ensures c.if-n-gt-MOST.false) in
    same-answers _ _ a.rows.now c.read_rows.new.rows c.read_rows.result (e ∙ ap (λ (n : ℕ). rows_after n (length a.rows.now / 4) [] (drop 11 (of_bytes a.s.now))) (sym c.get-n.ensures)) c.read_rows.ensures
