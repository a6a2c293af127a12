-- `encode_diff` meets its contract: a form that is not known, an update that is refused, a diff that is refused, or the diff.
use Rattle.std.proofs.Common.{arith, ap, sym, ◌∙◌, length}
use Rattle.numbers.specs.declared.Written.{Written}
use Rattle.updates.specs.declared.Update.{Update}
use Rattle.updates.specs.Promises.{answer}
use Rattle.updates.proofs.Read.{rows_fit, words-fit, rows-length, words-length}
use Rattle.diffs.proofs.Exits.{exit-unknown, exit-unread, exit-refused, exit-done, answer-same, out-same}
use Rattle.diffs.proofs.encode_diff.Goals as goal

pub returns-then-not-is_known : goal.returns-then-not-is_known
returns-then-not-is_known c = let a = c.args in
    let e = c.refuse.ensures in
    rw (e.0, e.1, e.2, e.3)
    (exit-unknown a.form a.update.now a.vector.now a.to a.rows.now a.ranges.now a.out.now (sym c.is_known.ensures ∙ c.if-not-is_known.true))

pub returns-then-read-ne0 : goal.returns-then-read-ne0
unfolding answer
returns-then-read-ne0 c = let a = c.args in
    let r = c.read_update-read.ensures in
    let e = c.refuse-then-read-ne0.ensures in
    rw (e.0, e.1, e.2, e.3, r.0, r.1, r.2)
    (exit-unread a.form a.update.now a.vector.now a.to a.rows.now a.ranges.now a.out.now (sym c.is_known.ensures ∙ c.if-not-is_known.false)
    (λ z. c.if-read-ne0.true (ap (λ (x : Update). x.refusal.number) r.0 ∙ z)))

pub encode_read-written-requires : goal.encode_read-written-requires
unfolding answer
encode_read-written-requires c = let a = c.args in
    let r = c.read_update-read.ensures in
    let m = length a.rows.now in
    let n = length a.ranges.now in
    rw (r.0, r.1, r.2) (
      omega (arith, rows_fit a.form a.update.now m n, rows-length a.form a.update.now m n),
      omega (arith, words-fit a.form a.update.now m n, words-length a.form a.update.now m n),
    )

pub returns-then-written-ne0 : goal.returns-then-written-ne0
unfolding answer
returns-then-written-ne0 c = let a = c.args in
    let r = c.read_update-read.ensures in
    let w = c.encode_read-written.ensures in
    let e = c.refuse-then-written-ne0.ensures in
    let t = answer-same a.form a.update.now a.vector.now a.to a.rows.now a.ranges.now a.out.now r.0 r.1 r.2 w.0 in
    let o = out-same a.form a.update.now a.vector.now a.to a.rows.now a.ranges.now a.out.now r.0 r.1 r.2 w.1 in
    rw (e.0, e.1, e.2, e.3, t, o, r.1, r.2)
    (exit-refused a.form a.update.now a.vector.now a.to a.rows.now a.ranges.now a.out.now (sym c.is_known.ensures ∙ c.if-not-is_known.false)
    (ap (λ (x : Update). x.refusal.number) (sym r.0) ∙ c.if-read-ne0.false) (λ z. c.if-written-ne0.true (ap (λ (x : Written). x.number) t ∙ z)))

pub returns : goal.returns
unfolding answer
returns c = let a = c.args in
    let r = c.read_update-read.ensures in
    let w = c.encode_read-written.ensures in
    let t = answer-same a.form a.update.now a.vector.now a.to a.rows.now a.ranges.now a.out.now r.0 r.1 r.2 w.0 in
    let o = out-same a.form a.update.now a.vector.now a.to a.rows.now a.ranges.now a.out.now r.0 r.1 r.2 w.1 in
    rw (t, o, r.0, r.1, r.2)
    (exit-done a.form a.update.now a.vector.now a.to a.rows.now a.ranges.now a.out.now (sym c.is_known.ensures ∙ c.if-not-is_known.false)
    (ap (λ (x : Update). x.refusal.number) (sym r.0) ∙ c.if-read-ne0.false) (sym (ap (λ (x : Written). x.number) t) ∙ c.if-written-ne0.false))
