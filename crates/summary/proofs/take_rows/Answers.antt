-- `summary::take_rows` meets its contract: each way out of a turn is a law of taking rows.
use Prim.Native.Nat.{ℕ, ◌+◌, ◌-◌, ◌*◌, ◌/◌}
use native.Mathlib.Omega.{arith}
use mathlib.Core.Path.{◌≡◌, refl, sym, ap, ◌∙◌}
use mathlib.Core.Bool.{Bool, ◌&&◌}
use mathlib.Core.List.{List, [], ◌∷◌}
use lib.ListN.{length}
use lib.Seq.{length-sets}
use native.Mathlib.Nat.{sub-zero}
use Rattle.bits.specs.Bits.{of_bytes}
use Rattle.summary.specs.Words.{summary_row, words_in}
use Rattle.summary.specs.WordsInner.{Took}
use Rattle.summary.proofs.Taking.{row_from, begins, cut_off, no_row, one-row, all-rows}
use Rattle.summary.proofs.take_rows.Goals as goal

-- as many rows as there were
room-is : (v w : List ℕ) → length v ≡ length w → length w / 4 ≡ length v / 4
room-is v w e = ap (λ (n : ℕ). n / 4) (sym e)

pub loop-i-init : goal.loop-i-init
loop-i-init c = (rw sub-zero (begins _ _ _ _ c.requires.0), refl)

pub returns-then-s-o : goal.returns-then-s-o
unfolding Took
returns-then-s-o c = let a = c.args in
    let m = length a.rows.now / 4 in
    (c.loop-i.invariant.1, cut_off a.s.now a.n m c.loop-i.rows (11 + 131 * c.loop-i.i) (4 * c.loop-i.i) (a.n - c.loop-i.i) c.loop-i.above c.loop-i.good c.loop-i.invariant.0 (omega (arith, c.loop-i-test.true)) c.if-s-o.true)

pub returns-then-rows-k : goal.returns-then-rows-k
unfolding Took
returns-then-rows-k c = let a = c.args in
    let m = length a.rows.now / 4 in
    (c.loop-i.invariant.1, no_row a.s.now a.n m c.loop-i.rows (11 + 131 * c.loop-i.i) (4 * c.loop-i.i) (a.n - c.loop-i.i) c.loop-i.above c.loop-i.good c.loop-i.invariant.0 (omega (arith, c.loop-i-test.true)) c.if-s-o.false (room-is c.loop-i.rows a.rows.now c.loop-i.invariant.1) c.if-rows-k.true)

pub loop-i-preserved : goal.loop-i-preserved
loop-i-preserved c = let a = c.args in
    let m = length a.rows.now / 4 in
    let i = c.loop-i.i in
    let r = summary_row c.get-client.result c.get-first.result c.get-end.result c.get-blocks.result in
    let same : r ≡ row_from (11 + 131 * i) (of_bytes a.s.now) = rw (c.get-client.ensures, c.get-first.ensures, c.get-end.ensures, c.get-blocks.ensures) in
    let bit : 11 + 131 * (i + 1) ≡ 11 + 131 * i + 131 = omega arith in
    let word : 4 * (i + 1) ≡ 4 * i + 4 = omega arith in
    let left : a.n - (i + 1) ≡ a.n - i - 1 = omega arith in (
      rw (bit, word, left) (one-row a.s.now a.n m c.loop-i.rows (11 + 131 * i) (4 * i) (a.n - i) c.loop-i.above c.loop-i.good c.loop-i.invariant.0 (omega (arith, c.loop-i-test.true)) c.if-s-o.false (room-is c.loop-i.rows a.rows.now c.loop-i.invariant.1) c.if-rows-k.false r same c.put_words.new.rows c.put_words.ensures
          (c.loop-i.good && c.is_fine-good.result) (ap (λ (x : Bool). c.loop-i.good && x) c.is_fine-good.ensures)),
      ap length c.put_words.ensures ∙ length-sets c.loop-i.rows (4 * i) (words_in (r ∷ [])) ∙ c.loop-i.invariant.1,
    )

pub returns : goal.returns
unfolding Took
returns c = let a = c.args in
    let m = length a.rows.now / 4 in
    (c.loop-i.invariant.1, all-rows a.s.now a.n m c.loop-i.rows (11 + 131 * c.loop-i.i) (4 * c.loop-i.i) (a.n - c.loop-i.i) c.loop-i.above c.loop-i.good c.loop-i.invariant.0 (omega (arith, c.loop-i-test.false)))
