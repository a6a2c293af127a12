-- `listing_text::put_ranges` meets its contract: what is left to put from here, onto what is there now, is the whole onto what was there.
use Prim.Native.Nat.{ℕ, ◌+◌, ◌-◌}
use mathlib.Core.Path.{◌≡◌, refl, sym, ap, ◌∙◌}
use mathlib.Core.List.{List, ◌++◌}
use native.Mathlib.Omega.{arith}
use lib.ListN.{length, length-append}
use Rattle.ranges.specs.TableInner.{row, rows_from}
use Rattle.lines.specs.LinesInner.{overlay}
use Rattle.lines.proofs.Laws.{overlay-nil, overlay-on}
use Rattle.listing_text.specs.Listing.{range_line, range_lines}
use Rattle.listing_text.proofs.Laws.{range-short, rest_more, rest-none}
use Rattle.listing_text.proofs.put_ranges.Goals as goal

pub loop-i-init : goal.loop-i-init
loop-i-init c = let a = c.args in
    let e : a.n - 0 ≡ a.n = omega arith in
    (omega arith, rw e, rw e, refl)

pub loop-i-preserved : goal.loop-i-preserved
unfolding row
loop-i-preserved c = let t = c in
    let a = t.args in
    let s = a.words.now in
    let line = range_line (row s c.loop-i.i) in
    let rest = range_lines (rows_from s (c.loop-i.i + 1) (a.n - (c.loop-i.i + 1))) in
    let more : range_lines (rows_from s c.loop-i.i (a.n - c.loop-i.i)) ≡ line ++ rest = rest_more s c.loop-i.i a.n t.loop-i-test.true in
    (omega (arith, c.put_range-at.ensures.0, range-short (row s c.loop-i.i)), omega (arith, c.put_range-at.ensures.0, simp length-append at (ap length more), c.loop-i.invariant.1), ap (λ (o : List ℕ). overlay o c.put_range-at.result rest) c.put_range-at.ensures.1 ∙ overlay-on c.loop-i.out c.loop-i.at c.put_range-at.result line rest c.put_range-at.ensures.0 ∙ ap (overlay c.loop-i.out c.loop-i.at) (sym more) ∙ c.loop-i.invariant.2, c.put_range-at.auto.out ∙ c.loop-i.invariant.3)

pub returns : goal.returns
returns c = let a = c.args in
    let e = rest-none a.words.now c.loop-i.i a.n c.loop-i-test.false in
    (omega (arith, ap length e, c.loop-i.invariant.1), sym (ap (overlay c.loop-i.out c.loop-i.at) e ∙ overlay-nil c.loop-i.out c.loop-i.at) ∙ c.loop-i.invariant.2)
