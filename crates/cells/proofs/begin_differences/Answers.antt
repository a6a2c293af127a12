-- `cells::begin_differences` meets its contract: each return is an arm of `begun` or of `counted`, by what was read and tested on the way.
use Rattle.std.specs.Prelude.{Option}
use Prim.Native.Nat.{ℕ, ◌+◌, ◌*◌, ◌<◌}
use mathlib.Core.Path.{◌≡◌, refl, sym, ◌∙◌}
use mathlib.Core.Bool.{Bool}
use mathlib.Core.List.{List}
use native.Mathlib.Omega.{arith}
use lib.ListN.{get_or, take}
use Rattle.numbers.specs.Number.{read_signed, read_unsigned}
use Rattle.numbers.specs.declared.Signed.TheVariants.{Value}
use Rattle.columns.specs.declared.difference.Answer.{Answer}
use Rattle.columns.specs.Difference.{begun, counted}
use Rattle.cells.specs.Cells.{cell, DifferencePut, DifferenceDrawn}
use Rattle.cells.proofs.Numbers.{first_cell}
use Rattle.cells.proofs.Differences.{difference-refused, difference-begins, starts-before, inside, begun-wrong, begun-outside, begun-even, begun-odd, counted-wrong, counted-many, counted-run}
use Rattle.cells.proofs.begin_differences.Goals as goal
use Rattle.cells.proofs.begin_differences.Goals.{After-upto-column, Then-x-eq1}

begins : (c : After-upto-column) (v : List ℕ) (r : Option ℕ) (x : Answer)
    → let a = c.args in
    let text = c.upto-column.result.now in let at = get_or a.w.now (7 * a.k) 0 in
    begun text at (cell a.w.now a.k 2) (read_signed text at) ≡ x → DifferencePut a.k a.w.now v r x → DifferenceDrawn a.update.now a.k a.w.now v r
unfolding cell
begins c v r x e p =
    let a = c.args in
    difference-begins a.update.now a.w.now a.k v r c.upto-column.result.now (get_or a.w.now (7 * a.k) 0) x c.requires.2 c.upto-column.ensures (first_cell a.w.now a.k) e p

-- where the run's count is read: what came before, once for the three returns after it
odd : (c : Then-x-eq1)
    → let a = c.args in let e = c.in-Value.e in
    let text = c.upto-column.result.now in let at = get_or a.w.now (7 * a.k) 0 in
    begun text at (cell a.w.now a.k 2) (read_signed text at) ≡ counted at (cell a.w.now a.k 2) c.key_read-key.result e (read_unsigned text e)
odd c =
    let a = c.args in
    begun-odd c.upto-column.result.now (get_or a.w.now (7 * a.k) 0) (cell a.w.now a.k 2) _ _ _ (sym c.read_signed-s.ensures ∙ c.in-Value.is) _ (sym c.is_outside.ensures ∙ c.if-is_outside.false) c.key_read-key.ensures.0 c.if-x-eq1.true

-- the column has bytes left
left_there : (u w : List ℕ) (k : ℕ) (text : List ℕ) (minus : Bool) (x e : ℕ) → text ≡ take (get_or w (7 * k + 4) 0) u → read_signed text (get_or w (7 * k) 0) ≡ Value minus x e → cell w k 0 < cell w k 4
unfolding cell
left_there u w k text minus x e t r = omega (arith, first_cell w k, starts-before u text (get_or w (7 * k) 0) (cell w k 4) _ _ _ t r)

pub returns-in_default : goal.returns-in_default
returns-in_default c = let r = c in
    let y = c in
    let n = c in
    let o = c in
    let a = c.args in
    begins (goal.at.returns-in_default c).After-upto-column _ _ _
    (begun-wrong c.upto-column.result.now (get_or c.args.w.now (7 * c.args.k) 0) (cell a.w.now a.k 2) _ _ _ n.read_signed-s.ensures y.in_default.is y.why_signed-why.ensures)
    (difference-refused a.k a.w.now _ _ _ _ refl r.refuse.ensures)

pub returns-then-is_outside : goal.returns-then-is_outside
returns-then-is_outside c = let r = c in
    let t = c in
    let s = c in
    let o = c in
    let a = c.args in
    begins (goal.at.returns-then-is_outside c).After-upto-column _ _ _
    (begun-outside c.upto-column.result.now (get_or c.args.w.now (7 * c.args.k) 0) (cell a.w.now a.k 2) _ _ _ (sym c.read_signed-s.ensures ∙ c.in-Value.is) (sym t.is_outside.ensures ∙ t.if-is_outside.true))
    (difference-refused a.k a.w.now _ _ _ _ refl r.refuse-then-is_outside.ensures)

pub key_read-key-requires : goal.key_read-key-requires
key_read-key-requires c = inside _ _ (sym c.is_outside.ensures ∙ c.if-is_outside.false)

pub returns-in_default-n : goal.returns-in_default-n
returns-in_default-n c = let r = c in
    let y = c in
    let n = c in
    let o = c in
    let a = c.args in
    begins (goal.at.returns-in_default-n c).After-upto-column _ _ _
    (odd (goal.at.returns-in_default-n c).Then-x-eq1 ∙ counted-wrong c.upto-column.result.now (get_or c.args.w.now (7 * c.args.k) 0) (cell a.w.now a.k 2) _ _ _ _ _ n.read_unsigned-n.ensures y.in_default-n.is y.why_read-why.ensures)
    (difference-refused a.k a.w.now _ _ _ _ refl r.refuse-in_default-n.ensures)

pub returns-then-c-gt-MAX_COUNT : goal.returns-then-c-gt-MAX_COUNT
returns-then-c-gt-MAX_COUNT c = let r = c in
    let t = c in
    let v = c in
    let n = c in
    let o = c in
    let a = c.args in
    begins (goal.at.returns-then-c-gt-MAX_COUNT c).After-upto-column _ _ _
    (odd (goal.at.returns-then-c-gt-MAX_COUNT c).Then-x-eq1 ∙ counted-many c.upto-column.result.now (get_or c.args.w.now (7 * c.args.k) 0) (cell a.w.now a.k 2) _ _ _ _ (sym n.read_unsigned-n.ensures ∙ v.in-Number.is) t.if-c-gt-MAX_COUNT.true)
    (difference-refused a.k a.w.now _ _ _ _ refl r.refuse-then-c-gt-MAX_COUNT.ensures)

pub put_difference-requires : goal.put_difference-requires
put_difference-requires c = let k = c in
    let s = c in
    let b = c in
    (b.requires.0, b.requires.1, k.key_read-key.ensures.1, left_there c.args.update.now c.args.w.now c.args.k c.upto-column.result.now _ _ _ c.upto-column.ensures (sym c.read_signed-s.ensures ∙ c.in-Value.is))

pub put_difference-requires-2 : goal.put_difference-requires-2
put_difference-requires-2 c = let k = c in
    let s = c in
    let b = c in
    (b.requires.0, b.requires.1, k.key_read-key.ensures.1, left_there c.args.update.now c.args.w.now c.args.k c.upto-column.result.now _ _ _ c.upto-column.ensures (sym c.read_signed-s.ensures ∙ c.in-Value.is))

pub returns-then-x-eq1 : goal.returns-then-x-eq1
returns-then-x-eq1 c = let r = c in
    let t = c in
    let v = c in
    let n = c in
    let o = c in
    let a = c.args in
    begins (goal.at.returns-then-x-eq1 c).After-upto-column _ _ _
    (odd (goal.at.returns-then-x-eq1 c).Then-x-eq1 ∙ counted-run c.upto-column.result.now (get_or c.args.w.now (7 * c.args.k) 0) (cell a.w.now a.k 2) _ _ _ _ (sym n.read_unsigned-n.ensures ∙ v.in-Number.is) t.if-c-gt-MAX_COUNT.false)
    r.put_difference.ensures

pub returns : goal.returns
returns c = let r = c in
    let t = c in
    let k = c in
    let s = c in
    let o = c in
    let a = c.args in
    begins (goal.at.returns c).After-upto-column _ _ _
    (begun-even c.upto-column.result.now (get_or c.args.w.now (7 * c.args.k) 0) (cell a.w.now a.k 2) _ _ _ (sym c.read_signed-s.ensures ∙ c.in-Value.is) _ (sym k.is_outside.ensures ∙ k.if-is_outside.false) k.key_read-key.ensures.0 t.if-x-eq1.false)
    r.put_difference-2.ensures
