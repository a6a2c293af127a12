-- `cells::begin_bytes` meets its contract: each return is an arm of `begun` or of `counted`, by the bytes left and the count read.
use Prim.Native.Nat.{◌+◌, ◌*◌}
use mathlib.Core.Path.{◌≡◌, sym, ◌∙◌}
use native.Mathlib.Omega.{arith}
use lib.ListN.{get_or}
use Rattle.numbers.specs.Number.{read_unsigned}
use Rattle.columns.specs.Byte.{begun, counted}
use Rattle.cells.specs.Cells.{cell}
use Rattle.cells.proofs.Numbers.{first_cell}
use Rattle.cells.proofs.Bytes.{bytes-refused, bytes-begin, begun-past, begun-last, begun-counted, counted-wrong, counted-many, counted-run}
use Rattle.cells.proofs.begin_bytes.Goals as goal
use Rattle.cells.proofs.begin_bytes.Goals.{Else-column-e}

-- where the run's count is read: what came before, once for the three returns after it
here : (c : Else-column-e)
    → let t = c.upto-column.result.now in let at = get_or c.args.w.now (7 * c.args.k) 0 in
    begun t at ≡ counted at (get_or t at 0) (at + 1) (read_unsigned t (at + 1))
here c = begun-counted c.upto-column.result.now (get_or c.args.w.now (7 * c.args.k) 0) c.if-column-at.false c.if-column-e.false

pub returns-then-column-at : goal.returns-then-column-at
unfolding cell
returns-then-column-at c = let r = c in
    let t = c in
    let o = c in
    let b = c in
    let a = b.args in
    bytes-refused a.update.now a.w.now a.k _ o.upto-column.result.now (get_or c.args.w.now (7 * c.args.k) 0) b.requires.3 b.requires.2 o.upto-column.ensures (first_cell a.w.now a.k) _ _
    (begun-past o.upto-column.result.now (get_or c.args.w.now (7 * c.args.k) 0) t.if-column-at.true)
    r.refuse.ensures

pub overflow_cast-v : goal.overflow_cast-v
overflow_cast-v c = omega (arith, c.type_inv.column (get_or c.args.w.now (7 * c.args.k) 0))

pub returns-then-column-e : goal.returns-then-column-e
unfolding cell
returns-then-column-e c = let r = c in
    let t = c in
    let o = c in
    let b = c in
    let a = b.args in
    bytes-begin a.update.now a.w.now a.k _ o.upto-column.result.now (get_or c.args.w.now (7 * c.args.k) 0) b.requires.3 b.requires.2 o.upto-column.ensures (first_cell a.w.now a.k) _ _
    (begun-last o.upto-column.result.now (get_or c.args.w.now (7 * c.args.k) 0) t.if-column-at.false t.if-column-e.true)
    r.put_byte.ensures

pub returns-in_default : goal.returns-in_default
unfolding cell
returns-in_default c = let r = c in
    let y = c in
    let n = c in
    let o = c in
    let b = c in
    let a = b.args in
    bytes-refused a.update.now a.w.now a.k _ o.upto-column.result.now (get_or c.args.w.now (7 * c.args.k) 0) b.requires.3 b.requires.2 o.upto-column.ensures (first_cell a.w.now a.k) _ _
    (here (goal.at.returns-in_default c).Else-column-e ∙ counted-wrong o.upto-column.result.now (get_or c.args.w.now (7 * c.args.k) 0) _ (get_or c.args.w.now (7 * c.args.k) 0 + 1) _ _ _ n.read_unsigned-n.ensures y.in_default.is y.why_read-why.ensures)
    r.refuse-in_default.ensures

pub returns-then-c-gt-MAX_COUNT : goal.returns-then-c-gt-MAX_COUNT
unfolding cell
returns-then-c-gt-MAX_COUNT c = let r = c in
    let t = c in
    let v = c in
    let n = c in
    let o = c in
    let b = c in
    let a = b.args in
    bytes-refused a.update.now a.w.now a.k _ o.upto-column.result.now (get_or c.args.w.now (7 * c.args.k) 0) b.requires.3 b.requires.2 o.upto-column.ensures (first_cell a.w.now a.k) _ _
    (here (goal.at.returns-then-c-gt-MAX_COUNT c).Else-column-e ∙ counted-many o.upto-column.result.now (get_or c.args.w.now (7 * c.args.k) 0) _ (get_or c.args.w.now (7 * c.args.k) 0 + 1) _ _ (sym n.read_unsigned-n.ensures ∙ v.in-Number.is) t.if-c-gt-MAX_COUNT.true)
    r.refuse-then-c-gt-MAX_COUNT.ensures

pub returns : goal.returns
unfolding cell
returns c = let r = c in
    let t = c in
    let v = c in
    let n = c in
    let o = c in
    let b = c in
    let a = b.args in
    bytes-begin a.update.now a.w.now a.k _ o.upto-column.result.now (get_or c.args.w.now (7 * c.args.k) 0) b.requires.3 b.requires.2 o.upto-column.ensures (first_cell a.w.now a.k) _ _
    (here (goal.at.returns c).Else-column-e ∙ counted-run o.upto-column.result.now (get_or c.args.w.now (7 * c.args.k) 0) _ (get_or c.args.w.now (7 * c.args.k) 0 + 1) _ _ (sym n.read_unsigned-n.ensures ∙ v.in-Number.is) t.if-c-gt-MAX_COUNT.false)
    r.put_byte-2.ensures
