-- `keyed::new_key` meets its contract: a text, and then the words of one key more.
use Prim.Native.Nat.{◌≤◌}
use mathlib.Core.Path.{◌≡◌, sym, ap, ◌∙◌}
use native.Mathlib.Omega.{arith}
use lib.ListN.{length, length-set}
use Rattle.cells.specs.Cells.{key_count}
use Rattle.cells.proofs.States.{small-joined}
use Rattle.fields.specs.Fields.{part_given}
use Rattle.keyed.proofs.Laws.{join-none, count_kept, join-done}
use Rattle.keyed.proofs.new_key.Goals as goal

pub returns-in_err-read_word : goal.returns-in_err-read_word
returns-in_err-read_word c = rw c.from_residual.ensures (let b = c in
    let n = b.args.k in
    let v = c.read_word.new.w in
    let q = c.read_word.new.r in
    let k = c.read_word.ensures in
    (k.0, k.1, join-none b.args.update.now b.args.w.now v q n (ap (part_given n v q) (sym c.in_err-read_word.was) ∙ k.2)))

pub bounds-w-base-2 : goal.bounds-w-base-2
bounds-w-base-2 c = simp length-set (omega arith)

pub bounds-w-67 : goal.bounds-w-67
bounds-w-67 c = simp length-set (omega arith)

pub returns : goal.returns
returns c = let b = c in
    let n = b.args.k in
    let u = b.args.update.now in
    let w = b.args.w.now in
    let v = c.read_word.new.w in
    let q = c.read_word.new.r in
    let k = c.read_word.ensures in
    let h = ap (part_given n v q) (sym c.in_ok-read_word.was) ∙ k.2 in
    let wide : 580 ≤ length v = omega (arith, b.requires.4, c.read_word.auto.w) in
    let e : b.args.count ≡ key_count v = b.requires.2 ∙ sym (count_kept u w v q n h) in
    (small-joined v k.0 wide b.args.count e b.requires.3 _ _, k.1, join-done u w v q n h k.0 wide b.args.count e b.requires.3)
