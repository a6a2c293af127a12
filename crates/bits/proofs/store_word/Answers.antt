-- `bits::store_word` meets its contract: the word's bytes, the highest first.
use Prim.Native.Nat.{◌+◌}
use mathlib.Core.Path.{sym, ◌∙◌}
use mathlib.Core.List.{append_assoc}
use native.Mathlib.Omega.{arith}
use lib.ListN.{take, drop}
use lib.Seq.{sets-eq}
use borrow.Rule.Slice.PartMut.{Post-is}
use Rattle.bits.specs.Places.{top}
use Rattle.bits.proofs.Passing.{length-top}
use Rattle.bits.proofs.Words.{to-eight}
use Rattle.bits.proofs.store_word.Goals as goal

pub returns : goal.returns
returns c = let out = c.args.out.now in let at = c.args.at in let t = top 8 c.args.w in
    let new = c.copy_from_slice.ensures.after ∙ c.to_be_bytes.ensures ∙ to-eight c.args.w c.ranges.w.fits in
    rw (Post-is at (at + 8) out (omega arith), new)
    (sym (append_assoc (take at out) t (drop (at + 8) out)) ∙ sym (rw (length-top 8 c.args.w) at (sets-eq t out at (omega (arith, length-top 8 c.args.w)))))
