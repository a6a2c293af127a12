-- `once::put_text` meets its contract: after i turns the first i bytes of the text stand behind its length.
use Rattle.std.proofs.Common.{◌≡◌, ◌∙◌, ap, arith, length, take, take_all}
use lib.Seq.{length-sets}
use Rattle.once.proofs.Texts.{bytes_on, head-length, head_bytes}
use Rattle.once.proofs.put_text.Goals as goal
use Rattle.once.proofs.put_text.Goals.{At-loop-i}

-- stores keep the length
size : (c : At-loop-i) → length c.loop-i.out ≡ length c.args.out.now
size c =
    ap length c.loop-i.invariant ∙ length-sets c.write_unsigned-at.new.out c.write_unsigned-at.result (take c.loop-i.i c.args.text.now) ∙ c.write_unsigned-at.auto.out

pub write_unsigned-at-requires : goal.write_unsigned-at-requires
write_unsigned-at-requires c = omega (arith, head-length c.args.text.now, c.requires)

pub bounds-out-at : goal.bounds-out-at
bounds-out-at c = omega (arith, size (goal.at.bounds-out-at c).At-loop-i, c.write_unsigned-at.ensures.0, head-length c.args.text.now, c.requires)

pub overflow_add-out : goal.overflow_add-out
overflow_add-out c = grind (arith, head-length c.args.text.now, c.requires, c.write_unsigned-at.ensures.0)

pub overflow_add-result : goal.overflow_add-result
overflow_add-result c = grind (arith, head-length c.args.text.now, c.requires, c.write_unsigned-at.ensures.0)

pub loop-i-preserved : goal.loop-i-preserved
loop-i-preserved c =
    rw c.loop-i.invariant (bytes_on c.write_unsigned-at.new.out c.args.text.now c.write_unsigned-at.result c.loop-i.i (omega arith))

pub returns : goal.returns
returns c = let a = c.args in
    (omega (arith, c.write_unsigned-at.ensures.0, head-length a.text.now), c.loop-i.invariant ∙ rw (take_all c.loop-i.i a.text.now (omega arith), c.write_unsigned-at.ensures.1, c.write_unsigned-at.ensures.0) (head_bytes a.out.now a.text.now))
