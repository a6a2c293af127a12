-- `summary::is_filled` meets its contract: a whole byte more, no bit more, or some bits, which spell 0.
use Prim.Native.Nat.{ℕ}
use mathlib.Core.Path.{refl, ap, ◌∙◌}
use lib.Dec.{eqb}
use Rattle.summary.proofs.Taking.{byte_more, bits-more, no-bit-more}
use Rattle.summary.proofs.is_filled.Goals as goal

pub returns-then-bytes-s : goal.returns-then-bytes-s
returns-then-bytes-s c = let a = c.args in byte_more a.s.now a.o c.if-bytes-s.true

pub returns-then-left-eq0 : goal.returns-then-left-eq0
returns-then-left-eq0 c = let a = c.args in no-bit-more a.s.now a.o _ c.if-bytes-s.false c.requires.0 refl c.if-left-eq0.true

pub returns : goal.returns
returns c = let a = c.args in
    ap (λ (n : ℕ). eqb n 0) c.get.ensures ∙ bits-more a.s.now a.o _ c.if-bytes-s.false c.requires.0 refl
