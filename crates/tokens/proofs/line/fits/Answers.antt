-- `fits` meets its contract, with no sum that wraps.
use Prim.Native.Nat.{◌+◌}
use native.Mathlib.Omega.{arith}
use mathlib.Core.Path.{sym}
use borrow.Author.Tests.{lt-leb}
use Rattle.tokens.proofs.Laying.{leb-less}
use Rattle.tokens.proofs.line.fits.Goals as goal

pub returns-then-end-at : goal.returns-then-end-at
returns-then-end-at c = let a = c.args in sym (lt-leb (a.at + a.n) a.end (omega arith))

pub returns : goal.returns
returns c = let a = c.args in leb-less a.end a.at a.n c.if-end-at.false
