-- `origins::rising` meets its contract: by the difference's sign.
use mathlib.Core.Path.{refl}
use borrow.Author.Tests.{lt-ltb, le-ltb}
use Rattle.origins.specs.Origins.{rising}
use Rattle.origins.proofs.rising.Goals as goal

pub returns-then-key-lt2147483648 : goal.returns-then-key-lt2147483648
unfolding rising
returns-then-key-lt2147483648 c = rw (lt-ltb _ _ c.if-key-lt2147483648.true) refl

pub returns : goal.returns
unfolding rising
returns c = rw (le-ltb _ _ c.if-key-lt2147483648.false) refl
