-- `parts::bytes_inside` meets its contract: all bytes of the part, or those up to the update's end.
use Prim.Native.Nat.{ℕ, ◌+◌, ◌-◌, min}
use native.Mathlib.Omega.{arith}
use mathlib.Core.Path.{◌≡◌, ap, ◌∙◌}
use mathlib.Core.List.{List}
use lib.ListN.{length, take, length-take, length-drop}
use lib.Seq.{slice}
use Rattle.readings.specs.Sound.{bytes_in}
use Rattle.parts.proofs.bytes_inside.Goals as goal

-- the length of any slice
span : (l : List ℕ) (i n : ℕ) → length (slice i (i + n) l) ≡ min (i + n) (length l) - i
span l i n = length-drop i (take (i + n) l) ∙ ap (λ (k : ℕ). k - i) (length-take (i + n) l)

pub returns : goal.returns
unfolding bytes_in
returns c = (rw (span _ _ _) (omega arith), omega arith)
