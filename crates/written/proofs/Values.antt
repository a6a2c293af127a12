-- Plain values of an update go by their own bytes alone: those of a part are all of its bytes.
use Prim.Native.Nat.{ℕ, ◌+◌}
use mathlib.Core.Path.{◌≡◌, sym, ap, ◌∙◌}
use mathlib.Core.List.{List, [], ◌++◌, append-nil}
use native.Mathlib.Omega.{arith}
use lib.ListN.{length}
use lib.Seq.{slice, length-slice}
use Rattle.text.specs.declared.Part.{Part}
use Rattle.anys.specs.declared.Skipped.TheVariants.{At}
use Rattle.anys.specs.Any.{anys}
use Rattle.anys.proofs.Moves.{anys-copied}
use Rattle.readings.specs.Sound.{bytes_in}
use Rattle.readings.specs.SoundInner.{Lies, AreValues}
use Rattle.draws.specs.Draws.{AreAll}

pub values-all : (u : List ℕ) (n : ℕ) (p : Part) → Lies u p → AreValues u n p → AreAll n (bytes_in u p)
unfolding bytes_in
values-all u n p lies h =
    let b : List ℕ = slice p.place (p.place + p.bytes.0) u in
    let size : length b ≡ p.bytes.0 = length-slice p.place (p.place + p.bytes.0) u lies ∙ omega arith in
    let copied : anys (b ++ []) 0 n 0 ≡ At (0 + p.bytes.0) = anys-copied u [] [] 0 0 n p.place p.bytes.0 (omega arith) h in
    ap (λ (x : List ℕ). anys x 0 n 0) (sym (append-nil b)) ∙ copied ∙ ap At (omega (arith, size))
