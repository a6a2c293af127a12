-- `awaited::put_waiting` meets its contract: three words, one after the other.
use Prim.Native.Nat.{suc, ◌+◌}
use mathlib.Core.Path.{◌≡◌, refl}
use native.Mathlib.Numerals.{add-one}
use native.Mathlib.Omega.{arith}
use Rattle.slots.specs.Slots.{slot_at}
use Rattle.awaited.specs.Awaited.{waiting_words}
use Rattle.awaited.proofs.put_waiting.Goals as goal

pub returns : goal.returns
unfolding waiting_words slot_at
returns c = let a = c.args in
    let two : a.at + 2 ≡ suc (suc a.at) = omega arith in
    (refl, rw (c.put_word-3.ensures, c.put_word-2.ensures, c.put_word.ensures, c.from.ensures, two, add-one))
