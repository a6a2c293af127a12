-- `line::write_number` meets its contract: one byte, two bytes, or as `write_unsigned` has it.
use Prim.Native.Nat.{ℕ, ◌+◌, ◌/◌, ◌%◌, ◌^◌, ◌≤◌, ◌<◌}
use mathlib.Core.Path.{◌≡◌, refl, ap, ◌∙◌}
use mathlib.Core.List.{List, [], ◌∷◌}
use native.Mathlib.Omega.{arith}
use native.Mathlib.Numerals.{add-one}
use lib.ListN.{length, length-set}
use Rattle.numbers.specs.Number.{unsigned}
use Rattle.numbers.proofs.Laws.{unsigned-last, unsigned-more}
use Rattle.tokens.proofs.line.write_number.Goals as goal

two : (v : ℕ) → v < 2 ^ 64 → 128 ≤ v → v < 16384 → unsigned v ≡ (v % 128 + 128) ∷ (v / 128) ∷ []
two v f m h = unsigned-more v f m ∙ ap (λ (l : List ℕ). (v % 128 + 128) ∷ l) (unsigned-last (v / 128) (omega arith))

fits_word : (v : ℕ) → v < 16384 → v < 2 ^ 64
fits_word v h = omega arith

pub bounds-out-at : goal.bounds-out-at
bounds-out-at c = omega (arith, ap length (unsigned-last c.args.v c.if-v-lt128.true))

pub returns-then-v-lt128 : goal.returns-then-v-lt128
returns-then-v-lt128 c = let e = unsigned-last c.args.v c.if-v-lt128.true in
    (omega (arith, ap length e), rw e refl)

pub bounds-out-at-then-v-lt16384 : goal.bounds-out-at-then-v-lt16384
bounds-out-at-then-v-lt16384 c = let v = c.args.v in
    omega (arith, ap length (two v (fits_word v c.if-v-lt16384.true) c.if-v-lt128.false c.if-v-lt16384.true))

pub bounds-out-next : goal.bounds-out-next
bounds-out-next c = let v = c.args.v in
    simp length-set (omega (arith, ap length (two v (fits_word v c.if-v-lt16384.true) c.if-v-lt128.false c.if-v-lt16384.true)))

pub returns-then-v-lt16384 : goal.returns-then-v-lt16384
returns-then-v-lt16384 c = let a = c.args in
    let e = two a.v (fits_word a.v c.if-v-lt16384.true) c.if-v-lt128.false c.if-v-lt16384.true in
    (omega (arith, ap length e), rw (e, add-one a.at) refl)
