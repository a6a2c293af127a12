-- A word's bytes as the library has them, highest first, are those of its bits.
use Prim.Native.Nat.{ℕ, zero, suc, ◌+◌, ◌*◌, ◌^◌, ◌≤◌, ◌<◌}
use mathlib.Core.Path.{◌≡◌, refl, sym, ap, ◌∙◌}
use mathlib.Core.Bool.{Bool}
use mathlib.Core.List.{List, [], append-nil}
use native.Mathlib.Nat.{zero-add, mod-eq_of_lt}
use native.Mathlib.Omega.{arith}
use lib.ListN.{length, take, drop, get_or}
use lib.Seq.{get_or-take, take_all}
use Rattle.std.specs.Int.{w64, to_be_bytes, from_be_bytes}
use Rattle.std.proofs.lemmas.Nat.{be_bytes_8}
use Rattle.bits.specs.Bits.{in_bits, value_of, of_bytes, bytes}
use Rattle.bits.specs.Places.{top}
use Rattle.bits.proofs.Laws.{number_lt, length-in-bits, in-bits-number, length-bytes}
use Rattle.bits.proofs.Inverse.{whole_back}
use Rattle.bits.proofs.Places.{one_more, top-bytes}

-- eight bytes, whatever follows
pub from-eight : (t : List ℕ) → 8 ≤ length t → ((i : ℕ) → get_or t i 0 < 256) → from_be_bytes w64 (take 8 t) ≡ value_of 64 (of_bytes t)
unfolding value_of
from-eight t long small =
    let n = value_of 64 (of_bytes t) in
    let b = λ (i : ℕ). get_or (take 8 t) i 0 in
    let is : (i : ℕ) → i < 8 → get_or (take 8 t) i 0 ≡ get_or t i 0 = λ i h. get_or-take 8 t i 0 h in
    let e0 = one_more t 0 1 0 (b 0) 56 n (omega arith) (is 0 (omega arith)) (rw (is 0 (omega arith)) (small 0)) refl (zero-add n) in
    let w1 = 0 * 256 + b 0 in
    let e1 = one_more t 1 2 w1 (b 1) 48 n (omega arith) (is 1 (omega arith)) (rw (is 1 (omega arith)) (small 1)) refl e0 in
    let w2 = w1 * 256 + b 1 in
    let e2 = one_more t 2 3 w2 (b 2) 40 n (omega arith) (is 2 (omega arith)) (rw (is 2 (omega arith)) (small 2)) refl e1 in
    let w3 = w2 * 256 + b 2 in
    let e3 = one_more t 3 4 w3 (b 3) 32 n (omega arith) (is 3 (omega arith)) (rw (is 3 (omega arith)) (small 3)) refl e2 in
    let w4 = w3 * 256 + b 3 in
    let e4 = one_more t 4 5 w4 (b 4) 24 n (omega arith) (is 4 (omega arith)) (rw (is 4 (omega arith)) (small 4)) refl e3 in
    let w5 = w4 * 256 + b 4 in
    let e5 = one_more t 5 6 w5 (b 5) 16 n (omega arith) (is 5 (omega arith)) (rw (is 5 (omega arith)) (small 5)) refl e4 in
    let w6 = w5 * 256 + b 5 in
    let e6 = one_more t 6 7 w6 (b 6) 8 n (omega arith) (is 6 (omega arith)) (rw (is 6 (omega arith)) (small 6)) refl e5 in
    let w7 = w6 * 256 + b 6 in
    let e7 = one_more t 7 8 w7 (b 7) 0 n (omega arith) (is 7 (omega arith)) (rw (is 7 (omega arith)) (small 7)) refl e6 in
    omega (arith, e7)

bytes-small : (n : ℕ) (b : List Bool) (i : ℕ) → get_or (bytes n b) i 0 < 256
unfolding bytes
bytes-small zero b i = omega arith
bytes-small (suc n) b zero = number_lt 8 b
bytes-small (suc n) b (suc i) = bytes-small n (drop 8 b) i

pub to-eight : (w : ℕ) → w < 2 ^ 64 → to_be_bytes w64 w ≡ top 8 w
to-eight w h =
    let b = in_bits 64 w in
    let size = length-in-bits 64 w in
    let number : value_of 64 b ≡ w = ap (value_of 64) (sym (append-nil b)) ∙ in-bits-number 64 w [] ∙ mod-eq_of_lt h in
    let tops : top 8 w ≡ bytes 8 b = ap (top 8) (sym number) ∙ top-bytes 8 b (omega (arith, size)) in
    let whole : from_be_bytes w64 (bytes 8 b) ≡ w =
    ap (from_be_bytes w64) (sym (take_all 8 (bytes 8 b) (omega (arith, length-bytes 8 b)))) ∙ from-eight (bytes 8 b) (omega (arith, length-bytes 8 b)) (bytes-small 8 b) ∙ ap (value_of 64) (whole_back 8 b size) ∙ number in
    be_bytes_8 (bytes 8 b) w (length-bytes 8 b) (bytes-small 8 b) (sym whole) ∙ sym tops
