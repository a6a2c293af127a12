-- Bits and numbers, bits and bytes: what is made of one is one again.
use Prim.Native.Nat.{ℕ, zero, suc, ◌+◌, ◌-◌, ◌*◌, ◌/◌, ◌%◌, ◌^◌, ◌≤◌, ◌<◌}
use mathlib.Core.Path.{◌≡◌, refl, sym, ap, ap₂, ◌∙◌}
use mathlib.Core.Bool.{Bool, true, false, ◌&&◌}
use mathlib.Core.List.{List, [], ◌∷◌, ◌++◌}
use native.Mathlib.Nat.{mod-eq_of_lt, zero-add, mul_assoc, pow-suc, pow-succ', mul-add-div_right, mul-add-mod_self_right, div-eq_of_lt}
use native.Mathlib.Omega.{arith}
use lib.Dec.{eqb, ltb}
use lib.ListN.{length, take, drop, replicate, length-append, length-drop, length-replicate, take-append-drop}
use lib.Seq.{drop_at}
use lib.Pow.{pow_pos, high, are_bytes}
use borrow.Author.Tests.{ltb-true}
use Rattle.numbers.specs.Number.{pick}
use Rattle.bits.specs.Bits.{in_bits, value_of, of_bytes, bytes, packed}
use Rattle.bits.proofs.Laws.{number_lt, length-in-bits, in-bits-number, length-of-bytes, length-bytes}

-- ---- numbers

-- a number of so many bits, written and read, whatever follows
pub number-back : (k x : ℕ) (t : List Bool) → x < 2 ^ k → value_of k (in_bits k x ++ t) ≡ x
number-back k x t h = in-bits-number k x t ∙ mod-eq_of_lt h

-- what stands above k bits is not written
in-bits-above : (k a x : ℕ) → in_bits k (a * 2 ^ k + x) ≡ in_bits k x
unfolding in_bits
in-bits-above zero a x = refl
in-bits-above (suc k) a x =
    let e : a * 2 ^ suc k + x ≡ (a * 2) * 2 ^ k + x = omega (arith, pow-suc 2 k, ap (λ (n : ℕ). a * n) (pow-succ' 2 k), mul_assoc a 2 (2 ^ k)) in
    let bit : ((a * 2) * 2 ^ k + x) / 2 ^ k % 2 ≡ x / 2 ^ k % 2 = ap (λ (n : ℕ). n % 2) (mul-add-div_right (pow_pos k) (a * 2) x) ∙ mul-add-mod_self_right a 2 (x / 2 ^ k) in
    ap (λ (n : ℕ). eqb (n / 2 ^ k % 2) 1 ∷ in_bits k n) e ∙ ap₂ (λ (n : ℕ) (l : List Bool). eqb n 1 ∷ l) bit (in-bits-above k (a * 2) x)

-- bits, read as a number and written again
pub bits_back : (k : ℕ) (b : List Bool) → k ≤ length b → in_bits k (value_of k b) ≡ take k b
unfolding value_of in_bits
bits_back zero b h = refl
bits_back (suc k) [] h = absurd (omega (arith, h))
bits_back (suc k) (true ∷ b) h =
    let e : 2 ^ k + value_of k b ≡ 1 * 2 ^ k + value_of k b = omega arith in
    ap (λ (n : ℕ). eqb (n / 2 ^ k % 2) 1 ∷ in_bits k n) e
    ∙ ap₂ (λ (n : ℕ) (l : List Bool). eqb (n % 2) 1 ∷ l) (high 1 k (number_lt k b)) (in-bits-above k 1 (value_of k b) ∙ bits_back k b (omega arith))
bits_back (suc k) (false ∷ b) h =
    ap (λ (n : ℕ). eqb (n / 2 ^ k % 2) 1 ∷ in_bits k n) (zero-add (value_of k b))
    ∙ ap₂ (λ (n : ℕ) (l : List Bool). eqb (n % 2) 1 ∷ l) (div-eq_of_lt (number_lt k b)) (bits_back k b (omega arith))

-- ---- zeros behind bits

drop-replicate : (k m : ℕ) → drop k (replicate m false) ≡ replicate (m - k) false
drop-replicate zero m = ap (λ (n : ℕ). replicate n false) (let e : m ≡ m - 0 = omega arith in e)
drop-replicate (suc k) zero = ap (λ (n : ℕ). replicate n false) (let e : 0 ≡ 0 - suc k = omega arith in e)
drop-replicate (suc k) (suc m) = drop-replicate k m ∙ ap (λ (n : ℕ). replicate n false) (let e : m - k ≡ suc m - suc k = omega arith in e)

drop-zeros : (k m : ℕ) (b : List Bool) → drop k (b ++ replicate m false) ≡ drop k b ++ replicate (m - (k - length b)) false
drop-zeros zero m b = ap (λ (n : ℕ). b ++ replicate n false) (let e : m ≡ m - (0 - length b) = omega arith in e)
drop-zeros (suc k) m [] = drop-replicate (suc k) m ∙ ap (λ (n : ℕ). replicate (m - n) false) (let e : suc k ≡ suc k - 0 = omega arith in e)
drop-zeros (suc k) m (x ∷ b) = drop-zeros k m b ∙ ap (λ (n : ℕ). drop k b ++ replicate (m - n) false) (let e : k - length b ≡ suc k - suc (length b) = omega arith in e)

number-replicate : (k m : ℕ) → value_of k (replicate m false) ≡ 0
unfolding value_of
number-replicate zero m = refl
number-replicate (suc k) zero = refl
number-replicate (suc k) (suc m) = zero-add (value_of k (replicate m false)) ∙ number-replicate k m

pub number-zeros : (k m : ℕ) (b : List Bool) → value_of k (b ++ replicate m false) ≡ value_of k b
unfolding value_of
number-zeros zero m b = refl
number-zeros (suc k) m [] = number-replicate (suc k) m
number-zeros (suc k) m (x ∷ b) = ap (λ (n : ℕ). pick x (2 ^ k) 0 + n) (number-zeros k m b)

bytes-zeros : (n m : ℕ) (b : List Bool) → bytes n (b ++ replicate m false) ≡ bytes n b
unfolding bytes
bytes-zeros zero m b = refl
bytes-zeros (suc n) m b = ap₂ (λ (x : ℕ) (l : List ℕ). x ∷ l) (number-zeros 8 m b) (ap (bytes n) (drop-zeros 8 m b) ∙ bytes-zeros n (m - (8 - length b)) (drop 8 b))

-- bits that spell 0 are zeros
pub zeros-are : (b : List Bool) → value_of (length b) b ≡ 0 → b ≡ replicate (length b) false
unfolding value_of
zeros-are [] e = refl
zeros-are (true ∷ b) e = absurd (omega (arith, e, pow_pos (length b)))
zeros-are (false ∷ b) e = ap (λ (l : List Bool). false ∷ l) (zeros-are b (omega (arith, e)))

-- ---- bytes

both : (x y : Bool) → x && y ≡ true → (x ≡ true) × (y ≡ true)
both true y h = (refl, h)
both false y h = absurd (let z : ◌≡◌ {A = ℕ} 0 1 = cc in omega arith)

-- bytes, read as bits and written again
pub bytes_back : (s : List ℕ) → are_bytes s ≡ true → bytes (length s) (of_bytes s) ≡ s
unfolding bytes of_bytes
bytes_back [] h = refl
bytes_back (x ∷ s) h =
    let e = both (ltb x 256) (are_bytes s) h in
    ap₂ (λ (n : ℕ) (l : List ℕ). n ∷ l) (number-back 8 x (of_bytes s) (ltb-true x 256 e.0))
    (ap (bytes (length s)) (drop_at (in_bits 8 x) (of_bytes s) 8 (length-in-bits 8 x)) ∙ bytes_back s e.1)

-- so many bytes of as many bits
pub whole_back : (n : ℕ) (b : List Bool) → length b ≡ 8 * n → of_bytes (bytes n b) ≡ b
unfolding bytes of_bytes
whole_back zero [] e = refl
whole_back zero (x ∷ b) e = absurd (omega (arith, e))
whole_back (suc n) b e =
    ap₂ (λ (f g : List Bool). f ++ g) (bits_back 8 b (omega (arith, e))) (whole_back n (drop 8 b) (length-drop 8 b ∙ omega (arith, e))) ∙ take-append-drop 8 b

-- bits, packed and read again: zeros follow, fewer than eight
abbrev pub filling : List Bool → List Bool
filling b = replicate (8 * ((length b + 7) / 8) - length b) false

pub packed-back : (b : List Bool) → of_bytes (packed b) ≡ b ++ filling b
unfolding packed
packed-back b =
    let n = (length b + 7) / 8 in
    let all : length (b ++ filling b) ≡ 8 * n = length-append b (filling b) ∙ rw length-replicate (omega arith) in
    ap of_bytes (sym (bytes-zeros n (8 * n - length b) b)) ∙ whole_back n (b ++ filling b) all

pub filling-short : (b : List Bool) → length (filling b) < 8
filling-short b = rw length-replicate (omega arith)

pub length-packed : (b : List Bool) → length (packed b) ≡ (length b + 7) / 8
unfolding packed
length-packed b = length-bytes ((length b + 7) / 8) b

-- bytes whose bits are these, and fewer than eight zeros, are these packed
pub packed-of : (s : List ℕ) (b : List Bool) (m : ℕ) → are_bytes s ≡ true → m < 8 → of_bytes s ≡ b ++ replicate m false → s ≡ packed b
unfolding packed
packed-of s b m h l e =
    let size : 8 * length s ≡ length b + m = sym (length-of-bytes s) ∙ ap length e ∙ length-append b (replicate m false) ∙ rw length-replicate in
    let count : length s ≡ (length b + 7) / 8 = omega arith in
    sym (bytes_back s h) ∙ ap (bytes (length s)) e ∙ bytes-zeros (length s) m b ∙ ap (λ (n : ℕ). bytes n b) count
