-- Laws of bits: a number of bits is that of its first bits, then of the rest; bits and numbers, bits and bytes are each other's inverse.
use Prim.Native.Nat.{ℕ, zero, suc, ◌+◌, ◌*◌, ◌/◌, ◌%◌, ◌^◌, ◌≤◌, ◌<◌}
use mathlib.Core.Path.{◌≡◌, refl, sym, ap, ◌∙◌}
use mathlib.Core.Bool.{Bool, true, false}
use mathlib.Core.List.{List, [], ◌∷◌, ◌++◌}
use native.Mathlib.Nat.{mod-lt, mod-eq_of_lt, add-mul, zero-add, suc-add, pow-suc}
use native.Mathlib.Numerals.{one-add}
use native.Mathlib.Omega.{arith}
use lib.Dec.{eqb}
use lib.ListN.{length, take, drop, get_or, length-append, length-drop}
use lib.Seq.{drop-append_seam, drop-append-le, drop-append-add, drop-drop, drop-nil}
use lib.Pow.{pow_pos, pow-add, mod-pow-add}
use Rattle.numbers.specs.Number.{pick}
use Rattle.bits.specs.Bits.{in_bits, value_of, of_bytes, bytes}

-- ---- the number of bits

pub number-none : (k : ℕ) → value_of k [] ≡ 0
unfolding value_of
number-none zero = refl
number-none (suc k) = refl

pub number_lt : (k : ℕ) (b : List Bool) → value_of k b < 2 ^ k
unfolding value_of
number_lt zero b = pow_pos 0
number_lt (suc k) [] = pow_pos (suc k)
number_lt (suc k) (true ∷ b) = omega (arith, number_lt k b, pow-suc 2 k)
number_lt (suc k) (false ∷ b) = omega (arith, number_lt k b, pow-suc 2 k)

pub number-add : (j k : ℕ) (b : List Bool) → value_of (j + k) b ≡ value_of j b * 2 ^ k + value_of k (drop j b)
unfolding value_of
number-add zero k b = rw zero-add (omega arith)
number-add (suc j) k [] = rw (suc-add, number-none k) (omega arith)
number-add (suc j) k (true ∷ b) = rw suc-add (omega (arith, number-add j k b, pow-add 2 j k, add-mul (2 ^ j) (value_of j b) (2 ^ k)))
number-add (suc j) k (false ∷ b) = rw suc-add (omega (arith, number-add j k b, add-mul 0 (value_of j b) (2 ^ k)))

pub number-front : (k : ℕ) (b c : List Bool) → k ≤ length b → value_of k (b ++ c) ≡ value_of k b
unfolding value_of
number-front zero b c h = refl
number-front (suc k) [] c h = absurd (omega (arith, h))
number-front (suc k) (x ∷ b) c h = ap (λ (n : ℕ). pick x (2 ^ k) 0 + n) (number-front k b c (omega arith))

pub length-in-bits : (k x : ℕ) → length (in_bits k x) ≡ k
unfolding in_bits
length-in-bits zero x = refl
length-in-bits (suc k) x = ap suc (length-in-bits k x)

-- a digit of two
digit : (d n : ℕ) → d < 2 → pick (eqb d 1) n 0 ≡ d * n
digit zero n h = omega arith
digit (suc zero) n h = omega arith
digit (suc (suc d)) n h = absurd (omega arith)

pub in-bits-number : (k x : ℕ) (t : List Bool) → value_of k (in_bits k x ++ t) ≡ x % 2 ^ k
unfolding value_of in_bits
in-bits-number zero x t = omega arith
in-bits-number (suc k) x t =
    let e : x % 2 ^ suc k ≡ (x / 2 ^ k % 2) * 2 ^ k + x % 2 ^ k = ap (λ (n : ℕ). x % 2 ^ n) (sym (one-add k)) ∙ mod-pow-add x 1 k in
    rw (in-bits-number k x t, digit (x / 2 ^ k % 2) (2 ^ k) (mod-lt (x / 2 ^ k) {m = 2} (omega arith))) (sym e)

-- ---- the bits of bytes

pub length-of-bytes : (s : List ℕ) → length (of_bytes s) ≡ 8 * length s
unfolding of_bytes
length-of-bytes [] = refl
length-of-bytes (b ∷ s) = length-append (in_bits 8 b) (of_bytes s) ∙ rw (length-in-bits 8 b, length-of-bytes s) (omega arith)

pub of-bytes-drop : (n : ℕ) (s : List ℕ) → drop (8 * n) (of_bytes s) ≡ of_bytes (drop n s)
unfolding of_bytes
of-bytes-drop zero s = refl
of-bytes-drop (suc n) [] = drop-nil (8 * suc n)
of-bytes-drop (suc n) (b ∷ s) =
    let e : 8 * suc n ≡ length (in_bits 8 b) + 8 * n = rw (length-in-bits 8 b) (omega arith) in
    rw e (drop-append-add (in_bits 8 b) (of_bytes s) (8 * n) ∙ of-bytes-drop n s)

-- a byte, and m bits behind it
pub number-byte : (m b : ℕ) (t : List Bool) → b < 256 → value_of (8 + m) (in_bits 8 b ++ t) ≡ b * 2 ^ m + value_of m t
number-byte m b t h =
    number-add 8 m (in_bits 8 b ++ t)
    ∙ rw (in-bits-number 8 b t, mod-eq_of_lt {n = b} {m = 2 ^ 8} h, drop-eight)
  where
    drop-eight : drop 8 (in_bits 8 b ++ t) ≡ t
    drop-eight = ap (λ (n : ℕ). drop n (in_bits 8 b ++ t)) (sym (length-in-bits 8 b)) ∙ drop-append_seam (in_bits 8 b) t

-- ---- bytes of bits

pub length-bytes : (n : ℕ) (b : List Bool) → length (bytes n b) ≡ n
unfolding bytes
length-bytes zero b = refl
length-bytes (suc n) b = ap suc (length-bytes n (drop 8 b))

pub bytes-add : (q m : ℕ) (b : List Bool) → bytes (q + m) b ≡ bytes q b ++ bytes m (drop (8 * q) b)
unfolding bytes
bytes-add zero m b = rw zero-add
bytes-add (suc q) m b =
    let e : 8 * suc q ≡ 8 + 8 * q = omega arith in
    rw (suc-add, e, ← drop-drop (8 * q) 8 b, bytes-add q m (drop 8 b))

pub bytes-front : (q : ℕ) (b c : List Bool) → 8 * q ≤ length b → bytes q (b ++ c) ≡ bytes q b
unfolding bytes
bytes-front zero b c h = refl
bytes-front (suc q) b c h =
    rw (number-front 8 b c (omega arith), drop-append-le 8 b c (omega arith))
    (ap (λ (l : List ℕ). value_of 8 b ∷ l) (bytes-front q (drop 8 b) c (simp length-drop (omega arith))))

pub bytes_take : (q n : ℕ) (b : List Bool) → q ≤ n → take q (bytes n b) ≡ bytes q b
unfolding bytes
bytes_take zero n b h = refl
bytes_take (suc q) zero b h = absurd (omega (arith, h))
bytes_take (suc q) (suc n) b h = ap (λ (l : List ℕ). value_of 8 b ∷ l) (bytes_take q n (drop 8 b) (omega arith))

pub bytes-at : (q n : ℕ) (b : List Bool) → q < n → get_or (bytes n b) q 0 ≡ value_of 8 (drop (8 * q) b)
unfolding bytes
bytes-at q zero b h = absurd (omega (arith, h))
bytes-at zero (suc n) b h = refl
bytes-at (suc q) (suc n) b h =
    let e : 8 * suc q ≡ 8 + 8 * q = omega arith in
    bytes-at q n (drop 8 b) (omega arith) ∙ rw (e, ← drop-drop (8 * q) 8 b)
