-- Words put behind bits, one after the other: 64 bits behind r are a word, and the r lowest of them are begun then.
use Prim.Native.Nat.{ℕ, zero, suc, ◌+◌, ◌-◌, ◌*◌, ◌/◌, ◌%◌, ◌^◌, ◌≤◌, ◌<◌}
use mathlib.Core.Path.{◌≡◌, refl, sym, ap, ap₂, ◌∙◌, subst}
use mathlib.Core.Bool.{Bool}
use mathlib.Core.List.{List, [], ◌++◌, append-nil, append_assoc}
use native.Mathlib.Nat.{mod-lt, mul_assoc, mul-div_cancel, mul-div-mul_right, mul-mod_left, add-zero, zero-add, suc-add, mod-eq_of_lt, add_comm}
use native.Mathlib.Omega.{arith}
use lib.ListN.{length, take, drop, length-append, length-drop, take-append-drop}
use lib.Seq.{sets, drop_at, length-take-le, take_all}
use lib.Arith.{digits_lt}
use lib.Pow.{pow_pos, pow-add, mod-pow-add, high, low, shr_lt, shr-shr}
use Rattle.numbers.proofs.Output.{sets-append}
use Rattle.bits.specs.Bits.{in_bits, value_of, bytes}
use Rattle.bits.specs.Places.{top, highest, Starts, Adds}
use Rattle.bits.proofs.Laws.{number-add, number-front, length-in-bits, in-bits-number, bytes-add, bytes-front}
use Rattle.bits.proofs.Inverse.{bits_back}
use Rattle.bits.proofs.Places.{top-bytes, tail-is, word-is, highest-is, stores}

-- ---- bits of a number: the highest, then the others

pub in-bits-add : (j k x : ℕ) → in_bits (j + k) x ≡ in_bits j (x / 2 ^ k) ++ in_bits k x
unfolding in_bits
in-bits-add zero k x = rw zero-add
in-bits-add (suc j) k x =
    let e : x / 2 ^ (j + k) ≡ x / 2 ^ k / 2 ^ j = ap (λ (n : ℕ). x / 2 ^ n) (add_comm j k) ∙ sym (shr-shr x k j) in
    rw (suc-add, e, in-bits-add j k x)

number-lowest : (r a : ℕ) → value_of r (in_bits r a) ≡ a % 2 ^ r
number-lowest r a = ap (value_of r) (sym (append-nil (in_bits r a))) ∙ in-bits-number r a []

pub lowest-bits : (k x : ℕ) → in_bits k (x % 2 ^ k) ≡ in_bits k x
lowest-bits k x =
    ap (in_bits k) (sym (number-lowest k x)) ∙ bits_back k (in_bits k x) (omega (arith, length-in-bits k x)) ∙ take_all k (in_bits k x) (omega (arith, length-in-bits k x))

-- k bits are those of its lowest k
pub in-bits-same : (k x y : ℕ) → x % 2 ^ k ≡ y % 2 ^ k → in_bits k x ≡ in_bits k y
in-bits-same k x y e = sym (lowest-bits k x) ∙ ap (in_bits k) e ∙ lowest-bits k y

-- ---- shifted up by all but r bits

pub cut : (r v : ℕ) → r ≤ 64 → v * 2 ^ (64 - r) % 2 ^ 64 ≡ v % 2 ^ r * 2 ^ (64 - r)
cut r v h =
    let all : r + (64 - r) ≡ 64 = omega arith in
    ap (λ (j : ℕ). v * 2 ^ (64 - r) % 2 ^ j) (sym all) ∙ mod-pow-add (v * 2 ^ (64 - r)) r (64 - r)
    ∙ ap₂ (λ (i j : ℕ). i % 2 ^ r * 2 ^ (64 - r) + j) (mul-div_cancel v (pow_pos (64 - r))) (mul-mod_left v (2 ^ (64 - r))) ∙ add-zero (v % 2 ^ r * 2 ^ (64 - r))

-- j bits above k
pub pack : (j k x y : ℕ) → y < 2 ^ k → in_bits (j + k) (x % 2 ^ j * 2 ^ k + y) ≡ in_bits j x ++ in_bits k y
pack j k x y h =
    let all = x % 2 ^ j * 2 ^ k + y in
    in-bits-add j k all
    ∙ ap₂ (λ (a b : List Bool). a ++ b) (ap (in_bits j) (high (x % 2 ^ j) k h) ∙ lowest-bits j x) (in-bits-same k all y (low (x % 2 ^ j) k h ∙ sym (mod-eq_of_lt h)))

-- shifted up until j + k bits are left, and down until j are: all but the lowest k
pub slot : (j k v : ℕ) → j + k ≤ 64 → v * 2 ^ (64 - (j + k)) % 2 ^ 64 / 2 ^ (64 - j) ≡ v / 2 ^ k % 2 ^ j
slot j k v h =
    let p = 64 - (j + k) in
    let back : 64 - j ≡ k + p = omega arith in
    ap₂ (λ (a b : ℕ). a / b) (cut (j + k) v h) (ap (λ (n : ℕ). 2 ^ n) back ∙ pow-add 2 k p) ∙ mul-div-mul_right (v % 2 ^ (j + k)) (2 ^ k) (pow_pos p)
    ∙ ap (λ (n : ℕ). n / 2 ^ k) (mod-pow-add v j k) ∙ high (v / 2 ^ k % 2 ^ j) k (mod-lt v (pow_pos k))

-- of its lowest eight bits the lowest r
lowest : (r v : ℕ) → r ≤ 8 → v % 2 ^ 8 % 2 ^ r ≡ v % 2 ^ r
lowest r v h =
    let all : (8 - r) + r ≡ 8 = omega arith in
    ap (λ (j : ℕ). v % 2 ^ j % 2 ^ r) (sym all) ∙ ap (λ (j : ℕ). j % 2 ^ r) (mod-pow-add v (8 - r) r) ∙ low (v / 2 ^ r % 2 ^ (8 - r)) r (mod-lt v (pow_pos r))

pub head_of : (r v : ℕ) → r < 8 → (v * 2 ^ 56 % 2 ^ 64) * 2 ^ (8 - r) % 2 ^ 64 ≡ v % 2 ^ r * 2 ^ (64 - r)
head_of r v h =
    let all : 56 + (8 - r) ≡ 64 - r = omega arith in
    ap (λ (j : ℕ). j * 2 ^ (8 - r) % 2 ^ 64) (cut 8 v (omega arith))
    ∙ ap (λ (j : ℕ). j % 2 ^ 64) (mul_assoc (v % 2 ^ 8) (2 ^ 56) (2 ^ (8 - r)) ∙ ap (λ (j : ℕ). v % 2 ^ 8 * j) (sym (pow-add 2 56 (8 - r)) ∙ ap (λ (j : ℕ). 2 ^ j) all))
    ∙ cut r (v % 2 ^ 8) (omega arith) ∙ ap (λ (j : ℕ). j * 2 ^ (64 - r)) (lowest r v (omega arith))

pub behind-lt : (r v w : ℕ) → r < 8 → w < 2 ^ 64 → v % 2 ^ r * 2 ^ (64 - r) + w / 2 ^ r < 2 ^ 64
behind-lt r v w h l =
    let all : r + (64 - r) ≡ 64 = omega arith in
    let part : (64 - r) + r ≡ 64 = omega arith in
    let few : w / 2 ^ r < 2 ^ (64 - r) = shr_lt (64 - r) r (subst (λ (j : ℕ). w < 2 ^ j) (sym part) l) in
    subst (λ (n : ℕ). v % 2 ^ r * 2 ^ (64 - r) + w / 2 ^ r < n) (sym (pow-add 2 r (64 - r)) ∙ ap (λ (n : ℕ). 2 ^ n) all) (digits_lt (mod-lt v (pow_pos r)) few)

-- ---- 64 bits behind r

module _ (r : ℕ) (r8 : r < 8) (x : List Bool) (lx : length x ≡ r) (a : ℕ) (a64 : a < 2 ^ 64) (t : List Bool) where
  abbrev y : List Bool
  y = x ++ (in_bits 64 a ++ t)

  parts : y ≡ x ++ (in_bits (64 - r) (a / 2 ^ r) ++ (in_bits r a ++ t))
  parts =
      let all : 64 ≡ (64 - r) + r = omega arith in
      ap (λ (l : List Bool). x ++ (l ++ t)) (ap (λ (j : ℕ). in_bits j a) all ∙ in-bits-add (64 - r) r a)
      ∙ ap (λ (l : List Bool). x ++ l) (append_assoc (in_bits (64 - r) (a / 2 ^ r)) (in_bits r a) t)

  pub passes : value_of 64 y ≡ value_of r x * 2 ^ (64 - r) + a / 2 ^ r
  passes =
      let all : 64 ≡ r + (64 - r) = omega arith in
      let part : (64 - r) + r ≡ 64 = omega arith in
      let few : a / 2 ^ r < 2 ^ (64 - r) = shr_lt (64 - r) r (subst (λ (j : ℕ). a < 2 ^ j) (sym part) a64) in
      let z = in_bits (64 - r) (a / 2 ^ r) ++ (in_bits r a ++ t) in
      ap (value_of 64) parts ∙ ap (λ (j : ℕ). value_of j (x ++ z)) all ∙ number-add r (64 - r) (x ++ z)
      ∙ ap₂ (λ (i : ℕ) (l : List Bool). i * 2 ^ (64 - r) + value_of (64 - r) l) (number-front r x z (omega (arith, lx))) (drop_at x z r lx)
      ∙ ap (λ (j : ℕ). value_of r x * 2 ^ (64 - r) + j) (in-bits-number (64 - r) (a / 2 ^ r) (in_bits r a ++ t) ∙ mod-eq_of_lt few)

  pub passed : drop 64 y ≡ in_bits r a ++ t
  passed =
      let f = in_bits (64 - r) (a / 2 ^ r) in
      let lf : length (x ++ f) ≡ 64 = length-append x f ∙ omega (arith, lx, length-in-bits (64 - r) (a / 2 ^ r)) in
      ap (drop 64) (parts ∙ sym (append_assoc x f (in_bits r a ++ t))) ∙ drop_at (x ++ f) (in_bits r a ++ t) 64 lf

  pub long : 64 ≤ length y
  long = omega (arith, length-append x (in_bits 64 a ++ t), length-append (in_bits 64 a) t, length-in-bits 64 a)

-- the bytes of 64 bits
pub eight : (y : List Bool) → 64 ≤ length y → top 8 (value_of 64 y) ≡ bytes 8 y
eight y h =
    let f = take 64 y in
    let lf : length f ≡ 64 = length-take-le 64 y h in
    ap (top 8) (ap (value_of 64) (sym (take-append-drop 64 y)) ∙ number-front 64 f (drop 64 y) (omega (arith, lf)))
    ∙ top-bytes 8 f (omega (arith, lf)) ∙ sym (bytes-front 8 f (drop 64 y) (omega (arith, lf))) ∙ ap (bytes 8) (take-append-drop 64 y)

-- ---- two words and three bits

length-wide : (a b c : ℕ) → length (in_bits 64 a ++ (in_bits 64 b ++ in_bits 3 c)) ≡ 131
length-wide a b c = simp (length-append, length-in-bits)

pub length-top : (n w : ℕ) → length (top n w) ≡ n
unfolding top
length-top zero w = refl
length-top (suc n) w = ap suc (length-top n (w * 2 ^ 8 % 2 ^ 64))

module _ (s : List ℕ) (o a b c : ℕ) (a64 : a < 2 ^ 64) (b64 : b < 2 ^ 64) (room : o + 131 ≤ 8 * length s) (x y z : ℕ)
    (ex : x ≡ highest s (o / 8) (o % 8) * 2 ^ (64 - o % 8) + a / 2 ^ (o % 8))
    (ey : y ≡ a % 2 ^ (o % 8) * 2 ^ (64 - o % 8) + b / 2 ^ (o % 8))
    (ez : z ≡ b % 2 ^ (o % 8) * 2 ^ (64 - o % 8) + c * 2 ^ 61 % 2 ^ 64 / 2 ^ (o % 8)) where
  r8 : o % 8 < 8
  r8 = mod-lt o {m = 8} (omega arith)

  abbrev m : ℕ
  m = (o % 8 + 10) / 8

  abbrev vs : List ℕ
  vs = top 8 x ++ (top 8 y ++ top m z)

  second : top 8 y ≡ bytes 8 (in_bits (o % 8) a ++ (in_bits 64 b ++ in_bits 3 c))
  second =
      let f = in_bits (o % 8) a in
      let word : y ≡ value_of 64 (f ++ (in_bits 64 b ++ in_bits 3 c)) =
      ey ∙ ap (λ (j : ℕ). j * 2 ^ (64 - o % 8) + b / 2 ^ (o % 8)) (sym (number-lowest (o % 8) a)) ∙ sym (passes (o % 8) r8 f (length-in-bits (o % 8) a) b b64 (in_bits 3 c)) in
      ap (top 8) word ∙ eight (f ++ (in_bits 64 b ++ in_bits 3 c)) (long (o % 8) r8 f (length-in-bits (o % 8) a) b b64 (in_bits 3 c))

  third : top m z ≡ bytes m (in_bits (o % 8) b ++ in_bits 3 c)
  third =
      let r = o % 8 in
      let f = in_bits r b in
      let p : 64 - r ≡ 3 + (64 - (r + 3)) = omega (arith, r8) in
      let word : z ≡ value_of 64 (f ++ in_bits 3 c) =
      ez ∙ ap₂ (λ (i j : ℕ). i + j) (ap₂ (λ (i j : ℕ). i * 2 ^ j) (sym (number-lowest r b)) p) (tail-is r 3 r8 (omega arith) c)
      ∙ word-is r 3 r8 (omega arith) c f (length-in-bits r b) in
      ap (top m) word ∙ top-bytes m (f ++ in_bits 3 c) (omega (arith, r8, length-append f (in_bits 3 c), length-in-bits r b, length-in-bits 3 c))

  are : (bs : List Bool) → length bs ≡ o → Starts bs s → vs ≡ bytes ((o % 8 + 131 + 7) / 8) (drop (8 * (o / 8)) bs ++ (in_bits 64 a ++ (in_bits 64 b ++ in_bits 3 c)))
  are bs e h =
      let r = o % 8 in
      let f = drop (8 * (o / 8)) bs in
      let lf : length f ≡ r = length-drop (8 * (o / 8)) bs ∙ omega (arith, e) in
      let t = in_bits 64 b ++ in_bits 3 c in
      let all = f ++ (in_bits 64 a ++ t) in
      let word : x ≡ value_of 64 all = ex ∙ ap (λ (j : ℕ). j * 2 ^ (64 - r) + a / 2 ^ r) (highest-is s o bs e h) ∙ sym (passes r r8 f lf a a64 t) in
      let first : top 8 x ≡ bytes 8 all = ap (top 8) word ∙ eight all (long r r8 f lf a a64 t) in
      let count : (r + 131 + 7) / 8 ≡ 8 + (8 + m) = omega arith in
      let behind : bytes (8 + m) (drop 64 all) ≡ bytes 8 (in_bits r a ++ t) ++ bytes m (in_bits r b ++ in_bits 3 c) =
      ap (bytes (8 + m)) (passed r r8 f lf a a64 t) ∙ bytes-add 8 m (in_bits r a ++ t)
      ∙ ap (λ (l : List Bool). bytes 8 (in_bits r a ++ t) ++ bytes m l) (passed r r8 (in_bits r a) (length-in-bits r a) b b64 (in_bits 3 c)) in
      sym (ap (λ (n : ℕ). bytes n all) count ∙ bytes-add 8 (8 + m) all
      ∙ ap₂ (λ (i j : List ℕ). i ++ j) (sym first) (behind ∙ ap₂ (λ (i j : List ℕ). i ++ j) (sym second) (sym third)))

  pub puts-wide : Adds o (in_bits 64 a ++ (in_bits 64 b ++ in_bits 3 c)) s (sets (sets (sets s (o / 8) (top 8 x)) (o / 8 + 8) (top 8 y)) (o / 8 + 16) (top m z))
  puts-wide =
      let q = o / 8 in
      let far : q + 8 + length (top 8 y) ≡ q + 16 = omega (arith, length-top 8 y) in
      let apart : sets s q vs ≡ sets (sets (sets s q (top 8 x)) (q + 8) (top 8 y)) (q + 16) (top m z) =
      sets-append (top 8 x) (top 8 y ++ top m z) s q ∙ ap (λ (j : ℕ). sets (sets s q (top 8 x)) (q + j) (top 8 y ++ top m z)) (length-top 8 x)
      ∙ sets-append (top 8 y) (top m z) (sets s q (top 8 x)) (q + 8) ∙ ap (λ (j : ℕ). sets (sets (sets s q (top 8 x)) (q + 8) (top 8 y)) j (top m z)) far in
      subst (λ (l : List ℕ). Adds o (in_bits 64 a ++ (in_bits 64 b ++ in_bits 3 c)) s l) apart
      (stores s o 131 (in_bits 64 a ++ (in_bits 64 b ++ in_bits 3 c)) (length-wide a b c) room vs are)
