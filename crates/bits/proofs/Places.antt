-- What is put behind bits, and what is taken from a bit on: each word of the code is the number of 64 bits.
use Prim.Native.Nat.{ℕ, zero, suc, ◌+◌, ◌-◌, ◌*◌, ◌/◌, ◌%◌, ◌^◌, ◌≤◌, ◌<◌}
use mathlib.Core.Path.{◌≡◌, refl, sym, ap, ap₂, ◌∙◌, subst}
use mathlib.Core.Bool.{Bool}
use mathlib.Core.List.{List, [], ◌∷◌, ◌++◌, append-nil, append_assoc}
use native.Mathlib.Nat.{mod-lt, add-mul, mul_assoc, mul-le-mul_left, mul-div_cancel, mul-div-mul_right, mul-mod_left, add-zero}
use native.Mathlib.Omega.{arith}
use native.Mathlib.Numerals.{add-one}
use lib.ListN.{length, take, drop, get_or, length-append, length-drop, drop_of_length-le}
use lib.Seq.{sets, drop-cons, drop_at, drop-append-le, drop-drop, length-sets, get_or-take, take-take}
use lib.Arith.{digits_lt}
use lib.Pow.{pow_pos, pow-add, mod-pow-add, high, low, shl_lt, shl_exact}
use borrow.Author.Tests.{ne_eqb}
use Rattle.numbers.proofs.Output.{take-sets}
use Rattle.bits.specs.Bits.{in_bits, value_of, of_bytes, bytes, packed}
use Rattle.bits.specs.Places.{top, highest, Starts, Adds}
use Rattle.bits.proofs.Laws.{number-none, number_lt, number-add, number-front, length-in-bits, in-bits-number, of-bytes-drop, number-byte, length-bytes, bytes-add, bytes-front, bytes_take, bytes-at}

-- ---- bytes as one number

-- a byte more
pub one_more : (s : List ℕ) (i j w b m n : ℕ) → i < length s → b ≡ get_or s i 0 → b < 256 → j ≡ i + 1 → w * 2 ^ (8 + m) + value_of (8 + m) (of_bytes (drop i s)) ≡ n
    → (w * 256 + b) * 2 ^ m + value_of m (of_bytes (drop j s)) ≡ n
unfolding of_bytes
one_more s i j w b m n h eb lb ej e =
    let f = rw (drop-cons s i 0 h, ← eb, number-byte m b (of_bytes (drop (suc i) s)) lb, pow-add 2 8 m) at e in
    rw (ej, add-one) (omega (arith, f, add-mul (w * 256) b (2 ^ m), mul_assoc w 256 (2 ^ m)))

pub of_none : (m : ℕ) → value_of m (of_bytes []) ≡ 0
unfolding of_bytes
of_none m = number-none m

pub at_most : (w m : ℕ) → w ≤ w * 2 ^ m
at_most w m = omega (arith, mul-le-mul_left w (pow_pos m))

-- ---- k bits from bit r on

module _ (x : List Bool) (r k : ℕ) (h : r + k ≤ 64) where
  pub taken : value_of 64 x * 2 ^ r % 2 ^ 64 / 2 ^ (64 - k) ≡ value_of k (drop r x)
  taken =
      let p = 64 - (r + k) in
      let n = value_of (k + p) (drop r x) in
      let a = value_of r x in
      let whole : value_of 64 x ≡ a * 2 ^ (k + p) + n = ap (λ (j : ℕ). value_of j x) (let e : 64 ≡ r + (k + p) = omega arith in e) ∙ number-add r (k + p) x in
      let all : (k + p) + r ≡ 64 = omega arith in
      let shifted : value_of 64 x * 2 ^ r ≡ a * 2 ^ 64 + n * 2 ^ r =
      ap (λ (j : ℕ). j * 2 ^ r) whole ∙ add-mul (a * 2 ^ (k + p)) n (2 ^ r)
      ∙ ap (λ (j : ℕ). j + n * 2 ^ r) (mul_assoc a (2 ^ (k + p)) (2 ^ r) ∙ ap (λ (j : ℕ). a * j) (sym (pow-add 2 (k + p) r) ∙ ap (λ (j : ℕ). 2 ^ j) all)) in
      let small : n * 2 ^ r < 2 ^ 64 = subst (λ (j : ℕ). n * 2 ^ r < 2 ^ j) all (shl_lt (k + p) r (number_lt (k + p) (drop r x))) in
      let back : 64 - k ≡ p + r = omega arith in
      ap₂ (λ (i j : ℕ). i / j) (ap (λ (j : ℕ). j % 2 ^ 64) shifted ∙ low a 64 small) (ap (λ (j : ℕ). 2 ^ j) back ∙ pow-add 2 p r)
      ∙ mul-div-mul_right n (2 ^ p) (pow_pos r)
      ∙ ap (λ (j : ℕ). j / 2 ^ p) (number-add k p (drop r x)) ∙ high (value_of k (drop r x)) p (number_lt p (drop k (drop r x)))

-- from bit o on: r bits behind byte q
pub taken-from : (s : List ℕ) (o : ℕ) → drop (o % 8) (of_bytes (drop (o / 8) s)) ≡ drop o (of_bytes s)
taken-from s o = rw (← of-bytes-drop (o / 8) s, drop-drop (o % 8) (8 * (o / 8)) (of_bytes s)) (ap (λ (n : ℕ). drop n (of_bytes s)) (let e : 8 * (o / 8) + o % 8 ≡ o = omega arith in e))

-- ---- bytes of a word

pub top-more : (n w : ℕ) → 0 < n → top n w ≡ w / 2 ^ 56 ∷ top (n - 1) (w * 2 ^ 8 % 2 ^ 64)
unfolding top
top-more zero w h = absurd (omega (arith, h))
top-more (suc n) w h = ap (λ (m : ℕ). w / 2 ^ 56 ∷ top m (w * 2 ^ 8 % 2 ^ 64)) (let e : n ≡ suc n - 1 = omega arith in e)

pub top-none : (n w : ℕ) → n ≤ 0 → top n w ≡ []
unfolding top
top-none zero w h = refl
top-none (suc n) w h = absurd (omega (arith, h))

pub top-bytes : (n : ℕ) (b : List Bool) → length b ≤ 64 → top n (value_of 64 b) ≡ bytes n b
unfolding top bytes
top-bytes zero b h = refl
top-bytes (suc n) b h =
    let low₅₆ = number_lt 56 (drop 8 b) in
    let whole : value_of 64 b ≡ value_of 8 b * 2 ^ 56 + value_of 56 (drop 8 b) = number-add 8 56 b in
    let rest : value_of 64 (drop 8 b) ≡ value_of 56 (drop 8 b) * 2 ^ 8 =
    number-add 56 8 (drop 8 b) ∙ ap (λ (j : ℕ). value_of 56 (drop 8 b) * 2 ^ 8 + j) (ap (value_of 8) (drop_of_length-le (drop 8 b) {i = 56} (simp length-drop (omega arith))) ∙ number-none 8) ∙ add-zero (value_of 56 (drop 8 b) * 2 ^ 8) in
    let shifted : value_of 64 b * 2 ^ 8 ≡ value_of 8 b * 2 ^ 64 + value_of 64 (drop 8 b) = omega (arith, whole, rest) in
    let first : value_of 64 b / 2 ^ 56 ≡ value_of 8 b = ap (λ (j : ℕ). j / 2 ^ 56) whole ∙ high (value_of 8 b) 56 low₅₆ in
    let next : value_of 64 b * 2 ^ 8 % 2 ^ 64 ≡ value_of 64 (drop 8 b) = ap (λ (j : ℕ). j % 2 ^ 64) shifted ∙ low (value_of 8 b) 64 (number_lt 64 (drop 8 b)) in
    rw (first, next, top-bytes n (drop 8 b) (simp length-drop (omega arith)))

-- ---- v in k bits behind r bits: the word

module _ (r k : ℕ) (r8 : r < 8) (k57 : k ≤ 57) where
  pub tail-is : (v : ℕ) → v * 2 ^ (64 - k) % 2 ^ 64 / 2 ^ r ≡ v % 2 ^ k * 2 ^ (64 - (r + k))
  tail-is v =
      let p = 64 - (r + k) in
      let all : k + (64 - k) ≡ 64 = omega arith in
      let back : 64 - k ≡ p + r = omega arith in
      let cut : v * 2 ^ (64 - k) % 2 ^ 64 ≡ v % 2 ^ k * 2 ^ (64 - k) =
      ap (λ (j : ℕ). v * 2 ^ (64 - k) % 2 ^ j) (sym all) ∙ mod-pow-add (v * 2 ^ (64 - k)) k (64 - k)
      ∙ ap₂ (λ (i j : ℕ). i % 2 ^ k * 2 ^ (64 - k) + j) (mul-div_cancel v (pow_pos (64 - k))) (mul-mod_left v (2 ^ (64 - k))) ∙ add-zero (v % 2 ^ k * 2 ^ (64 - k)) in
      ap (λ (j : ℕ). j / 2 ^ r) (cut ∙ ap (λ (j : ℕ). v % 2 ^ k * j) (ap (λ (j : ℕ). 2 ^ j) back ∙ pow-add 2 p r) ∙ sym (mul_assoc (v % 2 ^ k) (2 ^ p) (2 ^ r)))
      ∙ mul-div_cancel (v % 2 ^ k * 2 ^ p) (pow_pos r)

  pub head-is : (a : ℕ) → a < 2 ^ r → (a * 2 ^ 56 % 2 ^ 64) * 2 ^ (8 - r) % 2 ^ 64 ≡ a * 2 ^ (k + (64 - (r + k)))
  head-is a h =
      let first : a * 2 ^ 56 % 2 ^ 64 ≡ a * 2 ^ 56 = shl_exact r 56 64 h (omega arith) in
      let small : a * 2 ^ 56 < 2 ^ (r + 56) = shl_lt r 56 h in
      let all : 56 + (8 - r) ≡ k + (64 - (r + k)) = omega arith in
      ap (λ (j : ℕ). j * 2 ^ (8 - r) % 2 ^ 64) first ∙ shl_exact (r + 56) (8 - r) 64 small (omega arith)
      ∙ mul_assoc a (2 ^ 56) (2 ^ (8 - r)) ∙ ap (λ (j : ℕ). a * j) (sym (pow-add 2 56 (8 - r)) ∙ ap (λ (j : ℕ). 2 ^ j) all)

  pub word-is : (v : ℕ) (x : List Bool) → length x ≡ r → value_of r x * 2 ^ (k + (64 - (r + k))) + v % 2 ^ k * 2 ^ (64 - (r + k)) ≡ value_of 64 (x ++ in_bits k v)
  word-is v x e =
      let p = 64 - (r + k) in
      let all : 64 ≡ r + (k + p) = omega arith in
      let c = in_bits k v in
      let ck : value_of k c ≡ v % 2 ^ k = ap (value_of k) (sym (append-nil c)) ∙ in-bits-number k v [] in
      let none : value_of p (drop k c) ≡ 0 = ap (value_of p) (drop_of_length-le c {i = k} (omega (arith, length-in-bits k v))) ∙ number-none p in
      sym (ap (λ (j : ℕ). value_of j (x ++ c)) all ∙ number-add r (k + p) (x ++ c)
      ∙ ap₂ (λ (i : ℕ) (l : List Bool). i * 2 ^ (k + p) + value_of (k + p) l) (number-front r x c (omega (arith, e))) (drop_at x c r e)
      ∙ ap (λ (j : ℕ). value_of r x * 2 ^ (k + p) + j) (number-add k p c ∙ ap₂ (λ (i j : ℕ). i * 2 ^ p + j) ck none ∙ add-zero (v % 2 ^ k * 2 ^ p)))

  -- and it is a word
  pub word_lt : (a v : ℕ) → a < 2 ^ r → a * 2 ^ (k + (64 - (r + k))) + v % 2 ^ k * 2 ^ (64 - (r + k)) < 2 ^ 64
  word_lt a v h =
      let p = 64 - (r + k) in
      let all : r + (k + p) ≡ 64 = omega arith in
      subst (λ (n : ℕ). a * 2 ^ (k + p) + v % 2 ^ k * 2 ^ p < n) (sym (pow-add 2 r (k + p)) ∙ ap (λ (n : ℕ). 2 ^ n) all) (digits_lt h (shl_lt k p (mod-lt v (pow_pos k))))

-- ---- put

module _ (s : List ℕ) (o : ℕ) (b : List Bool) (e : length b ≡ o) (h : Starts b s) where
  -- the bytes of the bits so far
  front : take ((o + 7) / 8) s ≡ bytes ((o + 7) / 8) b
  unfolding Starts packed
  front = subst (λ (n : ℕ). take ((n + 7) / 8) s ≡ bytes ((n + 7) / 8) b) e (subst (λ (n : ℕ). take n s ≡ bytes ((length b + 7) / 8) b) (length-bytes ((length b + 7) / 8) b) h)

  pub whole-bytes : take (o / 8) s ≡ bytes (o / 8) b
  whole-bytes =
      let l : o / 8 ≤ (o + 7) / 8 = omega arith in
      sym (take-take (o / 8) ((o + 7) / 8) s l) ∙ ap (take (o / 8)) front ∙ bytes_take (o / 8) ((o + 7) / 8) b l

  rest-length : length (drop (8 * (o / 8)) b) ≡ o % 8
  rest-length = length-drop (8 * (o / 8)) b ∙ omega (arith, e)

  pub highest-is : highest s (o / 8) (o % 8) ≡ value_of (o % 8) (drop (8 * (o / 8)) b)
  unfolding highest value_of
  highest-is = go (o % 8) refl
    where
      go : (r : ℕ) → o % 8 ≡ r → highest s (o / 8) r ≡ value_of r (drop (8 * (o / 8)) b)
      go zero z = refl
      go (suc r) z =
          let x = drop (8 * (o / 8)) b in
          let l : o / 8 < (o + 7) / 8 = omega arith in
          let byte : get_or s (o / 8) 0 ≡ value_of 8 x = sym (get_or-take ((o + 7) / 8) s (o / 8) 0 l) ∙ ap (λ (t : List ℕ). get_or t (o / 8) 0) front ∙ bytes-at (o / 8) ((o + 7) / 8) b l in
          let eight : 8 ≡ suc r + (8 - suc r) = omega (arith, z, mod-lt o {m = 8} (omega arith)) in
          let none : value_of (8 - suc r) (drop (suc r) x) ≡ 0 = ap (value_of (8 - suc r)) (drop_of_length-le x {i = suc r} (omega (arith, rest-length, z))) ∙ number-none (8 - suc r) in
          let whole : value_of 8 x ≡ value_of (suc r) x * 2 ^ (8 - suc r) = ap (λ (j : ℕ). value_of j x) eight ∙ number-add (suc r) (8 - suc r) x ∙ ap (λ (j : ℕ). value_of (suc r) x * 2 ^ (8 - suc r) + j) none ∙ add-zero (value_of (suc r) x * 2 ^ (8 - suc r)) in
          rw (ne_eqb (suc r) 0 (λ n. omega (arith, n))) (ap (λ (j : ℕ). j / 2 ^ (8 - suc r)) (byte ∙ whole) ∙ mul-div_cancel (value_of (suc r) x) (pow_pos (8 - suc r)))

-- the bytes of the bits begun and of those put behind them, stored
module _ (s : List ℕ) (o n : ℕ) (c : List Bool) (lc : length c ≡ n) (room : o + n ≤ 8 * length s) where
  pub stores : (vs : List ℕ) → ((b : List Bool) → length b ≡ o → Starts b s → vs ≡ bytes ((o % 8 + n + 7) / 8) (drop (8 * (o / 8)) b ++ c)) → Adds o c s (sets s (o / 8) vs)
  unfolding Starts packed
  stores vs are = record { size = length-sets s (o / 8) vs; bits = λ b e h. stands b e h }
    where
      stands : (b : List Bool) → length b ≡ o → Starts b s → Starts (b ++ c) (sets s (o / 8) vs)
      stands b e h =
          let q = o / 8 in
          let m = (o % 8 + n + 7) / 8 in
          let x = drop (8 * q) b in
          let tops : vs ≡ bytes m (x ++ c) = are b e h in
          let lt : length vs ≡ m = ap length tops ∙ length-bytes m (x ++ c) in
          let lb : length (b ++ c) ≡ o + n = length-append b c ∙ omega (arith, e, lc) in
          let count : (length (b ++ c) + 7) / 8 ≡ q + m = omega (arith, lb) in
          let bytes-are : bytes ((length (b ++ c) + 7) / 8) (b ++ c) ≡ bytes q b ++ bytes m (x ++ c) =
          ap (λ (n : ℕ). bytes n (b ++ c)) count ∙ bytes-add q m (b ++ c)
          ∙ ap₂ (λ (f g : List ℕ). f ++ g) (bytes-front q b c (omega (arith, e))) (ap (bytes m) (drop-append-le (8 * q) b c (omega (arith, e)))) in
          let size : length (bytes ((length (b ++ c) + 7) / 8) (b ++ c)) ≡ q + length vs = length-bytes ((length (b ++ c) + 7) / 8) (b ++ c) ∙ omega (arith, count, lt) in
          ap (λ (n : ℕ). take n (sets s q vs)) size ∙ take-sets s vs q (omega (arith, lt, room))
          ∙ ap₂ (λ (f g : List ℕ). f ++ g) (whole-bytes s o b e h) tops ∙ sym bytes-are

module _ (s : List ℕ) (o k v : ℕ) (k57 : k ≤ 57) (room : o + k ≤ 8 * length s) where
  pub puts : (w : ℕ) → w ≡ highest s (o / 8) (o % 8) * 2 ^ (k + (64 - (o % 8 + k))) + v % 2 ^ k * 2 ^ (64 - (o % 8 + k))
      → Adds o (in_bits k v) s (sets s (o / 8) (top ((o % 8 + k + 7) / 8) w))
  puts w we = stores s o k (in_bits k v) (length-in-bits k v) room (top ((o % 8 + k + 7) / 8) w) (λ b e h. tops b e h)
    where
      tops : (b : List Bool) → length b ≡ o → Starts b s → top ((o % 8 + k + 7) / 8) w ≡ bytes ((o % 8 + k + 7) / 8) (drop (8 * (o / 8)) b ++ in_bits k v)
      tops b e h =
          let q = o / 8 in
          let r = o % 8 in
          let m = (r + k + 7) / 8 in
          let x = drop (8 * q) b in
          let c = in_bits k v in
          let lx : length x ≡ r = length-drop (8 * q) b ∙ omega (arith, e) in
          let lc : length (x ++ c) ≡ r + k = length-append x c ∙ omega (arith, lx, length-in-bits k v) in
          let word : w ≡ value_of 64 (x ++ c) = we ∙ ap (λ (j : ℕ). j * 2 ^ (k + (64 - (r + k))) + v % 2 ^ k * 2 ^ (64 - (r + k))) (highest-is s o b e h) ∙ word-is r k (mod-lt o {m = 8} (omega arith)) k57 v x lx in
          ap (top m) word ∙ top-bytes m (x ++ c) (omega (arith, lc, mod-lt o {m = 8} (omega arith)))

-- ---- bits behind bits

pub adds_none : (o : ℕ) (s : List ℕ) → Adds o [] s s
adds_none o s = record { size = refl; bits = λ b e h. rw (append-nil b) h }

pub adds-adds : (o p : ℕ) (c d : List Bool) (s t u : List ℕ) → p ≡ o + length c → Adds o c s t → Adds p d t u → Adds o (c ++ d) s u
adds-adds o p c d s t u e f g =
    record { size = g.size ∙ f.size; bits = λ b l h. rw (← append_assoc b c d) (g.bits (b ++ c) (length-append b c ∙ omega (arith, l, e)) (f.bits b l h)) }

-- the first bits
pub starts_none : (s : List ℕ) → Starts [] s
unfolding Starts packed bytes
starts_none s = refl

-- all bits
pub starts-are : (b : List Bool) (s : List ℕ) → Starts b s → take (length (packed b)) s ≡ packed b
unfolding Starts
starts-are b s h = h
