-- Laws of a summary's rows: as bits, as words, and as they are taken.
use Prim.Native.Nat.{ℕ, zero, suc, ◌+◌, ◌-◌, ◌*◌, ◌/◌, ◌%◌, ◌^◌, ◌≤◌, ◌<◌}
use mathlib.Core.Path.{◌≡◌, refl, sym, ap, ap₂, ◌∙◌, subst}
use mathlib.Core.Bool.{Bool}
use mathlib.Core.List.{List, [], ◌∷◌, ◌++◌, append_assoc}
use native.Mathlib.Nat.{add-zero, mod-lt, mul_assoc, mul-div_cancel}
use native.Mathlib.Omega.{arith}
use lib.ListN.{length, take, drop, get_or, set, length-append, take-append-drop}
use lib.Seq.{sets, drop-drop, get_or-drop}
use lib.Arith.{digits_lt}
use lib.Pow.{pow_pos}
use Rattle.bits.specs.Bits.{in_bits}
use Rattle.bits.specs.Places.{Adds, Starts}
use Rattle.bits.proofs.Laws.{length-in-bits}
use Rattle.bits.proofs.Passing.{cut, slot, pack, in-bits-add, lowest-bits}
use Rattle.bits.proofs.Places.{adds_none, adds-adds, starts_none}
use Rattle.summary.specs.Rows.{Row}
use Rattle.summary.specs.Summary.{one, row_bits, rows_bits, summary_bits}
use Rattle.summary.specs.Words.{summary_row, words_in}
use Rattle.summary.specs.WordsInner.{row_in, rows_in}

-- ---- bits

pub length-row-bits : (r : Row) → length (row_bits r) ≡ 131
unfolding row_bits
length-row-bits r = simp (length-append, length-in-bits)

-- its first 64 bits, the next 64, and three more
-- the words are these numbers
pub upper_is : (c f : ℕ) → c * 2 ^ 11 % 2 ^ 64 + f * 2 ^ 33 % 2 ^ 64 / 2 ^ 53 ≡ c % 2 ^ 53 * 2 ^ 11 + f / 2 ^ 20 % 2 ^ 11
upper_is c f = ap₂ (λ (x y : ℕ). x + y) (cut 53 c (omega arith)) (slot 11 20 f (omega arith))

pub middle-is : (e : ℕ) → e * 2 ^ 33 % 2 ^ 64 / 2 ^ 20 ≡ e % 2 ^ 31 * 2 ^ 13
middle-is e = ap (λ (x : ℕ). x / 2 ^ 20) (cut 31 e (omega arith) ∙ sym (mul_assoc (e % 2 ^ 31) (2 ^ 13) (2 ^ 20))) ∙ mul-div_cancel (e % 2 ^ 31 * 2 ^ 13) (pow_pos 20)

pub lower-is : (f e n : ℕ) → f * 2 ^ 44 % 2 ^ 64 + (e * 2 ^ 33 % 2 ^ 64 / 2 ^ 20 + n * 2 ^ 48 % 2 ^ 64 / 2 ^ 51) ≡ f % 2 ^ 20 * 2 ^ 44 + (e % 2 ^ 31 * 2 ^ 13 + n / 2 ^ 3 % 2 ^ 13)
lower-is f e n = ap₂ (λ (x y : ℕ). x + y) (cut 20 f (omega arith)) (ap₂ (λ (x y : ℕ). x + y) (middle-is e) (slot 13 3 n (omega arith)))

pub upper-bits : (c f : ℕ) → in_bits 64 (c * 2 ^ 11 % 2 ^ 64 + f * 2 ^ 33 % 2 ^ 64 / 2 ^ 53) ≡ in_bits 53 c ++ in_bits 11 (f / 2 ^ 20)
upper-bits c f =
    ap (in_bits 64) (upper_is c f) ∙ pack 53 11 c (f / 2 ^ 20 % 2 ^ 11) (mod-lt (f / 2 ^ 20) (pow_pos 11)) ∙ ap (λ (y : List Bool). in_bits 53 c ++ y) (lowest-bits 11 (f / 2 ^ 20))

pub lower-bits : (f e n : ℕ) → in_bits 64 (f * 2 ^ 44 % 2 ^ 64 + (e * 2 ^ 33 % 2 ^ 64 / 2 ^ 20 + n * 2 ^ 48 % 2 ^ 64 / 2 ^ 51)) ≡ in_bits 20 f ++ (in_bits 31 e ++ in_bits 13 (n / 2 ^ 3))
lower-bits f e n =
    let few = mod-lt (n / 2 ^ 3) (pow_pos 13) in
    ap (in_bits 64) (lower-is f e n) ∙ pack 20 44 f (e % 2 ^ 31 * 2 ^ 13 + n / 2 ^ 3 % 2 ^ 13) (digits_lt (mod-lt e (pow_pos 31)) few)
    ∙ ap (λ (y : List Bool). in_bits 20 f ++ y) (pack 31 13 e (n / 2 ^ 3 % 2 ^ 13) few ∙ ap (λ (y : List Bool). in_bits 31 e ++ y) (lowest-bits 13 (n / 2 ^ 3)))

pub row-adds : (o k : ℕ) (w s t : List ℕ) (a b : ℕ) → in_bits 64 a ≡ in_bits 53 (get_or w k 0) ++ in_bits 11 (get_or w (k + 1) 0 / 2 ^ 20)
    → in_bits 64 b ≡ in_bits 20 (get_or w (k + 1) 0) ++ (in_bits 31 (get_or w (k + 2) 0) ++ in_bits 13 (get_or w (k + 3) 0 / 2 ^ 3))
    → Adds o (in_bits 64 a ++ (in_bits 64 b ++ in_bits 3 (get_or w (k + 3) 0))) s t → Adds o (row_bits (row_in (drop k w))) s t
unfolding row_bits
row-adds o k w s t a b ea eb h =
    let c = in_bits 53 (get_or w k 0) in
    let f = get_or w (k + 1) 0 in
    let e = in_bits 31 (get_or w (k + 2) 0) in
    let n = get_or w (k + 3) 0 in
    let f₁ = in_bits 11 (f / 2 ^ 20) in
    let f₂ = in_bits 20 f in
    let n₁ = in_bits 13 (n / 2 ^ 3) in
    let n₂ = in_bits 3 n in
    let are : in_bits 64 a ++ (in_bits 64 b ++ n₂) ≡ c ++ (in_bits 31 f ++ (e ++ in_bits 16 n)) =
    ap₂ (λ (x y : List Bool). x ++ (y ++ n₂)) ea eb ∙ append_assoc c f₁ ((f₂ ++ (e ++ n₁)) ++ n₂)
    ∙ ap (λ (x : List Bool). c ++ (f₁ ++ x)) (append_assoc f₂ (e ++ n₁) n₂ ∙ ap (λ (x : List Bool). f₂ ++ x) (append_assoc e n₁ n₂ ∙ ap (λ (x : List Bool). e ++ x) (sym (in-bits-add 13 3 n))))
    ∙ ap (λ (x : List Bool). c ++ x) (sym (append_assoc f₁ f₂ (e ++ in_bits 16 n)) ∙ ap (λ (x : List Bool). x ++ (e ++ in_bits 16 n)) (sym (in-bits-add 11 20 f))) in
    rw (get_or-drop k w 0 0, add-zero, get_or-drop k w 1 0, get_or-drop k w 2 0, get_or-drop k w 3 0) (subst (λ (x : List Bool). Adds o x s t) are h)

-- ---- words

pub rows_more : (n : ℕ) (w : List ℕ) → 0 < n → rows_in n w ≡ row_in w ∷ rows_in (n - 1) (drop 4 w)
unfolding rows_in
rows_more zero w h = absurd (omega (arith, h))
rows_more (suc n) w h = ap (λ (m : ℕ). row_in w ∷ rows_in m (drop 4 w)) (let e : n ≡ suc n - 1 = omega arith in e)

pub rows_none : (n : ℕ) (w : List ℕ) → n ≤ 0 → rows_in n w ≡ []
unfolding rows_in
rows_none zero w h = refl
rows_none (suc n) w h = absurd (omega (arith, h))

pub length-rows : (n : ℕ) (w : List ℕ) → length (rows_in n w) ≡ n
unfolding rows_in
length-rows zero w = refl
length-rows (suc n) w = ap suc (length-rows n (drop 4 w))

pub length-words : (rs : List Row) → length (words_in rs) ≡ 4 * length rs
unfolding words_in
length-words [] = refl
length-words (r ∷ rs) = omega (arith, length-words rs)

pub words_append : (a b : List Row) → words_in (a ++ b) ≡ words_in a ++ words_in b
unfolding words_in
words_append [] b = refl
words_append (r ∷ a) b = ap (λ (l : List ℕ). r.client ∷ (r.first ∷ (r.end ∷ (r.blocks ∷ l)))) (words_append a b)

rows_words : (rs : List Row) (t : List ℕ) → rows_in (length rs) (words_in rs ++ t) ≡ rs
unfolding rows_in words_in
rows_words [] t = refl
rows_words (r ∷ rs) t = ap (λ (l : List Row). r ∷ l) (rows_words rs t)

-- words that start with rows have these rows
pub rows_are : (n : ℕ) (w : List ℕ) (rs : List Row) → length rs ≡ n → take (4 * n) w ≡ words_in rs → rows_in n w ≡ rs
rows_are n w rs e h = ap₂ rows_in (sym e) (sym (take-append-drop (4 * n) w) ∙ ap (λ (l : List ℕ). l ++ drop (4 * n) w) h) ∙ rows_words rs (drop (4 * n) w)

-- the first of the rows left, and then the others
pub rows-added : (o left k : ℕ) (w s t u : List ℕ) → 0 < left → Adds o (row_bits (row_in (drop k w))) s t → Adds (o + 131) (rows_bits (rows_in (left - 1) (drop (k + 4) w))) t u
    → Adds o (rows_bits (rows_in left (drop k w))) s u
unfolding rows_bits
rows-added o left k w s t u h a b =
    rw (rows_more left (drop k w) h, drop-drop 4 k w)
    (adds-adds o (o + 131) (row_bits (row_in (drop k w))) (rows_bits (rows_in (left - 1) (drop (k + 4) w))) s t u (rw length-row-bits refl) a b)

-- the same of row i of n
pub rows-added-at : (i n : ℕ) (w s t u : List ℕ) → i < n → Adds (11 + 131 * i) (row_bits (row_in (drop (4 * i) w))) s t
    → Adds (11 + 131 * (i + 1)) (rows_bits (rows_in (n - (i + 1)) (drop (4 * (i + 1)) w))) t u
    → Adds (11 + 131 * i) (rows_bits (rows_in (n - i) (drop (4 * i) w))) s u
rows-added-at i n w s t u h a b =
    let left : n - (i + 1) ≡ n - i - 1 = omega arith in
    let behind : 4 * (i + 1) ≡ 4 * i + 4 = omega arith in
    let at : 11 + 131 * (i + 1) ≡ 11 + 131 * i + 131 = omega arith in
    rows-added (11 + 131 * i) (n - i) (4 * i) w s t u (omega arith) a (rw (left, behind, at) at b)

pub nothing-added : (o : ℕ) (s : List ℕ) → Adds o (rows_bits []) s s
unfolding rows_bits
nothing-added o s = adds_none o s

-- version, row count and rows, from the first bit on
pub summary-starts : (n : ℕ) (w s t u v : List ℕ) → Adds 0 (in_bits 4 1) s t → Adds 4 (in_bits 7 n) t u → Adds 11 (rows_bits (rows_in n w)) u v
    → (length v ≡ length s) × Starts (summary_bits one (rows_in n w)) v
unfolding summary_bits
summary-starts n w s t u v a b c =
    let all = adds-adds 0 4 (in_bits 4 1) _ s t v (rw length-in-bits refl) a (adds-adds 4 11 (in_bits 7 n) (rows_bits (rows_in n w)) t u v (rw length-in-bits refl) b c) in
    (all.size, rw length-rows (all.bits [] refl (starts_none s)))

-- a row's words, stored one by one
pub four-words : (w : List ℕ) (k a b c d : ℕ) → set (set (set (set w k a) (k + 1) b) (k + 2) c) (k + 3) d ≡ sets w k (words_in (summary_row a b c d ∷ []))
unfolding words_in
four-words w k a b c d =
    let one : k + 1 ≡ suc k = omega arith in
    let two : k + 2 ≡ suc (suc k) = omega arith in
    let three : k + 3 ≡ suc (suc (suc k)) = omega arith in
    rw (one, two, three)
