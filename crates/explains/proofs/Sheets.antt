-- The words of a sheet's lines are the sheet's own words.
use Prim.Native.Nat.{ℕ, zero, suc, ◌+◌, ◌*◌, ◌≤◌}
use native.Mathlib.Omega.{arith}
use mathlib.Core.Path.{◌≡◌, refl, sym, ap, ap₂, ◌∙◌}
use mathlib.Core.List.{List, [], ◌∷◌, ◌++◌}
use lib.ListN.{length, get_or, take, drop}
use lib.Seq.{take-add, drop-drop, drop-cons}
use Rattle.cells.specs.Cells.{part_in}
use Rattle.origins.specs.declared.Line.{Line}
use Rattle.origins.specs.Origins.{line_words}
use Rattle.origins.specs.Sheets.{line_in, lines_from}
use Rattle.explainer.specs.Explanation.{words}

pub length-lines : (sh : List ℕ) (i n : ℕ) → length (lines_from sh i n) ≡ n
unfolding lines_from
length-lines sh i zero = refl
length-lines sh i (suc n) = ap suc (length-lines sh (suc i) n)

pub length-words : (ls : List Line) → length (words ls) ≡ 12 * length ls
unfolding words line_words
length-words [] = refl
length-words (l ∷ ls) = omega (arith, length-words ls)

-- ---- one line

-- n words, from the j-th behind k on
unfoldable gets : List ℕ → ℕ → ℕ → ℕ → List ℕ
gets l k j zero = []
gets l k j (suc n) = get_or l (k + j) 0 ∷ gets l k (suc j) n

gets-are : (l : List ℕ) (k j n : ℕ) → k + j + n ≤ length l → gets l k j n ≡ take n (drop (k + j) l)
unfolding gets
gets-are l k j zero h = refl
gets-are l k j (suc n) h =
    let e : suc (k + j) ≡ k + suc j = omega arith in
    ap (λ (r : List ℕ). get_or l (k + j) 0 ∷ r) (gets-are l k (suc j) n (omega (arith, h)))
    ∙ sym (ap (take (suc n)) (drop-cons l (k + j) 0 (omega (arith, h))) ∙ ap (λ (m : ℕ). get_or l (k + j) 0 ∷ take n (drop m l)) e)

line_gets : (sh : List ℕ) (i : ℕ) → line_words (line_in sh i) ≡ gets sh (12 * i) 0 12
unfolding line_words line_in part_in gets
line_gets sh i = ap (λ (k : ℕ). get_or sh (12 * i + 0) 0 ∷ get_or sh (12 * i + 1) 0 ∷ get_or sh (12 * i + 2) 0 ∷ get_or sh (12 * i + 3) 0 ∷ get_or sh (12 * i + 4) 0 ∷ get_or sh (12 * i + 5) 0 ∷ get_or sh (12 * i + 6) 0 ∷ get_or sh (12 * i + 7) 0 ∷ get_or sh (12 * i + 8) 0 ∷ get_or sh (12 * i + 9) 0 ∷ get_or sh (12 * i + 10) 0 ∷ get_or sh k 0 ∷ []) (let e : 12 * i + 10 + 1 ≡ 12 * i + 11 = omega arith in e)

line-words : (sh : List ℕ) (i : ℕ) → 12 * i + 12 ≤ length sh → line_words (line_in sh i) ≡ take 12 (drop (12 * i) sh)
line-words sh i h =
    line_gets sh i ∙ gets-are sh (12 * i) 0 12 (omega (arith, h)) ∙ ap (λ (k : ℕ). take 12 (drop k sh)) (let e : 12 * i + 0 ≡ 12 * i = omega arith in e)

-- ---- and all of them

words_are : (sh : List ℕ) (i n : ℕ) → 12 * (i + n) ≤ length sh → words (lines_from sh i n) ≡ take (12 * n) (drop (12 * i) sh)
unfolding words lines_from
words_are sh i zero h = refl
words_are sh i (suc n) h =
    let d = drop (12 * i) sh in
    let rest : drop 12 d ≡ drop (12 * suc i) sh = drop-drop 12 (12 * i) sh ∙ ap (λ (k : ℕ). drop k sh) (let e : 12 * i + 12 ≡ 12 * suc i = omega arith in e) in
    ap₂ ◌++◌ (line-words sh i (omega (arith, h))) (words_are sh (suc i) n (omega (arith, h)) ∙ ap (take (12 * n)) (sym rest))
    ∙ sym (take-add 12 (12 * n) d)
    ∙ ap (λ (k : ℕ). take k d) (let e : 12 + 12 * n ≡ 12 * suc n = omega arith in e)

pub sheet-words : (sh : List ℕ) (n : ℕ) → 12 * n ≤ length sh → words (lines_from sh 0 n) ≡ take (12 * n) sh
sheet-words sh n h = words_are sh 0 n (omega (arith, h))
