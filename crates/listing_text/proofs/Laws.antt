-- The laws of the lines: how long they are at most, and one line after another.
use Prim.Native.Nat.{ℕ, suc, ◌+◌, ◌-◌, ◌*◌, ◌^◌, ◌≤◌, ◌<◌}
use mathlib.Core.Path.{◌≡◌, refl, sym, ap, subst, ◌∙◌}
use mathlib.Core.Bool.{Bool, true, false, cond}
use mathlib.Core.List.{List, [], ◌∷◌, ◌++◌, append_assoc, append-nil}
use native.Mathlib.Numerals.{add-one}
use native.Mathlib.Omega.{arith}
use lib.ListN.{length, take, get_or, length-append}
use lib.Seq.{take-suc, length-take-le}
use lib.Dec.{eqb}
use Rattle.block.specs.declared.Block.{Block}
use Rattle.block.specs.Row.{no_block}
use Rattle.ranges.specs.Ranges.{Range}
use Rattle.ranges.specs.TableInner.{row, rows_from}
use Rattle.lines.specs.LinesInner.{overlay}
use Rattle.lines.proofs.Laws.{decimal-short, overlay-nil, Put, put_then}
use Rattle.listing_text.specs.Listing.{number_then, named, kind_name, block_line, block_lines, range_line, range_lines, header, end_line, listing}
use Rattle.listing_text.specs.Words.{word_form, word_blocks, word_ranges}

-- ---- lengths

pub number_short : (v end : ℕ) → length (number_then v end) ≤ 21
unfolding number_then
number_short v end = simp length-append (omega (arith, decimal-short v))

pub named-short : (word : List ℕ) (v end : ℕ) → length (named word v end) ≤ length word + 21
unfolding named
named-short word v end = simp length-append (omega (arith, number_short v end))

-- one of two
either : (b : Bool) (xs ys : List ℕ) → length xs ≤ 7 → length ys ≤ 7 → length (cond b xs ys) ≤ 7
either true xs ys p q = p
either false xs ys p q = q

pub kind-short : (kind : ℕ) → length (kind_name kind) ≤ 7
unfolding kind_name
kind-short kind =
    either (eqb kind 1) _ _ (omega arith) (either (eqb kind 2) _ _ (omega arith) (either (eqb kind 3) _ _ (omega arith) (either (eqb kind 4) _ _ (omega arith) (either (eqb kind 5) _ _ (omega arith) (either (eqb kind 6) _ _ (omega arith) (either (eqb kind 7) _ _ (omega arith) (either (eqb kind 8) _ _ (omega arith) (omega arith))))))))

pub block-short : (b : Block) → length (block_line b) ≤ 71
unfolding block_line
block-short b = simp length-append (omega (arith, number_short b.client 32, number_short b.clock 32, number_short b.length.0 32, kind-short b.kind))

pub range-short : (r : Range) → length (range_line r) ≤ 63
unfolding range_line
range-short r = simp length-append (omega (arith, number_short r.client 32, number_short r.clock 32, number_short r.len 10))

pub header-short : (form blocks ranges : ℕ) → length (header form blocks ranges) ≤ 89
unfolding header
header-short form blocks ranges = simp length-append (omega (arith, named-short word_form form 32, named-short word_blocks blocks 32, named-short word_ranges ranges 10))

-- as many lines as rows, and each is short
pub blocks-short : (bs : List Block) → length (block_lines bs) ≤ 71 * length bs
unfolding block_lines
blocks-short [] = omega arith
blocks-short (b ∷ bs) = simp length-append (omega (arith, block-short b, blocks-short bs))

pub ranges-short : (rs : List Range) → length (range_lines rs) ≤ 63 * length rs
unfolding range_lines
ranges-short [] = omega arith
ranges-short (r ∷ rs) = simp length-append (omega (arith, range-short r, ranges-short rs))

pub listing-short : (form : ℕ) (bs : List Block) (rs : List Range) → length (listing form bs rs) ≤ 93 + 71 * length bs + 63 * length rs
unfolding listing end_line
listing-short form bs rs = simp length-append (omega (arith, header-short form (length bs) (length rs), blocks-short bs, ranges-short rs))

-- ---- the ranges of words

-- what is left to put from row i on, of n
pub rest_more : (s : List ℕ) (i n : ℕ) → i < n → range_lines (rows_from s i (n - i)) ≡ range_line (row s i) ++ range_lines (rows_from s (i + 1) (n - (i + 1)))
unfolding range_lines rows_from
rest_more s i n h = ap (λ (k : ℕ). range_lines (rows_from s i k)) more ∙ turn
  where
    more : n - i ≡ suc (n - (i + 1))
    more = omega arith

    turn : range_lines (rows_from s i (suc (n - (i + 1)))) ≡ range_line (row s i) ++ range_lines (rows_from s (i + 1) (n - (i + 1)))
    turn = ap (λ (k : ℕ). range_line (row s i) ++ range_lines (rows_from s k (n - (i + 1)))) (sym (add-one i))

pub rest-none : (s : List ℕ) (i n : ℕ) → n ≤ i → range_lines (rows_from s i (n - i)) ≡ []
unfolding range_lines rows_from
rest-none s i n h = ap (λ (k : ℕ). range_lines (rows_from s i k)) none_left
  where
    none_left : n - i ≡ 0
    none_left = omega arith

-- ---- the blocks of rows

lines-append : (xs ys : List Block) → block_lines (xs ++ ys) ≡ block_lines xs ++ block_lines ys
unfolding block_lines
lines-append [] ys = refl
lines-append (b ∷ xs) ys = ap (λ (l : List ℕ). block_line b ++ l) (lines-append xs ys) ∙ sym (append_assoc (block_line b) (block_lines xs) (block_lines ys))

line-alone : (b : Block) → block_lines (b ∷ []) ≡ block_line b
unfolding block_lines
line-alone b = append-nil (block_line b)

-- one row more
rows_more : (rows : List Block) (i : ℕ) → i < length rows → block_lines (take (i + 1) rows) ≡ block_lines (take i rows) ++ block_line (get_or rows i no_block)
rows_more rows i h =
    ap (λ (k : ℕ). block_lines (take k rows)) (add-one i)
    ∙ ap block_lines (take-suc rows i no_block h)
    ∙ lines-append (take i rows) (get_or rows i no_block ∷ [])
    ∙ ap (λ (l : List ℕ). block_lines (take i rows) ++ l) (line-alone (get_or rows i no_block))

-- what is known where a turn of the loop begins: the first i rows of n are put
module _ (out₀ : List ℕ) (used n : ℕ) (rows : List Block) where
  abbrev pub Rows : ℕ → ℕ → List ℕ → Type 0
  Rows at i out = (i ≤ n) × (at ≡ used + length (block_lines (take i rows))) × (out ≡ overlay out₀ used (block_lines (take i rows)))

  pub rows-begin : Rows used 0 out₀
  unfolding block_lines
  rows-begin = (omega arith, omega arith, sym (overlay-nil out₀ used))

  module _ (at i : ℕ) (out : List ℕ) (known : Rows at i out) where
    pub rows-over : n ≤ i → (at ≡ used + length (block_lines (take n rows))) × (out ≡ overlay out₀ used (block_lines (take n rows)))
    rows-over h = subst (λ (k : ℕ). (at ≡ used + length (block_lines (take k rows))) × (out ≡ overlay out₀ used (block_lines (take k rows)))) all (known.1, known.2)
      where
        all : i ≡ n
        all = omega arith

    module _ (less : i < n) (fit : n ≤ length rows) where
      pub rows_on : Rows (at + length (block_line (get_or rows i no_block))) (i + 1) (overlay out at (block_line (get_or rows i no_block)))
      rows_on =
          let line = block_line (get_or rows i no_block) in
          let more = rows_more rows i (omega arith) in
          let both = put_then out₀ used (block_lines (take i rows)) line (known.1, known.2) (refl, refl) in
          (omega arith, both.0 ∙ ap (λ (l : List ℕ). used + length l) (sym more), both.1 ∙ ap (overlay out₀ used) (sym more))

      pub rows-room : used + 71 * n < 2 ^ 63 → at + 71 < 2 ^ 63
      rows-room h = omega (arith, blocks-short (take i rows), length-take-le i rows (omega arith))

-- ---- the whole listing, from its four parts put one after another
module _ (out : List ℕ) (used form : ℕ) (bs : List Block) (rs : List Range) where
  pub listed : {e₁ e₂ e₃ e₄ : ℕ} {o₁ o₂ o₃ o₄ : List ℕ}
      → Put out used (header form (length bs) (length rs)) e₁ o₁
      → Put o₁ e₁ (block_lines bs) e₂ o₂
      → Put o₂ e₂ (range_lines rs) e₃ o₃
      → Put o₃ e₃ end_line e₄ o₄
      → Put out used (listing form bs rs) e₄ o₄
  unfolding listing
  listed p q r s =
      let head = header form (length bs) (length rs) in
      put_then out used (head ++ block_lines bs ++ range_lines rs) end_line (put_then out used (head ++ block_lines bs) (range_lines rs) (put_then out used head (block_lines bs) p q) r) s
