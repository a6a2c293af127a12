-- The laws of the listing, with no machine: bytes compared from the front, the parts of a listing put one after another, and what a reading's tables list.
use Prim.Native.Nat.{ℕ, suc, ◌+◌, ◌-◌, ◌*◌, ◌/◌, ◌^◌, ◌≤◌, ◌<◌}
use mathlib.Core.Path.{◌≡◌, refl, sym, ap, ap₂, ◌∙◌}
use mathlib.Core.Bool.{Bool, true, false, ◌&&◌}
use mathlib.Core.Logic.{◌≢◌}
use lib.Pointwise.{pointwise}
use mathlib.Core.List.{List, [], ◌∷◌}
use native.Mathlib.Nat.{zero-add}
use native.Mathlib.Omega.{arith}
use borrow.Author.Tests.{ne_eqb}
use lib.Dec.{eqb, ltb}
use lib.ListN.{length, take, drop, get_or, replicate, length-append}
use lib.Seq.{length-take-le, take_all, take_at}
use Rattle.numbers.specs.Number.{pick, nowhere}
use Rattle.numbers.specs.Output.{padded}
use Rattle.block.specs.declared.Block.{Block}
use Rattle.block.specs.Row.{no_block}
use Rattle.ranges.specs.Ranges.{Range}
use Rattle.ranges.specs.Table.{flat}
use Rattle.ranges.specs.TableInner.{rows_from}
use Rattle.ranges.proofs.Flat.{length-flat, length-rows, rows-flat}
use Rattle.lines.specs.LinesInner.{overlay}
use Rattle.lines.proofs.Laws.{Put, overlay-whole}
use Rattle.updates.specs.Promises.{Reading, reading, answer, table_of, range_words}
use Rattle.listing_text.specs.Listing.{listing, header, block_lines, range_lines, end_line, empty_line, refused_line}
use Rattle.listing_text.proofs.Laws as lines
use Rattle.listed.specs.Listed.{max_input, same, is_empty, empty_v1, empty_v2, lines_of, listed_reading, listed_update, listed_parts, listed}

-- ---- bytes compared from the front

-- what `==` says of them
same-pointwise : (a b : List ℕ) → pointwise eqb a b ≡ same a b
unfolding same
same-pointwise [] [] = refl
same-pointwise [] (y ∷ ys) = refl
same-pointwise (x ∷ xs) [] = refl
same-pointwise (x ∷ xs) (y ∷ ys) = go (eqb x y) (same-pointwise xs ys)
  where
    go : (t : Bool) → pointwise eqb xs ys ≡ same xs ys → (t && pointwise eqb xs ys) ≡ pick t (same xs ys) false
    go true e = e
    go false e = refl

-- ---- the first rows of both tables

module _ (form : ℕ) (rows : List Block) (blocks : ℕ) (words : List ℕ) (ranges : ℕ) (req : (blocks ≤ length rows) × (3 * ranges ≤ length words) × (93 + 71 * blocks + 63 * ranges < 2 ^ 63)) where
  abbrev bs : List Block
  bs = take blocks rows

  abbrev rs : List Range
  rs = rows_from words 0 ranges

  blocks-short : length (block_lines bs) ≤ 71 * blocks
  blocks-short = omega (arith, lines.blocks-short bs, length-take-le blocks rows req.0)

  ranges-short : length (range_lines rs) ≤ 63 * ranges
  ranges-short = omega (arith, lines.ranges-short rs, length-rows words 0 ranges)

  pub blocks-fit : (0 + length (header form blocks ranges) + 71 * blocks < 2 ^ 63) × (blocks ≤ length rows)
  blocks-fit = (omega (arith, lines.header-short form blocks ranges, req.2), req.0)

  pub ranges-fit : (0 + length (header form blocks ranges) + length (block_lines bs) + 63 * ranges < 2 ^ 63) × (3 * ranges ≤ length words)
  ranges-fit = (omega (arith, lines.header-short form blocks ranges, blocks-short, req.2), req.1)

  pub end_fits : 0 + length (header form blocks ranges) + length (block_lines bs) + length (range_lines rs) + 4 < 2 ^ 63
  end_fits = omega (arith, lines.header-short form blocks ranges, blocks-short, ranges-short, req.2)

  -- the four parts, one after another
  pub all-put : (out : List ℕ) {e₁ e₂ e₃ e₄ : ℕ} {o₁ o₂ o₃ o₄ : List ℕ}
      → Put out 0 (header form blocks ranges) e₁ o₁
      → Put o₁ e₁ (block_lines bs) e₂ o₂
      → Put o₂ e₂ (range_lines rs) e₃ o₃
      → Put o₃ e₃ end_line e₄ o₄
      → (e₄ ≡ length (listing form bs rs)) × (o₄ ≡ overlay out 0 (listing form bs rs))
  all-put out {e₁} {e₂} {e₃} {e₄} {o₁} p q r s =
      let sizes = ap₂ (header form) (sym (length-take-le blocks rows req.0)) (sym (length-rows words 0 ranges)) in
      let first : Put out 0 (header form (length bs) (length rs)) e₁ o₁ = (p.0 ∙ ap (λ (l : List ℕ). 0 + length l) sizes, p.1 ∙ ap (overlay out 0) sizes) in
      let all = lines.listed out 0 form bs rs first q r s in
      (all.0 ∙ zero-add (length (listing form bs rs)), all.1)

-- ---- what a reading leaves in the tables

module _ (R : Reading) (n m : ℕ) where
  abbrev shown : ℕ → List ℕ
  shown form = listing form (take (answer R).blocks (table_of n R)) (rows_from (range_words m R) 0 (answer R).ranges)

  pub tables-fit : length (table_of n R) ≡ 512 → length (range_words m R) ≡ 3072 → ((answer R).blocks ≤ length (table_of n R)) × (3 * (answer R).ranges ≤ length (range_words m R)) × (93 + 71 * (answer R).blocks + 63 * (answer R).ranges < 2 ^ 63)
  unfolding answer table_of range_words padded
  tables-fit h k = (blocks-in, ranges_in, omega (arith, blocks-in, ranges_in, h, k))
    where
      blocks-in : length R.blocks ≤ length (table_of n R)
      blocks-in = omega (arith, length-append R.blocks (replicate (n - length R.blocks) no_block))

      ranges_in : 3 * length R.ranges ≤ length (range_words m R)
      ranges_in = omega (arith, length-flat R.ranges, length-append (flat R.ranges) (replicate (m - length (flat R.ranges)) 0))

  shown-all : (form : ℕ) → shown form ≡ listing form R.blocks R.ranges
  unfolding answer table_of range_words padded
  shown-all form = ap₂ (listing form) (take_at R.blocks (replicate (n - length R.blocks) no_block) (length R.blocks) refl) (rows-flat R.ranges (replicate (m - length (flat R.ranges)) 0))

  pub lines-done : (form : ℕ) → eqb (answer R).refusal.number 0 ≡ true → shown form ≡ lines_of form R
  unfolding lines_of answer
  lines-done form e = rw e (shown-all form)

  pub lines-refused : (form : ℕ) → eqb (answer R).refusal.number 0 ≡ false → refused_line (answer R).refusal ≡ lines_of form R
  unfolding lines_of answer
  lines-refused form e = rw e refl

-- as many rows as the listing lends
pub enough : (form : ℕ) (u : List ℕ) (n m : ℕ) → n ≡ 512 → m ≡ 3072 → lines_of form (reading form u n (m / 3)) ≡ listed_reading form u
unfolding listed_reading
enough form u n m h k = ap₂ (λ (x y : ℕ). lines_of form (reading form u x y)) h (omega (arith, k))

-- ---- the text of an input: the first of these that applies

-- a text that is put from the start, under another name
pub put_as : (out : List ℕ) {e : ℕ} {t t' o : List ℕ} → t ≡ t' → Put out 0 t e o → (e ≡ length t') × (o ≡ overlay out 0 t')
put_as out {e} {t} {t'} {o} h p = (p.0 ∙ zero-add (length t) ∙ ap length h, p.1 ∙ ap (overlay out 0) h)

-- a text that fits is what stands in front
pub front : (out t : List ℕ) → length t ≤ length out → take (length t) (overlay out 0 t) ≡ t
front out t h = ap (take (length t)) (overlay-whole out t h) ∙ take_at t (drop (length t) out) (length t) refl

module _ (form : ℕ) (u : List ℕ) where
  pub empty-first : form ≡ 1 → pointwise eqb u empty_v1 ≡ is_empty form u
  unfolding is_empty
  empty-first e = rw e (same-pointwise u empty_v1)

  pub empty-second : form ≡ 2 → pointwise eqb u empty_v2 ≡ is_empty form u
  unfolding is_empty
  empty-second e = rw e (same-pointwise u empty_v2)

  pub empty-no-form : form ≢ 1 → form ≢ 2 → false ≡ is_empty form u
  unfolding is_empty
  empty-no-form e h = rw (ne_eqb form 1 e, ne_eqb form 2 h) refl

  pub text-empty : is_empty form u ≡ true → empty_line ≡ listed_update form u
  unfolding listed_update
  text-empty e = rw e refl

  pub text-reading : is_empty form u ≡ false → listed_reading form u ≡ listed_update form u
  unfolding listed_update
  text-reading e = rw e refl

pub text-long : (input : List ℕ) → ltb max_input (length input) ≡ true → refused_line (nowhere 3) ≡ listed input
unfolding listed
text-long input e = rw e refl

pub text-none : (input : List ℕ) → length input ≡ 0 → refused_line (nowhere 1) ≡ listed input
unfolding listed listed_parts
text-none [] e = refl
text-none (x ∷ xs) e = absurd (let z : ◌≡◌ {A = ℕ} (suc (length xs)) 0 = e in omega arith)

pub text-parts : (input : List ℕ) → ltb max_input (length input) ≡ false → 0 < length input → listed_update (get_or input 0 0) (take (length input - 1) (drop 1 input)) ≡ listed input
unfolding listed listed_parts
text-parts [] e h = absurd (omega arith)
text-parts (x ∷ xs) e h = rw (take_all (suc (length xs) - 1) xs (omega arith), e) refl
