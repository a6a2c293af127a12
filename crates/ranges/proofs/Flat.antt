-- Words and ranges: the words of a table's rows, the rows of ranges' words, and a row stored after them.
use mathlib.Core.Path.{◌≡◌, refl, sym, ap, ◌∙◌}
use mathlib.Core.List.{List, [], ◌∷◌, ◌++◌}
use Prim.Native.Nat.{ℕ, suc, ◌+◌, ◌-◌, ◌*◌, ◌≤◌}
use native.Mathlib.Omega.{arith}
use native.Mathlib.Numerals.{add-one}
use lib.ListN.{length, take, replicate, length-append, length-replicate}
use lib.Seq.{sets}
use Rattle.numbers.proofs.Output.{take-sets}
use Rattle.numbers.proofs.Rows.{Rows, first-words, next-first, next_word}
use Rattle.numbers.proofs.Rows as rows
use Rattle.ranges.specs.Ranges.{Range, normal}
use Rattle.ranges.specs.Table.{range, flat}
use Rattle.ranges.specs.TableInner.{row, put, rows_from, normal_count, normalized}
use Rattle.ranges.proofs.Theory.{normal-length}

abbrev words : Range → List ℕ
words r = r.client ∷ r.clock ∷ r.len ∷ []

table : Rows 3 words row rows_from flat
unfolding row rows_from flat
table =
    record {
      wide = λ r. refl;
      first = first-words 3;
      read = λ r w. refl;
      next = λ w i j. range (next-first 3 w i j) (next_word 3 w i 1 j) (next_word 3 w i 2 j);
      from-none = λ w i. refl;
      from_some = λ w i n. refl;
      flat-none = refl;
      flat-some = λ r rs. refl;
    }

pub length-flat : (l : List Range) → length (flat l) ≡ 3 * length l
length-flat = rows.flat-length table

pub length-rows : (s : List ℕ) (i n : ℕ) → length (rows_from s i n) ≡ n
length-rows = rows.from-length table

-- the first words of a table are those of its first rows
pub take-flat : (w : List ℕ) (n : ℕ) → 3 * n ≤ length w → take (3 * n) w ≡ flat (rows_from w 0 n)
take-flat = rows.take-flat table

-- the words of ranges, read back
pub rows-flat : (l : List Range) (t : List ℕ) → rows_from (flat l ++ t) 0 (length l) ≡ l
rows-flat = rows.from-flat table

put-sets : (w : List ℕ) (n : ℕ) (q : Range) → put w n q ≡ sets w (3 * n) (flat (q ∷ []))
unfolding put flat
put-sets w n q = let e : 3 * n + 2 ≡ suc (suc (3 * n)) = omega arith in rw (e, add-one) refl

-- a row stored after the words of ranges
pub flat-put : (w : List ℕ) (n : ℕ) (l : List Range) (q : Range) → take (3 * n) w ≡ flat l → 3 * n + 3 ≤ length w
    → take (3 * (n + 1)) (put w n q) ≡ flat (l ++ (q ∷ []))
unfolding flat
flat-put w n l q told h =
    let e : 3 * (n + 1) ≡ 3 * n + 3 = omega arith in
    rw (e, put-sets w n q, rows.flat_append table l (q ∷ []), ← told) (take-sets w (flat (q ∷ [])) (3 * n) h)

-- what the passes come to: m rows at the start of u, cleared after them
module _ (s u : List ℕ) (n m : ℕ) (told : rows_from u 0 m ≡ normal (rows_from s 0 n)) where
  pub normal-count : m ≡ normal_count s n
  unfolding normal_count
  normal-count = sym (length-rows u 0 m) ∙ ap length told

  pub normal-words : 3 * m ≤ length u → length u ≡ length s → take (3 * m) u ++ replicate (length u - 3 * m) 0 ≡ normalized s n
  unfolding normalized
  normal-words h e = rw (take-flat u m h, told, e, ← normal-count) refl

-- ---- what a caller of `normalize` needs

module _ (s : List ℕ) (n : ℕ) where
  pub count-le : normal_count s n ≤ n
  unfolding normal_count
  count-le = omega (arith, normal-length (rows_from s 0 n), length-rows s 0 n)

  pub normalized-rows : rows_from (normalized s n) 0 (normal_count s n) ≡ normal (rows_from s 0 n)
  unfolding normalized normal_count
  normalized-rows = rows-flat (normal (rows_from s 0 n)) (replicate (length s - 3 * normal_count s n) 0)

  pub length-normalized : 3 * n ≤ length s → length (normalized s n) ≡ length s
  unfolding normalized normal_count
  length-normalized h =
      length-append (flat (normal (rows_from s 0 n))) (replicate (length s - 3 * normal_count s n) 0)
      ∙ rw (length-flat (normal (rows_from s 0 n)), length-replicate) (omega (arith, count-le))
