-- The reader's laws, with no machine: what each way out says of the reading, and what is given and left there. Assumes nothing.
use Rattle.std.specs.Prelude.{Result, Ok, Err}
use Prim.Native.Nat.{ℕ, ◌-◌, ◌/◌}
use mathlib.Core.Path.{◌≡◌, refl, sym, ap, ◌∙◌}
use mathlib.Core.Bool.{Bool, true, false}
use mathlib.Core.List.{List, [], ◌++◌}
use native.Mathlib.Omega.{arith}
use lib.Dec.{ltb, eqb}
use lib.ListN.{length, take, replicate}
use Rattle.numbers.specs.declared.Refusal.{Refusal}
use Rattle.numbers.specs.Number.{pick, none, nowhere}
use Rattle.numbers.specs.Limits.{max_update}
use Rattle.numbers.specs.Output.{padded}
use Rattle.numbers.proofs.Output.{padded-none}
use Rattle.block.specs.declared.Block.{Block}
use Rattle.block.specs.Row.{no_block}
use Rattle.table.specs.Rows.{cleared_from, filled_from}
use Rattle.grammar.specs.Course.{Course, thing, over, stopped, fit, things, ending}
use Rattle.ranges.specs.Ranges.{Range, normal}
use Rattle.ranges.specs.Table.{flat}
use Rattle.deletes.specs.DeleteSet.{taken, set_of, words_of as set_words}
use Rattle.reader.specs.Reader.{filled_of, rows_of as filled_rows}
use Rattle.decoder.specs.Update.{blocks_of, delete_set}
use Rattle.updates.specs.declared.Update.{Update}
use Rattle.updates.specs.Promises.{Reading, refused, with_ranges, with_blocks, known, early, reading, answer, table_of, range_words}

-- ---- what is refused early

module _ (form : ℕ) where
  pub known-first : eqb form 1 ≡ true → known form ≡ true
  unfolding known
  known-first a = rw a refl

  pub known-second : eqb form 1 ≡ false → eqb form 2 ≡ true → known form ≡ true
  unfolding known
  known-second a b = rw (a, b) refl

module _ (form : ℕ) (u : List ℕ) where
  pub unknown-form : eqb form 1 ≡ false → eqb form 2 ≡ false → 12 ≡ early form u
  unfolding early known
  unknown-form a b = rw (a, b) refl

  pub over-length : known form ≡ true → ltb max_update (length u) ≡ true → 3 ≡ early form u
  unfolding early
  over-length k l = rw (k, l) refl

  pub not-early : known form ≡ true → ltb max_update (length u) ≡ false → 0 ≡ early form u
  unfolding early
  not-early k l = rw (k, l) refl

-- ---- how a course ends, told by one answer, tells it of every other

abbrev told_with : {A : Type 0} → ℕ → Course A → Result (ℕ × ℕ) Refusal
told_with m c = ending c (λ s. Ok (m, s)) (λ why. Err why)

module _ {A X : Type 0} (done : ℕ → X) (not : Refusal → X) (m : ℕ) where
  told_at : (c : Course A) (n : ℕ) (t : ℕ) → told_with m c ≡ Ok (n, t) → (n ≡ m) × (ending c done not ≡ done t)
  unfolding ending
  told_at (thing a p c) n t e = told_at c n t e
  told_at (over x s) n t e =
      let q : ◌≡◌ {A = ℕ × ℕ} (m, s) (n, t) = cc in (sym (ap (λ (p : ℕ × ℕ). p.0) q), ap done (ap (λ (p : ℕ × ℕ). p.1) q))
  told_at (stopped w) n t e = absurd (let z : ◌≡◌ {A = ℕ} 0 1 = cc in omega arith)

  told-not : (c : Course A) (why : Refusal) → told_with m c ≡ Err why → ending c done not ≡ not why
  unfolding ending
  told-not (thing a p c) why e = told-not c why e
  told-not (over x s) why e = absurd (let z : ◌≡◌ {A = ℕ} 0 1 = cc in omega arith)
  told-not (stopped w) why e = ap not (cc)

-- ---- a refusal leaves rows without a block, and zeros

pub rows_none : (rows : List Block) (n : ℕ) (why : Refusal) → length rows ≡ n → cleared_from 0 rows ≡ table_of n (refused why)
unfolding cleared_from filled_from table_of
rows_none rows n why size = ap (λ (k : ℕ). replicate (k - 0) no_block) size

blocks-none : (n : ℕ) (why : Refusal) → replicate n no_block ≡ table_of n (refused why)
unfolding table_of
blocks-none n why = ap (λ (k : ℕ). replicate k no_block) all
  where
    all : n ≡ n - 0
    all = omega arith

zeros-none : (n : ℕ) (why : Refusal) → padded n [] ≡ range_words n (refused why)
unfolding range_words flat
zeros-none n why = refl

pub words-none : (words : List ℕ) (why : Refusal) → take 0 words ++ replicate (length words - 0) 0 ≡ range_words (length words) (refused why)
words-none words why = padded-none words ∙ zeros-none (length words) why

-- ---- the ways out, of n rows and of m words

-- what is given and left says this reading
abbrev pub Says : Reading → ℕ → ℕ → Update → List Block → List ℕ → Type 0
Says v n m r rows words = (r ≡ answer v) × (rows ≡ table_of n v) × (words ≡ range_words m v)

says-by : (v w : Reading) (n m : ℕ) (r : Update) (rows : List Block) (words : List ℕ) → w ≡ v → Says v n m r rows words → Says w n m r rows words
says-by v w n m r rows words h s = (s.0 ∙ ap answer (sym h), s.1 ∙ ap (table_of n) (sym h), s.2 ∙ ap (range_words m) (sym h))

module _ (form : ℕ) (u : List ℕ) (rows : List Block) (words : List ℕ) where
  abbrev N : ℕ
  N = length rows

  abbrev M : ℕ
  M = length words

  abbrev c₀ : Course Block
  c₀ = fit N (blocks_of form u)

  abbrev bs : List Block
  bs = things c₀

  abbrev here : Reading
  here = reading form u N (M / 3)

  abbrev unread : Refusal
  unread = nowhere (early form u)

  tested : (b : Bool) → eqb (early form u) 0 ≡ b → here ≡ pick b (with_blocks form u (M / 3) c₀) (refused unread)
  unfolding reading
  tested b y = ap (λ (x : Bool). pick x (with_blocks form u (M / 3) c₀) (refused unread)) y

  -- before anything is read
  pub on-early : eqb (early form u) 0 ≡ false → Says here N M (answer (refused unread)) (cleared_from 0 rows) (take 0 words ++ replicate (M - 0) 0)
  on-early y = says-by (refused unread) here N M _ _ _ (tested false y) (refl, rows_none rows N unread refl, words-none words unread)

  module _ (y : eqb (early form u) 0 ≡ true) where
    -- the blocks are refused
    pub on-blocks : (why : Refusal) → filled_of N (blocks_of form u) ≡ Err why
        → Says here N M (answer (refused why)) (filled_rows N (blocks_of form u)) (take 0 words ++ replicate (M - 0) 0)
    unfolding filled_of filled_rows with_blocks
    on-blocks why e =
        says-by (refused why) here N M _ _ _
        (tested true y ∙ told-not (λ s. with_ranges bs (fit (M / 3) (delete_set form u s))) (λ why. refused why) (length bs) c₀ why e) (
          refl,
          told-not (λ s. bs ++ replicate (N - length bs) no_block) (λ why. replicate N no_block) (length bs) c₀ why e ∙ blocks-none N why,
          words-none words why,
        )

    -- they are in the rows, and then comes the delete set
    module _ (n : ℕ) (s : ℕ) (e : filled_of N (blocks_of form u) ≡ Ok (n, s)) where
      begun : (n ≡ length bs) × (with_blocks form u (M / 3) c₀ ≡ with_ranges bs (taken form u s M))
      unfolding filled_of with_blocks taken
      begun = told_at (λ s. with_ranges bs (fit (M / 3) (delete_set form u s))) (λ why. refused why) (length bs) c₀ n s e

      abbrev c : Course Range
      c = taken form u s M

      abbrev whole : Reading
      whole = record { refusal = none; blocks = bs; ranges = normal (things c) }

      pub on-set : (why : Refusal) → set_of form u s M ≡ Err why → length (filled_rows N (blocks_of form u)) ≡ N
          → Says here N M (answer (refused why)) (cleared_from 0 (filled_rows N (blocks_of form u))) (set_words form u s M)
      unfolding set_of set_words with_ranges
      on-set why q size =
          says-by (refused why) here N M _ _ _
          (tested true y ∙ begun.1 ∙ told-not (λ t. whole) (λ why. refused why) (length (normal (things c))) c why q) (
            refl,
            rows_none (filled_rows N (blocks_of form u)) N why size,
            ap (padded M) (told-not (λ t. flat (normal (things c))) (λ why. []) (length (normal (things c))) c why q) ∙ zeros-none M why,
          )

      pub on-ranges : (k : ℕ) (t : ℕ) → set_of form u s M ≡ Ok (k, t)
          → Says here N M (record { refusal = none; blocks = n; ranges = k }) (filled_rows N (blocks_of form u)) (set_words form u s M)
      unfolding set_of set_words with_ranges filled_of filled_rows answer table_of range_words
      on-ranges k t q =
          let z = told_at (λ t. whole) (λ why. refused why) (length (normal (things c))) c k t q in
          says-by whole here N M _ _ _
          (tested true y ∙ begun.1 ∙ z.1) (
            rw (begun.0, z.0) refl,
            (told_at (λ s. bs ++ replicate (N - length bs) no_block) (λ why. replicate N no_block) (length bs) c₀ n s e).1,
            ap (padded M) (told_at (λ t. flat (normal (things c))) (λ why. []) (length (normal (things c))) c k t q).1,
          )
