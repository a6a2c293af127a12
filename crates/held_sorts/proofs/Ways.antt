-- The ways out of a public call that sorts by held ids, whatever order its sorter takes, with no machine: what is given and left at each keeps the promise.
use Prim.Native.Nat.{ℕ, ◌-◌, ◌*◌, ◌/◌, ◌≤◌}
use mathlib.Core.Path.{◌≡◌, refl, sym, ap, subst, ◌∙◌}
use mathlib.Core.Bool.{Bool, true, false}
use mathlib.Core.List.{List, []}
use native.Mathlib.Omega.{arith}
use lib.Dec.{ltb, eqb}
use lib.ListN.{length, replicate}
use borrow.Author.Tests.{eq-eqb, ne_eqb, ltb-false}
use Rattle.numbers.specs.declared.Refusal.{Refusal}
use Rattle.numbers.specs.Number.{pick, nowhere}
use Rattle.numbers.specs.Output.{padded}
use Rattle.block.specs.declared.Block.{Block}
use Rattle.grammar.specs.Course.{Course, thing, over, stopped, fit, things, ending}
use Rattle.ranges.specs.Ranges.{Range, normal}
use Rattle.ranges.specs.RangesInner.{Normal}
use Rattle.ranges.specs.Table.{flat}
use Rattle.ranges.specs.TableInner.{rows_from}
use Rattle.ranges.proofs.Flat.{length-flat, rows-flat}
use Rattle.ranges.proofs.Theory.{normal-length, normal-is}
use Rattle.decoder.specs.Update.{delete_set}
use Rattle.readings.proofs.Fits.{fit_count}
use Rattle.deletes.specs.DeleteSet.{taken, words_of as words_read}
use Rattle.reports.specs.Reports.{fitted}
use Rattle.reports.proofs.Fitted.{fitted-padded, fitted-length}
use Rattle.sorter.specs.declared.Sorting.{Sorting}
use Rattle.updates.specs.Promises.{Reading, refused, reading, answer, table_of, range_words}
use Rattle.updates.proofs.Read.{length-padded, reading-good, rows-length, words-length, rows_fit}
use Rattle.sort_answers.specs.Answers.{Room, why_not}
use Rattle.sort_answers.specs.AnswersInner.{judged}
use Rattle.held_outcome.proofs.Came.{Fit}
use Rattle.held_answers.specs.declared.HeldRead.{HeldRead}
use Rattle.held_answers.specs.declared.SortedHeld.{SortedHeld}
use Rattle.held_answers.specs.Answers.{SortHeld, refused_with, answered}
use Rattle.held_answers.specs.AnswersInner.{given, not_given, read_held, words_given, answer_to}
use Rattle.held_sorts.specs.Promises.{lent, Findings, Finder, sorted_all, why_sort, fitting, against, after_reading, sort_held_by, Leaves}

-- ---- held ids that were refused, and those that were read

module _ (n : ℕ) {X : Type 0} (a : X) (h : ℕ → X) where
  abbrev told : Course Range → HeldRead
  told c = ending c (λ _. given n) (λ why. not_given why.number)

  not-read : (c : Course Range) → (told c).refused ≡ true → ending c (λ _. a) (λ why. h why.number) ≡ h (told c).number
  unfolding ending
  not-read (thing r p c) e = not-read c e
  not-read (over x t) e = absurd (let z : ◌≡◌ {A = ℕ} 0 1 = cc in omega arith)
  not-read (stopped w) e = refl

  was_read : (c : Course Range) → (told c).refused ≡ false → (ending c (λ _. a) (λ why. h why.number) ≡ a) × (told c ≡ given n)
  unfolding ending
  was_read (thing r p c) e = was_read c e
  was_read (over x t) e = (refl, refl)
  was_read (stopped w) e = absurd (let z : ◌≡◌ {A = ℕ} 0 1 = cc in omega arith)

-- ---- 0 says that there is room for all of it

module _ (m : Room) (o c q : ℕ) where
  abbrev Fits : Type 0
  Fits = (o ≤ m.order) × (c ≤ m.counts) × (q ≤ m.pending)

  all_fit : why_not m o c 0 q ≡ 0 → Fits
  unfolding why_not
  all_fit = go (ltb m.order o) refl (ltb m.counts c) refl (ltb m.reaches 0) (ltb m.pending q) refl
    where
      go : (x : Bool) → ltb m.order o ≡ x → (y : Bool) → ltb m.counts c ≡ y → (z : Bool)
          → (t : Bool) → ltb m.pending q ≡ t → ◌≡◌ {A = ℕ} (pick x 8 (pick y 10 (pick z 10 (pick t 10 0)))) 0 → Fits
      go true ex y ey z t et h = absurd (omega (arith, h))
      go false ex true ey z t et h = absurd (omega (arith, h))
      go false ex false ey true t et h = absurd (omega (arith, h))
      go false ex false ey false true et h = absurd (omega (arith, h))
      go false ex false ey false false et h = (ltb-false m.order o ex, ltb-false m.counts c ey, ltb-false m.pending q et)

module _ (F : Finder) (form : ℕ) (u v : List ℕ) (rows₀ : List Block) (ranges₀ given₀ order₀ counts₀ pending₀ : List ℕ) where
  abbrev M : ℕ
  M = length rows₀

  abbrev N : ℕ
  N = length ranges₀

  abbrev K : ℕ
  K = length given₀

  abbrev room : Room
  room = lent order₀ counts₀ pending₀

  abbrev R : Reading
  R = reading form u M (N / 3)

  abbrev c : Course Range
  c = fit (K / 3) (delete_set 1 v 0)

  abbrev rs : List Range
  rs = normal (things c)

  abbrev G : HeldRead
  G = read_held v K

  abbrev W : List ℕ
  W = words_given v K

  abbrev s : SortHeld
  s = sort_held_by F form u v M (N / 3) (K / 3) room

  abbrev Right : SortedHeld → List Block → List ℕ → List ℕ → List ℕ → List ℕ → List ℕ → Type 0
  Right r rows ranges held order counts pending = Leaves s rows₀ ranges₀ given₀ order₀ counts₀ pending₀ r rows ranges held order counts pending

  -- a refusal leaves nothing
  by-refusal : (why : Refusal) (m k j : ℕ) (order counts pending : List ℕ) → s ≡ refused_with why → m ≡ M → k ≡ N → j ≡ K
      → length order ≡ length order₀ → length counts ≡ length counts₀ → length pending ≡ length pending₀
      → Right (answered (refused_with why)) (table_of m (refused why)) (range_words k (refused why)) (padded j []) (padded (length order) []) (padded (length counts) [])
      (padded (length pending) [])
  unfolding flat
  by-refusal why m k j order counts pending e p q t a b d = (
    ap answered (sym e),
    ap (λ (x : ℕ). table_of x (refused why)) p ∙ ap (λ (x : SortHeld). table_of M x.reading) (sym e),
    ap (λ (x : ℕ). range_words x (refused why)) q ∙ ap (λ (x : SortHeld). range_words N x.reading) (sym e),
    ap (λ (x : ℕ). padded x []) t ∙ ap (λ (x : SortHeld). padded K (flat x.held)) (sym e),
    ap (λ (x : ℕ). padded x []) a ∙ ap (λ (x : SortHeld). padded (length order₀) x.order) (sym e),
    ap (λ (x : ℕ). padded x []) b ∙ ap (λ (x : SortHeld). padded (length counts₀) x.counts) (sym e),
    ap (λ (x : ℕ). padded x []) d ∙ ap (λ (x : SortHeld). padded (length pending₀) x.pending) (sym e),
  )

  pub exit-unread : (R.refusal.number ≡ 0 → ⊥)
      → Right (answered (refused_with R.refusal)) (table_of (length (table_of M R)) (refused R.refusal)) (range_words (length (range_words N R)) (refused R.refusal))
      (padded (length given₀) []) (padded (length order₀) []) (padded (length counts₀) []) (padded (length pending₀) [])
  unfolding sort_held_by after_reading
  exit-unread z =
      by-refusal R.refusal (length (table_of M R)) (length (range_words N R)) K order₀ counts₀ pending₀
      (ap (λ (x : Bool). pick x (against F room c R) (refused_with R.refusal)) (ne_eqb R.refusal.number 0 z))
      (rows-length form u M N) (words-length form u M N) refl refl refl refl

  -- ---- the update was read

  rs-fit : 3 * length rs ≤ K
  rs-fit = omega (arith, normal-length (things c), fit_count (K / 3) (delete_set 1 v 0))

  module _ (z : R.refusal.number ≡ 0) where
    after_is : s ≡ against F room c R
    unfolding sort_held_by after_reading
    after_is = ap (λ (x : Bool). pick x (against F room c R) (refused_with R.refusal)) (eq-eqb R.refusal.number 0 z)

    -- the held ids were refused
    module _ (y : G.refused ≡ true) where
      words-none : W ≡ padded K []
      unfolding words_given words_read taken read_held
      words-none = ap (padded K) (not-read (length rs) (flat rs) (λ n. []) c y)

      refused-is : s ≡ refused_with (nowhere G.number)
      unfolding against read_held taken
      refused-is = after_is ∙ not-read (length rs) (fitting room (sorted_all F rs R)) (λ n. refused_with (nowhere n)) c y

      pub exit-ungiven : Right (answered (refused_with (nowhere G.number))) (table_of (length (table_of M R)) (refused (nowhere G.number)))
          (range_words (length (range_words N R)) (refused (nowhere G.number))) (padded (length W) []) (padded (length order₀) []) (padded (length counts₀) [])
          (padded (length pending₀) [])
      exit-ungiven =
          by-refusal (nowhere G.number) (length (table_of M R)) (length (range_words N R)) (length W) order₀ counts₀ pending₀ refused-is
          (rows-length form u M N) (words-length form u M N) (ap length words-none ∙ length-padded K [] (omega arith)) refl refl refl

    -- they were read
    module _ (y : G.refused ≡ false) where
      words_are : W ≡ padded K (flat rs)
      unfolding words_given words_read taken read_held
      words_are = ap (padded K) (was_read (length rs) (flat rs) (λ n. []) c y).0

      given_is : G ≡ given (length rs)
      unfolding read_held taken
      given_is = (was_read (length rs) (flat rs) (λ n. []) c y).1

      many : G.ranges ≡ length rs
      many = ap (λ (g : HeldRead). g.ranges) given_is

      long : length W ≡ K
      long = ap length words_are ∙ length-padded K (flat rs) (omega (arith, rs-fit, length-flat rs))

      abbrev bs : List Block
      bs = R.blocks

      -- ---- what a sorter is given

      pub asks : ((answer R).blocks ≤ length (table_of M R)) × (3 * G.ranges ≤ length W)
      unfolding answer
      asks = (omega (arith, rows_fit form u M N, rows-length form u M N), omega (arith, rs-fit, many, long))

      pub back : rows_from W 0 G.ranges ≡ rs
      unfolding padded
      back = rw (many, words_are) (rows-flat rs (replicate (K - length (flat rs)) 0))

      pub is_normal : Normal (rows_from W 0 G.ranges)
      is_normal = subst Normal (sym back) (normal-is (things c)).0

      pub fine : Fit bs
      fine = let good = reading-good form u M (N / 3) in record { ordered = good.ordered; count = good.count; groups = good.clients }

      -- ---- what it finds

      abbrev found : Findings
      found = F bs rs

      abbrev made : Sorting
      made = record { number = 0; steps = length found.order; counts = length found.counts; reaches = 0; pending = length found.pending }

      -- it gives S and leaves these words
      pub record Gives (S : Sorting) (O C Q : List ℕ) : Type 0 where
        pub sorting : S ≡ made
        pub order : O ≡ fitted (length order₀) found.order
        pub counts : C ≡ fitted (length counts₀) found.counts
        pub pending : Q ≡ fitted (length pending₀) found.pending

      abbrev last : ℕ
      last = why_sort room (sorted_all F rs R)

      sort-at : s ≡ pick (eqb last 0) (sorted_all F rs R) (refused_with (nowhere last))
      unfolding against fitting read_held taken
      sort-at = after_is ∙ (was_read (length rs) (fitting room (sorted_all F rs R)) (λ n. refused_with (nowhere n)) c y).0

      -- ---- judged with so many words

      module _ {S : Sorting} {O C Q : List ℕ} (g : Gives S O C Q) (order counts pending : ℕ) (a : length order₀ ≡ order) (b : length counts₀ ≡ counts)
          (d : length pending₀ ≡ pending) where
        abbrev why : ℕ
        why = judged S order counts 0 pending

        why-at : why ≡ last
        unfolding judged why_sort sorted_all
        why-at = rw (← a, ← b, ← d, g.sorting) refl

        pub exit-refused : (why ≡ 0 → ⊥)
            → Right (answered (refused_with (nowhere why))) (table_of (length (table_of M R)) (refused (nowhere why))) (range_words (length (range_words N R)) (refused (nowhere why)))
            (padded (length W) []) (padded (length O) []) (padded (length C) []) (padded (length Q) [])
        exit-refused h =
            by-refusal (nowhere why) (length (table_of M R)) (length (range_words N R)) (length W) O C Q
            (sort-at ∙ ap (λ (x : Bool). pick x (sorted_all F rs R) (refused_with (nowhere last))) (ne_eqb last 0 (λ e. h (why-at ∙ e))) ∙ ap (λ (n : ℕ). refused_with (nowhere n)) (sym why-at))
            (rows-length form u M N) (words-length form u M N) long (ap length g.order ∙ fitted-length (length order₀) found.order)
            (ap length g.counts ∙ fitted-length (length counts₀) found.counts) (ap length g.pending ∙ fitted-length (length pending₀) found.pending)

        pub exit-done : why ≡ 0 → Right (answer_to (answer R) G.ranges S) (table_of M R) (range_words N R) W O C Q
        unfolding answer_to answer answered sorted_all why_sort
        exit-done h = (
          ap (answer_to (answer R) G.ranges) g.sorting ∙ ap (λ (n : ℕ). answer_to (answer R) n made) many ∙ ap answered (sym done-is),
          ap (λ (x : SortHeld). table_of M x.reading) (sym done-is),
          ap (λ (x : SortHeld). range_words N x.reading) (sym done-is),
          words_are ∙ ap (λ (x : SortHeld). padded K (flat x.held)) (sym done-is),
          g.order ∙ fitted-padded (length order₀) found.order fits.0 ∙ ap (λ (x : SortHeld). padded (length order₀) x.order) (sym done-is),
          g.counts ∙ fitted-padded (length counts₀) found.counts fits.1 ∙ ap (λ (x : SortHeld). padded (length counts₀) x.counts) (sym done-is),
          g.pending ∙ fitted-padded (length pending₀) found.pending fits.2 ∙ ap (λ (x : SortHeld). padded (length pending₀) x.pending) (sym done-is),
        )
          where
            ok : last ≡ 0
            ok = sym why-at ∙ h

            fits : Fits room (length found.order) (length found.counts) (length found.pending)
            fits = all_fit room (length found.order) (length found.counts) (length found.pending) ok

            done-is : s ≡ sorted_all F rs R
            done-is = sort-at ∙ ap (λ (x : Bool). pick x (sorted_all F rs R) (refused_with (nowhere last))) (eq-eqb last 0 ok)
