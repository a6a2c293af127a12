-- What every reading has, refused or done: it fits the rows and words lent, it is got back from them, and a diff or an order can be made of it.
use Prim.Native.Nat.{ℕ, ◌-◌, ◌*◌, ◌/◌, ◌≤◌}
use mathlib.Core.Path.{◌≡◌, refl}
use mathlib.Core.Bool.{Bool, true, false}
use mathlib.Core.List.{List}
use native.Mathlib.Omega.{arith}
use lib.Dec.{ltb, eqb}
use lib.ListN.{length, take, replicate, length-append, length-replicate}
use lib.Seq.{take_at}
use borrow.Author.Tests.{eqb-true, ltb-false}
use Rattle.numbers.specs.declared.Refusal.{Refusal}
use Rattle.numbers.specs.Number.{pick, none, nowhere}
use Rattle.numbers.specs.Limits.{max_update, max_clients, max_blocks}
use Rattle.numbers.specs.Output.{padded}
use Rattle.block.specs.declared.Block.{Block}
use Rattle.block.specs.Row.{no_block}
use Rattle.grammar.specs.Course.{Course, thing, over, stopped, fit, things, ending}
use Rattle.ranges.specs.Ranges.{Range, normal}
use Rattle.ranges.specs.Table.{flat}
use Rattle.ranges.specs.TableInner.{rows_from}
use Rattle.ranges.proofs.Flat.{length-flat, rows-flat}
use Rattle.ranges.proofs.Theory.{normal-length}
use Rattle.decoder.specs.Update.{blocks_of, delete_set}
use Rattle.readings.specs.Sound.{owner, All}
use Rattle.readings.specs.SoundInner.{Sound, Ordered}
use Rattle.readings.specs.Groups.{groups}
use Rattle.readings.proofs.Sounds.{blocks-sound}
use Rattle.readings.proofs.Orders.{blocks-ordered}
use Rattle.readings.proofs.Counts.{blocks-count, blocks-groups}
use Rattle.readings.proofs.Fits.{fit_has, fit_count}
use Rattle.updates.specs.Promises.{Reading, refused, with_ranges, with_blocks, known, early, reading, table_of, range_words}

pub length-padded : (n : ℕ) (b : List ℕ) → length b ≤ n → length (padded n b) ≡ n
unfolding padded
length-padded n b h = omega (arith, length-append b (replicate (n - length b) 0), length-replicate {A = ℕ} (n - length b) 0)

-- what follows a course is a refusal, or the course ends well
pub followed : {A : Type 0} (P : Reading → Type 0) (then : ℕ → Reading) → ((why : Refusal) → P (refused why)) → (c : Course A)
    → (ending c (λ s. true) (λ why. false) ≡ true → (s : ℕ) → P (then s)) → P (ending c then (λ why. refused why))
unfolding ending
followed P then h (thing a p c) k = followed P then h c k
followed P then h (over x s) k = k refl s
followed P then h (stopped why) k = h why

-- ---- a reading of u with n block rows and m range rows

pub record Good (u : List ℕ) (n m : ℕ) (r : Reading) : Type 0 where
  pub fits : length r.blocks ≤ n
  pub ranges : length r.ranges ≤ m
  pub ordered : Ordered r.blocks
  pub sound : All (Sound u) r.blocks
  pub count : length r.blocks ≤ max_blocks
  pub clients : length (groups owner r.blocks) ≤ max_clients

module _ (form : ℕ) (u : List ℕ) (n m : ℕ) where
  refused-good : (why : Refusal) → Good u n m (refused why)
  unfolding Ordered groups
  refused-good why =
      record { fits = omega arith; ranges = omega arith; ordered = tt; sound = tt; count = omega arith; clients = omega arith }

  abbrev c : Course Block
  c = fit n (blocks_of form u)

  abbrev found : ℕ → List Range
  found s = normal (things (fit m (delete_set form u s)))

  done-good : ending c (λ s. true) (λ why. false) ≡ true → (s : ℕ) → Good u n m (record { refusal = none; blocks = things c; ranges = found s })
  done-good e s =
      record {
        fits = fit_count n (blocks_of form u);
        ranges = omega (arith, normal-length (things (fit m (delete_set form u s))), fit_count m (delete_set form u s));
        ordered = fit_has Ordered n (blocks_of form u) e (blocks-ordered form u);
        sound = fit_has (All (Sound u)) n (blocks_of form u) e (blocks-sound form u);
        count = fit_has (λ (bs : List Block). length bs ≤ max_blocks) n (blocks_of form u) e (blocks-count form u);
        clients = fit_has (λ (bs : List Block). length (groups owner bs) ≤ max_clients) n (blocks_of form u) e (blocks-groups form u);
      }

  with-good : Good u n m (with_blocks form u m c)
  unfolding with_blocks with_ranges
  with-good =
      followed (Good u n m) _ refused-good c (λ e s. followed (Good u n m) _ refused-good (fit m (delete_set form u s)) (λ _ t. done-good e s))

  pub reading-good : Good u n m (reading form u n m)
  unfolding reading
  reading-good = go (eqb (early form u) 0)
    where
      go : (x : Bool) → Good u n m (pick x (with_blocks form u m c) (refused (nowhere (early form u))))
      go true = with-good
      go false = refused-good (nowhere (early form u))

  -- ---- 0 says that the update's length was right

  pub not-early : (reading form u n m).refusal.number ≡ 0 → early form u ≡ 0
  unfolding reading
  not-early h = go (eqb (early form u) 0) refl h
    where
      go : (x : Bool) → eqb (early form u) 0 ≡ x → (pick x (with_blocks form u m c) (refused (nowhere (early form u)))).refusal.number ≡ 0
          → early form u ≡ 0
      go true e h = eqb-true (early form u) 0 e
      go false e h = h

  short-of : early form u ≡ 0 → length u ≤ max_update
  unfolding early
  short-of e = go (known form) (ltb max_update (length u)) refl e
    where
      go : (x y : Bool) → ltb max_update (length u) ≡ y → ◌≡◌ {A = ℕ} (pick x (pick y 3 0) 12) 0 → length u ≤ max_update
      go true true l e = absurd (omega (arith, e))
      go true false l e = ltb-false max_update (length u) l
      go false y l e = absurd (omega (arith, e))

  pub short : (reading form u n m).refusal.number ≡ 0 → length u ≤ max_update
  short h = short-of (not-early h)

-- ---- in M rows and in N words

module _ (form : ℕ) (u : List ℕ) (M N : ℕ) where
  abbrev R : Reading
  R = reading form u M (N / 3)

  abbrev good : Good u M (N / 3) R
  good = reading-good form u M (N / 3)

  pub rows_fit : length R.blocks ≤ M
  rows_fit = good.fits

  pub words-fit : 3 * length R.ranges ≤ N
  words-fit = omega (arith, good.ranges)

  pub rows-length : length (table_of M R) ≡ M
  unfolding table_of
  rows-length =
      omega (arith, rows_fit, length-append R.blocks (replicate (M - length R.blocks) no_block), length-replicate (M - length R.blocks) no_block)

  pub words-length : length (range_words N R) ≡ N
  unfolding range_words
  words-length = length-padded N (flat R.ranges) (omega (arith, words-fit, length-flat R.ranges))

  pub rows_back : take (length R.blocks) (table_of M R) ≡ R.blocks
  unfolding table_of
  rows_back = take_at R.blocks (replicate (M - length R.blocks) no_block) (length R.blocks) refl

  pub words_back : rows_from (range_words N R) 0 (length R.ranges) ≡ R.ranges
  unfolding range_words padded
  words_back = rows-flat R.ranges (replicate (N - length (flat R.ranges)) 0)
