-- That the four sorts answer what the promises say.
use Prim.Native.Nat.{ℕ}
use mathlib.Core.Path.{◌≡◌, refl}
use mathlib.Core.Bool.{Bool, true, false}
use mathlib.Core.List.{List, []}
use Rattle.numbers.specs.Number.{pick, none, nowhere}
use Rattle.block.specs.declared.Id.{Id}
use Rattle.ranges.specs.Ranges.{Range, normal}
use Rattle.grammar.specs.Course.{fit}
use Rattle.decoder.specs.Update as decoder
use Rattle.vector.specs.Vector.{Entry, vector_of}
use Rattle.kept.specs.Kept.{remote}
use Rattle.sorting.specs.Rules.{Rule}
use Rattle.sorting.specs.Named.{rule_of}
use Rattle.sorting.specs.Quick.{quick}
use Rattle.sorting.specs.Sorted.{all_clients, reaches_in, order, outcome, order_of, counts_of, reaches_of, pending_of}
use Rattle.sorting.specs.Slow.{slow, slow_steps, slow_outcome, slow_order_of, slow_counts_of, slow_reaches_of, slow_pending_of}
use Rattle.sorting.specs.Held.{rule_held, held_in, order_held, counts_held, pending_held}
use Rattle.held_swept.specs.HeldSlowly.{slow_order_held, slow_counts_held, slow_pending_held}
use Rattle.updates.specs.Promises.{Reading}
use Rattle.sort_answers.specs.Answers.{Sort, refused_with, is_rule, Room}
use Rattle.held_answers.specs.Answers.{SortHeld}
use Rattle.held_answers.specs.Answers as held
use Rattle.sorts.specs.Promises as sorts
use Rattle.slow_sorts.specs.Promises as slow-sorts
use Rattle.held_sorts.specs.Promises as held-sorts
use Rattle.slow_held_sorts.specs.Promises as slow-held-sorts
use Rattle.meaning.specs.Reads.{when◌then◌else◌}
use Rattle.meaning.specs.Alike.{collect}
use Rattle.meaning.proofs.Deletes.{deletes-alike}
use Rattle.meaning.proofs.Vector.{vector-same}
use Rattle.meaning_calls.specs.Reading.{reading, both}
use Rattle.meaning_calls.proofs.Reading.{reading-same}
use Rattle.meaning_calls.proofs.Both.{both-same}
use Rattle.meaning_sorts.specs.Found.{Sorter, found}
use Rattle.meaning_sorts.specs.Sorts.{fitting, sort_by, held_fitting, sort_held_by, sort_of, slow_sort_of, sort_held_of, slow_sort_held_of}

either : {A : Type 0} (x : Bool) (a b : A) → pick x a b ≡ when x then a else b
unfolding when◌then◌else◌
either true a b = refl
either false a b = refl

-- ---- against a vector

-- what is found, with the reading that it is found of
abbrev sorted : Sorter ℕ → Rule ℕ → List Entry → Reading → Sort
sorted sorter R es r =
    let cs = all_clients r.blocks es in
    let x = found sorter R r.blocks cs (remote es) in
    record { refusal = none; order = x.order; counts = x.counts; reaches = reaches_in x.end cs; pending = x.pending; reading = r }

module _ (F : sorts.Finder) (sorter : Sorter ℕ) (same : (R : Rule ℕ) (es : List Entry) (r : Reading) → sorts.sorted_all F R es r ≡ sorted sorter R es r) where
  fits-same : (R : Rule ℕ) (m : Room) (es : List Entry) (r : Reading) → sorts.fitting m (sorts.sorted_all F R es r) ≡ fitting m (sorted sorter R es r)
  unfolding sorts.fitting sorts.why_sort fitting
  fits-same R m es r = rw (same R es r) (either _ _ _)

  sort-by : (rule form : ℕ) (u v : List ℕ) (block_rows range_rows : ℕ) (m : Room)
      → sorts.sort_by F rule form u v block_rows range_rows m ≡ sort_by sorter rule form u v block_rows range_rows m
  unfolding sorts.sort_by sorts.after_reading sorts.against sort_by when◌then◌else◌
  sort-by rule form u v block_rows range_rows m = rw (reading-same form u block_rows range_rows, vector-same v) (go (is_rule rule))
    where
      r : Reading
      r = reading form u block_rows range_rows

      go : (x : Bool)
          → pick x (sorts.after_reading F (rule_of rule) m (vector_of v) r) (refused_with (nowhere 12))
          ≡ when x then both r (collect (λ e. e) (vector_of v)) refused_with (λ es. fitting m (sorted sorter (rule_of rule) es r)) else refused_with (nowhere 12)
      go true =
          both-same r (vector_of v) refused_with (λ es. sorts.fitting m (sorts.sorted_all F (rule_of rule) es r))
          (λ es. fitting m (sorted sorter (rule_of rule) es r)) (λ es. fits-same (rule_of rule) m es r)
      go false = refl

pub sort-same : (rule form : ℕ) (u v : List ℕ) (block_rows range_rows : ℕ) (m : Room)
    → sorts.sort_of rule form u v block_rows range_rows m ≡ sort_of rule form u v block_rows range_rows m
unfolding sorts.sorted_all found order outcome order_of counts_of reaches_of pending_of
sort-same = sort-by sorts.quickly quick (λ R es r. refl)

pub slow-same : (rule form : ℕ) (u v : List ℕ) (block_rows range_rows : ℕ) (m : Room)
    → slow-sorts.slow_sort_of rule form u v block_rows range_rows m ≡ slow_sort_of rule form u v block_rows range_rows m
unfolding sorts.sorted_all found slow_steps slow_outcome slow_order_of slow_counts_of slow_reaches_of slow_pending_of
slow-same = sort-by slow-sorts.slowly slow (λ R es r. refl)

-- ---- by held ids

abbrev sorted_held : Sorter Id → List Range → Reading → SortHeld
sorted_held sorter rs r =
    let x = found sorter rule_held r.blocks (all_clients r.blocks []) (held_in rs) in
    record { refusal = none; order = x.order; counts = x.counts; pending = x.pending; held = rs; reading = r }

module _ (F : held-sorts.Finder) (sorter : Sorter Id) (same : (rs : List Range) (r : Reading) → held-sorts.sorted_all F rs r ≡ sorted_held sorter rs r) where
  held-fits-same : (m : Room) (rs : List Range) (r : Reading)
      → held-sorts.fitting m (held-sorts.sorted_all F rs r) ≡ held_fitting m (sorted_held sorter rs r)
  unfolding held-sorts.fitting held-sorts.why_sort held_fitting
  held-fits-same m rs r = rw (same rs r) (either _ _ _)

  held_by : (form : ℕ) (u v : List ℕ) (block_rows range_rows held_rows : ℕ) (m : Room)
      → held-sorts.sort_held_by F form u v block_rows range_rows held_rows m ≡ sort_held_by sorter form u v block_rows range_rows held_rows m
  unfolding held-sorts.sort_held_by held-sorts.after_reading held-sorts.against decoder.delete_set sort_held_by
  held_by form u v block_rows range_rows held_rows m =
      let r = reading form u block_rows range_rows in
      rw (reading-same form u block_rows range_rows, deletes-alike 1 v held_rows 0)
      (both-same r (fit held_rows (decoder.delete_set 1 v 0)) held.refused_with (λ rs. held-sorts.fitting m (held-sorts.sorted_all F (normal rs) r))
      (λ rs. held_fitting m (sorted_held sorter (normal rs) r)) (λ rs. held-fits-same m (normal rs) r))

pub held_same : (form : ℕ) (u v : List ℕ) (block_rows range_rows held_rows : ℕ) (m : Room)
    → held-sorts.sort_held_of form u v block_rows range_rows held_rows m ≡ sort_held_of form u v block_rows range_rows held_rows m
unfolding held-sorts.sorted_all found order outcome order_held counts_held pending_held
held_same = held_by held-sorts.quickly quick (λ rs r. refl)

pub slow-held-same : (form : ℕ) (u v : List ℕ) (block_rows range_rows held_rows : ℕ) (m : Room)
    → slow-held-sorts.slow_sort_held_of form u v block_rows range_rows held_rows m ≡ slow_sort_held_of form u v block_rows range_rows held_rows m
unfolding held-sorts.sorted_all found slow_steps slow_outcome slow_order_held slow_counts_held slow_pending_held
slow-held-same = held_by slow-held-sorts.slowly slow (λ rs r. refl)
