-- What the four sorts answer, in the words of their long promises. No promise comes to it: Promises says the same shorter.
use Rattle.std.specs.Prelude.{ℕ, List, [], eqb, length}
use Rattle.numbers.specs.Number.{none, nowhere}
use Rattle.block.specs.declared.Id.{Id}
use Rattle.ranges.specs.Ranges.{normal}
use Rattle.kept.specs.Kept.{remote}
use Rattle.sorting.specs.Named.{rule_of}
use Rattle.sorting.specs.Quick.{quick}
use Rattle.sorting.specs.Slow.{slow}
use Rattle.sorting.specs.Held.{rule_held, held_in}
use Rattle.sorting.specs.Sorted.{all_clients, reaches_in}
use Rattle.sort_answers.specs.Answers.{Sort, refused_with, is_rule, Room, why_not}
use Rattle.held_answers.specs.Answers.{SortHeld}
use Rattle.held_answers.specs.Answers as held
use Rattle.meaning.specs.Reads.{when◌then◌else◌}
use Rattle.meaning.specs.Vector.{vector}
use Rattle.meaning.specs.Update.{delete_set}
use Rattle.meaning_calls.specs.Reading.{reading, both}
use Rattle.meaning_sorts.specs.Found.{Sorter, found}

-- ---- against a vector: an unknown rule is 12, after the form and before anything of the update; too little room blames no byte

unfoldable pub fitting : Room → Sort → Sort
fitting m s =
    let why = why_not m (length s.order) (length s.counts) (length s.reaches) (length s.pending) in
    when eqb why 0 then s else refused_with (nowhere why)

unfoldable pub sort_by : Sorter ℕ → ℕ → ℕ → List ℕ → List ℕ → ℕ → ℕ → Room → Sort
sort_by sorter rule form u v block_rows range_rows m =
    let r = reading form u block_rows range_rows in
    when is_rule rule then (both r (vector v) refused_with λ es.
    let cs = all_clients r.blocks es in
    let x = found sorter (rule_of rule) r.blocks cs (remote es) in
    fitting m (record { refusal = none; order = x.order; counts = x.counts; reaches = reaches_in x.end cs; pending = x.pending; reading = r }))
    else refused_with (nowhere 12)

-- ---- by held ids, which are laid out as a form 1 delete set; no reaches are reported

unfoldable pub held_fitting : Room → SortHeld → SortHeld
held_fitting m s =
    let why = why_not m (length s.order) (length s.counts) 0 (length s.pending) in
    when eqb why 0 then s else held.refused_with (nowhere why)

unfoldable pub sort_held_by : Sorter Id → ℕ → List ℕ → List ℕ → ℕ → ℕ → ℕ → Room → SortHeld
sort_held_by sorter form u v block_rows range_rows held_rows m =
    let r = reading form u block_rows range_rows in
    both r (delete_set 1 v held_rows 0) held.refused_with λ rs.
    let x = found sorter rule_held r.blocks (all_clients r.blocks []) (held_in (normal rs)) in
    held_fitting m (record { refusal = none; order = x.order; counts = x.counts; pending = x.pending; held = normal rs; reading = r })

-- ---- the four

abbrev pub sort_of : ℕ → ℕ → List ℕ → List ℕ → ℕ → ℕ → Room → Sort
sort_of = sort_by quick

abbrev pub slow_sort_of : ℕ → ℕ → List ℕ → List ℕ → ℕ → ℕ → Room → Sort
slow_sort_of = sort_by slow

abbrev pub sort_held_of : ℕ → List ℕ → List ℕ → ℕ → ℕ → ℕ → Room → SortHeld
sort_held_of = sort_held_by quick

abbrev pub slow_sort_held_of : ℕ → List ℕ → List ℕ → ℕ → ℕ → ℕ → Room → SortHeld
slow_sort_held_of = sort_held_by slow
