-- That the promises of the four sorts are the long-standing ones.
use Prim.Native.Nat.{ℕ, ◌/◌}
use mathlib.Core.Path.{◌≡◌, refl, ap, ◌∙◌}
use mathlib.Core.Bool.{Bool, true, false, ◌||◌}
use mathlib.Core.List.{List, []}
use lib.Dec.{ltb, eqb, leb-suc-zero}
use lib.ListN.{length}
use Rattle.numbers.specs.declared.Refusal.{Refusal}
use Rattle.numbers.specs.Number.{pick, nowhere}
use Rattle.block.specs.declared.Id.{Id}
use Rattle.block.specs.declared.Block.{Block}
use Rattle.updates.specs.Promises.{Reading}
use Rattle.sorting.specs.Quick.{quick}
use Rattle.sorting.specs.Slow.{slow}
use Rattle.sort_answers.specs.declared.Sorted.{Sorted}
use Rattle.sort_answers.specs.Answers as answers
use Rattle.sort_answers.specs.Answers.{is_rule, why_not}
use Rattle.held_answers.specs.declared.SortedHeld.{SortedHeld}
use Rattle.held_answers.specs.Answers as held-answers
use Rattle.sorts.specs.Promises as sorts
use Rattle.slow_sorts.specs.Promises as slow-sorts
use Rattle.held_sorts.specs.Promises as held-sorts
use Rattle.slow_held_sorts.specs.Promises as slow-held-sorts
use Rattle.meaning.specs.Reads.{when◌then◌else◌, Got, got, refused}
use Rattle.meaning.specs.Reads.{comes_to}
use Rattle.meaning.specs.Vector.{vector}
use Rattle.meaning.specs.Update.{delete_set}
use Rattle.meaning_calls.specs.Reading.{reading, both}
use Rattle.meaning_sorts.specs.Found.{Sorter}
use Rattle.meaning_sorts.specs.Sorts as long
use Rattle.meaning_sorts.specs.Promises.{Sort, nothing, sorted, sorted_held, fitting, SortUpdate, SortSlowly, SortUpdateHeld, SortHeldSlowly}
use Rattle.meaning_sorts.proofs.Sorts.{sort-same, slow-same, held_same, slow-held-same}

-- ---- a sort in the records of the long promises

abbrev pub inner : Sort → answers.Sort
inner s =
    record { refusal = s.refusal; order = s.order; counts = s.counts; reaches = s.reaches; pending = s.pending; reading = s.reading }

abbrev pub inner_held : Sort → held-answers.SortHeld
inner_held s =
    record { refusal = s.refusal; order = s.order; counts = s.counts; pending = s.pending; held = s.held; reading = s.reading }

-- ---- what is said case by case, before and after a function of what is answered

alternatives : (x y : Bool) → pick x true y ≡ x || y
alternatives true y = refl
alternatives false y = refl

module _ {A B : Type 0} (h : A → B) where
  either : (x : Bool) (a b : B) (c d : A) → a ≡ h c → b ≡ h d → (when x then a else b) ≡ h (when x then c else d)
  unfolding when◌then◌else◌
  either true a b c d p q = p
  either false a b c d p q = q

  both-either : {X : Type 0} (r : Reading) (v : Got ℕ X) (f : Refusal → B) (g : X → B) (refuse : Refusal → A) (go : X → A)
      → ((why : Refusal) → f why ≡ h (refuse why)) → ((x : X) → g x ≡ h (go x)) → both r v f g ≡ h (both r v refuse go)
  unfolding both comes_to
  both-either r (got x s) f g refuse go p q = either (eqb r.refusal.number 0) _ _ _ _ (q x) (p r.refusal)
  both-either r (refused n e) f g refuse go p q = either (eqb r.refusal.number 0) _ _ _ _ (p (nowhere n)) (p r.refusal)

  -- too little room, by the four tests
  room-either : (s : A) (refuse : ℕ → A) (a b c d : Bool)
      → (when eqb (pick a 8 (pick b 10 (pick c 10 (pick d 10 0)))) 0 then h s else h (refuse (pick a 8 (pick b 10 (pick c 10 (pick d 10 0))))))
      ≡ h (when a then refuse 8 else when b || (c || d) then refuse 10 else s)
  unfolding when◌then◌else◌
  room-either s refuse true b c d = refl
  room-either s refuse false true c d = refl
  room-either s refuse false false true d = refl
  room-either s refuse false false false true = refl
  room-either s refuse false false false false = refl

-- ---- in the words lent

abbrev over : List ℕ → List ℕ → Bool
over words lent = ltb (length lent) (length words)

module _ (order counts reaches pending : List ℕ) where
  -- a refusal takes none
  nothing-fits : (why : Refusal) → nothing why ≡ fitting order counts reaches pending (nothing why)
  unfolding fitting when◌then◌else◌
  nothing-fits why =
      rw (leb-suc-zero (length order), leb-suc-zero (length counts), leb-suc-zero (length reaches), leb-suc-zero (length pending))

  -- ---- against a vector

  sort-fits : (s : Sort) → long.fitting (sorts.lent order counts reaches pending) (inner s) ≡ inner (fitting order counts reaches pending s)
  unfolding long.fitting fitting why_not
  sort-fits s =
      room-either inner s (λ n. nothing (nowhere n)) (over s.order order) (over s.counts counts) (over s.reaches reaches)
      (over s.pending pending)

  pub sort-inner : (sorter : Sorter ℕ) (rule form : ℕ) (u v : List ℕ) (block_rows range_rows : ℕ)
      → long.sort_by sorter rule form u v block_rows range_rows (sorts.lent order counts reaches pending)
      ≡ inner (fitting order counts reaches pending (sorted sorter rule form u v block_rows range_rows))
  unfolding long.sort_by sorted is_rule
  sort-inner sorter rule form u v block_rows range_rows =
      let h : Sort → answers.Sort = λ s. inner (fitting order counts reaches pending s) in
      let refuses : (why : Refusal) → answers.refused_with why ≡ h (nothing why) = λ why. ap inner (nothing-fits why) in
      rw (alternatives (eqb rule 13) (eqb rule 28))
      (either h (eqb rule 13 || eqb rule 28) _ _ _ _
      (both-either h (reading form u block_rows range_rows) (vector v) _ _ _ _ refuses (λ es. sort-fits _)) (refuses (nowhere 12)))

-- ---- by held ids, with no reaches

abbrev outer : held-answers.SortHeld → Sort
outer s =
    record { refusal = s.refusal; order = s.order; counts = s.counts; reaches = []; pending = s.pending; held = s.held; reading = s.reading }

module _ (order counts pending : List ℕ) where
  held_fits : (s : held-answers.SortHeld)
      → long.held_fitting (held-sorts.lent order counts pending) s ≡ inner_held (fitting order counts [] pending (outer s))
  unfolding long.held_fitting fitting why_not
  held_fits s =
      room-either inner_held (outer s) (λ n. nothing (nowhere n)) (over s.order order) (over s.counts counts) false (over s.pending pending)

  pub held_inner : (sorter : Sorter Id) (form : ℕ) (u v : List ℕ) (block_rows range_rows held_rows : ℕ)
      → long.sort_held_by sorter form u v block_rows range_rows held_rows (held-sorts.lent order counts pending)
      ≡ inner_held (fitting order counts [] pending (sorted_held sorter form u v block_rows range_rows held_rows))
  unfolding long.sort_held_by sorted_held
  held_inner sorter form u v block_rows range_rows held_rows =
      both-either (λ s. inner_held (fitting order counts [] pending s)) (reading form u block_rows range_rows) (delete_set 1 v held_rows 0) _ _ _ _
      (λ why. ap inner_held (nothing-fits order counts [] pending why)) (λ rs. held_fits _)

-- ---- the four

pub sort-promise : (rule form : ℕ) (u v : List ℕ) (rows : List Block) (ranges order counts reaches pending : List ℕ)
    (r : Sorted) (rows₁ : List Block) (ranges₁ order₁ counts₁ reaches₁ pending₁ : List ℕ)
    → sorts.SortUpdate rule form u v rows ranges order counts reaches pending r rows₁ ranges₁ order₁ counts₁ reaches₁ pending₁
    ≡ SortUpdate rule form u v rows ranges order counts reaches pending r rows₁ ranges₁ order₁ counts₁ reaches₁ pending₁
unfolding answers.answered
sort-promise rule form u v rows ranges order counts reaches pending r rows₁ ranges₁ order₁ counts₁ reaches₁ pending₁ =
    ap (λ s. sorts.Leaves s rows ranges order counts reaches pending r rows₁ ranges₁ order₁ counts₁ reaches₁ pending₁)
    (sort-same rule form u v _ _ _ ∙ sort-inner order counts reaches pending quick rule form u v (length rows) (length ranges / 3))

pub slow-promise : (rule form : ℕ) (u v : List ℕ) (rows : List Block) (ranges order counts reaches pending : List ℕ)
    (r : Sorted) (rows₁ : List Block) (ranges₁ order₁ counts₁ reaches₁ pending₁ : List ℕ)
    → slow-sorts.SortSlowly rule form u v rows ranges order counts reaches pending r rows₁ ranges₁ order₁ counts₁ reaches₁ pending₁
    ≡ SortSlowly rule form u v rows ranges order counts reaches pending r rows₁ ranges₁ order₁ counts₁ reaches₁ pending₁
unfolding answers.answered
slow-promise rule form u v rows ranges order counts reaches pending r rows₁ ranges₁ order₁ counts₁ reaches₁ pending₁ =
    ap (λ s. sorts.Leaves s rows ranges order counts reaches pending r rows₁ ranges₁ order₁ counts₁ reaches₁ pending₁)
    (slow-same rule form u v _ _ _ ∙ sort-inner order counts reaches pending slow rule form u v (length rows) (length ranges / 3))

pub held-promise : (form : ℕ) (u v : List ℕ) (rows : List Block) (ranges held order counts pending : List ℕ)
    (r : SortedHeld) (rows₁ : List Block) (ranges₁ held₁ order₁ counts₁ pending₁ : List ℕ)
    → held-sorts.SortUpdateHeld form u v rows ranges held order counts pending r rows₁ ranges₁ held₁ order₁ counts₁ pending₁
    ≡ SortUpdateHeld form u v rows ranges held order counts pending r rows₁ ranges₁ held₁ order₁ counts₁ pending₁
unfolding held-answers.answered
held-promise form u v rows ranges held order counts pending r rows₁ ranges₁ held₁ order₁ counts₁ pending₁ =
    ap (λ s. held-sorts.Leaves s rows ranges held order counts pending r rows₁ ranges₁ held₁ order₁ counts₁ pending₁)
    (held_same form u v _ _ _ _ ∙ held_inner order counts pending quick form u v (length rows) (length ranges / 3) (length held / 3))

pub slow-held-promise : (form : ℕ) (u v : List ℕ) (rows : List Block) (ranges held order counts pending : List ℕ)
    (r : SortedHeld) (rows₁ : List Block) (ranges₁ held₁ order₁ counts₁ pending₁ : List ℕ)
    → slow-held-sorts.SortHeldSlowly form u v rows ranges held order counts pending r rows₁ ranges₁ held₁ order₁ counts₁ pending₁
    ≡ SortHeldSlowly form u v rows ranges held order counts pending r rows₁ ranges₁ held₁ order₁ counts₁ pending₁
unfolding held-answers.answered
slow-held-promise form u v rows ranges held order counts pending r rows₁ ranges₁ held₁ order₁ counts₁ pending₁ =
    ap (λ s. held-sorts.Leaves s rows ranges held order counts pending r rows₁ ranges₁ held₁ order₁ counts₁ pending₁)
    (slow-held-same form u v _ _ _ _ ∙ held_inner order counts pending slow form u v (length rows) (length ranges / 3) (length held / 3))
