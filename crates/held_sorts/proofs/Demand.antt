-- What `sort_held` promises is demand 3 over held sets: a sort that refuses nothing is the one that demand 3 asks for.
use Prim.Native.Nat.{ℕ}
use mathlib.Core.Path.{◌≡◌, refl, sym, subst}
use mathlib.Core.Bool.{Bool, true, false}
use mathlib.Core.List.{List, []}
use native.Mathlib.Omega.{arith}
use lib.Dec.{eqb}
use borrow.Author.Tests.{eqb-true, eqb-false}
use Rattle.numbers.specs.Number.{pick, nowhere}
use Rattle.grammar.specs.Course.{Course, thing, over, stopped, fit, things, ending}
use Rattle.ranges.specs.Ranges.{Range, normal}
use Rattle.decoder.specs.Update.{delete_set}
use Rattle.sorting.specs.Held.{rule_held, held_in, owners, order_held, counts_held, pending_held}
use Rattle.sorting.proofs.Clients.{clients-blocks}
use Rattle.sorting.proofs.Held.{held-mono}
use Rattle.updates.specs.Promises.{Reading, reading}
use Rattle.sort_answers.specs.Answers.{Room}
use Rattle.held_answers.specs.Answers.{SortHeld, refused_with}
use Rattle.grammar.specs.Numbered as grammar
use Rattle.agreement.specs.Numbered.{Stops}
use Rattle.agreement.proofs.Courses.{fit-stops}
use Rattle.agreement.proofs.Numbered.{deletes-numbered}
use Rattle.held_sorts.specs.Promises.{Finder, quickly, sorted_all, why_sort, fitting, against, after_reading, sort_held_by, sort_held_of}
use Rattle.sorts.proofs.Demand.{demanded}
use Rattle.held_sorts.specs.Demand.{Demand3Held}

-- ---- what 0 says, whatever order the sorter takes

fitting-done : (m : Room) (s : SortHeld) → (fitting m s).refusal.number ≡ 0 → fitting m s ≡ s
unfolding fitting
fitting-done m s h = go (eqb (why_sort m s) 0) refl h
  where
    go : (x : Bool) → eqb (why_sort m s) 0 ≡ x → (pick x s (refused_with (nowhere (why_sort m s)))).refusal.number ≡ 0
        → pick x s (refused_with (nowhere (why_sort m s))) ≡ s
    go true e h = refl
    go false e h = absurd (eqb-false (why_sort m s) 0 e h)

-- held ids are read, as no refusal of theirs is 0
read_whole : (m : Room) (t : SortHeld) (c : Course Range) → Stops c
    → (ending c (λ s. fitting m t) (λ why. refused_with (nowhere why.number))).refusal.number ≡ 0
    → (ending c (λ _. true) (λ _. false) ≡ true) × (ending c (λ s. fitting m t) (λ why. refused_with (nowhere why.number)) ≡ t)
unfolding ending grammar.Stops
read_whole m t (thing a p c) h e = read_whole m t c h e
read_whole m t (over x s) h e = (refl, fitting-done m t e)
read_whole m t (stopped why) h e = absurd (omega (arith, h.0, e))

module _ (F : Finder) (form : ℕ) (u v : List ℕ) (block_rows range_rows held_rows : ℕ) (m : Room) where
  abbrev r : Reading
  r = reading form u block_rows range_rows

  abbrev c : Course Range
  c = fit held_rows (delete_set 1 v 0)

  abbrev s : SortHeld
  s = sort_held_by F form u v block_rows range_rows held_rows m

  pub after-done : s.refusal.number ≡ 0
      → (r.refusal.number ≡ 0) × (ending c (λ _. true) (λ _. false) ≡ true) × (s ≡ sorted_all F (normal (things c)) r)
  unfolding sort_held_by after_reading against
  after-done h = go (eqb r.refusal.number 0) refl h
    where
      sort : SortHeld
      sort = ending c (λ s. fitting m (sorted_all F (normal (things c)) r)) (λ why. refused_with (nowhere why.number))

      go : (x : Bool) → eqb r.refusal.number 0 ≡ x → (pick x sort (refused_with r.refusal)).refusal.number ≡ 0
          → (r.refusal.number ≡ 0) × (ending c (λ _. true) (λ _. false) ≡ true) × (pick x sort (refused_with r.refusal) ≡ sorted_all F (normal (things c)) r)
      go true e h =
          let w = read_whole m (sorted_all F (normal (things c)) r) c (fit-stops held_rows (delete_set 1 v 0) (deletes-numbered 1 v 0)) h in
          (eqb-true r.refusal.number 0 e, w.0, w.1)
      go false e h = absurd (eqb-false r.refusal.number 0 e h)

-- ---- demand 3 over held sets

whole-demanded : (c : Course Range) (r : Reading) → r.refusal.number ≡ 0 → ending c (λ _. true) (λ _. false) ≡ true
    → Demand3Held r c (sorted_all quickly (normal (things c)) r)
unfolding sorted_all order_held counts_held pending_held
whole-demanded c r z e = record {
  read = (z, e);
  reading = refl;
  held = refl;
  demanded = demanded rule_held held-mono r.blocks (held_in (normal (things c))) (owners r.blocks) (clients-blocks r.blocks []);
}

pub demand-3-held : (form : ℕ) (u v : List ℕ) (block_rows range_rows held_rows : ℕ) (m : Room)
    → (sort_held_of form u v block_rows range_rows held_rows m).refusal.number ≡ 0
    → Demand3Held (reading form u block_rows range_rows) (fit held_rows (delete_set 1 v 0)) (sort_held_of form u v block_rows range_rows held_rows m)
demand-3-held form u v block_rows range_rows held_rows m h =
    let w = after-done quickly form u v block_rows range_rows held_rows m h in
    subst (Demand3Held (reading form u block_rows range_rows) (fit held_rows (delete_set 1 v 0))) (sym w.2)
    (whole-demanded (fit held_rows (delete_set 1 v 0)) (reading form u block_rows range_rows) w.0 w.1)
