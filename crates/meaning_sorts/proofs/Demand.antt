-- Demand 3: a sort that refuses nothing has read what it sorts, and is the one that demand 3 asks for, by the rule that is named or by held ids.
use Prim.Native.Nat.{ℕ}
use mathlib.Core.Path.{◌≡◌, refl, ap, ◌∙◌, subst}
use mathlib.Core.Bool.{Bool, true, false, ◌||◌, false≢true}
use mathlib.Core.List.{List, []}
use native.Mathlib.Omega.{arith}
use lib.Dec.{ltb, eqb}
use lib.ListN.{length}
use borrow.Author.Tests.{le-ltb}
use Rattle.numbers.specs.declared.Refusal.{Refusal}
use Rattle.numbers.specs.Number.{nowhere}
use Rattle.ranges.specs.Ranges.{Range}
use Rattle.updates.specs.Promises.{Reading}
use Rattle.grammar.specs.Course.{thing, over, stopped, Course, fit, things, ending}
use Rattle.decoder.specs.Update as decoder
use Rattle.vector.specs.Vector.{Entry, vector_of}
use Rattle.sorting.specs.Named.{rule_of}
use Rattle.sorting.specs.Quick.{quick}
use Rattle.sort_answers.specs.Answers.{Room}
use Rattle.sorts.specs.Promises as sorts-promises
use Rattle.sorts.specs.Demand as sorts
use Rattle.sorts.proofs.Demand as sorts-proofs
use Rattle.held_sorts.specs.Promises as held-promises
use Rattle.held_sorts.specs.Demand as held-sorts
use Rattle.held_sorts.proofs.Demand as held-sorts-proofs
use Rattle.meaning.specs.Reads.{when◌then◌else◌, Got, got, refused, on}
use Rattle.meaning.specs.Reads.{comes_to}
use Rattle.meaning.specs.Update.{delete_set}
use Rattle.meaning.specs.Vector.{vector}
use Rattle.meaning.specs.Alike.{collect}
use Rattle.meaning.proofs.Deletes.{deletes-alike}
use Rattle.meaning.proofs.Vector.{vector-same}
use Rattle.meaning_calls.specs.Reading.{reading, both}
use Rattle.meaning_calls.proofs.Reading.{reading-same}
use Rattle.meaning_sorts.specs.Sorts.{sort_of, sort_held_of}
use Rattle.meaning_sorts.specs.Promises.{Sort, nothing, sorted, sorted_held, fitting}
use Rattle.meaning_sorts.specs.DemandInner as long
use Rattle.meaning_sorts.specs.Demand.{Demand3, Demand3Held}
use Rattle.meaning_sorts.proofs.Sorts.{sort-same, held_same}
use Rattle.meaning_sorts.proofs.Promises.{inner, inner_held, sort-inner, held_inner}

-- a course that comes to its end, as it is got
collected : {E : Type 0} (c : Course E) → ending c (λ _. true) (λ _. false) ≡ true → (end : ℕ) × (collect (λ e. e) c ≡ got (things c) end)
unfolding ending things collect on
collected (thing e p c) h = let (s, is) = collected c h in (s, rw is)
collected (over a s) h = (s, refl)
collected (stopped why) h = absurd (false≢true h)

module _ {E : Type 0} (g : Got ℕ (List E)) (c : Course E) (same : g ≡ collect (λ e. e) c) (whole : ending c (λ _. true) (λ _. false) ≡ true) where
  was-got : (end : ℕ) × (g ≡ got (things c) end)
  was-got = rw same (collected c whole)

  are-got : (es : List E) (end : ℕ) → g ≡ got es end → things c ≡ es
  are-got es end h = let (s, is) = was-got in cc

-- ---- of the long promises, against a vector

module _ (rule form : ℕ) (u v : List ℕ) (block_rows range_rows : ℕ) (m : Room) (done : (sort_of rule form u v block_rows range_rows m).refusal.number ≡ 0) where
  old : sorts.Demand3 (rule_of rule) (reading form u block_rows range_rows) (vector_of v) (sort_of rule form u v block_rows range_rows m)
  old =
      rw (← sort-same rule form u v block_rows range_rows m, ← reading-same form u block_rows range_rows)
      (sorts-proofs.demand-3 rule form u v block_rows range_rows m (rw sort-same done))

  -- update and vector were read
  pub long-sort-read : ((reading form u block_rows range_rows).refusal.number ≡ 0) × (es : List Entry) × (end : ℕ) × (vector v ≡ got es end)
  long-sort-read =
      let (end, is) = was-got (vector v) (vector_of v) (vector-same v) old.read.1 in
      (old.read.0, things (vector_of v), end, is)

  pub long-demand-3 : (es : List Entry) (end : ℕ) → vector v ≡ got es end
      → long.Demand3 (rule_of rule) (reading form u block_rows range_rows) es (sort_of rule form u v block_rows range_rows m)
  long-demand-3 es end h =
      rw (← are-got (vector v) (vector_of v) (vector-same v) old.read.1 es end h)
      (record { reading = old.reading; demanded = old.demanded; reaches = old.reaches })

-- ---- of the long promises, by held ids

module _ (form : ℕ) (u v : List ℕ) (block_rows range_rows held_rows : ℕ) (m : Room)
    (done : (sort_held_of form u v block_rows range_rows held_rows m).refusal.number ≡ 0) where
  abbrev ids : Course Range
  ids = fit held_rows (decoder.delete_set 1 v 0)

  ids-same : delete_set 1 v held_rows 0 ≡ collect (λ e. e) ids
  unfolding decoder.delete_set
  ids-same = deletes-alike 1 v held_rows 0

  old-held : held-sorts.Demand3Held (reading form u block_rows range_rows) ids (sort_held_of form u v block_rows range_rows held_rows m)
  old-held =
      rw (← held_same form u v block_rows range_rows held_rows m, ← reading-same form u block_rows range_rows)
      (held-sorts-proofs.demand-3-held form u v block_rows range_rows held_rows m (rw held_same done))

  -- update and held ids were read
  pub long-held-read : ((reading form u block_rows range_rows).refusal.number ≡ 0) × (rs : List Range) × (end : ℕ) × (delete_set 1 v held_rows 0 ≡ got rs end)
  long-held-read =
      let (end, is) = was-got (delete_set 1 v held_rows 0) ids ids-same old-held.read.1 in
      (old-held.read.0, things ids, end, is)

  pub long-demand-3-held : (rs : List Range) (end : ℕ) → delete_set 1 v held_rows 0 ≡ got rs end
      → long.Demand3Held (reading form u block_rows range_rows) rs (sort_held_of form u v block_rows range_rows held_rows m)
  long-demand-3-held rs end h =
      rw (← are-got (delete_set 1 v held_rows 0) ids ids-same old-held.read.1 rs end h)
      (record { reading = old-held.reading; held = old-held.held; demanded = old-held.demanded })

-- ---- of the short ones

-- where a sort that fits in the words lent refuses nothing, it is that sort
pub fitted : (order counts reaches pending : List ℕ) (s : Sort)
    → (fitting order counts reaches pending s).refusal.number ≡ 0 → fitting order counts reaches pending s ≡ s
unfolding fitting when◌then◌else◌
fitted order counts reaches pending s =
    let above : List ℕ → List ℕ → Bool = λ words lent. ltb (length lent) (length words) in
    go (above s.order order) (above s.counts counts || (above s.reaches reaches || above s.pending pending))
  where
    by_tests : Bool → Bool → Sort
    by_tests x y = when x then nothing (nowhere 8) else when y then nothing (nowhere 10) else s

    go : (x y : Bool) → (by_tests x y).refusal.number ≡ 0 → by_tests x y ≡ s
    go true y h = absurd (omega arith)
    go false true h = absurd (omega arith)
    go false false h = refl

-- it fits in as many words as it takes
own_room : (s : Sort) → fitting s.order s.counts s.reaches s.pending s ≡ s
unfolding fitting when◌then◌else◌
own_room s = rw (enough s.order, enough s.counts, enough s.reaches, enough s.pending)
  where
    enough : (l : List ℕ) → ltb (length l) (length l) ≡ false
    enough l = le-ltb (length l) (length l) (omega arith)

-- ---- against a vector

module _ (rule form : ℕ) (u v : List ℕ) (block_rows range_rows : ℕ) (done : (sorted quick rule form u v block_rows range_rows).refusal.number ≡ 0) where
  abbrev room : Room
  room = let s = sorted quick rule form u v block_rows range_rows in sorts-promises.lent s.order s.counts s.reaches s.pending

  is-long : sort_of rule form u v block_rows range_rows room ≡ inner (sorted quick rule form u v block_rows range_rows)
  is-long =
      let s = sorted quick rule form u v block_rows range_rows in
      sort-inner s.order s.counts s.reaches s.pending quick rule form u v block_rows range_rows ∙ ap inner (own_room s)

  long-done : (sort_of rule form u v block_rows range_rows room).refusal.number ≡ 0
  long-done = rw is-long done

  -- update and vector were read
  pub sort-read : ((reading form u block_rows range_rows).refusal.number ≡ 0) × (es : List Entry) × (end : ℕ) × (vector v ≡ got es end)
  sort-read = long-sort-read rule form u v block_rows range_rows room long-done

  pub demand-3 : (es : List Entry) (end : ℕ) → vector v ≡ got es end
      → Demand3 (rule_of rule) (reading form u block_rows range_rows) es (sorted quick rule form u v block_rows range_rows)
  demand-3 es end h =
      let d = rw is-long at (long-demand-3 rule form u v block_rows range_rows room long-done es end h) in
      record { reading = d.reading; demanded = d.demanded; reaches = d.reaches }

-- ---- by held ids

-- what holds of each answer
module _ {A : Type 0} (P : A → Type 0) where
  either-has : (x : Bool) (a b : A) → P a → P b → P (when x then a else b)
  unfolding when◌then◌else◌
  either-has true a b p q = p
  either-has false a b p q = q

  both-has : {X : Type 0} (r : Reading) (v : Got ℕ X) (refuse : Refusal → A) (go : X → A)
      → ((why : Refusal) → P (refuse why)) → ((x : X) → P (go x)) → P (both r v refuse go)
  unfolding both comes_to
  both-has r (got x s) refuse go p q = either-has (eqb r.refusal.number 0) _ _ (q x) (p r.refusal)
  both-has r (refused n e) refuse go p q = either-has (eqb r.refusal.number 0) _ _ (p (nowhere n)) (p r.refusal)

module _ (form : ℕ) (u v : List ℕ) (block_rows range_rows held_rows : ℕ) (done : (sorted_held quick form u v block_rows range_rows held_rows).refusal.number ≡ 0) where
  no-reaches : (sorted_held quick form u v block_rows range_rows held_rows).reaches ≡ []
  unfolding sorted_held
  no-reaches = both-has (λ s. s.reaches ≡ []) (reading form u block_rows range_rows) (delete_set 1 v held_rows 0) nothing _ (λ why. refl) (λ rs. refl)

  abbrev held-room : Room
  held-room = let s = sorted_held quick form u v block_rows range_rows held_rows in held-promises.lent s.order s.counts s.pending

  held-is-long : sort_held_of form u v block_rows range_rows held_rows held-room ≡ inner_held (sorted_held quick form u v block_rows range_rows held_rows)
  held-is-long =
      let s = sorted_held quick form u v block_rows range_rows held_rows in
      held_inner s.order s.counts s.pending quick form u v block_rows range_rows held_rows
      ∙ ap inner_held (subst (λ l. fitting s.order s.counts l s.pending s ≡ s) no-reaches (own_room s))

  held-long-done : (sort_held_of form u v block_rows range_rows held_rows held-room).refusal.number ≡ 0
  held-long-done = rw held-is-long done

  -- update and held ids were read
  pub held-read : ((reading form u block_rows range_rows).refusal.number ≡ 0) × (rs : List Range) × (end : ℕ) × (delete_set 1 v held_rows 0 ≡ got rs end)
  held-read = long-held-read form u v block_rows range_rows held_rows held-room held-long-done

  pub demand-3-held : (rs : List Range) (end : ℕ) → delete_set 1 v held_rows 0 ≡ got rs end
      → Demand3Held (reading form u block_rows range_rows) rs (sorted_held quick form u v block_rows range_rows held_rows)
  demand-3-held rs end h =
      let d = rw held-is-long at (long-demand-3-held form u v block_rows range_rows held_rows held-room held-long-done rs end h) in
      record { reading = d.reading; held = d.held; demanded = d.demanded }
