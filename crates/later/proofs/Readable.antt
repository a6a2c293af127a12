-- Why a diff has to read: one that is written and reads is sorted, with the rows that it was read with, unless the words do not suffice (8, 10); one that is
-- longer than an update may be is refused with 3 and reaches nothing.
use Prim.Native.Nat.{ℕ, ◌/◌, ◌<◌}
use mathlib.Core.Path.{◌≡◌, refl, sym, ap, subst, ◌∙◌}
use mathlib.Core.Logic.{inl, inr}
use mathlib.Core.Bool.{Bool, true, false}
use mathlib.Core.List.{List}
use native.Mathlib.Omega.{arith}
use lib.Dec.{ltb, eqb}
use lib.ListN.{length}
use borrow.Author.Tests.{lt-ltb, eq-eqb}
use Rattle.numbers.specs.Number.{pick, nowhere}
use Rattle.numbers.specs.Limits.{max_update}
use Rattle.vector.specs.Vector.{vector_of}
use Rattle.kept.proofs.Vectors.{why_vector, by_number}
use Rattle.sorting.specs.Rules.{Rule}
use Rattle.sorting.specs.Named.{rule_of}
use Rattle.updates.specs.declared.Update.{Update}
use Rattle.updates.specs.Promises.{Reading, known, early, reading, answer}
use Rattle.sort_answers.specs.Answers.{is_rule, Sort, refused_with, Room, why_not}
use Rattle.sorts.specs.Promises.{quickly, sorted_all, why_sort, fitting, against, after_reading, sort_by, sort_of}
use Rattle.rereading.specs.Vectors.{Reads, entries_in}
use Rattle.rereading.proofs.Done.{done}
use Rattle.later.specs.Calls.{DiffCall, written_by, ReadCall}
use Rattle.later.specs.Worse.{ForWords}
use Rattle.later.proofs.Diffs.{diff-done}

module _ (R : Rule ℕ) (room : Room) (v : List ℕ) (r : Reading) where
  words-why : (s : Sort) → ForWords (why_sort room s)
  unfolding why_sort why_not
  words-why s =
      go (ltb room.order (length s.order)) (ltb room.counts (length s.counts)) (ltb room.reaches (length s.reaches))
      (ltb room.pending (length s.pending))
    where
      go : (a b c d : Bool) → ForWords (pick a 8 (pick b 10 (pick c 10 (pick d 10 0))))
      go true b c d = inr (inl refl)
      go false true c d = inr (inr refl)
      go false false true d = inr (inr refl)
      go false false false true = inr (inr refl)
      go false false false false = inl refl

  fitting-why : ForWords (fitting room (sorted_all quickly R (entries_in v) r)).refusal.number
  unfolding fitting sorted_all
  fitting-why = go (eqb (why_sort room (sorted_all quickly R (entries_in v) r)) 0) (words-why (sorted_all quickly R (entries_in v) r))
    where
      go : (x : Bool) → ForWords (why_sort room (sorted_all quickly R (entries_in v) r))
          → ForWords (pick x (sorted_all quickly R (entries_in v) r) (refused_with (nowhere (why_sort room (sorted_all quickly R (entries_in v) r))))).refusal.number
      go true w = inl refl
      go false w = w

  against-why : Reads v → ForWords (against quickly R room (vector_of v) r).refusal.number
  unfolding against
  against-why reads =
      subst (λ (s : Sort). ForWords s.refusal.number) (sym (by_number v (fitting room (sorted_all quickly R (entries_in v) r)) (λ n. refused_with (nowhere n))))
      (go (eqb (why_vector v) 0) (sym (by_number v true (λ n. false)) ∙ reads))
    where
      go : (x : Bool) → pick x true false ≡ true
          → ForWords (pick x (fitting room (sorted_all quickly R (entries_in v) r)) (refused_with (nowhere (why_vector v)))).refusal.number
      go true e = fitting-why
      go false e = absurd (let z : ◌≡◌ {A = ℕ} 0 1 = cc in omega arith)

  after-why : r.refusal.number ≡ 0 → Reads v → ForWords (after_reading quickly R room (vector_of v) r).refusal.number
  unfolding after_reading
  after-why z reads = rw (eq-eqb r.refusal.number 0 z) (against-why reads)

-- what is read, and whose vector reads, is refused for words alone
sorted-why : (rule form : ℕ) (u v : List ℕ) (m n : ℕ) (room : Room) → is_rule rule ≡ true → (reading form u m n).refusal.number ≡ 0 → Reads v
    → ForWords (sort_of rule form u v m n room).refusal.number
unfolding sort_by
sorted-why rule form u v m n room e z reads = rw e (after-why (rule_of rule) room v (reading form u m n) z reads)

-- a diff that is written and reads
pub diff-sorts : (rule form : ℕ) (u v : List ℕ) (to : ℕ) (d : DiffCall form u v to) (r : ReadCall to (written_by d)) (room : Room) → is_rule rule ≡ true
    → ForWords (sort_of rule to (written_by d) v (length r.rows) (length r.ranges / 3) room).refusal.number
unfolding answer
diff-sorts rule form u v to d r room e =
    sorted-why rule to (written_by d) v (length r.rows) (length r.ranges / 3) room e
    (sym (ap (λ (x : Update). x.refusal.number) r.promised.0) ∙ r.done)
    (done form u v to (length d.rows) (length d.ranges / 3) (length d.out) (diff-done form u v to d)).vector

-- one that is too long
pub too_long : (rule form : ℕ) (u v : List ℕ) (m n : ℕ) (room : Room) → is_rule rule ≡ true → known form ≡ true → max_update < length u
    → sort_of rule form u v m n room ≡ refused_with (nowhere 3)
unfolding sort_by after_reading reading early
too_long rule form u v m n room e k long = rw (e, k, lt-ltb max_update (length u) long) refl
