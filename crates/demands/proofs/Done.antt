-- When a sort is done: its number is 0 exactly when nothing on its way refuses it.
use Prim.Native.Nat.{ℕ, ◌≤◌}
use mathlib.Core.Path.{◌≡◌, refl, subst}
use mathlib.Core.Bool.{Bool, true, false}
use mathlib.Core.List.{List}
use native.Mathlib.Omega.{arith}
use lib.Dec.{ltb, eqb}
use borrow.Author.Tests.{eqb-true, eqb-false, eq-eqb, ltb-false, le-ltb}
use Rattle.numbers.specs.Number.{pick, nowhere}
use Rattle.grammar.specs.Course.{things, ending}
use Rattle.vector.specs.Vector.{vector_of}
use Rattle.kept.proofs.Vectors.{why_vector, by_number}
use Rattle.sorting.specs.Rules.{Rule}
use Rattle.sorting.specs.Named.{rule_of}
use Rattle.updates.specs.Promises.{Reading, reading}
use Rattle.sort_answers.specs.Answers.{is_rule, Sort, refused_with, Room, why_not}
use Rattle.sorts.specs.Promises.{quickly, sorted_all, why_sort, fitting, against, after_reading, sort_by, sort_of}
use Rattle.demands.specs.Allowed.{Doable, SortDone}

-- ---- words enough

fits : (m : Room) (o c r p : ℕ) → why_not m o c r p ≡ 0 → (o ≤ m.order) × (c ≤ m.counts) × (r ≤ m.reaches) × (p ≤ m.pending)
unfolding why_not
fits m o c r p h = go (ltb m.order o) refl (ltb m.counts c) refl (ltb m.reaches r) refl (ltb m.pending p) refl h
  where
    go : (w : Bool) → ltb m.order o ≡ w → (x : Bool) → ltb m.counts c ≡ x → (y : Bool) → ltb m.reaches r ≡ y → (z : Bool) → ltb m.pending p ≡ z
        → ◌≡◌ {A = ℕ} (pick w 8 (pick x 10 (pick y 10 (pick z 10 0)))) 0 → (o ≤ m.order) × (c ≤ m.counts) × (r ≤ m.reaches) × (p ≤ m.pending)
    go true d x e y f z g h = absurd (omega (arith, h))
    go false d true e y f z g h = absurd (omega (arith, h))
    go false d false e true f z g h = absurd (omega (arith, h))
    go false d false e false f true g h = absurd (omega (arith, h))
    go false d false e false f false g h =
        (ltb-false m.order o d, ltb-false m.counts c e, ltb-false m.reaches r f, ltb-false m.pending p g)

enough : (m : Room) (o c r p : ℕ) → o ≤ m.order → c ≤ m.counts → r ≤ m.reaches → p ≤ m.pending → why_not m o c r p ≡ 0
unfolding why_not
enough m o c r p a b d e = rw (le-ltb m.order o a, le-ltb m.counts c b, le-ltb m.reaches r d, le-ltb m.pending p e)

-- ---- what was read, sorted

module _ (R : Rule ℕ) (m : Room) (v : List ℕ) (r : Reading) where
  abbrev s : Sort
  s = sorted_all quickly R (things (vector_of v)) r

  fitting-zero : (fitting m s).refusal.number ≡ 0 → why_sort m s ≡ 0
  unfolding fitting
  fitting-zero h = go (eqb (why_sort m s) 0) refl h
    where
      go : (x : Bool) → eqb (why_sort m s) 0 ≡ x → (pick x s (refused_with (nowhere (why_sort m s)))).refusal.number ≡ 0 → why_sort m s ≡ 0
      go true e h = eqb-true (why_sort m s) 0 e
      go false e h = h

  against-is : against quickly R m (vector_of v) r ≡ pick (eqb (why_vector v) 0) (fitting m s) (refused_with (nowhere (why_vector v)))
  unfolding against
  against-is = by_number v (fitting m s) (λ n. refused_with (nowhere n))

  ends_is : ending (vector_of v) (λ _. true) (λ _. false) ≡ pick (eqb (why_vector v) 0) true false
  ends_is = by_number v true (λ _. false)

  against-zero : (against quickly R m (vector_of v) r).refusal.number ≡ 0 → (ending (vector_of v) (λ _. true) (λ _. false) ≡ true) × (why_sort m s ≡ 0)
  against-zero h = rw ends_is (go (eqb (why_vector v) 0) refl (subst (λ (t : Sort). t.refusal.number ≡ 0) against-is h))
    where
      go : (x : Bool) → eqb (why_vector v) 0 ≡ x → (pick x (fitting m s) (refused_with (nowhere (why_vector v)))).refusal.number ≡ 0
          → (pick x true false ≡ true) × (why_sort m s ≡ 0)
      go true e h = (refl, fitting-zero h)
      go false e h = absurd (eqb-false (why_vector v) 0 e h)

  after-zero : (after_reading quickly R m (vector_of v) r).refusal.number ≡ 0
      → (r.refusal.number ≡ 0) × (ending (vector_of v) (λ _. true) (λ _. false) ≡ true) × (why_sort m s ≡ 0)
  unfolding after_reading
  after-zero h = go (eqb r.refusal.number 0) refl h
    where
      go : (x : Bool) → eqb r.refusal.number 0 ≡ x → (pick x (against quickly R m (vector_of v) r) (refused_with r.refusal)).refusal.number ≡ 0
          → (r.refusal.number ≡ 0) × (ending (vector_of v) (λ _. true) (λ _. false) ≡ true) × (why_sort m s ≡ 0)
      go true e h = (eqb-true r.refusal.number 0 e, (against-zero h).0, (against-zero h).1)
      go false e h = absurd (eqb-false r.refusal.number 0 e h)

  -- and back
  vector-read : ending (vector_of v) (λ _. true) (λ _. false) ≡ true → eqb (why_vector v) 0 ≡ true
  vector-read h = go (eqb (why_vector v) 0) (subst (λ b. b ≡ true) ends_is h)
    where
      go : (x : Bool) → pick x true false ≡ true → x ≡ true
      go true h = refl
      go false h = h

  zero-after : r.refusal.number ≡ 0 → ending (vector_of v) (λ _. true) (λ _. false) ≡ true → why_sort m s ≡ 0
      → (after_reading quickly R m (vector_of v) r).refusal.number ≡ 0
  unfolding after_reading fitting sorted_all
  zero-after read ends why = rw (eq-eqb r.refusal.number 0 read, against-is, vector-read ends, eq-eqb (why_sort m s) 0 why)

-- ---- by the rule that is named

pub sort-done : SortDone
unfolding sort_by why_sort sorted_all
sort-done rule form u v block_rows range_rows m = (forth, back)
  where
    r : Reading
    r = reading form u block_rows range_rows

    from : (x : Bool) → is_rule rule ≡ x → (pick x (after_reading quickly (rule_of rule) m (vector_of v) r) (refused_with (nowhere 12))).refusal.number ≡ 0
        → Doable rule form u v block_rows range_rows m
    from true e h =
        let (read, ends, why) = after-zero (rule_of rule) m v r h in
        let words = fits m _ _ _ _ why in
        record { known = e; read = read; vector = ends; order = words.0; counts = words.1; reaches = words.2; pending = words.3 }
    from false e h = absurd (omega (arith, h))

    forth : (sort_of rule form u v block_rows range_rows m).refusal.number ≡ 0 → Doable rule form u v block_rows range_rows m
    forth h = from (is_rule rule) refl h

    back : Doable rule form u v block_rows range_rows m → (sort_of rule form u v block_rows range_rows m).refusal.number ≡ 0
    back d = rw d.known (zero-after (rule_of rule) m v r d.read d.vector (enough m _ _ _ _ d.order d.counts d.reaches d.pending))
