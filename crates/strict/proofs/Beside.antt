-- Strict reading beside today's. Where it is done, it is today's, row for row, and every byte is read; where it refuses with 15, today's is done; where with 14,
-- the flag is not 0, which today's never refuses; and all else that it refuses, today's refuses so.
use Prim.Native.Nat.{ℕ, ◌≤◌, ◌<◌}
use mathlib.Core.Path.{◌≡◌, refl, sym, ap, subst, ◌∙◌}
use mathlib.Core.Bool.{Bool, true, false}
use mathlib.Core.Logic.{◌≢◌, ◌⊎◌, inl, inr, ⊎_elim}
use mathlib.Core.List.{List}
use native.Mathlib.Omega.{arith}
use lib.Dec.{ltb, eqb}
use lib.ListN.{length}
use borrow.Author.Tests.{eqb-true, eqb-false, ltb-true, ltb-false, ne_eqb, le-ltb}
use Rattle.numbers.specs.Number.{pick, none, nowhere}
use Rattle.numbers.specs.Limits.{max_update}
use Rattle.grammar.specs.Course.{Course, thing, over, stopped, fit, ending}
use Rattle.grammar.specs.Numbered as grammar
use Rattle.decoder.specs.Update.{blocks_of, delete_set}
use Rattle.ranges.specs.Ranges.{Range}
use Rattle.leftover.specs.Leftover.{unread_of, lowest_left}
use Rattle.leftover.specs.LeftoverInner.{Among}
use Rattle.leftover.proofs.Lowest.{none_below, lowest-among}
use Rattle.updates.specs.Promises.{Reading, refused, with_ranges, with_blocks, known, early, reading}
use Rattle.updates.proofs.Read as today
use Rattle.agreement.specs.Numbered.{Stops}
use Rattle.agreement.proofs.Courses.{fit-stops}
use Rattle.agreement.proofs.Numbered.{blocks-numbered, deletes-numbered}
use Rattle.agreement.proofs.Readings.{no-refusal}
use Rattle.strict.specs.Promises.{flagged, beforehand, explained, strictly}

-- ---- today's reading refuses with 12 at most

followed : {E : Type 0} (c : Course E) (f : ℕ → Reading) → Stops c → ((s : ℕ) → (f s).refusal.number ≤ 12) → (ending c f (λ why. refused why)).refusal.number ≤ 12
unfolding ending grammar.Stops
followed (thing e p c) f h q = followed c f h q
followed (over a s) f h q = q s
followed (stopped why) f h q = omega (arith, h.1)

early-few : (form : ℕ) (u : List ℕ) → early form u ≤ 12
unfolding early
early-few form u = go (known form) (ltb max_update (length u))
  where
    go : (x y : Bool) → ◌≤◌ (pick x (pick y 3 0) 12) 12
    go true true = omega arith
    go true false = omega arith
    go false y = omega arith

pub today-few : (form : ℕ) (u : List ℕ) (m n : ℕ) → (reading form u m n).refusal.number ≤ 12
unfolding reading with_blocks with_ranges
today-few form u m n = go (eqb (early form u) 0)
  where
    set : ℕ → Course Range
    set at = fit n (delete_set form u at)

    go : (b : Bool) → (pick b (with_blocks form u n (fit m (blocks_of form u))) (refused (nowhere (early form u)))).refusal.number ≤ 12
    go true =
        followed (fit m (blocks_of form u)) _ (fit-stops m (blocks_of form u) (blocks-numbered u form))
        (λ at. followed (set at) _ (fit-stops n (delete_set form u at) (deletes-numbered form u at)) (λ s. omega arith))
    go false = early-few form u

-- ---- the four ways that strict reading goes

pub data Goes (form : ℕ) (u : List ℕ) (m n : ℕ) (r : Reading) : Type 0 where
  -- the flag
  flag : flagged form u ≡ true → early form u ≡ 0 → r ≡ refused (nowhere 14) → Goes form u m n r
  -- as today's, refused
  refuses : (reading form u m n).refusal.number ≢ 0 → r ≡ reading form u m n → Goes form u m n r
  -- something is left
  leaves : flagged form u ≡ false → (reading form u m n).refusal.number ≡ 0 → lowest_left form u < length u
      → r ≡ refused (record { number = 15; place = lowest_left form u }) → Goes form u m n r
  -- as today's, done
  reads : flagged form u ≡ false → (reading form u m n).refusal.number ≡ 0 → length u ≤ lowest_left form u → r ≡ reading form u m n → Goes form u m n r

module _ (form : ℕ) (u : List ℕ) (m n : ℕ) where
  abbrev R : Reading
  R = reading form u m n

  early-refused : early form u ≢ 0 → R ≡ refused (nowhere (early form u))
  unfolding reading
  early-refused h = rw (ne_eqb (early form u) 0 h) refl

  pub goes : Goes form u m n (strictly form u m n)
  unfolding strictly beforehand explained
  goes = go (eqb (early form u) 0) refl (flagged form u) refl (eqb R.refusal.number 0) refl (ltb (lowest_left form u) (length u)) refl
    where
      low : Reading
      low = refused (record { number = 15; place = lowest_left form u })

      go : (a : Bool) → eqb (early form u) 0 ≡ a → (b : Bool) → flagged form u ≡ b → (c : Bool) → eqb R.refusal.number 0 ≡ c
          → (d : Bool) → ltb (lowest_left form u) (length u) ≡ d
          → Goes form u m n (pick (eqb (pick a (pick b 14 0) (early form u)) 0) (pick c (pick d low R) R) (refused (nowhere (pick a (pick b 14 0) (early form u)))))
      go true e true f c g d h = flag f (eqb-true (early form u) 0 e) refl
      go true e false f true g true h = leaves f (eqb-true R.refusal.number 0 g) (ltb-true (lowest_left form u) (length u) h) refl
      go true e false f true g false h = reads f (eqb-true R.refusal.number 0 g) (ltb-false (lowest_left form u) (length u) h) refl
      go true e false f false g d h = refuses (eqb-false R.refusal.number 0 g) refl
      go false e b f c g d h =
          let some = eqb-false (early form u) 0 e in
          let same = early-refused some in
          refuses (λ z. some (sym (ap (λ (r : Reading). r.refusal.number) same) ∙ z)) (rw e (sym same))

  -- ---- done

  pub record Done : Type 0 where
    pub same : strictly form u m n ≡ reading form u m n
    pub flag-zero : flagged form u ≡ false
    pub whole : (reading form u m n).refusal ≡ none
    -- no byte of the update stays unread
    pub every : (p : ℕ) → p < length u → Among p (unread_of form u) → ⊥

  done-by : (r : Reading) → Goes form u m n r → strictly form u m n ≡ r → r.refusal.number ≡ 0 → Done
  unfolding lowest_left
  done-by r (flag f e q) s z = absurd (omega (arith, ap (λ (x : Reading). x.refusal.number) q, z))
  done-by r (refuses some q) s z = absurd (some (sym (ap (λ (x : Reading). x.refusal.number) q) ∙ z))
  done-by r (leaves f e l q) s z = absurd (omega (arith, ap (λ (x : Reading). x.refusal.number) q, z))
  done-by r (reads f e l q) s z =
      record { same = s ∙ q; flag-zero = f; whole = no-refusal form u m n e; every = λ p h a. omega (arith, l, h, none_below (length u) (unread_of form u) p a) }

  pub done : (strictly form u m n).refusal.number ≡ 0 → Done
  done z = done-by (strictly form u m n) goes refl z

  -- and the other way
  pub accepts : flagged form u ≡ false → (reading form u m n).refusal.number ≡ 0 → length u ≤ lowest_left form u → strictly form u m n ≡ reading form u m n
  unfolding strictly beforehand explained
  accepts f e l = rw (today.not-early form u m n e, f, e, le-ltb (lowest_left form u) (length u) l) refl

  -- ---- refused with 15: today's is done, and the place is the lowest byte that stays unread

  pub record Unread (place : ℕ) : Type 0 where
    pub today : (reading form u m n).refusal ≡ none
    pub inside : place < length u
    pub unread : Among place (unread_of form u)
    pub lowest : (p : ℕ) → Among p (unread_of form u) → place ≤ p

  unread-by : (r : Reading) → Goes form u m n r → r.refusal.number ≡ 15 → Unread r.refusal.place
  unfolding lowest_left
  unread-by r (flag f e q) z = absurd (omega (arith, ap (λ (x : Reading). x.refusal.number) q, z))
  unread-by r (refuses some q) z = absurd (omega (arith, ap (λ (x : Reading). x.refusal.number) q, z, today-few form u m n))
  unread-by r (leaves f e l q) z =
      let at : r.refusal.place ≡ lowest_left form u = ap (λ (x : Reading). x.refusal.place) q in
      record {
        today = no-refusal form u m n e;
        inside = omega (arith, at, l);
        unread = subst (λ (p : ℕ). Among p (unread_of form u)) (sym at) (⊎_elim (λ (s : lowest_left form u ≡ length u). absurd (omega (arith, s, l))) (λ a. a) (lowest-among (length u) (unread_of form u)));
        lowest = λ p a. omega (arith, at, none_below (length u) (unread_of form u) p a);
      }
  unread-by r (reads f e l q) z = absurd (omega (arith, ap (λ (x : Reading). x.refusal.number) q, z, e))

  pub unread : (strictly form u m n).refusal.number ≡ 15 → Unread (strictly form u m n).refusal.place
  unread z = unread-by (strictly form u m n) goes z

  -- ---- refused with 14: a flag that is not 0, and today's is done or has another refusal

  pub record Flagged (place : ℕ) : Type 0 where
    pub first : place ≡ 0
    pub flag : flagged form u ≡ true
    pub today : (reading form u m n).refusal.number ≢ 14

  flagged-by : (r : Reading) → Goes form u m n r → r.refusal.number ≡ 14 → Flagged r.refusal.place
  flagged-by r (flag f e q) z = record { first = ap (λ (x : Reading). x.refusal.place) q; flag = f; today = λ t. omega (arith, t, today-few form u m n) }
  flagged-by r (refuses some q) z = absurd (omega (arith, ap (λ (x : Reading). x.refusal.number) q, z, today-few form u m n))
  flagged-by r (leaves f e l q) z = absurd (omega (arith, ap (λ (x : Reading). x.refusal.number) q, z))
  flagged-by r (reads f e l q) z = absurd (omega (arith, ap (λ (x : Reading). x.refusal.number) q, z, e))

  pub by_flag : (strictly form u m n).refusal.number ≡ 14 → Flagged (strictly form u m n).refusal.place
  by_flag z = flagged-by (strictly form u m n) goes z

  -- ---- what today's refuses, strict reading refuses so, unless the flag was refused before it

  pub today-refused : (reading form u m n).refusal.number ≢ 0 → (strictly form u m n ≡ reading form u m n) ⊎ (strictly form u m n ≡ refused (nowhere 14))
  today-refused some = go (strictly form u m n) goes
    where
      go : (r : Reading) → Goes form u m n r → (r ≡ reading form u m n) ⊎ (r ≡ refused (nowhere 14))
      go r (flag f e q) = inr q
      go r (refuses z q) = inl q
      go r (leaves f e l q) = absurd (some e)
      go r (reads f e l q) = inl q
