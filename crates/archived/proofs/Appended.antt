-- Every byte is explained: an update that reads strictly, with bytes behind it, is refused with 15 at its old end.
use Prim.Native.Nat.{ℕ, zero, suc, ◌≤◌, ◌<◌}
use mathlib.Core.Path.{◌≡◌, refl, ap, ◌∙◌}
use mathlib.Core.Bool.{Bool, true, false}
use mathlib.Core.Logic.{inl, inr, ⊎_elim}
use mathlib.Core.List.{List, [], ◌∷◌, ◌++◌}
use native.Mathlib.Omega.{arith}
use lib.Dec.{ltb, eqb}
use lib.ListN.{length, get_or, length-append}
use borrow.Author.Tests.{lt-ltb}
use Rattle.numbers.specs.declared.Refusal.{Refusal}
use Rattle.numbers.specs.Number.{pick}
use Rattle.numbers.specs.Limits.{max_update}
use Rattle.numbers.proofs.Laws.{below_or}
use Rattle.block.specs.declared.Block.{Block}
use Rattle.ranges.specs.Ranges.{Range}
use Rattle.grammar.specs.Grammar.{◌>>=◌}
use Rattle.grammar.specs.Course.{CourseTo, thing, over, stopped, Course, fit, ending, on_drawn, run}
use Rattle.grammar.specs.Whole.{Ends}
use Rattle.decoder.specs.Line.{byte_at, number_by, line}
use Rattle.decoder.specs.States.{State}
use Rattle.decoder.specs.Opening.{heads, on_heads, opened_of}
use Rattle.decoder.specs.Update.{rest_places, in_columns, blocks_of, delete_set}
use Rattle.leftover.specs.Leftover.{Stretch, stretch, columns_at, columns_left, set_end, unread_of, lower, lowest, lowest_left}
use Rattle.leftover.specs.LeftoverInner.{Among}
use Rattle.leftover.proofs.Lowest.{at_most, lowest-among}
use Rattle.places.specs.Appended.{Stays}
use Rattle.places.proofs.Appended.{blocks-stay, ranges-stay}
use Rattle.places.proofs.AppendedColumns.{states-stay}
use Rattle.updates.specs.Promises.{Reading, refused, reading}
use Rattle.agreement.specs.Ends.{Whole}
use Rattle.agreement.proofs.Readings.{done, unread-reading}
use Rattle.updates.proofs.Read.{not-early}
use Rattle.strict.specs.Promises.{flagged, beforehand, explained, strictly}
use Rattle.strict.proofs.Beside as strict
use Rattle.archived.proofs.Inside.{set-inside}

-- ---- what ends stays the same

stays_same : {S E A : Type 0} (x y : CourseTo S E A) (s : S) → Stays x y → Ends x s → y ≡ x
unfolding Stays Ends
stays_same (thing e p c) y s h q = h.1 ∙ ap (thing e p) (stays_same c h.0 s h.2 q)
stays_same (over a t) y s h q = h
stays_same (stopped why) y s h q = absurd q

fit-ends : {S E A : Type 0} (n : ℕ) (c : CourseTo S E A) (s : S) → Ends (fit n c) s → Ends c s
unfolding fit Ends
fit-ends zero (thing e p c) s h = absurd h
fit-ends (suc n) (thing e p c) s h = fit-ends n c s h
fit-ends zero (over a t) s h = h
fit-ends (suc n) (over a t) s h = h
fit-ends zero (stopped why) s h = absurd h
fit-ends (suc n) (stopped why) s h = absurd h

placed-ends : {E A : Type 0} (c : CourseTo State E A) (at : ℕ) → Ends (rest_places c) at → (s : State) × Ends c s
unfolding rest_places Ends
placed-ends (thing e p c) at h = placed-ends c at h
placed-ends (over a t) at h = (t, refl)
placed-ends (stopped why) at h = absurd h

ends_at : {S E A X : Type 0} (c : CourseTo S E A) (f : S → X) (g : Refusal → X) (s : S) → Ends c s → ending c f g ≡ f s
unfolding ending Ends
ends_at (thing e p c) f g s h = ends_at c f g s h
ends_at (over a t) f g s h = ap f h
ends_at (stopped why) f g s h = absurd h

-- ---- an update that was read whole, with bytes behind it

module _ (form : ℕ) (u w : List ℕ) (b r : ℕ) (whole : Whole form u b r) where
  blocks_end : Ends (blocks_of form u) whole.middle
  blocks_end = fit-ends b (blocks_of form u) whole.middle whole.blocks

  set-end : Ends (delete_set form u whole.middle) whole.last
  set-end = fit-ends r (delete_set form u whole.middle) whole.last whole.ranges

  end-here : set_end form u ≡ whole.last
  unfolding set_end
  end-here = ends_at (blocks_of form u) _ _ whole.middle blocks_end ∙ ends_at (delete_set form u whole.middle) _ _ whole.last set-end

  end-there : set_end form (u ++ w) ≡ whole.last
  unfolding set_end
  end-there =
      ap (λ (c : Course Block). ending c (λ at. ending (delete_set form (u ++ w) at) (λ end. end) (λ why. length (u ++ w))) (λ why. length (u ++ w))) (stays_same (blocks_of form u) (blocks_of form (u ++ w)) whole.middle (blocks-stay form u w) blocks_end)
      ∙ ends_at (blocks_of form u) _ _ whole.middle blocks_end
      ∙ ap (λ (c : Course Range). ending c (λ end. end) (λ why. length (u ++ w))) (stays_same (delete_set form u whole.middle) (delete_set form (u ++ w) whole.middle) whole.last (ranges-stay form u w whole.middle) set-end)
      ∙ ends_at (delete_set form u whole.middle) _ _ whole.last set-end

  columns-there : columns_left form (u ++ w) ≡ columns_left form u
  unfolding columns_left blocks_of
  columns-there = go (eqb form 1) refl
    where
      go : (x : Bool) → eqb form 1 ≡ x → pick x [] (ending (in_columns (u ++ w)) columns_at (λ why. [])) ≡ pick x [] (ending (in_columns u) columns_at (λ why. []))
      go true e = refl
      go false e =
          let s = placed-ends (in_columns u) whole.middle (rw e at blocks_end) in
          ap (λ (c : CourseTo State Block (Unit {0})). ending c columns_at (λ why. [])) (stays_same (in_columns u) (in_columns (u ++ w)) s.0 (states-stay u w) s.1)

  -- every byte was read: what is left begins where it ended
  module _ (some : 0 < length w) (every : (p : ℕ) → p < length u → Among p (unread_of form u) → ⊥) where
    ends-whole : whole.last ≡ length u
    unfolding unread_of Among
    ends-whole =
        ⊎_elim
        (λ l. absurd (every whole.last l (inl (omega (arith, end-here), l))))
        (λ g. omega (arith, g, set-inside u form whole.middle whole.last set-end))
        (below_or whole.last (length u))

    none-lower : lowest (length u) (columns_left form u) ≡ length u
    unfolding unread_of Among
    none-lower =
        ⊎_elim (λ e. e)
        (λ a. ⊎_elim (λ l. absurd (every (lowest (length u) (columns_left form u)) l (inr a))) (λ g. omega (arith, g, at_most (length u) (columns_left form u)))
        (below_or (lowest (length u) (columns_left form u)) (length u)))
        (lowest-among (length u) (columns_left form u))

    lower-here : lower (length (u ++ w)) (stretch (length u) (length (u ++ w))) ≡ length u
    unfolding lower
    lower-here = rw (lt-ltb (length u) (length (u ++ w)) (omega (arith, some, length-append u w)))

    lowest-there : lowest_left form (u ++ w) ≡ length u
    unfolding lowest_left unread_of lowest
    lowest-there =
        ap (λ (k : ℕ). lowest (lower (length (u ++ w)) (stretch k (length (u ++ w)))) (columns_left form (u ++ w))) (end-there ∙ ends-whole)
        ∙ ap (λ (xs : List Stretch). lowest (lower (length (u ++ w)) (stretch (length u) (length (u ++ w)))) xs) columns-there
        ∙ ap (λ (k : ℕ). lowest k (columns_left form u)) lower-here
        ∙ none-lower

-- ---- the flag stands at the first byte

no_bytes : (at : ℕ) → Ends (rest_places (in_columns [])) at → ⊥
unfolding rest_places in_columns opened_of on_heads heads run ◌>>=◌ on_drawn line number_by byte_at Ends
no_bytes at h = h

flag-there : (form : ℕ) (u w : List ℕ) (at : ℕ) → Ends (blocks_of form u) at → flagged form u ≡ false → flagged form (u ++ w) ≡ false
unfolding flagged blocks_of
flag-there form [] w at h e = go (eqb form 1) refl
  where
    go : (x : Bool) → eqb form 1 ≡ x → pick x false (ltb 0 (get_or w 0 0)) ≡ false
    go true f = refl
    go false f = absurd (no_bytes at (rw f at h))
flag-there form (x ∷ u) w at h e = e

-- ---- the theorem

module _ (form : ℕ) (u w : List ℕ) (m n : ℕ) where
  pub appended : (strictly form u m n).refusal.number ≡ 0 → 0 < length w → length (u ++ w) ≤ max_update
      → strictly form (u ++ w) m n ≡ refused (record { number = 15; place = length u })
  unfolding strictly beforehand explained
  appended z some l =
      let d = strict.done form u m n z in
      let read : (reading form u m n).refusal.number ≡ 0 = ap (λ (x : Refusal). x.number) d.whole in
      let whole = done form u m n read in
      let same = unread-reading form u w m n read l in
      let there : (reading form (u ++ w) m n).refusal.number ≡ 0 = ap (λ (x : Reading). x.refusal.number) same ∙ read in
      rw (
        not-early form (u ++ w) m n there,
        flag-there form u w whole.middle (blocks_end form u w m n whole) d.flag-zero,
        there,
        lowest-there form u w m n whole some d.every,
        lt-ltb (length u) (length (u ++ w)) (omega (arith, some, length-append u w)),
      )
