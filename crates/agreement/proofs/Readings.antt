-- A reading with the number 0 is whole, blocks and delete set, and blames no byte; and then bytes after the update change nothing of it.
use Prim.Native.Nat.{ℕ, ◌≤◌}
use mathlib.Core.Path.{◌≡◌, refl, sym, ap, ◌∙◌}
use mathlib.Core.List.{List, ◌++◌}
use native.Mathlib.Omega.{arith}
use lib.Dec.{eqb}
use lib.ListN.{length}
use Rattle.numbers.specs.Number.{pick, none, nowhere}
use Rattle.numbers.specs.Limits.{max_update}
use Rattle.block.specs.declared.Block.{Block}
use Rattle.grammar.specs.Course.{thing, over, stopped, Course, fit, things, ending}
use Rattle.grammar.specs.Whole.{Ends}
use Rattle.grammar.specs.Numbered as grammar
use Rattle.decoder.specs.Update.{blocks_of, delete_set}
use Rattle.updates.specs.Promises.{Reading, refused, with_ranges, with_blocks, early, reading}
use Rattle.updates.proofs.Read.{not-early}
use Rattle.updates.proofs.Places.{appended}
use Rattle.agreement.specs.Ends.{Whole}
use Rattle.agreement.specs.Numbered.{Stops}
use Rattle.agreement.proofs.Courses.{ending_at, fit-stops}
use Rattle.agreement.proofs.Numbered.{blocks-numbered, deletes-numbered}

-- ---- what follows a course

-- it ends, and what follows its end has the number 0
record Followed {A : Type 0} (c : Course A) (f : ℕ → Reading) : Type 0 where
  end : ℕ
  ends : Ends c end
  done : (f end).refusal.number ≡ 0

module _ {A : Type 0} where
  followed : (c : Course A) (f : ℕ → Reading) → Stops c → (ending c f (λ why. refused why)).refusal.number ≡ 0 → Followed c f
  unfolding ending Ends grammar.Stops
  followed (thing a p c) f h e = let r = followed c f h e in record { end = r.end; ends = r.ends; done = r.done }
  followed (over a s) f h e = record { end = s; ends = refl; done = e }
  followed (stopped why) f h e = absurd (omega (arith, h.0, e))

-- ---- what is looked at before an update is read

module _ (form : ℕ) (u : List ℕ) (b r : ℕ) where
  pub read-on : early form u ≡ 0 → reading form u b r ≡ with_blocks form u r (fit b (blocks_of form u))
  unfolding reading
  read-on e = ap (λ (n : ℕ). pick (eqb n 0) (with_blocks form u r (fit b (blocks_of form u))) (refused (nowhere n))) e

-- ---- 0 means done

module _ (form : ℕ) (u : List ℕ) (b r : ℕ) where
  abbrev c : Course Block
  c = fit b (blocks_of form u)

  pub done : (reading form u b r).refusal.number ≡ 0 → Whole form u b r
  unfolding with_blocks with_ranges
  done h =
      let on = read-on form u b r (not-early form u b r h) in
      let e : (with_blocks form u r c).refusal.number ≡ 0 = ap (λ (x : Reading). x.refusal.number) (sym on) ∙ h in
      let first = followed c (λ s. with_ranges (things c) (fit r (delete_set form u s))) (fit-stops b (blocks_of form u) (blocks-numbered u form)) e in
      let second = followed (fit r (delete_set form u first.end)) _ (fit-stops r (delete_set form u first.end) (deletes-numbered form u first.end)) first.done in
      record { middle = first.end; last = second.end; blocks = first.ends; ranges = second.ends }

  -- what the reading is then
  whole-at : (at : ℕ) → early form u ≡ 0 → Ends c at → reading form u b r ≡ with_ranges (things c) (fit r (delete_set form u at))
  unfolding with_blocks
  whole-at at e h = read-on form u b r e ∙ ending_at c _ _ at h

  -- and the other way
  pub whole-done : early form u ≡ 0 → Whole form u b r → (reading form u b r).refusal ≡ none
  unfolding with_ranges
  whole-done e h =
      ap (λ (x : Reading). x.refusal)
      (whole-at h.middle e h.blocks ∙ ending_at (fit r (delete_set form u h.middle)) _ _ h.last h.ranges)

  -- so no refusal has the number 0 and a place
  pub no-refusal : (reading form u b r).refusal.number ≡ 0 → (reading form u b r).refusal ≡ none
  no-refusal h = whole-done (not-early form u b r h) (done h)

-- ---- unread bytes change nothing

pub unread-reading : (form : ℕ) (u w : List ℕ) (b r : ℕ) → (reading form u b r).refusal.number ≡ 0 → length (u ++ w) ≤ max_update
    → reading form (u ++ w) b r ≡ reading form u b r
unread-reading form u w b r h l = appended form u w b r l (λ one. omega (arith, h, one))
