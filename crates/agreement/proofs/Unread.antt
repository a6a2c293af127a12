-- Unread bytes change nothing: if an update reads, then with any bytes after it it reads the same, the same blocks with the same places, the same
-- delete ranges and the same stored parts.
use Prim.Native.Nat.{ℕ}
use mathlib.Core.Path.{◌≡◌, sym, ap, subst, ◌∙◌}
use mathlib.Core.List.{List, ◌++◌}
use Rattle.block.specs.declared.Block.{Block}
use Rattle.ranges.specs.Ranges.{Range}
use Rattle.grammar.specs.Course.{Course, fit}
use Rattle.grammar.specs.Whole.{Ends}
use Rattle.decoder.specs.Update.{blocks_of, delete_set}
use Rattle.content.specs.Content.{nth, stored, content_at}
use Rattle.places.proofs.Appended.{blocks-stay, ranges-stay}
use Rattle.agreement.proofs.Courses.{same-to-end, fit-ends, ending_at}

module _ (form : ℕ) (u w : List ℕ) where
  pub unread-blocks : (at : ℕ) → Ends (blocks_of form u) at → blocks_of form (u ++ w) ≡ blocks_of form u
  unread-blocks at e = same-to-end (blocks_of form u) (blocks_of form (u ++ w)) at (blocks-stay form u w) e

  pub unread-deletes : (at end : ℕ) → Ends (delete_set form u at) end → delete_set form (u ++ w) at ≡ delete_set form u at
  unread-deletes at end e = same-to-end (delete_set form u at) (delete_set form (u ++ w) at) end (ranges-stay form u w at) e

pub unread : (form : ℕ) (u w : List ℕ) (at end : ℕ) → Ends (blocks_of form u) at → Ends (delete_set form u at) end
    → (blocks_of form (u ++ w) ≡ blocks_of form u) × (delete_set form (u ++ w) at ≡ delete_set form u at)
unread form u w at end b d = (unread-blocks form u w at b, unread-deletes form u w at end d)

-- so too where there are only so many rows for its blocks and its ranges
pub unread-rows : (form : ℕ) (u w : List ℕ) (n m : ℕ) (at end : ℕ) → Ends (fit n (blocks_of form u)) at → Ends (fit m (delete_set form u at)) end
    → (fit n (blocks_of form (u ++ w)) ≡ fit n (blocks_of form u)) × (fit m (delete_set form (u ++ w) at) ≡ fit m (delete_set form u at))
unread-rows form u w n m at end b d =
    let same = unread form u w at end (fit-ends n (blocks_of form u) at b) (fit-ends m (delete_set form u at) end d) in
    (ap (fit n) same.0, ap (fit m) same.1)

-- and a block's stored part is the same
module _ (form : ℕ) (n : ℕ) where
  content-at : (u : List ℕ) (s t : ℕ) → Ends (blocks_of form u) s → Ends (delete_set form u s) t → content_at form u n ≡ stored (nth n (blocks_of form u))
  unfolding content_at
  content-at u s t b d = ending_at (blocks_of form u) _ _ s b ∙ ending_at (delete_set form u s) _ _ t d

  pub unread-content : (u w : List ℕ) (s t : ℕ) → Ends (blocks_of form u) s → Ends (delete_set form u s) t → content_at form (u ++ w) n ≡ content_at form u n
  unread-content u w s t b d =
      let same = unread form u w s t b d in
      content-at (u ++ w) s t (subst (λ (c : Course Block). Ends c s) (sym same.0) b) (subst (λ (c : Course Range). Ends c t) (sym same.1) d)
      ∙ ap (λ (c : Course Block). stored (nth n c)) same.0
      ∙ sym (content-at u s t b d)
