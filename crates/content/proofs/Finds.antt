-- A content found, by what each part of the reading gave.
use Rattle.std.specs.Prelude.{Result, Ok, Err}
use Rattle.text.specs.declared.Part.{Part}
use Prim.Native.Nat.{ℕ}
use native.Mathlib.Omega.{arith}
use mathlib.Core.Path.{◌≡◌, sym, ap, ◌∙◌}
use mathlib.Core.List.{List}
use Rattle.numbers.specs.declared.Refusal.{Refusal}
use Rattle.block.specs.declared.Block.{Block}
use Rattle.grammar.specs.Course.{Course, thing, over, stopped, ending}
use Rattle.decoder.specs.Update.{blocks_of, delete_set}
use Rattle.ranges.specs.Ranges.{Range}
use Rattle.content.specs.Content.{nth, stored, content_at}
use Rattle.content.specs.ContentInner.{scanned_of}
use Rattle.content.proofs.Seek.{scanned-row, scanned-refused}

-- ---- what follows the delete set, by what its check gave

checked_refused : (c : Course Range) (why : Refusal) (f : ℕ → Result Part Refusal) (g : Refusal → Result Part Refusal) → ending c Ok Err ≡ Err why → ending c f g ≡ g why
unfolding ending
checked_refused (thing a p c) why f g e = checked_refused c why f g e
checked_refused (over a t) why f g e = absurd (let z : ◌≡◌ {A = ℕ} 0 1 = cc in omega arith)
checked_refused (stopped w) why f g e = ap g (ap why-of e)
  where
    why-of : Result ℕ Refusal → Refusal
    why-of (Ok r) = why
    why-of (Err v) = v

checked-done : (c : Course Range) (v : ℕ) (f : ℕ → Result Part Refusal) (g : Refusal → Result Part Refusal) → ending c Ok Err ≡ Ok v → ending c f g ≡ f v
unfolding ending
checked-done (thing a p c) v f g e = checked-done c v f g e
checked-done (over a t) v f g e = ap f (ap place_of e)
  where
    place_of : Result ℕ Refusal → ℕ
    place_of (Ok r) = r
    place_of (Err w) = v
checked-done (stopped w) v f g e = absurd (let z : ◌≡◌ {A = ℕ} 0 1 = cc in omega arith)

module _ (form : ℕ) (u : List ℕ) (n : ℕ) where
  pub not-begun : (why : Refusal) → blocks_of form u ≡ stopped why → Err why ≡ content_at form u n
  unfolding content_at ending
  not-begun why e = sym (rw e)

  -- c: the blocks of the update, as they come
  module _ (c : Course Block) (b : blocks_of form u ≡ c) where
    pub not-scanned : (why : Refusal) → scanned_of n c ≡ Err why → Err why ≡ content_at form u n
    unfolding content_at
    not-scanned why e = sym (scanned-refused n (blocks_of form u) why _ _ (ap (scanned_of n) b ∙ e))

    module _ (row : Block) (at : ℕ) (r : scanned_of n c ≡ Ok (row, at)) where
      after-blocks : content_at form u n ≡ ending (delete_set form u at) (λ v. stored (nth n (blocks_of form u))) (λ why. Err why)
      unfolding content_at
      after-blocks = (scanned-row n (blocks_of form u) row at _ _ (ap (scanned_of n) b ∙ r)).0

      pub not-checked : (why : Refusal) → ending (delete_set form u at) Ok Err ≡ Err why → Err why ≡ content_at form u n
      not-checked why e = sym (after-blocks ∙ checked_refused (delete_set form u at) why _ _ e)

      pub found : (v : ℕ) → ending (delete_set form u at) Ok Err ≡ Ok v → stored row ≡ content_at form u n
      found v e = sym (after-blocks ∙ checked-done (delete_set form u at) v _ _ e ∙ ap stored (scanned-row n (blocks_of form u) row at {X = Result Part Refusal} (λ x. stored row) Err (ap (scanned_of n) b ∙ r)).1)
