-- What all of an update comes to, with rows enough: there are no more blocks than may be announced, and a range takes two bytes and more.
use Prim.Native.Nat.{ℕ}
use mathlib.Core.Path.{◌≡◌, refl, sym, ◌∙◌}
use mathlib.Core.Bool.{Bool, true, false}
use mathlib.Core.List.{List}
use native.Mathlib.Omega.{arith}
use lib.Dec.{ltb, eqb}
use lib.ListN.{length}
use borrow.Author.Tests.{ltb-true, ltb-false, eq-eqb, ne_eqb, eqb-false}
use Rattle.numbers.specs.declared.Refusal.{Refusal}
use Rattle.numbers.specs.Number.{pick, nowhere}
use Rattle.numbers.specs.Limits.{max_update, max_blocks}
use Rattle.block.specs.declared.Block.{Block}
use Rattle.ranges.specs.Ranges.{Range}
use Rattle.grammar.specs.Course.{fit, things, ending}
use Rattle.decoder.specs.Update.{blocks_of, delete_set}
use Rattle.readings.proofs.Counts.{blocks-count}
use Rattle.updates.specs.Promises.{known, early}
use Rattle.meaning.specs.Reads.{when◌then◌else◌}
use Rattle.meaning.specs.Reads.{comes_to}
use Rattle.meaning.specs.Fields.{Standing}
use Rattle.meaning.specs.Update.{whole}
use Rattle.meaning.proofs.Whole.{ending-same, ending-then, whole_is}
use Rattle.meaning.proofs.Enough.{fit-enough, ranges-enough}
use Rattle.meaning_calls.specs.Reading.{read_with, all_of}

module _ (form : ℕ) (u : List ℕ) where
  pub blocks-enough : fit max_blocks (blocks_of form u) ≡ blocks_of form u
  blocks-enough = fit-enough max_blocks (blocks_of form u) (blocks-count form u)

  -- what is made of an update that is read to the end of its delete set, or of what it is refused with
  abbrev pub ended : {X : Type 0} → X → (Refusal → X) → X
  ended x r = ending (blocks_of form u) (λ at. ending (delete_set form u at) (λ end. x) r) r

  pub ended-then : {X Y : Type 0} (h : X → Y) (x : X) (r : Refusal → X) → h (ended x r) ≡ ended (h x) (λ why. h (r why))
  ended-then h x r = ending-then h (blocks_of form u) _ r ∙ ending-same (blocks_of form u) _ _ _ (λ at _. ending-then h (delete_set form u at) _ r)

  pub whole-all : {X : Type 0} (f : List Block → X) (r : Refusal → X)
      → comes_to (λ x s. f x.0) r (whole form u max_blocks (length u)) ≡ ended (f (things (blocks_of form u))) r
  whole-all f r = whole_is form u max_blocks (length u) (λ x end. f x.0) r ∙ simp (blocks-enough, ranges-enough form u)

  -- ---- the form, then the update's length, are looked at first

  known-form : ltb form 1 ≡ false → ltb 2 form ≡ false → known form ≡ true
  unfolding known
  known-form e f = go (eqb form 1) refl
    where
      go : (b : Bool) → eqb form 1 ≡ b → pick b true (eqb form 2) ≡ true
      go true q = refl
      go false q = eq-eqb form 2 (omega (arith, ltb-false form 1 e, ltb-false 2 form f, eqb-false form 1 q))

  -- as other calls have it
  pub early-first : {X : Type 0} (r : Refusal → X) (x : X)
      → pick (ltb form 1) (r (nowhere 12)) (pick (ltb 2 form) (r (nowhere 12)) (pick (ltb max_update (length u)) (r (nowhere 3)) x))
      ≡ pick (eqb (early form u) 0) x (r (nowhere (early form u)))
  unfolding early known
  early-first {X} r x = go (ltb form 1) refl (ltb 2 form) refl (ltb max_update (length u)) refl
    where
      go : (a : Bool) → ltb form 1 ≡ a → (b : Bool) → ltb 2 form ≡ b → (c : Bool) → ltb max_update (length u) ≡ c
          → pick a (r (nowhere 12)) (pick b (r (nowhere 12)) (pick c (r (nowhere 3)) x)) ≡ pick (eqb (early form u) 0) x (r (nowhere (early form u)))
      go true e b f c g =
          let l = ltb-true form 1 e in
          rw (ne_eqb form 1 (λ q. omega (arith, l, q)), ne_eqb form 2 (λ q. omega (arith, l, q)))
      go false e true f c g =
          let l = ltb-true 2 form f in
          rw (ne_eqb form 1 (λ q. omega (arith, l, q)), ne_eqb form 2 (λ q. omega (arith, l, q)))
      go false e false f true g = rw (known-form e f, g)
      go false e false f false g = rw (known-form e f, g)

  pub begun-answer : {X : Type 0} (block_rows range_rows : ℕ) (f : List Block × List Range → Standing × ℕ → X) (r : Refusal → X)
      → comes_to f r (read_with form u block_rows range_rows) ≡ pick (eqb (early form u) 0) (comes_to f r (whole form u block_rows range_rows)) (r (nowhere (early form u)))
  unfolding read_with when◌then◌else◌ comes_to
  begun-answer {X} block_rows range_rows f r = go (eqb (early form u) 0) refl
    where
      go : (b : Bool) → eqb (early form u) 0 ≡ b
          → comes_to f r (read_with form u block_rows range_rows) ≡ pick b (comes_to f r (whole form u block_rows range_rows)) (r (nowhere (early form u)))
      go true e = rw e
      go false e = rw e

  pub all-is : {X : Type 0} (f : List Block → X) (r : Refusal → X) → comes_to (λ x s. f x.0) r (all_of form u)
      ≡ pick (ltb form 1) (r (nowhere 12))
      (pick (ltb 2 form) (r (nowhere 12)) (pick (ltb max_update (length u)) (r (nowhere 3)) (ended (f (things (blocks_of form u))) r)))
  all-is f r = begun-answer max_blocks (length u) (λ x s. f x.0) r ∙ rw (whole-all f r) (sym (early-first r _))
