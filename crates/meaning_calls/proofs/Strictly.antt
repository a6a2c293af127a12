-- That an update is read strictly as `read_update_strict` promises.
use Prim.Native.Nat.{ℕ}
use mathlib.Core.Path.{◌≡◌, refl, sym, ap, ◌∙◌}
use mathlib.Core.Bool.{Bool, true, false}
use mathlib.Core.List.{List}
use native.Mathlib.Omega.{arith}
use lib.Dec.{ltb, eqb}
use lib.ListN.{length, get_or}
use borrow.Author.Tests.{eqb-true, ne_eqb}
use Rattle.numbers.specs.declared.Refusal.{Refusal}
use Rattle.numbers.specs.Number.{pick}
use Rattle.block.specs.declared.Block.{Block}
use Rattle.ranges.specs.Ranges.{Range}
use Rattle.grammar.specs.Numbered as numbered
use Rattle.grammar.specs.Course.{CourseTo, thing, over, stopped, fit, things, ending}
use Rattle.decoder.specs.Update.{delete_set}
use Rattle.updates.specs.Promises.{Reading, early}
use Rattle.updates.specs.Promises as promises
use Rattle.updates.proofs.Laws.{unknown-form}
use Rattle.agreement.specs.Numbered.{Low, Stops}
use Rattle.agreement.proofs.Courses.{fit-stops}
use Rattle.agreement.proofs.Numbered.{blocks-numbered, deletes-numbered}
use Rattle.strict.specs.Promises as strict
use Rattle.strict.specs.Promises.{flagged, beforehand, explained}
use Rattle.meaning.specs.Reads.{when◌then◌else◌, Got, got, refused, on}
use Rattle.meaning.specs.Reads.{comes_to}
use Rattle.meaning.specs.Fields.{Standing}
use Rattle.meaning.specs.Update.{whole}
use Rattle.meaning.proofs.Whole.{seen, Ends, ends-fit, ending-same, stands_of, stands_at, whole-then}
use Rattle.meaning_calls.specs.Reading.{read_with, as_reading, reading, unread, strictly}
use Rattle.meaning_calls.proofs.Reading.{read_as, read_answer, reading-same}
use Rattle.meaning_calls.proofs.Unread.{unread-same}

-- ---- answers

answer-then : {S A X Y : Type 0} (h : X → Y) (f : A → S → X) (r : Refusal → X) (g : Got S A) → h (comes_to f r g) ≡ comes_to (λ a s. h (f a s)) (λ why. h (r why)) g
unfolding comes_to
answer-then h f r (got a s) = refl
answer-then h f r (refused n p) = refl

read-then : {S : Type 0} (k : List Block × List Range → S → Got S (List Block × List Range)) (g : Got S (List Block × List Range))
    → as_reading (on g k) ≡ comes_to (λ x s. as_reading (k x s)) promises.refused g
unfolding as_reading on comes_to
read-then k (got x s) = refl
read-then k (refused n p) = refl

-- ---- a refusal has a number

ending-stops : {S E A X : Type 0} (c : CourseTo S E A) (f : S → X) (r r' : Refusal → X) → Stops c → ((why : Refusal) → Low why.number → r why ≡ r' why)
    → ending c f r ≡ ending c f r'
unfolding ending numbered.Stops
ending-stops (thing e p c) f r r' h same = ending-stops c f r r' h same
ending-stops (over a s) f r r' h same = refl
ending-stops (stopped why) f r r' h same = same why h

stops-seen : {S T E A : Type 0} (view : T → S) (c : CourseTo T E A) → Stops (seen view c) → Stops c
unfolding seen numbered.Stops
stops-seen view (thing e p c) h = stops-seen view c h
stops-seen view (over a s) h = tt
stops-seen view (stopped why) h = h

module _ (form : ℕ) (u : List ℕ) where
  stands-stop : Stops (stands_of form u)
  stands-stop = stops-seen (λ (s : Standing). s.at) (stands_of form u) (rw (stands_at form u) (blocks-numbered u form))

  refusal-stays : (why : Refusal) → Low why.number → explained form u (promises.refused why) ≡ promises.refused why
  unfolding explained
  refusal-stays why l = rw (ne_eqb why.number 0 (λ e. omega (arith, l.0, e)))

  -- ---- what is read, and no byte stays

  abbrev strict_of : List Block × List Range → Standing × ℕ → Got (Standing × ℕ) (List Block × List Range)
  strict_of x s = when ltb (unread u s) (length u) then refused 15 (unread u s) else got x s

  end_same : (x : List Block × List Range) (t : Standing) (end : ℕ) → Ends (stands_of form u) t → Ends (delete_set form u t.at) end
      → explained form u (read_as x) ≡ as_reading (strict_of x (t, end))
  unfolding explained read_as as_reading when◌then◌else◌
  end_same x t end h q = rw (unread-same form u t end h q) (go (ltb (unread u (t, end)) (length u)))
    where
      left : ℕ
      left = unread u (t, end)

      go : (b : Bool) → pick b (promises.refused (record { number = 15; place = left })) (read_as x)
          ≡ as_reading {S = Standing × ℕ} (when b then refused 15 left else got x (t, end))
      go true = refl
      go false = refl

  module _ (block_rows range_rows : ℕ) where
    whole-strict : explained form u (as_reading (whole form u block_rows range_rows)) ≡ as_reading (on (whole form u block_rows range_rows) strict_of)
    whole-strict =
        let all = whole form u block_rows range_rows in
        let c = fit block_rows (stands_of form u) in
        let d : Standing → CourseTo ℕ Range (Unit {0}) = λ t. fit range_rows (delete_set form u t.at) in
        let R : Refusal → Reading = promises.refused in
        let R' : Refusal → Reading = λ why. explained form u (R why) in
        ap (explained form u) (read_answer all) ∙ answer-then (explained form u) (λ x s. read_as x) R all
        ∙ whole-then form u block_rows range_rows (λ x s. explained form u (read_as x)) R'
        ∙ ending-stops c _ R' R (fit-stops block_rows (stands_of form u) stands-stop) refusal-stays
        ∙ ending-same c _ _ R (λ t h.
        ending-stops (d t) _ R' R (fit-stops range_rows (delete_set form u t.at) (deletes-numbered form u t.at)) refusal-stays
        ∙ ending-same (d t) _ _ R (λ end q.
        end_same (things c, things (d t)) t end (ends-fit block_rows (stands_of form u) t h) (ends-fit range_rows (delete_set form u t.at) end q)))
        ∙ sym (read-then strict_of all ∙ whole-then form u block_rows range_rows (λ x s. as_reading (strict_of x s)) R)

    pub strictly-same : strict.strictly form u block_rows range_rows ≡ strictly form u block_rows range_rows
    unfolding strict.strictly beforehand flagged strictly read_with reading when◌then◌else◌ as_reading on
    strictly-same = go (eqb (early form u) 0) refl (eqb form 1) refl (eqb form 2) refl (ltb 0 (get_or u 0 0)) refl
      where
        go : (a : Bool) → eqb (early form u) 0 ≡ a → (b : Bool) → eqb form 1 ≡ b → (c : Bool) → eqb form 2 ≡ c → (d : Bool) → ltb 0 (get_or u 0 0) ≡ d
            → strict.strictly form u block_rows range_rows ≡ strictly form u block_rows range_rows
        go true e true f true g d h = absurd (omega (arith, eqb-true form 1 f, eqb-true form 2 g))
        go true e true f false g d h = rw (reading-same form u block_rows range_rows, e, f, g) whole-strict
        go true e false f true g true h = rw (e, f, g, h)
        go true e false f true g false h = rw (reading-same form u block_rows range_rows, e, f, g, h) whole-strict
        go true e false f false g d h = absurd (omega (arith, unknown-form form u f g, eqb-true (early form u) 0 e))
        go false e b f c g d h = rw (e, e)
