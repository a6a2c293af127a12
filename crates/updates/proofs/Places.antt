-- Where a refusal of reading blames its update, and that bytes behind an update change nothing of its reading, unless they were wanting (1).
use Prim.Native.Nat.{ℕ, ◌≤◌}
use mathlib.Core.Path.{◌≡◌, refl, ap, ◌∙◌}
use mathlib.Core.Bool.{Bool, true, false}
use mathlib.Core.Logic.{◌≢◌, ◌⊎◌, inl, inr}
use mathlib.Core.List.{List, ◌++◌}
use native.Mathlib.Omega.{arith}
use lib.Dec.{eqb}
use lib.ListN.{length, length-append}
use borrow.Author.Tests.{le-ltb, eqb-true}
use Rattle.numbers.specs.declared.Refusal.{Refusal}
use Rattle.numbers.specs.Number.{pick, none, nowhere}
use Rattle.numbers.specs.Limits.{max_update}
use Rattle.block.specs.declared.Block.{Block}
use Rattle.ranges.specs.Ranges.{Range, normal}
use Rattle.grammar.specs.Course.{Course, thing, over, stopped, fit, things, ending}
use Rattle.decoder.specs.Update.{blocks_of, delete_set}
use Rattle.places.specs.Places.{Blames, BlamesIn}
use Rattle.places.specs.Appended.{Stays}
use Rattle.places.proofs.Blamed.{blocks-blame, ranges-blame, fit-blames}
use Rattle.places.proofs.Appended.{blocks-stay, ranges-stay, fit_stays, ending-stays}
use Rattle.updates.specs.Promises.{Reading, refused, with_ranges, with_blocks, early, reading}

-- ---- the byte that is blamed

-- done, or refused at a byte of u, or at its end
abbrev pub Placed : List ℕ → Reading → Type 0
Placed u r = (r.refusal ≡ none) ⊎ Blames u r.refusal

ends-placed : {E : Type 0} (u : List ℕ) (c : Course E) (then : ℕ → Reading) → BlamesIn u c → ((s : ℕ) → Placed u (then s))
    → Placed u (ending c then (λ why. refused why))
unfolding ending BlamesIn
ends-placed u (thing e p c) then b h = ends-placed u c then b.1 h
ends-placed u (over a s) then b h = h s
ends-placed u (stopped why) then b h = inr b

-- what is refused before reading blames no byte
pub blamed : (form : ℕ) (u : List ℕ) (m n : ℕ) → early form u ≡ 0 → Placed u (reading form u m n)
unfolding reading with_blocks with_ranges
blamed form u m n e =
    rw e
    (ends-placed u (fit m (blocks_of form u)) _ (fit-blames u m (blocks_of form u) (blocks-blame form u))
    (λ at. ends-placed u (fit n (delete_set form u at)) _ (fit-blames u n (delete_set form u at) (ranges-blame form u at)) (λ s. inl refl)))

inside : (u : List ℕ) (r : Reading) → Placed u r → r.refusal.place ≤ length u
unfolding Blames
inside u r (inl e) = let z : r.refusal.place ≡ 0 = ap (λ (w : Refusal). w.place) e in omega arith
inside u r (inr (inl l)) = omega arith
inside u r (inr (inr e)) = omega (arith, e.1)

-- so a place is never past the update's end
pub place_inside : (form : ℕ) (u : List ℕ) (m n : ℕ) → (reading form u m n).refusal.place ≤ length u
unfolding reading
place_inside form u m n = go (eqb (early form u) 0) refl
  where
    go : (b : Bool) → eqb (early form u) 0 ≡ b → (reading form u m n).refusal.place ≤ length u
    go true e = inside u (reading form u m n) (blamed form u m n (eqb-true (early form u) 0 e))
    go false e = rw e (omega arith)

-- ---- bytes behind the update

abbrev Other : Reading → Type 0
Other r = r.refusal.number ≢ 1

ranges-same : (bs : List Block) (x y : Course Range) → Stays x y → Other (with_ranges bs x) → with_ranges bs y ≡ with_ranges bs x
unfolding with_ranges
ranges-same bs x y h q =
    ending-stays _ _ (λ why. refused why) Other (λ why z. z) x y h
    (λ same s z. ap (λ (c : Course Range). record { refusal = none; blocks = bs; ranges = normal (things c) }) same) q

blocks-same : (form : ℕ) (u w : List ℕ) (m n : ℕ) → Other (with_blocks form u n (fit m (blocks_of form u)))
    → with_blocks form (u ++ w) n (fit m (blocks_of form (u ++ w))) ≡ with_blocks form u n (fit m (blocks_of form u))
unfolding with_blocks
blocks-same form u w m n q =
    let x = fit m (blocks_of form u) in
    let y = fit m (blocks_of form (u ++ w)) in
    let set : ℕ → Course Range = λ at. fit n (delete_set form u at) in
    let set' : ℕ → Course Range = λ at. fit n (delete_set form (u ++ w) at) in
    let set-stays : (at : ℕ) → Stays (set at) (set' at) = λ at. fit_stays n (delete_set form u at) (delete_set form (u ++ w) at) (ranges-stay form u w at) in
    ending-stays (λ at. with_ranges (things x) (set at)) (λ at. with_ranges (things y) (set' at)) (λ why. refused why) Other (λ why z. z) x y
    (fit_stays m (blocks_of form u) (blocks_of form (u ++ w)) (blocks-stay form u w))
    (λ same at z. ap (λ (c : Course Block). with_ranges (things c) (set' at)) same ∙ ranges-same (things x) (set at) (set' at) (set-stays at) z) q

-- within the length limit, what is looked at before reading stays too
early-same : (form : ℕ) (u w : List ℕ) → length (u ++ w) ≤ max_update → early form (u ++ w) ≡ early form u
unfolding early
early-same form u w l =
    let s = length-append u w in
    rw (le-ltb max_update (length (u ++ w)) l, le-ltb max_update (length u) (omega arith)) refl

pub appended : (form : ℕ) (u w : List ℕ) (m n : ℕ) → length (u ++ w) ≤ max_update → (reading form u m n).refusal.number ≢ 1
    → reading form (u ++ w) m n ≡ reading form u m n
unfolding reading
appended form u w m n l q = rw (early-same form u w l) (go (eqb (early form u) 0) q)
  where
    go : (b : Bool) → Other (pick b (with_blocks form u n (fit m (blocks_of form u))) (refused (nowhere (early form u))))
        → pick b (with_blocks form (u ++ w) n (fit m (blocks_of form (u ++ w)))) (refused (nowhere (early form u)))
        ≡ pick b (with_blocks form u n (fit m (blocks_of form u))) (refused (nowhere (early form u)))
    go true q = blocks-same form u w m n q
    go false q = refl
