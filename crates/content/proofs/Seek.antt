-- A scan as a walk down the blocks: so many are still ahead of the one sought, or it is found.
use Rattle.std.specs.Prelude.{Result, Ok, Err}
use Prim.Native.Nat.{ℕ, zero, suc, ◌-◌, ◌<◌}
use native.Mathlib.Omega.{arith}
use mathlib.Core.Path.{◌≡◌, refl, sym, ap, ◌∙◌}
use mathlib.Core.Bool.{Bool, true, false}
use mathlib.Core.List.{List}
use lib.ListN.{length}
use Rattle.numbers.specs.declared.Refusal.{Refusal}
use Rattle.block.specs.declared.Block.{Block}
use Rattle.block.specs.Row.{no_block}
use Rattle.grammar.specs.Course.{Course, thing, over, stopped, ending}
use Rattle.cells.specs.Cells.{Small}
use Rattle.item.specs.Row.{row_in, Narrow}
use Rattle.update.specs.declared.Spot.{Spot}
use Rattle.update.specs.declared.Step.{Step}
use Rattle.update.specs.declared.Step.TheVariants as step
use Rattle.update.specs.Steps.{comes, Fine, left, Stepped}
use Rattle.update.proofs.Answers.{on-block, on-on, on-done, on-refused}
use Rattle.content.specs.Content.{nth}
use Rattle.content.specs.ContentInner.{scanned_of}

-- what a scan gives from here
unfoldable pub seek : Bool → ℕ → Block → Course Block → Result (Block × ℕ) Refusal
seek true ahead row (thing b p c) = seek true ahead row c
seek false zero row (thing b p c) = seek true zero b c
seek false (suc n) row (thing b p c) = seek false n row c
seek found ahead row (over a s) = Ok (row, s)
seek found ahead row (stopped why) = Err why

found-ends : (ahead : ℕ) (row : Block) (c : Course Block) → seek true ahead row c ≡ ending c (λ s. Ok (row, s)) (λ why. Err why)
unfolding seek ending
found-ends ahead row (thing b p c) = found-ends ahead row c
found-ends ahead row (over a s) = refl
found-ends ahead row (stopped why) = refl

pub seeks : (n : ℕ) (c : Course Block) → seek false n no_block c ≡ scanned_of n c
unfolding seek scanned_of ending nth
seeks zero (thing b p c) = found-ends zero b c
seeks (suc n) (thing b p c) = seeks n c
seeks zero (over a s) = refl
seeks zero (stopped why) = refl
seeks (suc n) (over a s) = refl
seeks (suc n) (stopped why) = refl

-- ---- a turn of the loop: what the scan gives from the start is what it gives from here

-- c: what is to come before the first step; w, r, m: the words, the row and the memory
pub record Sought (form : ℕ) (u : List ℕ) (n : ℕ) (c : Course Block) (w r m : List ℕ) (s : Spot) (ahead : ℕ) (found : Bool) (row : Block) : Type 0 where
  pub same : seek false n no_block c ≡ seek found ahead row (comes form u m w s)
  pub fine : Fine m s
  pub small : Small w
  pub memory : length m ≡ 64
  pub fields : length r ≡ 24

seek-item : (found : Bool) (ahead : ℕ) (row b : Block) (p : ℕ) (c : Course Block) → found ≡ true → seek found ahead row (thing b p c) ≡ seek found ahead row c
unfolding seek
seek-item true ahead row b p c e = refl
seek-item false ahead row b p c e = absurd (let z : ◌≡◌ {A = ℕ} 0 1 = cc in omega arith)

seek-this : (found : Bool) (ahead : ℕ) (row b : Block) (p : ℕ) (c : Course Block) → found ≡ false → ahead ≡ 0 → seek found ahead row (thing b p c) ≡ seek true ahead b c
unfolding seek
seek-this true ahead row b p c f z = absurd (let z : ◌≡◌ {A = ℕ} 0 1 = cc in omega arith)
seek-this false zero row b p c f z = refl
seek-this false (suc n) row b p c f z = absurd (omega (arith, z))

seek-later : (found : Bool) (ahead : ℕ) (row b : Block) (p : ℕ) (c : Course Block) → found ≡ false → (ahead ≡ 0 → ⊥) → seek found ahead row (thing b p c) ≡ seek found (ahead - 1) row c
unfolding seek
seek-later true ahead row b p c f z = absurd (let z : ◌≡◌ {A = ℕ} 0 1 = cc in omega arith)
seek-later false zero row b p c f z = absurd (z refl)
seek-later false (suc n) row b p c f z = ap (λ (k : ℕ). seek false k row c) (let e : n ≡ suc n - 1 = omega arith in e)

module _ (form : ℕ) (u : List ℕ) (n : ℕ) (c : Course Block) (w r m : List ℕ) (s : Spot) (ahead : ℕ) (found : Bool) (row : Block) (inv : Sought form u n c w r m s ahead found row)
    (m₁ w₁ r₁ : List ℕ) (x : Result Step Refusal) (st : Stepped form u m w r s m₁ w₁ r₁ x) where
  to-now : (t : Spot) (found₁ : Bool) (ahead₁ : ℕ) (row₁ : Block) → Fine m₁ t → seek found ahead row (comes form u m w s) ≡ seek found₁ ahead₁ row₁ (comes form u m₁ w₁ t)
      → Sought form u n c w₁ r₁ m₁ t ahead₁ found₁ row₁
  to-now t found₁ ahead₁ row₁ fine h = record { same = inv.same ∙ h; fine = fine; small = st.small; memory = st.memory ∙ inv.memory; fields = st.row ∙ inv.fields }

  module _ (p : ℕ) (t : Spot) (e : x ≡ Ok (step.Block p t)) where
    block_here : (comes form u m w s ≡ thing (row_in r₁) p (comes form u m₁ w₁ t)) × Fine m₁ t × Narrow r₁ × (left t < left s)
    block_here = on-block form u m w r s m₁ w₁ r₁ x st p t e

    pub narrow : Narrow r₁
    narrow = block_here.2

    pub block-less : left t < left s
    block-less = block_here.3

    before : {y : Result (Block × ℕ) Refusal} → seek found ahead row (thing (row_in r₁) p (comes form u m₁ w₁ t)) ≡ y → seek found ahead row (comes form u m w s) ≡ y
    before h = ap (seek found ahead row) block_here.0 ∙ h

    pub take-this : found ≡ false → ahead ≡ 0 → Sought form u n c w₁ r₁ m₁ t ahead true (row_in r₁)
    take-this f z = to-now t true ahead (row_in r₁) block_here.1 (before (seek-this found ahead row (row_in r₁) p _ f z))

    pub take-later : found ≡ false → (ahead ≡ 0 → ⊥) → Sought form u n c w₁ r₁ m₁ t (ahead - 1) found row
    take-later f z = to-now t found (ahead - 1) row block_here.1 (before (seek-later found ahead row (row_in r₁) p _ f z))

    pub have-it : found ≡ true → Sought form u n c w₁ r₁ m₁ t ahead found row
    have-it f = to-now t found ahead row block_here.1 (before (seek-item found ahead row (row_in r₁) p _ f))

  module _ (t : Spot) (e : x ≡ Ok (step.On t)) where
    on-here : (comes form u m w s ≡ comes form u m₁ w₁ t) × Fine m₁ t × (left t < left s)
    on-here = on-on form u m w r s m₁ w₁ r₁ x st t e

    pub on-less : left t < left s
    on-less = on-here.2

    pub goes_on : Sought form u n c w₁ r₁ m₁ t ahead found row
    goes_on = to-now t found ahead row on-here.1 (ap (seek found ahead row) on-here.0)

  pub at_done : (at : ℕ) → x ≡ Ok (step.Done at) → Ok (row, at) ≡ scanned_of n c
  unfolding seek
  at_done at e = sym (sym (seeks n c) ∙ inv.same ∙ ap (seek found ahead row) (on-done form u m w r s m₁ w₁ r₁ x st at e) ∙ over-is found)
    where
      over-is : (f : Bool) → seek f ahead row (over tt at) ≡ Ok (row, at)
      over-is true = refl
      over-is false = refl

  pub at-refused : (why : Refusal) → x ≡ Err why → Err why ≡ scanned_of n c
  unfolding seek
  at-refused why e = sym (sym (seeks n c) ∙ inv.same ∙ ap (seek found ahead row) (on-refused form u m w r s m₁ w₁ r₁ x st why e) ∙ stopped-is found)
    where
      stopped-is : (f : Bool) → seek f ahead row (stopped why) ≡ Err why
      stopped-is true = refl
      stopped-is false = refl

-- ---- what follows the blocks

-- how a course ends, told with a row
abbrev ends-with : Block → Course Block → Result (Block × ℕ) Refusal
ends-with x c = ending c (λ t. Ok (x, t)) (λ why. Err why)

row_ends : (c : Course Block) (x b : Block) (s : ℕ) {X : Type 0} (f : ℕ → X) (g : Refusal → X) → ends-with x c ≡ Ok (b, s) → (ending c f g ≡ f s) × (x ≡ b)
unfolding ending
row_ends (thing a p c) x b s f g e = row_ends c x b s f g e
row_ends (over a t) x b s f g e = (ap f (ap place_of e), ap row_of e)
  where
    place_of : Result (Block × ℕ) Refusal → ℕ
    place_of (Ok (y, r)) = r
    place_of (Err why) = s

    row_of : Result (Block × ℕ) Refusal → Block
    row_of (Ok (y, r)) = y
    row_of (Err why) = b
row_ends (stopped why) x b s f g e = absurd (let z : ◌≡◌ {A = ℕ} 0 1 = cc in omega arith)

pub scanned-row : (n : ℕ) (c : Course Block) (b : Block) (s : ℕ) {X : Type 0} (f : ℕ → X) (g : Refusal → X) → scanned_of n c ≡ Ok (b, s) → (ending c f g ≡ f s) × (nth n c ≡ b)
unfolding scanned_of
scanned-row n c b s f g e = row_ends c (nth n c) b s f g e

refused-ends : (c : Course Block) (x : Block) (why : Refusal) {X : Type 0} (f : ℕ → X) (g : Refusal → X) → ends-with x c ≡ Err why → ending c f g ≡ g why
unfolding ending
refused-ends (thing a p c) x why f g e = refused-ends c x why f g e
refused-ends (over a t) x why f g e = absurd (let z : ◌≡◌ {A = ℕ} 0 1 = cc in omega arith)
refused-ends (stopped w) x why f g e = ap g (ap why-of e)
  where
    why-of : Result (Block × ℕ) Refusal → Refusal
    why-of (Ok (y, r)) = why
    why-of (Err v) = v

pub scanned-refused : (n : ℕ) (c : Course Block) (why : Refusal) {X : Type 0} (f : ℕ → X) (g : Refusal → X) → scanned_of n c ≡ Err why → ending c f g ≡ g why
unfolding scanned_of
scanned-refused n c why f g e = refused-ends c (nth n c) why f g e
