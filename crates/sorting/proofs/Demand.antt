-- Demand 3 and what goes with it, for an update's blocks by any rule under which more knowledge holds nothing back.
use mathlib.Core.Path.{◌≡◌, refl}
use mathlib.Core.Bool.{Bool, true, false, ◌||◌}
use mathlib.Core.List.{List}
use mathlib.Core.Logic.{◌≢◌}
use mathlib.Core.Option.{Option, none, some}
use Prim.Native.Nat.{ℕ, ◌+◌, ◌≤◌, ◌<◌, max}
use native.Mathlib.Omega.{arith}
use lib.Dec.{T}
use lib.ListN.{length, get_or}
use borrow.Author.Tests.{lt-ltb, eq-eqb, ne_eqb}
use Rattle.numbers.specs.Number.{pick}
use Rattle.block.specs.declared.Id.{Id}
use Rattle.block.specs.declared.Block.{Block}
use Rattle.block.specs.Row.{no_block}
use Rattle.sorting.specs.Steps.{State, start, step, after, Stuck, Ends, Takes, Highest, Sorts}
use Rattle.sorting.specs.Quick.{Listed}
use Rattle.sorting.specs.Rules.{queue, is_skip, Rule, waits, free, system, report, by_reaches}
use Rattle.sorting.specs.Sorted.{steps, order, outcome}
use Rattle.sorting.proofs.Outcome.{can-intro, more-takes}
use Rattle.sorting.proofs.Quick.{quick-sorts, quick-highest, is-quick}
use Rattle.sorting.proofs.Rules.{RuleMonotone, system-monotone, unmet-is, all_any, report-waits}

-- ---- fronts that are left, under any rule

either : (x y : Bool) → T y → T (x || y)
either true y t = tt
either false y t = t

waited : (o : Option Id) → (T (free o) → ⊥) → (d : Id) × (o ≡ some d)
waited none h = absurd (h tt)
waited (some d) h = (d, refl)

-- where no step is possible, a front that is left waits for something
pub stuck-waits : {A : Type 0} (R : Rule A) (q : ℕ → List Block) (s : State A) → Stuck (system R q) s → (c : ℕ) → s.taken c < length (q c)
    → (d : Id) × (report R q s c ≡ some d)
unfolding Stuck system report
stuck-waits R q s stuck c h =
    let b = get_or (q c) (s.taken c) no_block in
    rw (lt-ltb (s.taken c) (length (q c)) h)
    (waited (waits R s.known c b) (λ t. stuck c (can-intro (system R q) s c h (either (is_skip b) (free (waits R s.known c b)) t))))

-- what is reported is not met
pub reported : {A : Type 0} (R : Rule A) (q : ℕ → List Block) (s : State A) (c : ℕ) (d : Id) → report R q s c ≡ some d → R.met s.known d ≡ false
unfolding waits
reported R q s c d p =
    let asked = R.asks c (get_or (q c) (s.taken c) no_block) in
    (unmet-is (λ (e : Id). Unit {0}) (R.met s.known) asked d (all_any asked) (report-waits R q s c d p)).1

-- ---- demand 3: the order of these clients, those with blocks among them, from what is known at first

module _ {A : Type 0} (R : Rule A) (mono : RuleMonotone R) (bs : List Block) (cs : List ℕ) (all : (c : ℕ) → 0 < length (queue bs c) → Listed c cs)
    (κ : A → ℕ) where
  some_of : (c : ℕ) → 0 < (steps R bs).size c → Listed c cs
  unfolding system
  some_of = all

  -- Demand 3
  pub sorted : Sorts (steps R bs) κ (order R bs cs κ)
  unfolding order
  sorted = quick-sorts (steps R bs) cs some_of (system-monotone R (queue bs) mono) κ

  pub highest : Highest (steps R bs) (start κ) (order R bs cs κ)
  unfolding order
  highest = quick-highest (steps R bs) cs some_of (start κ)

  -- and no other order is both
  pub is-order : (ds : List ℕ) → Ends (steps R bs) (start κ) ds → Highest (steps R bs) (start κ) ds → ds ≡ order R bs cs κ
  unfolding order
  is-order = is-quick (steps R bs) cs some_of (start κ)

  -- a front that is left is reported, with something that is not met
  pub left-waits : (c : ℕ) → (outcome R bs cs κ).taken c < length (queue bs c)
      → (d : Id) × (report R (queue bs) (outcome R bs cs κ) c ≡ some d) × (R.met (outcome R bs cs κ).known d ≡ false)
  unfolding outcome
  left-waits c h =
      let s = after (steps R bs) (start κ) (order R bs cs κ) in
      let w = stuck-waits R (queue bs) s sorted.ends.end c h in
      (w.0, w.1, reported R (queue bs) s c w.0 w.1)

-- W-212: with every reach as high or higher, each block taken before is taken again
pub none-held-back : {A : Type 0} (R : Rule A) → RuleMonotone R → (bs : List Block) (κ κ' : A → ℕ) → ((a : A) → κ a ≤ κ' a) → (cs ds : List ℕ)
    → Sorts (steps R bs) κ cs → Sorts (steps R bs) κ' ds → (c k : ℕ) → Takes (steps R bs) (start κ) cs c k → Takes (steps R bs) (start κ') ds c k
none-held-back R mono bs κ κ' more cs ds e f =
    more-takes (steps R bs) (system-monotone R (queue bs) mono) κ κ' more cs ds e.ends.run f.ends

-- ---- what a step does to a reach: it lifts its own client's to the block's end if that is higher, and a Skip lifts nothing

abbrev pub front : {A : Type 0} → List Block → State A → ℕ → Block
front bs s c = get_or (queue bs c) (s.taken c) no_block

module _ (asks : ℕ → Block → List Id) (bs : List Block) (s : State ℕ) (c : ℕ) where
  pub lifts : is_skip (front bs s c) ≡ false
      → (step (steps (by_reaches asks) bs) s c).known c ≡ max (s.known c) ((front bs s c).clock + (front bs s c).length.0)
  unfolding step system by_reaches
  lifts h = rw (h, eq-eqb c c refl)

  pub skip-lifts-none : (d : ℕ) → is_skip (front bs s c) ≡ true → (step (steps (by_reaches asks) bs) s c).known d ≡ s.known d
  unfolding step system by_reaches
  skip-lifts-none d h = rw h (omega arith)

  pub others-stay : (d : ℕ) → d ≢ c → (step (steps (by_reaches asks) bs) s c).known d ≡ s.known d
  unfolding step system by_reaches
  others-stay d ne = rw (ne_eqb d c ne) (go (is_skip (front bs s c)))
    where
      go : (x : Bool) → max (s.known d) (pick x 0 (pick false ((front bs s c).clock + (front bs s c).length.0) 0)) ≡ s.known d
      go true = omega arith
      go false = omega arith
