-- What a look finds: a dependency that holds the block or none, one after the other; and what it leaves of the desk.
use mathlib.Core.Path.{◌≡◌, refl, sym, ap, ◌∙◌}
use mathlib.Core.Logic.{◌≢◌}
use mathlib.Core.Bool.{Bool, true, false}
use mathlib.Core.List.{List}
use Prim.Native.Nat.{ℕ, suc, ◌-◌, ◌≤◌, ◌<◌}
use native.Mathlib.Omega.{arith}
use lib.Dec.{ltb, leb, eqb}
use lib.ListN.{length, get_or, drop, drop_of_length-le, get_or-eq_default}
use lib.Seq.{drop-cons}
use borrow.Author.Tests.{ltb-true, ltb-false, lt-ltb, le-ltb, leb-true, leb-false, eq-eqb, ne_eqb}
use Rattle.numbers.specs.Number.{pick}
use Rattle.block.specs.declared.Block.{Block}
use Rattle.block.specs.declared.Id.{Id}
use Rattle.slots.specs.Slots.{Slot, slots_from, rank, is_named}
use Rattle.picker.specs.declared.fronts.Front.{Front}
use Rattle.picker.specs.declared.stages.Dependency.{Dependency}
use Rattle.picker.specs.declared.Look.{Look}
use Rattle.picker.specs.Fronts.{front_at, put_front}
use Rattle.picker.specs.Waits.{no_dependency}
use Rattle.picker.specs.Stages.{stages, stage_count, stage_at}
use Rattle.picker.specs.Picker.{met_at, is_met, holds, awaiting_at, awaiting, ready}
use Rattle.picker.specs.Picker.{considered, looked_from, looked, one_more, moved, lift, pushed, pointed, desk, kept, took, offered}
use Rattle.slots.proofs.Words.{slots_length}
use Rattle.picker.proofs.StageLaws.{stages-most}

-- ---- one dependency, looked at unless it was before

module _ (ss : List Slot) (reach : List ℕ) (f : Front) (k : ℕ) (a : Dependency) where
  abbrev pub look_at : Front
  look_at = pick (ltb f.stage k) (considered ss reach f k a) (ready f)

  pub not_there : a.there ≡ false → look_at ≡ ready f
  unfolding considered holds
  not_there e = rw e (go (ltb f.stage k))
    where
      go : (x : Bool) → pick x (ready f) (ready f) ≡ ready f
      go true = refl
      go false = refl

  pub not-again : k ≤ f.stage → look_at ≡ ready f
  not-again h = rw (le-ltb f.stage k h) refl

  -- its client has slot p, if it is named
  module _ (p : ℕ) (named : Bool) (at : p ≡ rank a.id.client ss) (is : named ≡ is_named a.id.client ss) (there : a.there ≡ true)
      (new : f.stage < k) where
    met-here : met_at reach p named a.id ≡ is_met ss reach a.id
    unfolding is_met
    met-here = λ i. met_at reach (at i) (is i) a.id

    awaits-here : awaiting_at f k p named a.id ≡ awaiting ss f k a.id
    unfolding awaiting
    awaits-here = λ i. awaiting_at f k (at i) (is i) a.id

    pub is-met : met_at reach p named a.id ≡ true → look_at ≡ ready f
    unfolding considered holds
    is-met e = rw (lt-ltb f.stage k new, there, sym met-here ∙ e) refl

    pub not-met : met_at reach p named a.id ≡ false → look_at ≡ awaiting_at f k p named a.id
    unfolding considered holds
    not-met e = rw (lt-ltb f.stage k new, there, sym met-here ∙ e) (sym awaits-here)

-- ---- one dependency after the other

module _ (ss : List Slot) (reach : List ℕ) (f : Front) where
  -- what is not there holds nothing
  none-holds : holds ss reach no_dependency ≡ false
  unfolding holds
  none-holds = refl

  -- number k is looked at
  module _ (ds : List Dependency) (k : ℕ) where
    look-turn : looked_from ss reach f k (drop k ds)
        ≡ pick (holds ss reach (get_or ds k no_dependency)) (awaiting ss f (suc k) (get_or ds k no_dependency).id)
        (looked_from ss reach f (suc k) (drop (suc k) ds))
    unfolding looked_from
    look-turn = go (ltb k (length ds)) refl
      where
        go : (x : Bool) → ltb k (length ds) ≡ x → looked_from ss reach f k (drop k ds)
            ≡ pick (holds ss reach (get_or ds k no_dependency)) (awaiting ss f (suc k) (get_or ds k no_dependency).id)
            (looked_from ss reach f (suc k) (drop (suc k) ds))
        go true e = rw (drop-cons ds k no_dependency (ltb-true k (length ds) e)) refl
        go false e =
            let h = ltb-false k (length ds) e in
            rw (
              drop_of_length-le ds {i = k} h,
              drop_of_length-le ds {i = suc k} (omega arith),
              get_or-eq_default ds no_dependency {n = k} h,
              none-holds,
            )
            refl

  waits-for : (k : ℕ) (d : Id) → (awaiting ss f k d).need ≢ 0
  unfolding awaiting awaiting_at
  waits-for k d e = go (is_named d.client ss) e
    where
      go : (x : Bool) → (awaiting_at f k (rank d.client ss) x d).need ≡ 0 → ⊥
      go true e = omega arith
      go false e = omega arith

module _ (rule : ℕ) (ss : List Slot) (reach : List ℕ) (f : Front) (b : Block) where
  look-ended : (k : ℕ) → stage_count rule ≤ k → ready f ≡ looked_from ss reach f k (drop k (stages rule b))
  unfolding looked_from
  look-ended k h = rw (drop_of_length-le (stages rule b) {i = k} (omega (arith, stages-most rule b))) refl

  module _ (k : ℕ) where
    -- the block waits for number k, or the next is looked at
    look-by : (x : Bool) → holds ss reach (stage_at rule b k) ≡ x
        → pick (eqb (considered ss reach f (suc k) (stage_at rule b k)).need 0)
        (looked_from ss reach f (suc k) (drop (suc k) (stages rule b)))
        (considered ss reach f (suc k) (stage_at rule b k))
        ≡ looked_from ss reach f k (drop k (stages rule b))
    unfolding considered stage_at ready
    look-by true e =
        let d = (stage_at rule b k).id in
        let w = ne_eqb (awaiting ss f (suc k) d).need 0 (waits-for ss reach f (suc k) d) in
        rw (look-turn ss reach f (stages rule b) k, e, w) refl
    look-by false e = rw (look-turn ss reach f (stages rule b) k, e) refl

    last_turn : stage_count rule ≤ suc k → considered ss reach f (suc k) (stage_at rule b k) ≡ looked_from ss reach f k (drop k (stages rule b))
    unfolding considered stage_at
    last_turn h = rw (look-turn ss reach f (stages rule b) k, ← look-ended (suc k) h) refl

  -- what is found from stage k on is what is found, if no more stages were looked at before
  abbrev pub Reached : ℕ → Type 0
  Reached k = f.stage ≤ k → looked_from ss reach f k (drop k (stages rule b)) ≡ looked rule ss reach f b

  from-here : (k : ℕ) → f.stage ≡ k → looked_from ss reach f k (drop k (stages rule b)) ≡ looked rule ss reach f b
  unfolding looked
  from-here k e = ap (λ (i : ℕ). looked_from ss reach f i (drop i (stages rule b))) (sym e)

  pub reached-none : Reached 0
  reached-none h = from-here 0 (omega arith)

  -- stage k is looked at, unless it was before
  module _ (k : ℕ) (a : Dependency) (g : Front) (is : a ≡ stage_at rule b k)
      (found : g ≡ look_at ss reach f (suc k) a) where
    seen : f.stage ≤ k → g ≡ considered ss reach f (suc k) (stage_at rule b k)
    seen h = found ∙ rw (lt-ltb f.stage (suc k) (omega arith)) (ap (considered ss reach f (suc k)) is)

    unseen : suc k ≤ f.stage → g ≡ ready f
    unseen h = found ∙ not-again ss reach f (suc k) a h

    early : ltb f.stage (suc k) ≡ true → f.stage ≤ k
    early e = omega (arith, ltb-true f.stage (suc k) e)

    asked : g.need ≢ 0 → f.stage ≤ k
    unfolding ready
    asked h = go (ltb f.stage (suc k)) refl
      where
        go : (x : Bool) → ltb f.stage (suc k) ≡ x → f.stage ≤ k
        go true e = early e
        go false e = absurd (h (ap (λ (g : Front). g.need) (unseen (ltb-false f.stage (suc k) e))))

    pub look-waits : g.need ≢ 0 → Reached k → g ≡ looked rule ss reach f b
    look-waits h on = (rw (← seen (asked h), ne_eqb g.need 0 h) at (look-by k (holds ss reach (stage_at rule b k)) refl)) ∙ on (asked h)

    pub look-on : g.need ≡ 0 → Reached k → Reached (suc k)
    look-on h on late = go (leb f.stage k) refl
      where
        go : (x : Bool) → leb f.stage k ≡ x → looked_from ss reach f (suc k) (drop (suc k) (stages rule b)) ≡ looked rule ss reach f b
        go true e =
            let s = leb-true f.stage k e in
            (rw (← seen s, eq-eqb g.need 0 h) at (look-by k (holds ss reach (stage_at rule b k)) refl)) ∙ on s
        go false e = from-here (suc k) (omega (arith, leb-false f.stage k e))

    -- the last
    pub look-last : stage_count rule ≤ suc k → Reached k → g ≡ looked rule ss reach f b
    look-last h on = go (ltb f.stage (suc k)) refl
      where
        go : (x : Bool) → ltb f.stage (suc k) ≡ x → g ≡ looked rule ss reach f b
        go true e = seen (early e) ∙ last_turn k h ∙ on (early e)
        go false e =
            let s = ltb-false f.stage (suc k) e in
            unseen s ∙ look-ended f.stage (omega arith) ∙ from-here f.stage refl

-- ---- the desk after a look

module _ (rule : ℕ) (s : List ℕ) (n : ℕ) (p : Look) (reach fronts order : List ℕ) (b : Block) (f g : Front) (is : f ≡ front_at fronts p.slot)
    (found : g ≡ looked rule (slots_from s 0 n) reach f b) where
  pub offer-waits : g.need ≢ 0 → offered rule (slots_from s 0 n) (desk p reach fronts order) b
      ≡ desk (pointed (put_front fronts p.slot g) reach n p.steps (p.left - 1)) reach (put_front fronts p.slot g) order
  unfolding offered kept
  offer-waits h = rw (← is, ← found, ne_eqb g.need 0 h, slots_length s 0 n) refl

  pub offer-takes : g.need ≡ 0 → offered rule (slots_from s 0 n) (desk p reach fronts order) b
      ≡ desk (pointed (put_front fronts p.slot (moved f p.row)) (lift reach p.slot b) n (one_more p.steps) (p.left - 1)) (lift reach p.slot b)
      (put_front fronts p.slot (moved f p.row)) (pushed order p.steps p.row)
  unfolding offered took
  offer-takes h = rw (← is, ← found, eq-eqb g.need 0 h, slots_length s 0 n) refl
