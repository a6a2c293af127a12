-- What a look at a front finds, in the words of the rule: the block is ready, or it waits for the first id that is not met.
use Prim.Native.Nat.{ℕ, suc, ◌+◌, ◌≤◌, ◌<◌}
use mathlib.Core.Path.{◌≡◌, refl, sym, ap, subst, ◌∙◌}
use mathlib.Core.Logic.{◌⊎◌, inl, inr, ◌≢◌}
use mathlib.Core.Bool.{Bool, true, false, ◌||◌}
use mathlib.Core.List.{List, [], ◌∷◌, ◌++◌}
use mathlib.Core.Option.{Option, none, some}
use native.Mathlib.Omega.{arith}
use lib.Dec.{T, ltb}
use lib.ListN.{length, get_or, take, drop, take-append-drop, length-drop}
use lib.Seq.{take-suc, drop-cons, drop-nil, take-add, get_or-drop}
use borrow.Author.Tests.{ltb-true, lt-ltb, le-ltb}
use Rattle.numbers.specs.Number.{pick}
use Rattle.block.specs.declared.Id.{Id}
use Rattle.block.specs.declared.Block.{Block}
use Rattle.slots.specs.Slots.{Slot, is_named, rank}
use Rattle.picker.specs.declared.fronts.Front.{Front}
use Rattle.picker.specs.declared.stages.Dependency.{Dependency}
use Rattle.picker.specs.Waits.{dep, no_dependency}
use Rattle.picker.specs.Stages.{stages, stage_count}
use Rattle.picker.specs.Fronts.{never}
use Rattle.picker.specs.Picker.{met_at, is_met, holds, awaiting_at, awaiting, ready, looked_from, looked}
use Rattle.sorting.specs.Rules.{is_skip, unmet, waits as waits_for, below, by_reaches, free}
use Rattle.sorting.specs.Named.{rule_of}
use Rattle.outcome.specs.Tie.{slot_of, Awaits}
use Rattle.slots.proofs.Ranks.{named-slot}
use Rattle.outcome.proofs.Asked.{ids_in, Clocks}
use Rattle.outcome.proofs.Stages.{stages-ask, stages-many, stages-none, stage-clock}

-- the reaches of the slots are what is known, and of other clients nothing is known
pub record Shows (ss : List Slot) (reach : List ℕ) (κ : ℕ → ℕ) : Type 0 where
  pub at : (i : ℕ) → i < length ss → get_or reach i 0 ≡ κ (slot_of ss i).client
  pub else : (c : ℕ) → is_named c ss ≡ false → κ c ≡ 0

-- the first k stages of a block are met
unfoldable pub Passed : ℕ → (ℕ → ℕ) → Block → ℕ → Type 0
Passed rule κ b k = unmet (below κ) (ids_in (take k (stages rule b))) ≡ none

-- the front needs the reach that meets an id, or one that never comes where the id's client has no slot
abbrev pub Needs : List Slot → Front → Id → Type 0
Needs ss f d =
    ((is_named d.client ss ≡ true) × (f.slot ≡ rank d.client ss) × (f.need ≡ d.clock + 1))
    ⊎ ((is_named d.client ss ≡ false) × (f.need ≡ never))

-- the front waits for stage k of its block, all before that being met
pub record Waits (rule : ℕ) (κ : ℕ → ℕ) (ss : List Slot) (b : Block) (f : Front) (k : ℕ) (d : Id) : Type 0 where
  pub stage : f.stage ≡ suc k
  pub small : k < stage_count rule
  pub skip : is_skip b ≡ false
  pub has : get_or (stages rule b) k no_dependency ≡ dep true d
  pub before : Passed rule κ b k
  pub missing : f.missing ≡ d.client
  pub need : Needs ss f d
  -- what never comes is looked for in slot 0, which has a reach
  pub nowhere : is_named d.client ss ≡ false → f.slot ≡ 0

-- a front of block b is as it should be: it has not been looked at, or it waits for something
pub data FrontOk (rule : ℕ) (κ : ℕ → ℕ) (ss : List Slot) (b : Block) (f : Front) : Type 0 where
  unseen : f.need ≡ 0 → f.stage ≡ 0 → FrontOk rule κ ss b f
  waits : (k : ℕ) (d : Id) → Waits rule κ ss b f k d → FrontOk rule κ ss b f

-- it holds its block, where so much is met
unfoldable pub held : (Id → Bool) → Dependency → Bool
held met a = pick a.there (pick (met a.id) false true) false

unmet-more : (met : Id → Bool) (a : Dependency) (rest : List Dependency)
    → unmet met (ids_in (a ∷ rest)) ≡ pick (held met a) (some a.id) (unmet met (ids_in rest))
unfolding unmet ids_in held
unmet-more met a rest = go a.there
  where
    there : (m : Bool) (o : Option Id) → pick m o (some a.id) ≡ pick (pick m false true) (some a.id) o
    there true o = refl
    there false o = refl

    go : (x : Bool) → unmet met (pick x (a.id ∷ ids_in rest) (ids_in rest))
        ≡ pick (pick x (pick (met a.id) false true) false) (some a.id) (unmet met (ids_in rest))
    go true = there (met a.id) (unmet met (ids_in rest))
    go false = refl

-- stages that hold nothing change nothing
past : (met : Id → Bool) (ds rest : List Dependency) → unmet met (ids_in ds) ≡ none → unmet met (ids_in (ds ++ rest)) ≡ unmet met (ids_in rest)
past met [] rest h = refl
past met (a ∷ ds) rest h = unmet-more met a (ds ++ rest) ∙ go (held met a) (sym (unmet-more met a ds) ∙ h) (past met ds rest)
  where
    go : (x : Bool) → pick x (some a.id) (unmet met (ids_in ds)) ≡ none
        → (unmet met (ids_in ds) ≡ none → unmet met (ids_in (ds ++ rest)) ≡ unmet met (ids_in rest))
        → pick x (some a.id) (unmet met (ids_in (ds ++ rest))) ≡ unmet met (ids_in rest)
    go true h more = absurd (let z : ◌≡◌ {A = ℕ} 0 1 = cc in omega arith)
    go false h more = more h

pub passed-zero : (rule : ℕ) (κ : ℕ → ℕ) (b : Block) → Passed rule κ b 0
unfolding Passed unmet ids_in
passed-zero rule κ b = refl

-- what a block still waits for is among the stages that have not been passed
pub waits-from : (rule : ℕ) (κ : ℕ → ℕ) (b : Block) (k : ℕ) → is_skip b ≡ false → Passed rule κ b k
    → waits_for (rule_of rule) κ b.client b ≡ unmet (below κ) (ids_in (drop k (stages rule b)))
unfolding Passed waits_for by_reaches
waits-from rule κ b k s h =
    ap (unmet (below κ)) (sym (stages-ask rule b s) ∙ ap ids_in (sym (take-append-drop k (stages rule b))))
    ∙ past (below κ) (take k (stages rule b)) (drop k (stages rule b)) h

-- one stage more that holds nothing
passed-more : (rule : ℕ) (κ : ℕ → ℕ) (b : Block) (k : ℕ) → k < length (stages rule b) → Passed rule κ b k
    → held (below κ) (get_or (stages rule b) k no_dependency) ≡ false → Passed rule κ b (suc k)
unfolding Passed unmet ids_in
passed-more rule κ b k small h free =
    ap (λ (ds : List Dependency). unmet (below κ) (ids_in ds)) (take-suc (stages rule b) k no_dependency small)
    ∙ past (below κ) (take k (stages rule b)) (get_or (stages rule b) k no_dependency ∷ []) h
    ∙ unmet-more (below κ) (get_or (stages rule b) k no_dependency) []
    ∙ ap (λ (x : Bool). pick x (some (get_or (stages rule b) k no_dependency).id) none) free

-- ---- what is known more

below_up : (κ κ' : ℕ → ℕ) → ((c : ℕ) → κ c ≤ κ' c) → (d : Id) → below κ d ≡ true → below κ' d ≡ true
below_up κ κ' up d h = lt-ltb d.clock (κ' d.client) (omega (arith, ltb-true d.clock (κ d.client) h, up d.client))

unmet-up : (κ κ' : ℕ → ℕ) → ((c : ℕ) → κ c ≤ κ' c) → (ds : List Id) → unmet (below κ) ds ≡ none → unmet (below κ') ds ≡ none
unfolding unmet
unmet-up κ κ' up [] h = refl
unmet-up κ κ' up (d ∷ ds) h = go (below κ d) (below κ' d) (below_up κ κ' up d) h (unmet-up κ κ' up ds)
  where
    go : (m m' : Bool) → (m ≡ true → m' ≡ true) → pick m (unmet (below κ) ds) (some d) ≡ none
        → (unmet (below κ) ds ≡ none → unmet (below κ') ds ≡ none) → pick m' (unmet (below κ') ds) (some d) ≡ none
    go true m' more h rest = rw (more refl) (rest h)
    go false m' more h rest = absurd (let z : ◌≡◌ {A = ℕ} 0 1 = cc in omega arith)

pub passed-up : (rule : ℕ) (κ κ' : ℕ → ℕ) → ((c : ℕ) → κ c ≤ κ' c) → (b : Block) (k : ℕ) → Passed rule κ b k → Passed rule κ' b k
unfolding Passed
passed-up rule κ κ' up b k h = unmet-up κ κ' up (ids_in (take k (stages rule b))) h

pub front-up : (rule : ℕ) (κ κ' : ℕ → ℕ) → ((c : ℕ) → κ c ≤ κ' c) → (ss : List Slot) (b : Block) (f : Front) → FrontOk rule κ ss b f → FrontOk rule κ' ss b f
front-up rule κ κ' up ss b f (unseen n s) = unseen n s
front-up rule κ κ' up ss b f (waits k d w) = waits k d (record {
  stage = w.stage;
  small = w.small;
  skip = w.skip;
  has = w.has;
  before = passed-up rule κ κ' up b k w.before;
  missing = w.missing;
  need = w.need;
  nowhere = w.nowhere;
})

-- ---- a look leaves row and count as they are

abbrev Keeps : Front → Front → Type 0
Keeps f g = (g.next ≡ f.next) × (g.left ≡ f.left)

awaiting-keeps : (ss : List Slot) (f : Front) (k : ℕ) (d : Id) → Keeps f (awaiting ss f k d)
unfolding awaiting awaiting_at
awaiting-keeps ss f k d = go (is_named d.client ss)
  where
    go : (named : Bool) → Keeps f (awaiting_at f k (rank d.client ss) named d)
    go true = (refl, refl)
    go false = (refl, refl)

from-keeps : (ss : List Slot) (reach : List ℕ) (f : Front) (k : ℕ) (ds : List Dependency) → Keeps f (looked_from ss reach f k ds)
unfolding looked_from ready
from-keeps ss reach f k [] = (refl, refl)
from-keeps ss reach f k (a ∷ ds) = go (holds ss reach a) (from-keeps ss reach f (suc k) ds)
  where
    go : (x : Bool) → Keeps f (looked_from ss reach f (suc k) ds) → Keeps f (pick x (awaiting ss f (suc k) a.id) (looked_from ss reach f (suc k) ds))
    go true more = awaiting-keeps ss f (suc k) a.id
    go false more = more

pub looked-next : (rule : ℕ) (ss : List Slot) (reach : List ℕ) (f : Front) (b : Block) → (looked rule ss reach f b).next ≡ f.next
unfolding looked
looked-next rule ss reach f b = (from-keeps ss reach f f.stage (drop f.stage (stages rule b))).0

pub looked-left : (rule : ℕ) (ss : List Slot) (reach : List ℕ) (f : Front) (b : Block) → (looked rule ss reach f b).left ≡ f.left
unfolding looked
looked-left rule ss reach f b = (from-keeps ss reach f f.stage (drop f.stage (stages rule b))).1

-- ---- a dependency

held-met : (met : Id → Bool) (d : Id) → met d ≡ true → held met (dep true d) ≡ false
unfolding held
held-met met d h = rw h

held-unmet : (met : Id → Bool) (d : Id) → met d ≡ false → held met (dep true d) ≡ true
unfolding held
held-unmet met d h = rw h

held-there : (met : Id → Bool) (a : Dependency) → held met a ≡ true → a.there ≡ true
unfolding held
held-there met a h = go a.there h
  where
    go : (t : Bool) → pick t (pick (met a.id) false true) false ≡ true → t ≡ true
    go true h = refl
    go false h = h

-- the first of these stages, from number k on, that holds its block, and the front that is found then
pub record Found (ss : List Slot) (reach : List ℕ) (κ : ℕ → ℕ) (f : Front) (k : ℕ) (ds : List Dependency) (d : Id) : Type 0 where
  pub at : ℕ
  pub number : ℕ
  pub sum : number ≡ k + at
  pub inside : at < length ds
  pub has : get_or ds at no_dependency ≡ dep true d
  pub before : unmet (below κ) (ids_in (take at ds)) ≡ none
  pub front : looked_from ss reach f k ds ≡ awaiting ss f (suc number) d

-- front g waits for an id, so many dependencies having been looked at
pub record Awaiting (ss : List Slot) (g : Front) (k : ℕ) (d : Id) : Type 0 where
  pub stage : g.stage ≡ k
  pub missing : g.missing ≡ d.client
  pub need : Needs ss g d
  pub nowhere : is_named d.client ss ≡ false → g.slot ≡ 0
  pub some : g.need ≢ 0

awaiting-is : (ss : List Slot) (f : Front) (k : ℕ) (d : Id) → Awaiting ss (awaiting ss f k d) k d
unfolding awaiting awaiting_at
awaiting-is ss f k d = go (is_named d.client ss) refl
  where
    go : (x : Bool) → is_named d.client ss ≡ x → Awaiting ss (awaiting_at f k (rank d.client ss) x d) k d
    go true e = record {
      stage = refl;
      missing = refl;
      need = inl (e, refl, refl);
      nowhere = λ n. absurd (let z : ◌≡◌ {A = ℕ} 0 1 = cc in omega arith);
      some = λ h. omega arith;
    }
    go false e = record { stage = refl; missing = refl; need = inr (e, refl); nowhere = λ n. refl; some = λ h. omega arith }

-- front f was looked at and is g now: it waits for a later stage, and the block may not be taken
abbrev pub Waiting : ℕ → (ℕ → ℕ) → List Slot → Block → Front → Front → Type 0
Waiting rule κ ss b f g =
    FrontOk rule κ ss b g × (f.stage < g.stage) × (g.stage ≤ stage_count rule) × (T (is_skip b || free (waits_for (rule_of rule) κ b.client b)) → ⊥)

module _ (rule : ℕ) {ss : List Slot} {reach : List ℕ} {κ : ℕ → ℕ} (shows : Shows ss reach κ) where
  -- the reach at a client's rank
  reach-named : (c : ℕ) → is_named c ss ≡ true → get_or reach (rank c ss) 0 ≡ κ c
  reach-named c h = shows.at (rank c ss) (named-slot c ss h).0 ∙ ap κ (named-slot c ss h).1

  pub met-below : (d : Id) → is_met ss reach d ≡ below κ d
  unfolding is_met met_at
  met-below d = go (is_named d.client ss) refl
    where
      go : (x : Bool) → is_named d.client ss ≡ x → pick x (ltb d.clock (get_or reach (rank d.client ss) 0)) false ≡ below κ d
      go true e = rw (reach-named d.client e)
      go false e = sym (le-ltb d.clock (κ d.client) (omega (arith, shows.else d.client e)))

  holds-held : (a : Dependency) → holds ss reach a ≡ held (below κ) a
  unfolding holds held
  holds-held a = rw (met-below a.id)

  -- ---- a front that may be looked at, and one that may not

  due-met : (b : Block) (f : Front) (k : ℕ) (d : Id) → Waits rule κ ss b f k d → f.need ≤ get_or reach f.slot 0 → get_or reach 0 0 < never → below κ d ≡ true
  due-met b f k d w due small = go w.need
    where
      go : Needs ss f d → below κ d ≡ true
      go (inl (e, p, q)) = lt-ltb d.clock (κ d.client) (omega (arith, rw p at due, reach-named d.client e))
      go (inr (e, q)) = absurd (omega (arith, rw (w.nowhere e) at due))

  pub due-passed : (b : Block) (f : Front) → FrontOk rule κ ss b f → f.need ≤ get_or reach f.slot 0 → get_or reach 0 0 < never
      → Passed rule κ b f.stage × (f.stage ≤ stage_count rule)
  due-passed b f (unseen n s) due small = (rw s (passed-zero rule κ b), omega arith)
  due-passed b f (waits k d w) due small = (
    rw w.stage (passed-more rule κ b k (omega (arith, w.small, stages-many rule b w.skip)) w.before
        (rw w.has (held-met (below κ) d (due-met b f k d w due small)))),
    omega (arith, w.stage, w.small),
  )

  awaited : (b : Block) (f : Front) (k : ℕ) (d : Id) → Waits rule κ ss b f k d → below κ d ≡ false → waits_for (rule_of rule) κ b.client b ≡ some d
  awaited b f k d w h =
      waits-from rule κ b k w.skip w.before
      ∙ ap (λ (ds : List Dependency). unmet (below κ) (ids_in ds))
      (drop-cons (stages rule b) k no_dependency (omega (arith, w.small, stages-many rule b w.skip)))
      ∙ unmet-more (below κ) (get_or (stages rule b) k no_dependency) (drop (suc k) (stages rule b))
      ∙ rw (w.has, held-unmet (below κ) d h)

  not-met : (b : Block) (f : Front) (k : ℕ) (d : Id) → Waits rule κ ss b f k d → get_or reach f.slot 0 < f.need → below κ d ≡ false
  not-met b f k d w short = go w.need
    where
      go : Needs ss f d → below κ d ≡ false
      go (inl (e, p, q)) = le-ltb d.clock (κ d.client) (omega (arith, rw p at short, reach-named d.client e))
      go (inr (e, q)) = le-ltb d.clock (κ d.client) (omega (arith, shows.else d.client e))

  pub not-due : (b : Block) (f : Front) → Clocks b → FrontOk rule κ ss b f → get_or reach f.slot 0 < f.need
      → (d : Id) × (waits_for (rule_of rule) κ b.client b ≡ some d) × (is_skip b ≡ false) × (f.missing ≡ d.client) × Awaits ss f d.client
  not-due b f clocks (unseen n s) short = absurd (omega arith)
  not-due b f clocks (waits k d w) short = (d, awaited b f k d w (not-met b f k d w short), w.skip, w.missing, go w.need)
    where
      go : Needs ss f d → Awaits ss f d.client
      go (inl (e, p, q)) = inl (e, p, omega (arith, stage-clock rule b k d clocks w.has))
      go (inr (e, q)) = inr (e, q)

  -- ---- what a look finds

  from-none : (f : Front) (k : ℕ) (ds : List Dependency) → unmet (below κ) (ids_in ds) ≡ none → looked_from ss reach f k ds ≡ ready f
  unfolding looked_from
  from-none f k [] h = refl
  from-none f k (a ∷ ds) h = rw (holds-held a) (go (held (below κ) a) (sym (unmet-more (below κ) a ds) ∙ h) (from-none f (suc k) ds))
    where
      go : (x : Bool) → pick x (some a.id) (unmet (below κ) (ids_in ds)) ≡ none
          → (unmet (below κ) (ids_in ds) ≡ none → looked_from ss reach f (suc k) ds ≡ ready f)
          → pick x (awaiting ss f (suc k) a.id) (looked_from ss reach f (suc k) ds) ≡ ready f
      go true h more = absurd (let z : ◌≡◌ {A = ℕ} 0 1 = cc in omega arith)
      go false h more = more h

  from_some : (f : Front) (k : ℕ) (ds : List Dependency) (d : Id) → unmet (below κ) (ids_in ds) ≡ some d → Found ss reach κ f k ds d
  unfolding looked_from unmet ids_in
  from_some f k [] d h = absurd (let z : ◌≡◌ {A = ℕ} 0 1 = cc in omega arith)
  from_some f k (a ∷ ds) d h = go (held (below κ) a) refl (sym (unmet-more (below κ) a ds) ∙ h) (from_some f (suc k) ds d)
    where
      go : (x : Bool) → held (below κ) a ≡ x → pick x (some a.id) (unmet (below κ) (ids_in ds)) ≡ some d
          → (unmet (below κ) (ids_in ds) ≡ some d → Found ss reach κ f (suc k) ds d) → Found ss reach κ f k (a ∷ ds) d
      go true e h more =
          let p : a.id ≡ d = cc in
          record {
            at = 0;
            number = k;
            sum = omega arith;
            inside = omega arith;
            has = rw (← p) (ap (λ (t : Bool). dep t a.id) (held-there (below κ) a e));
            before = refl;
            front = rw (holds-held a, e, p);
          }
      go false e h more =
          let r = more h in
          record {
            at = suc r.at;
            number = r.number;
            sum = omega (arith, r.sum);
            inside = omega (arith, r.inside);
            has = r.has;
            before = unmet-more (below κ) a (take r.at ds) ∙ rw e r.before;
            front = rw (holds-held a, e) r.front;
          }

  pub ready_by : (b : Block) (f : Front) → Passed rule κ b f.stage → (looked rule ss reach f b).need ≡ 0
      → T (is_skip b || free (waits_for (rule_of rule) κ b.client b))
  unfolding looked
  ready_by b f passed h = go (is_skip b) refl (unmet (below κ) (ids_in (drop f.stage (stages rule b)))) refl
    where
      go : (s : Bool) → is_skip b ≡ s → (o : Option Id) → unmet (below κ) (ids_in (drop f.stage (stages rule b))) ≡ o
          → T (s || free (waits_for (rule_of rule) κ b.client b))
      go true s o e = tt
      go false s none e = rw (waits-from rule κ b f.stage s passed, e) tt
      go false s (some d) e =
          let r = from_some f f.stage (drop f.stage (stages rule b)) d e in
          absurd ((awaiting-is ss f (suc r.number) d).some (rw r.front at h))

  -- a front that is found waiting
  found-waits : (b : Block) (f : Front) (d : Id) → is_skip b ≡ false → Passed rule κ b f.stage
      → (r : Found ss reach κ f f.stage (drop f.stage (stages rule b)) d) → Waits rule κ ss b (awaiting ss f (suc r.number) d) r.number d
  unfolding Passed
  found-waits b f d s passed r =
      let g = awaiting-is ss f (suc r.number) d in
      record {
        stage = g.stage;
        small = omega (arith, r.sum, r.inside, stages-many rule b s, length-drop f.stage (stages rule b));
        skip = s;
        has = rw r.sum (sym (get_or-drop f.stage (stages rule b) r.at no_dependency) ∙ r.has);
        before = rw (r.sum, take-add f.stage r.at (stages rule b))
            (past (below κ) (take f.stage (stages rule b)) (take r.at (drop f.stage (stages rule b))) passed ∙ r.before);
        missing = g.missing;
        need = g.need;
        nowhere = g.nowhere;
      }

  pub waits-by : (b : Block) (f : Front) → Passed rule κ b f.stage → (looked rule ss reach f b).need ≢ 0 → Waiting rule κ ss b f (looked rule ss reach f b)
  unfolding looked ready unmet ids_in
  waits-by b f passed h = go (is_skip b) refl (unmet (below κ) (ids_in (drop f.stage (stages rule b)))) refl
    where
      found : is_skip b ≡ false → (d : Id) → unmet (below κ) (ids_in (drop f.stage (stages rule b))) ≡ some d
          → (r : Found ss reach κ f f.stage (drop f.stage (stages rule b)) d)
          → (w : Waits rule κ ss b (awaiting ss f (suc r.number) d) r.number d)
          → Waiting rule κ ss b f (awaiting ss f (suc r.number) d)
      found s d e r w =
          (waits r.number d w, omega (arith, w.stage, r.sum), omega (arith, w.stage, w.small), rw (s, waits-from rule κ b f.stage s passed, e) (λ t. t))

      go : (s : Bool) → is_skip b ≡ s → (o : Option Id) → unmet (below κ) (ids_in (drop f.stage (stages rule b))) ≡ o
          → Waiting rule κ ss b f (looked_from ss reach f f.stage (drop f.stage (stages rule b)))
      go s p none e = absurd (h (ap (λ (g : Front). g.need) (from-none f f.stage (drop f.stage (stages rule b)) e)))
      go false p (some d) e =
          let r = from_some f f.stage (drop f.stage (stages rule b)) d e in
          subst (λ (g : Front). Waiting rule κ ss b f g) (sym r.front) (found p d e r (found-waits b f d p passed r))
      go true p (some d) e = absurd (let z : none ≡ some d = rw (stages-none rule b p, drop-nil) at e in let z : ◌≡◌ {A = ℕ} 0 1 = cc in omega arith)
