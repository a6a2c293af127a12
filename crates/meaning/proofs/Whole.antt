-- What all of an update comes to, said of the courses of its blocks and of its delete set.
use Prim.Native.Nat.{ℕ, zero, suc}
use mathlib.Core.Path.{◌≡◌, refl, sym, ap, ◌∙◌}
use mathlib.Core.Bool.{Bool, true, false}
use mathlib.Core.List.{List, ◌∷◌}
use lib.Dec.{eqb}
use borrow.Author.Tests.{eqb-true}
use Rattle.numbers.specs.declared.Refusal.{Refusal}
use Rattle.numbers.specs.Number.{pick}
use Rattle.block.specs.declared.Block.{Block}
use Rattle.ranges.specs.Ranges.{Range}
use Rattle.grammar.specs.Course as course
use Rattle.grammar.specs.Course.{Drawn, CourseTo, thing, over, stopped, on_drawn, run, fit, things, ending}
use Rattle.grammar.specs.Blocks as old
use Rattle.decoder.specs.Line.{line}
use Rattle.decoder.specs.States.{State}
use Rattle.decoder.specs.Columned as decoder
use Rattle.decoder.specs.Opening.{opened_of}
use Rattle.decoder.specs.Update.{rest_places, in_columns, blocks_of, delete_set}
use Rattle.meaning.specs.Reads.{when◌then◌else◌, Got, got, refused, on}
use Rattle.meaning.specs.Fields.{Standing, fields}
use Rattle.meaning.specs.Blocks.{all_blocks}
use Rattle.meaning.specs.Update as short
use Rattle.meaning.specs.Update.{begun, whole}
use Rattle.meaning.specs.Reads.{comes_to}
use Rattle.meaning.specs.Alike.{drawn_as, collect, at_place, at_state}
use Rattle.meaning.proofs.Fields.{alike-1, alike-2}
use Rattle.meaning.proofs.Opening.{opened-alike}
use Rattle.meaning.proofs.Blocks.{blocks-alike}
use Rattle.meaning.proofs.Deletes.{deletes-alike}

abbrev pub refused_by : {S A : Type 0} → Refusal → Got S A
refused_by why = refused why.number why.place

-- ---- a course, its states seen in another way

unfoldable pub seen : {S T E A : Type 0} → (T → S) → CourseTo T E A → CourseTo S E A
seen view (thing e p c) = thing e p (seen view c)
seen view (over a t) = over a (view t)
seen view (stopped why) = stopped why

module _ {S T E A : Type 0} (view : T → S) where
  pub seen-ending : {X : Type 0} (c : CourseTo T E A) (f : S → X) (r : Refusal → X) → ending (seen view c) f r ≡ ending c (λ t. f (view t)) r
  unfolding seen ending
  seen-ending (thing e p c) f r = seen-ending c f r
  seen-ending (over a t) f r = refl
  seen-ending (stopped why) f r = refl

  pub seen-things : (c : CourseTo T E A) → things (seen view c) ≡ things c
  unfolding seen things
  seen-things (thing e p c) = ap (λ (es : List E). e ∷ es) (seen-things c)
  seen-things (over a t) = refl
  seen-things (stopped why) = refl

  pub seen-fit : (n : ℕ) (c : CourseTo T E A) → fit n (seen view c) ≡ seen view (fit n c)
  unfolding seen fit
  seen-fit zero (thing e p c) = refl
  seen-fit (suc n) (thing e p c) = ap (thing e p) (seen-fit n c)
  seen-fit n (over a t) = refl
  seen-fit n (stopped why) = refl

  -- what it keeps, and then what is made of it
  pub collect-then : {U B : Type 0} (c : CourseTo T E A) (k : List E → S → Got U B)
      → on (collect view c) k ≡ ending c (λ t. k (things c) (view t)) refused_by
  unfolding collect on things ending
  collect-then {U} {B} (thing e p c) k = go (collect view c) ∙ collect-then c (λ es. k (e ∷ es))
    where
      go : (g : Got S (List E)) → on (on g (λ es s. got (e ∷ es) s)) k ≡ on g (λ es. k (e ∷ es))
      go (got es s) = refl
      go (refused n p) = refl
  collect-then (over a t) k = refl
  collect-then (stopped why) k = refl

pub rest-places : {E A : Type 0} (c : CourseTo State E A) → rest_places c ≡ seen (λ (s : State). s.at) c
unfolding rest_places seen
rest-places (thing e p c) = ap (thing e p) (rest-places c)
rest-places (over a s) = refl
rest-places (stopped why) = refl

pub seen-seen : {S T U E A : Type 0} (f : T → S) (g : U → T) (c : CourseTo U E A) → seen f (seen g c) ≡ seen (λ u. f (g u)) c
unfolding seen
seen-seen f g (thing e p c) = ap (thing e p) (seen-seen f g c)
seen-seen f g (over a s) = refl
seen-seen f g (stopped why) = refl

pub seen_same : {S E A : Type 0} (c : CourseTo S E A) → seen (λ s. s) c ≡ c
unfolding seen
seen_same (thing e p c) = ap (thing e p) (seen_same c)
seen_same (over a s) = refl
seen_same (stopped why) = refl

-- ---- how a course ends

-- at a state
unfoldable pub Ends : {S E A : Type 0} → CourseTo S E A → S → Type 0
Ends (thing e p c) s = Ends c s
Ends (over a t) s = t ≡ s
Ends (stopped why) s = ⊥

module _ {S E A : Type 0} where
  pub ends-ending : {X : Type 0} (c : CourseTo S E A) (s : S) → Ends c s → (f : S → X) (r : Refusal → X) → ending c f r ≡ f s
  unfolding Ends ending
  ends-ending (thing e p c) s h f r = ends-ending c s h f r
  ends-ending (over a t) s h f r = ap f h
  ends-ending (stopped why) s h f r = absurd h

  pub ends-fit : (n : ℕ) (c : CourseTo S E A) (s : S) → Ends (fit n c) s → Ends c s
  unfolding Ends fit
  ends-fit zero (thing e p c) s h = absurd h
  ends-fit (suc n) (thing e p c) s h = ends-fit n c s h
  ends-fit n (over a t) s h = h
  ends-fit n (stopped why) s h = h

  -- what is made of its end is only made of that
  pub ending-same : {X : Type 0} (c : CourseTo S E A) (f g : S → X) (r : Refusal → X) → ((s : S) → Ends c s → f s ≡ g s) → ending c f r ≡ ending c g r
  unfolding Ends ending
  ending-same (thing e p c) f g r same = ending-same c f g r same
  ending-same (over a t) f g r same = same t refl
  ending-same (stopped why) f g r same = refl

  -- and then something else of that
  pub ending-then : {X Y : Type 0} (h : X → Y) (c : CourseTo S E A) (f : S → X) (r : Refusal → X)
      → h (ending c f r) ≡ ending c (λ s. h (f s)) (λ why. h (r why))
  unfolding ending
  ending-then h (thing e p c) f r = ending-then h c f r
  ending-then h (over a t) f r = refl
  ending-then h (stopped why) f r = refl

-- what n rows take of it, and then what is made of it
pub collect-seen : {S T E A U B : Type 0} (view : T → S) (n : ℕ) (c : CourseTo T E A) (k : List E → S → Got U B)
    → on (collect view (fit n c)) k ≡ ending (fit n (seen view c)) (k (things (fit n (seen view c)))) refused_by
collect-seen view n c k =
    rw (seen-fit view n c, seen-things view (fit n c))
    (collect-then view (fit n c) k ∙ sym (seen-ending view (fit n c) (k (things (fit n c))) refused_by))

-- ---- an update

module _ (form : ℕ) (u : List ℕ) where
  -- its blocks, up to where reading stands behind them
  unfoldable pub stands_of : CourseTo Standing Block (Unit {0})
  stands_of = pick (eqb form 1) (seen at_place (run (line 1 u) old.all_blocks 0)) (seen at_state (in_columns u))

  pub stands_at : seen (λ (s : Standing). s.at) stands_of ≡ blocks_of form u
  unfolding blocks_of stands_of
  stands_at = go (eqb form 1)
    where
      go : (b : Bool) → seen (λ (s : Standing). s.at) (pick b (seen at_place (run (line 1 u) old.all_blocks 0)) (seen at_state (in_columns u)))
          ≡ pick b (run (line 1 u) old.all_blocks 0) (rest_places (in_columns u))
      go true = seen-seen (λ (s : Standing). s.at) at_place (run (line 1 u) old.all_blocks 0) ∙ seen_same (run (line 1 u) old.all_blocks 0)
      go false = seen-seen (λ (s : Standing). s.at) at_state (in_columns u) ∙ sym (rest-places (in_columns u))

  -- its blocks, and then what is made of them
  pub blocks-then : {U B : Type 0} (rows : ℕ) (k : List Block → Standing → Got U B)
      → on (begun form u) (λ _ s. on (all_blocks (fields form u) rows s) k) ≡ ending (fit rows stands_of) (k (things (fit rows stands_of))) refused_by
  unfolding begun stands_of when◌then◌else◌ on in_columns on_drawn drawn_as seen fit ending
  blocks-then {U} {B} rows k = go (eqb form 1) refl
    where
      Goes : CourseTo Standing Block (Unit {0}) → Got U B → Type 0
      Goes c g = g ≡ ending (fit rows c) (k (things (fit rows c))) refused_by

      opened : eqb form 1 ≡ false → (d : Drawn State (Unit {0}))
          → Goes (seen at_state (on_drawn d (λ _ s. run (decoder.columned u) old.all_blocks s)))
          (on (drawn_as (λ a. a) at_state d) (λ _ s. on (all_blocks (fields form u) rows s) k))
      opened e (course.got x s) =
          rw (blocks-alike at_state (fields form u) (decoder.columned u) (alike-2 form u e) rows s)
          (collect-seen at_state rows (run (decoder.columned u) old.all_blocks s) k)
      opened e (course.not why) = refl

      go : (b : Bool) → eqb form 1 ≡ b → Goes stands_of (on (begun form u) (λ _ s. on (all_blocks (fields form u) rows s) k))
      go true e =
          rw (e, eqb-true form 1 e, blocks-alike at_place (fields 1 u) (line 1 u) (alike-1 u) rows 0)
          (collect-seen at_place rows (run (line 1 u) old.all_blocks 0) k)
      go false e = rw (e, opened-alike u) (opened e (opened_of u))

  -- its ranges, and then what is made of them
  pub ranges-then : {U B : Type 0} (rows at : ℕ) (k : List Range → ℕ → Got U B)
      → on (short.delete_set form u rows at) k ≡ ending (fit rows (delete_set form u at)) (k (things (fit rows (delete_set form u at)))) refused_by
  unfolding delete_set
  ranges-then rows at k = rw (deletes-alike form u rows at) (collect-then (λ e. e) (fit rows (delete_set form u at)) k)

  -- all of it, and then what is made of it
  pub whole-then : {X : Type 0} (block_rows range_rows : ℕ) (f : List Block × List Range → Standing × ℕ → X) (r : Refusal → X)
      → comes_to f r (whole form u block_rows range_rows)
      ≡ ending (fit block_rows stands_of) (λ t. ending (fit range_rows (delete_set form u t.at))
      (λ end. f (things (fit block_rows stands_of), things (fit range_rows (delete_set form u t.at))) (t, end)) r) r
  unfolding whole comes_to
  whole-then block_rows range_rows f r =
      let all : List Block → Standing → Got (Standing × ℕ) (List Block × List Range) =
      λ bs t. on (short.delete_set form u range_rows t.at) (λ rs end. got (bs, rs) (t, end)) in
      let bs = things (fit block_rows stands_of) in
      ap (comes_to f r) (blocks-then block_rows all)
      ∙ ending-then (comes_to f r) (fit block_rows stands_of) (all bs) refused_by
      ∙ ending-same (fit block_rows stands_of) _ _ r (λ t _.
      ap (comes_to f r) (ranges-then range_rows t.at (λ rs end. got (bs, rs) (t, end)))
      ∙ ending-then (comes_to f r) (fit range_rows (delete_set form u t.at)) _ refused_by)

  -- and of where reading stands only the place behind its delete set
  pub whole_is : {X : Type 0} (block_rows range_rows : ℕ) (f : List Block × List Range → ℕ → X) (r : Refusal → X)
      → comes_to (λ x s. f x s.1) r (whole form u block_rows range_rows)
      ≡ ending (fit block_rows (blocks_of form u)) (λ at. ending (fit range_rows (delete_set form u at))
      (λ end. f (things (fit block_rows (blocks_of form u)), things (fit range_rows (delete_set form u at))) end) r) r
  whole_is block_rows range_rows f r =
      whole-then block_rows range_rows (λ x s. f x s.1) r
      ∙ rw (← stands_at, seen-fit (λ (s : Standing). s.at) block_rows stands_of, seen-things (λ (s : Standing). s.at) (fit block_rows stands_of))
      (sym (seen-ending (λ (s : Standing). s.at) (fit block_rows stands_of) _ r))
