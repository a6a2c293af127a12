-- The blocks of a section as a walk: those seen are tallied, and those to come are all others.
use Rattle.std.specs.Prelude.{Result, Ok, Err}
use Prim.Native.Nat.{ℕ, ◌+◌, ◌≤◌, ◌<◌}
use mathlib.Core.Path.{◌≡◌, refl, sym, ap, ◌∙◌, subst}
use mathlib.Core.List.{List, [], ◌∷◌, ◌++◌, append_assoc, append-nil}
use native.Mathlib.Omega.{arith}
use lib.ListN.{length, take, set, length-append}
use Rattle.numbers.specs.declared.Refusal.{Refusal}
use Rattle.numbers.specs.Limits.{max_clock, max_blocks}
use Rattle.block.specs.declared.Block.{Block}
use Rattle.grammar.specs.Grammar.{◌>>=◌}
use Rattle.grammar.specs.Course as course
use Rattle.grammar.specs.Course.{CourseTo, thing, over, stopped, run, things, ending}
use Rattle.grammar.specs.Blocks.{blocks, sections}
use Rattle.grammar.proofs.Runs.{and_then, run_bind}
use Rattle.decoder.specs.States.{State, moved_to}
use Rattle.decoder.specs.ColumnedInner.{fields}
use Rattle.cells.specs.Cells.{state_in, Small}
use Rattle.cells.proofs.States.{state-at, small_at}
use Rattle.item.specs.Row.{row_in}
use Rattle.update.specs.declared.Spot.{Spot}
use Rattle.update.specs.declared.Step.{Step}
use Rattle.update.specs.declared.Step.TheVariants as step
use Rattle.update.specs.Steps.{to_come, reads, Fine, left, Stepped}
use Rattle.update.proofs.Answers.{reads-block, reads_on, reads-done, reads-refused, on-block, on-on}
use Rattle.gathered.specs.RowsOf.{first_clock, last_end}
use Rattle.gathered.specs.Gathered.{Ends, blocks_from, outcome, Tallies}

-- ---- a section behind which there is none

abbrev pub alone : ℕ → ℕ → ℕ → Spot
alone k c t = record { sections = 0; blocks = k; room = 0; seen = 0; client = c; clock = t }

module _ (form : ℕ) (u w m : List ℕ) (k c t : ℕ) where
  then-nothing : (r : CourseTo State Block (Unit {0})) → and_then r (λ a s. run (fields form u) (sections 0 (take 0 m) 0) s) ≡ r
  unfolding and_then run sections
  then-nothing (thing b p r) = ap (thing b p) (then-nothing r)
  then-nothing (over a s) = refl
  then-nothing (stopped why) = refl

  pub reads-alone : reads form u m w (alone k c t) ≡ blocks_from form u k c t w
  unfolding reads to_come blocks_from
  reads-alone = run_bind (fields form u) (blocks k c t) (λ _. sections 0 (take 0 m) 0) (state_in w) ∙ then-nothing (run (fields form u) (blocks k c t) (state_in w))

  pub alone-fine : k ≤ max_blocks → t ≤ max_clock → Fine m (alone k c t)
  alone-fine few low = record { seen = omega arith; room = omega arith; blocks = few; clock = low }

-- and nothing is left of it
reads_over : (form : ℕ) (u w m : List ℕ) (s : Spot) → s.blocks ≡ 0 → s.sections ≡ 0 → reads form u m w s ≡ over tt (state_in w)
unfolding reads to_come run blocks sections ◌>>=◌
reads_over form u w m s b n = rw (b, n) refl

-- ---- one block more

pub last_snoc : (bs : List Block) (b : Block) → last_end (bs ++ (b ∷ [])) ≡ b.clock + b.length.0
unfolding last_end
last_snoc [] b = refl
last_snoc (x ∷ []) b = refl
last_snoc (x ∷ (y ∷ bs)) b = last_snoc (y ∷ bs) b

first-snoc : (bs : List Block) (b : Block) (n f g : ℕ) → n ≡ length bs → f ≡ first_clock bs → (n ≡ 0 → g ≡ b.clock) × (0 < n → g ≡ f) → g ≡ first_clock (bs ++ (b ∷ []))
unfolding first_clock
first-snoc [] b n f g e h q = q.0 e
first-snoc (x ∷ bs) b n f g e h q = q.1 (omega (arith, e)) ∙ h

-- the block behind some others has an end
end_of : (bs : List Block) (b : Block) (cs : List Block) → Ends (bs ++ (b ∷ cs)) → b.clock + b.length.0 ≤ max_clock
unfolding Ends
end_of [] b cs h = h.0
end_of (x ∷ bs) b cs h = end_of bs b cs h.1

-- ---- the walk: c is what was to come at first, in k steps at most

pub record Walking (form : ℕ) (u : List ℕ) (c : CourseTo State Block (Unit {0})) (k : ℕ) (w r m : List ℕ) (s : Spot) (f e n : ℕ) : Type 0 where
  pub seen : List Block
  pub all : things c ≡ seen ++ things (reads form u m w s)
  pub ends : outcome c ≡ outcome (reads form u m w s)
  pub steps : length seen + left s ≤ k
  pub few : k ≤ max_blocks
  pub fine : Fine m s
  pub small : Small w
  pub fields : length r ≡ 24
  pub memory : length m ≡ 1
  pub can : Ends (things c)
  pub first : f ≡ first_clock seen
  pub end : e ≡ last_end seen
  pub count : n ≡ length seen

pub walk_begins : (form : ℕ) (u w r m : List ℕ) (k c t : ℕ) → Small w → length r ≡ 24 → length m ≡ 1 → k ≤ max_blocks → t ≤ max_clock → Ends (things (blocks_from form u k c t w))
    → Walking form u (blocks_from form u k c t w) k w r m (alone k c t) 0 0 0
unfolding first_clock last_end left
walk_begins form u w r m k c t small row one few low can =
    record {
      seen = [];
      all = ap things (sym (reads-alone form u w m k c t));
      ends = ap outcome (sym (reads-alone form u w m k c t));
      steps = omega arith;
      few = few;
      fine = alone-fine form u w m k c t few low;
      small = small;
      fields = row;
      memory = one;
      can = can;
      first = refl;
      end = refl;
      count = refl;
    }

module _ (form : ℕ) (u : List ℕ) (c : CourseTo State Block (Unit {0})) (k : ℕ) (w r m : List ℕ) (s : Spot) (f e n : ℕ) (i : Walking form u c k w r m s f e n) where
  pub countable : n ≤ max_blocks
  countable = omega (arith, i.count, i.steps, i.few)

  tallied-all : (s₁ : State) (w₁ : List ℕ) → reads form u m w s ≡ over tt s₁ → s₁ ≡ state_in w₁ → Tallies c w₁ (Ok (f, e, n))
  unfolding Tallies outcome ending things
  tallied-all s₁ w₁ q z =
      let all : things c ≡ i.seen = i.all ∙ ap (λ (d : CourseTo State Block (Unit {0})). i.seen ++ things d) q ∙ append-nil i.seen in
      (i.first ∙ ap first_clock (sym all), i.end ∙ ap last_end (sym all), i.count ∙ ap length (sym all), i.ends ∙ ap outcome q ∙ ap (course.got tt) z)

  -- no block is left
  pub at-end : s.blocks ≤ 0 → Tallies c w (Ok (f, e, n))
  unfolding left
  at-end z = tallied-all (state_in w) w (reads_over form u w m s (omega (arith, z)) (omega (arith, i.steps, i.few))) refl

  module _ (m₁ w₁ r₁ : List ℕ) (x : Result Step Refusal) (st : Stepped form u m w r s m₁ w₁ r₁ x) where
    module _ (p : ℕ) (t : Spot) (q : x ≡ Ok (step.Block p t)) where
      here : reads form u m w s ≡ thing (row_in r₁) p (reads form u m₁ w₁ t)
      here = reads-block form u m w r s m₁ w₁ r₁ x st p t q

      pub block-less : left t < left s
      block-less = (on-block form u m w r s m₁ w₁ r₁ x st p t q).3

      split : things c ≡ i.seen ++ (row_in r₁ ∷ things (reads form u m₁ w₁ t))
      unfolding things
      split = i.all ∙ ap (λ (d : CourseTo State Block (Unit {0})). i.seen ++ things d) here

      pub its-end : (row_in r₁).clock + (row_in r₁).length.0 ≤ max_clock
      its-end = end_of i.seen (row_in r₁) (things (reads form u m₁ w₁ t)) (subst Ends split i.can)

      pub block-tallied : (g : ℕ) → (n ≡ 0 → g ≡ (row_in r₁).clock) × (0 < n → g ≡ f) → Walking form u c k w₁ r₁ m₁ t g ((row_in r₁).clock + (row_in r₁).length.0) (n + 1)
      unfolding outcome ending
      block-tallied g h =
          record {
            seen = i.seen ++ (row_in r₁ ∷ []);
            all = split ∙ sym (append_assoc i.seen (row_in r₁ ∷ []) (things (reads form u m₁ w₁ t)));
            ends = i.ends ∙ ap outcome here;
            steps = omega (arith, i.steps, block-less, length-append i.seen (row_in r₁ ∷ []));
            few = i.few;
            fine = (on-block form u m w r s m₁ w₁ r₁ x st p t q).1;
            small = st.small;
            fields = st.row ∙ i.fields;
            memory = st.memory ∙ i.memory;
            can = i.can;
            first = first-snoc i.seen (row_in r₁) n f g i.count i.first h;
            end = sym (last_snoc i.seen (row_in r₁));
            count = omega (arith, i.count, length-append i.seen (row_in r₁ ∷ []));
          }

    module _ (t : Spot) (q : x ≡ Ok (step.On t)) where
      on-here : reads form u m w s ≡ reads form u m₁ w₁ t
      on-here = reads_on form u m w r s m₁ w₁ r₁ x st t q

      pub on-less : left t < left s
      on-less = (on-on form u m w r s m₁ w₁ r₁ x st t q).2

      pub goes_on : Walking form u c k w₁ r₁ m₁ t f e n
      goes_on =
          record {
            seen = i.seen;
            all = i.all ∙ ap (λ (d : CourseTo State Block (Unit {0})). i.seen ++ things d) on-here;
            ends = i.ends ∙ ap outcome on-here;
            steps = omega (arith, i.steps, on-less);
            few = i.few;
            fine = (on-on form u m w r s m₁ w₁ r₁ x st t q).1;
            small = st.small;
            fields = st.row ∙ i.fields;
            memory = st.memory ∙ i.memory;
            can = i.can;
            first = i.first;
            end = i.end;
            count = i.count;
          }

    pub at_done : (at : ℕ) → x ≡ Ok (step.Done at) → Tallies c (set w₁ 63 at) (Ok (f, e, n))
    at_done at q = tallied-all (moved_to (state_in w₁) at) (set w₁ 63 at) (reads-done form u m w r s m₁ w₁ r₁ x st at q) (sym (state-at w₁ st.small at))

    pub done-small : (at : ℕ) → Small (set w₁ 63 at)
    done-small at = small_at w₁ st.small at

    pub at-refused : (why : Refusal) → x ≡ Err why → Tallies c w₁ (Err why)
    unfolding Tallies outcome ending
    at-refused why q = i.ends ∙ ap outcome (reads-refused form u m w r s m₁ w₁ r₁ x st why q)
