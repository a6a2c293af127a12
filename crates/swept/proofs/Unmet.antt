-- What holds a front, in the words of the rule: the first id that is not met.
use Prim.Native.Nat.{ℕ}
use mathlib.Core.Path.{◌≡◌, refl, ap, ◌∙◌}
use mathlib.Core.Bool.{Bool, true, false, not, ◌||◌}
use mathlib.Core.List.{List, [], ◌∷◌}
use mathlib.Core.Option.{Option, none, some}
use Rattle.numbers.specs.Number.{pick}
use Rattle.block.specs.declared.Id.{Id}
use Rattle.block.specs.declared.Block.{Block}
use Rattle.slots.specs.Slots.{Slot}
use Rattle.picker.specs.declared.stages.Dependency.{Dependency}
use Rattle.picker.specs.Stages.{stages}
use Rattle.picker.specs.Picker.{holds}
use Rattle.sorting.specs.Rules.{is_skip, unmet, waits, below, by_reaches, free}
use Rattle.sorting.specs.Named.{rule_of}
use Rattle.outcome.proofs.Asked.{ids_in}
use Rattle.outcome.proofs.Stages.{stages-ask, stages-none}
use Rattle.outcome.proofs.Looks.{Shows, met-below}
use Rattle.sweeper.specs.Sweeper.{first_held, unmet_by, ready_by}

-- the id, if it is there
abbrev pub asked : Dependency → Option Id
asked a = pick a.there (some a.id) none

module _ (rule : ℕ) {ss : List Slot} {reach : List ℕ} {κ : ℕ → ℕ} (shows : Shows ss reach κ) where
  first-unmet : (ds : List Dependency) → asked (first_held ss reach ds) ≡ unmet (below κ) (ids_in ds)
  unfolding first_held unmet ids_in holds
  first-unmet [] = refl
  first-unmet (a ∷ ds) = rw (met-below rule shows a.id) (go a.there refl (below κ a.id) refl (first-unmet ds))
    where
      go : (t : Bool) → a.there ≡ t → (m : Bool) → below κ a.id ≡ m → asked (first_held ss reach ds) ≡ unmet (below κ) (ids_in ds)
          → asked (pick (pick t (pick m false true) false) a (first_held ss reach ds)) ≡ unmet (below κ) (pick t (a.id ∷ ids_in ds) (ids_in ds))
      go false e m f rec = rec
      go true e true f rec = rw f rec
      go true e false f rec = rw (f, e) refl

  module _ (b : Block) where
    pub unmet-is : is_skip b ≡ false → asked (unmet_by rule ss reach b) ≡ waits (rule_of rule) κ b.client b
    unfolding unmet_by waits by_reaches
    unmet-is s = first-unmet (stages rule b) ∙ ap (unmet (below κ)) (stages-ask rule b s)

    skip-none : is_skip b ≡ true → (unmet_by rule ss reach b).there ≡ false
    unfolding unmet_by first_held
    skip-none s = rw (stages-none rule b s) refl

    pub ready-is : ready_by rule ss reach b ≡ (is_skip b || free (waits (rule_of rule) κ b.client b))
    unfolding ready_by
    ready-is = go (is_skip b) refl
      where
        free-asked : (a : Dependency) → not a.there ≡ free (asked a)
        free-asked a = by a.there
          where
            by : (t : Bool) → not t ≡ free (pick t (some a.id) none)
            by true = refl
            by false = refl

        go : (x : Bool) → is_skip b ≡ x → not (unmet_by rule ss reach b).there ≡ (x || free (waits (rule_of rule) κ b.client b))
        go true e = ap not (skip-none e)
        go false e = free-asked (unmet_by rule ss reach b) ∙ ap free (unmet-is e)
