-- What each answer of a step, and of the beginning, says of what is still to come: up to a state, and up to that state's place.
use Rattle.std.specs.Prelude.{Result, Ok, Err}
use Prim.Native.Nat.{ℕ, ◌<◌, ◌≤◌}
use mathlib.Core.Path.{◌≡◌, ap, subst}
use mathlib.Core.Logic.{◌≢◌}
use mathlib.Core.List.{List}
use lib.ListN.{length}
use Rattle.numbers.specs.declared.Refusal.{Refusal}
use Rattle.grammar.specs.Course.{thing, over, stopped}
use Rattle.decoder.specs.States.{moved_to}
use Rattle.decoder.specs.Update.{rest_places, in_columns, blocks_of}
use Rattle.cells.specs.Cells.{state_in}
use Rattle.item.specs.Row.{row_in, Narrow}
use Rattle.update.specs.declared.Spot.{Spot}
use Rattle.update.specs.declared.Step.{Step}
use Rattle.update.specs.declared.Step.TheVariants.{Block, On, Done}
use Rattle.update.specs.Steps.{reads, comes, after, begins, Fine, left, Steady, Stepped, First, Starts}

module _ (form : ℕ) (u m w r : List ℕ) (s : Spot) (m₁ w₁ r₁ : List ℕ) (x : Result Step Refusal) (st : Stepped form u m w r s m₁ w₁ r₁ x) where
  gives : {y : Result Step Refusal} → x ≡ y → Stepped form u m w r s m₁ w₁ r₁ y
  gives e = subst (Stepped form u m w r s m₁ w₁ r₁) e st

  pub reads-block : (p : ℕ) (t : Spot) → x ≡ Ok (Block p t) → reads form u m w s ≡ thing (row_in r₁) p (reads form u m₁ w₁ t)
  unfolding after
  reads-block p t e = (gives e).told

  pub reads_on : (t : Spot) → x ≡ Ok (On t) → reads form u m w s ≡ reads form u m₁ w₁ t
  unfolding after
  reads_on t e = (gives e).told

  pub reads-done : (at : ℕ) → x ≡ Ok (Done at) → reads form u m w s ≡ over tt (moved_to (state_in w₁) at)
  unfolding after
  reads-done at e = (gives e).told

  pub reads-refused : (why : Refusal) → x ≡ Err why → reads form u m w s ≡ stopped why
  unfolding after
  reads-refused why e = (gives e).told

  pub on-block : (p : ℕ) (t : Spot) → x ≡ Ok (Block p t) → (comes form u m w s ≡ thing (row_in r₁) p (comes form u m₁ w₁ t)) × Fine m₁ t × Narrow r₁ × (left t < left s)
  unfolding comes rest_places Steady
  on-block p t e = let h = gives e in (ap rest_places (reads-block p t e), h.steady.0, h.steady.1, h.steady.2)

  pub on-on : (t : Spot) → x ≡ Ok (On t) → (comes form u m w s ≡ comes form u m₁ w₁ t) × Fine m₁ t × (left t < left s)
  unfolding comes Steady
  on-on t e = let h = gives e in (ap rest_places (reads_on t e), h.steady.0, h.steady.1)

  pub on-done : (at : ℕ) → x ≡ Ok (Done at) → comes form u m w s ≡ over tt at
  unfolding comes rest_places
  on-done at e = ap rest_places (reads-done at e)

  pub on-refused : (why : Refusal) → x ≡ Err why → comes form u m w s ≡ stopped why
  unfolding comes rest_places
  on-refused why e = ap rest_places (reads-refused why e)

module _ (form : ℕ) (u w : List ℕ) (x : Result Spot Refusal) (st : Starts form u w x) where
  pub begun-at : (m : List ℕ) → 64 ≤ length m → (s : Spot) → x ≡ Ok s → (blocks_of form u ≡ comes form u m w s) × Fine m s
  unfolding begins comes First
  begun-at m l s e = let h = subst (Starts form u w) e st in (h.told m, h.first m l)

  pub begun-refused : (m : List ℕ) (why : Refusal) → x ≡ Err why → blocks_of form u ≡ stopped why
  unfolding begins rest_places
  begun-refused m why e = (subst (Starts form u w) e st).told m

  pub columns-at : (m : List ℕ) (s : Spot) → form ≢ 1 → x ≡ Ok s → in_columns u ≡ reads form u m w s
  unfolding begins
  columns-at m s other e = (subst (Starts form u w) e st).columns m other

  pub columns-refused : (m : List ℕ) (why : Refusal) → form ≢ 1 → x ≡ Err why → in_columns u ≡ stopped why
  unfolding begins
  columns-refused m why other e = (subst (Starts form u w) e st).columns m other
