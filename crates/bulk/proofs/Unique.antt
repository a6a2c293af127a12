-- No other answer fits: two answers that keep a call's promise for the same inputs are the same, and so is what is lent back.
use Prim.Native.Nat.{ℕ}
use mathlib.Core.Path.{◌≡◌, sym, ◌∙◌}
use mathlib.Core.List.{List}
use Rattle.columns.specs.declared.number.Place as number
use Rattle.columns.specs.declared.difference.Place as difference
use Rattle.columns.specs.declared.byte.Place as byte
use Rattle.string.specs.declared.Place as string
use Rattle.bulk.specs.Promises.{ReadNumbers, ReadDifferences, ReadBytes, ReadTexts}

-- at most one answer, with one final content of what was lent
abbrev pub OnlyBoth : {R : Type 0} → (R → List ℕ → Type 0) → Type 0
OnlyBoth {R = R} F = (r r' : R) (x x' : List ℕ) → F r x → F r' x' → (r ≡ r') × (x ≡ x')

both : {R : Type 0} (a : R) (w : List ℕ) → OnlyBoth (λ (r : R) (x : List ℕ). (r ≡ a) × (x ≡ w))
both a w r r' x x' p q = (p.0 ∙ sym q.0, p.1 ∙ sym q.1)

pub only-read-numbers : (s : List ℕ) (c : number.Place) (lent : List ℕ) → OnlyBoth (ReadNumbers s c lent)
only-read-numbers s c lent = both _ _

pub only-read-differences : (s : List ℕ) (c : difference.Place) (lent : List ℕ) → OnlyBoth (ReadDifferences s c lent)
only-read-differences s c lent = both _ _

pub only-read-bytes : (s : List ℕ) (c : byte.Place) (lent : List ℕ) → OnlyBoth (ReadBytes s c lent)
only-read-bytes s c lent = both _ _

pub only-read-texts : (s : List ℕ) (c : string.Place) (lent : List ℕ) → OnlyBoth (ReadTexts s c lent)
only-read-texts s c lent = both _ _
