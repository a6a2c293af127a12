-- No other answer fits: of each public call, two answers that keep its promise for the same inputs are the same, and so is what is lent back, whatever stood
-- in what was lent, if it was as long.
use Prim.Native.Nat.{ℕ}
use mathlib.Core.Path.{◌≡◌, sym, ◌∙◌}
use mathlib.Core.List.{List}
use mathlib.Core.Bool.{Bool}
use lib.ListN.{length}
use Rattle.text.specs.declared.Units.{Units}
use Rattle.columns.specs.declared.number.Place as number
use Rattle.columns.specs.declared.difference.Place as difference
use Rattle.columns.specs.declared.byte.Place as byte
use Rattle.string.specs.declared.Place as string
use Rattle.wairokabi.specs.Promises.{ReadUnsigned, ReadSigned, Writes, WriteUnsigned, WriteSigned, CountUnits, TakeText, CutText, OpenNumbers, NextNumber, OpenDifferences, NextDifference, OpenBytes, NextByte, OpenText, NextText, WriteNumbers, WriteDifferences, WriteBytes, WriteTexts, ReadStateVector}

-- at most one value has a property
abbrev pub Only : {A : Type 0} → (A → Type 0) → Type 0
Only {A = A} F = (r r' : A) → F r → F r' → r ≡ r'

-- at most one answer, with one final content of what was lent, over any two entries of equal lengths
abbrev pub OnlyBoth : {A : Type 0} → (List ℕ → A → List ℕ → Type 0) → Type 0
OnlyBoth {A = A} F = (lent lent' : List ℕ) (r r' : A) (x x' : List ℕ) → length lent ≡ length lent' → F lent r x → F lent' r' x' → (r ≡ r') × (x ≡ x')

one : {A : Type 0} (a : A) → Only (λ (r : A). r ≡ a)
one a r r' p q = p ∙ sym q

both : (why : ℕ) (b : List ℕ) → OnlyBoth (Writes why b)
both why b lent lent' r r' x x' long p q = (cc, cc)

pub only-read-unsigned : (s : List ℕ) (at : ℕ) → Only (ReadUnsigned s at)
only-read-unsigned s at = one _

pub only-read-signed : (s : List ℕ) (at : ℕ) → Only (ReadSigned s at)
only-read-signed s at = one _

pub only-write-unsigned : (v : ℕ) → OnlyBoth (λ lent. WriteUnsigned lent v)
only-write-unsigned v = both _ _

pub only-write-signed : (m : Bool) (v : ℕ) → OnlyBoth (λ lent. WriteSigned lent m v)
only-write-signed m v = both _ _

pub only-count-units : (t : List ℕ) → Only (CountUnits t)
only-count-units t = one _

pub only-take-text : (t : List ℕ) (at : ℕ) (u : Units) → Only (TakeText t at u)
only-take-text t at u = one _

pub only-cut-text : (t : List ℕ) (u : Units) → Only (CutText t u)
only-cut-text t u = one _

pub only-open-numbers : (at : ℕ) → Only (OpenNumbers at)
only-open-numbers at = one _

pub only-next-number : (s : List ℕ) (c : number.Place) → Only (NextNumber s c)
only-next-number s c = one _

pub only-open-differences : (at : ℕ) → Only (OpenDifferences at)
only-open-differences at = one _

pub only-next-difference : (s : List ℕ) (c : difference.Place) → Only (NextDifference s c)
only-next-difference s c = one _

pub only-open-bytes : (at : ℕ) → Only (OpenBytes at)
only-open-bytes at = one _

pub only-next-byte : (s : List ℕ) (c : byte.Place) → Only (NextByte s c)
only-next-byte s c = one _

pub only-open-text : (s : List ℕ) (at : ℕ) → Only (OpenText s at)
only-open-text s at = one _

pub only-next-text : (s : List ℕ) (c : string.Place) → Only (NextText s c)
only-next-text s c = one _

pub only-write-numbers : (vs : List ℕ) → OnlyBoth (λ lent. WriteNumbers lent vs)
only-write-numbers vs = both _ _

pub only-write-differences : (vs : List ℕ) → OnlyBoth (λ lent. WriteDifferences lent vs)
only-write-differences vs = both _ _

pub only-write-bytes : (vs : List ℕ) → OnlyBoth (λ lent. WriteBytes lent vs)
only-write-bytes vs = both _ _

pub only-write-texts : (t us : List ℕ) → OnlyBoth (λ lent. WriteTexts lent t us)
only-write-texts t us = both _ _

pub only-read-state-vector : (v : List ℕ) → OnlyBoth (ReadStateVector v)
only-read-state-vector v lent lent' r r' x x' long p q = (cc, cc)
