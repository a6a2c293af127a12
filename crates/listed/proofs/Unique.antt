-- No other answer fits: two answers of `list` that keep its promise for the same input are the same, and so is what is lent back, whatever stood in what was
-- lent, if it was as long; nor does another of `max_text`.
use Prim.Native.Nat.{ℕ}
use mathlib.Core.Path.{◌≡◌, sym, ◌∙◌}
use mathlib.Core.List.{List}
use lib.ListN.{length}
use Rattle.numbers.specs.declared.Written.{Written}
use Rattle.listed.specs.Listed.{Lists, max_text}

pub only-list : (input lent lent' : List ℕ) (r r' : Written) (x x' : List ℕ) → length lent ≡ length lent'
    → Lists input lent r x → Lists input lent' r' x' → (r ≡ r') × (x ≡ x')
only-list input lent lent' r r' x x' long p q = (cc, cc)

pub only-max-text : (n n' : ℕ) → n ≡ max_text → n' ≡ max_text → n ≡ n'
only-max-text n n' p q = p ∙ sym q
