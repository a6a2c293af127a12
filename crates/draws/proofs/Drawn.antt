-- Written tokens are drawn again, in either form.
use Prim.Native.Nat.{ℕ, ◌^◌, ◌≤◌, ◌<◌}
use mathlib.Core.Path.{◌≡◌, sym, subst}
use mathlib.Core.Logic.{◌⊎◌, inl, inr}
use mathlib.Core.Bool.{true, false}
use mathlib.Core.List.{List}
use lib.ListN.{length}
use Rattle.numbers.specs.Limits.{max_count}
use Rattle.tokens.specs.Tokens.{Token}
use Rattle.tokens.specs.Keys.{many_keys}
use Rattle.tokens.specs.Bytes.{bytes_of, near}
use Rattle.draws.specs.Draws.{AllLegal, DrawnAgain}
use Rattle.draws.proofs.Line.{line-draws}
use Rattle.draws.proofs.Written.{columns-draw}

abbrev Goal : List Token → ℕ → Type 1
Goal ts form = AllLegal form ts → near form ts ≡ true → many_keys form ts ≡ false → length (bytes_of form ts) < 2 ^ 62 → DrawnAgain form (bytes_of form ts) ts

pub draws : (form : ℕ) → (form ≡ 1) ⊎ (form ≡ 2) → (ts : List Token) → AllLegal form ts → near form ts ≡ true → many_keys form ts ≡ false
    → length ts ≤ max_count → length (bytes_of form ts) < 2 ^ 62 → DrawnAgain form (bytes_of form ts) ts
unfolding bytes_of many_keys
draws form (inl e) ts a n c few l = subst (Goal ts) (sym e) (λ a n c l. line-draws ts a l) a n c l
draws form (inr e) ts a n c few l = subst (Goal ts) (sym e) (λ a n c l. columns-draw ts a n c few l) a n c l
