-- No other answer fits: two answers of `read_update` that keep its promise for the same inputs are the same, and so is what is lent back, whatever stood in
-- what was lent, if it was as long.
use Prim.Native.Nat.{ℕ}
use mathlib.Core.Path.{◌≡◌}
use mathlib.Core.List.{List}
use lib.ListN.{length}
use Rattle.block.specs.declared.Block.{Block}
use Rattle.updates.specs.declared.Update.{Update}
use Rattle.updates.specs.Promises.{ReadUpdate}

pub only-read-update : (form : ℕ) (u : List ℕ) (rows rows' : List Block) (words words' : List ℕ)
    (r r' : Update) (rows₁ rows₁' : List Block) (words₁ words₁' : List ℕ) → length rows ≡ length rows' → length words ≡ length words'
    → ReadUpdate form u rows words r rows₁ words₁ → ReadUpdate form u rows' words' r' rows₁' words₁' → (r ≡ r') × (rows₁ ≡ rows₁') × (words₁ ≡ words₁')
only-read-update form u rows rows' words words' r r' rows₁ rows₁' words₁ words₁' long words_long p q = (cc, cc, cc)
