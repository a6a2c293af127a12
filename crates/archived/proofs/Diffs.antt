-- Our own files are fit for the archive: what `encode_diff` and `encode_update` write reads strictly, in either form, as today's reading reads it.
use Prim.Native.Nat.{ℕ, ◌≤◌}
use mathlib.Core.Path.{◌≡◌, refl, sym, ap, subst}
use mathlib.Core.Bool.{Bool, true, false}
use mathlib.Core.List.{List}
use native.Mathlib.Omega.{arith}
use lib.Dec.{ltb, eqb}
use lib.ListN.{length, get_or}
use borrow.Author.Tests.{eqb-false}
use Rattle.numbers.specs.Number.{pick}
use Rattle.numbers.specs.declared.Refusal.{Refusal}
use Rattle.numbers.specs.Limits.{max_update}
use Rattle.leftover.specs.Leftover.{unread_of, lowest_left}
use Rattle.leftover.proofs.Lowest.{spent-lowest}
use Rattle.updates.specs.Promises.{Reading, reading}
use Rattle.diffs.specs.Promises.{diff_of}
use Rattle.rereading.specs.Again.{ReadAgain}
use Rattle.rereading.proofs.Reread.{reread-there, reread-whole, reread-flag}
use Rattle.strict.specs.Promises.{flagged, strictly}
use Rattle.strict.proofs.Beside.{accepts}

module _ (form : ℕ) (u v : List ℕ) (to m n room : ℕ) where
  abbrev d : List ℕ
  d = (diff_of form u v to m n room).bytes

  unflagged : (diff_of form u v to m n room).refusal.number ≡ 0 → flagged to (diff_of form u v to m n room).bytes ≡ false
  unfolding flagged
  unflagged z = go (eqb to 1) refl
    where
      go : (b : Bool) → eqb to 1 ≡ b → pick b false (ltb 0 (get_or d 0 0)) ≡ false
      go true e = refl
      go false e = rw (reread-flag form u v to m n room z (eqb-false to 1 e)) refl

  -- a diff that is done, within the reader's limit of bytes; the rows that took the update take it
  pub reads-strictly : (diff_of form u v to m n room).refusal.number ≡ 0 → length (diff_of form u v to m n room).bytes ≤ max_update
      → strictly to (diff_of form u v to m n room).bytes m n ≡ reading to (diff_of form u v to m n room).bytes m n
  unfolding lowest_left
  reads-strictly z small =
      accepts to d m n (unflagged z) (ap (λ (r : Refusal). r.number) (reread-there form u v to m n room z small).refusal)
      (omega (arith, spent-lowest (length d) (unread_of to d) (reread-whole form u v to m n room z small)))

  -- so strict reading finds in it what the diff keeps
  pub archived : (diff_of form u v to m n room).refusal.number ≡ 0 → length (diff_of form u v to m n room).bytes ≤ max_update
      → ReadAgain u v (diff_of form u v to m n room) (strictly to (diff_of form u v to m n room).bytes m n)
  archived z small =
      subst (λ (r : Reading). ReadAgain u v (diff_of form u v to m n room) r) (sym (reads-strictly z small)) (reread-there form u v to m n room z small)
