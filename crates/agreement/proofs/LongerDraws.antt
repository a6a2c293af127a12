-- A number in line that is spelled longer: the same value, blamed at the same place; what follows stands so much further.
use Prim.Native.Nat.{ℕ, ◌+◌, ◌≤◌}
use mathlib.Core.Path.{◌≡◌, refl, ap, ap₂, ◌∙◌}
use mathlib.Core.List.{List, ◌++◌}
use native.Mathlib.Omega.{arith}
use lib.ListN.{length}
use Rattle.numbers.specs.declared.Read.{Read}
use Rattle.numbers.specs.declared.Read.TheVariants as read
use Rattle.numbers.specs.Number.{read_unsigned}
use Rattle.grammar.specs.Course.{got}
use Rattle.decoder.specs.Line.{number_at, var_at}
use Rattle.agreement.specs.Longer.{longer_by}
use Rattle.agreement.proofs.Longer.{longer-by-unsigned}

pub longer-by-draw : (j : ℕ) (a bs q : List ℕ) (v p : ℕ) → length bs + j ≤ 9
    → var_at (a ++ (bs ++ q)) (length a) ≡ got (v, p) (length a + length bs) → var_at (a ++ (longer_by j bs ++ q)) (length a) ≡ got (v, p) (length a + length bs + j)
unfolding var_at number_at
longer-by-draw j a bs q v p l h = go (read_unsigned (a ++ (bs ++ q)) (length a)) refl h
  where
    go : (r : Read) → read_unsigned (a ++ (bs ++ q)) (length a) ≡ r → number_at (length a) r ≡ got (v, p) (length a + length bs)
        → number_at (length a) (read_unsigned (a ++ (longer_by j bs ++ q)) (length a)) ≡ got (v, p) (length a + length bs + j)
    go (read.Refused why) e h = absurd (let z : ◌≡◌ {A = ℕ} 0 1 = cc in omega arith)
    go (read.Number y f) e h =
        let drawn : ◌≡◌ {A = ℕ × ℕ} (y, length a) (v, p) = cc in
        let end : f ≡ length a + length bs = cc in
        ap (number_at (length a)) (longer-by-unsigned j a bs q v l (e ∙ ap₂ read.Number (ap (λ (x : ℕ × ℕ). x.0) drawn) end)) ∙ ap (λ (x : ℕ × ℕ). got (v, x.1) (length a + length bs + j)) drawn
