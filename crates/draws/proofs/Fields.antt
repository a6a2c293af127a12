-- The lanes that are columns of numbers, one by one; what is within a limit passes it.
use Prim.Native.Nat.{ℕ, ◌≤◌}
use mathlib.Core.Path.{◌≡◌, refl, sym, subst}
use mathlib.Core.Bool.{Bool, true, false}
use native.Mathlib.Omega.{arith}
use lib.Dec.{eqb}
use borrow.Author.Tests.{eqb-true, le-ltb}
use Rattle.numbers.specs.Number.{pick}
use Rattle.grammar.specs.Course.{got}
use Rattle.decoder.specs.Line.{bounded}
use Rattle.tokens.specs.Tokens.{clients, lefts, rights, infos, parents, types, lens}
use Rattle.draws.specs.Draws.{is_field}

-- what each of the seven has, any of them has
pub by_field : (P : ℕ → Type 0) → P clients → P lefts → P rights → P infos → P parents → P types → P lens → (k : ℕ) → is_field k ≡ true → P k
unfolding is_field
by_field P c l r i p t n k h =
    go (eqb k clients) (eqb k lefts) (eqb k rights) (eqb k infos) (eqb k parents) (eqb k types) (eqb k lens) refl refl refl refl refl refl refl h
  where
    go : (x0 x1 x2 x3 x4 x5 x6 : Bool)
        → eqb k clients ≡ x0 → eqb k lefts ≡ x1 → eqb k rights ≡ x2 → eqb k infos ≡ x3 → eqb k parents ≡ x4 → eqb k types ≡ x5 → eqb k lens ≡ x6
        → pick x0 true (pick x1 true (pick x2 true (pick x3 true (pick x4 true (pick x5 true x6))))) ≡ true → P k
    go true x1 x2 x3 x4 x5 x6 e0 e1 e2 e3 e4 e5 e6 h = subst P (sym (eqb-true k clients e0)) c
    go false true x2 x3 x4 x5 x6 e0 e1 e2 e3 e4 e5 e6 h = subst P (sym (eqb-true k lefts e1)) l
    go false false true x3 x4 x5 x6 e0 e1 e2 e3 e4 e5 e6 h = subst P (sym (eqb-true k rights e2)) r
    go false false false true x4 x5 x6 e0 e1 e2 e3 e4 e5 e6 h = subst P (sym (eqb-true k infos e3)) i
    go false false false false true x5 x6 e0 e1 e2 e3 e4 e5 e6 h = subst P (sym (eqb-true k parents e4)) p
    go false false false false false true x6 e0 e1 e2 e3 e4 e5 e6 h = subst P (sym (eqb-true k types e5)) t
    go false false false false false false true e0 e1 e2 e3 e4 e5 e6 h = subst P (sym (eqb-true k lens e6)) n
    go false false false false false false false e0 e1 e2 e3 e4 e5 e6 h = let z : ◌≡◌ {A = ℕ} 0 1 = cc in absurd (omega arith)

pub bounded-in : {S : Type 0} (m v p : ℕ) (s : S) → v ≤ m → bounded m (got (v, p) s) ≡ got (v, p) s
unfolding bounded
bounded-in m v p s h = rw (le-ltb m v h)
