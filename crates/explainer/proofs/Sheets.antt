-- Lines of a sheet: those that stay, those that follow one another, and how many a draw has.
use Prim.Native.Nat.{ℕ, zero, suc, ◌+◌, ◌≤◌}
use native.Mathlib.Omega.{arith}
use mathlib.Core.Path.{◌≡◌, refl, ap, ◌∙◌}
use mathlib.Core.Bool.{Bool, true, false}
use mathlib.Core.List.{List, [], ◌∷◌, ◌++◌}
use lib.Dec.{eqb, ltb}
use lib.ListN.{length}
use Rattle.numbers.specs.Number.{pick}
use Rattle.grammar.specs.Grammar as grammar
use Rattle.grammar.specs.Grammar.{Field, Answer}
use Rattle.decoder.specs.States.{State}
use Rattle.roles.specs.Roles.{key_text}
use Rattle.origins.specs.declared.Line.{Line}
use Rattle.origins.specs.Origins.{lines_in, lines_in_line, text_line, key_lines}
use Rattle.origins.specs.Sheets.{line_in, lines_from, Above}
use Rattle.telling.specs.TellingInner.{lines_of}
use Rattle.explainer.proofs.Going.{most}

pub lines_stay : (k : ℕ) (sh sh₁ : List ℕ) → Above k sh sh₁ → (i n : ℕ) → i + n ≤ k → lines_from sh₁ i n ≡ lines_from sh i n
unfolding lines_from
lines_stay k sh sh₁ a i zero h = refl
lines_stay k sh sh₁ a i (suc n) h =
    ap (λ (l : Line). l ∷ lines_from sh₁ (suc i) n) (a.same i (omega (arith, h))) ∙ ap (λ (ls : List Line). line_in sh i ∷ ls) (lines_stay k sh sh₁ a (suc i) n (omega (arith, h)))

pub lines_join : (sh : List ℕ) (i n m : ℕ) → lines_from sh i n ++ lines_from sh (i + n) m ≡ lines_from sh i (n + m)
unfolding lines_from
lines_join sh i zero m = ap (λ (j : ℕ). lines_from sh j m) (let e : i + 0 ≡ i = omega arith in e) ∙ ap (λ (j : ℕ). lines_from sh i j) (let e : m ≡ 0 + m = omega arith in e)
lines_join sh i (suc n) m =
    ap (λ (ls : List Line). line_in sh i ∷ ls)
    (ap (λ (j : ℕ). lines_from sh (suc i) n ++ lines_from sh j m) (let e : i + suc n ≡ suc i + n = omega arith in e) ∙ lines_join sh (suc i) n m)
    ∙ ap (λ (j : ℕ). lines_from sh i j) (let e : suc (n + m) ≡ suc n + m = omega arith in e)

pub lines-length : (sh : List ℕ) (i n : ℕ) → length (lines_from sh i n) ≡ n
unfolding lines_from
lines-length sh i zero = refl
lines-length sh i (suc n) = ap suc (lines-length sh (suc i) n)

in-line : (code : ℕ) (f : Field) (a : Answer f) (from to : ℕ) → length (lines_in_line code f a from to) ≤ most f
unfolding most
in-line code (grammar.number n) a from to = omega arith
in-line code grammar.text a from to = omega arith
in-line code grammar.bytes a from to = omega arith
in-line code grammar.key a from to = omega arith
in-line code (grammar.value blame) a from to = omega arith
in-line code (grammar.values blame n) a from to = omega arith

in-columns : (u : List ℕ) (code : ℕ) (f : Field) (a : Answer f) (s t : State) → length (lines_in u code f a s t) ≤ most f
unfolding most lines_in key_lines
in-columns u code (grammar.number n) a s t = omega arith
in-columns u code grammar.text a s t = omega arith
in-columns u code grammar.bytes a s t = omega arith
in-columns u code grammar.key a s t = go (ltb (length s.keys) (length t.keys))
  where
    go : (x : Bool) → suc (length (pick x (text_line u key_text a t ∷ []) [])) ≤ 2
    go true = omega arith
    go false = omega arith
in-columns u code (grammar.value blame) a s t = omega arith
in-columns u code (grammar.values blame n) a s t = omega arith

pub few-lines : (form : ℕ) (u : List ℕ) (code : ℕ) (f : Field) (a : Answer f) (s t : State) → length (lines_of form u code f a s t) ≤ most f
unfolding lines_of
few-lines form u code f a s t = go (eqb form 1)
  where
    go : (x : Bool) → length (pick x (lines_in_line code f a s.at t.at) (lines_in u code f a s t)) ≤ most f
    go true = in-line code f a s.at t.at
    go false = in-columns u code f a s t

-- so many that were told are no more
pub few-told : (form : ℕ) (u : List ℕ) (code : ℕ) (f : Field) (a : Answer f) (s t : State) (sh : List ℕ) (i k : ℕ) → lines_from sh i k ≡ lines_of form u code f a s t → k ≤ most f
few-told form u code f a s t sh i k e = omega (arith, few-lines form u code f a s t, ap length e, lines-length sh i k)
