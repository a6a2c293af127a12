-- What so many rows take of a grammar that is read, a field, a thing and a grammar after another: as a short reading says it.
use Prim.Native.Nat.{ℕ, zero, suc, ◌-◌}
use mathlib.Core.Path.{◌≡◌, refl, sym, ap, ◌∙◌}
use mathlib.Core.Bool.{false}
use mathlib.Core.List.{List, ◌∷◌, ◌++◌}
use native.Mathlib.Omega.{arith}
use lib.Dec.{eqb}
use lib.ListN.{length}
use borrow.Author.Tests.{ne_eqb}
use Rattle.grammar.specs.Grammar.{Field, Answer, Grammar, draw}
use Rattle.grammar.specs.Grammar.{◌>>=◌}
use Rattle.grammar.specs.Course as course
use Rattle.grammar.specs.Course.{Drawn, Reader, CourseTo, on_drawn, run, fit}
use Rattle.grammar.proofs.Runs.{and_then, run_bind}
use Rattle.meaning.specs.Reads.{when◌then◌else◌, Reads, Got, got, refused, on, done, refuse}
use Rattle.meaning.specs.Alike.{drawn_as, collect}
use Rattle.meaning.proofs.Line.{on-on}

pub on-got : {S A : Type 0} (g : Got S A) → on g (λ a s. got a s) ≡ g
unfolding on
on-got (got a s) = refl
on-got (refused n p) = refl

module _ {S T E : Type 0} (view : T → S) where
  -- what so many rows take of it
  abbrev pub kept : {A : Type 0} → ℕ → CourseTo T E A → Got S (List E)
  kept rows c = collect view (fit rows c)

  -- a field, and what follows
  pub drawn-kept : {A B X : Type 0} (h : X → A) (rows : ℕ) (next : X → T → CourseTo T E B) (rest : A → Reads S (List E))
      → ((x : X) (t : T) → rest (h x) (view t) ≡ kept rows (next x t)) → (d : Drawn T X) → on (drawn_as h view d) rest ≡ kept rows (on_drawn d next)
  unfolding on drawn_as on_drawn fit collect
  drawn-kept h rows next rest same (course.got x t) = same x t
  drawn-kept h rows next rest same (course.not why) = refl

  -- a thing, and what follows: no row left is 8
  pub thing-kept : {A : Type 0} (rest : ℕ → Reads S (List E)) (x : E) (at : ℕ) (s : S) (c : CourseTo T E A)
      → ((rows : ℕ) → rest rows s ≡ kept rows c) → (rows : ℕ)
      → (when eqb rows 0 then refuse 8 at else (λ s. on (rest (rows - 1) s) (λ es. done (x ∷ es)))) s ≡ kept rows (course.thing x at c)
  unfolding on fit collect when◌then◌else◌
  thing-kept rest x at s c same zero = refl
  thing-kept rest x at s c same (suc n) =
      let some : eqb (suc n) 0 ≡ false = ne_eqb (suc n) 0 (λ e. omega arith) in
      let fewer : suc n - 1 ≡ n = omega arith in
      rw (some, fewer, same n) refl

  -- one course, and then another
  pub then-kept : {A B : Type 0} (rest : ℕ → Reads S (List E)) (f : A → T → CourseTo T E B)
      → ((a : A) (rows : ℕ) (t : T) → rest rows (view t) ≡ kept rows (f a t)) → (c : CourseTo T E A) (rows : ℕ)
      → on (kept rows c) (λ es s. on (rest (rows - length es) s) (λ more s. got (es ++ more) s)) ≡ kept rows (and_then c f)
  unfolding on fit collect and_then
  then-kept rest f same (course.thing e p c) zero = refl
  then-kept rest f same (course.thing e p c) (suc n) = go (kept n c) ∙ ap (λ (g : Got S (List E)). on g (λ es s. got (e ∷ es) s)) (then-kept rest f same c n)
    where
      go : (g : Got S (List E))
          → on (on g (λ es s. got (e ∷ es) s)) (λ es s. on (rest (suc n - length es) s) (λ more s. got (es ++ more) s))
          ≡ on (on g (λ es s. on (rest (n - length es) s) (λ more s. got (es ++ more) s))) (λ es s. got (e ∷ es) s)
      go (got es s) =
          let fewer : suc n - suc (length es) ≡ n - length es = omega arith in
          rw fewer (sym (on-on (rest (n - length es) s) (λ more s. got (es ++ more) s) (λ es s. got (e ∷ es) s)))
      go (refused m q) = refl
  then-kept rest f same (course.over a t) rows =
      let all : rows - 0 ≡ rows = omega arith in
      rw all (on-got (rest rows (view t)) ∙ same a rows t)
  then-kept rest f same (course.stopped why) rows = refl

  -- the same of grammars
  module _ (R : Reader T) where
    pub draw-kept : {A B : Type 0} (f : Field) (g : Answer f → Grammar E B) (h : Answer f → A) (rest : A → Reads S (List E)) (rows : ℕ) (t : T)
        → ((x : Answer f) (t : T) → rest (h x) (view t) ≡ kept rows (run R (g x) t)) → on (drawn_as h view (R f t)) rest ≡ kept rows (run R (draw f >>= g) t)
    unfolding run ◌>>=◌
    draw-kept f g h rest rows t same = drawn-kept h rows (λ x t. run R (g x) t) rest same (R f t)

    pub bind-kept : {A B : Type 0} (x : Grammar E A) (g : A → Grammar E B) (rest : ℕ → Reads S (List E)) (rows : ℕ) (t : T)
        → ((a : A) (rows : ℕ) (t : T) → rest rows (view t) ≡ kept rows (run R (g a) t))
        → on (kept rows (run R x t)) (λ es s. on (rest (rows - length es) s) (λ more s. got (es ++ more) s)) ≡ kept rows (run R (x >>= g) t)
    bind-kept x g rest rows t same = then-kept rest (λ a t. run R (g a) t) same (run R x t) rows ∙ ap (kept rows) (sym (run_bind R x g t))
