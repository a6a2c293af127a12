-- Two systems over different knowledge that may make the same steps make them in the same order, and take the same.
use mathlib.Core.Path.{◌≡◌, refl, ap, ◌∙◌}
use mathlib.Core.Bool.{Bool}
use mathlib.Core.List.{List, [], ◌∷◌}
use mathlib.Core.Option.{Option, none, some}
use Prim.Native.Nat.{ℕ, zero, suc}
use lib.Dec.{T}
use Rattle.sorting.specs.Steps.{System, State, can, step, after}
use Rattle.sorting.specs.Quick.{on_choice, higher, chosen, remaining, best, quick}
use Rattle.sorting.proofs.Quick.{best-sound}

-- each step of an order is of a kind
unfoldable pub Along : {A : Type 0} → System A → (State A → ℕ → Type 0) → State A → List ℕ → Type 0
Along S P s [] = Unit {0}
Along S P s (c ∷ cs) = P s c × Along S P (step S s c) cs

-- two systems of one size; of two states that are alike the same clients may be taken, and a step of the kind leaves them alike
pub record Alike {A B : Type 0} (S : System A) (U : System B) (P : State A → ℕ → Type 0) (Like : State A → State B → Type 0) : Type 0 where
  pub size : (c : ℕ) → S.size c ≡ U.size c
  pub taken : (s : State A) (u : State B) → Like s u → (c : ℕ) → s.taken c ≡ u.taken c
  pub same : (s : State A) (u : State B) → Like s u → (c : ℕ) → can S s c ≡ can U u c
  pub goes : (s : State A) (u : State B) → Like s u → (c : ℕ) → T (can S s c) → P s c → Like (step S s c) (step U u c)

module _ {A B : Type 0} {S : System A} {U : System B} {P : State A → ℕ → Type 0} {Like : State A → State B → Type 0} (alike : Alike S U P Like) where
  best-same : (cs : List ℕ) (s : State A) (u : State B) → Like s u → best S cs s ≡ best U cs u
  unfolding best
  best-same [] s u l = refl
  best-same (c ∷ cs) s u l = ap (λ (x : Bool). higher x c (best S cs s)) (alike.same s u l c) ∙ ap (higher (can U u c) c) (best-same cs s u l)

  left-same : (cs : List ℕ) (s : State A) (u : State B) → Like s u → remaining S s cs ≡ remaining U u cs
  unfolding remaining
  left-same [] s u l = refl
  left-same (c ∷ cs) s u l = rw (alike.size c, alike.taken s u l c, left-same cs s u l) refl

  -- the orders are one order, and lead to states that are alike
  pub record Matched (s : State A) (u : State B) (cs ds : List ℕ) : Type 0 where
    pub one : cs ≡ ds
    pub ends : Like (after S s cs) (after U u ds)

  order_same : (cs : List ℕ) (f : ℕ) (s : State A) (u : State B) → Like s u → Along S P s (chosen S (best S cs) f s)
      → Matched s u (chosen S (best S cs) f s) (chosen U (best U cs) f u)
  unfolding chosen after Along
  order_same cs zero s u l p = record { one = refl; ends = l }
  order_same cs (suc f) s u l p = rw (← (best-same cs s u l)) (go (best S cs s) refl p (λ c. order_same cs f (step S s c) (step U u c)))
    where
      go : (o : Option ℕ) → best S cs s ≡ o → Along S P s (on_choice o (λ c. chosen S (best S cs) f (step S s c)))
          → ((c : ℕ) → Like (step S s c) (step U u c) → Along S P (step S s c) (chosen S (best S cs) f (step S s c))
          → Matched (step S s c) (step U u c) (chosen S (best S cs) f (step S s c)) (chosen U (best U cs) f (step U u c)))
          → Matched s u (on_choice o (λ c. chosen S (best S cs) f (step S s c))) (on_choice o (λ c. chosen U (best U cs) f (step U u c)))
      go none e p rec = record { one = refl; ends = l }
      go (some c) e p rec =
          let m = rec c (alike.goes s u l c (best-sound S cs s c e) p.0) p.1 in
          record { one = ap (λ (ds : List ℕ). c ∷ ds) m.one; ends = m.ends }

  pub quick-same : (cs : List ℕ) (s : State A) (u : State B) → Like s u → Along S P s (quick S cs s) → Matched s u (quick S cs s) (quick U cs u)
  unfolding quick
  quick-same cs s u l p = rw (← (left-same cs s u l)) (order_same cs (suc (remaining S s cs)) s u l p)
