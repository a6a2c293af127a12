-- The order that takes the highest client at each step is a run that ends, so it sorts; and no other run that ends takes the highest at each step.
use mathlib.Core.Path.{◌≡◌, refl, subst}
use mathlib.Core.Bool.{Bool, true, false}
use mathlib.Core.List.{List, [], ◌∷◌, ◌++◌}
use mathlib.Core.Logic.{inl, inr}
use mathlib.Core.Option.{Option, none, some}
use Prim.Native.Nat.{ℕ, zero, suc, ◌+◌, ◌≤◌, ◌<◌}
use native.Mathlib.Omega.{arith}
use lib.Dec.{T, ltb, ltb→lt, nltb→le}
use lib.ListN.{length}
use Rattle.numbers.specs.Number.{pick}
use Rattle.sorting.specs.Steps.{System, State, start, can, step, after, Run, Stuck, Ends, Highest, Sorts}
use Rattle.sorting.specs.StepsInner.{Monotone}
use Rattle.sorting.specs.Quick.{Listed, on_choice, higher, chosen, remaining, best, quick}
use Rattle.sorting.proofs.Outcome.{can-fits, step-own, step-up, one-order, sorts}

module _ {A : Type 0} (S : System A) where
  pub run-append : (s : State A) (cs ds : List ℕ) → Run S s cs → Run S (after S s cs) ds → Run S s (cs ++ ds)
  unfolding Run after
  run-append s [] ds r q = q
  run-append s (c ∷ cs) ds r q = (r.0, run-append (step S s c) cs ds r.1 q)

  pub after-append : (s : State A) (cs ds : List ℕ) → after S s (cs ++ ds) ≡ after S (after S s cs) ds
  unfolding after
  after-append s [] ds = refl
  after-append s (c ∷ cs) ds = after-append (step S s c) cs ds

  -- one more step at the end: what a loop's turn adds
  pub run_more : (s : State A) (cs : List ℕ) (c : ℕ) → Run S s cs → T (can S (after S s cs) c) → Run S s (cs ++ (c ∷ []))
  unfolding Run
  run_more s cs c r t = run-append s cs (c ∷ []) r (t, tt)

  pub after_more : (s : State A) (cs : List ℕ) (c : ℕ) → after S s (cs ++ (c ∷ [])) ≡ step S (after S s cs) c
  unfolding after
  after_more s cs c = after-append s cs (c ∷ [])

  pub highest-more : (s : State A) (cs : List ℕ) (c : ℕ) → Highest S s cs → ((d : ℕ) → T (can S (after S s cs) d) → d ≤ c)
      → Highest S s (cs ++ (c ∷ []))
  unfolding Highest after
  highest-more s [] c g h = (h, tt)
  highest-more s (d ∷ cs) c g h = (g.0, highest-more (step S s d) cs c g.1 h)

  left_step : (s : State A) (c : ℕ) (cs : List ℕ) → remaining S (step S s c) cs ≤ remaining S s cs
  unfolding remaining
  left_step s c [] = omega arith
  left_step s c (d ∷ cs) = omega (arith, left_step s c cs, step-up S s c d)

  left_less : (s : State A) (c : ℕ) (cs : List ℕ) → T (can S s c) → Listed c cs → remaining S (step S s c) cs < remaining S s cs
  unfolding remaining
  left_less s c [] t l = absurd l
  left_less s c (d ∷ cs) t (inl e) =
      rw (← e) (omega (arith, left_step s c cs, step-own S s c, can-fits S s c t))
  left_less s c (d ∷ cs) t (inr l) = omega (arith, left_less s c cs t l, step-up S s c d)

  module _ (clients : List ℕ) (listed : (c : ℕ) → 0 < S.size c → Listed c clients) where
    pub less : (s : State A) (c : ℕ) → T (can S s c) → remaining S (step S s c) clients < remaining S s clients
    less s c t = left_less s c clients t (listed c (omega (arith, can-fits S s c t)))

    -- a run has no more steps than there are blocks left
    pub left-run : (s : State A) (cs : List ℕ) → Run S s cs → remaining S (after S s cs) clients + length cs ≤ remaining S s clients
    unfolding Run after
    left-run s [] r = omega arith
    left-run s (c ∷ cs) r = omega (arith, less s c r.0, left-run (step S s c) cs r.1)

    -- a choice of steps that may be made gives a run, and goes on until there is no choice
    module _ (choose : State A → Option ℕ) (sound : (s : State A) (c : ℕ) → choose s ≡ some c → T (can S s c)) where
      order-run : (f : ℕ) (s : State A) → Run S s (chosen S choose f s)
      unfolding Run chosen
      order-run zero s = tt
      order-run (suc f) s = go (choose s) refl (λ c. order-run f (step S s c))
        where
          go : (o : Option ℕ) → choose s ≡ o → ((c : ℕ) → Run S (step S s c) (chosen S choose f (step S s c)))
              → Run S s (on_choice o (λ c. chosen S choose f (step S s c)))
          go none e rec = tt
          go (some c) e rec = (sound s c e, rec c)

      order-end : (f : ℕ) (s : State A) → remaining S s clients < f → choose (after S s (chosen S choose f s)) ≡ none
      unfolding after chosen
      order-end zero s h = absurd (omega arith)
      order-end (suc f) s h = go (choose s) refl (λ c. order-end f (step S s c))
        where
          go : (o : Option ℕ) → choose s ≡ o
              → ((c : ℕ) → remaining S (step S s c) clients < f → choose (after S (step S s c) (chosen S choose f (step S s c))) ≡ none)
              → choose (after S s (on_choice o (λ c. chosen S choose f (step S s c)))) ≡ none
          go none e rec = e
          go (some c) e rec = rec c (omega (arith, less s c (sound s c e)))

  -- what `best` finds: the highest client that may step, or that none may
  abbrev Best : State A → List ℕ → Option ℕ → Type 0
  Best s cs none = (c : ℕ) → Listed c cs → T (can S s c) → ⊥
  Best s cs (some c) = T (can S s c) × ((d : ℕ) → Listed d cs → T (can S s d) → d ≤ c)

  higher-is : (s : State A) (c : ℕ) (cs : List ℕ) (b : Bool) → can S s c ≡ b → (o : Option ℕ) → Best s cs o
      → Best s (c ∷ cs) (higher b c o)
  higher-is s c cs false e none B = λ d l t. elim l [ inl p ↦ subst T e (subst (λ x. T (can S s x)) p t) | inr m ↦ B d m t ]
  higher-is s c cs false e (some x) B = (
    B.0,
    λ d l t. elim l [ inl p ↦ absurd (subst T e (subst (λ y. T (can S s y)) p t)) | inr m ↦ B.1 d m t ],
  )
  higher-is s c cs true e none B = (rw e tt, λ d l t. elim l [ inl p ↦ omega arith | inr m ↦ absurd (B d m t) ])
  higher-is s c cs true e (some x) B = go (ltb x c) refl
    where
      go : (h : Bool) → ltb x c ≡ h → Best s (c ∷ cs) (some (pick h c x))
      go true q =
          let lt : x < c = ltb→lt x c (rw q tt) in
          (rw e tt, λ d l t. elim l [ inl p ↦ omega arith | inr m ↦ omega (arith, B.1 d m t) ])
      go false q =
          let le : c ≤ x = nltb→le x c (rw q tt) in
          (B.0, λ d l t. elim l [ inl p ↦ omega arith | inr m ↦ B.1 d m t ])

  best-is : (cs : List ℕ) (s : State A) → Best s cs (best S cs s)
  unfolding best
  best-is [] s = λ c l t. l
  best-is (c ∷ cs) s = higher-is s c cs (can S s c) refl (best S cs s) (best-is cs s)

  pub best-sound : (cs : List ℕ) (s : State A) (c : ℕ) → best S cs s ≡ some c → T (can S s c)
  best-sound cs s c e = (subst (Best s cs) e (best-is cs s)).0

  module _ (clients : List ℕ) (listed : (c : ℕ) → 0 < S.size c → Listed c clients) where
    pub no-listed : (s : State A) → ((c : ℕ) → Listed c clients → T (can S s c) → ⊥) → Stuck S s
    unfolding Stuck
    no-listed s h c t = h c (listed c (omega (arith, can-fits S s c t))) t

    pub quick-ends : (s : State A) → Ends S s (quick S clients s)
    unfolding quick
    quick-ends s =
        let f = suc (remaining S s clients) in
        let t = after S s (chosen S (best S clients) f s) in
        record {
          run = order-run clients listed (best S clients) (best-sound clients) f s;
          end = no-listed t (subst (Best t clients) (order-end clients listed (best S clients) (best-sound clients) f s (omega arith))
              (best-is clients t));
        }

    -- each step takes the highest client whose front is ready
    pub quick-highest : (s : State A) → Highest S s (quick S clients s)
    unfolding quick Highest chosen
    quick-highest s = go (suc (remaining S s clients)) s
      where
        step-by-step : (f : ℕ) (s : State A) (o : Option ℕ) → Best s clients o
            → ((c : ℕ) → Highest S (step S s c) (chosen S (best S clients) f (step S s c)))
            → Highest S s (on_choice o (λ c. chosen S (best S clients) f (step S s c)))
        step-by-step f s none B rec = tt
        step-by-step f s (some c) B rec = ((λ d t. B.1 d (listed d (omega (arith, can-fits S s d t))) t), rec c)

        go : (f : ℕ) (s : State A) → Highest S s (chosen S (best S clients) f s)
        go zero s = tt
        go (suc f) s = step-by-step f s (best S clients s) (best-is clients s) (λ c. go f (step S s c))

    -- so a loop that ends, and takes the highest client at each turn, has made this order
    pub is-quick : (s : State A) (cs : List ℕ) → Ends S s cs → Highest S s cs → cs ≡ quick S clients s
    is-quick s cs e g = one-order S s cs (quick S clients s) e g (quick-ends s) (quick-highest s)

    -- Demand 3
    pub quick-sorts : Monotone S → (v : A → ℕ) → Sorts S v (quick S clients (start v))
    quick-sorts mono v = sorts S mono v (quick S clients (start v)) (quick-ends (start v))
