-- What the words of a sort that is done say: the numbers that a whole run takes, and the reaches where it ends, 0 for a client that is not reported.
use Prim.Native.Nat.{ℕ, ◌-◌, ◌*◌, ◌/◌, ◌≤◌, ◌<◌}
use mathlib.Core.Path.{◌≡◌, refl, sym, ap, ◌∙◌}
use mathlib.Core.Logic.{◌⊎◌, inl, inr}
use mathlib.Core.Bool.{Bool, true, false}
use mathlib.Core.List.{List, [], ◌∷◌, ◌++◌}
use native.Mathlib.Omega.{arith}
use lib.Dec.{eqb}
use lib.ListN.{length, take, replicate}
use lib.Seq.{take-append_seam}
use borrow.Author.Tests.{eqb-true, eqb-false}
use Rattle.numbers.specs.Number.{pick}
use Rattle.numbers.specs.Output.{padded}
use Rattle.block.specs.declared.Id.{Id}
use Rattle.block.specs.declared.Block.{Block}
use Rattle.vector.specs.Vector.{Entry, clients_in}
use Rattle.kept.specs.Kept.{remote}
use Rattle.sorting.specs.Steps.{State, start, step, after, Run}
use Rattle.sorting.specs.Quick.{Listed}
use Rattle.sorting.specs.Rules.{queue, system, by_reaches}
use Rattle.sorting.specs.Sorted.{all_clients, steps, reaches_in}
use Rattle.sorting.proofs.Outcome.{below_or, can-fits}
use Rattle.sorting.proofs.Demand.{others-stay}
use Rattle.sorting.proofs.Clients.{clients-blocks, clients-vector}
use Rattle.sort_answers.specs.declared.Sorted.{Sorted}
use Rattle.sort_answers.specs.Answers.{Sort, Room, answered}
use Rattle.sorts.specs.Promises.{lent}
use Rattle.later.specs.Calls.{Call, taken_by, reach_at, reach_by}
use Rattle.later.specs.Sorters.{Ended}

pub front-padded : (n : ℕ) (ws : List ℕ) → take (length ws) (padded n ws) ≡ ws
unfolding padded
front-padded n ws = take-append_seam ws (replicate (n - length ws) 0)

half : (n : ℕ) → (2 * n) / 2 ≡ n
half n = omega arith

reaches-length : (s : State ℕ) (cs : List ℕ) → length (reaches_in s cs) ≡ 2 * length cs
unfolding reaches_in
reaches-length s [] = omega arith
reaches-length s (c ∷ cs) = omega (arith, reaches-length s cs)

reach-listed : (s : State ℕ) (cs : List ℕ) (rest : List ℕ) (c : ℕ) → Listed c cs → reach_at (length cs) (reaches_in s cs ++ rest) c ≡ s.known c
unfolding reach_at reaches_in
reach-listed s [] rest c l = absurd l
reach-listed s (d ∷ cs) rest c l = go (eqb d c) refl l (reach-listed s cs rest c)
  where
    go : (x : Bool) → eqb d c ≡ x → Listed c (d ∷ cs) → (Listed c cs → reach_at (length cs) (reaches_in s cs ++ rest) c ≡ s.known c)
        → pick x (s.known d) (reach_at (length cs) (reaches_in s cs ++ rest) c) ≡ s.known c
    go true e l rec = ap s.known (eqb-true d c e)
    go false e (inl p) rec = absurd (eqb-false d c e (sym p))
    go false e (inr l) rec = rec l

reach-unlisted : (s : State ℕ) (cs : List ℕ) (rest : List ℕ) (c : ℕ) → (Listed c cs → ⊥) → reach_at (length cs) (reaches_in s cs ++ rest) c ≡ 0
unfolding reach_at reaches_in
reach-unlisted s [] rest c n = refl
reach-unlisted s (d ∷ cs) rest c n = go (eqb d c) refl (reach-unlisted s cs rest c (λ l. n (inr l)))
  where
    go : (x : Bool) → eqb d c ≡ x → reach_at (length cs) (reaches_in s cs ++ rest) c ≡ 0
        → pick x (s.known d) (reach_at (length cs) (reaches_in s cs ++ rest) c) ≡ 0
    go true e rec = absurd (n (inl (sym (eqb-true d c e))))
    go false e rec = rec

-- ---- a client that is not reported reaches 0

listed-or : (c : ℕ) (cs : List ℕ) → Listed c cs ⊎ (Listed c cs → ⊥)
listed-or c [] = inr (λ l. l)
listed-or c (d ∷ cs) = go (eqb c d) refl (listed-or c cs)
  where
    go : (x : Bool) → eqb c d ≡ x → Listed c cs ⊎ (Listed c cs → ⊥) → Listed c (d ∷ cs) ⊎ (Listed c (d ∷ cs) → ⊥)
    go true e rec = inl (inl (eqb-true c d e))
    go false e (inl l) = inl (inr l)
    go false e (inr n) = inr (λ l. elim l [ inl p ↦ eqb-false c d e p | inr m ↦ n m ])

unnamed : (v : List Entry) (c : ℕ) → (Listed c (clients_in v) → ⊥) → remote v c ≡ 0
unfolding remote
unnamed [] c n = refl
unnamed (e ∷ v) c n = go (eqb e.client c) refl (unnamed v c (λ l. n (inr l)))
  where
    go : (x : Bool) → eqb e.client c ≡ x → remote v c ≡ 0 → pick x e.clock (remote v c) ≡ 0
    go true p rec = absurd (n (inl (sym (eqb-true e.client c p))))
    go false p rec = rec

module _ (asks : ℕ → Block → List Id) (bs : List Block) where
  -- no step lifts a client that has no blocks
  never-lifted : (s : State ℕ) (cs : List ℕ) → Run (steps (by_reaches asks) bs) s cs → (d : ℕ) → length (queue bs d) ≡ 0
      → (after (steps (by_reaches asks) bs) s cs).known d ≡ s.known d
  unfolding Run after system
  never-lifted s [] r d none = refl
  never-lifted s (c ∷ cs) r d none =
      never-lifted (step (steps (by_reaches asks) bs) s c) cs r.1 d none
      ∙ others-stay asks bs s c d (λ p. let h = can-fits (steps (by_reaches asks) bs) s c r.0 in omega (arith, h, none, ap (λ (x : ℕ). length (queue bs x)) p))

  pub reach-known : (v : List Entry) (cs : List ℕ) → Run (steps (by_reaches asks) bs) (start (remote v)) cs → (rest : List ℕ) (c : ℕ)
      → reach_at (length (all_clients bs v)) (reaches_in (after (steps (by_reaches asks) bs) (start (remote v)) cs) (all_clients bs v) ++ rest) c
      ≡ (after (steps (by_reaches asks) bs) (start (remote v)) cs).known c
  reach-known v cs r rest c = go (listed-or c (all_clients bs v))
    where
      go : Listed c (all_clients bs v) ⊎ (Listed c (all_clients bs v) → ⊥)
          → reach_at (length (all_clients bs v)) (reaches_in (after (steps (by_reaches asks) bs) (start (remote v)) cs) (all_clients bs v) ++ rest) c
          ≡ (after (steps (by_reaches asks) bs) (start (remote v)) cs).known c
      go (inl l) = reach-listed (after (steps (by_reaches asks) bs) (start (remote v)) cs) (all_clients bs v) rest c l
      go (inr n) =
          reach-unlisted (after (steps (by_reaches asks) bs) (start (remote v)) cs) (all_clients bs v) rest c n
          ∙ sym (never-lifted (start (remote v)) cs r c (empty (below_or 0 (length (queue bs c)))) ∙ unnamed v c (λ l. n (clients-vector bs v c l)))
        where
          empty : (0 < length (queue bs c)) ⊎ (length (queue bs c) ≤ 0) → length (queue bs c) ≡ 0
          empty (inl h) = absurd (n (clients-blocks bs v c h))
          empty (inr h) = omega arith

-- ---- a call that is done

module _ {f : ℕ → ℕ → Room → Sort} (a : Call f) where
  abbrev pub sort_in : Sort
  sort_in = f (length a.rows) (length a.ranges / 3) (lent a.order a.counts a.reaches a.pending)

  pub call-done : (f (length a.rows) (length a.ranges / 3) (lent a.order a.counts a.reaches a.pending)).refusal.number ≡ 0
  unfolding answered
  call-done = sym (ap (λ (x : Sorted). x.refusal.number) a.promised.0) ∙ a.done

  pub taken_is : taken_by a ≡ (f (length a.rows) (length a.ranges / 3) (lent a.order a.counts a.reaches a.pending)).order
  unfolding answered
  taken_is =
      ap (λ (x : Sorted). take x.steps a.order₁) a.promised.0 ∙ ap (take (length sort_in.order)) a.promised.3
      ∙ front-padded (length a.order) sort_in.order

  -- the reaches that it reports are those where its run ends
  pub reach-is : (asks : ℕ → Block → List Id) (bs : List Block) (v : List Entry) (e : Ended (by_reaches asks) bs v sort_in) (c : ℕ)
      → reach_by a c ≡ (after (steps (by_reaches asks) bs) (start (remote v)) e.ran.run).known c
  unfolding answered padded
  reach-is asks bs v e c =
      let n = length a.reaches in
      let s = after (steps (by_reaches asks) bs) (start (remote v)) e.ran.run in
      ap (λ (x : Sorted). reach_at x.reaches a.reaches₁ c) a.promised.0
      ∙ ap (λ (ws : List ℕ). reach_at (length sort_in.reaches / 2) ws c) a.promised.5
      ∙ ap (λ (ws : List ℕ). reach_at (length ws / 2) (padded n ws) c) e.reaches
      ∙ ap (λ (k : ℕ). reach_at k (padded n (reaches_in s (all_clients bs v))) c)
      (ap (λ (k : ℕ). k / 2) (reaches-length s (all_clients bs v)) ∙ half (length (all_clients bs v)))
      ∙ reach-known asks bs v e.ran.run e.ran.whole.run (replicate (n - length (reaches_in s (all_clients bs v))) 0) c
