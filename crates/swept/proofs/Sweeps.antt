-- Fronts, clients and sweeps, one after another: the boards of the slow plain sorter come, step by step, to the slow order of sorting.
use Prim.Native.Nat.{ℕ, zero, suc, ◌+◌, ◌-◌, ◌≤◌, ◌<◌}
use mathlib.Core.Path.{◌≡◌, refl, ap, subst, ◌∙◌}
use mathlib.Core.Bool.{Bool, true, false}
use mathlib.Core.List.{List, [], ◌∷◌, ◌++◌, append-nil, append_assoc}
use native.Mathlib.Omega.{arith}
use lib.Dec.{ltb}
use lib.ListN.{length, get_or, length-append}
use borrow.Author.Tests.{lt-ltb, le-ltb}
use Rattle.numbers.specs.Number.{pick}
use Rattle.block.specs.declared.Block.{Block}
use Rattle.block.specs.Row.{no_block}
use Rattle.vector.specs.Vector.{Entry}
use Rattle.slots.specs.Slots.{Slot}
use Rattle.slots.proofs.Ranks.{client_at}
use Rattle.slots.proofs.Clients.{clients_of}
use Rattle.sorting.specs.Steps.{System, State, start, can, step, after}
use Rattle.sorting.specs.Quick.{remaining}
use Rattle.sorting.specs.Named.{rule_of}
use Rattle.sorting.specs.Sorted.{steps}
use Rattle.sorting.specs.Slow.{lowest_first, again, fronts, drain, sweep, sweeps, slow}
use Rattle.sorting.proofs.Quick.{after-append, after_more}
use Rattle.sweeper.specs.Sweeper.{Board, took, row_at, drained_by, left_at, drained, swept_below, swept, swept_by, left_below, swept_all}
use Rattle.swept.proofs.Stands.{Stands, Given, Come, ready-can, left_is, come-more}

-- ---- the first n slots' clients, the last of them first

unfoldable down : List Slot → ℕ → List ℕ
down ss zero = []
down ss (suc n) = client_at ss n ∷ down ss n

down-more : (s : Slot) (ss : List Slot) (n : ℕ) → down (s ∷ ss) (suc n) ≡ down ss n ++ (s.client ∷ [])
unfolding down
down-more s ss zero = refl
down-more s ss (suc n) = ap (λ (l : List ℕ). client_at ss n ∷ l) (down-more s ss n)

down-all : (ss : List Slot) → down ss (length ss) ≡ lowest_first (clients_of ss)
unfolding down lowest_first
down-all [] = refl
down-all (s ∷ ss) = down-more s ss (length ss) ∙ ap (λ (l : List ℕ). l ++ (s.client ∷ [])) (down-all ss)

-- ---- blocks left, in whatever order clients are counted

module _ {A : Type 0} (S : System A) (s : State A) where
  left-last : (cs : List ℕ) (c : ℕ) → remaining S s (cs ++ (c ∷ [])) ≡ (S.size c - s.taken c) + remaining S s cs
  unfolding remaining
  left-last [] c = refl
  left-last (x ∷ cs) c = omega (arith, left-last cs c)

  left-lowest : (cs : List ℕ) → remaining S s (lowest_first cs) ≡ remaining S s cs
  unfolding remaining lowest_first
  left-lowest [] = refl
  left-lowest (c ∷ cs) = left-last (lowest_first cs) c ∙ ap (λ (n : ℕ). (S.size c - s.taken c) + n) (left-lowest cs)

module _ (rule : ℕ) {bs : List Block} {v : List Entry} {ss : List Slot} {rows : List Block} (given : Given bs v ss rows) (κ : ℕ → ℕ) (before : List ℕ) where
  abbrev S : System ℕ
  S = steps (rule_of rule) bs

  -- where some steps end
  abbrev at : List ℕ → State ℕ
  at cs = after S (start κ) cs

  abbrev Comes : List ℕ → Board → Type 0
  Comes cs d = Come rule given κ before cs d

  -- ---- a client's fronts

  fronts-come : (k : ℕ) (cs : List ℕ) (d : Board) → Comes cs d → (i : ℕ) → i < length ss
      → Comes (cs ++ fronts S k (at cs) (client_at ss i)) (drained_by k rule ss rows i d)
  unfolding fronts drained_by
  fronts-come zero cs d g i small = rw (append-nil cs) g
  fronts-come (suc k) cs d g i small =
      rw (ready-can rule given g.stands i small)
      (go (can S (at cs) (client_at ss i)) refl (λ h. fronts-come k (cs ++ (client_at ss i ∷ [])) (took i (row_at ss d i) (get_or rows (row_at ss d i) no_block) d) h i small))
    where
      go : (x : Bool) → can S (at cs) (client_at ss i) ≡ x
          → (Comes (cs ++ (client_at ss i ∷ [])) (took i (row_at ss d i) (get_or rows (row_at ss d i) no_block) d)
          → Comes ((cs ++ (client_at ss i ∷ [])) ++ fronts S k (at (cs ++ (client_at ss i ∷ []))) (client_at ss i))
          (drained_by k rule ss rows i (took i (row_at ss d i) (get_or rows (row_at ss d i) no_block) d)))
          → Comes (cs ++ pick x (client_at ss i ∷ fronts S k (step S (at cs) (client_at ss i)) (client_at ss i)) [])
          (pick x (drained_by k rule ss rows i (took i (row_at ss d i) (get_or rows (row_at ss d i) no_block) d)) d)
      go true e rec =
          let on = rec (come-more rule given κ before cs d g i small (rw e tt)) in
          subst (λ (l : List ℕ). Comes l (drained_by k rule ss rows i (took i (row_at ss d i) (get_or rows (row_at ss d i) no_block) d)))
          (append_assoc cs (client_at ss i ∷ []) (fronts S k (at (cs ++ (client_at ss i ∷ []))) (client_at ss i))
          ∙ ap (λ (s : State ℕ). cs ++ (client_at ss i ∷ fronts S k s (client_at ss i))) (after_more S (start κ) cs (client_at ss i))) on
      go false e rec = rw (append-nil cs) g

  drain-comes : (cs : List ℕ) (d : Board) → Comes cs d → (i : ℕ) → i < length ss → Comes (cs ++ drain S (at cs) (client_at ss i)) (drained rule ss rows i d)
  unfolding drain drained
  drain-comes cs d g i small = rw (← left_is rule given g.stands i small) (fronts-come (left_at ss d.taken i) cs d g i small)

  -- ---- client after client

  below-comes : (n : ℕ) (cs : List ℕ) (d : Board) → Comes cs d → n ≤ length ss → Comes (cs ++ sweep S (at cs) (down ss n)) (swept_below n rule ss rows d)
  unfolding sweep swept_below down
  below-comes zero cs d g few = rw (append-nil cs) g
  below-comes (suc n) cs d g few =
      let c = client_at ss n in
      let ds = drain S (at cs) c in
      let on = below-comes n (cs ++ ds) (drained rule ss rows n d) (drain-comes cs d g n (omega arith)) (omega arith) in
      subst (λ (l : List ℕ). Comes l (swept_below n rule ss rows (drained rule ss rows n d)))
      (append_assoc cs ds (sweep S (at (cs ++ ds)) (down ss n))
      ∙ ap (λ (s : State ℕ). cs ++ (ds ++ sweep S s (down ss n))) (after-append S (start κ) cs ds)) on

  sweep-comes : (cs : List ℕ) (d : Board) → Comes cs d → Comes (cs ++ sweep S (at cs) (down ss (length ss))) (swept rule ss rows d)
  unfolding swept
  sweep-comes cs d g = below-comes (length ss) cs d g (omega arith)

  -- ---- sweep after sweep

  sweeps-come : (k : ℕ) (cs : List ℕ) (d : Board) → Comes cs d → Comes (cs ++ sweeps S k (down ss (length ss)) (at cs)) (swept_by k rule ss rows d)
  unfolding sweeps swept_by
  sweeps-come zero cs d g = rw (append-nil cs) g
  sweeps-come (suc k) cs d g =
      go (sweep S (at cs) (down ss (length ss))) (sweep-comes cs d g) (λ x h. sweeps-come k (cs ++ x) (swept rule ss rows d) h)
    where
      go : (x : List ℕ) → Comes (cs ++ x) (swept rule ss rows d)
          → ((x : List ℕ) → Comes (cs ++ x) (swept rule ss rows d)
          → Comes ((cs ++ x) ++ sweeps S k (down ss (length ss)) (at (cs ++ x))) (swept_by k rule ss rows (swept rule ss rows d)))
          → Comes (cs ++ again x (λ taken. sweeps S k (down ss (length ss)) (after S (at cs) taken)))
          (pick (ltb d.steps (swept rule ss rows d).steps) (swept_by k rule ss rows (swept rule ss rows d)) (swept rule ss rows d))
      go [] h rec = rw (le-ltb d.steps (swept rule ss rows d).steps (omega (arith, g.count, h.count, ap length (append-nil cs)))) h
      go (c ∷ x) h rec =
          rw (lt-ltb d.steps (swept rule ss rows d).steps (omega (arith, g.count, h.count, length-append cs (c ∷ x))))
          (subst (λ (l : List ℕ). Comes l (swept_by k rule ss rows (swept rule ss rows d)))
          (append_assoc cs (c ∷ x) (sweeps S k (down ss (length ss)) (at (cs ++ (c ∷ x))))
          ∙ ap (λ (s : State ℕ). cs ++ ((c ∷ x) ++ sweeps S k (down ss (length ss)) s)) (after-append S (start κ) cs (c ∷ x)))
          (rec (c ∷ x) h))

  -- ---- all sweeps

  below_left : (d : Board) (s : State ℕ) → Stands ss s d → (n : ℕ) → n ≤ length ss → left_below ss d.taken n ≡ remaining S s (down ss n)
  unfolding left_below remaining down
  below_left d s st zero few = refl
  below_left d s st (suc n) few = λ j. left_is rule given st n (omega arith) j + below_left d s st n (omega arith) j

  pub all_come : (d : Board) → Comes [] d → Comes (slow S (clients_of ss) (start κ)) (swept_all rule ss rows d)
  unfolding slow swept_all after
  all_come d g =
      let fuel : left_below ss d.taken (length ss) ≡ remaining S (start κ) (clients_of ss) =
      below_left d (start κ) g.stands (length ss) (omega arith) ∙ ap (remaining S (start κ)) (down-all ss) ∙ left-lowest S (start κ) (clients_of ss) in
      rw (← fuel, ← down-all ss) (sweeps-come (suc (left_below ss d.taken (length ss))) [] d g)
