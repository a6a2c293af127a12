-- The three loops: a client's fronts taken one after another, client after client, sweep after sweep. Each turn leaves what is still to come the same, and a
-- sweep that takes something leaves fewer blocks.
use mathlib.Core.Path.{◌≡◌, refl, sym, ap, subst, ◌∙◌}
use mathlib.Core.Logic.{◌≢◌}
use mathlib.Core.Bool.{Bool, true, false}
use mathlib.Core.List.{List}
use Prim.Native.Nat.{ℕ, zero, suc, ◌+◌, ◌-◌, ◌≤◌, ◌<◌}
use native.Mathlib.Omega.{arith}
use lib.Dec.{ltb, eqb}
use lib.ListN.{length, get_or, set, length-set}
use lib.Seq.{get_or-set_same, get_or-set_other}
use borrow.Author.Tests.{ltb-true, lt-ltb, le-ltb, eqb-true, eqb-false}
use Rattle.numbers.specs.Number.{pick}
use Rattle.block.specs.declared.Block.{Block}
use Rattle.block.specs.Row.{no_block}
use Rattle.parts.specs.Brim.{brim}
use Rattle.slots.specs.Slots.{Slot, slot}
use Rattle.picker.specs.Picker.{nowhere, one_more}
use Rattle.sweeper.specs.Sweeper.{ready_by, Board, board, Shows, took, row_at, front_ready, drained_by, left_at, drained, swept_below, swept, swept_by, left_below, swept_all}
use Rattle.sweeper.proofs.Fronts.{row-there}

-- ---- how many blocks are left

pub left-all : (ss : List Slot) (taken : List ℕ) (i n : ℕ) → i < n → left_at ss taken i ≤ left_below ss taken n
unfolding left_below
left-all ss taken i zero h = absurd (omega arith)
left-all ss taken i (suc n) h = go (eqb i n) refl (left-all ss taken i n)
  where
    go : (b : Bool) → eqb i n ≡ b → (i < n → left_at ss taken i ≤ left_below ss taken n) → left_at ss taken i ≤ left_at ss taken n + left_below ss taken n
    go true e rec = let p : i ≡ n = eqb-true i n e in rw p (omega arith)
    go false e rec = let ne = eqb-false i n e in omega (arith, rec (omega (arith, ne)))

module _ (ss : List Slot) (taken : List ℕ) (i x : ℕ) where
  left_other : (j : ℕ) → j ≢ i → left_at ss (set taken i x) j ≡ left_at ss taken j
  unfolding left_at
  left_other j ne = ap (λ (n : ℕ). (get_or ss j (slot 0 0 0)).count - n) (get_or-set_other taken i j x 0 ne)

  left-under : (n : ℕ) → n ≤ i → left_below ss (set taken i x) n ≡ left_below ss taken n
  unfolding left_below
  left-under zero h = refl
  left-under (suc n) h = λ k. left_other n (λ e. omega arith) k + left-under n (omega arith) k

  left-fewer : (n : ℕ) → i < n → left_at ss (set taken i x) i < left_at ss taken i → left_below ss (set taken i x) n < left_below ss taken n
  unfolding left_below
  left-fewer zero h less = absurd (omega arith)
  left-fewer (suc n) h less = go (eqb n i) refl (λ l. left-fewer n l less)
    where
      go : (b : Bool) → eqb n i ≡ b → (i < n → left_below ss (set taken i x) n < left_below ss taken n)
          → left_at ss (set taken i x) n + left_below ss (set taken i x) n < left_at ss taken n + left_below ss taken n
      go true e rec =
          let p : n ≡ i = eqb-true n i e in
          omega (arith, left-under n (omega arith), subst (λ (m : ℕ). left_at ss (set taken i x) m < left_at ss taken m) (sym p) less)
      go false e rec =
          let ne = eqb-false n i e in
          omega (arith, left_other n ne, rec (omega (arith, ne)))

-- ---- what a turn of each loop begins with, after the board d₀

module _ (rule : ℕ) (ss : List Slot) (rows : List Block) (d₀ : Board) where
  -- fronts of slot i are taken, and this is the next one's row
  pub record Draining (i row : ℕ) (d : Board) : Type 0 where
    pub same : drained rule ss rows i d ≡ drained rule ss rows i d₀
    pub here : row ≡ row_at ss d i
    pub room : length d.taken ≡ length d₀.taken

  -- the first i slots are still to be swept
  pub record Sweeping (i : ℕ) (d : Board) : Type 0 where
    pub same : swept_below i rule ss rows d ≡ swept rule ss rows d₀
    pub upto : i ≤ length ss
    pub room : length d.taken ≡ length d₀.taken

  -- the last sweep began after so many steps and has come to d; so many sweeps more are enough, if it took something
  pub record Repeating (before : ℕ) (d : Board) : Type 0 where
    pub fuel : ℕ
    pub same : pick (ltb before d.steps) (swept_by fuel rule ss rows d) d ≡ swept_all rule ss rows d₀
    pub enough : before < d.steps → left_below ss d.taken (length ss) < fuel
    pub room : length d.taken ≡ length d₀.taken

module _ (rule : ℕ) (ss : List Slot) (rows : List Block) where
  -- ---- a front that is ready

  ready-row : (i : ℕ) (d : Board) → front_ready rule ss rows i d ≡ true → row_at ss d i < length rows
  unfolding front_ready
  ready-row i d = go (ltb (row_at ss d i) (length rows)) refl
    where
      go : (x : Bool) → ltb (row_at ss d i) (length rows) ≡ x → pick x (ready_by rule ss d.reach (get_or rows (row_at ss d i) no_block)) false ≡ true
          → row_at ss d i < length rows
      go true e h = ltb-true (row_at ss d i) (length rows) e
      go false e h = absurd (let z : ◌≡◌ {A = ℕ} 0 1 = cc in omega arith)

  pub is-ready : (i : ℕ) (d : Board) → row_at ss d i < length rows → (b : Bool) → ready_by rule ss d.reach (get_or rows (row_at ss d i) no_block) ≡ b
      → front_ready rule ss rows i d ≡ b
  unfolding front_ready
  is-ready i d h b e = rw (lt-ltb (row_at ss d i) (length rows) h) e

  no_row : (i : ℕ) (d : Board) → length rows ≤ row_at ss d i → front_ready rule ss rows i d ≡ false
  unfolding front_ready
  no_row i d h = rw (le-ltb (row_at ss d i) (length rows) h) refl

  module _ (short : length rows ≤ nowhere) (i : ℕ) where
    abbrev next : Board → Board
    next d = took i (row_at ss d i) (get_or rows (row_at ss d i) no_block) d

    pub next-room : (d : Board) → length (next d).taken ≡ length d.taken
    unfolding took
    next-room d = length-set d.taken i (suc (get_or d.taken i 0))

    pub takes : (d : Board) → row_at ss d i < length rows → (get_or d.taken i 0 < (get_or ss i (slot 0 0 0)).count) × (get_or d.taken i 0 ≤ brim)
    takes d h = row-there (get_or ss i (slot 0 0 0)) (get_or d.taken i 0) (omega arith)

    -- one less of its client's blocks is left
    one_less : (d : Board) → i < length d.taken → row_at ss d i < length rows → left_at ss d.taken i ≡ suc (left_at ss (next d).taken i)
    unfolding left_at took
    one_less d there h =
        let e = get_or-set_same d.taken i (suc (get_or d.taken i 0)) 0 there in
        omega (arith, ap (λ (n : ℕ). (get_or ss i (slot 0 0 0)).count - n) e, takes d h)

    drained-on : (d : Board) → i < length d.taken → front_ready rule ss rows i d ≡ true → drained rule ss rows i d ≡ drained rule ss rows i (next d)
    unfolding drained drained_by
    drained-on d there e = rw (one_less d there (ready-row i d e), e) refl

    drained-end : (d : Board) → front_ready rule ss rows i d ≡ false → drained rule ss rows i d ≡ d
    unfolding drained drained_by
    drained-end d e = go (left_at ss d.taken i)
      where
        go : (k : ℕ) → drained_by k rule ss rows i d ≡ d
        go zero = refl
        go (suc k) = rw e refl

    -- ---- the loop over fronts

    module _ (d₀ : Board) where
      pub begins : (row : ℕ) → row ≡ row_at ss d₀ i → Draining rule ss rows d₀ i row d₀
      begins row e = record { same = refl; here = e; room = refl }

      module _ (row : ℕ) (d : Board) (g : Draining rule ss rows d₀ i row d) where
        -- with its row in place of the front's
        abbrev after : Board
        after = took i row (get_or rows row no_block) d

        after_is : after ≡ next d
        after_is = ap (λ (r : ℕ). took i r (get_or rows r no_block) d) g.here

        ready-here : row < length rows → (b : Bool) → ready_by rule ss d.reach (get_or rows row no_block) ≡ b → front_ready rule ss rows i d ≡ b
        ready-here l b e =
            is-ready i d (subst (λ (r : ℕ). r < length rows) g.here l) b
            (ap (λ (r : ℕ). ready_by rule ss d.reach (get_or rows r no_block)) (sym g.here) ∙ e)

        pub asked : i < length d₀.taken → row < length rows → (i < length d.taken) × (get_or d.taken i 0 < nowhere)
        asked there l = (omega (arith, g.room), omega (arith, takes d (subst (λ (r : ℕ). r < length rows) g.here l)))

        pub room_after : length after.taken ≡ length d₀.taken
        room_after = ap (λ (x : Board). length x.taken) after_is ∙ next-room d ∙ g.room

        module _ (there : i < length d₀.taken) (l : row < length rows) where
          pub turns : ready_by rule ss d.reach (get_or rows row no_block) ≡ true → (row₁ : ℕ) → row₁ ≡ row_at ss after i → Draining rule ss rows d₀ i row₁ after
          turns e row₁ is = record {
            same = ap (drained rule ss rows i) after_is ∙ sym (drained-on d (omega (arith, g.room)) (ready-here l true e)) ∙ g.same;
            here = is;
            room = room_after;
          }

          pub falls : left_at ss after.taken i < left_at ss d.taken i
          falls = rw after_is (omega (arith, one_less d (omega (arith, g.room)) (subst (λ (r : ℕ). r < length rows) g.here l)))

          pub stops : ready_by rule ss d.reach (get_or rows row no_block) ≡ false → d ≡ drained rule ss rows i d₀
          stops e = sym (drained-end d (ready-here l false e)) ∙ g.same

        pub ended : length rows ≤ row → d ≡ drained rule ss rows i d₀
        ended l = sym (drained-end d (no_row i d (subst (λ (r : ℕ). length rows ≤ r) g.here l))) ∙ g.same

    -- ---- what draining leaves

    drained-room : (k : ℕ) (d : Board) → length (drained_by k rule ss rows i d).taken ≡ length d.taken
    unfolding drained_by
    drained-room zero d = refl
    drained-room (suc k) d = go (front_ready rule ss rows i d) (drained-room k (next d) ∙ next-room d)
      where
        go : (x : Bool) → length (drained_by k rule ss rows i (next d)).taken ≡ length d.taken
            → length (pick x (drained_by k rule ss rows i (next d)) d).taken ≡ length d.taken
        go true e = e
        go false e = refl

    -- blocks left and steps made, together, do not grow
    abbrev Spends : Board → Board → Type 0
    Spends d e = left_below ss e.taken (length ss) + e.steps ≤ left_below ss d.taken (length ss) + d.steps

    more-most : (n : ℕ) → one_more n ≤ suc n
    unfolding one_more
    more-most n = go (ltb n brim)
      where
        go : (x : Bool) → pick x (suc n) n ≤ suc n
        go true = omega arith
        go false = omega arith

    pub next-spends : (d : Board) → i < length ss → length ss ≤ length d.taken → row_at ss d i < length rows → Spends d (next d)
    unfolding took
    next-spends d small there h =
        omega (arith, left-fewer ss d.taken i (suc (get_or d.taken i 0)) (length ss) small (less d small there h), more-most d.steps)
      where
        less : (d : Board) → i < length ss → length ss ≤ length d.taken → row_at ss d i < length rows
            → left_at ss (set d.taken i (suc (get_or d.taken i 0))) i < left_at ss d.taken i
        less d small there h = omega (arith, one_less d (omega arith) h)

    drained-spends : (k : ℕ) (d : Board) → i < length ss → length ss ≤ length d.taken → Spends d (drained_by k rule ss rows i d)
    unfolding drained_by
    drained-spends zero d small there = omega arith
    drained-spends (suc k) d small there =
        go (front_ready rule ss rows i d) refl (drained-spends k (next d) small (omega (arith, next-room d)))
      where
        go : (x : Bool) → front_ready rule ss rows i d ≡ x → Spends (next d) (drained_by k rule ss rows i (next d))
            → Spends d (pick x (drained_by k rule ss rows i (next d)) d)
        go true e rest = omega (arith, rest, next-spends d small there (ready-row i d e))
        go false e rest = omega arith

  -- ---- the loop over clients

  module _ (short : length rows ≤ nowhere) where
    pub drain-room : (i : ℕ) (d : Board) → length (drained rule ss rows i d).taken ≡ length d.taken
    unfolding drained
    drain-room i d = drained-room short i (left_at ss d.taken i) d

    drain-spends : (i : ℕ) (d : Board) → i < length ss → length ss ≤ length d.taken → Spends short i d (drained rule ss rows i d)
    unfolding drained
    drain-spends i d small there = drained-spends short i (left_at ss d.taken i) d small there

    module _ (d₀ : Board) where
      pub sets-out : (n : ℕ) → length ss ≡ n → Sweeping rule ss rows d₀ n d₀
      unfolding swept
      sets-out n e = record { same = ap (λ (k : ℕ). swept_below k rule ss rows d₀) (sym e); upto = omega arith; room = refl }

      module _ (i : ℕ) (d : Board) (g : Sweeping rule ss rows d₀ i d) where
        pub goes_on : 0 < i → Sweeping rule ss rows d₀ (i - 1) (drained rule ss rows (i - 1) d)
        unfolding swept_below
        goes_on l =
            let e : suc (i - 1) ≡ i = omega arith in
            record {
              same = ap (λ (k : ℕ). swept_below k rule ss rows d) e ∙ g.same;
              upto = omega (arith, g.upto);
              room = drain-room (i - 1) d ∙ g.room;
            }

        pub comes-round : i ≤ 0 → d ≡ swept rule ss rows d₀
        unfolding swept_below
        comes-round l =
            let e : 0 ≡ i = omega arith in
            ap (λ (k : ℕ). swept_below k rule ss rows d) e ∙ g.same

    below-room : (n : ℕ) (d : Board) → length (swept_below n rule ss rows d).taken ≡ length d.taken
    unfolding swept_below
    below-room zero d = refl
    below-room (suc n) d = below-room n (drained rule ss rows n d) ∙ drain-room n d

    below-spends : (n : ℕ) (d : Board) → n ≤ length ss → length ss ≤ length d.taken → Spends short 0 d (swept_below n rule ss rows d)
    unfolding swept_below
    below-spends zero d few there = omega arith
    below-spends (suc n) d few there =
        omega (arith, below-spends n (drained rule ss rows n d) (omega arith) (omega (arith, drain-room n d)), drain-spends n d (omega arith) there)

    pub sweep-room : (d : Board) → length (swept rule ss rows d).taken ≡ length d.taken
    unfolding swept
    sweep-room d = below-room (length ss) d

    pub sweep-spends : (d : Board) → length ss ≤ length d.taken → Spends short 0 d (swept rule ss rows d)
    unfolding swept
    sweep-spends d there = below-spends (length ss) d (omega arith) there

    -- ---- the loop over sweeps

    module _ (d₀ : Board) (room₀ : length ss ≤ length d₀.taken) where
      pub first-sweep : Repeating rule ss rows d₀ d₀.steps (swept rule ss rows d₀)
      unfolding swept_all swept_by
      first-sweep = record {
        fuel = left_below ss d₀.taken (length ss);
        same = refl;
        enough = λ l. omega (arith, sweep-spends d₀ room₀);
        room = sweep-room d₀;
      }

      module _ (before : ℕ) (d : Board) (g : Repeating rule ss rows d₀ before d) where
        pub there : length ss ≤ length d.taken
        there = omega (arith, g.room, room₀)

        module _ (l : before < d.steps) where
          fewer : ℕ
          fewer = g.fuel - 1

          fuel-is : g.fuel ≡ suc fewer
          unfolding fewer
          fuel-is = omega (arith, g.enough l)

          pub sweeps-again : Repeating rule ss rows d₀ d.steps (swept rule ss rows d)
          unfolding swept_by
          sweeps-again = record {
            fuel = fewer;
            same =
                sym (ap (λ (k : ℕ). swept_by k rule ss rows d) fuel-is)
                ∙ sym (ap (λ (x : Bool). pick x (swept_by g.fuel rule ss rows d) d) (lt-ltb before d.steps l)) ∙ g.same;
            enough = λ m. omega (arith, sweep-spends d there, g.enough l, fuel-is);
            room = sweep-room d ∙ g.room;
          }

        pub sweeps-end : d.steps ≤ before → d ≡ swept_all rule ss rows d₀
        sweeps-end l = sym (ap (λ (x : Bool). pick x (swept_by g.fuel rule ss rows d) d) (le-ltb before d.steps l)) ∙ g.same

-- ---- boards by their parts

pub boarded : (d : Board) (r : ℕ) (reach taken order : List ℕ) → Shows d r reach taken order → board reach taken order r ≡ d
boarded d r reach taken order s = rw (s.0, s.1, s.2, s.3) refl

pub shown : (d e : Board) → d ≡ e → Shows e d.steps d.reach d.taken d.order
shown d e p = (ap (λ (x : Board). x.steps) p, ap (λ (x : Board). x.reach) p, ap (λ (x : Board). x.taken) p, ap (λ (x : Board). x.order) p)

-- ---- a turn over fronts, by what its calls leave

module _ (rule : ℕ) (ss : List Slot) (rows : List Block) (short : length rows ≤ nowhere) (i : ℕ) (d₀ : Board) (row : ℕ) (d : Board) (g : Draining rule ss rows d₀ i row d)
    (there : i < length d₀.taken) (l : row < length rows) (b : Block) (is : b ≡ get_or rows row no_block) where
  module _ (d₁ : Board) (e : d₁ ≡ took i row b d) where
    same_board : d₁ ≡ took i row (get_or rows row no_block) d
    same_board = e ∙ ap (λ (x : Block). took i row x d) is

    pub turns_to : ready_by rule ss d.reach b ≡ true → (row₁ : ℕ) → row₁ ≡ row_at ss d₁ i → Draining rule ss rows d₀ i row₁ d₁
    turns_to r row₁ h =
        subst (λ (x : Board). Draining rule ss rows d₀ i row₁ x) (sym same_board)
        (turns rule ss rows short i d₀ row d g there l (ap (ready_by rule ss d.reach) (sym is) ∙ r) row₁ (h ∙ ap (λ (x : Board). row_at ss x i) same_board))

    pub falls_to : left_at ss d₁.taken i < left_at ss d.taken i
    falls_to = rw same_board (falls rule ss rows short i d₀ row d g there l)

  pub stops-there : ready_by rule ss d.reach b ≡ false → d ≡ drained rule ss rows i d₀
  stops-there r = stops rule ss rows short i d₀ row d g there l (ap (ready_by rule ss d.reach) (sym is) ∙ r)

-- ---- a turn over sweeps: blocks left and steps made since the sweep before, together, are fewer

pub sweeps-less : (rule : ℕ) (ss : List Slot) (rows : List Block) → length rows ≤ nowhere → (before : ℕ) (d e : Board) → length ss ≤ length d.taken → before < d.steps
    → e ≡ swept rule ss rows d
    → ((left_below ss e.taken (length ss) + e.steps) - d.steps) < ((left_below ss d.taken (length ss) + d.steps) - before)
sweeps-less rule ss rows short before d e there l p = rw p (omega (arith, sweep-spends rule ss rows short d there))
