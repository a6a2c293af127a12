-- What each way out of strict reading says, with no machine: what today's reading says there, and that the two conditions were met or not.
use Rattle.std.specs.Prelude.{Result, Ok, Err}
use Prim.Native.Nat.{ℕ, zero, suc, ◌-◌, ◌/◌}
use mathlib.Core.Path.{◌≡◌, refl, sym, ap, subst, ◌∙◌}
use mathlib.Core.Logic.{◌≢◌}
use mathlib.Core.Bool.{Bool, true, false}
use mathlib.Core.List.{List, [], ◌∷◌, ◌++◌}
use native.Mathlib.Omega.{arith}
use lib.Dec.{ltb, eqb}
use lib.ListN.{length, take, replicate, get_or}
use borrow.Author.Tests.{eq-eqb, ne_eqb, eqb-true, eqb-false, lt-ltb}
use Rattle.numbers.specs.declared.Refusal.{Refusal}
use Rattle.numbers.specs.Number.{pick, none, nowhere}
use Rattle.block.specs.declared.Block.{Block}
use Rattle.table.specs.Rows.{cleared_from}
use Rattle.grammar.specs.Course.{CourseTo, thing, over, stopped, Course, fit, things, ending}
use Rattle.grammar.specs.Numbered as numbered
use Rattle.decoder.specs.States.{State}
use Rattle.decoder.specs.Update.{rest_places, in_columns, blocks_of, delete_set}
use Rattle.leftover.specs.Leftover.{stretch, columns_at, columns_left, set_end, unread_of, lower, lowest, lowest_left}
use Rattle.cells.specs.Cells.{state_in}
use Rattle.ranges.specs.Ranges.{normal}
use Rattle.deletes.specs.DeleteSet.{taken, set_of, words_of as set_words}
use Rattle.reader.specs.Reader.{filled_of, rows_of as filled_rows, Stands}
use Rattle.updates.specs.declared.Update.{Update}
use Rattle.updates.specs.Promises.{Reading, refused, early, reading, answer, table_of, range_words}
use Rattle.updates.proofs.Laws.{Says, on-blocks, on-set, on-ranges}
use Rattle.agreement.specs.Numbered.{Stops}
use Rattle.agreement.proofs.Courses.{fit-stops}
use Rattle.agreement.proofs.Numbered.{blocks-numbered, deletes-numbered}
use Rattle.strict.specs.Promises.{flagged, beforehand, explained, strictly}

-- ---- what is refused first

module _ (form : ℕ) (u : List ℕ) where
  pub as-early : early form u ≢ 0 → early form u ≡ beforehand form u
  unfolding beforehand
  as-early h = rw (ne_eqb (early form u) 0 h) refl

  module _ (e : early form u ≡ 0) where
    pub no_flag : form ≡ 1 → 0 ≡ beforehand form u
    unfolding beforehand flagged
    no_flag f = rw (e, f) refl

    pub flag-zero : form ≢ 1 → get_or u 0 0 ≡ 0 → 0 ≡ beforehand form u
    unfolding beforehand flagged
    flag-zero f h = rw (e, ne_eqb form 1 f, h) refl

    pub no_bytes : form ≢ 1 → length u ≡ 0 → 0 ≡ beforehand form u
    no_bytes f l = flag-zero f (go u l)
      where
        go : (v : List ℕ) → length v ≡ 0 → get_or v 0 0 ≡ 0
        go [] h = refl
        go (x ∷ v) h = absurd (omega (arith, h))

    pub flag : form ≢ 1 → get_or u 0 0 ≢ 0 → 14 ≡ beforehand form u
    unfolding beforehand flagged
    flag f h = rw (e, ne_eqb form 1 f, lt-ltb 0 (get_or u 0 0) (omega (arith, h))) refl

  -- where nothing was refused first, nothing was early
  pub not-early : beforehand form u ≡ 0 → early form u ≡ 0
  unfolding beforehand
  not-early h = go (eqb (early form u) 0) refl h
    where
      go : (b : Bool) → eqb (early form u) 0 ≡ b → ◌≡◌ {A = ℕ} (pick b (pick (flagged form u) 14 0) (early form u)) 0 → early form u ≡ 0
      go true e h = eqb-true (early form u) 0 e
      go false e h = h

-- ---- how a run ends that rows took, told by an answer y: at t, or at none

module _ {Y : Type 0} (tell : ℕ → Y) (no : Refusal → Y) (y : Y) where
  module _ (t : ℕ) (told : (s : ℕ) → tell s ≡ y → s ≡ t) (not : (why : Refusal) → no why ≡ y → ⊥) where
    -- so ends the run itself
    ends_at : {E X : Type 0} (f : ℕ → X) (g : Refusal → X) (n : ℕ) (c : Course E) → ending (fit n c) tell no ≡ y → ending c f g ≡ f t
    unfolding fit ending
    ends_at f g zero (thing a p c) e = absurd (not _ e)
    ends_at f g (suc n) (thing a p c) e = ends_at f g n c e
    ends_at f g zero (over a s) e = ap f (told s e)
    ends_at f g (suc n) (over a s) e = ap f (told s e)
    ends_at f g zero (stopped why) e = absurd (not why e)
    ends_at f g (suc n) (stopped why) e = absurd (not why e)

    -- and the words stand at its state
    columns-at : {E : Type 0} (n : ℕ) (c : CourseTo State E (Unit {0})) (v : List ℕ) → ending (fit n (rest_places c)) tell no ≡ y → Stands (fit n c) v
        → ending c columns_at (λ why. []) ≡ columns_at (state_in v)
    unfolding fit ending rest_places Stands columns_at
    columns-at zero (thing a p c) v e h = absurd (not _ e)
    columns-at (suc n) (thing a p c) v e h = columns-at n c v e h
    columns-at zero (over a s) v e h = ap columns_at h
    columns-at (suc n) (over a s) v e h = ap columns_at h
    columns-at zero (stopped why) v e h = absurd (not why e)
    columns-at (suc n) (stopped why) v e h = absurd (not why e)

  -- a refusal has a number
  refused-by : {E : Type 0} (why : Refusal) → ((s : ℕ) → tell s ≡ y → ⊥) → ((w : Refusal) → no w ≡ y → w ≡ why) → (c : Course E) → Stops c → ending c tell no ≡ y
      → why.number ≢ 0
  unfolding ending numbered.Stops
  refused-by why never says (thing a p c) h e = refused-by why never says c h e
  refused-by why never says (over a s) h e = absurd (never s e)
  refused-by why never says (stopped w) h e = λ z. omega (arith, h.0, ap (λ (x : Refusal). x.number) (says w e), z)

-- so many, and a place
abbrev counted : ℕ → ℕ → Result (ℕ × ℕ) Refusal
counted m s = Ok (m, s)

its-place : {a b c d : ℕ} → counted a b ≡ counted c d → b ≡ d
its-place {a} {b} {c} {d} z = let q : ◌≡◌ {A = ℕ × ℕ} (a, b) (c, d) = cc in ap (λ (p : ℕ × ℕ). p.1) q

-- ---- the ways out, of n rows and of m words

module _ (form : ℕ) (u : List ℕ) (rows : List Block) (words : List ℕ) where
  abbrev N : ℕ
  N = length rows

  abbrev M : ℕ
  M = length words

  abbrev today : Reading
  today = reading form u N (M / 3)

  abbrev here : Reading
  here = strictly form u N (M / 3)

  abbrev Left : Update → List Block → List ℕ → Type 0
  Left r rows₁ words₁ = Says here N M r rows₁ words₁

  says-by : (v : Reading) (r : Update) (rows₁ : List Block) (words₁ : List ℕ) → here ≡ v → Says v N M r rows₁ words₁ → Left r rows₁ words₁
  says-by v r rows₁ words₁ h s = subst (λ (x : Reading). Says x N M r rows₁ words₁) (sym h) s

  -- before anything is read
  pub on-first : eqb (beforehand form u) 0 ≡ false
      → Left (answer (refused (nowhere (beforehand form u)))) (table_of N (refused (nowhere (beforehand form u)))) (range_words M (refused (nowhere (beforehand form u))))
  unfolding strictly
  on-first y = says-by (refused (nowhere (beforehand form u))) _ _ _ (rw y refl) (refl, refl, refl)

  module _ (y : beforehand form u ≡ 0) where
    early-none : eqb (early form u) 0 ≡ true
    early-none = eq-eqb (early form u) 0 (not-early form u y)

    on : here ≡ explained form u today
    unfolding strictly
    on = rw y refl

    -- what today's reading refuses
    as-today : (why : Refusal) (rows₁ : List Block) (words₁ : List ℕ) → why.number ≢ 0 → Says today N M (answer (refused why)) rows₁ words₁
        → Left (answer (refused why)) rows₁ words₁
    unfolding explained answer
    as-today why rows₁ words₁ some h = says-by today _ _ _ (on ∙ rw (ne_eqb today.refusal.number 0 (λ z. some (ap (λ (x : Update). x.refusal.number) h.0 ∙ z))) refl) h

    pub blocks-out : (why : Refusal) → filled_of N (blocks_of form u) ≡ Err why
        → Left (answer (refused why)) (filled_rows N (blocks_of form u)) (take 0 words ++ replicate (M - 0) 0)
    unfolding filled_of
    blocks-out why e =
        as-today why _ _
        (refused-by _ _ (Err why) why (λ s q. let z : ◌≡◌ {A = ℕ} 0 1 = cc in omega arith) (λ w q. cc) (fit N (blocks_of form u)) (fit-stops N (blocks_of form u) (blocks-numbered u form)) e)
        (on-blocks form u rows words early-none why e)

    module _ (n at : ℕ) (e : filled_of N (blocks_of form u) ≡ Ok (n, at)) where
      pub set_out : (why : Refusal) → set_of form u at M ≡ Err why → length (filled_rows N (blocks_of form u)) ≡ N
          → Left (answer (refused why)) (cleared_from 0 (filled_rows N (blocks_of form u))) (set_words form u at M)
      unfolding set_of taken
      set_out why q size =
          as-today why _ _
          (refused-by _ _ (Err why) why (λ s z. let z : ◌≡◌ {A = ℕ} 0 1 = cc in omega arith) (λ w z. cc) (fit (M / 3) (delete_set form u at)) (fit-stops (M / 3) (delete_set form u at) (deletes-numbered form u at)) q)
          (on-set form u rows words early-none n at e why q size)

      module _ (k t : ℕ) (q : set_of form u at M ≡ Ok (k, t)) (v : List ℕ) (stands : form ≢ 1 → Stands (fit N (in_columns u)) v) where
        -- what the words say is left
        abbrev low : ℕ
        low = lowest (lower (length u) (stretch t (length u))) (pick (eqb form 1) [] (columns_at (state_in v)))

        set-end : set_end form u ≡ t
        unfolding set_end filled_of set_of taken
        set-end =
            ends_at (counted (length (things (fit N (blocks_of form u))))) Err (counted n at) at (λ s z. its-place z) (λ why z. let z : ◌≡◌ {A = ℕ} 0 1 = cc in omega arith) (λ s. ending (delete_set form u s) (λ end. end) (λ why. length u)) (λ why. length u) N (blocks_of form u) e
            ∙ ends_at (counted (length (normal (things (taken form u at M))))) Err (counted k t) t (λ s z. its-place z) (λ why z. let z : ◌≡◌ {A = ℕ} 0 1 = cc in omega arith) (λ end. end) (λ why. length u) (M / 3) (delete_set form u at) q

        columns-left : columns_left form u ≡ pick (eqb form 1) [] (columns_at (state_in v))
        unfolding columns_left filled_of blocks_of
        columns-left = go (eqb form 1) refl e
          where
            go : (b : Bool) → eqb form 1 ≡ b → filled_of N (blocks_of form u) ≡ Ok (n, at)
                → pick b [] (ending (in_columns u) columns_at (λ why. [])) ≡ pick b [] (columns_at (state_in v))
            go true f e = refl
            go false f e =
                columns-at (counted (length (things (fit N (rest_places (in_columns u)))))) Err (counted n at) at (λ s z. its-place z) (λ why z. let z : ◌≡◌ {A = ℕ} 0 1 = cc in omega arith) N (in_columns u) v (rw f at e)
                (stands (eqb-false form 1 f))

        same : lowest_left form u ≡ low
        unfolding lowest_left lowest unread_of
        same = rw (set-end, columns-left) refl

        read : today.refusal.number ≡ 0
        unfolding answer
        read = sym (ap (λ (x : Update). x.refusal.number) (on-ranges form u rows words early-none n at e k t q).0)

        pub left_out : ltb low (length u) ≡ true → (i j : ℕ) → i ≡ N → j ≡ M
            → Left (answer (refused (record { number = 15; place = low }))) (table_of i (refused (record { number = 15; place = low })))
            (range_words j (refused (record { number = 15; place = low })))
        unfolding explained
        left_out l i j size size' =
            let why : Refusal = record { number = 15; place = low } in
            says-by (refused why) _ _ _ (on ∙ rw (read, same, l) refl)
            (refl, ap (λ (k : ℕ). table_of k (refused why)) size, ap (λ (k : ℕ). range_words k (refused why)) size')

        pub done : ltb low (length u) ≡ false → Left (record { refusal = none; blocks = n; ranges = k }) (filled_rows N (blocks_of form u)) (set_words form u at M)
        unfolding explained
        done l = says-by today _ _ _ (on ∙ rw (read, same, l) refl) (on-ranges form u rows words early-none n at e k t q)
