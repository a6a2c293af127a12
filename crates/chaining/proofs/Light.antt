-- A row by number that hangs only on what is not met comes to the same at a look as one that hangs on all.
use Prim.Native.Nat.{ℕ, zero, suc, ◌+◌, ◌-◌, ◌≤◌}
use mathlib.Core.Path.{◌≡◌, refl, sym, ap, subst, ◌∙◌}
use mathlib.Core.Logic.{◌⊎◌, inl, inr}
use mathlib.Core.Bool.{Bool, true, false}
use mathlib.Core.List.{List, [], ◌∷◌}
use native.Mathlib.Omega.{arith}
use lib.Dec.{ltb, eqb}
use lib.ListN.{length, get_or, drop}
use borrow.Author.Tests.{le-ltb, ltb-false, ne_eqb}
use Rattle.numbers.specs.Number.{pick}
use Rattle.numbers.specs.Limits.{max_clock}
use Rattle.block.specs.declared.Block.{Block}
use Rattle.block.specs.Row.{no_block, no_id}
use Rattle.slots.specs.Slots.{Slot}
use Rattle.picker.specs.declared.fronts.Front.{Front}
use Rattle.picker.specs.declared.stages.Dependency.{Dependency}
use Rattle.picker.specs.Waits.{no_dependency}
use Rattle.picker.specs.Rule28.{other, stages28}
use Rattle.picker.specs.Stages.{stages, stage_at}
use Rattle.picker.specs.Fronts.{front_at}
use Rattle.picker.specs.Picker.{is_met, holds, awaiting, looked_from, looked, lift, lifted, Desk, took, offered}
use Rattle.placing.specs.declared.Span.{Span}
use Rattle.placing.specs.Placing.{is_held, is_asked, span_of, capped, sought, number_at, held_by, on_number, placed_dep, numbered_block, row_by}
use Rattle.chaining.specs.Chaining.{id_of, unmet_word, settled, on_word, light_block, waits_for, looked_by}

-- ---- a look at dependencies that hold alike

module _ (ss : List Slot) (reach : List ℕ) where
  record Alike (a b : Dependency) : Type 0 where
    same : holds ss reach a ≡ holds ss reach b
    on : holds ss reach b ≡ true → a.id ≡ b.id

  AllAlike : List Dependency → List Dependency → Type 0
  AllAlike [] [] = Unit {0}
  AllAlike [] (b ∷ ys) = ⊥
  AllAlike (a ∷ xs) [] = ⊥
  AllAlike (a ∷ xs) (b ∷ ys) = Alike a b × AllAlike xs ys

  drop-alike : (n : ℕ) (xs ys : List Dependency) → AllAlike xs ys → AllAlike (drop n xs) (drop n ys)
  unfolding AllAlike
  drop-alike zero xs ys h = h
  drop-alike (suc n) [] [] h = tt
  drop-alike (suc n) [] (b ∷ ys) h = absurd h
  drop-alike (suc n) (a ∷ xs) [] h = absurd h
  drop-alike (suc n) (a ∷ xs) (b ∷ ys) h = drop-alike n xs ys h.1

  looked-alike : (f : Front) (k : ℕ) (xs ys : List Dependency) → AllAlike xs ys → looked_from ss reach f k xs ≡ looked_from ss reach f k ys
  unfolding looked_from AllAlike
  looked-alike f k [] [] h = refl
  looked-alike f k [] (b ∷ ys) h = absurd h
  looked-alike f k (a ∷ xs) [] h = absurd h
  looked-alike f k (a ∷ xs) (b ∷ ys) h = go (holds ss reach b) refl (looked-alike f (suc k) xs ys h.1)
    where
      go : (x : Bool) → holds ss reach b ≡ x → looked_from ss reach f (suc k) xs ≡ looked_from ss reach f (suc k) ys
          → pick (holds ss reach a) (awaiting ss f (suc k) a.id) (looked_from ss reach f (suc k) xs)
          ≡ pick (holds ss reach b) (awaiting ss f (suc k) b.id) (looked_from ss reach f (suc k) ys)
      go true e rec = rw (h.0.same, e) (ap (awaiting ss f (suc k)) (h.0.on e))
      go false e rec = rw (h.0.same, e) rec

  -- ---- one dependency, or none in place of one that holds nothing

  abbrev Lighter : Dependency → Dependency → Type 0
  Lighter x y = (x ≡ y) ⊎ ((x ≡ no_dependency) × (holds ss reach y ≡ false))

  abbrev of : ℕ → Dependency → Dependency
  of c x = other c x.there x.id

  none-holds : (c : ℕ) → holds ss reach (of c no_dependency) ≡ false
  unfolding holds other
  none-holds c = go (eqb 0 c)
    where
      go : (x : Bool) → pick (pick x false false) (pick (is_met ss reach no_id) false true) false ≡ false
      go true = refl
      go false = refl

  other-holds : (c : ℕ) (y : Dependency) → holds ss reach y ≡ false → holds ss reach (of c y) ≡ false
  unfolding holds other
  other-holds c y e = go (eqb y.id.client c)
    where
      go : (x : Bool) → pick (pick x false y.there) (pick (is_met ss reach y.id) false true) false ≡ false
      go true = refl
      go false = e

  other-alike : (c : ℕ) (x y : Dependency) → Lighter x y → Alike (of c x) (of c y)
  other-alike c x y (inl e) = subst (λ (z : Dependency). Alike (of c x) (of c z)) e (record { same = refl; on = λ h. refl })
  other-alike c x y (inr h) =
      let a : holds ss reach (of c x) ≡ false = ap (λ (z : Dependency). holds ss reach (of c z)) h.0 ∙ none-holds c in
      let b : holds ss reach (of c y) ≡ false = other-holds c y h.1 in
      record { same = a ∙ sym b; on = λ t. absurd (off (holds ss reach (of c y)) t b) }
    where
      off : (x : Bool) → x ≡ true → x ≡ false → ⊥
      off true e f = let z : ◌≡◌ {A = ℕ} 0 1 = cc in omega arith
      off false e f = let z : ◌≡◌ {A = ℕ} 0 1 = cc in omega arith

  -- ---- a block by number

  module _ (i : ℕ) (b : Block) where
    stages-are : (l r p : Dependency) → stages 28 (numbered_block ss i b l r p) ≡ of b.client l ∷ (of b.client r ∷ (of b.client p ∷ []))
    unfolding stages stages28 numbered_block
    stages-are l r p = refl

    module _ (l l' r r' p p' : Dependency) (left : Lighter l l') (right : Lighter r r') (parent : Lighter p p') where
      alike : AllAlike (stages 28 (numbered_block ss i b l r p)) (stages 28 (numbered_block ss i b l' r' p'))
      unfolding AllAlike
      alike = rw (stages-are l r p, stages-are l' r' p')
          (other-alike b.client l l' left, (other-alike b.client r r' right, (other-alike b.client p p' parent, tt)))

      looks-same : (f : Front) → looked 28 ss reach f (numbered_block ss i b l r p) ≡ looked 28 ss reach f (numbered_block ss i b l' r' p')
      unfolding looked
      looks-same f = looked-alike f f.stage _ _ (drop-alike f.stage _ _ alike)

-- ---- what a word says

held_low : (rows : List Block) (s : Span) (k : ℕ) → held_by rows s k ≤ max_clock
unfolding held_by number_at capped
held_low rows s k = go (ltb (sought rows s k) (length rows)) (ltb (sought rows s k) s.hi) (eqb (get_or rows (sought rows s k) no_block).kind 2)
    (ltb k (get_or rows (sought rows s k) no_block).clock) (ltb max_clock (sought rows s k - s.lo)) refl
  where
    go : (x y z u v : Bool) → ltb max_clock (sought rows s k - s.lo) ≡ v
        → pick x (pick y (pick z max_clock (pick u max_clock (pick v max_clock (sought rows s k - s.lo)))) max_clock) max_clock ≤ max_clock
    go false y z u v e = omega arith
    go true false z u v e = omega arith
    go true true true u v e = omega arith
    go true true false true v e = omega arith
    go true true false false true e = omega arith
    go true true false false false e = ltb-false max_clock (sought rows s k - s.lo) e

on-number : (c c' n : ℕ) → c ≡ c' → n ≤ max_clock → on_word c (n + 1) ≡ on_number c' n
unfolding on_word capped
on-number c c' n e l =
    let m : (n + 1) - 1 ≡ n = omega arith in
    rw (ne_eqb (n + 1) 0 (λ z. omega arith), m, le-ltb max_clock n l) (ap (λ (x : ℕ). on_number x n) e)

on-nothing : (c : ℕ) → on_word c 0 ≡ no_dependency
unfolding on_word
on-nothing c = refl

module _ (w : List ℕ) (h : ℕ) (ss : List Slot) (rows : List Block) (reach : List ℕ) where
  module _ (a : Dependency) (c : ℕ) (of-it : a.there ≡ true → c ≡ a.id.client) where
    abbrev n : ℕ
    n = held_by rows (span_of ss a.id.client) a.id.clock

    settled-by : (x y z : Bool) → a.there ≡ x → is_held w h a.id ≡ y → is_met ss reach (id_of a.id.client n) ≡ z
        → waits_for w h ss rows reach a ≡ pick x (pick y 0 (pick z 0 (n + 1))) 0
    unfolding settled unmet_word
    settled-by x y z e f g = rw (e, f, g) refl

    placed_by : (x y : Bool) → a.there ≡ x → is_held w h a.id ≡ y
        → placed_dep w h ss rows a ≡ pick (pick x (pick y false true) false) (on_number a.id.client n) no_dependency
    unfolding placed_dep is_asked
    placed_by x y e f = rw (e, f) refl

    met_holds : is_met ss reach (id_of a.id.client n) ≡ true → holds ss reach (on_number a.id.client n) ≡ false
    unfolding holds
    met_holds e = rw e refl

    word-lighter : Lighter ss reach (on_word c (waits_for w h ss rows reach a)) (placed_dep w h ss rows a)
    word-lighter = go a.there refl (is_held w h a.id) refl (is_met ss reach (id_of a.id.client n)) refl
      where
        go : (x : Bool) → a.there ≡ x → (y : Bool) → is_held w h a.id ≡ y → (z : Bool) → is_met ss reach (id_of a.id.client n) ≡ z
            → Lighter ss reach (on_word c (waits_for w h ss rows reach a)) (placed_dep w h ss rows a)
        go false e y f z g = inl (ap (on_word c) (settled-by false y z e f g) ∙ on-nothing c ∙ sym (placed_by false y e f))
        go true e true f z g = inl (ap (on_word c) (settled-by true true z e f g) ∙ on-nothing c ∙ sym (placed_by true true e f))
        go true e false f true g =
            inr (ap (on_word c) (settled-by true false true e f g) ∙ on-nothing c, ap (holds ss reach) (placed_by true false e f) ∙ met_holds g)
        go true e false f false g =
            inl (ap (on_word c) (settled-by true false false e f g)
            ∙ on-number c a.id.client n (of-it e) (held_low rows (span_of ss a.id.client) a.id.clock) ∙ sym (placed_by true false e f))

  -- ---- a look

  module _ (b : Block) where
    off : (x : Bool) → x ≡ false → x ≡ true → ⊥
    off x e f = let z : ◌≡◌ {A = ℕ} 0 1 = cc in omega arith

    left-of : (stage_at 28 b 0).there ≡ true → b.left_client ≡ (stage_at 28 b 0).id.client
    unfolding stage_at stages stages28 other
    left-of = go (eqb b.kind 2)
      where
        go : (x : Bool) → (get_or (pick x [] (stages28 b)) 0 no_dependency).there ≡ true → b.left_client ≡ (get_or (pick x [] (stages28 b)) 0 no_dependency).id.client
        go true e = absurd (off false refl e)
        go false e = refl

    right_of : (stage_at 28 b 1).there ≡ true → b.right_client ≡ (stage_at 28 b 1).id.client
    unfolding stage_at stages stages28 other
    right_of = go (eqb b.kind 2)
      where
        go : (x : Bool) → (get_or (pick x [] (stages28 b)) 1 no_dependency).there ≡ true → b.right_client ≡ (get_or (pick x [] (stages28 b)) 1 no_dependency).id.client
        go true e = absurd (off false refl e)
        go false e = refl

    parent_of : (stage_at 28 b 2).there ≡ true → b.parent_client ≡ (stage_at 28 b 2).id.client
    unfolding stage_at stages stages28 other
    parent_of = go (eqb b.kind 2)
      where
        go : (x : Bool) → (get_or (pick x [] (stages28 b)) 2 no_dependency).there ≡ true → b.parent_client ≡ (get_or (pick x [] (stages28 b)) 2 no_dependency).id.client
        go true e = absurd (off false refl e)
        go false e = refl

    looks-by : (i : ℕ) (f : Front) → looked 28 ss reach f (looked_by w h ss rows reach i b) ≡ looked 28 ss reach f (row_by w h ss rows i b)
    unfolding looked_by light_block row_by
    looks-by i f = looks-same ss reach i b _ _ _ _ _ _ (word-lighter (stage_at 28 b 0) b.left_client left-of)
        (word-lighter (stage_at 28 b 1) b.right_client right_of) (word-lighter (stage_at 28 b 2) b.parent_client parent_of) f

    lift-by : (i p : ℕ) (v : List ℕ) → lift v p (looked_by w h ss rows reach i b) ≡ lift v p (row_by w h ss rows i b)
    unfolding lift lifted looked_by light_block row_by numbered_block
    lift-by i p v = refl

module _ (w : List ℕ) (h : ℕ) (ss : List Slot) (rows : List Block) (d : Desk) (i : ℕ) (b : Block) where
  abbrev light : Block
  light = looked_by w h ss rows d.reach i b

  took-same : took ss d light ≡ took ss d (row_by w h ss rows i b)
  unfolding took
  took-same = rw (lift-by w h ss rows d.reach b i d.at.slot d.reach) refl

  pub offered-same : offered 28 ss d light ≡ offered 28 ss d (row_by w h ss rows i b)
  unfolding offered
  offered-same = rw (looks-by w h ss rows d.reach b i (front_at d.fronts d.at.slot), took-same) refl
