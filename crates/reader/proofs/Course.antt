-- The reader's laws, with no machine: what a step makes of what is known of the rows, and what the rows are at each way out. Assumes nothing.
use Rattle.std.specs.Prelude.{Result, Ok, Err}
use mathlib.Core.Path.{◌≡◌, refl, sym, subst, ◌∙◌, ap}
use Prim.Native.Nat.{ℕ, zero, suc, ◌+◌, ◌-◌, ◌<◌, ◌≤◌}
use native.Mathlib.Omega.{arith}
use native.Mathlib.Numerals.{add-one}
use mathlib.Core.List.{List, [], ◌∷◌, ◌++◌, append_assoc, append-nil}
use lib.ListN.{length, set, take, replicate}
use lib.Seq.{take-suc-set, length-take-le}
use Rattle.numbers.specs.declared.Refusal.{Refusal}
use Rattle.block.specs.declared.Block.{Block}
use Rattle.block.specs.Row.{no_block}
use Rattle.table.specs.Rows.{cleared_from, filled_from}
use Rattle.grammar.specs.Course.{CourseTo, Course, thing, over, stopped, fit, things, ending}
use Rattle.decoder.specs.States.{State, moved_to}
use Rattle.cells.specs.Cells.{state_in}
use Rattle.reader.specs.Reader.{filled_of, rows_of, Stands}

-- ---- how a course ends, as a value
pub data Last : Type 0 where
  done : ℕ → Last
  refused : Refusal → Last

abbrev pub last : Course Block → Last
last c = ending c done refused

abbrev on_last : {X : Type 0} → Last → (ℕ → X) → (Refusal → X) → X
on_last (done s) d r = d s
on_last (refused why) d r = r why

ending-last : {X : Type 0} (c : Course Block) (d : ℕ → X) (r : Refusal → X) → ending c d r ≡ on_last (last c) d r
unfolding ending
ending-last (thing a p c) d r = ending-last c d r
ending-last (over a s) d r = refl
ending-last (stopped why) d r = refl

-- ---- so many rows: the blocks and the end, each known apart
module _ (N : ℕ) (c : Course Block) where
  filled-by : (bs : List Block) (l : Last) → things (fit N c) ≡ bs → last (fit N c) ≡ l → filled_of N c ≡ on_last l (λ s. Ok (length bs, s)) (λ why. Err why)
  unfolding filled_of
  filled-by bs l e h = ending-last (fit N c) (λ s. Ok (length (things (fit N c)), s)) (λ why. Err why) ∙ ap (λ (k : Last). on_last k (λ s. Ok (length (things (fit N c)), s)) (λ why. Err why)) h ∙ ap (λ (ws : List Block). on_last l (λ s. Ok (length ws, s)) (λ why. Err why)) e

  rows-by : (bs : List Block) (l : Last) → things (fit N c) ≡ bs → last (fit N c) ≡ l → rows_of N c ≡ on_last l (λ s. bs ++ replicate (N - length bs) no_block) (λ why. replicate N no_block)
  unfolding rows_of
  rows-by bs l e h =
      ending-last (fit N c) (λ s. things (fit N c) ++ replicate (N - length (things (fit N c))) no_block) (λ why. replicate N no_block)
      ∙ ap (λ (k : Last). on_last k (λ s. things (fit N c) ++ replicate (N - length (things (fit N c))) no_block) (λ why. replicate N no_block)) h
      ∙ ap (λ (ws : List Block). on_last l (λ s. ws ++ replicate (N - length ws) no_block) (λ why. replicate N no_block)) e

-- ---- one thing more
items_more : (k : ℕ) (b : Block) (p : ℕ) (c : Course Block) → things (fit (suc k) (thing b p c)) ≡ b ∷ things (fit k c)
unfolding fit things
items_more k b p c = refl

last_more : (k : ℕ) (b : Block) (p : ℕ) (c : Course Block) → last (fit (suc k) (thing b p c)) ≡ last (fit k c)
unfolding fit ending
last_more k b p c = refl

last-full : (b : Block) (p : ℕ) (c : Course Block) → last (fit 0 (thing b p c)) ≡ refused (record { number = 8; place = p })
unfolding fit ending
last-full b p c = refl

items-over : (k : ℕ) (a : Unit {0}) (s : ℕ) → ◌≡◌ {A = List Block} (things (fit k (over a s))) []
unfolding fit things
items-over zero a s = refl
items-over (suc k) a s = refl

last-over : (k : ℕ) (a : Unit {0}) (s : ℕ) → last (fit k (over a s)) ≡ done s
unfolding fit ending
last-over zero a s = refl
last-over (suc k) a s = refl

last-stopped : (k : ℕ) (why : Refusal) → last (fit k (stopped why)) ≡ refused why
unfolding fit ending
last-stopped zero why = refl
last-stopped (suc k) why = refl

-- ---- what is known where a turn begins, with n of N rows filled and c to come: they hold the first blocks of c₀, and c is the rest
abbrev pub Known : ℕ → Course Block → ℕ → List Block → Course Block → Type 0
Known N c₀ n rows c = (n ≤ N) × (things (fit N c₀) ≡ take n rows ++ things (fit (N - n) c)) × (last (fit N c₀) ≡ last (fit (N - n) c))

-- the contract at a way out
abbrev Ends : ℕ → Course Block → Result (ℕ × ℕ) Refusal → List Block → Type 0
Ends N c₀ r rows = (r ≡ filled_of N c₀) × (rows ≡ rows_of N c₀)

module _ (N : ℕ) (c₀ : Course Block) where
  pub at_first : (rows : List Block) (c : Course Block) → c₀ ≡ c → Known N c₀ 0 rows c
  at_first rows c e = (omega (arith), ap (λ (x : Course Block). things (fit N x)) e ∙ ap (λ (k : ℕ). things (fit k c)) all, ap (λ (x : Course Block). last (fit N x)) e ∙ ap (λ (k : ℕ). last (fit k c)) all)
    where
      all : N ≡ N - 0
      all = omega (arith)

  refuses : (rows : List Block) (why : Refusal) → length rows ≡ N → last (fit N c₀) ≡ refused why → Ends N c₀ (Err why) (cleared_from 0 rows)
  unfolding cleared_from filled_from
  refuses rows why size h = (sym (filled-by N c₀ (things (fit N c₀)) (refused why) refl h), ap (λ (k : ℕ). replicate k no_block) all ∙ sym (rows-by N c₀ (things (fit N c₀)) (refused why) refl h))
    where
      all : length rows - 0 ≡ N
      all = omega (arith, size)

  pub on_none : (rows : List Block) (why : Refusal) → length rows ≡ N → c₀ ≡ stopped why → Ends N c₀ (Err why) (cleared_from 0 rows)
  on_none rows why size e = refuses rows why size (ap (λ (x : Course Block). last (fit N x)) e ∙ last-stopped N why)

  module _ (n : ℕ) (rows : List Block) (c : Course Block) (known : Known N c₀ n rows c) where
    pub passed : (rest : Course Block) → c ≡ rest → Known N c₀ n rows rest
    passed rest e = (known.0, known.1 ∙ ap (λ (x : Course Block). take n rows ++ things (fit (N - n) x)) e, known.2 ∙ ap (λ (x : Course Block). last (fit (N - n) x)) e)

    module _ (size : length rows ≡ N) where
      pub kept : (b : Block) (p : ℕ) (rest : Course Block) → c ≡ thing b p rest → n < N → Known N c₀ (n + 1) (set rows n b) rest
      kept b p rest e l = (
        omega (arith, l),
        (passed (thing b p rest) e).1 ∙ ap (λ (k : ℕ). take n rows ++ things (fit k (thing b p rest))) less ∙ ap (λ (bs : List Block). take n rows ++ bs) (items_more (N - (n + 1)) b p rest) ∙ sym (append_assoc (take n rows) (b ∷ []) (things (fit (N - (n + 1)) rest)))
            ∙ ap (λ (bs : List Block). bs ++ things (fit (N - (n + 1)) rest)) (sym one_more),
        (passed (thing b p rest) e).2 ∙ ap (λ (k : ℕ). last (fit k (thing b p rest))) less ∙ last_more (N - (n + 1)) b p rest,
      )
        where
          less : N - n ≡ suc (N - (n + 1))
          less = omega (arith, l)

          one_more : take (n + 1) (set rows n b) ≡ take n rows ++ (b ∷ [])
          one_more = ap (λ (k : ℕ). take k (set rows n b)) (add-one n) ∙ take-suc-set rows n b (omega (arith, l, size))

      pub on-full : (b : Block) (p : ℕ) (rest : Course Block) → c ≡ thing b p rest → N ≤ n → Ends N c₀ (Err (record { number = 8; place = p })) (cleared_from 0 rows)
      on-full b p rest e l = refuses rows (record { number = 8; place = p }) size ((passed (thing b p rest) e).2 ∙ ap (λ (k : ℕ). last (fit k (thing b p rest))) none_left ∙ last-full b p rest)
        where
          none_left : N - n ≡ 0
          none_left = omega (arith, l)

      pub on-refusal : (why : Refusal) → c ≡ stopped why → Ends N c₀ (Err why) (cleared_from 0 rows)
      on-refusal why e = refuses rows why size ((passed (stopped why) e).2 ∙ last-stopped (N - n) why)

      pub on-end : (s : ℕ) → c ≡ over tt s → Ends N c₀ (Ok (n, s)) (cleared_from n rows)
      unfolding cleared_from filled_from
      on-end s e = (
        sym (filled-by N c₀ (take n rows) (done s) blocks end ∙ ap (λ (k : ℕ). Ok (k, s)) taken),
        ap (λ (k : ℕ). take n rows ++ replicate (k - n) no_block) size ∙ sym (rows-by N c₀ (take n rows) (done s) blocks end ∙ ap (λ (k : ℕ). take n rows ++ replicate (N - k) no_block) taken),
      )
        where
          blocks : things (fit N c₀) ≡ take n rows
          blocks = (passed (over tt s) e).1 ∙ ap (λ (bs : List Block). take n rows ++ bs) (items-over (N - n) tt s) ∙ append-nil (take n rows)

          end : last (fit N c₀) ≡ done s
          end = (passed (over tt s) e).2 ∙ last-over (N - n) tt s

          taken : length (take n rows) ≡ n
          taken = length-take-le n rows (omega (arith, known.0, size))

-- ---- where the words stand: with n of N rows filled and c to come, words that stand where c ends stand where all of it does

module _ (N : ℕ) (c₀ : CourseTo State Block (Unit {0})) where
  abbrev pub Onward : ℕ → CourseTo State Block (Unit {0}) → Type 0
  Onward n c = (v : List ℕ) → Stands (fit (N - n) c) v → Stands (fit N c₀) v

  pub onward-first : Onward 0 c₀
  onward-first v h = subst (λ (k : ℕ). Stands (fit k c₀) v) all h
    where
      all : N - 0 ≡ N
      all = omega (arith)

  stands-stopped : (k : ℕ) (why : Refusal) (v : List ℕ) → Stands {E = Block} {A = Unit {0}} (fit k (stopped why)) v
  unfolding fit Stands
  stands-stopped zero why v = tt
  stands-stopped (suc k) why v = tt

  pub stands-none : (why : Refusal) → c₀ ≡ stopped why → (v : List ℕ) → Stands (fit N c₀) v
  stands-none why e v = subst (λ (x : CourseTo State Block (Unit {0})). Stands (fit N x) v) (sym e) (stands-stopped N why v)

  module _ (n : ℕ) (c : CourseTo State Block (Unit {0})) (on : Onward n c) where
    pub onward-passed : (rest : CourseTo State Block (Unit {0})) → c ≡ rest → Onward n rest
    onward-passed rest e v h = on v (subst (λ (x : CourseTo State Block (Unit {0})). Stands (fit (N - n) x) v) (sym e) h)

    module _ (b : Block) (p : ℕ) (rest : CourseTo State Block (Unit {0})) (e : c ≡ thing b p rest) where
      pub onward-kept : n < N → Onward (n + 1) rest
      unfolding fit Stands
      onward-kept l v h = onward-passed (thing b p rest) e v (subst (λ (k : ℕ). Stands (fit k (thing b p rest)) v) less h)
        where
          less : suc (N - (n + 1)) ≡ N - n
          less = omega (arith, l)

      pub stands-full : N ≤ n → (v : List ℕ) → Stands (fit N c₀) v
      unfolding fit Stands
      stands-full l v = onward-passed (thing b p rest) e v (subst (λ (k : ℕ). Stands (fit k (thing b p rest)) v) none_left tt)
        where
          none_left : 0 ≡ N - n
          none_left = omega (arith, l)

    pub stands-refused : (why : Refusal) → c ≡ stopped why → (v : List ℕ) → Stands (fit N c₀) v
    stands-refused why e v = onward-passed (stopped why) e v (stands-stopped (N - n) why v)

    pub stands-end : (v : List ℕ) (at : ℕ) → c ≡ over tt (moved_to (state_in v) at) → Stands (fit N c₀) v
    unfolding fit Stands
    stands-end v at e = onward-passed (over tt (moved_to (state_in v) at)) e v (here (N - n))
      where
        here : (k : ℕ) → Stands {E = Block} {A = Unit {0}} (fit k (over tt (moved_to (state_in v) at))) v
        here zero = refl
        here (suc k) = refl
