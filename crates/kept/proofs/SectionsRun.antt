-- Planning goes through the rows of one client, and what it then knows of them.
use Prim.Native.Nat.{ℕ, suc, ◌+◌, ◌-◌, ◌≤◌, ◌<◌}
use mathlib.Core.Path.{◌≡◌, refl, sym, ap, ap₂, ◌∙◌}
use mathlib.Core.Bool.{Bool, true, false}
use mathlib.Core.List.{List, [], ◌∷◌, ◌++◌}
use native.Mathlib.Omega.{arith}
use lib.Dec.{ltb, eqb}
use lib.ListN.{length}
use borrow.Author.Tests.{lt-ltb, eq-eqb, ne_eqb}
use Rattle.numbers.specs.Number.{pick}
use Rattle.block.specs.declared.Block.{Block}
use Rattle.block.specs.Kinds.{is_format}
use Rattle.vector.specs.Vector.{Entry}
use Rattle.readings.specs.Sound.{All}
use Rattle.parts.specs.Brim.{brim}
use Rattle.kept.specs.declared.plan.Planning.{Planning}
use Rattle.kept.specs.Kept.{falls}
use Rattle.kept.specs.Cut.{broken}
use Rattle.kept.specs.Plan.{Planned, begun, cut_in, cuts, skip_for, formats_with, first_piece, one_piece_more, grown, continues, plan_step, plan_words, plan_all, plan_all_words}

-- ---- rows of a client that is under way

unfoldable pub run : List ℕ → Planning → ℕ → List Block → Planning
run u s i [] = s
run u s i (b ∷ bs) = run u (grown u s i b) (i + 1) bs

-- all of them, with the plan's words
pub record Same (u : List ℕ) (v : List Entry) (w w' : List ℕ) (s s' : Planning) (i i' : ℕ) (bs bs' : List Block) : Type 0 where
  pub state : plan_all u v w s i bs ≡ plan_all u v w' s' i' bs'
  pub words : plan_all_words u v w s i bs ≡ plan_all_words u v w' s' i' bs'

abbrev pub Under : ℕ → Planning → Type 0
Under c s = (s.going ≡ true) × (s.client ≡ c)

pub grown-under : (u : List ℕ) (c : ℕ) (s : Planning) (i : ℕ) (b : Block) → Under c s → Under c (grown u s i b)
unfolding grown
grown-under u c s i b h = go (eqb s.count 0)
  where
    falls-or : (t : Bool) → Under c (pick t s (first_piece u s i b))
    falls-or true = h
    falls-or false = (refl, h.1)

    counts : (t : Bool) → Under c (pick t (one_piece_more s b) s)
    counts true = (refl, h.1)
    counts false = h

    go : (t : Bool) → Under c (pick t (pick (falls s.remote b) s (first_piece u s i b)) (pick (ltb s.count brim) (one_piece_more s b) s))
    go true = falls-or (falls s.remote b)
    go false = counts (ltb s.count brim)

continues-same : (s : Planning) (b : Block) → Under b.client s → continues s b ≡ true
unfolding continues
continues-same s b h = rw h.0 (eq-eqb s.client b.client h.1)

-- a step, where it is known what it does with words and state
pub one-step : (u : List ℕ) (v : List Entry) (w w' : List ℕ) (s s' : Planning) (i : ℕ) (b : Block) (bs : List Block) → plan_words w s b ≡ w'
    → plan_step u v w s i b ≡ s' → Same u v w w' s s' i (i + 1) (b ∷ bs) bs
unfolding plan_all plan_all_words
one-step u v w w' s s' i b bs p q =
    record {
      state = ap₂ (λ (w : List ℕ) (s : Planning). plan_all u v w s (i + 1) bs) p q;
      words = ap₂ (λ (w : List ℕ) (s : Planning). plan_all_words u v w s (i + 1) bs) p q;
    }

module _ (u : List ℕ) (v : List Entry) (w : List ℕ) (s : Planning) (i : ℕ) (b : Block) where
  same-words : continues s b ≡ true → plan_words w s b ≡ w
  unfolding plan_words
  same-words e = rw e

  same-state : continues s b ≡ true → plan_step u v w s i b ≡ grown u s i b
  unfolding plan_step
  same-state e = rw e

pub run-same : (u : List ℕ) (v : List Entry) (w : List ℕ) (c : ℕ) (s : Planning) (i : ℕ) (g rest : List Block) → Under c s → All (λ (b : Block). b.client ≡ c) g
    → Same u v w w s (run u s i g) i (i + length g) (g ++ rest) rest
unfolding run
run-same u v w c s i [] rest h all =
    record { state = ap (λ (j : ℕ). plan_all u v w s j rest) none; words = ap (λ (j : ℕ). plan_all_words u v w s j rest) none }
  where
    none : i ≡ i + 0
    none = omega arith
run-same u v w c s i (b ∷ g) rest h all =
    let e : continues s b ≡ true = continues-same s b (h.0, h.1 ∙ sym all.0) in
    let one = one-step u v w w s (grown u s i b) i b (g ++ rest) (same-words u v w s i b e) (same-state u v w s i b e) in
    let on = run-same u v w c (grown u s i b) (i + 1) g rest (grown-under u c s i b h) all.1 in
    record {
      state = one.state ∙ on.state ∙ ap (λ (j : ℕ). plan_all u v w (run u (grown u s i b) (i + 1) g) j rest) next;
      words = one.words ∙ on.words ∙ ap (λ (j : ℕ). plan_all_words u v w (run u (grown u s i b) (i + 1) g) j rest) next;
    }
  where
    next : i + 1 + length g ≡ i + suc (length g)
    next = omega arith

-- ---- what is then known

abbrev pub state_of : ℕ → Bool → Bool → ℕ → ℕ → ℕ → ℕ → ℕ → ℕ → Planning
state_of n torn formats client remote first count from skip =
    record {
      sections = n;
      torn = torn;
      formats = formats;
      going = true;
      client = client;
      remote = remote;
      first = first;
      count = count;
      from = record { 0 = from };
      skip = record { 0 = skip };
    }

unfoldable pub torn_at : List ℕ → Block → ℕ → Bool
torn_at u b n = pick (cuts b n) (broken (cut_in u b n)) false

-- the section of a client's rows from row i on, if any are kept: from the first that does not fall
abbrev pub planned_at : List ℕ → ℕ → ℕ → ℕ → Block → List Block → Planned
planned_at u c k i b later = record { client = c; first = i; count = suc (length later); from = k - b.clock; skip = skip_for u b (k - b.clock) }

unfoldable pub plan_one : List ℕ → ℕ → ℕ → ℕ → List Block → List Planned
plan_one u c k i [] = []
plan_one u c k i (b ∷ bs) = pick (falls k b) (plan_one u c k (i + 1) bs) (planned_at u c k i b bs ∷ [])

unfoldable pub torn_one : List ℕ → ℕ → List Block → Bool
torn_one u k [] = false
torn_one u k (b ∷ bs) = pick (falls k b) (torn_one u k bs) (torn_at u b (k - b.clock))

abbrev pub or : Bool → Bool → Bool
or a b = pick a true b

pub or-none : (a : Bool) → or a false ≡ a
or-none true = refl
or-none false = refl

-- the first two in either order
pub or_swap : (a b c : Bool) → or a (or b c) ≡ or b (or a c)
or_swap true true c = refl
or_swap true false c = refl
or_swap false true c = refl
or_swap false false c = refl

-- a format among rows, and among those of them that are kept
unfoldable pub format_rows : List Block → Bool
format_rows [] = false
format_rows (b ∷ bs) = or (is_format b.kind) (format_rows bs)

unfoldable pub format_one : ℕ → List Block → Bool
format_one k [] = false
format_one k (b ∷ bs) = pick (falls k b) (format_one k bs) (format_rows (b ∷ bs))

rows-after : (formats : Bool) (b : Block) (bs : List Block) → or (formats_with formats b) (format_rows bs) ≡ or formats (format_rows (b ∷ bs))
unfolding format_rows
rows-after formats b bs = go formats (is_format b.kind) (format_rows bs)
  where
    go : (f x y : Bool) → or (or x f) y ≡ or f (or x y)
    go true true y = refl
    go true false y = refl
    go false true y = refl
    go false false y = refl

abbrev pub done_of : ℕ → Bool → Bool → ℕ → ℕ → List Planned → Planning
done_of n torn formats c k [] = begun n torn formats c k
done_of n torn formats c k (p ∷ ps) = state_of n torn formats c k p.first p.count p.from p.skip

module _ (u : List ℕ) (n c k : ℕ) where
  -- rows are counted, and formats among them seen
  run-counts : (torn formats : Bool) (first count from skip i : ℕ) (bs : List Block) → 0 < count → count + length bs ≤ brim
      → run u (state_of n torn formats c k first count from skip) i bs
      ≡ state_of n torn (or formats (format_rows bs)) c k first (count + length bs) from skip
  unfolding run grown format_rows
  run-counts torn formats first count from skip i [] pos l =
      ap₂ (λ (f : Bool) (m : ℕ). state_of n torn f c k first m from skip) (sym (or-none formats)) none
    where
      none : count ≡ count + 0
      none = omega arith
  run-counts torn formats first count from skip i (b ∷ bs) pos l =
      rw (ne_eqb count 0 (λ e. omega arith), lt-ltb count brim (omega arith))
      (run-counts torn (formats_with formats b) first (count + 1) from skip (i + 1) bs (omega arith) (omega arith)
      ∙ ap₂ (λ (f : Bool) (m : ℕ). state_of n torn f c k first m from skip) (rows-after formats b bs) next)
    where
      next : count + 1 + length bs ≡ count + suc (length bs)
      next = omega arith

  -- the first piece's row
  first-state : (torn formats : Bool) (i : ℕ) (b : Block)
      → first_piece u (begun n torn formats c k) i b
      ≡ state_of n (or torn (torn_at u b (k - b.clock))) (formats_with formats b) c k i 1 (k - b.clock) (skip_for u b (k - b.clock))
  unfolding torn_at
  first-state torn formats i b =
      ap (λ (t : Bool). state_of n t (formats_with formats b) c k i 1 (k - b.clock) (skip_for u b (k - b.clock)))
      (go torn (cuts b (k - b.clock)) (broken (cut_in u b (k - b.clock))))
    where
      go : (torn x y : Bool) → pick x (pick y true torn) torn ≡ pick torn true (pick x y false)
      go true true true = refl
      go true true false = refl
      go true false true = refl
      go true false false = refl
      go false true true = refl
      go false true false = refl
      go false false true = refl
      go false false false = refl

  pub run-done : (torn formats : Bool) (i : ℕ) (g : List Block) → length g ≤ brim
      → run u (begun n torn formats c k) i g ≡ done_of n (or torn (torn_one u k g)) (or formats (format_one k g)) c k (plan_one u c k i g)
  unfolding run grown torn_one format_one plan_one
  run-done torn formats i [] l = ap₂ (λ (t f : Bool). begun n t f c k) (sym (or-none torn)) (sym (or-none formats))
  run-done torn formats i (b ∷ g) l = go (run-done torn formats (i + 1) g (omega arith)) (falls k b)
    where
      go : run u (begun n torn formats c k) (i + 1) g
          ≡ done_of n (or torn (torn_one u k g)) (or formats (format_one k g)) c k (plan_one u c k (i + 1) g) → (t : Bool)
          → run u (pick t (begun n torn formats c k) (first_piece u (begun n torn formats c k) i b)) (i + 1) g
          ≡ done_of n (or torn (pick t (torn_one u k g) (torn_at u b (k - b.clock)))) (or formats (pick t (format_one k g) (format_rows (b ∷ g)))) c k
          (pick t (plan_one u c k (i + 1) g) (planned_at u c k i b g ∷ []))
      go on true = on
      go on false =
          let m = k - b.clock in
          ap (λ (s : Planning). run u s (i + 1) g) (first-state torn formats i b)
          ∙ run-counts (or torn (torn_at u b m)) (formats_with formats b) i 1 m (skip_for u b m) (i + 1) g (omega arith) (omega arith)
          ∙ ap₂ (λ (f : Bool) (x : ℕ). state_of n (or torn (torn_at u b m)) f c k i x m (skip_for u b m)) (rows-after formats b g) next
        where
          next : 1 + length g ≡ suc (length g)
          next = omega arith
