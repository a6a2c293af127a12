-- A delete set's tokens, row by row: the groups of ranges have the same tokens, and as many clients as rows that are a client's first.
use Prim.Native.Nat.{ℕ, zero, suc, ◌+◌, ◌-◌, ◌≤◌, ◌<◌}
use mathlib.Core.Path.{◌≡◌, refl, sym, ap, ◌∙◌}
use mathlib.Core.Logic.{◌≢◌}
use mathlib.Core.Bool.{true, false}
use mathlib.Core.List.{List, [], ◌∷◌, ◌++◌}
use native.Mathlib.Numerals.{add-one}
use native.Mathlib.Omega.{arith}
use lib.Dec.{eqb}
use lib.ListN.{length}
use borrow.Author.Tests.{eq-eqb, ne_eqb}
use Rattle.numbers.specs.Number.{pick}
use Rattle.ranges.specs.Ranges.{Range}
use Rattle.ranges.specs.TableInner.{row, rows_from}
use Rattle.readings.specs.Groups.{join, groups}
use Rattle.readings.proofs.Groups.{two}
use Rattle.tokens.specs.Tokens.{Token, var}
use Rattle.records.specs.Records.{clock_from, length_of, ranges_tokens, client_tokens, owner_of}
use Rattle.records.specs.DeleteRows.{is_first, end_before, leading, siblings, owner_tokens, range_tokens, table_tokens}

-- ---- the first of the groups

-- it begins with the first range
first_group : (P : List (List Range) → Type 0) (r : Range) (rs : List Range) → ((g : List Range) (gs : List (List Range)) → P ((r ∷ g) ∷ gs))
    → P (groups owner_of (r ∷ rs))
unfolding groups join
first_group P r [] f = f [] []
first_group P r (b ∷ xs) f = two owner_of P r b xs (λ g gs is e. f (b ∷ g) gs) (λ n. f [] (groups owner_of (b ∷ xs)))

-- how many ranges it has beside that
unfoldable more : List (List Range) → ℕ
more [] = 0
more ([] ∷ gs) = 0
more ((r ∷ g) ∷ gs) = length g

-- the tokens after those of its first range
unfoldable tail_tokens : ℕ → List (List Range) → List Token
tail_tokens form [] = []
tail_tokens form ([] ∷ gs) = []
tail_tokens form ((r ∷ g) ∷ gs) = ranges_tokens form (r.clock + r.len) g ++ client_tokens form gs

more-leading : (r : Range) (rs : List Range) → more (groups owner_of (r ∷ rs)) ≡ leading r.client rs
unfolding groups join more leading
more-leading r [] = refl
more-leading r (b ∷ xs) = go (more-leading b xs)
  where
    go : more (groups owner_of (b ∷ xs)) ≡ leading b.client xs → more (groups owner_of (r ∷ (b ∷ xs))) ≡ leading r.client (b ∷ xs)
    go h =
        two owner_of (λ (hs : List (List Range)). more hs ≡ leading r.client (b ∷ xs)) r b xs
        (λ g gs is e. rw (eq-eqb b.client r.client (sym e)) (ap suc (sym (ap more is) ∙ h ∙ ap (λ (n : ℕ). leading n xs) (sym e))))
        (λ n. rw (ne_eqb b.client r.client (λ e. n (sym e))))

client-tokens : (form : ℕ) (r : Range) (rs : List Range) → client_tokens form (groups owner_of (r ∷ rs))
    ≡ var r.client ∷ (var (suc (leading r.client rs)) ∷ (var (clock_from form 0 r) ∷ (var (length_of form r) ∷ tail_tokens form (groups owner_of (r ∷ rs)))))
unfolding client_tokens ranges_tokens more tail_tokens
client-tokens form r rs =
    rw (← more-leading r rs)
    (first_group (λ (hs : List (List Range)). client_tokens form hs ≡ var r.client ∷ (var (suc (more hs)) ∷ (var (clock_from form 0 r) ∷ (var (length_of form r) ∷ tail_tokens form hs)))) r rs
    (λ g gs. refl))

-- ---- row by row

back : (i : ℕ) → suc i - 1 ≡ i
back i = omega arith

module _ (s : List ℕ) where
  first-zero : is_first s 0 ≡ true
  unfolding is_first
  first-zero = refl

  first-other : (i : ℕ) → (row s i).client ≢ (row s (suc i)).client → is_first s (suc i) ≡ true
  unfolding is_first
  first-other i n = rw (ne_eqb (suc i) 0 (λ e. omega arith), back i, ne_eqb (row s i).client (row s (suc i)).client n)

  not-first-same : (i : ℕ) → (row s i).client ≡ (row s (suc i)).client → is_first s (suc i) ≡ false
  unfolding is_first
  not-first-same i e = rw (ne_eqb (suc i) 0 (λ e. omega arith), back i, eq-eqb (row s i).client (row s (suc i)).client e)

module _ (form : ℕ) (s : List ℕ) where
  range-first : (i k : ℕ) → is_first s i ≡ true → range_tokens form s i k
      ≡ var (row s i).client ∷ (var (siblings s i k) ∷ (var (clock_from form 0 (row s i)) ∷ (var (length_of form (row s i)) ∷ [])))
  unfolding range_tokens owner_tokens end_before
  range-first i k h = rw h

  range-later : (i k : ℕ) → is_first s (suc i) ≡ false
      → range_tokens form s (suc i) k ≡ var (clock_from form ((row s i).clock + (row s i).len) (row s (suc i))) ∷ (var (length_of form (row s (suc i))) ∷ [])
  unfolding range_tokens owner_tokens end_before
  range-later i k h = rw (h, back i)

  tail-rows : (i k : ℕ) → tail_tokens form (groups owner_of (row s i ∷ rows_from s (suc i) k)) ≡ table_tokens form s (suc i) k
  unfolding groups join rows_from table_tokens ranges_tokens client_tokens tail_tokens siblings
  tail-rows i zero = refl
  tail-rows i (suc k) = go (tail-rows (suc i) k)
    where
      r : Range
      r = row s i

      b : Range
      b = row s (suc i)

      xs : List Range
      xs = rows_from s (suc (suc i)) k

      go : tail_tokens form (groups owner_of (b ∷ xs)) ≡ table_tokens form s (suc (suc i)) k
          → tail_tokens form (groups owner_of (r ∷ (b ∷ xs))) ≡ range_tokens form s (suc i) k ++ table_tokens form s (suc (suc i)) k
      go h =
          two owner_of (λ (hs : List (List Range)). tail_tokens form hs ≡ range_tokens form s (suc i) k ++ table_tokens form s (suc (suc i)) k) r b xs
          (λ g gs is e. rw (range-later i k (not-first-same s i e), ← h, is))
          (λ n. rw (range-first (suc i) k (first-other s i n), ← h) (client-tokens form b xs))

  pub delete-rows : (n : ℕ) → client_tokens form (groups owner_of (rows_from s 0 n)) ≡ table_tokens form s 0 n
  unfolding groups rows_from table_tokens client_tokens siblings
  delete-rows zero = refl
  delete-rows (suc k) = rw (range-first 0 k (first-zero s), ← tail-rows 0 k) (client-tokens form (row s 0) (rows_from s 1 k))

-- ---- how many clients

-- how many of k rows from row i on are a client's first
unfoldable pub firsts : List ℕ → ℕ → ℕ → ℕ
firsts s i zero = 0
firsts s i (suc k) = pick (is_first s i) (suc (firsts s (suc i) k)) (firsts s (suc i) k)

module _ (s : List ℕ) where
  groups-firsts : (i k : ℕ) → length (groups owner_of (row s i ∷ rows_from s (suc i) k)) ≡ suc (firsts s (suc i) k)
  unfolding groups join rows_from firsts
  groups-firsts i zero = refl
  groups-firsts i (suc k) = go (groups-firsts (suc i) k)
    where
      r : Range
      r = row s i

      b : Range
      b = row s (suc i)

      xs : List Range
      xs = rows_from s (suc (suc i)) k

      go : length (groups owner_of (b ∷ xs)) ≡ suc (firsts s (suc (suc i)) k)
          → length (groups owner_of (r ∷ (b ∷ xs))) ≡ suc (pick (is_first s (suc i)) (suc (firsts s (suc (suc i)) k)) (firsts s (suc (suc i)) k))
      go h =
          two owner_of
          (λ (hs : List (List Range)). length hs ≡ suc (pick (is_first s (suc i)) (suc (firsts s (suc (suc i)) k)) (firsts s (suc (suc i)) k))) r b xs
          (λ g gs is e. rw (not-first-same s i e) (sym (ap length is) ∙ h))
          (λ n. rw (first-other s i n) (ap suc h))

  pub clients-firsts : (n : ℕ) → length (groups owner_of (rows_from s 0 n)) ≡ firsts s 0 n
  unfolding groups rows_from firsts
  clients-firsts zero = refl
  clients-firsts (suc k) = rw (first-zero s) (groups-firsts 0 k)

-- ---- loops over rows: before the first, at row i of n, and after the last

pub firsts-begin : (s : List ℕ) (n : ℕ) → 0 + firsts s 0 (n - 0) ≡ firsts s 0 n
firsts-begin s n = let e : n - 0 ≡ n = omega arith in rw e (omega arith)

pub siblings-begin : (s : List ℕ) (i k c : ℕ) → c ≡ (row s i).client → i + 1 - i + leading c (rows_from s (i + 1) k) ≡ siblings s i k
unfolding siblings
siblings-begin s i k c h = rw (h, add-one) (omega arith)

pub rows-begin : (form : ℕ) (s : List ℕ) (n : ℕ) → table_tokens form s 0 (n - 0) ≡ table_tokens form s 0 n
rows-begin form s n = let e : n - 0 ≡ n = omega arith in rw e

module _ (s : List ℕ) (n i : ℕ) (l : i < n) where
  left : n - i ≡ suc (n - (i + 1))
  left = omega arith

  pub firsts-turn : firsts s i (n - i) ≡ pick (is_first s i) (suc (firsts s (i + 1) (n - (i + 1)))) (firsts s (i + 1) (n - (i + 1)))
  unfolding firsts
  firsts-turn = rw (left, add-one)

  leading-turn : (c : ℕ) → leading c (rows_from s i (n - i)) ≡ pick (eqb (row s i).client c) (suc (leading c (rows_from s (i + 1) (n - (i + 1))))) 0
  unfolding leading rows_from
  leading-turn c = rw (left, add-one)

  pub leading-same : (c : ℕ) → (row s i).client ≡ c → leading c (rows_from s i (n - i)) ≡ suc (leading c (rows_from s (i + 1) (n - (i + 1))))
  leading-same c e = leading-turn c ∙ rw (eq-eqb (row s i).client c e)

  pub leading-other : (c : ℕ) → (row s i).client ≢ c → leading c (rows_from s i (n - i)) ≡ 0
  leading-other c m = leading-turn c ∙ rw (ne_eqb (row s i).client c m)

  pub rows-turn : (form : ℕ) → table_tokens form s i (n - i) ≡ range_tokens form s i (n - (i + 1)) ++ table_tokens form s (i + 1) (n - (i + 1))
  unfolding table_tokens
  rows-turn form = rw (left, add-one)

module _ (s : List ℕ) (n i : ℕ) (l : n ≤ i) where
  nothing : n - i ≡ 0
  nothing = omega arith

  pub firsts-end : firsts s i (n - i) ≡ 0
  unfolding firsts
  firsts-end = rw nothing

  pub leading_end : (c : ℕ) → leading c (rows_from s i (n - i)) ≡ 0
  unfolding leading rows_from
  leading_end c = rw nothing

  pub rows_end : (form : ℕ) → table_tokens form s i (n - i) ≡ []
  unfolding table_tokens
  rows_end form = rw nothing
