-- What is written of a delete set: numbers without columns, a range, and the rows so far.
use Prim.Native.Nat.{ℕ, zero, suc, ◌+◌, ◌-◌, ◌≤◌, ◌<◌}
use mathlib.Core.Path.{◌≡◌, refl, sym, ap, ◌∙◌}
use mathlib.Core.Logic.{◌≢◌}
use mathlib.Core.Bool.{Bool, true, false, not}
use mathlib.Core.List.{List, [], ◌∷◌, ◌++◌, append_assoc, append-nil}
use native.Mathlib.Numerals.{add-one}
use native.Mathlib.Omega.{arith}
use lib.Dec.{eqb}
use lib.ListN.{length}
use borrow.Author.Tests.{eq-eqb, ne_eqb, eqb-true, eqb-false}
use Rattle.numbers.specs.Number.{pick}
use Rattle.ranges.specs.Ranges.{Range}
use Rattle.ranges.specs.TableInner.{row, rows_from}
use Rattle.readings.specs.Groups.{groups}
use Rattle.readings.specs.Sound.{All}
use Rattle.tokens.specs.Tokens.{Token, var, taken, taken_all, rest, whole}
use Rattle.tokens.specs.Lanes.{fresh_lane, put_all, laid_all}
use Rattle.tokens.proofs.Taking.{in-line, in_rest, var-line, var-rest, var-other}
use Rattle.tokens.proofs.Wrote.{line-alike}
use Rattle.records.specs.Records.{clock_from, length_of, ranges_tokens, client_tokens, owner_of, delete_tokens}
use Rattle.records.specs.DeleteRows.{is_first, end_before, siblings, owner_tokens, range_tokens, table_tokens}
use Rattle.records.proofs.DeleteRows.{delete-rows, rows-turn, rows_end}

-- ---- all are numbers without columns

module _ (P : Token → Type 0) (p : (v : ℕ) → P (var v)) (form : ℕ) where
  ranges-plain : (end : ℕ) (rs : List Range) (ts : List Token) → All P ts → All P (ranges_tokens form end rs ++ ts)
  unfolding ranges_tokens
  ranges-plain end [] ts h = h
  ranges-plain end (r ∷ rs) ts h = (p (clock_from form end r), (p (length_of form r), ranges-plain (r.clock + r.len) rs ts h))

  clients-plain : (gs : List (List Range)) → All P (client_tokens form gs)
  unfolding client_tokens
  clients-plain [] = tt
  clients-plain ([] ∷ gs) = clients-plain gs
  clients-plain ((r ∷ rs) ∷ gs) = (p r.client, (p (length (r ∷ rs)), ranges-plain 0 (r ∷ rs) (client_tokens form gs) (clients-plain gs)))

  pub deletes-plain : (rs : List Range) → All P (delete_tokens form rs)
  unfolding delete_tokens
  deletes-plain rs = (p (length (groups owner_of rs)), clients-plain (groups owner_of rs))

none-taken : (k : ℕ) (ts : List Token) → All (λ (t : Token). taken k t ≡ []) ts → taken_all k ts ≡ []
unfolding taken_all
none-taken k [] h = refl
none-taken k (t ∷ ts) h = rw h.0 (none-taken k ts h.1)

-- a delete set has nothing for the columns
pub deletes-taken : (k : ℕ) → k ≢ whole → k ≢ rest → (form : ℕ) (rs : List Range) → taken_all k (delete_tokens form rs) ≡ []
deletes-taken k n m form rs = none-taken k (delete_tokens form rs) (deletes-plain (λ (t : Token). taken k t ≡ []) (λ v. var-other k v n m) form rs)

-- it stands in the rest of form 2 as in form 1
pub deletes-rest : (out : List ℕ) (at form : ℕ) (rs : List Range)
    → ((put_all (fresh_lane rest at) (delete_tokens form rs)).run.at ≡ (put_all (fresh_lane whole at) (delete_tokens form rs)).run.at)
    × (laid_all out (fresh_lane rest at) (delete_tokens form rs) ≡ laid_all out (fresh_lane whole at) (delete_tokens form rs))
deletes-rest out at form rs =
    line-alike rest whole (in_rest rest refl) (in-line whole refl) out at (delete_tokens form rs)
    (deletes-plain (λ (t : Token). taken rest t ≡ taken whole t) (λ v. var-rest rest v (λ e. absurd (omega arith)) refl ∙ sym (var-line whole v refl)) form rs)

-- ---- a range

module _ (s : List ℕ) (i : ℕ) where
  pub first-at-zero : i ≡ 0 → true ≡ is_first s i
  unfolding is_first
  first-at-zero e = rw (eq-eqb i 0 e)

  pub first-after : (a b : ℕ) → i ≢ 0 → a ≡ (row s (i - 1)).client → b ≡ (row s i).client → not (eqb a b) ≡ is_first s i
  unfolding is_first
  first-after a b n p q = rw (ne_eqb i 0 n, ← p, ← q) (go (eqb a b))
    where
      go : (t : Bool) → not t ≡ pick t false true
      go true = refl
      go false = refl

  pub not-first-later : is_first s i ≡ false → 0 < i
  not-first-later h = go (eqb i 0) refl
    where
      go : (t : Bool) → eqb i 0 ≡ t → 0 < i
      go true e = absurd (let z : ◌≡◌ {A = ℕ} 0 1 = cc (first-at-zero (eqb-true i 0 e)) in omega arith)
      go false e = omega (arith, eqb-false i 0 e)

  -- a clock since the range before, computed without its end
  pub increase-first : is_first s i ≡ true → (row s i).clock ≡ (row s i).clock - end_before s i
  unfolding end_before
  increase-first h = rw h (omega arith)

  pub increase-later : is_first s i ≡ false → (row s i).clock - (row s (i - 1)).clock - (row s (i - 1)).len ≡ (row s i).clock - end_before s i
  unfolding end_before
  increase-later h = rw h (omega arith)

module _ (s : List ℕ) (i k : ℕ) where
  pub owner-none : is_first s i ≡ false → owner_tokens s i k ≡ []
  unfolding owner_tokens
  owner-none h = rw h

  pub owner-some : is_first s i ≡ true → owner_tokens s i k ≡ var (row s i).client ∷ (var (siblings s i k) ∷ [])
  unfolding owner_tokens
  owner-some h = rw h

  pub range-line : (form : ℕ) → form ≡ 1 → range_tokens form s i k ≡ owner_tokens s i k ++ (var (row s i).clock ∷ (var (row s i).len ∷ []))
  unfolding range_tokens clock_from length_of
  range-line form h = rw (eq-eqb form 1 h)

  pub range-less : (form : ℕ) → form ≢ 1
      → range_tokens form s i k ≡ owner_tokens s i k ++ (var ((row s i).clock - end_before s i) ∷ (var ((row s i).len - 1) ∷ []))
  unfolding range_tokens clock_from length_of
  range-less form h = rw (ne_eqb form 1 h)

-- ---- the rows so far, of n

unfoldable pub so_far : ℕ → List ℕ → ℕ → ℕ → List Token
so_far form s n zero = []
so_far form s n (suc i) = so_far form s n i ++ range_tokens form s i (n - (i + 1))

module _ (form : ℕ) (s : List ℕ) (n : ℕ) where
  pub far_none : so_far form s n 0 ≡ []
  unfolding so_far
  far_none = refl

  pub far-next : (i : ℕ) → so_far form s n (i + 1) ≡ so_far form s n i ++ range_tokens form s i (n - (i + 1))
  unfolding so_far
  far-next i = let e : i + 1 ≡ suc i = add-one i in ap (λ (j : ℕ). so_far form s n j) e

  far-left : (i : ℕ) → i ≤ n → so_far form s n i ++ table_tokens form s i (n - i) ≡ table_tokens form s 0 n
  unfolding so_far
  far-left zero l = let e : n - 0 ≡ n = omega arith in rw e
  far-left (suc i) l =
      append_assoc (so_far form s n i) (range_tokens form s i (n - (i + 1))) (table_tokens form s (suc i) (n - suc i))
      ∙ ap (λ (ts : List Token). so_far form s n i ++ ts) (let t = rows-turn s n i (omega arith) form in rw (← add-one i) (sym t)) ∙ far-left i (omega arith)

  pub far-all : so_far form s n n ≡ table_tokens form s 0 n
  far-all =
      sym (append-nil (so_far form s n n)) ∙ ap (λ (ts : List Token). so_far form s n n ++ ts) (sym (rows_end s n n (omega arith) form))
      ∙ far-left n (omega arith)

-- the number of clients, then all rows
pub deletes-are : (form : ℕ) (s : List ℕ) (n : ℕ)
    → delete_tokens form (rows_from s 0 n) ≡ var (length (groups owner_of (rows_from s 0 n))) ∷ so_far form s n n
unfolding delete_tokens
deletes-are form s n = rw (delete-rows form s n, far-all form s n)
