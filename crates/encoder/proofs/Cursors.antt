-- A cursor goes through the rows that a plan names: what it has before it, row by row.
use Prim.Native.Nat.{ℕ, zero, suc, ◌+◌, ◌-◌, ◌*◌, ◌≤◌, ◌<◌}
use mathlib.Core.Path.{◌≡◌, refl, sym, ap, ◌∙◌}
use mathlib.Core.Bool.{Bool, true, false}
use mathlib.Core.List.{List, [], ◌∷◌, ◌++◌}
use native.Mathlib.Omega.{arith}
use lib.Dec.{ltb, eqb}
use lib.ListN.{length, get_or}
use borrow.Author.Tests.{lt-ltb, le-ltb, le-leb, ne_eqb, eq-eqb, eqb-true, ltb-true, ltb-false}
use Rattle.numbers.specs.Number.{pick}
use Rattle.block.specs.declared.Block.{Block}
use Rattle.block.specs.Row.{no_block}
use Rattle.tokens.specs.Tokens.{Token}
use Rattle.kept.specs.declared.cursor.Cursor.{Cursor}
use Rattle.kept.specs.Plan.{Stop, stop, ends_of, rest_of, planned, planned_from, onward, stops_of, no_units, no_bytes, nowhere, at_end, opened_at, advanced}
use Rattle.kept.proofs.Words.{sections-here, sections-ended}
use Rattle.records.specs.Stops.{row_tokens, stops_tokens}

-- the rows from the cursor on
abbrev pub ahead : List Block → List ℕ → ℕ → Cursor → List Stop
ahead rows w n c =
    stop rows c.row c.from.0 c.skip.0 c.head ∷ (onward rows (c.row + 1) c.left ++ stops_of rows (planned_from w c.next (n - c.next)))

unfoldable pub stops_at : List Block → List ℕ → ℕ → Cursor → List Stop
stops_at rows w n c = pick (eqb c.row nowhere) [] (ahead rows w n c)

-- where the cursor stands at the first row of section k
abbrev start_of : List ℕ → ℕ → Cursor
start_of w k =
    let p = planned w k in
    record { row = p.first; from = record { 0 = p.from }; skip = record { 0 = p.skip }; head = p.count; left = p.count - 1; next = k + 1 }

opened-on : (w : List ℕ) (n k : ℕ) → 5 * n ≤ length w → k < n → opened_at w n k ≡ start_of w k
unfolding opened_at
opened-on w n k room l = rw (lt-ltb k n l, le-leb (5 * (k + 1)) (length w) (omega (arith, l, room)))

opened-end : (w : List ℕ) (n k : ℕ) → n ≤ k → opened_at w n k ≡ at_end
unfolding opened_at
opened-end w n k l = rw (le-ltb k n l)

ahead-first : (rows : List Block) (w : List ℕ) (n k : ℕ) → k < n → ahead rows w n (start_of w k) ≡ stops_of rows (planned_from w k (n - k))
unfolding stops_of
ahead-first rows w n k l = rw (sections-here w n k l)

stops-none : (rows : List Block) → stops_of rows [] ≡ []
unfolding stops_of
stops-none rows = refl

onward-none : (rows : List Block) (i : ℕ) → onward rows i 0 ≡ []
unfolding onward
onward-none rows i = refl

onward-one : (rows : List Block) (i m : ℕ) → onward rows i (suc m) ≡ stop rows i 0 0 0 ∷ onward rows (i + 1) m
unfolding onward
onward-one rows i m = refl

-- the cursor after: the next section, or the next row
next-section : (w : List ℕ) (n : ℕ) (c : Cursor) → c.row < nowhere → c.left ≡ 0 → advanced w n c ≡ opened_at w n c.next
unfolding advanced
next-section w n c l e = rw (ne_eqb c.row nowhere (λ q. absurd (omega (arith, q, l))), eq-eqb c.left 0 e)

next_row : (w : List ℕ) (n m : ℕ) (c : Cursor) → c.row < nowhere → c.left ≡ suc m
    → advanced w n c ≡ record { row = c.row + 1; from = no_units; skip = no_bytes; head = 0; left = c.left - 1; next = c.next }
unfolding advanced
next_row w n m c l e = rw (ne_eqb c.row nowhere (λ q. absurd (omega (arith, q, l))), ne_eqb c.left 0 (λ q. absurd (omega (arith, q, e))))

module _ (u : List ℕ) (rows : List Block) (L : ℕ) (most : L ≤ nowhere) where
  abbrev tokens : List Stop → List Token
  tokens ss = stops_tokens u rows L ss

  abbrev own : Stop → List Token
  own s = row_tokens u s.head (ends_of s) (get_or rows s.row no_block)

  -- a row that is not in the table ends them
  beyond : (s : Stop) (ss : List Stop) → L ≤ s.row → tokens (s ∷ ss) ≡ []
  unfolding stops_tokens
  beyond s ss l = rw (le-ltb s.row L l)

  inside : (s : Stop) (ss : List Stop) → s.row < L → tokens (s ∷ ss) ≡ own s ++ tokens ss
  unfolding stops_tokens
  inside s ss l = rw (lt-ltb s.row L l)

  nothing : tokens [] ≡ []
  unfolding stops_tokens
  nothing = refl

  -- the test for the end changes nothing
  seen : (w : List ℕ) (n : ℕ) (c : Cursor) → tokens (stops_at rows w n c) ≡ tokens (ahead rows w n c)
  unfolding stops_at
  seen w n c = go (eqb c.row nowhere) refl
    where
      go : (b : Bool) → eqb c.row nowhere ≡ b → tokens (pick b [] (ahead rows w n c)) ≡ tokens (ahead rows w n c)
      go true e = nothing ∙ sym (beyond _ _ (omega (arith, most, eqb-true c.row nowhere e)))
      go false e = refl

  pub ends : (w : List ℕ) (n : ℕ) (c : Cursor) → L ≤ c.row → tokens (stops_at rows w n c) ≡ []
  ends w n c l = seen w n c ∙ beyond _ _ l

  -- at the first row of section k
  pub opens : (w : List ℕ) (n k : ℕ) → 5 * n ≤ length w → tokens (stops_at rows w n (opened_at w n k)) ≡ tokens (stops_of rows (planned_from w k (n - k)))
  opens w n k room = seen w n (opened_at w n k) ∙ go (ltb k n) refl
    where
      go : (b : Bool) → ltb k n ≡ b → tokens (ahead rows w n (opened_at w n k)) ≡ tokens (stops_of rows (planned_from w k (n - k)))
      go true e = rw (opened-on w n k room (ltb-true k n e)) (ap tokens (ahead-first rows w n k (ltb-true k n e)))
      go false e = rw (opened-end w n k (ltb-false k n e), sections-ended w n k (ltb-false k n e), stops-none rows) (beyond _ _ most ∙ sym nothing)

  -- what is before the cursor after this row
  after : (w : List ℕ) (n : ℕ) (c : Cursor) → 5 * n ≤ length w → c.row < nowhere
      → tokens (stops_at rows w n (advanced w n c)) ≡ tokens (onward rows (c.row + 1) c.left ++ stops_of rows (planned_from w c.next (n - c.next)))
  after w n c room l = go c.left refl
    where
      go : (m : ℕ) → c.left ≡ m → tokens (stops_at rows w n (advanced w n c)) ≡ tokens (onward rows (c.row + 1) m ++ stops_of rows (planned_from w c.next (n - c.next)))
      go zero e = rw (next-section w n c l e, onward-none rows (c.row + 1)) (opens w n c.next room)
      go (suc m) e = rw (next_row w n m c l e, onward-one rows (c.row + 1) m) (let q : c.left - 1 ≡ m = omega (arith, e) in seen w n _ ∙ rw q)

  -- a row further
  pub goes : (w : List ℕ) (n : ℕ) (c : Cursor) → 5 * n ≤ length w → c.row < L
      → tokens (stops_at rows w n c)
      ≡ row_tokens u c.head (rest_of (get_or rows c.row no_block) c.from.0 c.skip.0) (get_or rows c.row no_block) ++ tokens (stops_at rows w n (advanced w n c))
  goes w n c room l =
      seen w n c ∙ inside _ _ l
      ∙ ap (λ (ts : List Token). row_tokens u c.head (rest_of (get_or rows c.row no_block) c.from.0 c.skip.0) (get_or rows c.row no_block) ++ ts)
      (sym (after w n c room (omega (arith, l, most))))

-- ---- fewer rows are before the cursor after each

module _ (rows : List Block) where
  count_at : (w : List ℕ) (n : ℕ) (c : Cursor) → length (stops_at rows w n c) ≤ length (ahead rows w n c)
  unfolding stops_at
  count_at w n c = go (eqb c.row nowhere)
    where
      go : (b : Bool) → length (pick b [] (ahead rows w n c)) ≤ length (ahead rows w n c)
      go true = search arith
      go false = search arith

  count-end : (w : List ℕ) (n : ℕ) → length (stops_at rows w n at_end) ≡ 0
  unfolding stops_at
  count-end w n = refl

  count-opened : (w : List ℕ) (n k : ℕ) → 5 * n ≤ length w → length (stops_at rows w n (opened_at w n k)) ≤ length (stops_of rows (planned_from w k (n - k)))
  count-opened w n k room = go (ltb k n) refl
    where
      go : (b : Bool) → ltb k n ≡ b → length (stops_at rows w n (opened_at w n k)) ≤ length (stops_of rows (planned_from w k (n - k)))
      go true e = rw (opened-on w n k room (ltb-true k n e), ← ahead-first rows w n k (ltb-true k n e)) (count_at w n (start_of w k))
      go false e = rw (opened-end w n k (ltb-false k n e)) (omega (arith, count-end w n))

  count-row : (w : List ℕ) (n : ℕ) (c : Cursor) → c.row < nowhere → length (stops_at rows w n c) ≡ suc (length (onward rows (c.row + 1) c.left ++ stops_of rows (planned_from w c.next (n - c.next))))
  unfolding stops_at
  count-row w n c l = rw (ne_eqb c.row nowhere (λ q. absurd (omega (arith, q, l))))

  pub fewer : (w : List ℕ) (n : ℕ) (c : Cursor) → 5 * n ≤ length w → c.row < nowhere → length (stops_at rows w n (advanced w n c)) < length (stops_at rows w n c)
  fewer w n c room l = go c.left refl
    where
      go : (m : ℕ) → c.left ≡ m → length (stops_at rows w n (advanced w n c)) < length (stops_at rows w n c)
      go zero e =
          rw (next-section w n c l e, count-row w n c l, e, onward-none rows (c.row + 1)) (omega (arith, count-opened w n c.next room))
      go (suc m) e =
          let q : c.left - 1 ≡ m = omega (arith, e) in
          let d : Cursor = record { row = c.row + 1; from = no_units; skip = no_bytes; head = 0; left = m; next = c.next } in
          rw (next_row w n m c l e, q, count-row w n c l, e, onward-one rows (c.row + 1) m) (omega (arith, count_at w n d))
