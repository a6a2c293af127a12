-- What a draw from a number column comes to, by what was read and tested on the way.
use Rattle.std.specs.Prelude.{Option, Some, None}
use Prim.Native.Nat.{ℕ, ◌+◌, ◌*◌, ◌-◌, ◌≤◌, ◌<◌}
use mathlib.Core.Path.{◌≡◌, refl, sym, ap, ◌∙◌}
use mathlib.Core.Logic.{◌≢◌}
use mathlib.Core.List.{List}
use native.Mathlib.Omega.{arith}
use lib.ListN.{get_or, set, take}
use borrow.Author.Tests.{lt-ltb, le-ltb}
use Rattle.numbers.specs.declared.Refusal.{Refusal}
use Rattle.numbers.specs.Limits.{max_value}
use Rattle.numbers.specs.Number.{read_signed}
use Rattle.columns.specs.declared.number.Answer as number-answer
use Rattle.columns.specs.declared.number.Answer.TheVariants as number
use Rattle.columns.specs.Number.{place_at, drawn, begun, next_number}
use Rattle.grammar.specs.Course as course
use Rattle.decoder.specs.Columned.{number_drawn}
use Rattle.cells.specs.Cells.{cell, numbers_in, place_in, why_in, Small, Wide, Elsewhere, numbers_given, NumberPut, NumberDrawn}
use Rattle.cells.proofs.Words.{Held, column, held, put-at, run, put-run, put-place, place-put, numbers-held, held-wide, elsewhere-any}

-- the column's first word, as code has it
pub first_cell : (w : List ℕ) (k : ℕ) → get_or w (7 * k) 0 ≡ cell w k 0
unfolding cell
first_cell w k = let e : 7 * k + 0 ≡ 7 * k = omega arith in rw e refl

-- ---- an answer, and the words that say so

-- a refusal, which only says why
pub number-refused : (k : ℕ) (w v : List ℕ) (r : Option ℕ) (why : Refusal) (a : number-answer.Answer) → k ≤ 8 → a ≡ number.Bad why
    → (r ≡ None) × Small v × Elsewhere 9 w v × (why_in v ≡ why) → NumberPut k w v r a
unfolding numbers_given number_drawn
number-refused k w v r why a few e p = (
  p.1,
  elsewhere-any k w v p.2,
  rw (p.0, e) (ap course.not p.3),
  (p.2.same k 5 few (λ q. omega arith) (omega arith), p.2.same k 6 few (λ q. omega arith) (omega arith)),
)

-- a value, its column held
pub number-held : (k : ℕ) (w c v : List ℕ) (x at from last count : ℕ) (a : number-answer.Answer) → Wide k → Small w
    → a ≡ number.Next x (place_at at from last count)
    → (h : Held k w c v) → place_in v ≡ from
    → numbers_in v k ≡ record { place = place_at at from last count; to = cell w k 4 }
    → (cell v k 5 ≡ cell w k 5) × (cell v k 6 ≡ cell w k 6)
    → NumberPut k w v (Some x) a
unfolding numbers_given number_drawn
number-held k w c v x at from last count a few s e h p n kept = (held-wide k w c v h few s, h.elsewhere, rw (e, p, n) refl, kept)

-- ---- the run put and drawn

module _ (k : ℕ) (w : List ℕ) (s : Small w) (few : Wide k) where
  pub run-put : (past from x left : ℕ) → x ≤ max_value → NumberPut k w (set (run k w s few.0 past from x left) 64 from) (Some x) (drawn (place_at past from x (left + 1)))
  unfolding drawn
  run-put past from x left l =
      let w4 = run k w s few.0 past from x left in
      let h4 = put-run k w s few.0 past from x left in
      let h5 = put-place k w _ w4 few.0 h4 from in
      let e : left + 1 - 1 ≡ left = omega arith in
      number-held k w _ (set w4 64 from) x past from x left (drawn (place_at past from x (left + 1))) few s
      (rw (le-ltb max_value x l, e) refl)
      h5
      (place-put k w _ w4 few.0 h4 from)
      (numbers-held k w _ (set w4 64 from) h5)
      (h5.words 5 (omega arith), h5.words 6 (omega arith))

  pub run-refused : (v : List ℕ) (r : Option ℕ) (past from x left : ℕ) → max_value < x
      → (r ≡ None) × Small v × Elsewhere 9 w v × (why_in v ≡ record { number = 3; place = from })
      → NumberPut k w v r (drawn (place_at past from x (left + 1)))
  unfolding drawn
  run-refused v r past from x left l p = number-refused k w v r (record { number = 3; place = from }) (drawn (place_at past from x (left + 1))) few.0 (rw (lt-ltb max_value x l) refl) p

  -- the run under way
  pub run_on : (from last count : ℕ) → from ≡ cell w k 1 → last ≡ cell w k 2 → count ≡ cell w k 3 → last ≤ max_value
      → NumberPut k w (set (set w (7 * k + 3) (count - 1)) 64 from) (Some last) (drawn (numbers_in w k).place)
  unfolding drawn numbers_in
  run_on from last count ef el ec l =
      let w1 = set w (7 * k + 3) (count - 1) in
      let h1 = put-at k w (column w k) w few.0 (held k w s) (7 * k + 3) 3 (count - 1) refl (omega arith) in
      let h2 = put-place k w _ w1 few.0 h1 from in
      number-held k w _ (set w1 64 from) last (cell w k 0) from last (count - 1) (drawn (numbers_in w k).place) few s
      (rw (← el, ← ef, ← ec, le-ltb max_value last l) refl)
      h2
      (place-put k w _ w1 few.0 h1 from)
      (numbers-held k w _ (set w1 64 from) h2 ∙ rw (← el, ← ef) refl)
      (h2.words 5 (omega arith), h2.words 6 (omega arith))

  pub run-over : (v : List ℕ) (r : Option ℕ) (from last : ℕ) → from ≡ cell w k 1 → last ≡ cell w k 2 → max_value < last
      → (r ≡ None) × Small v × Elsewhere 9 w v × (why_in v ≡ record { number = 3; place = from })
      → NumberPut k w v r (drawn (numbers_in w k).place)
  unfolding drawn numbers_in
  run-over v r from last ef el l p =
      number-refused k w v r (record { number = 3; place = from }) (drawn (numbers_in w k).place) few.0 (rw (← el, ← ef, lt-ltb max_value last l) refl) p

-- ---- the next value

module _ (u w : List ℕ) (k : ℕ) where
  pub number-drawn : (v : List ℕ) (r : Option ℕ) (a : number-answer.Answer) → next_number (take (cell w k 4) u) (numbers_in w k).place ≡ a → NumberPut k w v r a → NumberDrawn u k w v r
  unfolding numbers_in
  number-drawn v r a e p = (p.0, p.1, p.2 ∙ ap (number_drawn (λ c. c) (cell w k 4)) (sym e), p.3)

  pub next-on : cell w k 3 ≢ 0 → next_number (take (cell w k 4) u) (numbers_in w k).place ≡ drawn (numbers_in w k).place
  unfolding next_number numbers_in
  next-on h = rw (lt-ltb 0 (cell w k 3) (omega arith)) refl

  pub next-begun : (t : List ℕ) (at : ℕ) → cell w k 3 ≡ 0 → t ≡ take (cell w k 4) u → at ≡ cell w k 0
      → next_number (take (cell w k 4) u) (numbers_in w k).place ≡ begun t at (read_signed t at)
  unfolding next_number numbers_in
  next-begun t at h et ea = rw (h, et, ea) refl
