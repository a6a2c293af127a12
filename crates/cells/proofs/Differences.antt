-- What a draw from a difference column comes to, by what was read and tested on the way.
use Rattle.std.specs.Prelude.{Option, Some, None}
use Prim.Native.Nat.{ℕ, zero, suc, ◌+◌, ◌*◌, ◌-◌, ◌%◌, ◌≤◌, ◌<◌}
use mathlib.Core.Path.{◌≡◌, refl, sym, ap, ◌∙◌}
use mathlib.Core.Logic.{◌≢◌}
use mathlib.Core.List.{List, [], ◌∷◌}
use mathlib.Core.Bool.{Bool, true, false}
use native.Mathlib.Omega.{arith}
use lib.Dec.{ltb, eqb}
use lib.ListN.{length, set, take, drop_of_length-le}
use borrow.Author.Tests.{lt-ltb, le-ltb, eqb-true, eqb-false, ltb-true, ltb-false, leb-false, eq-eqb, ne_eqb}
use Rattle.numbers.specs.declared.Refusal.{Refusal}
use Rattle.numbers.specs.declared.Read.{Read}
use Rattle.numbers.specs.declared.Read.TheVariants as read
use Rattle.numbers.specs.declared.Signed.{Signed}
use Rattle.numbers.specs.declared.Signed.TheVariants.{Value, Wrong}
use Rattle.numbers.specs.Limits.{max_clock, max_count}
use Rattle.numbers.specs.Number.{spelt_signed, answer_at, with_sign, read_signed, read_unsigned}
use Rattle.numbers.specs.NumberInner.{why_signed, why_read}
use Rattle.runs.specs.Difference.{zero_key}
use Rattle.columns.specs.declared.difference.Place.{Place}
use Rattle.columns.specs.declared.difference.Answer.{Answer}
use Rattle.columns.specs.declared.difference.Answer.TheVariants.{Next, Bad}
use Rattle.columns.specs.Difference.{place_at, refuse, drawn, outside, key_read, counted, begun, next_difference}
use Rattle.grammar.specs.Course as course
use Rattle.decoder.specs.States.{Differences}
use Rattle.decoder.specs.Columned.{difference_drawn}
use Rattle.cells.specs.Cells.{cell, differences_in, place_in, why_in, Small, Narrow, Elsewhere, differences_given, DifferencePut, DifferenceDrawn}
use Rattle.cells.proofs.Words.{Held, column, held, put-at, run, put-run, put-place, place-put, differences-held, held-short, elsewhere-any}

-- ---- a value drawn, or none

module _ (c : Place) where
  pub drawn-low : c.last + c.key < zero_key → drawn c ≡ refuse 3 c.from
  unfolding drawn
  drawn-low l = rw (lt-ltb (c.last + c.key) zero_key l) refl

  pub drawn-high : zero_key ≤ c.last + c.key → max_clock < c.last + c.key - zero_key → drawn c ≡ refuse 3 c.from
  unfolding drawn
  drawn-high l h = rw (le-ltb (c.last + c.key) zero_key l, lt-ltb max_clock (c.last + c.key - zero_key) h) refl

  drawn-next : zero_key ≤ c.last + c.key → c.last + c.key - zero_key ≤ max_clock
      → drawn c ≡ Next (c.last + c.key - zero_key) (place_at c.at c.from (c.last + c.key - zero_key) c.key (c.count - 1))
  unfolding drawn
  drawn-next l h = rw (le-ltb (c.last + c.key) zero_key l, le-ltb max_clock (c.last + c.key - zero_key) h) refl

-- ---- an answer, and the words that say so

-- a refusal, which only says why
pub difference-refused : (k : ℕ) (w v : List ℕ) (r : Option ℕ) (why : Refusal) (a : Answer) → a ≡ Bad why
    → (r ≡ None) × Small v × Elsewhere 9 w v × (why_in v ≡ why) → DifferencePut k w v r a
unfolding differences_given difference_drawn
difference-refused k w v r why a e p = (p.1, elsewhere-any k w v p.2, rw (p.0, e) (ap course.not p.3), rw p.0 tt)

-- a value, its column held
difference-held : (k : ℕ) (w c v : List ℕ) (x at from key count : ℕ) (a : Answer) → Small w → (k ≡ 0 → 580 ≤ length w) → x ≤ max_clock → key ≤ 4294967295
    → a ≡ Next x (place_at at from x key count)
    → (h : Held k w c v) → place_in v ≡ from
    → differences_in v k ≡ record { place = place_at at from x key count; to = cell w k 4 }
    → DifferencePut k w v (Some x) a
unfolding differences_given difference_drawn differences_in
difference-held k w c v x at from key count a s own l b e h p d =
    let last : cell v k 2 ≡ x = ap (λ (y : Differences). y.place.last) d in
    let held-key : cell v k 5 ≡ key = ap (λ (y : Differences). y.place.key) d in (
      held-short k w c v h s (λ z m. let n = own z in absurd (omega (arith, m, n, h.size))) (rw (← h.words 2 (omega arith), last) (omega arith)) (rw (← h.words 5 (omega arith), held-key) b),
      h.elsewhere,
      rw (e, p, d) refl,
      λ z. let n = own z in omega (arith, n, h.size),
    )

-- ---- where something is left of the key column there are words for keys

pub room-on : (k : ℕ) (w : List ℕ) → Small w → cell w k 3 ≢ 0 → k ≡ 0 → 580 ≤ length w
room-on k w s some z = go (ltb (length w) 580) refl
  where
    go : (x : Bool) → ltb (length w) 580 ≡ x → 580 ≤ length w
    go true h = absurd (some (rw z (s.room (ltb-true (length w) 580 h)).0))
    go false h = ltb-false (length w) 580 h

pub room_at : (k : ℕ) (w : List ℕ) → Small w → cell w k 0 < cell w k 4 → k ≡ 0 → 580 ≤ length w
room_at k w s some z = go (ltb (length w) 580) refl
  where
    go : (x : Bool) → ltb (length w) 580 ≡ x → 580 ≤ length w
    go true h =
        let i = (s.room (ltb-true (length w) 580 h)).1 in
        let some₀ = rw z at some in
        absurd (omega (arith, i, some₀))
    go false h = ltb-false (length w) 580 h

-- what is read lies within the bytes
take-le : (n : ℕ) (l : List ℕ) → length (take n l) ≤ n
take-le zero l = search arith
take-le (suc n) [] = search arith
take-le (suc n) (x ∷ l) = let h = take-le n l in omega (arith, h)

abbrev value_of : Signed → ℕ
value_of (Value m x e) = 1
value_of (Wrong y) = 0

pub value-inside : (t : List ℕ) (at : ℕ) (m : Bool) (x e : ℕ) → read_signed t at ≡ Value m x e → at < length t
unfolding read_signed spelt_signed answer_at with_sign
value-inside t at m x e h = go (ltb at (length t)) refl
  where
    past : length t ≤ at → value_of (read_signed t at) ≡ 0
    past l = rw (drop_of_length-le t {i = at} l) refl

    go : (b : Bool) → ltb at (length t) ≡ b → at < length t
    go true q = ltb-true at (length t) q
    go false q =
        let z = past (ltb-false at (length t) q) in
        let y = ap value_of h in
        absurd (omega (arith, z, y))

pub starts-before : (u t : List ℕ) (at n : ℕ) (m : Bool) (x e : ℕ) → t ≡ take n u → read_signed t at ≡ Value m x e → at < n
starts-before u t at n m x e q h = omega (arith, value-inside t at m x e h, ap length q, take-le n u)

-- ---- the run put, and the run under way

module _ (k : ℕ) (w : List ℕ) (s : Small w) (few : Narrow k) where
  pub difference-put : (k ≡ 0 → 580 ≤ length w) → (past from key left : ℕ) → key ≤ 4294967295 → zero_key ≤ cell w k 2 + key → cell w k 2 + key - zero_key ≤ max_clock
      → (let x = cell w k 2 + key - zero_key in
      DifferencePut k w (set (set (run k w s (omega arith) past from x left) (7 * k + 5) key) 64 from) (Some x) (drawn (place_at past from (cell w k 2) key (left + 1))))
  difference-put own past from key left b l m =
      let x = cell w k 2 + key - zero_key in
      let eight : k ≤ 8 = omega arith in
      let w4 = run k w s eight past from x left in
      let w5 = set w4 (7 * k + 5) key in
      let h5 = put-at k w _ w4 eight (put-run k w s eight past from x left) (7 * k + 5) 5 key refl (omega arith) in
      let h6 = put-place k w _ w5 eight h5 from in
      let e : left + 1 - 1 ≡ left = omega arith in
      let p = place_at past from (cell w k 2) key (left + 1) in
      difference-held k w _ (set w5 64 from) x past from key left (drawn p) s own m b
      (drawn-next p l m ∙ rw e refl)
      h6
      (place-put k w _ w5 eight h5 from)
      (differences-held k w _ (set w5 64 from) h6)

  pub difference-on : cell w k 3 ≢ 0 → cell w k 5 ≤ 4294967295 → zero_key ≤ cell w k 2 + cell w k 5 → cell w k 2 + cell w k 5 - zero_key ≤ max_clock
      → (let x = cell w k 2 + cell w k 5 - zero_key in
      DifferencePut k w (set (set (set w (7 * k + 2) x) (7 * k + 3) (cell w k 3 - 1)) 64 (cell w k 1)) (Some x) (drawn (differences_in w k).place))
  unfolding differences_in
  difference-on some b l m =
      let x = cell w k 2 + cell w k 5 - zero_key in
      let w1 = set w (7 * k + 2) x in
      let w2 = set w1 (7 * k + 3) (cell w k 3 - 1) in
      let eight : k ≤ 8 = omega arith in
      let h1 = put-at k w (column w k) w eight (held k w s) (7 * k + 2) 2 x refl (omega arith) in
      let h2 = put-at k w _ w1 eight h1 (7 * k + 3) 3 (cell w k 3 - 1) refl (omega arith) in
      let h3 = put-place k w _ w2 eight h2 (cell w k 1) in
      difference-held k w _ (set w2 64 (cell w k 1)) x (cell w k 0) (cell w k 1) (cell w k 5) (cell w k 3 - 1) (drawn (differences_in w k).place) s (room-on k w s some) m b
      (drawn-next (differences_in w k).place l m)
      h3
      (place-put k w _ w2 eight h2 (cell w k 1))
      (differences-held k w _ (set w2 64 (cell w k 1)) h3)

  -- the words of a difference column can be added
  pub short-here : (cell w k 2 ≤ 4294967295) × (cell w k 5 ≤ 4294967295)
  short-here = go (eqb k 0) (eqb k 2) refl refl
    where
      go : (x y : Bool) → eqb k 0 ≡ x → eqb k 2 ≡ y → (cell w k 2 ≤ 4294967295) × (cell w k 5 ≤ 4294967295)
      go true y p q = rw (eqb-true k 0 p) (s.key.last, s.key.key)
      go false true p q = rw (eqb-true k 2 q) (s.left.last, s.left.key)
      go false false p q =
          let m = eqb-false k 0 p in
          let n = eqb-false k 2 q in
          let e : k ≡ 3 = omega (arith, few.1) in
          rw e (s.right.last, s.right.key)

-- ---- the next value

module _ (u w : List ℕ) (k : ℕ) (v : List ℕ) (r : Option ℕ) where
  difference-drawn : (a : Answer) → next_difference (take (cell w k 4) u) (differences_in w k).place ≡ a → DifferencePut k w v r a → DifferenceDrawn u k w v r
  unfolding differences_in
  difference-drawn a e p = (p.0, p.1, p.2 ∙ ap (difference_drawn (λ c. c) (cell w k 4)) (sym e), p.3)

  pub difference-goes-on : cell w k 3 ≢ 0 → DifferencePut k w v r (drawn (differences_in w k).place) → DifferenceDrawn u k w v r
  unfolding next_difference differences_in
  difference-goes-on h p = difference-drawn (drawn (differences_in w k).place) (rw (lt-ltb 0 (cell w k 3) (omega arith)) refl) p

  pub difference-begins : (t : List ℕ) (at : ℕ) (a : Answer) → cell w k 3 ≡ 0 → t ≡ take (cell w k 4) u → at ≡ cell w k 0
      → begun t at (cell w k 2) (read_signed t at) ≡ a → DifferencePut k w v r a → DifferenceDrawn u k w v r
  unfolding next_difference differences_in
  difference-begins t at a h et ea e p = difference-drawn a (rw (h, ← et, ← ea) e) p

-- ---- the run that begins

pub inside : (m : Bool) (x : ℕ) → outside m x ≡ false → x ≤ 2147483648
unfolding outside
inside true x h = ltb-false 2147483648 x h
inside false x h = omega (arith, leb-false 2147483648 x h)

module _ (t : List ℕ) (at last : ℕ) where
  pub begun-wrong : (q : Signed) (y why : Refusal) → q ≡ read_signed t at → q ≡ Wrong y → why ≡ why_signed q → begun t at last (read_signed t at) ≡ Bad why
  unfolding begun
  begun-wrong q y why read told e = rw (← read, told) (ap Bad (sym (e ∙ ap why_signed told)))

  module _ (m : Bool) (x e : ℕ) (read : read_signed t at ≡ Value m x e) where
    pub begun-outside : outside m x ≡ true → begun t at last (read_signed t at) ≡ refuse 3 at
    unfolding begun
    begun-outside o = rw (read, o) refl

    module _ (key : ℕ) (o : outside m x ≡ false) (ek : key ≡ key_read m x) where
      pub begun-even : x % 2 ≢ 1 → begun t at last (read_signed t at) ≡ drawn (place_at e at last key (0 + 1))
      unfolding begun
      begun-even h = let z : x % 2 ≡ 0 = omega arith in rw (read, o, ek, eq-eqb (x % 2) 0 z) refl

      pub begun-odd : x % 2 ≡ 1 → begun t at last (read_signed t at) ≡ counted at last key e (read_unsigned t e)
      unfolding begun
      begun-odd h = rw (read, o, ek, ne_eqb (x % 2) 0 (λ q. omega arith)) refl

  module _ (key e : ℕ) where
    pub counted-wrong : (q : Read) (y why : Refusal) → q ≡ read_unsigned t e → q ≡ read.Refused y → why ≡ why_read q → counted at last key e (read_unsigned t e) ≡ Bad why
    unfolding counted
    counted-wrong q y why read told e = rw (← read, told) (ap Bad (sym (e ∙ ap why_read told)))

    pub counted-many : (c f : ℕ) → read_unsigned t e ≡ read.Number c f → max_count < c → counted at last key e (read_unsigned t e) ≡ refuse 3 e
    unfolding counted
    counted-many c f read l = rw (read, lt-ltb max_count c l) refl

    pub counted-run : (c f : ℕ) → read_unsigned t e ≡ read.Number c f → c ≤ max_count → counted at last key e (read_unsigned t e) ≡ drawn (place_at f at last key (c + 1 + 1))
    unfolding counted
    counted-run c f read l = let two : c + 1 + 1 ≡ c + 2 = omega arith in rw (read, le-ltb max_count c l, two) refl
