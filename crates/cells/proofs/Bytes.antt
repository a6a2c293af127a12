-- What a draw from a byte column comes to, by what was read and tested on the way.
use Rattle.std.specs.Prelude.{Option, Some, None}
use Prim.Native.Nat.{ℕ, ◌+◌, ◌*◌, ◌-◌, ◌≤◌, ◌<◌}
use mathlib.Core.Path.{◌≡◌, refl, sym, ap, ◌∙◌}
use mathlib.Core.Logic.{◌≢◌}
use mathlib.Core.List.{List}
use native.Mathlib.Omega.{arith}
use lib.Dec.{eqb}
use lib.ListN.{length, get_or, set, take}
use borrow.Author.Tests.{lt-ltb, le-ltb, le-leb, lt-leb, eq-eqb, ne_eqb}
use Rattle.numbers.specs.declared.Refusal.{Refusal}
use Rattle.numbers.specs.declared.Read.{Read}
use Rattle.numbers.specs.declared.Read.TheVariants as read
use Rattle.numbers.specs.Limits.{max_count}
use Rattle.numbers.specs.Number.{read_unsigned}
use Rattle.numbers.specs.NumberInner.{why_read}
use Rattle.columns.specs.declared.byte.Place.{Place}
use Rattle.columns.specs.declared.byte.Answer.{Answer}
use Rattle.columns.specs.declared.byte.Answer.TheVariants.{Next, Bad}
use Rattle.columns.specs.Byte.{place_at, endless_at, refuse, counted, begun, next_byte}
use Rattle.grammar.specs.Course as course
use Rattle.decoder.specs.Columned.{byte_drawn}
use Rattle.cells.specs.Cells.{cell, bytes_in, place_in, why_in, Small, Wide, Elsewhere, bytes_given, BytePut, ByteDrawn}
use Rattle.cells.proofs.Words.{Held, column, held, put-at, run, put-run, put-place, place-put, bytes-held, held-wide, elsewhere-any}

-- ---- the run put, and the run under way

module _ (k : ℕ) (w : List ℕ) (s : Small w) (few : Wide k) where
  byte-held : (c v : List ℕ) (p : Place) (h : Held k w c v) → place_in v ≡ p.from → bytes_in v k ≡ record { place = p; to = cell w k 4 } → BytePut k w v p
  byte-held c v p h f b = (held-wide k w c v h few s, h.elsewhere, f, b)

  pub byte_put : (past from v left endless : ℕ)
      → BytePut k w (set (set (run k w s few.0 past from v left) (7 * k + 5) endless) 64 from) (record { at = past; from = from; last = v; count = left; endless = eqb endless 1 })
  byte_put past from v left endless =
      let w4 = run k w s few.0 past from v left in
      let w5 = set w4 (7 * k + 5) endless in
      let h5 = put-at k w _ w4 few.0 (put-run k w s few.0 past from v left) (7 * k + 5) 5 endless refl (omega arith) in
      let h6 = put-place k w _ w5 few.0 h5 from in
      byte-held _ (set w5 64 from) (record { at = past; from = from; last = v; count = left; endless = eqb endless 1 }) h6
      (place-put k w _ w5 few.0 h5 from)
      (bytes-held k w _ (set w5 64 from) h6)

  pub byte-endless : BytePut k w (set w 64 (cell w k 1)) (bytes_in w k).place
  unfolding bytes_in
  byte-endless =
      let h1 = held k w s in
      let h2 = put-place k w (column w k) w few.0 h1 (cell w k 1) in
      byte-held (column w k) (set w 64 (cell w k 1)) (bytes_in w k).place h2
      (place-put k w (column w k) w few.0 h1 (cell w k 1))
      (bytes-held k w (column w k) (set w 64 (cell w k 1)) h2)

  pub byte-on : cell w k 5 ≢ 1 → BytePut k w (set (set w (7 * k + 3) (cell w k 3 - 1)) 64 (cell w k 1)) (place_at (cell w k 0) (cell w k 1) (cell w k 2) (cell w k 3 - 1))
  byte-on h =
      let w1 = set w (7 * k + 3) (cell w k 3 - 1) in
      let h1 = put-at k w (column w k) w few.0 (held k w s) (7 * k + 3) 3 (cell w k 3 - 1) refl (omega arith) in
      let h2 = put-place k w _ w1 few.0 h1 (cell w k 1) in
      byte-held _ (set w1 64 (cell w k 1)) (place_at (cell w k 0) (cell w k 1) (cell w k 2) (cell w k 3 - 1)) h2
      (place-put k w _ w1 few.0 h1 (cell w k 1))
      (bytes-held k w _ (set w1 64 (cell w k 1)) h2 ∙ rw (ne_eqb (cell w k 5) 1 h) refl)

-- ---- the next value

module _ (u w : List ℕ) (k : ℕ) (v : List ℕ) where
  -- the column's answer a: a refusal, which only says why
  byte-refused : (r : Option ℕ) (why : Refusal) (a : Answer) → next_byte (take (cell w k 4) u) (bytes_in w k).place ≡ a → a ≡ Bad why
      → (r ≡ None) × Small v × Elsewhere 9 w v × (why_in v ≡ why) → ByteDrawn u k w v r
  unfolding bytes_given byte_drawn bytes_in
  byte-refused r why a n e p = (p.1, elsewhere-any k w v p.2, rw p.0 (ap course.not p.3 ∙ ap (byte_drawn (λ c. c) (cell w k 4)) (sym (n ∙ e))))

  -- or a byte, and the place after it
  byte-given : (x : ℕ) (p : Place) (a : Answer) → next_byte (take (cell w k 4) u) (bytes_in w k).place ≡ a → a ≡ Next x p → BytePut k w v p → ByteDrawn u k w v (Some x)
  unfolding bytes_given byte_drawn bytes_in
  byte-given x p a n e h = (h.0, h.1, rw (h.2, h.3) (ap (byte_drawn (λ c. c) (cell w k 4)) (sym (n ∙ e))))

  pub byte-goes-endless : cell w k 5 ≡ 1 → BytePut k w v (bytes_in w k).place → ByteDrawn u k w v (Some (cell w k 2))
  unfolding next_byte bytes_in
  byte-goes-endless h p =
      byte-given (cell w k 2) (bytes_in w k).place (Next (cell w k 2) (bytes_in w k).place) (rw (eq-eqb (cell w k 5) 1 h) refl) refl p

  pub byte-goes-on : cell w k 5 ≢ 1 → cell w k 3 ≢ 0 → BytePut k w v (place_at (cell w k 0) (cell w k 1) (cell w k 2) (cell w k 3 - 1)) → ByteDrawn u k w v (Some (cell w k 2))
  unfolding next_byte bytes_in
  byte-goes-on h n p =
      let next = place_at (cell w k 0) (cell w k 1) (cell w k 2) (cell w k 3 - 1) in
      byte-given (cell w k 2) next (Next (cell w k 2) next) (rw (ne_eqb (cell w k 5) 1 h, lt-ltb 0 (cell w k 3) (omega arith)) refl) refl p

  module _ (t : List ℕ) (at : ℕ) (n : cell w k 5 ≢ 1) (z : cell w k 3 ≡ 0) (et : t ≡ take (cell w k 4) u) (ea : at ≡ cell w k 0) where
    next-begun : next_byte (take (cell w k 4) u) (bytes_in w k).place ≡ begun t at
    unfolding next_byte bytes_in
    next-begun = rw (ne_eqb (cell w k 5) 1 n, z, et, ea) refl

    pub bytes-refused : (r : Option ℕ) (why : Refusal) → begun t at ≡ Bad why → (r ≡ None) × Small v × Elsewhere 9 w v × (why_in v ≡ why) → ByteDrawn u k w v r
    bytes-refused r why e p = byte-refused r why (begun t at) next-begun e p

    pub bytes-begin : (x : ℕ) (p : Place) → begun t at ≡ Next x p → BytePut k w v p → ByteDrawn u k w v (Some x)
    bytes-begin x p e h = byte-given x p (begun t at) next-begun e h

-- ---- the run that begins

module _ (t : List ℕ) (at : ℕ) where
  pub begun-past : length t ≤ at → begun t at ≡ refuse 1 (length t)
  unfolding begun
  begun-past h = rw (le-leb (length t) at h) refl

  module _ (inside : at < length t) where
    pub begun-last : length t ≤ at + 1 → begun t at ≡ Next (get_or t at 0) (endless_at (at + 1) at (get_or t at 0))
    unfolding begun
    begun-last h = rw (lt-leb (length t) at inside, le-leb (length t) (at + 1) h) refl

    pub begun-counted : at + 1 < length t → begun t at ≡ counted at (get_or t at 0) (at + 1) (read_unsigned t (at + 1))
    unfolding begun
    begun-counted h = rw (lt-leb (length t) at inside, lt-leb (length t) (at + 1) h) refl

  module _ (b e : ℕ) where
    pub counted-wrong : (q : Read) (y why : Refusal) → q ≡ read_unsigned t e → q ≡ read.Refused y → why ≡ why_read q → counted at b e (read_unsigned t e) ≡ Bad why
    unfolding counted
    counted-wrong q y why read told e = rw (← read, told) (ap Bad (sym (e ∙ ap why_read told)))

    pub counted-many : (c f : ℕ) → read_unsigned t e ≡ read.Number c f → max_count < c → counted at b e (read_unsigned t e) ≡ refuse 3 e
    unfolding counted
    counted-many c f read l = rw (read, lt-ltb max_count c l) refl

    pub counted-run : (c f : ℕ) → read_unsigned t e ≡ read.Number c f → c ≤ max_count → counted at b e (read_unsigned t e) ≡ Next b (place_at f at b c)
    unfolding counted
    counted-run c f read l = rw (read, le-ltb max_count c l) refl
