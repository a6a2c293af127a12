-- What is written is read, column by column: each reader begins a run that its writer spelled and goes on with it, so `Back` holds of it.
use Prim.Native.Nat.{ℕ, zero, suc, ◌+◌, ◌-◌, ◌*◌, ◌%◌, ◌^◌, ◌≤◌, ◌<◌}
use mathlib.Core.Path.{◌≡◌, refl, ap, ◌∙◌}
use mathlib.Core.Bool.{Bool, true, false}
use mathlib.Core.Logic.{⊎_elim}
use mathlib.Core.List.{List, [], ◌∷◌, ◌++◌, append_assoc}
use native.Mathlib.Omega.{arith}
use lib.Dec.{ltb, leb}
use lib.ListN.{length, replicate, get_or, length-append}
use lib.Seq.{drop-length, get_or-append_seam}
use borrow.Author.Tests.{lt-ltb, le-ltb, le-leb, lt-leb, leb-true, ltb-true, eq-eqb, ne_eqb}
use Rattle.numbers.specs.declared.Read.TheVariants.{Number}
use Rattle.numbers.specs.declared.Signed.TheVariants.{Wrong}
use Rattle.numbers.specs.Number.{pick, none, unsigned, signed, read_unsigned, read_signed, spelt_signed, minus_of, with_sign, answer_at}
use Rattle.numbers.specs.Limits.{max_value, max_clock, max_count}
use Rattle.numbers.proofs.Laws.{below_or, unsigned-pos}
use Rattle.numbers.proofs.RoundTrip.{read-unsigned-back, read-signed-back}
use Rattle.columns.specs.declared.number.Answer.TheVariants as number-answer
use Rattle.columns.specs.declared.difference.Answer.TheVariants as difference-answer
use Rattle.columns.specs.declared.byte.Answer.TheVariants as byte-answer
use Rattle.columns.specs.declared.number.Place as number-place
use Rattle.columns.specs.declared.difference.Place as difference-place
use Rattle.columns.specs.declared.byte.Place as byte-place
use Rattle.runs.specs.declared.ColumnKind.TheVariants as columns
use Rattle.columns.specs.Number as number
use Rattle.runs.specs.Number as number-run
use Rattle.columns.specs.Difference as difference
use Rattle.runs.specs.Difference as difference-run
use Rattle.runs.specs.Difference.{zero_key}
use Rattle.columns.specs.Byte as byte
use Rattle.runs.specs.Byte as byte-run
use Rattle.runs.specs.Runs.{column, why, coding, fits_less_two, fits_less_one, near_key}
use Rattle.columns.specs.Reading.{Draw, drew, stop, and_then, reads, number_draw, difference_draw, byte_draw, read_numbers, read_differences, read_bytes}
use Rattle.columns.proofs.Back.{both, at_end, Step, Follows, nothing, others, spelled, stored, Reader, Gives, gives-reads, some, gives_back, reads-back, reads_none, reads_end}

-- the count after a signed number or a byte
count-back : (p s q : List ℕ) (x : ℕ) → x < 2 ^ 63
    → read_unsigned (p ++ (s ++ (unsigned x ++ q))) (length p + length s) ≡ Number x (length (p ++ (s ++ unsigned x)))
count-back p s q x h =
    let u : List ℕ = unsigned x in
    let e : length (p ++ s) + length u ≡ length (p ++ (s ++ u)) = omega (arith, length-append p s, length-append p (s ++ u), length-append s u) in
    rw (← append_assoc p s (u ++ q), ← length-append p s, ← e) (read-unsigned-back (p ++ s) q x h)

-- no signed number is left at the end
signed-end : (s : List ℕ) → read_signed s (length s) ≡ Wrong (record { number = 1; place = length s })
unfolding read_signed spelt_signed minus_of with_sign answer_at
signed-end s = rw (drop-length s)

alike : {A : Type 0} (e : Bool) (a : A) → pick e a a ≡ a
alike true a = refl
alike false a = refl

less_two : (e : Bool) (n : ℕ) → pick e (fits_less_two n) (fits_less_two n) ≡ true → n ≤ max_count + 1
unfolding fits_less_two
less_two e n h = leb-true n (max_count + 1) (rw (alike e (leb n (max_count + 1))) at h)

-- ---- the number column

number-one : (v : ℕ) → number-run.run_bytes v 0 ≡ signed false v
unfolding number-run.run_bytes
number-one v = refl

number-many : (v n : ℕ) → number-run.run_bytes v (suc n) ≡ signed true v ++ unsigned n
unfolding number-run.run_bytes
number-many v n =
    let less : suc n - 1 ≡ n = omega arith in
    rw (ne_eqb (suc n) 0 (omega arith), less)

number-drawn : (at from p v k n : ℕ) → Step (coding columns.Number) p v k
    → number.drawn (number.place_at at from k (suc n)) ≡ number-answer.Next v (number.place_at at from k n)
unfolding coding number.drawn
number-drawn at from p v k n st =
    let less : suc n - 1 ≡ n = omega arith in
    rw (le-ltb max_value k (omega (arith, st.high, st.key)), less, st.key)

number-first : (p q : List ℕ) (from l k n : ℕ) → k ≤ max_value → n ≤ max_count + 1
    → number.next_number (p ++ (number-run.run_bytes k n ++ q)) (number.place_at (length p) from l 0)
    ≡ number.drawn (number.place_at (length (p ++ number-run.run_bytes k n)) (length p) k (suc n))
unfolding number.next_number number.begun number.counted
number-first p q from l k zero v h = rw (number-one k, read-signed-back p q false k (omega arith), length-append p (signed false k))
number-first p q from l k (suc n) v h =
    let s : List ℕ = signed true k in
    let u : List ℕ = unsigned n in
    let two : n + 2 ≡ suc (suc n) = omega arith in
    rw (
      number-many k n,
      append_assoc s u q,
      read-signed-back p (u ++ q) true k (omega arith),
      count-back p s q n (omega arith),
      le-ltb max_count n (omega arith),
      two,
    )

abbrev number-next : List ℕ → number-place.Place → Draw number-place.Place
number-next s d = number_draw (number.next_number s d)

unfoldable number-reader : Reader (coding columns.Number) number-next
unfolding coding number_draw number.next_number
number-reader = record {
  place = λ e at from p k n. number.place_at at from k n;
  goes = λ s e at from p v k n st. rw (lt-ltb 0 (suc n) (omega arith), number-drawn at from p v k n st);
  begins = λ pre q e from p l v k n f st near fits.
      let h : k ≤ max_value = omega (arith, st.high, st.key) in
      let b : List ℕ = number-run.run_bytes k n in
      rw (alike e b, number-first pre q from l k n h (less_two e n fits), number-drawn (length (pre ++ b)) (length pre) p v k n st);
}

number-stops : (s : List ℕ) (e : Bool) (from p k : ℕ) → number-next s (number.place_at (length s) from k 0) ≡ stop (at_end s)
unfolding number_draw number.next_number number.begun
number-stops s e from p k = rw (signed-end s)

module _ (p vs : List ℕ) (h : why (coding columns.Number) vs ≡ 0) where
  -- a draw at a time, and then no byte is left
  pub number-drawn-back : Gives (number-next (p ++ column (coding columns.Number) vs)) (λ d. d.at ≡ length (p ++ column (coding columns.Number) vs)) (number.start_at (length p)) vs
  unfolding number-reader
  number-drawn-back = gives_back number-reader p (length p) 0 (λ s d. d.at ≡ length s) (λ s e from q k. refl) vs h

  pub number-back : read_numbers (length vs) (p ++ column (coding columns.Number) vs) (number.start_at (length p)) ≡ record { values = vs; refusal = none }
  unfolding number-reader
  number-back = reads-back number-reader p (length p) 0 vs h

  pub number-end : (m : ℕ) → read_numbers (length vs + suc m) (p ++ column (coding columns.Number) vs) (number.start_at (length p))
      ≡ record { values = vs; refusal = at_end (p ++ column (coding columns.Number) vs) }
  unfolding number-reader
  number-end m = reads_end number-reader p (length p) 0 number-stops vs m h

-- ---- the difference column

difference-one : (k : ℕ) → difference-run.run_bytes k 0 ≡ signed (ltb k zero_key) (difference-run.magnitude k 0)
unfolding difference-run.run_bytes
difference-one k = refl

difference-many : (k n : ℕ) → difference-run.run_bytes k (suc n) ≡ signed (ltb k zero_key) (difference-run.magnitude k 1) ++ unsigned n
unfolding difference-run.run_bytes
difference-many k n =
    let less : suc n - 1 ≡ n = omega arith in
    rw (ne_eqb (suc n) 0 (omega arith), less)

abbrev Near : ℕ → Type 0
Near k = (1073741824 ≤ k) × (k < 3221225472)

near-says : (k : ℕ) → near_key k ≡ true → Near k
unfolding near_key
near-says k h = let g = both (leb 1073741824 k) (ltb k 3221225472) h in (leb-true 1073741824 k g.0, ltb-true k 3221225472 g.1)

-- what is spelled of a key is within the limits, and is read as that key
module _ (k odd : ℕ) (near : Near k) (o : odd ≤ 1) where
  abbrev Spells : Bool → ℕ → Type 0
  Spells m x = (difference.outside m x ≡ false) × (difference.key_read m x ≡ k) × (x % 2 ≡ odd) × (x < 2 ^ 62)

  spells : Spells (ltb k zero_key) (difference-run.magnitude k odd)
  unfolding difference-run.magnitude difference.outside difference.key_read
  spells = ⊎_elim
      (λ l. rw (lt-ltb k zero_key l) (le-ltb 2147483648 (2 * (zero_key - k) - odd) (omega arith), omega arith, omega arith, omega arith))
      (λ g. rw (le-ltb k zero_key g) (lt-leb 2147483648 (2 * (k - zero_key) + odd) (omega arith), omega arith, omega arith, omega arith))
      (below_or k zero_key)

difference-drawn : (at from p v k n : ℕ) → Step (coding columns.Difference) p v k
    → difference.drawn (difference.place_at at from p k (suc n)) ≡ difference-answer.Next v (difference.place_at at from v k n)
unfolding coding difference.drawn
difference-drawn at from p v k n st =
    let less : suc n - 1 ≡ n = omega arith in
    let sum : p + k ≡ v + zero_key = omega (arith, st.low, st.key) in
    let back : v + zero_key - zero_key ≡ v = omega arith in
    rw (sum, le-ltb (v + zero_key) zero_key (omega arith), back, le-ltb max_clock v st.high, less)

difference-first : (p q : List ℕ) (from b l k n : ℕ) → Near k → n ≤ max_count + 1
    → difference.next_difference (p ++ (difference-run.run_bytes k n ++ q)) (difference.place_at (length p) from b l 0)
    ≡ difference.drawn (difference.place_at (length (p ++ difference-run.run_bytes k n)) (length p) b k (suc n))
unfolding difference.next_difference difference.begun difference.counted
difference-first p q from b l k zero near h =
    let m : Bool = ltb k zero_key in
    let x : ℕ = difference-run.magnitude k 0 in
    let y = spells k 0 near (omega arith) in
    rw (
      difference-one k,
      read-signed-back p q m x y.3,
      y.0,
      eq-eqb (x % 2) 0 y.2,
      y.1,
      length-append p (signed m x),
    )
difference-first p q from b l k (suc n) near h =
    let m : Bool = ltb k zero_key in
    let x : ℕ = difference-run.magnitude k 1 in
    let y = spells k 1 near (omega arith) in
    let s : List ℕ = signed m x in
    let u : List ℕ = unsigned n in
    let two : n + 2 ≡ suc (suc n) = omega arith in
    rw (
      difference-many k n,
      append_assoc s u q,
      read-signed-back p (u ++ q) m x y.3,
      y.0,
      ne_eqb (x % 2) 0 (omega (arith, y.2)),
      y.1,
      count-back p s q n (omega arith),
      le-ltb max_count n (omega arith),
      two,
    )

abbrev difference-next : List ℕ → difference-place.Place → Draw difference-place.Place
difference-next s d = difference_draw (difference.next_difference s d)

unfoldable difference-reader : Reader (coding columns.Difference) difference-next
unfolding coding difference_draw difference.next_difference
difference-reader = record {
  place = λ e at from p k n. difference.place_at at from p k n;
  goes = λ s e at from p v k n st. rw (lt-ltb 0 (suc n) (omega arith), difference-drawn at from p v k n st);
  begins = λ pre q e from p l v k n f st near fits.
      let b : List ℕ = difference-run.run_bytes k n in
      rw (alike e b, difference-first pre q from p l k n (near-says k near) (less_two e n fits), difference-drawn (length (pre ++ b)) (length pre) p v k n st);
}

difference-stops : (s : List ℕ) (e : Bool) (from p k : ℕ)
    → difference-next s (difference.place_at (length s) from p k 0) ≡ stop (at_end s)
unfolding difference_draw difference.next_difference difference.begun
difference-stops s e from p k = rw (signed-end s)

module _ (p vs : List ℕ) (h : why (coding columns.Difference) vs ≡ 0) where
  pub difference-drawn-back : Gives (difference-next (p ++ column (coding columns.Difference) vs)) (λ d. d.at ≡ length (p ++ column (coding columns.Difference) vs)) (difference.start_at (length p)) vs
  unfolding difference-reader
  difference-drawn-back = gives_back difference-reader p (length p) zero_key (λ s d. d.at ≡ length s) (λ s e from q k. refl) vs h

  pub difference-back : read_differences (length vs) (p ++ column (coding columns.Difference) vs) (difference.start_at (length p)) ≡ record { values = vs; refusal = none }
  unfolding difference-reader
  difference-back = reads-back difference-reader p (length p) zero_key vs h

  pub difference-end : (m : ℕ)
      → read_differences (length vs + suc m) (p ++ column (coding columns.Difference) vs) (difference.start_at (length p))
      ≡ record { values = vs; refusal = at_end (p ++ column (coding columns.Difference) vs) }
  unfolding difference-reader
  difference-end m = reads_end difference-reader p (length p) zero_key difference-stops vs m h

-- ---- the byte column

less_one : (n : ℕ) → fits_less_one n ≡ true → n ≤ max_count
unfolding fits_less_one
less_one n h = leb-true n max_count h

-- a run that others follow, and the last one
byte-first : (p q : List ℕ) (from l k n : ℕ) → n ≤ max_count
    → byte.next_byte (p ++ (byte-run.run_bytes k n ++ q)) (byte.place_at (length p) from l 0)
    ≡ byte-answer.Next k (byte.place_at (length (p ++ byte-run.run_bytes k n)) (length p) k n)
unfolding byte.next_byte byte.begun byte.counted byte-run.run_bytes
byte-first p q from l k n h =
    let u : List ℕ = unsigned n in
    let size : length (p ++ (k ∷ (u ++ q))) ≡ length p + suc (length u + length q) = length-append p (k ∷ (u ++ q)) ∙ ap (λ i. length p + suc i) (length-append u q) in
    rw (
      lt-leb (length (p ++ (k ∷ (u ++ q)))) (length p) (omega arith),
      lt-leb (length (p ++ (k ∷ (u ++ q)))) (length p + 1) (omega (arith, unsigned-pos n)),
      get_or-append_seam p k (u ++ q) 0,
      count-back p (k ∷ []) q n (omega arith),
      le-ltb max_count n h,
    )

byte_last : (p : List ℕ) (from l k : ℕ)
    → byte.next_byte (p ++ (k ∷ [])) (byte.place_at (length p) from l 0) ≡ byte-answer.Next k (byte.endless_at (length (p ++ (k ∷ []))) (length p) k)
unfolding byte.next_byte byte.begun
byte_last p from l k =
    let size : length (p ++ (k ∷ [])) ≡ length p + 1 = length-append p (k ∷ []) in
    rw (lt-leb (length (p ++ (k ∷ []))) (length p) (omega arith), le-leb (length (p ++ (k ∷ []))) (length p + 1) (omega arith), get_or-append_seam p k [] 0, size)

abbrev byte_next : List ℕ → byte-place.Place → Draw byte-place.Place
byte_next s d = byte_draw (byte.next_byte s d)

abbrev byte-here : Bool → ℕ → ℕ → ℕ → ℕ → ℕ → byte-place.Place
byte-here e at from p k n = pick e (byte.endless_at at from k) (byte.place_at at from k n)

byte-goes : (s : List ℕ) (e : Bool) (at from p v k n : ℕ) → Step (coding columns.Byte) p v k
    → byte_next s (byte-here e at from p k (suc n)) ≡ drew v (byte-here e at from v k n)
unfolding coding byte_draw byte.next_byte
byte-goes s true at from p v k n st = rw st.key
byte-goes s false at from p v k n st =
    let less : suc n - 1 ≡ n = omega arith in
    rw (lt-ltb 0 (suc n) (omega arith), less, st.key)

byte-begins : (pre q : List ℕ) (e : Bool) (from p l v k n : ℕ) → Follows e q → Step (coding columns.Byte) p v k → stored (coding columns.Byte) e n ≡ true
    → byte_next (pre ++ (spelled (coding columns.Byte) e k n ++ q)) (byte.place_at (length pre) from l 0)
    ≡ drew v (byte-here e (length (pre ++ spelled (coding columns.Byte) e k n)) (length pre) v k n)
unfolding coding byte_draw
byte-begins pre q e from p l v k n nothing st fits = rw (byte_last pre from l k, st.key)
byte-begins pre q e from p l v k n others st fits = rw (byte-first pre q from l k n (less_one n fits), st.key)

unfoldable byte-reader : Reader (coding columns.Byte) byte_next
byte-reader = record {
  place = byte-here;
  goes = byte-goes;
  begins = λ pre q e from p l v k n f st near fits. byte-begins pre q e from p l v k n f st fits;
}

byte-stops : (s : List ℕ) (from l : ℕ) → byte_next s (byte.place_at (length s) from l 0) ≡ stop (at_end s)
unfolding byte_draw byte.next_byte byte.begun
byte-stops s from l = rw (le-leb (length s) (length s) (omega arith))

-- the last value without end
endless : (s : List ℕ) (at from k m : ℕ) → reads (byte_next s) m (byte.endless_at at from k) ≡ record { values = replicate m k; refusal = none }
unfolding reads and_then byte_draw byte.next_byte
endless s at from k zero = refl
endless s at from k (suc m) = rw (endless s at from k m)

byte-at-end : (s : List ℕ) (e : Bool) (from p k : ℕ) → (byte-here e (length s) from p k 0).at ≡ length s
byte-at-end s true from p k = refl
byte-at-end s false from p k = refl

pub byte-drawn-back : (p vs : List ℕ) → why (coding columns.Byte) vs ≡ 0
    → Gives (byte_next (p ++ column (coding columns.Byte) vs)) (λ d. d.at ≡ length (p ++ column (coding columns.Byte) vs)) (byte.start_at (length p)) vs
unfolding byte-reader
byte-drawn-back p vs h = gives_back byte-reader p (length p) 0 (λ s d. d.at ≡ length s) byte-at-end vs h

pub byte-back : (p vs : List ℕ) → why (coding columns.Byte) vs ≡ 0
    → read_bytes (length vs) (p ++ column (coding columns.Byte) vs) (byte.start_at (length p)) ≡ record { values = vs; refusal = none }
unfolding byte-reader
byte-back p vs h = reads-back byte-reader p (length p) 0 vs h

pub byte-on : (p vs : List ℕ) (v m : ℕ) → why (coding columns.Byte) (v ∷ vs) ≡ 0
    → read_bytes (length (v ∷ vs) + m) (p ++ column (coding columns.Byte) (v ∷ vs)) (byte.start_at (length p))
    ≡ record { values = (v ∷ vs) ++ replicate m (get_or (v ∷ vs) (length vs) 0); refusal = none }
unfolding byte-reader coding
byte-on p vs v m h =
    let last : ℕ = get_or (v ∷ vs) (length vs) 0 in
    gives-reads (byte_next (p ++ column (coding columns.Byte) (v ∷ vs))) m (record { values = replicate m last; refusal = none }) (v ∷ vs) (byte.start_at (length p))
    (some byte-reader (λ s x d. reads (byte_next s) m d ≡ record { values = replicate m x; refusal = none })
    (λ s from b x k st. rw st.key (endless s (length s) from k m)) p vs (length p) 0 v h)

pub byte-none : (p : List ℕ) (m : ℕ)
    → read_bytes (suc m) (p ++ column (coding columns.Byte) []) (byte.start_at (length p)) ≡ record { values = []; refusal = at_end (p ++ column (coding columns.Byte) []) }
unfolding byte-reader
byte-none p m = reads_none byte-reader p (length p) 0 m (byte-stops p (length p) 0)
