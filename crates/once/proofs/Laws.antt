-- The laws of one pass: how long a run is, what is put where room may be short, and what the loop over the values keeps: they are judged so far, and put
-- so far or known to have no room.
use Prim.Native.Nat.{ℕ, zero, suc, ◌+◌, ◌-◌, ◌/◌, ◌%◌, ◌≤◌, ◌<◌}
use mathlib.Core.Path.{◌≡◌, refl, sym, ap, ◌∙◌}
use mathlib.Core.Bool.{Bool, true, false}
use mathlib.Core.Logic.{◌⊎◌, inr, ⊎_elim}
use mathlib.Core.List.{List, [], ◌∷◌, ◌++◌}
use native.Mathlib.Omega.{arith}
use lib.Dec.{ltb, leb, eqb}
use lib.ListN.{length, take, drop, get_or, length-append}
use lib.Seq.{sets, split_at, length-sets}
use borrow.Author.Tests.{le-leb, lt-leb, leb-true, leb-false, lt-ltb, le-ltb, eqb-true, eqb-false, eq-eqb, ne_eqb}
use Rattle.numbers.specs.Number.{pick, spell, unsigned, signed}
use Rattle.numbers.specs.Limits.{max_value, max_clock}
use Rattle.numbers.specs.Output.{padded, written, put}
use Rattle.numbers.specs.OutputInner.{refusal}
use Rattle.numbers.proofs.Output.{verdict-why, verdict-room, refused-answer, refused-bytes}
use Rattle.runs.specs.declared.ColumnKind.{ColumnKind}
use Rattle.runs.specs.declared.ColumnKind.TheVariants.{Number, Difference, Byte}
use Rattle.runs.specs.declared.writer.Writer.{Writer}
use Rattle.runs.specs.Difference.{key_between}
use Rattle.runs.specs.Runs.{coding, near_key, column_of, why_of}
use Rattle.runs.specs.RunsInner.{signed_run}
use Rattle.runs.specs.Writer.{Judge, ends, key_after, emitted, finished, moved, pushed, run_fits, last_fits_in, over_limit, goes_on, judged, sentence}
use Rattle.runs.proofs.Writing.{number-run, difference-run, byte-length, key-most}
use Rattle.runs.proofs.Standing.{why_ahead, holds-room}
use Rattle.runs.proofs.Slices.{JudgedTo, judge-begin, judge-on, judge-over, PutTo, put-begin, put_on, put-over}
use Rattle.once.specs.Once.{ends_run, ended_run, went_to, out_at, judged_so, end_answer, end_bytes}

-- ---- no run has more than 21 bytes

spell-length : (k x : ℕ) → length (spell k x) ≤ k
unfolding spell
spell-length zero x = omega arith
spell-length (suc k) x = go (ltb x 128) (spell-length k (x / 128))
  where
    go : (b : Bool) → length (spell k (x / 128)) ≤ k → length (pick b (x ∷ []) ((x % 128 + 128) ∷ spell k (x / 128))) ≤ suc k
    go true more = omega arith
    go false more = omega arith

signed-length : (m : Bool) (x : ℕ) → length (signed m x) ≤ 11
unfolding signed unsigned
signed-length m x = go (ltb x 64)
  where
    go : (b : Bool) → length (pick b ((x + pick m 64 0) ∷ []) ((x % 64 + pick m 64 0 + 128) ∷ spell 10 (x / 64))) ≤ 11
    go true = omega arith
    go false = omega (arith, spell-length 10 (x / 64))

signed-run-length : (m : Bool) (x n : ℕ) → length (signed_run m x n) ≤ 21
unfolding signed_run unsigned
signed-run-length m x n = go (eqb n 0)
  where
    go : (b : Bool) → length (signed m x ++ pick b [] (spell 10 (n - 1))) ≤ 21
    go true = omega (arith, length-append (signed m x) [], signed-length m x)
    go false = omega (arith, length-append (signed m x) (spell 10 (n - 1)), signed-length m x, spell-length 10 (n - 1))

pub run_short : (col : ColumnKind) (k n : ℕ) → length ((coding col).spell k n) ≤ 21
unfolding coding unsigned
run_short Number k n = rw (number-run k n) (signed-run-length _ _ n)
run_short Difference k n = rw (difference-run k n) (signed-run-length _ _ n)
run_short Byte k n = omega (arith, byte-length k n, spell-length 10 n)

-- ---- where room may be short

module _ (n at : ℕ) (b : List ℕ) where
  pub went-in : at + length b ≤ n → went_to n at b ≡ at + length b
  unfolding went_to
  went-in h = rw (le-leb (at + length b) n h)

  pub went-past : n < at + length b → went_to n at b ≡ n + 1
  unfolding went_to
  went-past h = rw (lt-leb (at + length b) n h)

module _ (out : List ℕ) (at : ℕ) (b : List ℕ) where
  pub out-in : at + length b ≤ length out → out_at out at b ≡ sets out at b
  unfolding out_at
  out-in h = rw (le-leb (at + length b) (length out) h)

  pub out-past : length out < at + length b → out_at out at b ≡ out
  unfolding out_at
  out-past h = rw (lt-leb (at + length b) (length out) h)

-- nothing is put: the place stays
pub went-none : (n at : ℕ) → at ≤ n + 1 → went_to n at [] ≡ at
unfolding went_to
went-none n at h = go (leb (at + 0) n) refl
  where
    go : (t : Bool) → leb (at + 0) n ≡ t → pick t (at + 0) (n + 1) ≡ at
    go true e = omega arith
    go false e = omega (arith, leb-false (at + 0) n e)

pub out_none : (out : List ℕ) (at : ℕ) → out_at out at [] ≡ out
unfolding out_at
out_none out at = go (leb (at + 0) (length out))
  where
    go : (t : Bool) → pick t (sets out at []) out ≡ out
    go true = refl
    go false = refl

module _ (key count k : ℕ) where
  pub ended-none : (col : ColumnKind) → ends_run key count k ≡ false → ended_run col key count k ≡ []
  unfolding ended_run
  ended-none col e = rw e

  pub ended_some : (col : ColumnKind) → ends_run key count k ≡ true → ended_run col key count k ≡ (coding col).spell key (count - 1)
  unfolding ended_run
  ended_some col e = rw e

  pub ends-count : ends_run key count k ≡ true → 0 < count
  unfolding ends_run
  ends-count e = go (eqb count 0) refl e
    where
      go : (t : Bool) → eqb count 0 ≡ t → pick t false (pick (eqb k key) false true) ≡ true → 0 < count
      go true z p = absurd (let y : ◌≡◌ {A = ℕ} 0 1 = cc in omega arith)
      go false z p = let ne = eqb-false count 0 z in omega arith

-- ---- refusals

-- a refusal of the values: its number, no bytes, zeros
pub refused-by : (y n : ℕ) (b : List ℕ) (v : ℕ) → y ≡ v → (v ≡ 0 → ⊥) → (refusal v ≡ written y n b) × (padded n [] ≡ put y n b)
refused-by y n b v e ne =
    let is = verdict-why y n b (λ z. ne (sym e ∙ z)) ∙ e in
    (refused-answer y n b v is ne, refused-bytes y n b v is ne)

-- ---- the end, case by case

module _ (out : List ℕ) (w : Writer) (far : Bool) where
  pub end-three : last_fits_in w ≡ false → (end_answer out w far ≡ refusal 3) × (end_bytes out w far ≡ padded (length out) [])
  unfolding end_answer end_bytes sentence
  end-three e = (rw e, rw e)

  pub end-thirteen : last_fits_in w ≡ true → far ≡ true → (end_answer out w far ≡ refusal 13) × (end_bytes out w far ≡ padded (length out) [])
  unfolding end_answer end_bytes sentence
  end-thirteen e f = (rw (e, f), rw (e, f))

  pub end-ten : last_fits_in w ≡ true → far ≡ false → length out < w.at → (end_answer out w far ≡ refusal 10) × (end_bytes out w far ≡ padded (length out) [])
  unfolding end_answer end_bytes sentence
  end-ten e f h = let l = lt-leb w.at (length out) h in (rw (e, f, l), rw (e, f, l))

  pub end-close : last_fits_in w ≡ true → far ≡ false → w.at ≤ length out
      → (end_answer out w far ≡ written 0 (length out) (take w.at out ++ finished w)) × (end_bytes out w far ≡ put 0 (length out) (take w.at out ++ finished w))
  unfolding end_answer end_bytes sentence
  end-close e f h = let l = le-leb w.at (length out) h in (rw (e, f, l), rw (e, f, l))

-- ---- the loop

abbrev pub state : ColumnKind → ℕ → ℕ → ℕ → ℕ → Writer
state col at last key count = record { column = col; at = at; last = last; key = key; count = count }

-- of the values vs, i were judged, and are put into what was e, from a place on; or e is too short for all
pub record Wrote (col : ColumnKind) (e : List ℕ) (from : ℕ) (vs : List ℕ) (i at last key count : ℕ) (far : Bool) (out : List ℕ) : Type 0 where
  pub judged-so : JudgedTo col vs i (judged_so (state col at last key count) far)
  pub size : length out ≡ length e
  pub near : at ≤ length e + 1
  pub put-so : at ≤ length e → PutTo col e from vs i (state col at last key count) out
  pub short : length e < at → length e < from + length (column_of col vs)

judge-from : (col : ColumnKind) (vs : List ℕ) (at : ℕ) → JudgedTo col vs 0 (judged_so (state col at 0 0 0) false)
unfolding why_ahead
judge-from col vs at = let b = judge-begin col vs in record { same = b.same; sound = b.sound; few = b.few; here = b.here }

pub wrote-begin : (col : ColumnKind) (e : List ℕ) (from : ℕ) (vs : List ℕ) → from ≤ length e + 1 → Wrote col e from vs 0 from 0 0 0 false e
wrote-begin col e from vs n = record {
  judged-so = judge-from col vs from;
  size = refl;
  near = n;
  put-so = λ h. put-begin col e from vs h;
  short = λ h. omega arith;
}

module _ (col : ColumnKind) (e : List ℕ) (from : ℕ) (vs : List ℕ) (i at last key count : ℕ) (far : Bool) (out : List ℕ)
    (h : Wrote col e from vs i at last key count far out) where
  abbrev w : Writer
  w = state col at last key count

  abbrev j : Judge
  j = judged_so w far

  abbrev v : ℕ
  v = get_or vs i 0

  abbrev k : ℕ
  k = (coding col).key_of last v

  over-three : (rest : List ℕ) → why_ahead (over_limit j) rest ≡ 3
  unfolding why_ahead
  over-three rest = refl

  refused-so : i < length vs → judged j v ≡ over_limit j → why_of col vs ≡ 3
  refused-so l o =
      sym (judge-on col vs i j h.judged-so l).same ∙ ap (λ (x : Judge). why_ahead x (drop (i + 1) vs)) o ∙ over-three (drop (i + 1) vs)

  -- a value over the limit, and a run that cannot be stored
  pub wrote-over : i < length vs → (coding col).most < v → why_of col vs ≡ 3
  unfolding judged
  wrote-over l m = refused-so l (rw (lt-ltb (coding col).most v m))

  pub wrote-unfit : i < length vs → v ≤ (coding col).most → pick (ends_run key count k) ((coding col).fits (count - 1)) true ≡ false → why_of col vs ≡ 3
  unfolding judged run_fits ends key_after ends_run
  wrote-unfit l m f = refused-so l (rw (le-ltb (coding col).most v m, f))

  goes_on_lem : v ≤ (coding col).most → pick (ends_run key count k) ((coding col).fits (count - 1)) true ≡ true → judged j v ≡ goes_on j v
  unfolding judged run_fits ends key_after ends_run
  goes_on_lem m f = rw (le-ltb (coding col).most v m, f)

  few-more : (b : Bool) → pick b 1 (count + 1) ≤ i + 1
  few-more true = omega arith
  few-more false = omega (arith, h.judged-so.few)

  judged-on : i < length vs → v ≤ (coding col).most → pick (ends_run key count k) ((coding col).fits (count - 1)) true ≡ true → (at' : ℕ)
      → JudgedTo col vs (i + 1) (judged_so (state col at' v k (pick (ends_run key count k) 1 (count + 1))) (pick ((coding col).near k) far true))
  unfolding why_ahead moved ends key_after ends_run
  judged-on l m f at' =
      let t = judge-on col vs i j h.judged-so l in
      record {
        same = ap (λ (x : Judge). why_ahead x (drop (i + 1) vs)) (sym (goes_on_lem m f)) ∙ t.same;
        sound = (m, key-most col last v m);
        few = few-more (ends_run key count k);
        here = omega arith;
      }

  abbrev b : List ℕ
  b = ended_run col key count k

  put-more : i < length vs → v ≤ (coding col).most → at + length b ≤ length out
      → PutTo col e from vs (i + 1) (state col (at + length b) v k (pick (ends_run key count k) 1 (count + 1))) (sets out at b)
  unfolding emitted ends key_after ends_run ended_run pushed moved
  put-more l m fits = put_on col e from vs i w out (h.put-so (omega (arith, h.size))) l m fits

  no_room : i < length vs → length out < at + length b → length e < from + length (column_of col vs)
  unfolding emitted ends key_after ends_run ended_run
  no_room l past = go (leb at (length e)) refl
    where
      go : (t : Bool) → leb at (length e) ≡ t → length e < from + length (column_of col vs)
      go true q =
          let r = holds-room col e from (take i vs) w out (h.put-so (leb-true at (length e) q)).holds v (drop (suc i) vs) in
          omega (arith, r, past, h.size, ap (λ (xs : List ℕ). length (column_of col xs)) (split_at vs i 0 l))
      go false q = h.short (leb-false at (length e) q)

  pub wrote_on : i < length vs → v ≤ (coding col).most → pick (ends_run key count k) ((coding col).fits (count - 1)) true ≡ true
      → Wrote col e from vs (i + 1) (went_to (length out) at (ended_run col key count k)) v k (pick (ends_run key count k) 1 (count + 1)) (pick ((coding col).near k) far true)
      (out_at out at (ended_run col key count k))
  unfolding went_to out_at
  wrote_on l m f = go (leb (at + length b) (length out)) refl
    where
      go : (t : Bool) → leb (at + length b) (length out) ≡ t
          → Wrote col e from vs (i + 1) (pick t (at + length b) (length out + 1)) v k (pick (ends_run key count k) 1 (count + 1)) (pick ((coding col).near k) far true) (pick t (sets out at b) out)
      go true q =
          let fits = leb-true (at + length b) (length out) q in
          record {
            judged-so = judged-on l m f (at + length b);
            size = length-sets out at b ∙ h.size;
            near = omega (arith, h.size);
            put-so = λ _. put-more l m fits;
            short = λ s. absurd (omega (arith, h.size));
          }
      go false q =
          let past = leb-false (at + length b) (length out) q in
          record {
            judged-so = judged-on l m f (length out + 1);
            size = h.size;
            near = omega (arith, h.size);
            put-so = λ s. absurd (omega (arith, h.size));
            short = λ s. no_room l past;
          }

  -- what the end answers is the column behind what stood there, the bytes all, or its refusal
  pub wrote-end : (all : List ℕ) → (from ≤ length e → take from e ++ column_of col vs ≡ all) → (length e < from + length (column_of col vs) → length e < length all)
      → length vs ≤ i → (end_answer out w far ≡ written (why_of col vs) (length e) all) × (end_bytes out w far ≡ put (why_of col vs) (length e) all)
  unfolding end_answer end_bytes
  wrote-end all whole long l = go (eqb (sentence j) 0) refl
    where
      said : sentence j ≡ why_of col vs
      said = judge-over col vs i j h.judged-so l

      go : (t : Bool) → eqb (sentence j) 0 ≡ t
          → (pick t (pick (leb at (length out)) (written 0 (length out) (take at out ++ finished w)) (refusal 10)) (refusal (sentence j)) ≡ written (why_of col vs) (length e) all)
          × (pick t (pick (leb at (length out)) (put 0 (length out) (take at out ++ finished w)) (padded (length out) [])) (padded (length out) []) ≡ put (why_of col vs) (length e) all)
      go true q = room (leb at (length out)) refl
        where
          why : why_of col vs ≡ 0
          why = sym said ∙ eqb-true (sentence j) 0 q

          room : (t : Bool) → leb at (length out) ≡ t
              → (pick t (written 0 (length out) (take at out ++ finished w)) (refusal 10) ≡ written (why_of col vs) (length e) all)
              × (pick t (put 0 (length out) (take at out ++ finished w)) (padded (length out) []) ≡ put (why_of col vs) (length e) all)
          room true r =
              let p = h.put-so (omega (arith, leb-true at (length out) r, h.size)) in
              let f : from ≤ length e = omega (arith, leb-true at (length out) r, h.size, p.holds.stands.place) in
              let o = put-over col e from vs i w out p l f ∙ whole f in
              (rw (why, o, h.size), rw (why, o, h.size))
          room false r =
              let v10 = verdict-room (why_of col vs) (length e) all why (long (h.short (omega (arith, leb-false at (length out) r, h.size)))) in
              (refused-answer (why_of col vs) (length e) all 10 v10 (λ z. omega arith), rw h.size (refused-bytes (why_of col vs) (length e) all 10 v10 (λ z. omega arith)))
      go false q =
          let r = refused-by (why_of col vs) (length e) all (sentence j) (sym said) (eqb-false (sentence j) 0 q) in
          (r.0, rw h.size r.1)

-- the same of a column by itself
module _ (col : ColumnKind) (e vs : List ℕ) (i at last key count : ℕ) (far : Bool) (out : List ℕ) (h : Wrote col e 0 vs i at last key count far out) where
  pub wrote-whole : length vs ≤ i
      → (end_answer out (state col at last key count) far ≡ written (why_of col vs) (length e) (column_of col vs)) × (end_bytes out (state col at last key count) far ≡ put (why_of col vs) (length e) (column_of col vs))
  wrote-whole l = wrote-end col e 0 vs i at last key count far out h (column_of col vs) (λ f. refl) (λ f. omega arith) l

-- ---- the same of differences: a value that goes on with the run, and one that ends it

-- the key of no run yet, or of one that begins where it is told whether it is far
abbrev pub FarSo : ℕ → Bool → Type 0
FarSo key far = (key ≡ 0) ⊎ (pick ((coding Difference).near key) far true ≡ far)

far-again : (n far : Bool) → pick n (pick n far true) true ≡ pick n far true
far-again true far = refl
far-again false far = refl

pub far-so : (k : ℕ) (far : Bool) → FarSo k (pick ((coding Difference).near k) far true)
far-so k far = inr (far-again ((coding Difference).near k) far)

ends_same : (key count : ℕ) → ends_run key count key ≡ false
unfolding ends_run
ends_same key count = rw (eq-eqb key key refl) (go (eqb count 0))
  where
    go : (t : Bool) → ◌≡◌ {A = Bool} (pick t false false) false
    go true = refl
    go false = refl

-- a key that is not the run's stands once
once-new : (key count k : ℕ) → (k ≡ key → ⊥) → pick (ends_run key count k) 1 (count + 1) ≡ 1
unfolding ends_run
once-new key count k ne = rw (ne_eqb k key ne) (go (eqb count 0) refl)
  where
    go : (t : Bool) → eqb count 0 ≡ t → pick (pick t false true) 1 (count + 1) ≡ 1
    go true z = omega (arith, eqb-true count 0 z)
    go false z = refl

module _ (e vs : List ℕ) (i at last key count : ℕ) (far : Bool) (out : List ℕ) (h : Wrote Difference e 0 vs i at last key count far out) (l : i < length vs) where
  pub difference-over : max_clock < get_or vs i 0 → why_of Difference vs ≡ 3
  unfolding coding
  difference-over m = wrote-over Difference e 0 vs i at last key count far out h l m

  abbrev step : ℕ
  step = key_between last (get_or vs i 0)

  module _ (m : get_or vs i 0 ≤ max_clock) where
    pub difference-unfit : pick (ends_run key count step) ((coding Difference).fits (count - 1)) true ≡ false → why_of Difference vs ≡ 3
    unfolding coding
    difference-unfit f = wrote-unfit Difference e 0 vs i at last key count far out h l m f

    some : last ≤ max_clock → (step ≡ 0 → ⊥)
    some b z = omega arith

    pub difference-same : last ≤ max_clock → step ≡ key → FarSo key far → Wrote Difference e 0 vs (i + 1) at (get_or vs i 0) key (count + 1) far out
    unfolding coding
    difference-same b q f =
        let no = ends_same key count in
        let w = wrote_on Difference e 0 vs i at last key count far out h l m (rw (q, no)) in
        rw (q, ended-none key count key Difference no, no, went-none (length out) at (omega (arith, h.near, h.size)), out_none out at, near-so) at w
      where
        near-so : pick (near_key key) far true ≡ far
        near-so = ⊎_elim (λ z. absurd (some b (q ∙ z))) (λ g. g) f

    pub difference-new : (step ≡ key → ⊥) → pick (ends_run key count step) ((coding Difference).fits (count - 1)) true ≡ true
        → Wrote Difference e 0 vs (i + 1) (went_to (length out) at (ended_run Difference key count step)) (get_or vs i 0) step 1 (pick ((coding Difference).near step) far true)
        (out_at out at (ended_run Difference key count step))
    unfolding coding
    difference-new ne f = rw (once-new key count step ne) at (wrote_on Difference e 0 vs i at last key count far out h l m f)

-- ---- the same of numbers, each its own key, none of them far

module _ (e : List ℕ) (from : ℕ) (vs : List ℕ) (i at key count : ℕ) (out : List ℕ) (h : Wrote Number e from vs i at key key count false out) (l : i < length vs) where
  pub number-over : max_value < get_or vs i 0 → why_of Number vs ≡ 3
  unfolding coding
  number-over m = wrote-over Number e from vs i at key key count false out h l m

  pub number-unfit : get_or vs i 0 ≤ max_value → pick (ends_run key count (get_or vs i 0)) ((coding Number).fits (count - 1)) true ≡ false → why_of Number vs ≡ 3
  unfolding coding
  number-unfit m f = wrote-unfit Number e from vs i at key key count false out h l m f

  pub number-on : get_or vs i 0 ≤ max_value → pick (ends_run key count (get_or vs i 0)) ((coding Number).fits (count - 1)) true ≡ true
      → Wrote Number e from vs (i + 1) (went_to (length out) at (ended_run Number key count (get_or vs i 0))) (get_or vs i 0) (get_or vs i 0)
      (pick (ends_run key count (get_or vs i 0)) 1 (count + 1)) false (out_at out at (ended_run Number key count (get_or vs i 0)))
  unfolding coding
  number-on m f = wrote_on Number e from vs i at key key count false out h l m f

-- ---- the same of bytes: each is its own key, and none is far

module _ (e vs : List ℕ) (i at key count : ℕ) (out : List ℕ) (h : Wrote Byte e 0 vs i at key key count false out) (l : i < length vs) (m : get_or vs i 0 < 256) where
  pub byte-unfit : pick (ends_run key count (get_or vs i 0)) ((coding Byte).fits (count - 1)) true ≡ false → why_of Byte vs ≡ 3
  unfolding coding
  byte-unfit f = wrote-unfit Byte e 0 vs i at key key count false out h l (omega arith) f

  pub byte-on : pick (ends_run key count (get_or vs i 0)) ((coding Byte).fits (count - 1)) true ≡ true
      → Wrote Byte e 0 vs (i + 1) (went_to (length out) at (ended_run Byte key count (get_or vs i 0))) (get_or vs i 0) (get_or vs i 0)
      (pick (ends_run key count (get_or vs i 0)) 1 (count + 1)) false (out_at out at (ended_run Byte key count (get_or vs i 0)))
  unfolding coding
  byte-on f = wrote_on Byte e 0 vs i at key key count false out h l (omega arith) f
