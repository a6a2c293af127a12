-- Document 01's sentences on columns: a run under way gives its value as often as it is left, and beginning a run is one draw of it.
use Prim.Native.Nat.{ℕ, zero, suc, ◌+◌, ◌-◌, ◌%◌, ◌≤◌}
use mathlib.Core.Path.{◌≡◌, refl}
use mathlib.Core.List.{List}
use native.Mathlib.Omega.{arith}
use lib.ListN.{length, replicate, get_or}
use borrow.Author.Tests.{lt-ltb, le-ltb, le-leb, lt-leb, eq-eqb, ne_eqb}
use Rattle.numbers.specs.Limits.{max_value, max_clock, max_count}
use Rattle.runs.specs.Difference.{zero_key}
use Rattle.columns.specs.declared.number.Answer.TheVariants as number-answer
use Rattle.columns.specs.declared.difference.Answer.TheVariants as difference-answer
use Rattle.columns.specs.Number as number
use Rattle.columns.specs.Difference as difference
use Rattle.columns.specs.Byte as byte
use Rattle.columns.specs.Reading.{drew, number_draw, difference_draw, byte_draw}
use Rattle.sentences.specs.Sentences.{Draws, a_number, a_difference, a_byte, plus, rising, risen, Legal}
use Rattle.sentences.specs.Sentences.{NumberOnce, NumberRun, DifferenceOnce, DifferenceRun, ByteRun, ByteEndless}
use Rattle.sentences.specs.Sentences as sentences

-- ---- the number column

number-drawn : (at from x n : ℕ) → x ≤ max_value → number.drawn (number.place_at at from x (suc n)) ≡ number-answer.Next x (number.place_at at from x n)
unfolding number.drawn
number-drawn at from x n h =
    let less : suc n - 1 ≡ n = omega arith in
    rw (le-ltb max_value x h, less)

number_step : (s : List ℕ) (at from x n : ℕ) → x ≤ max_value → a_number s (number.place_at at from x (suc n)) ≡ drew x (number.place_at at from x n)
unfolding number.next_number number_draw
number_step s at from x n h = rw (lt-ltb 0 (suc n) (omega arith), number-drawn at from x n h)

number-on : (s : List ℕ) (at from x n : ℕ) → x ≤ max_value → Draws (a_number s) (number.place_at at from x n) (replicate n x) (number.place_at at from x 0)
number-on s at from x zero h = refl
number-on s at from x (suc n) h = (number.place_at at from x n, number_step s at from x n h, number-on s at from x n h)

number-once : NumberOnce
unfolding number.next_number number.begun number_draw
number-once s c x e none read h =
    let first : a_number s c ≡ drew x (number.place_at e c.at x 0) =
    rw (none, read, number-drawn e c.at x 0 h) in
    (number.place_at e c.at x 0, first, refl)

number-run : NumberRun
unfolding number.next_number number.begun number.counted number_draw
number-run s c x e n f none read count few h =
    let two : n + 2 ≡ suc (suc n) = omega arith in
    let first : a_number s c ≡ drew x (number.place_at f c.at x (suc n)) =
    rw (none, read, count, le-ltb max_count n few, two, number-drawn f c.at x (suc n) h) in
    (number.place_at f c.at x (suc n), first, number-on s f c.at x (suc n) h)

-- ---- the difference column

difference-drawn : (at from v key n : ℕ) → zero_key ≤ v + key → plus v key ≤ max_clock
    → difference.drawn (difference.place_at at from v key (suc n)) ≡ difference-answer.Next (plus v key) (difference.place_at at from (plus v key) key n)
unfolding difference.drawn
difference-drawn at from v key n low high =
    let less : suc n - 1 ≡ n = omega arith in
    rw (le-ltb (v + key) zero_key low, le-ltb max_clock (v + key - zero_key) high, less)

difference-step : (s : List ℕ) (at from v key n : ℕ) → zero_key ≤ v + key → plus v key ≤ max_clock
    → a_difference s (difference.place_at at from v key (suc n)) ≡ drew (plus v key) (difference.place_at at from (plus v key) key n)
unfolding difference.next_difference difference_draw
difference-step s at from v key n low high = rw (lt-ltb 0 (suc n) (omega arith), difference-drawn at from v key n low high)

difference-on : (s : List ℕ) (at from v key n : ℕ) → Legal v key n
    → Draws (a_difference s) (difference.place_at at from v key n) (rising v key n) (difference.place_at at from (risen v key n) key 0)
unfolding Legal rising risen
difference-on s at from v key zero h = refl
difference-on s at from v key (suc n) h =
    (difference.place_at at from (plus v key) key n, difference-step s at from v key n h.0 h.1, difference-on s at from (plus v key) key n h.2)

difference-once : DifferenceOnce
unfolding difference.next_difference difference.begun difference_draw Legal rising risen
difference-once s c m x e none read inside even h =
    let key : ℕ = difference.key_read m x in
    let first : a_difference s c ≡ drew (plus c.last key) (difference.place_at e c.at (plus c.last key) key 0) =
    rw (none, read, inside, eq-eqb (x % 2) 0 even, difference-drawn e c.at c.last key 0 h.0 h.1) in
    (difference.place_at e c.at (plus c.last key) key 0, first, refl)

difference-run : DifferenceRun
unfolding difference.next_difference difference.begun difference.counted difference_draw Legal rising risen
difference-run s c m x e n f none read inside odd count few h =
    let key : ℕ = difference.key_read m x in
    let two : n + 2 ≡ suc (suc n) = omega arith in
    let first : a_difference s c ≡ drew (plus c.last key) (difference.place_at f c.at (plus c.last key) key (suc n)) =
    rw (none, read, inside, ne_eqb (x % 2) 0 (omega (arith, odd)), count, le-ltb max_count n few, two, difference-drawn f c.at c.last key (suc n) h.0 h.1) in
    (difference.place_at f c.at (plus c.last key) key (suc n), first, difference-on s f c.at (plus c.last key) key (suc n) h.2)

-- ---- the byte column

byte-on : (s : List ℕ) (at from b n : ℕ) → Draws (a_byte s) (byte.place_at at from b n) (replicate n b) (byte.place_at at from b 0)
unfolding byte.next_byte byte_draw
byte-on s at from b zero = refl
byte-on s at from b (suc n) =
    let less : suc n - 1 ≡ n = omega arith in
    let step : a_byte s (byte.place_at at from b (suc n)) ≡ drew b (byte.place_at at from b n) = rw (lt-ltb 0 (suc n) (omega arith), less) in
    (byte.place_at at from b n, step, byte-on s at from b n)

byte-run : ByteRun
unfolding byte.next_byte byte.begun byte.counted byte_draw
byte-run s c n f going none there count few =
    let b : ℕ = get_or s c.at 0 in
    let first : a_byte s c ≡ drew b (byte.place_at f c.at b n) =
    rw (going, none, lt-leb (length s) c.at (omega (arith, there)), lt-leb (length s) (c.at + 1) there, count, le-ltb max_count n few) in
    (byte.place_at f c.at b n, first, byte-on s f c.at b n)

endless-on : (s : List ℕ) (at from b n : ℕ) → Draws (a_byte s) (byte.endless_at at from b) (replicate n b) (byte.endless_at at from b)
unfolding byte.next_byte byte_draw
endless-on s at from b zero = refl
endless-on s at from b (suc n) = (byte.endless_at at from b, refl, endless-on s at from b n)

byte-endless : ByteEndless
unfolding byte.next_byte byte.begun byte_draw
byte-endless s c n going none last =
    let b : ℕ = get_or s c.at 0 in
    let first : a_byte s c ≡ drew b (byte.endless_at (c.at + 1) c.at b) =
    rw (going, none, lt-leb (length s) c.at (omega (arith, last)), le-leb (length s) (c.at + 1) (omega (arith, last))) in
    (byte.endless_at (c.at + 1) c.at b, first, endless-on s (c.at + 1) c.at b n)

pub said : sentences.Sentences
said = record {
  number_once = number-once;
  number_run = number-run;
  difference_once = difference-once;
  difference_run = difference-run;
  byte_run = byte-run;
  byte_endless = byte-endless;
}
