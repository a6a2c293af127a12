-- Form 1: written tokens are drawn again, each in line.
use Prim.Native.Nat.{ℕ, ◌+◌, ◌^◌, ◌≤◌, ◌<◌}
use mathlib.Core.Path.{◌≡◌, refl, sym, ap}
use mathlib.Core.Bool.{true}
use mathlib.Core.List.{List, [], ◌∷◌, ◌++◌}
use native.Mathlib.Omega.{arith}
use lib.ListN.{length}
use Rattle.numbers.specs.Number.{unsigned}
use Rattle.text.specs.Utf8.{well_formed, units_of}
use Rattle.grammar.specs.Grammar as grammar
use Rattle.grammar.specs.Course.{got, CourseTo, thing, over, stopped, run, ending}
use Rattle.grammar.specs.Blocks.{all_blocks}
use Rattle.decoder.specs.Line.{up_to, number_by, checked, word_of, line}
use Rattle.decoder.specs.Update.{blocks_of}
use Rattle.leftover.specs.Leftover.{Stretch, columns_left}
use Rattle.leftover.specs.LeftoverInner.{Spent}
use Rattle.readings.specs.Sound.{bytes_in}
use Rattle.tokens.specs.Tokens.{Token, field, text, var, buf, key, value, values, led, inlined, taken, taken_all, in_line, lane, whole}
use Rattle.tokens.specs.Bytes.{form1}
use Rattle.draws.specs.Draws.{lane_field, Draws, most, is_field, LegalValue, Legal, AllLegal, Lined, DrawnAgain}
use Rattle.draws.proofs.Standing.{From, at-end, past, past-length, var-here, byte-here, behind, part_of, led-bytes, led-past, bytes-here, bytes_read, values-here, values-bytes}
use Rattle.draws.proofs.Fields.{by_field, bounded-in}

-- ---- a token

module _ (u : List ℕ) (at : ℕ) (q : List ℕ) where
  abbrev Drawn : ℕ → ℕ → Type 0
  Drawn v k = v ≤ most k → From u at (inlined k v ++ q) → line 1 u (grammar.number (lane_field k)) at ≡ got (v, at) (at + length (inlined k v))

  numbered : (m v : ℕ) → m < 2 ^ 63 → v ≤ m → From u at (unsigned v ++ q) → up_to m u at ≡ got (v, at) (at + length (unsigned v))
  unfolding up_to
  numbered m v l h w = rw (var-here u at v q w (omega arith)) (bounded-in m v at (at + length (unsigned v)) h)

  field-here : (k v : ℕ) → is_field k ≡ true → Drawn v k
  unfolding line number_by lane_field most inlined
  field-here k v h = by_field (Drawn v)
      (λ l w. numbered 9007199254740991 v (omega arith) l w)
      (λ l w. numbered 2147483647 v (omega arith) l w)
      (λ l w. numbered 2147483647 v (omega arith) l w)
      (λ l w. byte-here u at v q w)
      (λ l w. numbered 2147483647 v (omega arith) (omega arith) w)
      (λ l w. var-here u at v q w (omega arith))
      (λ l w. numbered 2147483647 v (omega arith) l w)
      k h

  text-here : (b : List ℕ) → well_formed b ≡ true → length b < 2 ^ 63 → From u at (led b ++ q)
      → line 1 u grammar.text at ≡ got (part_of (behind at b) b, record { 0 = units_of b }) (behind at b + length b)
  unfolding line checked bytes_in
  text-here b w l h = rw (bytes_read u at b q h l, bytes-here u at b q h, w)

  -- a key, and a mark's value: the bytes of a text
  key_here : (b : List ℕ) → well_formed b ≡ true → length b < 2 ^ 63 → From u at (led b ++ q)
      → line 1 u grammar.key at ≡ got (part_of (behind at b) b) (behind at b + length b)
  unfolding line word_of
  key_here b w l h = ap word_of (text-here b w l h)

  value-here : (b : List ℕ) → well_formed b ≡ true → length b < 2 ^ 63 → From u at (led b ++ q) → (blame : ℕ)
      → line 1 u (grammar.value blame) at ≡ got (part_of (behind at b) b) (behind at b + length b)
  unfolding line
  value-here b w l h blame = key_here b w l h

-- ---- one after the other

module _ (u : List ℕ) (l : length u < 2 ^ 62) where
  -- bytes that stand in u are few enough to be led
  few : (at : ℕ) (b q : List ℕ) → From u at (led b ++ q) → length b < 2 ^ 63
  few at b q h = omega (arith, past-length u (behind at b) b q (led-bytes u at b q h))

  line-from : (ts : List Token) → AllLegal 1 ts → (at : ℕ) → From u at (taken_all whole ts) → (t : ℕ) × Draws (line 1 u) u at ts t × From u t []
  unfolding AllLegal Legal LegalValue Draws taken_all taken line number_by
  line-from [] a at h = (at, refl, h)
  line-from (field k v ∷ ts) a at h =
      let q : List ℕ = taken_all whole ts in
      let m : ℕ = at + length (inlined k v) in
      let r = line-from ts a.1 m (past u at (inlined k v) q h) in
      (r.0, (at, m, field-here u at q k v a.0.0 a.0.1 h, r.1), r.2)
  line-from (text b n ∷ ts) a at h =
      let q : List ℕ = taken_all whole ts in
      let m : ℕ = behind at b + length b in
      let r = line-from ts a.1 m (led-past u at b q h) in
      let e = rw a.0.1 at (text-here u at q b a.0.0 (few at b q h) h) in
      (r.0, (part_of (behind at b) b, m, e, bytes-here u at b q h, r.1), r.2)
  line-from (var v ∷ ts) a at h =
      let q : List ℕ = taken_all whole ts in
      let m : ℕ = at + length (unsigned v) in
      let r = line-from ts a.1 m (past u at (unsigned v) q h) in
      (r.0, (at, m, var-here u at v q h a.0, r.1), r.2)
  line-from (buf b ∷ ts) a at h =
      let q : List ℕ = taken_all whole ts in
      let m : ℕ = behind at b + length b in
      let r = line-from ts a.1 m (led-past u at b q h) in
      (r.0, (part_of (behind at b) b, m, bytes_read u at b q h a.0, bytes-here u at b q h, r.1), r.2)
  line-from (key b n ∷ ts) a at h =
      let q : List ℕ = taken_all whole ts in
      let m : ℕ = behind at b + length b in
      let r = line-from ts a.1 m (led-past u at b q h) in
      (r.0, (part_of (behind at b) b, m, key_here u at q b a.0.0 (few at b q h) h, bytes-here u at b q h, r.1), r.2)
  line-from (value b ∷ ts) a at h =
      let q : List ℕ = taken_all whole ts in
      let m : ℕ = behind at b + length b in
      let r = line-from ts a.1 m (led-past u at b q h) in
      let w = a.0.0 refl in
      (r.0, (part_of (behind at b) b, m, value-here u at q b w.0 w.1 h, bytes-here u at b q h, r.1), r.2)
  line-from (values b ∷ ts) a at h =
      let q : List ℕ = taken_all whole ts in
      let m : ℕ = at + length b in
      let r = line-from ts a.1 m (past u at b q h) in
      (r.0, (part_of at b, m, values-here u at b q h, values-bytes u at b q h, r.1), r.2)

lined : (form : ℕ) (u : List ℕ) → Lined form u (line form u) (λ at. at)
unfolding line number_by up_to
lined form u = record { bounds = λ n at. refl; any = λ v p at m e. e }

-- form 1 has no columns
ending-none : {S E A : Type 0} (c : CourseTo S E A) → ◌≡◌ {A = List Stretch} (ending c (λ s. []) (λ why. [])) []
unfolding ending
ending-none (thing e p c) = ending-none c
ending-none (over a s) = refl
ending-none (stopped why) = refl

pub line-draws : (ts : List Token) → AllLegal 1 ts → length (form1 ts) < 2 ^ 62 → DrawnAgain 1 (form1 ts) ts
unfolding form1 lane in_line blocks_of columns_left Spent
line-draws ts a l =
    let r = line-from (taken_all whole ts) l ts a 0 (record { inside = omega arith; here = refl }) in
    record {
      State = ℕ;
      reader = line 1 (taken_all whole ts);
      place = λ at. at;
      lined = lined 1 (taken_all whole ts);
      first = 0;
      last = r.0;
      drawn = r.1;
      left = λ s. [];
      stays = λ v p s m e. refl;
      columns = sym (ending-none (run (line 1 (taken_all whole ts)) all_blocks 0));
      spent = tt;
      whole = at-end (taken_all whole ts) r.0 r.2;
      leave = λ c. c;
      leaves = λ b p c. refl;
      leaves-over = λ s. refl;
      blocks = refl;
    }
