-- What stands in bytes from a place on, and what is read there in line: a number, a byte, bytes led by their length, plain values.
use Prim.Native.Nat.{ℕ, suc, ◌+◌, ◌-◌, ◌^◌, ◌≤◌, ◌<◌}
use mathlib.Core.Path.{◌≡◌, sym, ap, ◌∙◌}
use mathlib.Core.List.{List, [], ◌∷◌, ◌++◌, append_assoc}
use native.Mathlib.Omega.{arith}
use lib.ListN.{length, take, drop, get_or, length-append, length-drop, get_or-append}
use lib.Seq.{slice, length-take-le, drop-append_seam, take-append_seam, drop-drop, take-add, drop_at, drop-cons, get_or-drop}
use borrow.Author.Tests.{le-ltb, lt-leb}
use Rattle.numbers.specs.declared.Read.TheVariants as read
use Rattle.numbers.specs.Number.{unsigned, answer_at, read_unsigned}
use Rattle.numbers.proofs.Laws.{spell-fuel, spelt-spell}
use Rattle.text.specs.declared.Part.{Part}
use Rattle.anys.specs.declared.Skipped.TheVariants.{At}
use Rattle.anys.specs.Any.{anys}
use Rattle.anys.proofs.Moves.{Alike, anys-moved}
use Rattle.grammar.specs.Course.{got}
use Rattle.decoder.specs.Line.{number_at, var_at, byte_at, so_many, bytes_at, spanned, values_at}
use Rattle.readings.specs.Sound.{bytes_in}
use Rattle.tokens.specs.Tokens.{led}
use Rattle.draws.specs.Draws.{AreAll}

-- q stands in u from a place to the end
pub record From (u : List ℕ) (at : ℕ) (q : List ℕ) : Type 0 where
  pub inside : at ≤ length u
  pub here : drop at u ≡ q

-- where nothing stands, the bytes end
pub at-end : (u : List ℕ) (at : ℕ) → From u at [] → at ≡ length u
at-end u at h = omega (arith, h.inside, length-drop at u, ap length h.here)

module _ (u : List ℕ) (at : ℕ) (a q : List ℕ) (h : From u at (a ++ q)) where
  pub past-length : at + length a + length q ≡ length u
  past-length = omega (arith, h.inside, length-drop at u, ap length h.here ∙ length-append a q)

  pub past : From u (at + length a) q
  past = record { inside = omega (arith, past-length); here = sym (drop-drop (length a) at u) ∙ ap (drop (length a)) h.here ∙ drop-append_seam a q }

  -- u up to the end of a
  pub front : take (at + length a) u ≡ take at u ++ a
  front = take-add at (length a) u ∙ ap (λ (l : List ℕ). take at u ++ take (length a) l) h.here ∙ ap (λ (l : List ℕ). take at u ++ l) (take-append_seam a q)

  pub part-here : slice at (at + length a) u ≡ a
  part-here = ap (drop at) front ∙ drop_at (take at u) a at (length-take-le at u h.inside)

-- ---- numbers

module _ (u : List ℕ) (at x : ℕ) (q : List ℕ) (h : From u at (unsigned x ++ q)) (l : x < 2 ^ 63) where
  pub read_here : read_unsigned u at ≡ read.Number x (at + length (unsigned x))
  unfolding read_unsigned answer_at unsigned
  read_here = rw (h.here, spell-fuel 9 8 x (omega arith) l, spelt-spell 8 at x q l)

  pub var-here : var_at u at ≡ got (x, at) (at + length (unsigned x))
  unfolding var_at number_at
  var-here = rw read_here

pub byte-here : (u : List ℕ) (at x : ℕ) (q : List ℕ) → From u at (x ∷ q) → byte_at u at ≡ got (x, at) (at + 1)
unfolding byte_at
byte-here u at x q h =
    let l : at < length u = omega (arith, h.inside, length-drop at u, ap length h.here) in
    let c : drop at u ≡ get_or u at 0 ∷ drop (suc at) u = drop-cons u at 0 l in
    let e : drop at u ≡ x ∷ q = h.here in
    let v : get_or u at 0 ≡ x = cc in
    rw (lt-leb (length u) at l, v)

-- ---- bytes led by their length

-- where the bytes begin
abbrev pub behind : ℕ → List ℕ → ℕ
behind at b = at + length (unsigned (length b))

abbrev pub part_of : ℕ → List ℕ → Part
part_of from b = record { place = from; bytes = record { 0 = length b } }

module _ (u : List ℕ) (at : ℕ) (b q : List ℕ) (h : From u at (led b ++ q)) where
  led-apart : From u at (unsigned (length b) ++ (b ++ q))
  led-apart = record { inside = h.inside; here = h.here ∙ append_assoc (unsigned (length b)) b q }

  pub led-bytes : From u (behind at b) (b ++ q)
  led-bytes = past u at (unsigned (length b)) (b ++ q) led-apart

  pub led-past : From u (behind at b + length b) q
  led-past = past u (behind at b) b q led-bytes

  pub bytes-here : bytes_in u (part_of (behind at b) b) ≡ b
  unfolding bytes_in
  bytes-here = part-here u (behind at b) b q led-bytes

pub bytes_read : (u : List ℕ) (at : ℕ) (b q : List ℕ) → From u at (led b ++ q) → length b < 2 ^ 63
    → bytes_at u at ≡ got (part_of (behind at b) b) (behind at b + length b)
unfolding bytes_at so_many
bytes_read u at b q h l =
    let t : behind at b + length b + length q ≡ length u = past-length u (behind at b) b q (led-bytes u at b q h) in
    rw (read_here u at (length b) (b ++ q) (led-apart u at b q h) l, le-ltb (length u - behind at b) (length b) (omega arith))

-- ---- plain values

-- values that are all of b, where b stands
module _ (u : List ℕ) (at : ℕ) (b q : List ℕ) (h : From u at (b ++ q)) where
  alike : Alike b 0 u at (length b)
  alike = record {
    here = omega arith;
    there = omega (arith, past-length u at b q h);
    same = λ i l.
        let e : 0 + i ≡ i = omega arith in
        ap (λ (j : ℕ). get_or b j 0) e ∙ sym (get_or-append b q 0 i l) ∙ ap (λ (x : List ℕ). get_or x i 0) (sym h.here) ∙ get_or-drop at u i 0;
  }

  pub values-here : (blame n : ℕ) → AreAll n b → values_at u blame n at ≡ got (part_of at b) (at + length b)
  unfolding values_at spanned
  values-here blame n a =
      let z : length b ≡ 0 + length b = omega arith in
      let moved : anys u blame n at ≡ At (at + length b) = anys-moved b u 0 blame n 0 at (length b) (a ∙ ap At z) alike in
      let e : at + length b - at ≡ length b = omega arith in
      rw (moved, e)

  pub values-bytes : bytes_in u (part_of at b) ≡ b
  unfolding bytes_in
  values-bytes = part-here u at b q h
