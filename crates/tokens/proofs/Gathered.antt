-- A pass is one put of all that the lane takes: of all bytes in line, where it stays below the brim, and of all values in a column.
use Prim.Native.Nat.{ℕ, ◌+◌, ◌≤◌, ◌<◌}
use mathlib.Core.Path.{◌≡◌, refl, sym, ap, ◌∙◌}
use mathlib.Core.List.{List, [], ◌∷◌, ◌++◌}
use mathlib.Core.Bool.{true, false}
use native.Mathlib.Omega.{arith}
use lib.ListN.{length, length-append}
use lib.Seq.{sets, length-sets}
use borrow.Author.Tests.{le-leb}
use Rattle.numbers.proofs.Output.{sets-append}
use Rattle.tokens.specs.Lanes.{Lane}
use Rattle.tokens.specs.Tokens.{Token, taken, taken_all, in_line}
use Rattle.parts.specs.Brim.{brim}
use Rattle.tokens.specs.Lanes.{moved_to, forward, laid_bytes, pushed_all, laid_values, put, laid, put_all, laid_all}
use Rattle.tokens.proofs.Laying.{moved_on, bytes-laid, forward-none, bytes-none, pushed_none, values-none}
use Rattle.tokens.proofs.Taking.{takes-bytes}
use Rattle.tokens.proofs.Values.{pushed-append, values-append}
use Rattle.tokens.proofs.Passes.{bytes-length, pushed-lane}

-- ---- in line

module _ (out : List ℕ) (e : Lane) (a b : List ℕ) (low : e.run.at + length (a ++ b) < brim) where
  split : e.run.at + length a + length b ≡ e.run.at + length (a ++ b)
  split = omega (arith, length-append a b)

  first : forward e a ≡ moved_to e (e.run.at + length a)
  first = sym (moved_on out e a (e.run.at + length a) (omega (arith, split)) refl)

  pub forward-append : forward e (a ++ b) ≡ forward (forward e a) b
  forward-append =
      sym (moved_on out e (a ++ b) (e.run.at + length (a ++ b)) (omega (arith, split)) refl)
      ∙ rw first (moved_on out (moved_to e (e.run.at + length a)) b (e.run.at + length (a ++ b)) (omega (arith, split)) (sym split))

  pub bytes-append : e.run.at + length (a ++ b) ≤ length out → laid_bytes out e (a ++ b) ≡ laid_bytes (laid_bytes out e a) (forward e a) b
  bytes-append room =
      let here : e.run.at < brim = omega (arith, split) in
      let at = e.run.at in
      let one = bytes-laid out e (a ++ b) (length (a ++ b)) here refl (le-leb (at + length (a ++ b)) (length out) room) in
      let two = bytes-laid out e a (length a) here refl (le-leb (at + length a) (length out) (omega (arith, split))) in
      let o = sets out at a in
      let e' = moved_to e (at + length a) in
      let three = bytes-laid o e' b (length b) (omega (arith, split)) refl (le-leb (at + length a + length b) (length o) (omega (arith, split, length-sets out at a))) in
      sym one ∙ sets-append a b out at ∙ rw (first, ← two) three

module _ (out : List ℕ) (e : Lane) (t : Token) (ts : List Token) (i : in_line e.lane ≡ true) (low : e.run.at + length (taken_all e.lane (t ∷ ts)) < brim) where
  line-put : put e t ≡ moved_to e (e.run.at + length (taken e.lane t))
  unfolding taken_all
  line-put = sym (takes-bytes [] e t (taken e.lane t) i refl).0 ∙ first [] e (taken e.lane t) (taken_all e.lane ts) low

  line_low : e.run.at + length (taken e.lane t) + length (taken_all e.lane ts) < brim
  unfolding taken_all
  line_low = omega (arith, low, length-append (taken e.lane t) (taken_all e.lane ts))

pub put-line : (e : Lane) (ts : List Token) → in_line e.lane ≡ true → e.run.at + length (taken_all e.lane ts) < brim
    → put_all e ts ≡ forward e (taken_all e.lane ts)
unfolding put_all taken_all
put-line e [] i low = sym (forward-none e)
put-line e (t ∷ ts) i low =
    let b = taken e.lane t in
    let c = taken_all e.lane ts in
    ap (λ (x : Lane). put_all x ts) (line-put [] e t ts i low) ∙ put-line (moved_to e (e.run.at + length b)) ts i (line_low [] e t ts i low)
    ∙ ap (λ (x : Lane). forward x c) (sym (first [] e b c low)) ∙ sym (forward-append [] e b c low)

pub laid-line : (out : List ℕ) (e : Lane) (ts : List Token) → in_line e.lane ≡ true → e.run.at + length (taken_all e.lane ts) < brim
    → e.run.at + length (taken_all e.lane ts) ≤ length out → laid_all out e ts ≡ laid_bytes out e (taken_all e.lane ts)
unfolding laid_all taken_all
laid-line out e [] i low room = sym (bytes-none out e)
laid-line out e (t ∷ ts) i low room =
    let b = taken e.lane t in
    let c = taken_all e.lane ts in
    let o = laid_bytes out e b in
    let e' = moved_to e (e.run.at + length b) in
    ap (λ (x : List ℕ). laid_all x (put e t) ts) (sym (takes-bytes out e t b i refl).1) ∙ ap (λ (x : Lane). laid_all o x ts) (line-put [] e t ts i low)
    ∙ laid-line o e' ts i (line_low [] e t ts i low) (omega (arith, room, length-append b c, bytes-length out e b))
    ∙ ap (λ (x : Lane). laid_bytes o x c) (sym (first [] e b c low)) ∙ sym (bytes-append out e b c low room)

-- ---- in a column

pub put-column : (e : Lane) (ts : List Token) → in_line e.lane ≡ false → put_all e ts ≡ pushed_all e (taken_all e.lane ts)
unfolding put_all put taken_all
put-column e [] i = sym (pushed_none e)
put-column e (t ∷ ts) i =
    let e' = pushed_all e (taken e.lane t) in
    let same = pushed-lane e (taken e.lane t) in
    rw i (put-column e' ts (rw same i) ∙ ap (λ (l : ℕ). pushed_all e' (taken_all l ts)) same ∙ sym (pushed-append e (taken e.lane t) (taken_all e.lane ts)))

pub laid-column : (out : List ℕ) (e : Lane) (ts : List Token) → in_line e.lane ≡ false → laid_all out e ts ≡ laid_values out e (taken_all e.lane ts)
unfolding laid_all laid put taken_all
laid-column out e [] i = sym (values-none out e)
laid-column out e (t ∷ ts) i =
    let b = taken e.lane t in
    let e' = pushed_all e b in
    let same = pushed-lane e b in
    let o = laid_values out e b in
    rw i (laid-column o e' ts (rw same i) ∙ ap (λ (l : ℕ). laid_values o e' (taken_all l ts)) same ∙ sym (values-append out e b (taken_all e.lane ts)))
