-- The bytes of a part of an update: how many they are, and how they are copied.
use Prim.Native.Nat.{ℕ, zero, suc, ◌+◌, ◌-◌, ◌≤◌, ◌<◌}
use mathlib.Core.Path.{◌≡◌, refl, sym, ap, ◌∙◌}
use mathlib.Core.List.{List, [], ◌∷◌}
use native.Mathlib.Nat.{suc-add, zero-add}
use native.Mathlib.Numerals.{add-one}
use native.Mathlib.Omega.{arith}
use lib.ListN.{length, take, drop, set, get_or, length-append}
use lib.Seq.{sets, slice, take-suc, take-nil, length-take-le}
use borrow.Rule.Slice.PartMut.{put_mid, Post-is}
use Rattle.std.proofs.Common.{append_assoc}
use Rattle.std.proofs.lemmas.List.Edits.{sets-eq}
use Rattle.numbers.specs.Number.{unsigned}
use Rattle.numbers.proofs.Output.{sets-append}
use Rattle.text.specs.declared.Part.{Part}
use Rattle.readings.specs.Sound.{bytes_in}
use Rattle.tokens.specs.Tokens.{led}

-- a slice is the first of what follows its start
slice-take : (f n : ℕ) (l : List ℕ) → slice f (f + n) l ≡ take n (drop f l)
slice-take zero n l = rw zero-add
slice-take (suc f) n [] = rw suc-add (sym (take-nil n))
slice-take (suc f) n (x ∷ l) = rw suc-add (slice-take f n l)

take-length : (n : ℕ) (l : List ℕ) → take (length (take n l)) l ≡ take n l
take-length zero l = refl
take-length (suc n) [] = refl
take-length (suc n) (x ∷ l) = ap (λ (t : List ℕ). x ∷ t) (take-length n l)

-- ---- how many bytes of a part there are

module _ (u : List ℕ) (p : Part) where
  part-take : bytes_in u p ≡ take p.bytes.0 (drop p.place u)
  unfolding bytes_in
  part-take = slice-take p.place p.bytes.0 u

  -- as many bytes from its place on are the part
  pub part_slice : (n : ℕ) → n ≡ length (bytes_in u p) → slice p.place (p.place + n) u ≡ bytes_in u p
  part_slice n e = slice-take p.place n u ∙ rw (e, part-take) (take-length p.bytes.0 (drop p.place u))

-- ---- bytes copied into a part of those lent

pub put-sets : (out : List ℕ) (at end : ℕ) (b p : List ℕ) → p ≡ b → end ≡ at + length b → end ≤ length out → put_mid at (end - at) out p ≡ sets out at b
put-sets out at end b p e m l =
    rw (Post-is at end out (omega arith), e, m) (sym (append_assoc (take at out) b (drop (at + length b) out)) ∙ sym (sets-eq b out at (omega arith)))

-- one byte more
pub copy-on : (out : List ℕ) (at : ℕ) (b : List ℕ) (i : ℕ) → i < length b → set (sets out at (take i b)) (at + i) (get_or b i 0) ≡ sets out at (take (i + 1) b)
copy-on out at b i l = rw (add-one, take-suc b i 0 l, sets-append, length-take-le i b (omega arith))

-- ---- bytes led by their length

pub led-length : (b : List ℕ) → length (led b) ≡ length (unsigned (length b)) + length b
led-length b = length-append (unsigned (length b)) b

pub led-sets : (out : List ℕ) (at : ℕ) (b : List ℕ) → sets out at (led b) ≡ sets (sets out at (unsigned (length b))) (at + length (unsigned (length b))) b
led-sets out at b = sets-append (unsigned (length b)) b out at
