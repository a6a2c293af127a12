-- What leads a lane, by where it ends and what it writes, and whether a lane measured has a difference that could not be spelled.
use Prim.Native.Nat.{ℕ, ◌+◌, ◌≤◌, ◌<◌}
use mathlib.Core.Path.{◌≡◌, refl, sym, ap, ◌∙◌}
use mathlib.Core.List.{List, [], ◌∷◌}
use mathlib.Core.Bool.{Bool, true, false}
use native.Mathlib.Omega.{arith}
use lib.Dec.{eqb}
use lib.ListN.{length, get_or}
use lib.Seq.{sets}
use borrow.Author.Tests.{le-leb}
use Rattle.numbers.specs.Number.{pick}
use Rattle.parts.specs.Brim.{brim}
use Rattle.runs.specs.declared.ColumnKind.{ColumnKind}
use Rattle.runs.specs.declared.ColumnKind.TheVariants.{Number, Difference, Byte}
use Rattle.runs.specs.Runs.{coding, spellable}
use Rattle.tokens.specs.Tokens.{Token, var, keys, texts, whole, taken_all, in_line, column_in}
use Rattle.tokens.specs.Bytes.{near_in}
use Rattle.tokens.specs.Lanes.{Lane, fresh_lane, put_all, laid_all, closed}
use Rattle.tokens.proofs.Laying.{moved_on, bytes-laid}
use Rattle.tokens.proofs.Gathered.{put-line, laid-line}
use Rattle.tokens.proofs.Taking.{in-line}
use Rattle.tokens.proofs.Written.{Fits, lane-far, line-near}
use Rattle.tokens.proofs.Fitting.{size_of, size_all, taken_all-le}
use Rattle.passes.specs.Forms.{text_size, is_bare, lead_tokens, lead_end, lead_bytes}

-- ---- tokens in line, from a place on

module _ (ts : List Token) (at : ℕ) (low : at + length (taken_all whole ts) < brim) where
  pub line-end : (put_all (fresh_lane whole at) ts).run.at ≡ at + length (taken_all whole ts)
  line-end =
      let b = taken_all whole ts in
      ap (λ (e : Lane). e.run.at)
      (put-line (fresh_lane whole at) ts (in-line whole refl) low
      ∙ sym (moved_on [] (fresh_lane whole at) b (at + length b) (omega (arith, low)) refl))

  pub line-written : (out : List ℕ) → at + length (taken_all whole ts) ≤ length out → laid_all out (fresh_lane whole at) ts ≡ sets out at (taken_all whole ts)
  line-written out room =
      let b = taken_all whole ts in
      laid-line out (fresh_lane whole at) ts (in-line whole refl) low room
      ∙ sym (bytes-laid out (fresh_lane whole at) b (length b) (omega (arith, low)) refl (le-leb (at + length b) (length out) room))

-- ---- what leads a lane

unfoldable pub lead : List ℕ → ℕ → List ℕ
lead z k = taken_all whole (lead_tokens z k)

lead-size : (z : List ℕ) (k : ℕ) → size_all (lead_tokens z k) ≤ 20
unfolding lead_tokens size_all size_of
lead-size z k = go (is_bare k) (eqb k keys) (eqb k texts)
  where
    go : (a b c : Bool)
        → size_all (pick a [] (pick b (var 0 ∷ (var (get_or z k 0) ∷ [])) (pick c (var (text_size z) ∷ (var (get_or z k 0) ∷ [])) (var (get_or z k 0) ∷ [])))) ≤ 20
    go true b c = omega arith
    go false true c = omega arith
    go false false true = omega arith
    go false false false = omega arith

pub lead-le : (z : List ℕ) (k : ℕ) → length (lead z k) ≤ 20
unfolding lead
lead-le z k = omega (arith, taken_all-le whole (lead_tokens z k), lead-size z k)

module _ (z : List ℕ) (k at : ℕ) (low : at + 20 < brim) where
  lead_low : at + length (taken_all whole (lead_tokens z k)) < brim
  unfolding lead
  lead_low = omega (arith, lead-le z k)

  pub lead-end : lead_end z k at ≡ at + length (lead z k)
  unfolding lead
  lead-end = line-end (lead_tokens z k) at lead_low

  pub lead-written : (out : List ℕ) → at + length (lead z k) ≤ length out → lead_bytes out z k at ≡ sets out at (lead z k)
  unfolding lead
  lead-written out room = line-written (lead_tokens z k) at lead_low out room

-- ---- a lane measured

-- numbers and bytes can all be spelled
always-number : (p : ℕ) (vs : List ℕ) → spellable (coding Number) p vs ≡ true
unfolding spellable coding
always-number p [] = refl
always-number p (v ∷ vs) = always-number v vs

always-byte : (p : ℕ) (vs : List ℕ) → spellable (coding Byte) p vs ≡ true
unfolding spellable coding
always-byte p [] = refl
always-byte p (v ∷ vs) = always-byte v vs

module _ (k at : ℕ) (ts : List Token) (fits : Fits k at ts) where
  abbrev far : Bool
  far = (closed (put_all (fresh_lane k at) ts)).far

  -- in line, and in a column of numbers or bytes, nothing is too far
  pub far-line : in_line k ≡ true → (closed (put_all (fresh_lane k at) ts)).far ≡ false
  far-line i = line-near k at ts fits i

  pub far-difference : in_line k ≡ false → column_in k ≡ Difference → (closed (put_all (fresh_lane k at) ts)).far ≡ pick (near_in k ts) false true
  unfolding near_in
  far-difference i c = rw (← c) (lane-far k at ts fits i)

  far-like : (c : ColumnKind) → in_line k ≡ false → column_in k ≡ c → spellable (coding c) 0 (taken_all k ts) ≡ true → far ≡ false
  far-like c i e h =
      lane-far k at ts fits i ∙ ap (λ (c : ColumnKind). pick (spellable (coding c) 0 (taken_all k ts)) false true) e ∙ ap (λ (b : Bool). pick b false true) h

  pub far-number : in_line k ≡ false → column_in k ≡ Number → (closed (put_all (fresh_lane k at) ts)).far ≡ false
  far-number i e = far-like Number i e (always-number 0 (taken_all k ts))

  pub far_byte : in_line k ≡ false → column_in k ≡ Byte → (closed (put_all (fresh_lane k at) ts)).far ≡ false
  far_byte i e = far-like Byte i e (always-byte 0 (taken_all k ts))
