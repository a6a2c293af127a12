-- The laws of a place: bytes laid in line where there is room, as the code tests it; and a place that is a lane's.
use Prim.Native.Nat.{ℕ, ◌+◌, ◌≤◌, ◌<◌}
use mathlib.Core.Path.{◌≡◌, refl, sym}
use mathlib.Core.List.{List}
use mathlib.Core.Bool.{Bool, true, false}
use lib.Dec.{ltb, leb}
use lib.ListN.{length}
use lib.Seq.{sets}
use borrow.Author.Tests.{lt-ltb, le-ltb}
use Rattle.numbers.specs.Number.{pick}
use Rattle.parts.specs.Brim.{brim}
use Rattle.tokens.specs.Lanes.{Lane, lay, moved_to, ahead, laid_at, forward, laid_bytes}
use Rattle.tokens.proofs.Laying.{pick_same}

module _ (out : List ℕ) (at : ℕ) (b : List ℕ) where
  -- at the brim nothing moves
  pub place-brim : brim ≤ at → (at ≡ ahead at b) × (out ≡ laid_at out at b)
  unfolding ahead laid_at
  place-brim h = let t = le-ltb at brim h in (rw t, rw t)

  pub place-on : (end : ℕ) → at < brim → end ≡ at + length b → end ≡ ahead at b
  unfolding ahead
  place-on end low h = rw (lt-ltb at brim low, h)

  pub lay-short : (n : ℕ) → n ≡ length b → leb (at + n) (length out) ≡ false → out ≡ lay out at b
  unfolding lay
  lay-short n size h = rw (← size, h)

  pub lay-whole : (n : ℕ) → n ≡ length b → leb (at + n) (length out) ≡ true → sets out at b ≡ lay out at b
  unfolding lay
  lay-whole n size h = rw (← size, h)

  pub place_short : (n : ℕ) → n ≡ length b → leb (at + n) (length out) ≡ false → out ≡ laid_at out at b
  unfolding laid_at lay
  place_short n size h = rw (← size, h) (sym (pick_same (ltb at brim) out))

  pub place-laid : (n : ℕ) → at < brim → n ≡ length b → leb (at + n) (length out) ≡ true → sets out at b ≡ laid_at out at b
  unfolding laid_at lay
  place-laid n low size h = rw (lt-ltb at brim low, ← size, h)

-- a lane's place
module _ (out : List ℕ) (e : Lane) (b : List ℕ) where
  pub forward-ahead : moved_to e (ahead e.run.at b) ≡ forward e b
  unfolding ahead forward
  forward-ahead = go (ltb e.run.at brim)
    where
      go : (t : Bool) → moved_to e (pick t (e.run.at + length b) e.run.at) ≡ pick t (moved_to e (e.run.at + length b)) e
      go true = refl
      go false = refl

  pub laid-place : laid_at out e.run.at b ≡ laid_bytes out e b
  unfolding laid_at laid_bytes
  laid-place = refl
