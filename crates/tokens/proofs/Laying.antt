-- The laws of one put: bytes laid where there is room, a value pushed onto its column, and what a state keeps.
use Prim.Native.Nat.{ℕ, ◌+◌, ◌-◌, ◌≤◌, ◌<◌}
use mathlib.Core.Path.{◌≡◌, refl, sym, ap, ◌∙◌}
use mathlib.Core.List.{List, [], ◌∷◌}
use mathlib.Core.Bool.{Bool, true, false}
use native.Mathlib.Nat.{add-zero}
use native.Mathlib.Omega.{arith}
use lib.Dec.{ltb, leb}
use lib.ListN.{length}
use lib.Seq.{sets}
use borrow.Author.Tests.{lt-ltb, le-ltb, ltb-true, leb-true, leb-false, le-leb, lt-leb}
use Rattle.numbers.specs.Number.{pick}
use Rattle.runs.specs.declared.writer.Writer.{Writer}
use Rattle.runs.specs.Runs.{coding}
use Rattle.runs.specs.Writer.{key_after, emitted, finished, pushed, Sound}
use Rattle.runs.proofs.Standing.{pushed-sound}
use Rattle.tokens.specs.Lanes.{Lane}
use Rattle.tokens.specs.Tokens.{in_line}
use Rattle.parts.specs.Brim.{brim}
use Rattle.tokens.specs.Lanes.{lay, moved_to, forward, laid_bytes, takes, pushed_on, laid_value, pushed_all, laid_values, last_run, closed, laid_end}

pub pick_same : {A : Type 0} (b : Bool) (x : A) → pick b x x ≡ x
pick_same true x = refl
pick_same false x = refl

-- ---- bytes

module _ (out : List ℕ) (e : Lane) (b : List ℕ) where
  -- at the brim nothing moves
  pub at-brim : brim ≤ e.run.at → (e ≡ forward e b) × (out ≡ laid_bytes out e b)
  unfolding forward laid_bytes
  at-brim h = let t = le-ltb e.run.at brim h in (rw t, rw t)

  pub moved_on : (end : ℕ) → e.run.at < brim → end ≡ e.run.at + length b → moved_to e end ≡ forward e b
  unfolding forward
  moved_on end low h = rw (lt-ltb e.run.at brim low, h)

  pub bytes-laid : (n : ℕ) → e.run.at < brim → n ≡ length b → leb (e.run.at + n) (length out) ≡ true → sets out e.run.at b ≡ laid_bytes out e b
  unfolding laid_bytes lay
  bytes-laid n low size h = rw (lt-ltb e.run.at brim low, ← size, h)

  pub forward-sound : Sound e.run → Sound (forward e b).run
  unfolding forward
  forward-sound s = go (ltb e.run.at brim)
    where
      go : (t : Bool) → Sound (pick t (moved_to e (e.run.at + length b)) e).run
      go true = s
      go false = s

-- no bytes
pub forward-none : (e : Lane) → forward e [] ≡ e
unfolding forward
forward-none e = ap (λ (n : ℕ). pick (ltb e.run.at brim) (moved_to e n) e) (add-zero e.run.at) ∙ pick_same (ltb e.run.at brim) e

pub lay-none : (out : List ℕ) (at : ℕ) → lay out at [] ≡ out
unfolding lay
lay-none out at = pick_same (leb (at + length {A = ℕ} []) (length out)) out

pub bytes-none : (out : List ℕ) (e : Lane) → laid_bytes out e [] ≡ out
unfolding laid_bytes
bytes-none out e = rw lay-none (pick_same (ltb e.run.at brim) out)

-- ---- a value

pub takes-true : (w : Writer) (v : ℕ) → takes w v ≡ true → (w.at < brim) × (w.count < brim) × (v ≤ (coding w.column).most)
unfolding takes
takes-true w v h = place (ltb w.at brim) refl h
  where
    no : {A : Type 0} → false ≡ true → A
    no p = absurd (let z : ◌≡◌ {A = ℕ} 0 1 = cc in omega arith)

    count : (b : Bool) → ltb w.count brim ≡ b → w.at < brim → pick b (leb v (coding w.column).most) false ≡ true
        → (w.at < brim) × (w.count < brim) × (v ≤ (coding w.column).most)
    count true e a h = (a, ltb-true w.count brim e, leb-true v (coding w.column).most h)
    count false e a h = no h

    place : (b : Bool) → ltb w.at brim ≡ b → pick b (pick (ltb w.count brim) (leb v (coding w.column).most) false) false ≡ true
        → (w.at < brim) × (w.count < brim) × (v ≤ (coding w.column).most)
    place true e h = count (ltb w.count brim) refl (ltb-true w.at brim e) h
    place false e h = no h

abbrev pub onward : Lane → Writer → Bool → Lane
onward e run far = record { lane = e.lane; run = run; far = far }

abbrev pub far_with : Lane → ℕ → Bool
far_with e v = pick ((coding e.run.column).near (key_after e.run v)) e.far true

module _ (out : List ℕ) (e : Lane) (v : ℕ) where
  pub value-left : takes e.run v ≡ false → (e ≡ pushed_on e v) × (out ≡ laid_value out e v)
  unfolding pushed_on laid_value
  value-left t = (rw t, rw t)

  pub value_on : (run : Writer) (far : Bool) → takes e.run v ≡ true → run ≡ pushed e.run v → far ≡ far_with e v → onward e run far ≡ pushed_on e v
  unfolding pushed_on
  value_on run far t r f = rw (t, r, f)

  pub value-laid : (n : ℕ) → takes e.run v ≡ true → n ≡ length (emitted e.run v) → leb (e.run.at + n) (length out) ≡ true
      → sets out e.run.at (emitted e.run v) ≡ laid_value out e v
  unfolding laid_value lay
  value-laid n t size h = rw (t, ← size, h)

  pub value-sound : Sound e.run → Sound (pushed_on e v).run
  unfolding pushed_on
  value-sound s = go (takes e.run v) refl
    where
      go : (b : Bool) → takes e.run v ≡ b → Sound (pick b (onward e (pushed e.run v) (far_with e v)) e).run
      go true t = pushed-sound e.run v (takes-true e.run v t).2
      go false t = s

-- ---- values

pub pushed_none : (e : Lane) → pushed_all e [] ≡ e
unfolding pushed_all
pushed_none e = refl

pub pushed-one : (e : Lane) (v : ℕ) → pushed_all e (v ∷ []) ≡ pushed_on e v
unfolding pushed_all
pushed-one e v = refl

pub values-none : (out : List ℕ) (e : Lane) → laid_values out e [] ≡ out
unfolding laid_values
values-none out e = refl

pub values_one : (out : List ℕ) (e : Lane) (v : ℕ) → laid_values out e (v ∷ []) ≡ laid_value out e v
unfolding laid_values
values_one out e v = refl

pub pushed-sound-all : (e : Lane) (vs : List ℕ) → Sound e.run → Sound (pushed_all e vs).run
unfolding pushed_all
pushed-sound-all e [] s = s
pushed-sound-all e (v ∷ vs) s = pushed-sound-all (pushed_on e v) vs (value-sound [] e v s)

-- ---- the end

module _ (out : List ℕ) (e : Lane) where
  pub end_line : in_line e.lane ≡ true → (e ≡ closed e) × (out ≡ laid_end out e)
  unfolding last_run
  end_line h = (rw h (sym (forward-none e)), rw h (sym (bytes-none out e)))

  pub end-run : in_line e.lane ≡ false → last_run e ≡ finished e.run
  unfolding last_run
  end-run h = rw h

-- ---- room, as the code tests it

pub leb-less : (end at n : ℕ) → at ≤ end → leb n (end - at) ≡ leb (at + n) end
leb-less end at n h = go (leb n (end - at)) refl
  where
    go : (b : Bool) → leb n (end - at) ≡ b → b ≡ leb (at + n) end
    go true e = let l = leb-true n (end - at) e in sym (le-leb (at + n) end (omega arith))
    go false e = let l = leb-false n (end - at) e in sym (lt-leb (at + n) end (omega arith))
