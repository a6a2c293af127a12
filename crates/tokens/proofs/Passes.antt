-- Passes over tokens: pass after pass, tokens of which a lane takes nothing, and what every pass keeps.
use Prim.Native.Nat.{ℕ, ◌+◌}
use mathlib.Core.Path.{◌≡◌, refl, ap, ◌∙◌}
use mathlib.Core.List.{List, [], ◌∷◌, ◌++◌}
use mathlib.Core.Bool.{Bool, true, false}
use native.Mathlib.Omega.{arith}
use lib.Dec.{ltb, leb}
use lib.ListN.{length}
use lib.Seq.{sets, length-sets}
use Rattle.numbers.specs.Number.{pick}
use Rattle.runs.specs.Writer.{emitted, pushed, Sound}
use Rattle.tokens.specs.Lanes.{Lane}
use Rattle.tokens.specs.Tokens.{Token, taken, taken_all, in_line}
use Rattle.parts.specs.Brim.{brim}
use Rattle.tokens.specs.Lanes.{fresh_lane, lay, moved_to, forward, laid_bytes, takes, pushed_on, laid_value, pushed_all, laid_values, put, laid, put_all, laid_all, last_run, laid_end}
use Rattle.tokens.proofs.Laying.{onward, far_with}
use Rattle.tokens.proofs.Taking.{takes_none, put-sound}

-- ---- pass after pass

module _ (e : Lane) where
  pub put-none : put_all e [] ≡ e
  unfolding put_all
  put-none = refl

  pub put-cons : (t : Token) (ts : List Token) → put_all e (t ∷ ts) ≡ put_all (put e t) ts
  unfolding put_all
  put-cons t ts = refl

  pub laid_none : (out : List ℕ) → laid_all out e [] ≡ out
  unfolding laid_all
  laid_none out = refl

  pub laid_cons : (out : List ℕ) (t : Token) (ts : List Token) → laid_all out e (t ∷ ts) ≡ laid_all (laid out e t) (put e t) ts
  unfolding laid_all
  laid_cons out t ts = refl

pub put-append : (e : Lane) (a b : List Token) → put_all e (a ++ b) ≡ put_all (put_all e a) b
unfolding put_all
put-append e [] b = refl
put-append e (t ∷ a) b = put-append (put e t) a b

pub laid-append : (out : List ℕ) (e : Lane) (a b : List Token) → laid_all out e (a ++ b) ≡ laid_all (laid_all out e a) (put_all e a) b
unfolding laid_all put_all
laid-append out e [] b = refl
laid-append out e (t ∷ a) b = laid-append (laid out e t) (put e t) a b

-- ---- tokens of which a lane takes nothing

pub no_bytes : (a b : List ℕ) → a ++ b ≡ [] → (a ≡ []) × (b ≡ [])
no_bytes [] b h = (refl, h)
no_bytes (x ∷ a) b h = absurd (omega (arith, ap length h))

pub skips : (out : List ℕ) (e : Lane) (ts : List Token) → taken_all e.lane ts ≡ [] → (put_all e ts ≡ e) × (laid_all out e ts ≡ out)
unfolding put_all laid_all taken_all
skips out e [] h = (refl, refl)
skips out e (t ∷ ts) h =
    let n = no_bytes (taken e.lane t) (taken_all e.lane ts) h in
    let x = takes_none out e t n.0 in
    rw (← x.0, ← x.1) (skips out e ts n.1)

pub put-skips : (e : Lane) (ts : List Token) → taken_all e.lane ts ≡ [] → put_all e ts ≡ e
put-skips e ts h = (skips [] e ts h).0

pub laid-skips : (out : List ℕ) (e : Lane) (ts : List Token) → taken_all e.lane ts ≡ [] → laid_all out e ts ≡ out
laid-skips out e ts h = (skips out e ts h).1

-- ---- what stays

module _ {A B : Type 0} (f : A → B) (n : B) where
  pick-keeps : (b : Bool) (x y : A) → f x ≡ n → f y ≡ n → f (pick b x y) ≡ n
  pick-keeps true x y p q = p
  pick-keeps false x y p q = q

abbrev size : List ℕ → ℕ
size l = length l

lay-length : (out : List ℕ) (at : ℕ) (b : List ℕ) → length (lay out at b) ≡ length out
unfolding lay
lay-length out at b = pick-keeps size (length out) (leb (at + length b) (length out)) (sets out at b) out (length-sets out at b) refl

pub bytes-length : (out : List ℕ) (e : Lane) (b : List ℕ) → length (laid_bytes out e b) ≡ length out
unfolding laid_bytes
bytes-length out e b = pick-keeps size (length out) (ltb e.run.at brim) (lay out e.run.at b) out (lay-length out e.run.at b) refl

pub values_length : (out : List ℕ) (e : Lane) (vs : List ℕ) → length (laid_values out e vs) ≡ length out
unfolding laid_values laid_value
values_length out e [] = refl
values_length out e (v ∷ vs) =
    values_length (laid_value out e v) (pushed_on e v) vs
    ∙ pick-keeps size (length out) (takes e.run v) (lay out e.run.at (emitted e.run v)) out (lay-length out e.run.at (emitted e.run v)) refl

pub laid-length : (out : List ℕ) (e : Lane) (ts : List Token) → length (laid_all out e ts) ≡ length out
unfolding laid_all laid
laid-length out e [] = refl
laid-length out e (t ∷ ts) =
    laid-length (laid out e t) (put e t) ts
    ∙ pick-keeps size (length out) (in_line e.lane) (laid_bytes out e (taken e.lane t)) (laid_values out e (taken e.lane t))
    (bytes-length out e (taken e.lane t)) (values_length out e (taken e.lane t))

pub end-length : (out : List ℕ) (e : Lane) → length (laid_end out e) ≡ length out
end-length out e = bytes-length out e (last_run e)

pub sound-all : (e : Lane) (ts : List Token) → Sound e.run → Sound (put_all e ts).run
unfolding put_all
sound-all e [] s = s
sound-all e (t ∷ ts) s = sound-all (put e t) ts (put-sound [] e t s)

pub stays-sound : (k at : ℕ) (ts : List Token) → Sound (put_all (fresh_lane k at) ts).run
stays-sound k at ts = sound-all (fresh_lane k at) ts (omega arith, omega arith)

pub forward-far : (e : Lane) (b : List ℕ) → (forward e b).far ≡ e.far
unfolding forward
forward-far e b = pick-keeps (λ (x : Lane). x.far) e.far (ltb e.run.at brim) (moved_to e (e.run.at + length b)) e refl refl

forward-lane : (e : Lane) (b : List ℕ) → (forward e b).lane ≡ e.lane
unfolding forward
forward-lane e b = pick-keeps (λ (x : Lane). x.lane) e.lane (ltb e.run.at brim) (moved_to e (e.run.at + length b)) e refl refl

pub pushed-lane : (e : Lane) (vs : List ℕ) → (pushed_all e vs).lane ≡ e.lane
unfolding pushed_all pushed_on
pushed-lane e [] = refl
pushed-lane e (v ∷ vs) =
    pushed-lane (pushed_on e v) vs
    ∙ pick-keeps (λ (x : Lane). x.lane) e.lane (takes e.run v) (onward e (pushed e.run v) (far_with e v)) e refl refl

pub same-lane : (e : Lane) (ts : List Token) → (put_all e ts).lane ≡ e.lane
unfolding put_all put
same-lane e [] = refl
same-lane e (t ∷ ts) =
    same-lane (put e t) ts
    ∙ pick-keeps (λ (x : Lane). x.lane) e.lane (in_line e.lane) (forward e (taken e.lane t)) (pushed_all e (taken e.lane t))
    (forward-lane e (taken e.lane t)) (pushed-lane e (taken e.lane t))
