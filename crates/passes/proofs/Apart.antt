-- What is written in places apart may be written in any order. So all lanes side by side, a token at a time, leave the bytes that lane after lane leaves.
use Prim.Native.Nat.{ℕ, suc, ◌+◌, ◌≤◌, ◌<◌}
use mathlib.Core.Path.{◌≡◌, refl, sym, ap, ◌∙◌}
use mathlib.Core.Bool.{Bool, true, false}
use mathlib.Core.List.{List, [], ◌∷◌}
use native.Mathlib.Omega.{arith}
use lib.Dec.{ltb, leb}
use lib.ListN.{length, set}
use lib.Seq.{sets, length-sets, set_comm}
use Rattle.numbers.specs.Number.{pick}
use Rattle.readings.specs.Sound.{All}
use Rattle.runs.specs.Writer.{emitted, pushed}
use Rattle.runs.proofs.Standing.{pushed_at}
use Rattle.parts.specs.Brim.{brim}
use Rattle.tokens.specs.Tokens.{Token, taken, in_line}
use Rattle.tokens.specs.Lanes.{Lane, lay, moved_to, forward, laid_bytes, takes, pushed_on, laid_value, pushed_all, laid_values, put, laid, put_all, laid_all, last_run, closed, laid_end}
use Rattle.tokens.specs.Desk.{put_each, laid_each, put_tokens, laid_tokens, laid_ends}
use Rattle.tokens.proofs.Laying.{onward, far_with}

-- ---- bytes in places apart

set_first : (d out : List ℕ) (p q x : ℕ) → p < q → sets (set out p x) q d ≡ set (sets out q d) p x
set_first [] out p q x h = refl
set_first (y ∷ d) out p q x h =
    ap (λ (o : List ℕ). sets o (suc q) d) (set_comm out p q x y (λ e. omega arith)) ∙ set_first d (set out q y) p (suc q) x (omega arith)

sets-swap : (c out : List ℕ) (p q : ℕ) (d : List ℕ) → p + length c ≤ q → sets (sets out p c) q d ≡ sets (sets out q d) p c
sets-swap [] out p q d h = refl
sets-swap (x ∷ c) out p q d h =
    sets-swap c (set out p x) (suc p) q d (omega arith) ∙ ap (λ (o : List ℕ). sets o (suc p) c) (set_first d out p q x (omega arith))

lay-swap : (out : List ℕ) (p : ℕ) (c : List ℕ) (q : ℕ) (d : List ℕ) → p + length c ≤ q → lay (lay out p c) q d ≡ lay (lay out q d) p c
unfolding lay
lay-swap out p c q d h = go (leb (p + length c) (length out)) refl (leb (q + length d) (length out)) refl
  where
    go : (x : Bool) → leb (p + length c) (length out) ≡ x → (y : Bool) → leb (q + length d) (length out) ≡ y
        → pick (leb (q + length d) (length (pick x (sets out p c) out))) (sets (pick x (sets out p c) out) q d) (pick x (sets out p c) out)
        ≡ pick (leb (p + length c) (length (pick y (sets out q d) out))) (sets (pick y (sets out q d) out) p c) (pick y (sets out q d) out)
    go true e true f = rw (length-sets out p c, length-sets out q d, e, f) (sets-swap c out p q d h)
    go true e false f = rw (length-sets out p c, e, f)
    go false e true f = rw (length-sets out q d, e, f)
    go false e false f = rw (e, f)

-- ---- where a writer writes

-- from a place on: what is laid before it may be laid before or after
pub record From (a : ℕ) (W : List ℕ → List ℕ) : Type 0 where
  pub swaps : (out : List ℕ) (p : ℕ) (c : List ℕ) → p + length c ≤ a → W (lay out p c) ≡ lay (W out) p c

-- up to a place: what is written from there on may be written before or after
pub record UpTo (b : ℕ) (W : List ℕ → List ℕ) : Type 0 where
  pub swaps : (U : List ℕ → List ℕ) → From b U → (out : List ℕ) → W (U out) ≡ U (W out)

pub record Between (a b : ℕ) (W : List ℕ → List ℕ) : Type 0 where
  pub order : a ≤ b
  pub from : From a W
  pub upto : UpTo b W

module _ (W U : List ℕ → List ℕ) where
  pub from-both : (a : ℕ) → From a W → From a U → From a (λ out. U (W out))
  from-both a f g = record { swaps = λ out p c h. ap U (f.swaps out p c h) ∙ g.swaps (W out) p c h }

  upto-both : (b : ℕ) → UpTo b W → UpTo b U → UpTo b (λ out. U (W out))
  upto-both b f g = record { swaps = λ X x out. ap U (f.swaps X x out) ∙ g.swaps X x (W out) }

pub from_less : (W : List ℕ → List ℕ) (a b : ℕ) → a ≤ b → From b W → From a W
from_less W a b h f = record { swaps = λ out p c l. f.swaps out p c (omega arith) }

upto-more : (W : List ℕ → List ℕ) (a b : ℕ) → a ≤ b → UpTo a W → UpTo b W
upto-more W a b h f = record { swaps = λ U u out. f.swaps U (from_less U a b h u) out }

pub from-none : (a : ℕ) → From a (λ out. out)
from-none a = record { swaps = λ out p c h. refl }

between_none : (a : ℕ) → Between a a (λ out. out)
between_none a = record { order = omega arith; from = from-none a; upto = record { swaps = λ U u out. refl } }

between-lay : (at : ℕ) (b : List ℕ) → Between at (at + length b) (λ out. lay out at b)
between-lay at b = record {
  order = omega arith;
  from = record { swaps = λ out p c h. lay-swap out p c at b h };
  upto = record { swaps = λ U u out. sym (u.swaps out at b (omega arith)) };
}

between-then : (W U : List ℕ → List ℕ) (a b c : ℕ) → Between a b W → Between b c U → Between a c (λ out. U (W out))
between-then W U a b c f g = record {
  order = omega (arith, f.order, g.order);
  from = from-both W U a f.from (from_less U a b f.order g.from);
  upto = upto-both W U c (upto-more W b c g.order f.upto) g.upto;
}

-- ---- a lane is written from its place to its end

bytes-between : (e : Lane) (b : List ℕ) → Between e.run.at (forward e b).run.at (λ out. laid_bytes out e b)
unfolding forward laid_bytes
bytes-between e b = go (ltb e.run.at brim)
  where
    go : (t : Bool) → Between e.run.at (pick t (moved_to e (e.run.at + length b)) e).run.at (λ out. pick t (lay out e.run.at b) out)
    go true = between-lay e.run.at b
    go false = between_none e.run.at

value-between : (e : Lane) (v : ℕ) → Between e.run.at (pushed_on e v).run.at (λ out. laid_value out e v)
unfolding pushed_on laid_value
value-between e v = go (takes e.run v)
  where
    go : (t : Bool)
        → Between e.run.at (pick t (onward e (pushed e.run v) (far_with e v)) e).run.at (λ out. pick t (lay out e.run.at (emitted e.run v)) out)
    go true = rw pushed_at (between-lay e.run.at (emitted e.run v))
    go false = between_none e.run.at

values-between : (vs : List ℕ) (e : Lane) → Between e.run.at (pushed_all e vs).run.at (λ out. laid_values out e vs)
unfolding pushed_all laid_values
values-between [] e = between_none e.run.at
values-between (v ∷ vs) e =
    between-then (λ out. laid_value out e v) (λ out. laid_values out (pushed_on e v) vs) e.run.at (pushed_on e v).run.at (pushed_all (pushed_on e v) vs).run.at
    (value-between e v) (values-between vs (pushed_on e v))

token-between : (e : Lane) (t : Token) → Between e.run.at (put e t).run.at (λ out. laid out e t)
unfolding put laid
token-between e t = go (in_line e.lane)
  where
    b : List ℕ
    b = taken e.lane t

    go : (x : Bool) → Between e.run.at (pick x (forward e b) (pushed_all e b)).run.at (λ out. pick x (laid_bytes out e b) (laid_values out e b))
    go true = bytes-between e b
    go false = values-between b e

pub tokens-between : (ts : List Token) (e : Lane) → Between e.run.at (put_all e ts).run.at (λ out. laid_all out e ts)
unfolding put_all laid_all
tokens-between [] e = between_none e.run.at
tokens-between (t ∷ ts) e =
    between-then (λ out. laid out e t) (λ out. laid_all out (put e t) ts) e.run.at (put e t).run.at (put_all (put e t) ts).run.at
    (token-between e t) (tokens-between ts (put e t))

abbrev pub lane_end : Lane → List Token → ℕ
lane_end e ts = (closed (put_all e ts)).run.at

abbrev pub lane_written : List ℕ → Lane → List Token → List ℕ
lane_written out e ts = laid_end (laid_all out e ts) (put_all e ts)

pub lane-between : (ts : List Token) (e : Lane) → Between e.run.at (lane_end e ts) (λ out. lane_written out e ts)
lane-between ts e =
    let f = put_all e ts in
    between-then (λ out. laid_all out e ts) (λ out. laid_end out f) e.run.at f.run.at (closed f).run.at
    (tokens-between ts e) (bytes-between f (last_run f))

-- ---- lanes side by side

abbrev pub Behind : ℕ → List Lane → Type 0
Behind a es = All (λ (e : Lane). a ≤ e.run.at) es

each-behind : (a : ℕ) (es : List Lane) (t : Token) → Behind a es → Behind a (put_each es t)
unfolding put_each
each-behind a [] t h = tt
each-behind a (e ∷ es) t h = (omega (arith, h.0, (token-between e t).order), each-behind a es t h.1)

each_from : (a : ℕ) (es : List Lane) (t : Token) → Behind a es → From a (λ out. laid_each out es t)
unfolding laid_each
each_from a [] t h = from-none a
each_from a (e ∷ es) t h =
    from-both (λ out. laid out e t) (λ out. laid_each out es t) a (from_less (λ out. laid out e t) a e.run.at h.0 (token-between e t).from)
    (each_from a es t h.1)

abbrev pub lanes_written : List ℕ → List Lane → List Token → List ℕ
lanes_written out es ts = laid_ends (laid_tokens out es ts) (put_tokens es ts)

pub lanes-none : (out : List ℕ) (ts : List Token) → lanes_written out [] ts ≡ out
unfolding laid_tokens put_tokens laid_ends laid_each put_each
lanes-none out [] = refl
lanes-none out (t ∷ ts) = lanes-none out ts

-- the first lane whole, and then the others
pub lanes_next : (ts : List Token) (e : Lane) (es : List Lane) (out : List ℕ) → Behind (lane_end e ts) es
    → lanes_written out (e ∷ es) ts ≡ lanes_written (lane_written out e ts) es ts
unfolding laid_tokens put_tokens laid_ends laid_each put_each laid_all put_all
lanes_next [] e es out h = refl
lanes_next (t ∷ ts) e es out h =
    lanes_next ts (put e t) (put_each es t) (laid_each (laid out e t) es t) (each-behind (lane_end (put e t) ts) es t h)
    ∙ ap (λ (o : List ℕ). lanes_written o (put_each es t) ts)
    ((lane-between ts (put e t)).upto.swaps (λ o. laid_each o es t) (each_from (lane_end (put e t) ts) es t h) (laid out e t))

-- each lane goes on by itself
pub lanes_put : (ts : List Token) (e : Lane) (es : List Lane) → put_tokens (e ∷ es) ts ≡ put_all e ts ∷ put_tokens es ts
unfolding put_tokens put_each put_all
lanes_put [] e es = refl
lanes_put (t ∷ ts) e es = lanes_put ts (put e t) (put_each es t)

pub none-put : (ts : List Token) → put_tokens [] ts ≡ []
unfolding put_tokens put_each
none-put [] = refl
none-put (t ∷ ts) = none-put ts
