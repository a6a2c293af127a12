-- What a lane takes of a token, and what the state is after it: nothing, bytes in line, or one value.
use Prim.Native.Nat.{ℕ}
use mathlib.Core.Path.{◌≡◌, sym}
use mathlib.Core.Logic.{◌≢◌}
use mathlib.Core.List.{List, [], ◌∷◌}
use mathlib.Core.Bool.{Bool, true, false}
use borrow.Author.Tests.{eq-eqb, ne_eqb}
use Rattle.numbers.specs.Number.{pick, unsigned}
use Rattle.runs.specs.Writer.{Sound}
use Rattle.tokens.specs.Lanes.{Lane}
use Rattle.tokens.specs.Tokens.{Token, field, text, var, buf, key, value, values, infos, texts, units, rest, whole, led, inlined, taken, in_line}
use Rattle.tokens.specs.Lanes.{forward, laid_bytes, pushed_on, laid_value, pushed_all, laid_values, put, laid}
use Rattle.tokens.proofs.Laying.{forward-sound, forward-none, bytes-none, pushed_none, pushed-one, values-none, values_one, pushed-sound-all}

-- ---- lanes in line

pub in-line : (k : ℕ) → k ≡ whole → in_line k ≡ true
unfolding in_line
in-line k e = rw e

pub in-texts : (k : ℕ) → k ≡ texts → in_line k ≡ true
unfolding in_line
in-texts k e = rw e

pub in_rest : (k : ℕ) → k ≡ rest → in_line k ≡ true
unfolding in_line
in_rest k e = rw e

-- ---- what a lane takes

module _ (k j v : ℕ) where
  pub field-line : k ≡ whole → j ≢ infos → taken k (field j v) ≡ unsigned v
  unfolding taken inlined
  field-line e n = rw (eq-eqb k whole e, ne_eqb j infos n)

  pub field-own : k ≢ whole → k ≡ j → taken k (field j v) ≡ v ∷ []
  unfolding taken
  field-own n e = rw (ne_eqb k whole n, eq-eqb k j e)

  pub field-other : k ≢ whole → k ≢ j → taken k (field j v) ≡ []
  unfolding taken
  field-other n m = rw (ne_eqb k whole n, ne_eqb k j m)

pub info-line : (k v : ℕ) → k ≡ whole → taken k (field infos v) ≡ v ∷ []
unfolding taken inlined
info-line k v e = rw (eq-eqb k whole e)

module _ (k v : ℕ) where
  pub var-line : k ≡ whole → taken k (var v) ≡ unsigned v
  unfolding taken
  var-line e = rw (eq-eqb k whole e)

  pub var-rest : k ≢ whole → k ≡ rest → taken k (var v) ≡ unsigned v
  unfolding taken
  var-rest n e = rw (ne_eqb k whole n, eq-eqb k rest e)

  pub var-other : k ≢ whole → k ≢ rest → taken k (var v) ≡ []
  unfolding taken
  var-other n m = rw (ne_eqb k whole n, ne_eqb k rest m)

module _ (k : ℕ) (b : List ℕ) where
  pub buf-line : k ≡ whole → taken k (buf b) ≡ led b
  unfolding taken
  buf-line e = rw (eq-eqb k whole e)

  pub buf-rest : k ≢ whole → k ≡ rest → taken k (buf b) ≡ led b
  unfolding taken
  buf-rest n e = rw (ne_eqb k whole n, eq-eqb k rest e)

  pub buf-other : k ≢ whole → k ≢ rest → taken k (buf b) ≡ []
  unfolding taken
  buf-other n m = rw (ne_eqb k whole n, ne_eqb k rest m)

  -- a mark's value, and plain values
  pub value_line : k ≡ whole → taken k (value b) ≡ led b
  unfolding taken
  value_line e = rw (eq-eqb k whole e)

  pub value-rest : k ≢ whole → k ≡ rest → taken k (value b) ≡ b
  unfolding taken
  value-rest n e = rw (ne_eqb k whole n, eq-eqb k rest e)

  pub value-other : k ≢ whole → k ≢ rest → taken k (value b) ≡ []
  unfolding taken
  value-other n m = rw (ne_eqb k whole n, ne_eqb k rest m)

  pub values-line : k ≡ whole → taken k (values b) ≡ b
  unfolding taken
  values-line e = rw (eq-eqb k whole e)

  pub values-rest : k ≢ whole → k ≡ rest → taken k (values b) ≡ b
  unfolding taken
  values-rest n e = rw (ne_eqb k whole n, eq-eqb k rest e)

  pub values_other : k ≢ whole → k ≢ rest → taken k (values b) ≡ []
  unfolding taken
  values_other n m = rw (ne_eqb k whole n, ne_eqb k rest m)

module _ (k : ℕ) (b : List ℕ) (n : ℕ) where
  -- a key: form 2 has its number
  pub key-line : k ≡ whole → taken k (key b n) ≡ led b
  unfolding taken
  key-line e = rw (eq-eqb k whole e)

  pub key-other : k ≢ whole → taken k (key b n) ≡ []
  unfolding taken
  key-other w = rw (ne_eqb k whole w)

  pub text-line : k ≡ whole → taken k (text b n) ≡ led b
  unfolding taken
  text-line e = rw (eq-eqb k whole e)

  pub text-texts : k ≢ whole → k ≡ texts → taken k (text b n) ≡ b
  unfolding taken
  text-texts w e = rw (ne_eqb k whole w, eq-eqb k texts e)

  pub text-units : k ≢ whole → k ≢ texts → k ≡ units → taken k (text b n) ≡ n ∷ []
  unfolding taken
  text-units w t e = rw (ne_eqb k whole w, ne_eqb k texts t, eq-eqb k units e)

  pub text-other : k ≢ whole → k ≢ texts → k ≢ units → taken k (text b n) ≡ []
  unfolding taken
  text-other w t u = rw (ne_eqb k whole w, ne_eqb k texts t, ne_eqb k units u)

-- ---- the state after a token

module _ (out : List ℕ) (e : Lane) (t : Token) where
  pub takes_none : taken e.lane t ≡ [] → (e ≡ put e t) × (out ≡ laid out e t)
  unfolding put laid
  takes_none h = rw h (go (in_line e.lane))
    where
      go : (b : Bool) → (e ≡ pick b (forward e []) (pushed_all e [])) × (out ≡ pick b (laid_bytes out e []) (laid_values out e []))
      go true = (sym (forward-none e), sym (bytes-none out e))
      go false = (sym (pushed_none e), sym (values-none out e))

  pub takes-bytes : (b : List ℕ) → in_line e.lane ≡ true → taken e.lane t ≡ b → (forward e b ≡ put e t) × (laid_bytes out e b ≡ laid out e t)
  unfolding put laid
  takes-bytes b i h = (rw (i, h), rw (i, h))

  pub takes-value : (v : ℕ) → in_line e.lane ≡ false → taken e.lane t ≡ v ∷ [] → (pushed_on e v ≡ put e t) × (laid_value out e v ≡ laid out e t)
  unfolding put laid
  takes-value v i h = (rw (i, h) (sym (pushed-one e v)), rw (i, h) (sym (values_one out e v)))

  pub put-sound : Sound e.run → Sound (put e t).run
  unfolding put
  put-sound s = go (in_line e.lane)
    where
      go : (b : Bool) → Sound (pick b (forward e (taken e.lane t)) (pushed_all e (taken e.lane t))).run
      go true = forward-sound out e (taken e.lane t) s
      go false = pushed-sound-all e (taken e.lane t) s
