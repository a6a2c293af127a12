-- What is measured composes as what is written does: nothing, one after the other, and one token. Nothing is written where there is no room, and the ten
-- lanes do not depend on the place in line.
use Prim.Native.Nat.{ℕ, suc, ◌<◌}
use mathlib.Core.Path.{◌≡◌, refl, sym, ap, ◌∙◌}
use mathlib.Core.Bool.{true, false}
use mathlib.Core.List.{List, [], ◌∷◌, ◌++◌}
use native.Mathlib.Omega.{arith}
use lib.ListN.{length, take}
use lib.Seq.{take_at}
use Rattle.numbers.specs.Number.{unsigned}
use Rattle.tokens.specs.Tokens.{Token, field, text, var, buf, led, texts, units, rest, in_line}
use Rattle.tokens.specs.KeysInner.{keyless, spelled}
use Rattle.tokens.specs.Lanes.{Lane, fresh_lane, ahead, laid_at, forward, laid_bytes, pushed_on, laid_value, put, laid, put_all, laid_all}
use Rattle.tokens.specs.Desk.{put_each, laid_each, put_tokens, laid_tokens, lane_in, lanes_in, desk_in, known_in, Tidy, Aliased, SameKeys, WroteKeys, Alone, Gauged, Sized}
use Rattle.tokens.proofs.Laying.{values_one}
use Rattle.tokens.proofs.Places.{laid-place}
use Rattle.tokens.proofs.Taking.{in_rest}
use Rattle.tokens.proofs.Passes.{bytes-length, values_length, laid-length}
use Rattle.tokens.proofs.Deskwise.{wrote-field, wrote-text}
use Rattle.tokens.proofs.Wrote.{wrote_none, wrote_then, wrote-is, wrote-var, wrote-buf, line-place}
use Rattle.tokens.proofs.Keyed.{wrote-keys, wrote-keys-none, wrote-keys-then, wrote-keys-is}

-- ---- where there is no room nothing is written

empty : (l : List ℕ) → length l ≡ 0 → l ≡ []
empty [] h = refl
empty (x ∷ l) h = absurd (omega (arith, h))

module _ (e : Lane) where
  value-nowhere : (v : ℕ) → [] ≡ laid_value [] e v
  value-nowhere v = sym (empty (laid_value [] e v) (ap length (sym (values_one [] e v)) ∙ values_length [] e (v ∷ [])))

  bytes-nowhere : (b : List ℕ) → [] ≡ laid_bytes [] e b
  bytes-nowhere b = sym (empty (laid_bytes [] e b) (bytes-length [] e b))

  laid-nowhere : (t : Token) → laid [] e t ≡ []
  unfolding laid_all
  laid-nowhere t = empty (laid [] e t) (laid-length [] e (t ∷ []))

line-nowhere : (at : ℕ) (b : List ℕ) → [] ≡ laid_at [] at b
line-nowhere at b = bytes-nowhere (fresh_lane rest at) b ∙ sym (laid-place [] (fresh_lane rest at) b)

each-nowhere : (es : List Lane) (t : Token) → laid_each [] es t ≡ []
unfolding laid_each
each-nowhere [] t = refl
each-nowhere (e ∷ es) t = ap (λ (o : List ℕ). laid_each o es t) (laid-nowhere e t) ∙ each-nowhere es t

tokens-nowhere : (es : List Lane) (ts : List Token) → laid_tokens [] es ts ≡ []
unfolding laid_tokens
tokens-nowhere es [] = refl
tokens-nowhere es (t ∷ ts) = ap (λ (o : List ℕ). laid_tokens o (put_each es t) ts) (each-nowhere es t) ∙ tokens-nowhere (put_each es t) ts

-- ---- tokens without keys

module _ {w : List ℕ} where
  pub gauged-none : Tidy w → Gauged [] w w
  gauged-none tidy at = (at, wrote_none tidy)

  pub gauged-then : {a b : List Token} {w₁ w₂ : List ℕ} → Gauged a w w₁ → Gauged b w₁ w₂ → Gauged (a ++ b) w w₂
  gauged-then g h at =
      let x = g at in
      let y = h x.0 in
      (y.0, wrote_then x.1 y.1)

  -- the tokens under another name
  pub gauged-is : {a b : List Token} {w₁ : List ℕ} → b ≡ a → Gauged a w w₁ → Gauged b w w₁
  gauged-is e g at = let x = g at in (x.0, wrote-is e x.1)

  pub gauged-tidy : {ts : List Token} {w₁ : List ℕ} → Gauged ts w w₁ → Tidy w₁
  gauged-tidy g = (g 0).1.tidy

  pub gauged-keys : {ts : List Token} {w₁ : List ℕ} → Gauged ts w w₁ → SameKeys w w₁
  gauged-keys g = (g 0).1.keys

  -- a field, and a text
  pub gauged-field : (k v : ℕ) {w₁ : List ℕ} → k < 10 → in_line k ≡ false → Alone k (pushed_on (lane_in w k) v) w w₁ → Gauged (field k v ∷ []) w w₁
  gauged-field k v {w₁} l i a at =
      (at, wrote-field 2 at [] w (λ h. absurd (omega arith)) k v l i [] w₁ a (value-nowhere (lane_in w k) v))

  pub gauged-text : (b : List ℕ) (n : ℕ) {w₁ w₂ : List ℕ} → Alone texts (forward (lane_in w texts) b) w w₁
      → Alone units (pushed_on (lane_in w₁ units) n) w₁ w₂ → Gauged (text b n ∷ []) w w₂
  gauged-text b n {w₁} {w₂} a d at = (
    at,
    wrote-text 2 at [] w (λ h. absurd (omega arith)) b n [] w₁ [] w₂ a (bytes-nowhere (lane_in w texts) b) d (value-nowhere (lane_in w₁ units) n),
  )

  -- what stands in line: no lane of the ten takes it
  pub gauged-var : (v : ℕ) → Tidy w → Gauged (var v ∷ []) w w
  gauged-var v tidy at = (ahead at (unsigned v), wrote-var v tidy (refl, line-nowhere at (unsigned v)))

  pub gauged-buf : (b : List ℕ) → Tidy w → Gauged (buf b ∷ []) w w
  gauged-buf b tidy at = (ahead at (led b), wrote-buf b tidy (refl, line-nowhere at (led b)))

-- ---- the same where there are keys

module _ {u w : List ℕ} where
  pub sized-gauged : {ts : List Token} {w₁ : List ℕ} → keyless ts ≡ true → Gauged ts w w₁ → Sized u ts w w₁
  sized-gauged h g at = let x = g at in (x.0, wrote-keys h x.1)

  pub sized-none : Tidy w → Sized u [] w w
  sized-none tidy at = (at, wrote-keys-none tidy)

  pub sized-then : {a b : List Token} {w₁ w₂ : List ℕ} → Sized u a w w₁ → Sized u b w₁ w₂ → Sized u (a ++ b) w w₂
  sized-then g h at =
      let x = g at in
      let y = h x.0 in
      (y.0, wrote-keys-then x.1 y.1)

  pub sized-is : {a b : List Token} {w₁ : List ℕ} → b ≡ a → Sized u a w w₁ → Sized u b w w₁
  sized-is e g at = let x = g at in (x.0, wrote-keys-is e x.1)

  pub sized-tidy : {ts : List Token} {w₁ : List ℕ} → Sized u ts w w₁ → Tidy w₁
  sized-tidy g = (g 0).1.tidy

  pub sized-aliased : {ts : List Token} {w₁ : List ℕ} → Aliased u w → Sized u ts w w₁ → Aliased u w₁
  sized-aliased a g = (g 0).1.aliased a

-- ---- what is written is measured: the lanes go on one by one, and the rest beside them

each_last : (es : List Lane) (e : Lane) (t : Token) → put_each (es ++ (e ∷ [])) t ≡ put_each es t ++ (put e t ∷ [])
unfolding put_each
each_last [] e t = refl
each_last (f ∷ es) e t = ap (λ (l : List Lane). put f t ∷ l) (each_last es e t)

tokens-last : (es : List Lane) (e : Lane) (ts : List Token) → put_tokens (es ++ (e ∷ [])) ts ≡ put_tokens es ts ++ (put_all e ts ∷ [])
unfolding put_tokens put_all
tokens-last es e [] = refl
tokens-last es e (t ∷ ts) = ap (λ (l : List Lane). put_tokens l ts) (each_last es e t) ∙ tokens-last (put_each es t) (put e t) ts

each-many : (es : List Lane) (t : Token) → length (put_each es t) ≡ length es
unfolding put_each
each-many [] t = refl
each-many (e ∷ es) t = ap suc (each-many es t)

tokens-many : (es : List Lane) (ts : List Token) → length (put_tokens es ts) ≡ length es
unfolding put_tokens
tokens-many es [] = refl
tokens-many es (t ∷ ts) = tokens-many (put_each es t) ts ∙ each-many es t

ten : (w : List ℕ) → length (lanes_in w) ≡ 10
unfolding lanes_in
ten w = refl

module _ (w w₁ : List ℕ) (ts : List Token) where
  columns : (at at₁ : ℕ) → desk_in 2 w₁ at₁ ≡ put_tokens (desk_in 2 w at) ts → lanes_in w₁ ≡ put_tokens (lanes_in w) ts
  unfolding desk_in
  columns at at₁ h =
      sym (take_at (lanes_in w₁) (fresh_lane rest at₁ ∷ []) 10 (ten w₁)) ∙ ap (take 10) (h ∙ tokens-last (lanes_in w) (fresh_lane rest at) ts)
      ∙ take_at (put_tokens (lanes_in w) ts) (put_all (fresh_lane rest at) ts ∷ []) 10 (tokens-many (lanes_in w) ts ∙ ten w)

  -- from any other place in line too
  anywhere : lanes_in w₁ ≡ put_tokens (lanes_in w) ts → (at : ℕ) → desk_in 2 w₁ (put_all (fresh_lane rest at) ts).run.at ≡ put_tokens (desk_in 2 w at) ts
  unfolding desk_in
  anywhere h at =
      ap (λ (es : List Lane). es ++ (fresh_lane rest (put_all (fresh_lane rest at) ts).run.at ∷ [])) h
      ∙ ap (λ (e : Lane). put_tokens (lanes_in w) ts ++ (e ∷ [])) (sym (line-place rest (in_rest rest refl) at ts))
      ∙ sym (tokens-last (lanes_in w) (fresh_lane rest at) ts)

pub wrote-sized : {u : List ℕ} {ts : List Token} {out w out₁ w₁ : List ℕ} {at at₁ : ℕ} → WroteKeys u 2 ts out w at out₁ w₁ at₁ → Sized u ts w w₁
wrote-sized {u} {ts} {w = w} {w₁ = w₁} {at = at} {at₁ = at₁} h place =
    let ps = spelled 2 (known_in u w) ts in (
      (put_all (fresh_lane rest place) ps).run.at,
      record {
        desk = anywhere w w₁ ps (columns w w₁ ps at at₁ h.desk) place;
        bytes = sym (tokens-nowhere (desk_in 2 w place) ps);
        tidy = h.tidy;
        known = h.known;
        crowd = h.crowd;
        aliased = h.aliased;
      },
    )
