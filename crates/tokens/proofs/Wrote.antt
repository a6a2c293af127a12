-- What is written composes: nothing, one after the other, and a token in line, which only one lane of a form takes.
use Prim.Native.Nat.{ℕ, ◌<◌}
use mathlib.Core.Path.{◌≡◌, refl, sym, ap, subst, ◌∙◌}
use mathlib.Core.Logic.{◌≢◌}
use mathlib.Core.Bool.{Bool, true, false}
use mathlib.Core.List.{List, [], ◌∷◌, ◌++◌}
use native.Mathlib.Omega.{arith}
use lib.Dec.{ltb, eqb}
use borrow.Author.Tests.{ltb-true, ne_eqb}
use Rattle.numbers.specs.Number.{pick, unsigned}
use Rattle.readings.specs.Sound.{All}
use Rattle.tokens.specs.Tokens.{Token, text, var, buf, value, values, led, rest, whole, taken, in_line}
use Rattle.tokens.specs.Lanes.{Lane, fresh_lane, ahead, laid_at, put, laid, put_all, laid_all}
use Rattle.tokens.specs.Desk.{put_each, laid_each, put_tokens, laid_tokens, lane_in, lanes_in, desk_in, Tidy, Wrote}
use Rattle.tokens.proofs.Taking.{in-line, in_rest, takes_none, var-line, var-rest, var-other, buf-line, buf-rest, buf-other, value-rest, value-other, values-line, values-rest, values_other, text-line}
use Rattle.tokens.proofs.Passes.{put-none}
use Rattle.tokens.proofs.Deskwise.{line-put, line-laid, wrote-whole}

-- ---- tokens after tokens, on all lanes

pub each_append : (es : List Lane) (a b : List Token) → put_tokens es (a ++ b) ≡ put_tokens (put_tokens es a) b
unfolding put_tokens
each_append es [] b = refl
each_append es (t ∷ a) b = each_append (put_each es t) a b

pub laid-each-append : (out : List ℕ) (es : List Lane) (a b : List Token) → laid_tokens out es (a ++ b) ≡ laid_tokens (laid_tokens out es a) (put_tokens es a) b
unfolding laid_tokens put_tokens
laid-each-append out es [] b = refl
laid-each-append out es (t ∷ a) b = laid-each-append (laid_each out es t) (put_each es t) a b

-- ---- writers one after the other

module _ {form : ℕ} {out w : List ℕ} {at : ℕ} where
  pub wrote_none : Tidy w → Wrote form [] out w at out w at
  unfolding put_tokens laid_tokens
  wrote_none tidy = record { desk = refl; bytes = refl; tidy = tidy; keys = λ p l. refl }

  pub wrote_then : {a b : List Token} {out₁ w₁ out₂ w₂ : List ℕ} {at₁ at₂ : ℕ} → Wrote form a out w at out₁ w₁ at₁ → Wrote form b out₁ w₁ at₁ out₂ w₂ at₂
      → Wrote form (a ++ b) out w at out₂ w₂ at₂
  wrote_then {a} {b} {out₁} h k = record {
    desk = k.desk ∙ ap (λ (es : List Lane). put_tokens es b) h.desk ∙ sym (each_append (desk_in form w at) a b);
    bytes =
        k.bytes ∙ ap (λ (es : List Lane). laid_tokens out₁ es b) h.desk
        ∙ ap (λ (o : List ℕ). laid_tokens o (put_tokens (desk_in form w at) a) b) h.bytes ∙ sym (laid-each-append out (desk_in form w at) a b);
    tidy = k.tidy;
    keys = λ p l. k.keys p l ∙ h.keys p l;
  }

  -- the tokens under another name
  pub wrote-is : {a b : List Token} {out₁ w₁ : List ℕ} {at₁ : ℕ} → b ≡ a → Wrote form a out w at out₁ w₁ at₁ → Wrote form b out w at out₁ w₁ at₁
  wrote-is {out₁ = out₁} {w₁ = w₁} {at₁ = at₁} e h = subst (λ (ts : List Token). Wrote form ts out w at out₁ w₁ at₁) (sym e) h

-- ---- a lane in line is its place

module _ (k : ℕ) (i : in_line k ≡ true) (at : ℕ) (t : Token) (ts : List Token) (b : List ℕ) (h : taken k t ≡ b) where
  pub line-put-all : put_all (fresh_lane k at) (t ∷ ts) ≡ put_all (fresh_lane k (ahead at b)) ts
  unfolding put_all
  line-put-all = ap (λ (e : Lane). put_all e ts) (sym (line-put [] k at t b i h))

  pub line-laid-all : (out : List ℕ) → laid_all out (fresh_lane k at) (t ∷ ts) ≡ laid_all (laid_at out at b) (fresh_lane k (ahead at b)) ts
  unfolding laid_all
  line-laid-all out =
      ap (λ (o : List ℕ). laid_all o (put (fresh_lane k at) t) ts) (sym (line-laid out k at t b i h))
      ∙ ap (λ (e : Lane). laid_all (laid_at out at b) e ts) (sym (line-put [] k at t b i h))

-- after any tokens too
pub line-place : (k : ℕ) → in_line k ≡ true → (at : ℕ) (ts : List Token) → put_all (fresh_lane k at) ts ≡ fresh_lane k (put_all (fresh_lane k at) ts).run.at
line-place k i at [] = rw put-none
line-place k i at (t ∷ ts) =
    let b = taken k t in
    subst (λ (e : Lane). e ≡ fresh_lane k e.run.at) (sym (line-put-all k i at t ts b refl)) (line-place k i (ahead at b) ts)

-- two lanes in line that take the same of all tokens
pub line-alike : (j k : ℕ) → in_line j ≡ true → in_line k ≡ true → (out : List ℕ) (at : ℕ) (ts : List Token) → All (λ (t : Token). taken j t ≡ taken k t) ts
    → ((put_all (fresh_lane j at) ts).run.at ≡ (put_all (fresh_lane k at) ts).run.at) × (laid_all out (fresh_lane j at) ts ≡ laid_all out (fresh_lane k at) ts)
unfolding put_all laid_all
line-alike j k p q out at [] h = (refl, refl)
line-alike j k p q out at (t ∷ ts) h =
    let b = taken k t in
    let x = line-alike j k p q (laid_at out at b) (ahead at b) ts h.1 in (
      ap (λ (e : Lane). e.run.at) (line-put-all j p at t ts b h.0) ∙ x.0 ∙ ap (λ (e : Lane). e.run.at) (sym (line-put-all k q at t ts b refl)),
      line-laid-all j p at t ts b h.0 out ∙ x.1 ∙ sym (line-laid-all k q at t ts b refl out),
    )

-- ---- lanes that take nothing of a token, before one that may

abbrev pub Idle : Token → List Lane → Type 0
Idle t es = All (λ (e : Lane). taken e.lane t ≡ []) es

pub put-idle : (es : List Lane) (e : Lane) (t : Token) → Idle t es → put_each (es ++ (e ∷ [])) t ≡ es ++ (put e t ∷ [])
unfolding put_each
put-idle [] e t h = refl
put-idle (f ∷ es) e t h = rw (put-idle es e t h.1, ← (takes_none [] f t h.0).0)

pub laid-idle : (out : List ℕ) (es : List Lane) (e : Lane) (t : Token) → Idle t es → laid_each out (es ++ (e ∷ [])) t ≡ laid out e t
unfolding laid_each
laid-idle out [] e t h = refl
laid-idle out (f ∷ es) e t h = ap (λ (o : List ℕ). laid_each o (es ++ (e ∷ [])) t) (sym (takes_none out f t h.0).1) ∙ laid-idle out es e t h.1

idle-lanes : (w : List ℕ) (t : Token) → ((k : ℕ) → k < 10 → taken k t ≡ []) → Idle t (lanes_in w)
unfolding lanes_in lane_in
idle-lanes w t h =
    let own : (k : ℕ) → ltb k 10 ≡ true → taken k t ≡ [] = λ k l. h k (ltb-true k 10 l) in
    (own 0 refl, (own 1 refl, (own 2 refl, (own 3 refl, (own 4 refl, (own 5 refl, (own 6 refl, (own 7 refl, (own 8 refl, (own 9 refl, tt))))))))))

-- ---- a token in line

module _ {form : ℕ} {out w : List ℕ} {at : ℕ} where
  -- of form 2 only the rest takes it
  pub wrote-line : (t : Token) (b : List ℕ) {out₁ : List ℕ} {r : ℕ} → taken whole t ≡ b → taken rest t ≡ b → ((k : ℕ) → k < 10 → taken k t ≡ []) → Tidy w
      → r ≡ ahead at b → out₁ ≡ laid_at out at b → Wrote form (t ∷ []) out w at out₁ w r
  unfolding desk_in put_tokens laid_tokens put_each laid_each
  wrote-line t b {out₁} {r} h l n tidy p q = record { desk = desk-is (eqb form 1); bytes = bytes-are (eqb form 1); tidy = tidy; keys = λ p l. refl }
    where
      one : put_each (fresh_lane whole at ∷ []) t ≡ fresh_lane whole r ∷ []
      one = ap (λ (e : Lane). e ∷ []) (sym (line-put out whole at t b (in-line whole refl) h)) ∙ rw p

      all : put_each (lanes_in w ++ (fresh_lane rest at ∷ [])) t ≡ lanes_in w ++ (fresh_lane rest r ∷ [])
      all = put-idle (lanes_in w) (fresh_lane rest at) t (idle-lanes w t n) ∙ rw (← line-put out rest at t b (in_rest rest refl) l, p)

      desk-is : (x : Bool) → pick x (fresh_lane whole r ∷ []) (lanes_in w ++ (fresh_lane rest r ∷ []))
          ≡ put_each (pick x (fresh_lane whole at ∷ []) (lanes_in w ++ (fresh_lane rest at ∷ []))) t
      desk-is true = sym one
      desk-is false = sym all

      bytes_one : laid_each out (fresh_lane whole at ∷ []) t ≡ out₁
      bytes_one = sym (line-laid out whole at t b (in-line whole refl) h) ∙ sym q

      bytes-all : laid_each out (lanes_in w ++ (fresh_lane rest at ∷ [])) t ≡ out₁
      bytes-all = laid-idle out (lanes_in w) (fresh_lane rest at) t (idle-lanes w t n) ∙ sym (line-laid out rest at t b (in_rest rest refl) l) ∙ sym q

      bytes-are : (x : Bool) → out₁ ≡ laid_each out (pick x (fresh_lane whole at ∷ []) (lanes_in w ++ (fresh_lane rest at ∷ []))) t
      bytes-are true = sym bytes_one
      bytes-are false = sym bytes-all

  -- a number, and bytes led by their length
  pub wrote-var : (v : ℕ) {out₁ : List ℕ} {r : ℕ} → Tidy w → (r ≡ ahead at (unsigned v)) × (out₁ ≡ laid_at out at (unsigned v))
      → Wrote form (var v ∷ []) out w at out₁ w r
  wrote-var v tidy h =
      wrote-line (var v) (unsigned v) (var-line whole v refl) (var-rest rest v (λ e. omega arith) refl)
      (λ k l. var-other k v (λ e. omega arith) (λ e. omega arith)) tidy h.0 h.1

  pub wrote-buf : (b : List ℕ) {out₁ : List ℕ} {r : ℕ} → Tidy w → (r ≡ ahead at (led b)) × (out₁ ≡ laid_at out at (led b))
      → Wrote form (buf b ∷ []) out w at out₁ w r
  wrote-buf b tidy h =
      wrote-line (buf b) (led b) (buf-line whole b refl) (buf-rest rest b (λ e. omega arith) refl)
      (λ k l. buf-other k b (λ e. omega arith) (λ e. omega arith)) tidy h.0 h.1

  -- values as they stand
  pub wrote-values : (b : List ℕ) {out₁ : List ℕ} {r : ℕ} → Tidy w → (r ≡ ahead at b) × (out₁ ≡ laid_at out at b)
      → Wrote form (values b ∷ []) out w at out₁ w r
  wrote-values b tidy h =
      wrote-line (values b) b (values-line whole b refl) (values-rest rest b (λ e. omega arith) refl)
      (λ k l. values_other k b (λ e. omega arith) (λ e. omega arith)) tidy h.0 h.1

  -- a mark's value in form 2
  pub wrote-value-rest : (b : List ℕ) {out₁ : List ℕ} {r : ℕ} → form ≢ 1 → Tidy w → (r ≡ ahead at b) × (out₁ ≡ laid_at out at b)
      → Wrote form (value b ∷ []) out w at out₁ w r
  unfolding desk_in put_tokens laid_tokens
  wrote-value-rest b {out₁} {r} f tidy h =
      let t = value b in
      let two = ne_eqb form 1 f in
      let none : Idle t (lanes_in w) = idle-lanes w t (λ k l. value-other k b (λ e. omega arith) (λ e. omega arith)) in
      let own = value-rest rest b (λ e. omega arith) refl in
      let i = in_rest rest refl in
      record {
        desk = rw (two, h.0) (sym (put-idle (lanes_in w) (fresh_lane rest at) t none ∙ rw (← line-put out rest at t b i own)));
        bytes = h.1 ∙ line-laid out rest at t b i own ∙ rw two (sym (laid-idle out (lanes_in w) (fresh_lane rest at) t none));
        tidy = tidy;
        keys = λ p l. refl;
      }

  -- a text in form 1, whatever its units
  pub wrote-text-line : (b : List ℕ) (n : ℕ) {out₁ : List ℕ} {r : ℕ} → form ≡ 1 → Tidy w → (r ≡ ahead at (led b)) × (out₁ ≡ laid_at out at (led b))
      → Wrote form (text b n ∷ []) out w at out₁ w r
  wrote-text-line b n {out₁} {r} f tidy h = wrote-whole form at out w (text b n) f tidy (led b) out₁ r (text-line whole b n refl) h.0 h.1
