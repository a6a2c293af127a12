-- Numbers without columns: no lane takes them but the one in line, so behind other tokens they stand behind the form's bytes.
use Prim.Native.Nat.{ℕ, ◌<◌}
use mathlib.Core.Path.{◌≡◌, refl, sym, ap, ap₂, ◌∙◌}
use mathlib.Core.List.{List, [], ◌∷◌, ◌++◌, append_assoc, append-nil}
use mathlib.Core.Bool.{Bool, true, false}
use native.Mathlib.Omega.{arith}
use lib.Dec.{eqb}
use Rattle.numbers.specs.Number.{pick}
use Rattle.readings.specs.Sound.{All}
use Rattle.tokens.specs.Tokens.{Token, var, lefts, rights, rest, whole, taken, taken_all, in_line, lane}
use Rattle.tokens.specs.Keys.{numbered, many_keys, crowded}
use Rattle.tokens.specs.KeysInner.{is_key, keyless, spelled, known_after, keys_after}
use Rattle.tokens.specs.Bytes.{form1, form2, bytes_of, near_in, near}
use Rattle.tokens.proofs.Taking.{var-line, var-rest, var-other}
use Rattle.tokens.proofs.Fitting.{taken-append}
use Rattle.tokens.proofs.Keys.{keyless-all, keyless-spelled, spelled-append, crowded-append}

-- a token that no lane takes but the one in line, in either form the same
pub record Plain (t : Token) : Type 0 where
  pub none : (k : ℕ) → k < rest → taken k t ≡ []
  pub line : taken rest t ≡ taken whole t
  pub key : is_key t ≡ false

pub var-plain : (v : ℕ) → Plain (var v)
unfolding is_key
var-plain v = record {
  none = λ k h. var-other k v (λ e. omega arith) (λ e. omega arith);
  line = var-rest rest v (λ e. omega arith) refl ∙ sym (var-line whole v refl);
  key = refl;
}

pub var-skipped : (v : ℕ) (ts : List Token) (k : ℕ) → k < rest → taken_all k (var v ∷ ts) ≡ taken_all k ts
unfolding taken_all
var-skipped v ts k h = rw ((var-plain v).none k h)

none-taken : (ds : List Token) → All Plain ds → (k : ℕ) → k < rest → taken_all k ds ≡ []
unfolding taken_all
none-taken [] p k h = refl
none-taken (t ∷ ds) p k h = rw (p.0.none k h) (none-taken ds p.1 k h)

line_taken : (ds : List Token) → All Plain ds → taken_all rest ds ≡ taken_all whole ds
unfolding taken_all
line_taken [] p = refl
line_taken (t ∷ ds) p = ap₂ (λ (a b : List ℕ). a ++ b) p.0.line (line_taken ds p.1)

pub lane-same : (k : ℕ) (a b : List Token) → taken_all k a ≡ taken_all k b → lane k a ≡ lane k b
unfolding lane
lane-same k a b h = rw h

-- a form's bytes, of tokens that have their keys as the form has them
unfoldable pub form_of : ℕ → List Token → List ℕ
form_of f ts = pick (eqb f 1) (form1 ts) (form2 ts)

pub form-spelled : (f : ℕ) (ts : List Token) → bytes_of f ts ≡ form_of f (spelled f [] ts)
unfolding bytes_of form_of spelled
form-spelled f ts = go (eqb f 1)
  where
    go : (b : Bool) → pick b (form1 ts) (form2 (numbered [] ts)) ≡ pick b (form1 (pick b ts (numbered [] ts))) (form2 (pick b ts (numbered [] ts)))
    go true = refl
    go false = refl

-- behind other tokens
module _ (ts ds : List Token) (plain : All Plain ds) where
  pub plain-taken : (k : ℕ) → k < rest → taken_all k (ts ++ ds) ≡ taken_all k ts
  plain-taken k h = taken-append k ts ds ∙ ap (λ (b : List ℕ). taken_all k ts ++ b) (none-taken ds plain k h) ∙ append-nil (taken_all k ts)

  plain_lane : (k : ℕ) → k < rest → lane k (ts ++ ds) ≡ lane k ts
  plain_lane k h = lane-same k (ts ++ ds) ts (plain-taken k h)

  plain-rest : lane rest (ts ++ ds) ≡ lane rest ts ++ taken_all whole ds
  unfolding lane in_line
  plain-rest = taken-append rest ts ds ∙ ap (λ (b : List ℕ). taken_all rest ts ++ b) (line_taken ds plain)

  plain-form1 : form1 (ts ++ ds) ≡ form1 ts ++ taken_all whole ds
  unfolding form1 lane in_line
  plain-form1 = taken-append whole ts ds

  plain-form2 : form2 (ts ++ ds) ≡ form2 ts ++ taken_all whole ds
  unfolding form2
  plain-form2 =
      rw (
        plain_lane 0 (omega arith),
        plain_lane 1 (omega arith),
        plain_lane 2 (omega arith),
        plain_lane 3 (omega arith),
        plain_lane 4 (omega arith),
        plain_lane 5 (omega arith),
        plain_lane 6 (omega arith),
        plain_lane 7 (omega arith),
        plain_lane 8 (omega arith),
        plain_lane 9 (omega arith),
        plain-rest,
      )
      (simp append_assoc)

  pub plain-bytes : (f : ℕ) → form_of f (ts ++ ds) ≡ form_of f ts ++ taken_all whole ds
  unfolding form_of
  plain-bytes f = go (eqb f 1)
    where
      go : (b : Bool) → pick b (form1 (ts ++ ds)) (form2 (ts ++ ds)) ≡ pick b (form1 ts) (form2 ts) ++ taken_all whole ds
      go true = plain-form1
      go false = plain-form2

-- ---- there is no key among them

plain-keyless : (ds : List Token) → All Plain ds → keyless ds ≡ true
unfolding keyless
plain-keyless [] p = refl
plain-keyless (t ∷ ds) p = rw p.0.key (plain-keyless ds p.1)

module _ (f n : ℕ) (ts : List Token) where
  pub count-spelled : spelled f [] (var n ∷ ts) ≡ var n ∷ spelled f [] ts
  unfolding spelled numbered
  count-spelled = go (eqb f 1)
    where
      go : (b : Bool) → pick b (var n ∷ ts) (var n ∷ numbered [] ts) ≡ var n ∷ pick b ts (numbered [] ts)
      go true = refl
      go false = refl

  module _ (ds : List Token) (plain : All Plain ds) where
    pub plain-spelled : spelled f [] (var n ∷ (ts ++ ds)) ≡ var n ∷ (spelled f [] ts ++ ds)
    plain-spelled =
        spelled-append f [] (var n ∷ ts) ds ∙ rw (count-spelled, keyless-spelled f (known_after f [] (var n ∷ ts)) ds (plain-keyless ds plain))

    -- so they crowd none
    pub plain-many : many_keys f (var n ∷ (ts ++ ds)) ≡ many_keys f ts
    unfolding many_keys crowded
    plain-many =
        ap (λ (b : Bool). pick (eqb f 1) false b)
        (crowded-append [] (var n ∷ ts) ds ∙ rw (keyless-all (keys_after [] (var n ∷ ts)) ds (plain-keyless ds plain)).2 (none_more (crowded [] ts)))
      where
        none_more : (b : Bool) → pick b true false ≡ b
        none_more true = refl
        none_more false = refl

pub near_same : (f : ℕ) (a b : List Token) → taken_all lefts a ≡ taken_all lefts b → taken_all rights a ≡ taken_all rights b → near f a ≡ near f b
unfolding near near_in
near_same f a b l r = rw (l, r)
