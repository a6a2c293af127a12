-- The laws of reading in bulk: what one draw adds, where draws end, and what a loop that stores what is drawn has stored so far.
use Prim.Native.Nat.{ℕ, suc, ◌+◌, ◌-◌, ◌≤◌, ◌<◌}
use mathlib.Core.Path.{◌≡◌, refl, sym, ap, ◌∙◌}
use mathlib.Core.Bool.{Bool, true, false}
use mathlib.Core.List.{List, [], ◌∷◌, ◌++◌, append-nil, append_assoc}
use native.Mathlib.Nat.{sub_self}
use native.Mathlib.Omega.{arith}
use lib.Dec.{eqb}
use lib.ListN.{length, take, replicate, length-append}
use lib.Seq.{sets, length-sets, take_all}
use Rattle.numbers.specs.declared.Refusal.{Refusal}
use Rattle.numbers.specs.Number.{pick, none}
use Rattle.numbers.specs.Output.{padded}
use Rattle.numbers.proofs.Output.{take-sets, padded-some}
use Rattle.text.specs.declared.Part.{Part}
use Rattle.bulk.specs.Bulk.{Draw, drew, stop, Bulk, and_then, draws, told, part_words}

-- what was drawn before, and then b
abbrev pub before : {A P : Type 0} → List A → Bulk A P → Bulk A P
before vs b = record { values = vs ++ b.values; refusal = b.refusal; place = b.place }

-- draws that ended with these values
abbrev pub ended : {A P : Type 0} → List A → Refusal → P → Bulk A P
ended vs why c = record { values = vs; refusal = why; place = c }

-- of the draws of k values from place c₀ on, i stand in the first `at` words of what is lent, n words long; the next is drawn from place c
pub record ReadTo {A P : Type 0} (next : P → Draw A P) (spell : List A → List ℕ) (n k : ℕ) (c₀ : P) (out : List ℕ) (at i : ℕ) (c : P) : Type 0 where
  pub drawn : List A
  pub said : spell drawn ≡ take at out
  pub many : length drawn ≡ i
  pub room : i ≤ k
  pub size : length out ≡ n
  pub fits : at ≤ n
  pub same : draws next k c₀ ≡ before drawn (draws next (k - i) c)

module _ {A P : Type 0} (next : P → Draw A P) where
  pub one_more : (k : ℕ) (c d : P) (v : A) → next c ≡ drew v d → draws next (suc k) c ≡ before (v ∷ []) (draws next k d)
  unfolding draws and_then
  one_more k c d v e = ap (λ (x : Draw A P). and_then c x (λ y. draws next k y)) e

  no_more : (k : ℕ) (c : P) (why : Refusal) → next c ≡ stop why → draws next (suc k) c ≡ ended [] why c
  unfolding draws and_then
  no_more k c why e = ap (λ (x : Draw A P). and_then c x (λ y. draws next k y)) e

  none-asked : (c : P) → draws next 0 c ≡ ended [] none c
  unfolding draws
  none-asked c = refl

pub read-begin : {A P : Type 0} (next : P → Draw A P) (spell : List A → List ℕ) (k : ℕ) (c₀ : P) (out : List ℕ) → spell [] ≡ []
    → ReadTo next spell (length out) k c₀ out 0 0 c₀
read-begin next spell k c₀ out e = record {
  drawn = [];
  said = e;
  many = refl;
  room = omega arith;
  size = refl;
  fits = omega arith;
  same = ap (λ (m : ℕ). before [] (draws next m c₀)) whole;
}
  where
    whole : k ≡ k - 0
    whole = omega arith

module _ {A P : Type 0} {next : P → Draw A P} {spell : List A → List ℕ} {n k : ℕ} {c₀ : P} {out : List ℕ} {at i : ℕ} {c : P}
    (h : ReadTo next spell n k c₀ out at i c) where
  pub read-on : (v : A) (d : P) (ws : List ℕ) → ((vs : List A) → spell (vs ++ (v ∷ [])) ≡ spell vs ++ ws) → next c ≡ drew v d → i < k → at + length ws ≤ n
      → ReadTo next spell n k c₀ (sets out at ws) (at + length ws) (i + 1) d
  read-on v d ws sp e l f = record {
    drawn = h.drawn ++ (v ∷ []);
    said = sp h.drawn ∙ ap (λ (w : List ℕ). w ++ ws) h.said ∙ sym (take-sets out ws at (omega (arith, h.size)));
    many = length-append h.drawn (v ∷ []) ∙ ap (λ (m : ℕ). m + 1) h.many;
    room = omega arith;
    size = length-sets out at ws ∙ h.size;
    fits = f;
    same = h.same ∙ ap (before h.drawn) (rest ∙ one_more next (k - (i + 1)) c d v e) ∙ regroup;
  }
    where
      rest : draws next (k - i) c ≡ draws next (suc (k - (i + 1))) c
      rest = ap (λ (m : ℕ). draws next m c) (omega arith)

      regroup : before h.drawn (before (v ∷ []) (draws next (k - (i + 1)) d)) ≡ before (h.drawn ++ (v ∷ [])) (draws next (k - (i + 1)) d)
      regroup = rw (append_assoc h.drawn (v ∷ []) (draws next (k - (i + 1)) d).values)

  -- the same of many values, which stand there after those before
  pub read-many : (vs : List A) (d : P) (out' : List ℕ) (at' : ℕ) → spell (h.drawn ++ vs) ≡ take at' out' → length out' ≡ n → at' ≤ n → i + length vs ≤ k
      → draws next (k - i) c ≡ before vs (draws next (k - (i + length vs)) d) → ReadTo next spell n k c₀ out' at' (i + length vs) d
  read-many vs d out' at' said size fits room e = record {
    drawn = h.drawn ++ vs;
    said = said;
    many = length-append h.drawn vs ∙ ap (λ (m : ℕ). m + length vs) h.many;
    room = room;
    size = size;
    fits = fits;
    same = h.same ∙ ap (before h.drawn) e ∙ regroup;
  }
    where
      regroup : before h.drawn (before vs (draws next (k - (i + length vs)) d)) ≡ before (h.drawn ++ vs) (draws next (k - (i + length vs)) d)
      regroup = rw (append_assoc h.drawn vs (draws next (k - (i + length vs)) d).values)

  -- a refused draw, and no room for another, end it
  pub read-stop : (why : Refusal) → next c ≡ stop why → i < k → draws next k c₀ ≡ ended h.drawn why c
  read-stop why e l = h.same ∙ ap (before h.drawn) (rest ∙ no_more next (k - (i + 1)) c why e) ∙ rw (append-nil h.drawn)
    where
      rest : draws next (k - i) c ≡ draws next (suc (k - (i + 1))) c
      rest = ap (λ (m : ℕ). draws next m c) (omega arith)

  pub read-end : k ≤ i → draws next k c₀ ≡ ended h.drawn none c
  read-end l = h.same ∙ ap (before h.drawn) (ap (λ (m : ℕ). draws next m c) rest ∙ none-asked next c) ∙ rw (append-nil h.drawn)
    where
      rest : k - i ≡ 0
      rest = omega (arith, h.room)

  -- what is answered then, and what is lent back
  module _ (why : Refusal) (e : draws next k c₀ ≡ ended h.drawn why c) where
    pub end-answer : {R : Type 0} (make : Refusal → ℕ → P → R)
        → make (pick (eqb i 0) why none) i c ≡ make (told (draws next k c₀)) (length (draws next k c₀).values) (draws next k c₀).place
    unfolding told
    end-answer make = rw (e, h.many)

    pub end-words : take at out ++ replicate (length out - at) 0 ≡ padded n (spell (draws next k c₀).values)
    end-words = padded-some out at (omega (arith, h.size, h.fits)) ∙ rw (e, h.said, h.size)

    pub end-full : at ≡ n → out ≡ padded n (spell (draws next k c₀).values)
    unfolding padded
    end-full l = rw (e, h.said, take_all at out (omega (arith, h.size)), h.size, sub_self, append-nil)

pub none-either : (t : Bool) → pick t none none ≡ none
none-either true = refl
none-either false = refl

-- one text more is two words more
pub parts-on : (p : Part) (ps : List Part) → part_words (ps ++ (p ∷ [])) ≡ part_words ps ++ (p.place ∷ (p.bytes.0 ∷ []))
unfolding part_words
parts-on p [] = refl
parts-on p (q ∷ ps) = ap (λ (w : List ℕ). q.place ∷ (q.bytes.0 ∷ w)) (parts-on p ps)
