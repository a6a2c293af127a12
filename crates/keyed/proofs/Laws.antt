-- What keys and values come to over words: a text of which the bytes alone are wanted, so many values in line, a key by its number, a key that joins.
use Rattle.std.specs.Prelude.{Option, Some, None}
use Prim.Native.Nat.{ℕ, zero, suc, ◌+◌, ◌-◌, ◌≤◌, ◌<◌}
use mathlib.Core.Path.{◌≡◌, refl, sym, ap, subst, ◌∙◌}
use mathlib.Core.Logic.{◌≢◌}
use mathlib.Core.Bool.{Bool, true, false}
use mathlib.Core.List.{List, [], ◌∷◌, ◌++◌}
use native.Mathlib.Omega.{arith}
use lib.Dec.{eqb}
use lib.ListN.{length, get_or, take}
use borrow.Author.Tests.{lt-ltb, le-ltb}
use Rattle.numbers.specs.declared.Refusal.{Refusal}
use Rattle.numbers.specs.Number.{pick}
use Rattle.text.specs.declared.Part.{Part}
use Rattle.text.specs.declared.Units.{Units}
use Rattle.string.specs.declared.Answer as string-answer
use Rattle.string.specs.declared.Answer.TheVariants as string
use Rattle.string.specs.String.{next_text}
use Rattle.block.specs.Row.{no_part}
use Rattle.anys.specs.declared.Skipped.TheVariants as skipped
use Rattle.anys.specs.Any.{anys}
use Rattle.anys.proofs.Places.{Ends}
use Rattle.anys.proofs.Laws.{anys-none, anys-ends}
use Rattle.grammar.specs.Grammar as grammar
use Rattle.grammar.specs.Course.{Drawn, got, not}
use Rattle.decoder.specs.Line.{word_of, spanned, values_at, line}
use Rattle.decoder.specs.States.{max_keys, State, moved_to, key_moved, text_moved, with_keys}
use Rattle.decoder.specs.Columned.{onto, text_drawn, text_in, joining, key_by_number, key_in, columned}
use Rattle.decoder.specs.ColumnedInner.{fields}
use Rattle.decoder.proofs.Laws.{fields-columned}
use Rattle.cells.specs.Cells.{at_in, place_in, key_count, keys_in, state_in, why_in, Small, part_in, given, Roomy, DifferenceDrawn}
use Rattle.cells.proofs.Keys.{keys_length, joined}
use Rattle.cells.proofs.States.{state-key, state-joined, difference-onto}
use Rattle.fields.specs.Fields.{part_given, text_given}
use Rattle.fields.proofs.Laws.{in-line}

-- ---- a text of which the bytes alone are wanted

module _ (k : ℕ) (v q : List ℕ) where
  pub word-done : (n : ℕ) → part_given k v q (Some tt) ≡ word_of (text_given k v q (Some n))
  unfolding part_given text_given word_of
  word-done n = refl

  pub word-refused : part_given k v q None ≡ word_of (text_given k v q None)
  unfolding part_given text_given word_of
  word-refused = refl

word-onto : (s : State) (d : Drawn ℕ (Part × Units)) → word_of (onto s d) ≡ onto s (word_of d)
unfolding word_of onto
word-onto s (got a e) = refl
word-onto s (not why) = refl

-- in line a key and a mark's value are one
module _ (form : ℕ) (u w : List ℕ) (h : form ≡ 1) where
  abbrev Word : Drawn State Part
  Word = word_of (fields form u grammar.text (state_in w))

  pub key-line : Word ≡ fields form u grammar.key (state_in w)
  unfolding line
  key-line = ap word_of (sym (in-line form u w h grammar.text)) ∙ word-onto (state_in w) (line 1 u grammar.text (at_in w)) ∙ in-line form u w h grammar.key

  pub value_line : (blame : ℕ) → Word ≡ fields form u (grammar.value blame) (state_in w)
  unfolding line
  value_line blame =
      ap word_of (sym (in-line form u w h grammar.text)) ∙ word-onto (state_in w) (line 1 u grammar.text (at_in w)) ∙ in-line form u w h (grammar.value blame)

module _ (form : ℕ) (u : List ℕ) (s : State) (other : form ≢ 1) where
  pub key-columned : key_in u s ≡ fields form u grammar.key s
  unfolding columned
  key-columned = sym (fields-columned form u other grammar.key s)

  pub value-columned : (blame : ℕ) → fields form u (grammar.values blame 1) s ≡ fields form u (grammar.value blame) s
  unfolding columned line
  value-columned blame = fields-columned form u other (grammar.values blame 1) s ∙ sym (fields-columned form u other (grammar.value blame) s)

-- ---- values

-- they stand in line in both forms
pub fields-values : (form : ℕ) (u : List ℕ) (blame n : ℕ) (s : State) → fields form u (grammar.values blame n) s ≡ onto s (values_at u blame n s.at)
unfolding fields columned line
fields-values form u blame n s = same (eqb form 1)
  where
    same : (b : Bool) → pick b (onto s (values_at u blame n s.at)) (onto s (values_at u blame n s.at)) ≡ onto s (values_at u blame n s.at)
    same true = refl
    same false = refl

pub values-end : (u : List ℕ) (blame n at e : ℕ) → anys u blame n at ≡ skipped.At e → at ≤ e
unfolding Ends
values-end u blame zero at e h = let q : at ≡ e = cc (anys-none u blame at) in omega arith
values-end u blame (suc n) at e h = omega (arith, (subst (Ends u blame (at + suc n)) h (anys-ends u blame (suc n) at (omega arith))).0)

module _ (form : ℕ) (u w : List ℕ) (blame n : ℕ) where
  pub values-read : (e : ℕ) → anys u blame n (at_in w) ≡ skipped.At e
      → got (record { place = at_in w; bytes = record { 0 = e - at_in w } }) (moved_to (state_in w) e) ≡ fields form u (grammar.values blame n) (state_in w)
  unfolding onto values_at spanned state_in
  values-read e h = ap (λ d. onto (state_in w) (spanned (at_in w) d)) (sym h) ∙ sym (fields-values form u blame n (state_in w))

  pub values-refused : (why : Refusal) → anys u blame n (at_in w) ≡ skipped.Refused why → not why ≡ fields form u (grammar.values blame n) (state_in w)
  unfolding onto values_at spanned state_in
  values-refused why h = ap (λ d. onto (state_in w) (spanned (at_in w) d)) (sym h) ∙ sym (fields-values form u blame n (state_in w))

-- ---- a key by its number

-- which is drawn from its column
pub key-drawn : (u w v : List ℕ) (r : Option ℕ) → DifferenceDrawn u 0 w v r → key_by_number u (given v r) ≡ key_in u (state_in w)
unfolding key_in state_in
key-drawn u w v r d = ap (key_by_number u) (difference-onto u w v 0 r (λ c. key_moved c (state_in w)) (state-key w v d.1) d)

-- where a number was drawn there are words for keys
pub room-drawn : (v : List ℕ) (r : Option ℕ) (x : ℕ) → r ≡ Some x → Roomy 0 v r → 580 ≤ length v
room-drawn v r x e a = subst (λ (d : Option ℕ). Roomy 0 v d) e a refl

module _ (u v : List ℕ) where
  pub key-none : not (why_in v) ≡ key_by_number u (given v None)
  unfolding key_by_number given
  key-none = refl

  module _ (x : ℕ) where
    pub key-known : x < key_count v → got (get_or (keys_in v) x no_part) (state_in v) ≡ key_by_number u (given v (Some x))
    unfolding key_by_number given state_in
    key-known l = rw (keys_length v, lt-ltb x (key_count v) l) refl

    pub key-over : key_count v ≤ x → max_keys ≤ key_count v → not (record { number = 3; place = place_in v }) ≡ key_by_number u (given v (Some x))
    unfolding key_by_number given state_in
    key-over l m = rw (keys_length v, le-ltb x (key_count v) l, le-ltb (key_count v) max_keys m) refl

    pub key-new : key_count v ≤ x → key_count v < max_keys → joining (text_in u (state_in v)) ≡ key_by_number u (given v (Some x))
    unfolding key_by_number given state_in
    key-new l m = rw (keys_length v, le-ltb x (key_count v) l, lt-ltb (key_count v) max_keys m) refl

-- ---- a key that joins

unfoldable keeping : Drawn State Part → Drawn State Part
keeping (got p s) = got p (with_keys (s.keys ++ (p ∷ [])) s)
keeping (not why) = not why

word-keeping : (d : Drawn State (Part × Units)) → keeping (word_of d) ≡ joining d
unfolding keeping word_of joining
word-keeping (got a s) = refl
word-keeping (not why) = refl

-- the next text, of which the bytes alone are wanted
word_in : (u : List ℕ) (s : State) → word_of (fields 2 u grammar.text s) ≡ word_of (text_in u s)
unfolding fields columned
word_in u s = refl

-- a text leaves the keys as they were
unfoldable keys_after : List Part → Drawn State Part → List Part
keys_after ks (got p s) = s.keys
keys_after ks (not why) = ks

word-keys : (u : List ℕ) (s : State) → keys_after s.keys (word_of (text_in u s)) ≡ s.keys
unfolding keys_after word_of text_drawn
word-keys u s = go (next_text (take s.text.to u) s.text.place)
  where
    go : (a : string-answer.Answer) → keys_after s.keys (word_of (text_drawn (λ c. text_moved c s) s.text.to a)) ≡ s.keys
    go (string.Next p c) = refl
    go (string.Bad why) = refl

module _ (u w v q : List ℕ) (k : ℕ) where
  pub join-none : part_given k v q None ≡ word_of (fields 2 u grammar.text (state_in w)) → part_given k v q None ≡ joining (text_in u (state_in w))
  unfolding part_given keeping
  join-none h = ap keeping (h ∙ word_in u (state_in w)) ∙ word-keeping (text_in u (state_in w))

  module _ (h : part_given k v q (Some tt) ≡ word_of (fields 2 u grammar.text (state_in w))) where
    pub count_kept : key_count v ≡ key_count w
    unfolding part_given keys_after state_in
    count_kept =
        let e : keys_in v ≡ keys_in w = ap (keys_after (keys_in w)) (h ∙ word_in u (state_in w)) ∙ word-keys u (state_in w) in
        sym (keys_length v) ∙ ap length e ∙ keys_length w

    pub join-done : (s : Small v) (wide : 580 ≤ length v) (n : ℕ) (e : n ≡ key_count v) (few : n < max_keys)
        → part_given k (joined v s wide n e few (get_or q k 0) (get_or q (k + 1) 0)) q (Some tt) ≡ joining (text_in u (state_in w))
    unfolding part_given keeping state_in part_in
    join-done s wide n e few =
        ap (got (part_in q k)) (state-joined v s wide n e few (get_or q k 0) (get_or q (k + 1) 0))
        ∙ ap keeping (h ∙ word_in u (state_in w)) ∙ word-keeping (text_in u (state_in w))
