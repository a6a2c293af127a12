-- A delete set stands in line: what is left of the columns before it is left after it.
use Prim.Native.Nat.{ℕ, ◌+◌}
use mathlib.Core.Path.{◌≡◌, sym, ap, ◌∙◌}
use mathlib.Core.List.{List, [], ◌∷◌, ◌++◌}
use Rattle.grammar.specs.Grammar as grammar
use Rattle.grammar.specs.Course.{got, Reader}
use Rattle.ranges.specs.Ranges.{Range}
use Rattle.readings.specs.Groups.{groups}
use Rattle.tokens.specs.Tokens.{Token, field, text, var, buf, key, value, values}
use Rattle.draws.specs.Draws.{Draws}
use Rattle.records.specs.Records.{ranges_tokens, client_tokens, owner_of, delete_tokens}

-- numbers without a column
unfoldable Vars : List Token → Type 0
Vars [] = Unit {0}
Vars (var v ∷ ts) = Vars ts
Vars (field k v ∷ ts) = ⊥
Vars (text b n ∷ ts) = ⊥
Vars (buf b ∷ ts) = ⊥
Vars (key b n ∷ ts) = ⊥
Vars (value b ∷ ts) = ⊥
Vars (values b ∷ ts) = ⊥

vars-append : (xs ys : List Token) → Vars xs → Vars ys → Vars (xs ++ ys)
unfolding Vars
vars-append [] ys h k = k
vars-append (var v ∷ xs) ys h k = vars-append xs ys h k
vars-append (field j v ∷ xs) ys h k = absurd h
vars-append (text b n ∷ xs) ys h k = absurd h
vars-append (buf b ∷ xs) ys h k = absurd h
vars-append (key b n ∷ xs) ys h k = absurd h
vars-append (value b ∷ xs) ys h k = absurd h
vars-append (values b ∷ xs) ys h k = absurd h

ranges-vars : (form end : ℕ) (rs : List Range) → Vars (ranges_tokens form end rs)
unfolding Vars ranges_tokens
ranges-vars form end [] = tt
ranges-vars form end (r ∷ rs) = ranges-vars form (r.clock + r.len) rs

clients-vars : (form : ℕ) (gs : List (List Range)) → Vars (client_tokens form gs)
unfolding Vars client_tokens
clients-vars form [] = tt
clients-vars form ([] ∷ gs) = clients-vars form gs
clients-vars form ((r ∷ rs) ∷ gs) = vars-append (ranges_tokens form 0 (r ∷ rs)) (client_tokens form gs) (ranges-vars form 0 (r ∷ rs)) (clients-vars form gs)

module _ {S X : Type 0} (r : Reader S) (d : List ℕ) (left : S → X) (stays : (v p : ℕ) (s m : S) → r (grammar.number grammar.any) s ≡ got (v, p) m → left m ≡ left s) where
  vars-stay : (ts : List Token) → Vars ts → (s t : S) → Draws r d s ts t → left t ≡ left s
  unfolding Vars Draws
  vars-stay [] v s t h = ap left (sym h)
  vars-stay (var x ∷ ts) v s t h = vars-stay ts v h.1 t h.3 ∙ stays x h.0 s h.1 h.2
  vars-stay (field k x ∷ ts) v s t h = absurd v
  vars-stay (text b n ∷ ts) v s t h = absurd v
  vars-stay (buf b ∷ ts) v s t h = absurd v
  vars-stay (key b n ∷ ts) v s t h = absurd v
  vars-stay (value b ∷ ts) v s t h = absurd v
  vars-stay (values b ∷ ts) v s t h = absurd v

  pub deletes-stay : (form : ℕ) (rs : List Range) (s t : S) → Draws r d s (delete_tokens form rs) t → left t ≡ left s
  unfolding delete_tokens Vars
  deletes-stay form rs s t h = vars-stay (delete_tokens form rs) (clients-vars form (groups owner_of rs)) s t h
