-- What the delete ranges of every update have: each is fine, and so is their normal form; and they are of at most 64 clients, those announced.
use Prim.Native.Nat.{ℕ, zero, suc, ◌+◌, ◌≤◌, ◌<◌}
use mathlib.Core.Path.{◌≡◌, refl, ap}
use mathlib.Core.Logic.{◌⊎◌, inl, inr}
use mathlib.Core.Bool.{Bool}
use mathlib.Core.List.{List, [], ◌∷◌, ◌++◌}
use native.Mathlib.Omega.{arith}
use lib.Dec.{ltb, eqb}
use lib.ListN.{length}
use borrow.Author.Tests.{ltb-false, eqb-false}
use Rattle.numbers.specs.Number.{pick}
use Rattle.numbers.specs.Limits.{max_clock, max_value, max_clients}
use Rattle.grammar.specs.Grammar.{Grammar, emit, stop}
use Rattle.grammar.specs.Grammar.{◌>>=◌}
use Rattle.grammar.specs.Course.{fit, things}
use Rattle.grammar.specs.Deletes as grammar
use Rattle.decoder.specs.Line.{line}
use Rattle.decoder.specs.Update.{delete_set}
use Rattle.ranges.specs.Ranges.{Range, hull, add, normal}
use Rattle.ranges.specs.Table.{range}
use Rattle.ranges.specs.TableInner.{Fine}
use Rattle.ranges.proofs.Theory.{normal-is, add-by, normal-by}
use Rattle.ranges.proofs.Fines.{hull-fine}
use Rattle.readings.specs.Groups.{groups}
use Rattle.readings.specs.Sound.{All}
use Rattle.readings.proofs.Groups.{all_map, groups-all}
use Rattle.readings.proofs.RangeGroups.{client_in, client_of, Grouped, grouped}
use Rattle.readings.proofs.Walks as walks
use Rattle.readings.proofs.Columns.{chosen}
use Rattle.readings.proofs.Fields.{GoodNumber, Good, line-faithful}
use Rattle.readings.proofs.Fits.{fit_all}

-- ---- the clients announced

abbrev In : ℕ → List ℕ → Type 0
In c [] = ⊥
In c (x ∷ xs) = (x ≡ c) ⊎ In c xs

-- r is fine, and of one of these clients
abbrev Known : List ℕ → Range → Type 0
Known cs r = Fine r × In r.client cs

-- the ranges are of these clients and at most n others
record Announced (first : List ℕ) (n : ℕ) (rs : List Range) : Type 0 where
  names : List ℕ
  few : length names ≤ n
  each : All (Known (first ++ names)) rs

none : (first : List ℕ) (n : ℕ) → Announced first n []
none first n = record { names = []; few = omega arith; each = tt }

module _ (u : List ℕ) (one : Bool) where
  abbrev Keeps : (List Range → Type 0) → Grammar Range (Unit {0}) → Type 0
  Keeps N x = walks.Keeps (Good u one) N x

  -- k ranges of a client, and then those of n others
  module _ (client n : ℕ) (most : client ≤ max_value) (then : Unit {0} → Grammar Range (Unit {0})) where
    abbrev Here : Grammar Range (Unit {0}) → Type 0
    Here x = Keeps (Announced (client ∷ []) n) (x >>= then)

    ended : (clock at len : ℕ) (x : Grammar Range (Unit {0})) → Here x
        → Here (pick (ltb max_clock (clock + len)) (stop 3 at) (pick (eqb len 0) x (emit (range client clock len) at x)))
    unfolding walks.Keeps ◌>>=◌
    ended clock at len x rest =
        chosen Here (ltb max_clock (clock + len)) (λ _. none (client ∷ []) n)
        (λ l. chosen Here (eqb len 0) (λ _. rest)
        (λ e. walks.keeps-map (Good u one) _ _ (x >>= then) (λ rs a. record {
          names = a.names;
          few = a.few;
          each = ((record { some = omega (arith, eqb-false len 0 e); end = ltb-false max_clock (clock + len) l; client = most }, inl refl), a.each);
        }) rest))

    ranges-keep : Keeps (Announced [] n) (then tt) → (k end : ℕ) → Here (grammar.ranges k client end)
    unfolding walks.Keeps ◌>>=◌ grammar.ranges
    ranges-keep rest zero end =
        walks.keeps-map (Good u one) _ _ (then tt)
        (λ rs a. record { names = a.names; few = a.few; each = all_map _ _ (λ r x. (x.0, inr x.1)) rs a.each }) rest
    ranges-keep rest (suc k) end =
        (none (client ∷ []) n, λ c _. (none (client ∷ []) n, λ l _. ended c.0 c.1 l.0 _ (ranges-keep rest k (c.0 + l.0))))

  clients-keep : (n : ℕ) → Keeps (Announced [] n) (grammar.deleted_clients n)
  unfolding walks.Keeps ◌>>=◌ grammar.deleted_clients Good GoodNumber
  clients-keep zero = none [] 0
  clients-keep (suc n) = (
    none [] (suc n),
    λ c most. (
      none [] (suc n),
      λ k _.
          walks.keeps-map (Good u one) _ _ (grammar.ranges k.0 c.0 0 >>= λ _. grammar.deleted_clients n)
          (λ rs a. record { names = c.0 ∷ a.names; few = omega (arith, a.few); each = a.each }) (ranges-keep c.0 n most _ (clients-keep n) k.0 0),
    ),
  )

  all_keep : Keeps (Announced [] max_clients) grammar.all_ranges
  unfolding walks.Keeps ◌>>=◌ grammar.all_ranges Good GoodNumber
  all_keep = (
    none [] max_clients,
    λ n l. walks.keeps-map (Good u one) _ _ (grammar.deleted_clients n.0)
        (λ rs a. record { names = a.names; few = omega (arith, a.few); each = a.each }) (clients-keep n.0),
  )

set-announced : (form : ℕ) (u : List ℕ) (at : ℕ) → Announced [] max_clients (things (delete_set form u at))
unfolding delete_set
set-announced form u at = walks.kept-has (Good u (eqb form 1)) (λ (e : ℕ). Unit {0}) (line form u) (line-faithful u form) (Announced [] max_clients) grammar.all_ranges (all_keep u (eqb form 1)) at tt

-- ---- each range is fine

-- what the hull of two has where both have it, the normal form has
module _ (P : Range → Type 0) (keeps : (r q : Range) → P r → P q → P (hull r q)) where
  add-all : (l : List Range) (r : Range) → P r → All P l → All P (add r l)
  add-all =
      add-by (λ r l out. P r → All P l → All P out) (λ r f g. (f, tt)) (λ r q qs f g. (f, g)) (λ r q qs out h f g. (g.0, h f g.1))
      (λ r q qs out h f g. h (keeps r q f g.0) g.1)

  normal-all : (l : List Range) → All P l → All P (normal l)
  normal-all =
      normal-by (λ l out. All P l → All P out) (λ f. tt) (λ r rs out h f. add-all out r f.0 (h f.1)) (λ r rs out h f. h f.1)

pub normal-fine : (l : List Range) → All Fine l → All Fine (normal l)
normal-fine l f = normal-all Fine hull-fine l f

module _ (form : ℕ) (u : List ℕ) (at n : ℕ) where
  abbrev names : List ℕ
  names = (set-announced form u at).names

  abbrev found : List Range
  found = things (fit n (delete_set form u at))

  fit-known : All (Known names) found
  fit-known = fit_all (Known names) n (delete_set form u at) (set-announced form u at).each

  pub fit-fine : All Fine (things (fit n (delete_set form u at)))
  fit-fine = all_map (Known names) Fine (λ r x. x.0) found fit-known

  normal-known : All (Known names) (normal found)
  normal-known = normal-all (Known names) (λ r q x y. (hull-fine r q x.0 y.0, x.1)) found fit-known

-- ---- at most 64 clients have ranges

-- the names without one that is among them
record Without (c : ℕ) (cs : List ℕ) : Type 0 where
  rest : List ℕ
  less : length cs ≡ suc (length rest)
  keeps : (d : ℕ) → d < c → In d cs → In d rest

without : (cs : List ℕ) (c : ℕ) → In c cs → Without c cs
without [] c i = absurd i
without (x ∷ xs) c (inl e) = record { rest = xs; less = refl; keeps = keeps }
  where
    keeps : (d : ℕ) → d < c → In d (x ∷ xs) → In d xs
    keeps d l (inl f) = absurd (omega arith)
    keeps d l (inr i) = i
without (x ∷ xs) c (inr i) = go (without xs c i)
  where
    go : Without c xs → Without c (x ∷ xs)
    go w = record { rest = x ∷ w.rest; less = ap suc w.less; keeps = keeps }
      where
        keeps : (d : ℕ) → d < c → In d (x ∷ xs) → In d (x ∷ w.rest)
        keeps d l (inl f) = inl f
        keeps d l (inr j) = inr (w.keeps d l j)

abbrev Named : List ℕ → List (List Range) → Type 0
Named cs gs = All (λ (g : List Range). In (client_of g) cs) gs

kept : (c : ℕ) (cs : List ℕ) (w : Without c cs) (gs : List (List Range)) → All (λ (g : List Range). client_of g < c) gs → Named cs gs → Named w.rest gs
kept c cs w [] l i = tt
kept c cs w (g ∷ gs) l i = (w.keeps (client_of g) l.0 i.0, kept c cs w gs l.1 i.1)

-- groups are not more than the names of their clients
among : (gs : List (List Range)) (cs : List ℕ) → Grouped gs → Named cs gs → length gs ≤ length cs
unfolding client_of
among [] cs h i = omega arith
among ([] ∷ gs) cs h i = absurd h
among ((r ∷ g) ∷ gs) cs h i =
    let w = without cs r.client i.0 in
    omega (arith, w.less, among gs w.rest h.2 (kept r.client cs w gs h.1 i.1))

groups-named : (cs : List ℕ) (gs : List (List Range)) → Grouped gs → All (All (Known cs)) gs → Named cs gs
unfolding client_of
groups-named cs [] h k = tt
groups-named cs ([] ∷ gs) h k = absurd h
groups-named cs ((r ∷ g) ∷ gs) h k = (k.0.0.1, groups-named cs gs h.2 k.1)

-- the normal form, for any rows
module _ (form : ℕ) (u : List ℕ) (at n : ℕ) where
  pub range-clients : length (groups (λ (r : Range). r.client) (normal (things (fit n (delete_set form u at))))) ≤ max_clients
  range-clients =
      let rs : List Range = normal (found form u at n) in
      let gs : List (List Range) = groups client_in rs in
      let cs : List ℕ = names form u at n in
      let apart : Grouped gs = grouped rs (normal-is (found form u at n)).0 in
      let known : Named cs gs = groups-named cs gs apart (groups-all client_in (Known cs) rs (normal-known form u at n)) in
      omega (arith, among gs cs apart known, (set-announced form u at).few)
