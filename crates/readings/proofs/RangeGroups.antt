-- Delete ranges in normal form stand in groups: a group has one client, clocks that rise with gaps and no empty range, and clients fall from group to group.
use Prim.Native.Nat.{ℕ, suc, ◌+◌, ◌≤◌, ◌<◌}
use mathlib.Core.Path.{◌≡◌, refl, sym, subst}
use mathlib.Core.Logic.{inl, inr, ◌≢◌}
use mathlib.Core.List.{List, [], ◌∷◌}
use native.Mathlib.Omega.{arith}
use Rattle.ranges.specs.Ranges.{Range}
use Rattle.ranges.specs.RangesInner.{Apart, Leads, Normal}
use Rattle.readings.specs.Groups.{join, groups}
use Rattle.readings.specs.Sound.{All}
use Rattle.readings.proofs.Groups.{all_map, join-cases}

abbrev pub client_in : Range → ℕ
client_in r = r.client

-- the client of a group
unfoldable pub client_of : List Range → ℕ
client_of [] = 0
client_of (r ∷ g) = r.client

-- ranges of client c from clock `from` on, none empty, each after a gap
abbrev pub Rising : ℕ → ℕ → List Range → Type 0
Rising c from [] = Unit {0}
Rising c from (r ∷ g) = (r.client ≡ c) × (from ≤ r.clock) × (0 < r.len) × Rising c (suc (r.clock + r.len)) g

-- groups of rising ranges, none empty, each of a client above those of the groups after it
abbrev pub Grouped : List (List Range) → Type 0
Grouped [] = Unit {0}
Grouped ([] ∷ gs) = ⊥
Grouped ((r ∷ g) ∷ gs) = Rising r.client 0 (r ∷ g) × All (λ (h : List Range). client_of h < r.client) gs × Grouped gs

-- r comes before the first of the groups
abbrev Before : Range → List (List Range) → Type 0
Before r [] = Unit {0}
Before r ([] ∷ gs) = ⊥
Before r ((q ∷ g) ∷ gs) = Apart r q

before-join : (r q : Range) (gs : List (List Range)) → Apart r q → Before r (join client_in q gs)
unfolding join
before-join r q [] a = a
before-join r q ([] ∷ gs) a = a
before-join r q ((b ∷ g) ∷ gs) a = join-cases client_in (Before r) q b g gs (λ _. a) (λ _. a)

before-groups : (r : Range) (rs : List Range) → Leads r rs → Before r (groups client_in rs)
unfolding groups
before-groups r [] a = tt
before-groups r (q ∷ qs) a = before-join r q (groups client_in qs) a

-- one range more: it leads its client's group, or a group of its own
join-grouped : (r : Range) (gs : List (List Range)) → 0 < r.len → Before r gs → Grouped gs → Grouped (join client_in r gs)
unfolding join client_of
join-grouped r [] l a h = ((refl, omega arith, l, tt), tt, tt)
join-grouped r ([] ∷ gs) l a h = absurd a
join-grouped r ((b ∷ g) ∷ gs) l a h = join-cases client_in Grouped r b g gs (same a) (other a)
  where
    same : Apart r b → r.client ≡ b.client → Grouped ((r ∷ (b ∷ g)) ∷ gs)
    same (inl q) e = absurd (omega arith)
    same (inr q) e = (
      (refl, omega arith, l, (q.0, q.1, h.0.2, subst (λ (c : ℕ). Rising c (suc (b.clock + b.len)) g) q.0 h.0.3)),
      subst (λ (c : ℕ). All (λ (x : List Range). client_of x < c) gs) q.0 h.1,
      h.2,
    )

    other : Apart r b → r.client ≢ b.client → Grouped ((r ∷ []) ∷ ((b ∷ g) ∷ gs))
    other (inl q) e = (
      (refl, omega arith, l, tt),
      (q, all_map (λ (x : List Range). client_of x < b.client) (λ (x : List Range). client_of x < r.client) (λ x y. omega arith) gs h.1),
      h,
    )
    other (inr q) e = absurd (e (sym q.0))

pub grouped : (rs : List Range) → Normal rs → Grouped (groups client_in rs)
unfolding groups
grouped [] n = tt
grouped (r ∷ rs) n = join-grouped r (groups client_in rs) n.0 (before-groups r rs n.1) (grouped rs n.2)
