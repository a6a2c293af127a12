-- The levels that are open: what each kind of member leaves of them.
use Prim.Native.Nat.{ℕ, zero, suc, ◌+◌, ◌-◌, ◌≤◌, ◌<◌}
use mathlib.Core.Path.{◌≡◌, refl, subst, sym, ap, ◌∙◌}
use mathlib.Core.Bool.{Bool, true, false}
use mathlib.Core.List.{List}
use native.Mathlib.Omega.{arith}
use lib.Dec.{ltb}
use lib.ListN.{length, get_or, set, length-set}
use lib.Seq.{get_or-set_same, get_or-set_other}
use borrow.Author.Tests.{ltb-true, ltb-false, lt-ltb, le-ltb}
use Rattle.numbers.specs.declared.Refusal.{Refusal}
use Rattle.anys.specs.declared.Skipped.{Skipped}
use Rattle.anys.specs.declared.Skipped.TheVariants.{At, Refused}
use Rattle.anys.specs.declared.Next.{Next}
use Rattle.anys.specs.declared.Next.TheVariants as next
use Rattle.anys.specs.Any.{then_at, each, member, any, deepest, anys}
use Rattle.anys.specs.Steps.{entry_at, through, rest}
use Rattle.anys.proofs.Laws.{then-then, then_same, then-end, inner, entry_next, has_room}

module _ (u : List ℕ) (blame : ℕ) where
  -- what is stored from level d on does not touch the d levels around it
  left-around : (left : List ℕ) (keyed : List Bool) (d i x at : ℕ) → d ≤ i → rest d (set left i x) keyed u blame at ≡ rest d left keyed u blame at
  unfolding rest
  left-around left keyed zero i x at h = refl
  left-around left keyed (suc d) i x at h =
      rw (get_or-set_other left i d x 0 (λ e. omega arith))
      (then_same (each (get_or left d 0) (member (get_or keyed d false) u (any (deepest - d) u blame)) at) (rest d (set left i x) keyed u blame) (rest d left keyed u blame)
      (λ e. left-around left keyed d i x e (omega arith)))

  keyed-around : (left : List ℕ) (keyed : List Bool) (d i : ℕ) (x : Bool) (at : ℕ) → d ≤ i → rest d left (set keyed i x) u blame at ≡ rest d left keyed u blame at
  unfolding rest
  keyed-around left keyed zero i x at h = refl
  keyed-around left keyed (suc d) i x at h =
      rw (get_or-set_other keyed i d x false (λ e. omega arith))
      (then_same (each (get_or left d 0) (member (get_or keyed d false) u (any (deepest - d) u blame)) at) (rest d left (set keyed i x) u blame) (rest d left keyed u blame)
      (λ e. keyed-around left keyed d i x e (omega arith)))

  -- the levels as a first one, of n entries, and those around it
  unfoldable level : ℕ → Bool → ℕ → ℕ → (ℕ → Skipped) → Skipped
  level d keyed n at around = then_at (each n (member keyed u (any (deepest - d) u blame)) at) around

  level-set : (left : List ℕ) (keyed : List Bool) (d n at : ℕ) → d < length left → rest (suc d) (set left d n) keyed u blame at ≡ level d (get_or keyed d false) n at (rest d left keyed u blame)
  unfolding rest level
  level-set left keyed d n at h =
      rw (get_or-set_same left d n 0 h)
      (then_same (each n (member (get_or keyed d false) u (any (deepest - d) u blame)) at) (rest d (set left d n) keyed u blame) (rest d left keyed u blame) (λ e. left-around left keyed d d n e (omega arith)))

  -- a level that is opened within d others
  level-put : (left : List ℕ) (keyed : List Bool) (d n : ℕ) (k : Bool) (at : ℕ) → d < length left → d < length keyed
      → rest (suc d) (set left d n) (set keyed d k) u blame at ≡ then_at (each n (member k u (any (deepest - d) u blame)) at) (rest d left keyed u blame)
  unfolding rest
  level-put left keyed d n k at h g =
      rw (get_or-set_same left d n 0 h, get_or-set_same keyed d k false g)
      (then_same (each n (member k u (any (deepest - d) u blame)) at) (rest d (set left d n) (set keyed d k) u blame) (rest d left keyed u blame)
      (λ e. left-around left (set keyed d k) d d n e (omega arith) ∙ keyed-around left keyed d d k e (omega arith)))

  -- an member of a level with n more
  level-next : (d : ℕ) (keyed : Bool) (n at : ℕ) (around : ℕ → Skipped) (x : Next) → entry_at u blame (ltb 0 (deepest - d)) keyed at ≡ x
      → level d keyed (suc n) at around ≡ then_at (through x (inner u blame (deepest - d))) (λ e. level d keyed n e around)
  unfolding level each
  level-next d keyed n at around x q =
      then-then (member keyed u (any (deepest - d) u blame) at) (each n (member keyed u (any (deepest - d) u blame))) around
      ∙ ap (λ (s : Skipped). then_at s (λ e. then_at (each n (member keyed u (any (deepest - d) u blame)) e) around)) (entry_next u blame (deepest - d) keyed at ∙ ap (λ (y : Next). through y (inner u blame (deepest - d))) q)

  module _ (left : List ℕ) (keyed : List Bool) (o d at : ℕ) (od : o ≡ suc d) where
    -- a level with nothing to come is closed
    closes : get_or left d 0 ≡ 0 → rest d left keyed u blame at ≡ rest o left keyed u blame at
    unfolding rest each then_at
    closes z = subst (λ (x : ℕ). rest d left keyed u blame at ≡ rest x left keyed u blame at) (sym od) (rw z refl)

    as-level : (n : ℕ) → get_or left d 0 ≡ suc n → rest o left keyed u blame at ≡ level d (get_or keyed d false) (suc n) at (rest d left keyed u blame)
    unfolding rest level
    as-level n z = ap (λ (x : ℕ). rest x left keyed u blame at) od ∙ rw z refl

    module _ (n : ℕ) (z : get_or left d 0 ≡ suc n) (h : d < length left) (room : Bool) (rm : room ≡ ltb 0 (deepest - d)) where
      next-is : (x : Next) → entry_at u blame room (get_or keyed d false) at ≡ x
          → rest o left keyed u blame at ≡ then_at (through x (inner u blame (deepest - d))) (λ e. level d (get_or keyed d false) n e (rest d left keyed u blame))
      next-is x q = as-level n z ∙ level-next d (get_or keyed d false) n at (rest d left keyed u blame) x (subst (λ (r : Bool). entry_at u blame r (get_or keyed d false) at ≡ x) rm q)

      passes : (e : ℕ) → entry_at u blame room (get_or keyed d false) at ≡ next.Past e → rest o (set left d n) keyed u blame e ≡ rest o left keyed u blame at
      unfolding through then_at
      passes e q = ap (λ (x : ℕ). rest x (set left d n) keyed u blame e) od ∙ level-set left keyed d n e h ∙ sym (next-is (next.Past e) q)

      stops : (why : Refusal) → entry_at u blame room (get_or keyed d false) at ≡ next.Refused why → Refused why ≡ rest o left keyed u blame at
      unfolding through then_at
      stops why q = sym (next-is (next.Refused why) q)

      opens : (k : Bool) (c e o' : ℕ) → o' ≡ suc o → o < length left → o < length keyed → entry_at u blame room (get_or keyed d false) at ≡ next.Opens k c e
          → rest o' (set (set left d n) o c) (set keyed o k) u blame e ≡ rest o left keyed u blame at
      unfolding through
      opens k c e o' q hl hk p =
          let m : deepest - o ≡ deepest - d - 1 = omega arith in
          ap (λ (x : ℕ). rest x (set (set left d n) o c) (set keyed o k) u blame e) q
          ∙ level-put (set left d n) keyed o c k e (simp length-set hl) hk
          ∙ ap (λ (x : ℕ). then_at (each c (member k u (any x u blame)) e) (rest o (set left d n) keyed u blame)) m
          ∙ then_same (inner u blame (deepest - d) k c e) (rest o (set left d n) keyed u blame) (λ e'. level d (get_or keyed d false) n e' (rest d left keyed u blame))
          (λ e'. ap (λ (x : ℕ). rest x (set left d n) keyed u blame e') od ∙ level-set left keyed d n e' h)
          ∙ sym (next-is (next.Opens k c e) p)

  -- before anything is passed over: one level, of n values
  pub begun : (left : List ℕ) (keyed : List Bool) (n at : ℕ) → 0 < length left → get_or keyed 0 false ≡ false → rest 1 (set left 0 n) keyed u blame at ≡ anys u blame n at
  unfolding rest level member anys
  begun left keyed n at h f = level-set left keyed 0 n at h ∙ rw f (then-end (each n (any deepest u blame) at))

  pub all_closed : (left : List ℕ) (keyed : List Bool) (o at : ℕ) → o ≡ 0 → At at ≡ rest o left keyed u blame at
  unfolding rest
  all_closed left keyed o at z = ap (λ (x : ℕ). rest x left keyed u blame at) (sym z)

-- one more may be open within the entries of level d
room-left : (d : ℕ) → ltb d deepest ≡ ltb 0 (deepest - d)
room-left d = go (ltb d deepest) refl
  where
    go : (b : Bool) → ltb d deepest ≡ b → b ≡ ltb 0 (deepest - d)
    go true q = sym (lt-ltb 0 (deepest - d) (omega (arith, ltb-true d deepest q)))
    go false q = sym (le-ltb 0 (deepest - d) (omega (arith, ltb-false d deepest q)))

-- a turn in the code's words: o levels are open, the innermost is o - 1
module _ (u : List ℕ) (blame : ℕ) (left : List ℕ) (keyed : List Bool) (o at : ℕ) (some : 0 < o) where
  pub closed : get_or left (o - 1) 0 ≡ 0 → rest (o - 1) left keyed u blame at ≡ rest o left keyed u blame at
  closed z = closes u blame left keyed o (o - 1) at (omega arith) z

  module _ (more : get_or left (o - 1) 0 ≡ 0 → ⊥) (fits : o ≤ length left) (x : Next) (is : x ≡ entry_at u blame (ltb (o - 1) deepest) (get_or keyed (o - 1) false) at) where
    pub passed : (e : ℕ) → x ≡ next.Past e → rest o (set left (o - 1) (get_or left (o - 1) 0 - 1)) keyed u blame e ≡ rest o left keyed u blame at
    passed e p =
        passes u blame left keyed o (o - 1) at (omega arith) (get_or left (o - 1) 0 - 1) (omega arith) (omega arith) (ltb (o - 1) deepest) (room-left (o - 1)) e
        (sym is ∙ p)

    pub stopped : (why : Refusal) → x ≡ next.Refused why → Refused why ≡ rest o left keyed u blame at
    stopped why p =
        stops u blame left keyed o (o - 1) at (omega arith) (get_or left (o - 1) 0 - 1) (omega arith) (omega arith) (ltb (o - 1) deepest) (room-left (o - 1)) why
        (sym is ∙ p)

    pub opened : (k : Bool) (n e : ℕ) → o < length left → o < length keyed → x ≡ next.Opens k n e
        → rest (o + 1) (set (set left (o - 1) (get_or left (o - 1) 0 - 1)) o n) (set keyed o k) u blame e ≡ rest o left keyed u blame at
    opened k n e hl hk p =
        opens u blame left keyed o (o - 1) at (omega arith) (get_or left (o - 1) 0 - 1) (omega arith) (omega arith) (ltb (o - 1) deepest) (room-left (o - 1)) k n e
        (o + 1) (omega arith) hl hk (sym is ∙ p)

-- a level is opened only where one more may be
pub deeper : (u : List ℕ) (blame d : ℕ) (keyed k : Bool) (at n e : ℕ) (x : Next) → x ≡ entry_at u blame (ltb d deepest) keyed at → x ≡ next.Opens k n e
    → d < deepest
deeper u blame d keyed k at n e x is p = ltb-true d deepest (has_room u blame (ltb d deepest) keyed at x is k n e p)
