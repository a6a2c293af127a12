-- The laws of passing over values: the first and the others, and k and then j; each value takes a byte; what a refusal says; and an member at a time.
use Prim.Native.Nat.{ℕ, zero, suc, ◌+◌, ◌-◌, ◌≤◌, ◌<◌}
use mathlib.Core.Path.{◌≡◌, refl, subst, sym, ap, ◌∙◌}
use mathlib.Core.Logic.{◌⊎◌, inl, inr, ⊎_elim, ◌≢◌}
use mathlib.Core.Bool.{Bool, true, false}
use mathlib.Core.List.{List}
use native.Mathlib.Omega.{arith}
use lib.Dec.{ltb}
use lib.ListN.{length}
use borrow.Author.Tests.{lt-ltb, le-ltb}
use Rattle.numbers.specs.declared.Read.{Read}
use Rattle.numbers.specs.declared.Read.TheVariants as read
use Rattle.numbers.specs.declared.Refusal.{Refusal}
use Rattle.numbers.specs.Number.{read_unsigned}
use Rattle.anys.specs.declared.Skipped.{Skipped}
use Rattle.anys.specs.declared.Skipped.TheVariants.{At, Refused}
use Rattle.anys.specs.declared.Head.{Head}
use Rattle.anys.specs.declared.Head.TheVariants.{Alone, Holds}
use Rattle.anys.specs.declared.Next.{Next}
use Rattle.anys.specs.declared.Next.TheVariants as next
use Rattle.anys.specs.Any.{refused, then_at, on_count, text_at, head_at, on_head, each, member, any, deepest, anys}
use Rattle.anys.specs.Steps.{key_at, opening, open_at, passing, value_in, behind, entry_at, through}
use Rattle.anys.proofs.Places.{read-ends, Refuses, Ends, lower, then-ends, counted-ends, text-ends, Heads, heads, too-deep}

-- ---- one thing after another

pub then-then : (s : Skipped) (f g : ℕ → Skipped) → then_at (then_at s f) g ≡ then_at s (λ e. then_at (f e) g)
unfolding then_at
then-then (At e) f g = refl
then-then (Refused why) f g = refl

pub then_same : (s : Skipped) (f g : ℕ → Skipped) → ((e : ℕ) → f e ≡ g e) → then_at s f ≡ then_at s g
unfolding then_at
then_same (At e) f g h = h e
then_same (Refused why) f g h = refl

pub then-end : (s : Skipped) → then_at s At ≡ s
unfolding then_at
then-end (At e) = refl
then-end (Refused why) = refl

-- k and then j are k + j
pub each-join : (one : ℕ → Skipped) (k j at : ℕ) → each (k + j) one at ≡ then_at (each k one at) (each j one)
unfolding each then_at
each-join one zero j at = let e : 0 + j ≡ j = omega arith in ap (λ (n : ℕ). each n one at) e
each-join one (suc k) j at =
    let e : suc k + j ≡ suc (k + j) = omega arith in
    ap (λ (n : ℕ). each n one at) e
    ∙ then_same (one at) (each (k + j) one) (λ e. then_at (each k one e) (each j one)) (each-join one k j)
    ∙ sym (then-then (one at) (each k one) (each j one))

module _ (u : List ℕ) (blame : ℕ) where
  -- none; the first and the others; k and then j: what a diff that drops the first entries of a list goes by
  pub anys-none : (at : ℕ) → anys u blame 0 at ≡ At at
  unfolding anys each
  anys-none at = refl

  pub anys-first : (k at : ℕ) → 0 < k → anys u blame k at ≡ then_at (any deepest u blame at) (anys u blame (k - 1))
  unfolding anys each
  anys-first zero at h = absurd (omega arith)
  anys-first (suc k) at h = let e : suc k - 1 ≡ k = omega arith in rw e refl

  pub anys-join : (k j at : ℕ) → anys u blame (k + j) at ≡ then_at (anys u blame k at) (anys u blame j)
  unfolding anys
  anys-join k j at = each-join (any deepest u blame) k j at

  pub anys-one : (at : ℕ) → anys u blame 1 at ≡ any deepest u blame at
  unfolding anys each
  anys-one at = then-end (any deepest u blame at)

  -- ---- each value takes a byte and more, so k of them take k bytes: a count over what is there ends early, and no count decides more than that

  pub each-ends : (one : ℕ → Skipped) → ((at : ℕ) → Ends u blame (suc at) (one at)) → (k at : ℕ) → at ≤ length u → Ends u blame (at + k) (each k one at)
  unfolding each Ends
  each-ends one h zero at b = (omega arith, b)
  each-ends one h (suc k) at b =
      then-ends u blame (at + suc k) (suc at) (one at) (each k one) (h at)
      (λ e l w. lower u blame (at + suc k) (e + k) (each k one e) (omega arith) (each-ends one h k e w))

  pub entry-ends : (keyed : Bool) (one : ℕ → Skipped) → ((at : ℕ) → Ends u blame (suc at) (one at)) → (at : ℕ) → Ends u blame (suc at) (member keyed u one at)
  unfolding member
  entry-ends true one h at = then-ends u blame (suc at) (suc at) (text_at u at) one (text-ends u blame at) (λ e l w. lower u blame (suc at) (suc e) (one e) (omega arith) (h e))
  entry-ends false one h at = h at

  head-ends : (at : ℕ) (f : Bool → Skipped) → ((keyed : Bool) → at < length u → Ends u blame (suc at) (f keyed)) → Ends u blame (suc at) (on_head (head_at u blame at) f)
  unfolding on_head Heads
  head-ends at f h = go (head_at u blame at) (heads u blame at)
    where
      go : (x : Head) → Heads u blame at x → Ends u blame (suc at) (on_head x f)
      go (Alone s) p = p
      go (Holds keyed) p = h keyed p

  pub any-ends : (n at : ℕ) → Ends u blame (suc at) (any n u blame at)
  unfolding any Ends
  any-ends zero at = head-ends at _ (λ keyed h. too-deep u blame at h)
  any-ends (suc n) at =
      head-ends at _
      (λ keyed h. counted-ends u blame (suc at) (at + 1) _
      (λ k e l w. lower u blame (suc at) (e + k) (each k (member keyed u (any n u blame)) e) (omega arith) (each-ends (member keyed u (any n u blame)) (entry-ends keyed (any n u blame) (any-ends n)) k e w)))

  pub anys-ends : (k at : ℕ) → 0 < k → Ends u blame (at + k) (anys u blame k at)
  unfolding anys each
  anys-ends zero at h = absurd (omega arith)
  anys-ends (suc k) at h =
      then-ends u blame (at + suc k) (suc at) (any deepest u blame at) (each k (any deepest u blame)) (any-ends deepest at)
      (λ e l w. lower u blame (at + suc k) (e + k) (each k (any deepest u blame) e) (omega arith) (each-ends (any deepest u blame) (any-ends deepest) k e w))

  -- k values that read take k bytes and more, and end within the bytes
  pub anys-bytes : (k at e : ℕ) → at ≤ length u → anys u blame k at ≡ At e → (at + k ≤ e) × (e ≤ length u)
  unfolding anys Ends
  anys-bytes k at e h p = subst (Ends u blame (at + k)) p (each-ends (any deepest u blame) (any-ends deepest) k at h)

  -- ---- what a refusal says

  pub anys-refuses : (k at : ℕ) (why : Refusal) → anys u blame k at ≡ Refused why → Refuses u blame why
  unfolding Ends
  anys-refuses zero at why p = absurd (let q = sym (anys-none at) ∙ p in let z : ◌≡◌ {A = ℕ} 0 1 = cc in omega arith)
  anys-refuses (suc k) at why p = subst (Ends u blame (at + suc k)) p (anys-ends (suc k) at (omega arith))

  -- it blames a place within the bytes, their end at most, or the place that was given
  pub anys-blames : (k at : ℕ) (why : Refusal) → anys u blame k at ≡ Refused why → (why.place ≤ length u) ⊎ (why.place ≡ blame)
  anys-blames k at why p = ⊎_elim (λ l. inl (omega arith)) (λ r. ⊎_elim (λ e. inl (omega (arith, e.1))) (λ b. inr b.1) r) (anys-refuses k at why p).stands

  -- where a byte was given, it blames a byte, or 1 the end
  pub anys-where : (k at : ℕ) (why : Refusal) → blame < length u → anys u blame k at ≡ Refused why
      → (why.place < length u) ⊎ ((why.number ≡ 1) × (why.place ≡ length u))
  anys-where k at why h p = ⊎_elim (λ l. inl l) (λ r. ⊎_elim (λ e. inr e) (λ b. inl (omega (arith, b.1))) r) (anys-refuses k at why p).stands

  -- its number is 1, 2, 3, 5 or 6
  pub anys-numbered : (k at : ℕ) (why : Refusal) → anys u blame k at ≡ Refused why → (1 ≤ why.number) × (why.number ≤ 6) × (why.number ≢ 4)
  anys-numbered k at why p = let r = anys-refuses k at why p in (r.least, r.most, r.other)

  -- where k + j values read, the first k do, and the j others from there on
  pub anys-cut : (k j at e : ℕ) → anys u blame (k + j) at ≡ At e → (m : ℕ) × (anys u blame k at ≡ At m) × (anys u blame j m ≡ At e)
  unfolding then_at
  anys-cut k j at e p = go (anys u blame k at) refl (sym (anys-join k j at) ∙ p)
    where
      go : (s : Skipped) → anys u blame k at ≡ s → then_at s (anys u blame j) ≡ At e → (m : ℕ) × (anys u blame k at ≡ At m) × (anys u blame j m ≡ At e)
      go (At m) q r = (m, q, r)
      go (Refused why) q r = absurd (let z : ◌≡◌ {A = ℕ} 0 1 = cc in omega arith)

  -- ---- an member at a time

  -- what an member comes to moves on, from within the bytes
  unfoldable pub Goes : ℕ → Next → Type 0
  Goes at (next.Past e) = (at < length u) × (at < e)
  Goes at (next.Opens keyed n e) = (at < length u) × (at < e)
  Goes at (next.Refused why) = Unit {0}

  opens : (at : ℕ) (room keyed : Bool) → at < length u → Goes at (open_at u at room keyed)
  unfolding open_at Goes opening
  opens at false keyed h = tt
  opens at true keyed h = go (read_unsigned u (at + 1)) refl
    where
      go : (r : Read) → read_unsigned u (at + 1) ≡ r → Goes at (opening keyed r)
      go (read.Number n e) q = (h, omega (arith, (read-ends u (at + 1) n e q).0))
      go (read.Refused why) q = tt

  passes : (at : ℕ) (s : Skipped) → Ends u blame (suc at) s → Goes at (passing s)
  unfolding passing Goes Ends
  passes at (At e) p = (omega (arith, p.0, p.1), p.0)
  passes at (Refused why) p = tt

  values-go : (at : ℕ) (room : Bool) → Goes at (value_in (head_at u blame at) (open_at u at room))
  unfolding value_in Heads
  values-go at room = go (head_at u blame at) (heads u blame at)
    where
      go : (x : Head) → Heads u blame at x → Goes at (value_in x (open_at u at room))
      go (Alone s) p = passes at s p
      go (Holds keyed) p = opens at room keyed p

  sooner : (at from : ℕ) (x : Next) → at ≤ from → Goes from x → Goes at x
  unfolding Goes
  sooner at from (next.Past e) h p = (omega (arith, p.0), omega (arith, p.1))
  sooner at from (next.Opens keyed n e) h p = (omega (arith, p.0), omega (arith, p.1))
  sooner at from (next.Refused why) h p = tt

  key-ends : (keyed : Bool) (at e : ℕ) → key_at u keyed at ≡ At e → at ≤ e
  unfolding key_at Ends
  key-ends true at e p = omega (arith, (subst (Ends u blame (suc at)) p (text-ends u blame at)).0)
  key-ends false at e p = let q : at ≡ e = cc in omega arith

  pub goes : (room keyed : Bool) (at : ℕ) → Goes at (entry_at u blame room keyed at)
  unfolding entry_at behind Goes
  goes room keyed at = go (key_at u keyed at) refl
    where
      go : (s : Skipped) → key_at u keyed at ≡ s → Goes at (behind s (λ from. value_in (head_at u blame from) (open_at u from room)))
      go (At from) q = sooner at from (value_in (head_at u blame from) (open_at u from room)) (key-ends keyed at from q) (values-go from room)
      go (Refused why) q = tt

  -- a level is opened only where there is room for it
  unfoldable Roomy : Bool → Next → Type 0
  Roomy room (next.Past e) = Unit {0}
  Roomy room (next.Opens keyed n e) = room ≡ true
  Roomy room (next.Refused why) = Unit {0}

  roomy : (room keyed : Bool) (at : ℕ) → Roomy room (entry_at u blame room keyed at)
  unfolding entry_at behind value_in passing open_at opening Roomy
  roomy room keyed at = by_key (key_at u keyed at)
    where
      by_read : (k : Bool) (r : Read) → Roomy true (opening k r)
      by_read k (read.Number n e) = refl
      by_read k (read.Refused why) = tt

      by-room : (b k : Bool) (from : ℕ) → Roomy b (open_at u from b k)
      by-room true k from = by_read k (read_unsigned u (from + 1))
      by-room false k from = tt

      by-head : (from : ℕ) (x : Head) → Roomy room (value_in x (open_at u from room))
      by-head from (Alone (At e)) = tt
      by-head from (Alone (Refused why)) = tt
      by-head from (Holds k) = by-room room k from

      by_key : (s : Skipped) → Roomy room (behind s (λ from. value_in (head_at u blame from) (open_at u from room)))
      by_key (At from) = by-head from (head_at u blame from)
      by_key (Refused why) = tt

  -- in the code's words: x is what came back
  module _ (room keyed : Bool) (at : ℕ) (x : Next) (is : x ≡ entry_at u blame room keyed at) where
    pub has_room : (k : Bool) (n e : ℕ) → x ≡ next.Opens k n e → room ≡ true
    unfolding Roomy
    has_room k n e p = subst (Roomy room) (sym is ∙ p) (roomy room keyed at)

    pub past-goes : (e : ℕ) → x ≡ next.Past e → (at < length u) × (at < e)
    unfolding Goes
    past-goes e p = subst (Goes at) (sym is ∙ p) (goes room keyed at)

    pub opens-goes : (k : Bool) (n e : ℕ) → x ≡ next.Opens k n e → (at < length u) × (at < e)
    unfolding Goes
    opens-goes k n e p = subst (Goes at) (sym is ∙ p) (goes room keyed at)

  -- what the level says that an member opens, with n levels below it
  abbrev pub inner : ℕ → Bool → ℕ → ℕ → Skipped
  inner n keyed k e = each k (member keyed u (any (n - 1) u blame)) e

  none_below : (at : ℕ) (f : Bool → ℕ → ℕ → Skipped) (x : Head) → on_head x (λ keyed. refused 3 at) ≡ through (value_in x (open_at u at false)) f
  unfolding on_head value_in open_at through passing
  none_below at f (Alone (At e)) = refl
  none_below at f (Alone (Refused why)) = refl
  none_below at f (Holds keyed) = refl

  opened-by : (keyed : Bool) (f : Bool → ℕ → ℕ → Skipped) (r : Read) → on_count r (λ k e. f keyed k e) ≡ through (opening keyed r) f
  unfolding on_count opening through
  opened-by keyed f (read.Number n e) = refl
  opened-by keyed f (read.Refused why) = refl

  some_below : (at : ℕ) (f : Bool → ℕ → ℕ → Skipped) (x : Head)
      → on_head x (λ keyed. on_count (read_unsigned u (at + 1)) (λ k e. f keyed k e)) ≡ through (value_in x (open_at u at true)) f
  unfolding on_head value_in open_at through passing
  some_below at f (Alone (At e)) = refl
  some_below at f (Alone (Refused why)) = refl
  some_below at f (Holds keyed) = opened-by keyed f (read_unsigned u (at + 1))

  any_none : (at : ℕ) (f : Bool → ℕ → ℕ → Skipped) → any 0 u blame at ≡ through (value_in (head_at u blame at) (open_at u at false)) f
  unfolding any
  any_none at f = none_below at f (head_at u blame at)

  any_some : (n at : ℕ) → any (suc n) u blame at ≡ through (value_in (head_at u blame at) (open_at u at true)) (λ keyed k e. each k (member keyed u (any n u blame)) e)
  unfolding any
  any_some n at = some_below at (λ keyed k e. each k (member keyed u (any n u blame)) e) (head_at u blame at)

  value-next : (n at : ℕ) → any n u blame at ≡ through (value_in (head_at u blame at) (open_at u at (ltb 0 n))) (inner n)
  value-next zero at = any_none at (inner 0) ∙ ap (λ (r : Bool). through (value_in (head_at u blame at) (open_at u at r)) (inner 0)) (sym (le-ltb 0 0 (omega arith)))
  value-next (suc n) at =
      let e : n ≡ suc n - 1 = omega arith in
      any_some n at
      ∙ ap (λ (m : ℕ). through (value_in (head_at u blame at) (open_at u at true)) (λ keyed k e. each k (member keyed u (any m u blame)) e)) e
      ∙ ap (λ (r : Bool). through (value_in (head_at u blame at) (open_at u at r)) (inner (suc n))) (sym (lt-ltb 0 (suc n) (omega arith)))

  pub entry_next : (n : ℕ) (keyed : Bool) (at : ℕ) → member keyed u (any n u blame) at ≡ through (entry_at u blame (ltb 0 n) keyed at) (inner n)
  unfolding member entry_at behind key_at then_at through
  entry_next n false at = value-next n at
  entry_next n true at = go (text_at u at)
    where
      go : (s : Skipped) → then_at s (any n u blame) ≡ through (behind s (λ from. value_in (head_at u blame from) (open_at u from (ltb 0 n)))) (inner n)
      go (At from) = value-next n from
      go (Refused why) = refl
