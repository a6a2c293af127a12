-- What is passed over ends after its start and within the bytes; and what a refusal says, its number and the place that it blames.
use Prim.Native.Nat.{ℕ, suc, ◌+◌, ◌-◌, ◌≤◌, ◌<◌}
use mathlib.Core.Path.{◌≡◌, refl, subst}
use mathlib.Core.Logic.{◌⊎◌, inl, inr, ⊎_elim, ◌≢◌}
use mathlib.Core.Bool.{Bool, true, false, true≢false}
use mathlib.Core.List.{List, []}
use native.Mathlib.Omega.{arith}
use lib.Dec.{ltb, leb, eqb}
use lib.ListN.{length, get_or, take, drop, length-take, drop_of_length-le}
use lib.Seq.{slice}
use borrow.Author.Tests.{ltb-false, leb-false}
use Rattle.numbers.specs.declared.Refusal.{Refusal}
use Rattle.numbers.specs.declared.Read.{Read}
use Rattle.numbers.specs.declared.Read.TheVariants as read
use Rattle.numbers.specs.Number.{pick, Spelt, got, short, long, spelt, spelt_signed, answer_at, with_sign, minus_of, read_unsigned, read_signed}
use Rattle.numbers.proofs.Laws.{at-end, below_or}
use Rattle.numbers.proofs.Inside as inside
use Rattle.text.specs.Utf8.{well_formed, after, settled}
use Rattle.anys.specs.declared.Skipped.{Skipped}
use Rattle.anys.specs.declared.Skipped.TheVariants.{At, Refused}
use Rattle.anys.specs.declared.Head.{Head}
use Rattle.anys.specs.declared.Head.TheVariants.{Alone, Holds}
use Rattle.anys.specs.Any.{refused, then_at, on_count, on_signed, signed_at, skip_bytes, skip_led, text_from, text_at, tagged, head_at}

-- a refusal is 1, 2, 3, 5 or 6: 1 blames the end of the bytes, 5 the place that was given for it, and any other a byte
pub record Refuses (u : List ℕ) (blame : ℕ) (why : Refusal) : Type 0 where
  pub stands : (why.place < length u) ⊎ (((why.number ≡ 1) × (why.place ≡ length u)) ⊎ ((why.number ≡ 5) × (why.place ≡ blame)))
  pub least : 1 ≤ why.number
  pub most : why.number ≤ 6
  pub other : why.number ≢ 4

-- it is passed over up to a place from `low` on, within the bytes; or it is refused so
unfoldable pub Ends : List ℕ → ℕ → ℕ → Skipped → Type 0
Ends u blame low (At e) = (low ≤ e) × (e ≤ length u)
Ends u blame low (Refused why) = Refuses u blame why

-- bytes that are not UTF-8 are some
not-text : (u : List ℕ) (a b : ℕ) → well_formed (slice a b u) ≡ false → a < length u
unfolding well_formed after settled
not-text u a b h = ⊎_elim
    (λ l. l)
    (λ g.
    let none : slice a b u ≡ [] = drop_of_length-le (take b u) {i = a} (omega (arith, length-take b u)) in
    absurd (true≢false (rw none at h)))
    (below_or a (length u))

module _ (u : List ℕ) (blame : ℕ) where
  early : Refuses u blame (record { number = 1; place = length u })
  early = record { stands = inr (inl (refl, refl)); least = omega arith; most = omega arith; other = λ e. omega arith }

  unknown : Refuses u blame (record { number = 5; place = blame })
  unknown = record { stands = inr (inr (refl, refl)); least = omega arith; most = omega arith; other = λ e. omega arith }

  at_byte : (n p : ℕ) → 1 ≤ n → n ≤ 6 → n ≢ 4 → p < length u → Refuses u blame (record { number = n; place = p })
  at_byte n p a b c h = record { stands = inl h; least = a; most = b; other = c }

  -- ---- numbers, wherever they were to begin

  abbrev Reads : ℕ → Read → Type 0
  Reads at (read.Number n e) = (at < e) × (e ≤ length u)
  Reads at (read.Refused why) = Refuses u blame why

  placed-reads : (at : ℕ) → at < length u → (r : Spelt) → inside.Reads u at (answer_at u at r) → Reads at (answer_at u at r)
  unfolding answer_at
  placed-reads at b (got x e) h = h
  placed-reads at b short h = early
  placed-reads at b long h = at_byte 2 at (omega arith) (omega arith) (λ e. omega arith) b

  pub unsigned_reads : (at : ℕ) → Reads at (read_unsigned u at)
  unfolding read_unsigned answer_at
  unsigned_reads at = ⊎_elim
      (λ b. placed-reads at b (spelt 9 at (drop at u)) (inside.unsigned-inside u at (omega arith)))
      (λ e. rw (at-end u 9 at (omega arith) e) early)
      (below_or at (length u))

  placed-signed : (at : ℕ) → at < length u → (m : Bool) (r : Spelt) → inside.ReadsSigned u at (with_sign m (answer_at u at r))
      → Ends u blame (suc at) (on_signed (with_sign m (answer_at u at r)))
  unfolding answer_at with_sign on_signed Ends
  placed-signed at b m (got x e) h = h
  placed-signed at b m short h = early
  placed-signed at b m long h = at_byte 2 at (omega arith) (omega arith) (λ e. omega arith) b

  pub signed-ends : (at : ℕ) → Ends u blame (suc at) (signed_at u at)
  unfolding signed_at read_signed spelt_signed answer_at with_sign on_signed Ends
  signed-ends at = ⊎_elim
      (λ b. placed-signed at b (minus_of (drop at u)) (spelt_signed at (drop at u)) (inside.signed-inside u at (omega arith)))
      (λ e. rw (drop_of_length-le u e) early)
      (below_or at (length u))

  -- ---- bytes and texts

  pub lower : (low low' : ℕ) (s : Skipped) → low ≤ low' → Ends u blame low' s → Ends u blame low s
  unfolding Ends
  lower low low' (At e) h p = (omega (arith, p.0), p.1)
  lower low low' (Refused why) h p = p

  pub then-ends : (low low' : ℕ) (s : Skipped) (f : ℕ → Skipped) → Ends u blame low' s
      → ((e : ℕ) → low' ≤ e → e ≤ length u → Ends u blame low (f e)) → Ends u blame low (then_at s f)
  unfolding Ends then_at
  then-ends low low' (At e) f p h = h e p.0 p.1
  then-ends low low' (Refused why) f p h = p

  pub counted-ends : (low at : ℕ) (f : ℕ → ℕ → Skipped) → ((n e : ℕ) → at < e → e ≤ length u → Ends u blame low (f n e))
      → Ends u blame low (on_count (read_unsigned u at) f)
  unfolding on_count Ends
  counted-ends low at f h = go (read_unsigned u at) (unsigned_reads at)
    where
      go : (r : Read) → Reads at r → Ends u blame low (on_count r f)
      go (read.Number n e) b = h n e b.0 b.1
      go (read.Refused why) b = b

  pub bytes-end : (n at : ℕ) → at ≤ length u → Ends u blame at (skip_bytes u n at)
  unfolding skip_bytes Ends
  bytes-end n at h = go (ltb (length u - at) n) refl
    where
      go : (b : Bool) → ltb (length u - at) n ≡ b → Ends u blame at (pick b (refused 1 (length u)) (At (at + n)))
      go true q = early
      go false q = (omega arith, omega (arith, ltb-false (length u - at) n q))

  pub buf-ends : (at : ℕ) → Ends u blame (suc at) (skip_led u at)
  unfolding skip_led
  buf-ends at = counted-ends (suc at) at (skip_bytes u) (λ n e l h. lower (suc at) e (skip_bytes u n e) l (bytes-end n e h))

  pub text-from-ends : (n at : ℕ) → at ≤ length u → Ends u blame at (text_from u n at)
  unfolding text_from Ends
  text-from-ends n at h = then-ends at at (skip_bytes u n at) _ (bytes-end n at h) (λ e l k. go (well_formed (slice at e u)) refl l k)
    where
      go : (b : Bool) {e : ℕ} → well_formed (slice at e u) ≡ b → at ≤ e → e ≤ length u → Ends u blame at (pick b (At e) (refused 6 at))
      go true q l k = (l, k)
      go false {e} q l k = at_byte 6 at (omega arith) (omega arith) (λ e. omega arith) (not-text u at e q)

  pub text-ends : (at : ℕ) → Ends u blame (suc at) (text_at u at)
  unfolding text_at
  text-ends at = counted-ends (suc at) at (text_from u) (λ n e l h. lower (suc at) e (text_from u n e) l (text-from-ends n e h))

  -- ---- a value's tag: one that stands alone ends after it; one that holds others has one

  unfoldable pub Heads : ℕ → Head → Type 0
  Heads at (Alone s) = Ends u blame (suc at) s
  Heads at (Holds keyed) = at < length u

  heads-pick : (at : ℕ) (b : Bool) (x y : Head) → Heads at x → Heads at y → Heads at (pick b x y)
  heads-pick at true x y p q = p
  heads-pick at false x y p q = q

  tag-heads : (at tag : ℕ) → at < length u → Heads at (tagged u blame tag (at + 1))
  unfolding tagged Heads Ends
  tag-heads at tag h =
      let here : Ends u blame (suc at) (At (at + 1)) = (omega arith, omega arith) in
      let bytes : (n : ℕ) → Ends u blame (suc at) (skip_bytes u n (at + 1)) =
      λ n. lower (suc at) (at + 1) (skip_bytes u n (at + 1)) (omega arith) (bytes-end n (at + 1) (omega arith)) in
      heads-pick at (eqb tag 127) _ _ here
      (heads-pick at (eqb tag 126) _ _ here
      (heads-pick at (eqb tag 125) _ _ (lower (suc at) (suc (at + 1)) (signed_at u (at + 1)) (omega arith) (signed-ends (at + 1)))
      (heads-pick at (eqb tag 124) _ _ (bytes 4)
      (heads-pick at (eqb tag 123) _ _ (bytes 8)
      (heads-pick at (eqb tag 122) _ _ (bytes 8)
      (heads-pick at (eqb tag 121) _ _ here
      (heads-pick at (eqb tag 120) _ _ here
      (heads-pick at (eqb tag 119) _ _ (lower (suc at) (suc (at + 1)) (text_at u (at + 1)) (omega arith) (text-ends (at + 1)))
      (heads-pick at (eqb tag 118) _ _ h
      (heads-pick at (eqb tag 117) _ _ h
      (heads-pick at (eqb tag 116) _ _ (lower (suc at) (suc (at + 1)) (skip_led u (at + 1)) (omega arith) (buf-ends (at + 1))) unknown)))))))))))

  pub heads : (at : ℕ) → Heads at (head_at u blame at)
  unfolding head_at Heads Ends
  heads at = go (leb (length u) at) refl
    where
      go : (b : Bool) → leb (length u) at ≡ b → Heads at (pick b (Alone (refused 1 (length u))) (tagged u blame (get_or u at 0) (at + 1)))
      go true q = early
      go false q = tag-heads at (get_or u at 0) (leb-false (length u) at q)

  pub too-deep : (at : ℕ) → at < length u → Refuses u blame (record { number = 3; place = at })
  too-deep at h = at_byte 3 at (omega arith) (omega arith) (λ e. omega arith) h

  pub holds_tag : (at : ℕ) (keyed : Bool) → head_at u blame at ≡ Holds keyed → at < length u
  unfolding Heads
  holds_tag at keyed p = subst (Heads at) p (heads at)

-- for the code: a number that is read ends after its start, and what is passed over ends, within the bytes
module _ (u : List ℕ) where
  pub read-ends : (at n e : ℕ) → read_unsigned u at ≡ read.Number n e → (at < e) × (e ≤ length u)
  read-ends at n e p = subst (Reads u 0 at) p (unsigned_reads u 0 at)

  pub bytes-span : (n at e : ℕ) → at ≤ length u → skip_bytes u n at ≡ At e → (at ≤ e) × (e ≤ length u)
  unfolding Ends
  bytes-span n at e h p = subst (Ends u 0 at) p (bytes-end u 0 n at h)
