-- Rows that are measured and not written: what a test says of them, that one which is whole has its own tokens, and that there are no keys among them.
use Prim.Native.Nat.{ℕ, ◌+◌, ◌≤◌, ◌<◌}
use mathlib.Core.Path.{◌≡◌, refl, sym, ap, ◌∙◌}
use mathlib.Core.Logic.{◌≢◌}
use mathlib.Core.Bool.{Bool, true, false, ◌&&◌, ◌||◌}
use mathlib.Core.List.{List, [], ◌∷◌, ◌++◌}
use native.Mathlib.Omega.{arith}
use lib.Dec.{ltb, leb, eqb}
use borrow.Author.Tests.{leb-true, ltb-true, eq-eqb, ne_eqb, eqb-true, eqb-false}
use Rattle.numbers.specs.Number.{pick}
use Rattle.numbers.specs.Limits.{max_clock}
use Rattle.block.specs.declared.Block.{Block}
use Rattle.block.specs.Kinds.{is_item}
use Rattle.parts.specs.Brim.{brim}
use Rattle.readings.specs.Sound.{bytes_in, linked}
use Rattle.tokens.specs.Tokens.{Token, info, infos, lens}
use Rattle.tokens.specs.Desk.{Tidy, Gauged}
use Rattle.tokens.specs.KeysInner.{keyless}
use Rattle.tokens.proofs.Keys.{keyless-append}
use Rattle.tokens.proofs.Sized.{gauged-none, gauged-is}
use Rattle.marked.proofs.Marked.{one_field, one-text, one-buf, field-field}
use Rattle.kept.specs.Cut.{is_whole}
use Rattle.kept.specs.Plan.{rest_of, sane, cut_at}
use Rattle.kept.proofs.Sane.{within-sane}
use Rattle.records.specs.Records.{info_byte, left_tokens, right_tokens, place_tokens, content_tokens, block_tokens}
use Rattle.records.specs.Stops.{row_tokens}
use Rattle.records.proofs.Writes.{place-beside, content-deleted, content-binary, content-text, block-gc, block-item, head-none, row-some}
use Rattle.records.proofs.Keyless.{place-keyless}
use Rattle.sizing.specs.Plain.{in_limits, simple, plain}

and_both : (x y : Bool) → (x && y) ≡ true → (x ≡ true) × (y ≡ true)
and_both true y h = (refl, h)
and_both false y h = absurd (let z : ◌≡◌ {A = ℕ} 0 1 = cc in omega arith)

-- ---- kinds

module _ (k : ℕ) where
  -- one of three kinds
  pub by-simple : {A : Type 0} → simple k ≡ true → (k ≡ 3 → A) → (k ≡ 4 → A) → (k ≡ 5 → A) → A
  unfolding simple
  by-simple {A} h deleted binary text = go (eqb k 3) (eqb k 4) (eqb k 5) refl refl refl h
    where
      go : (x y z : Bool) → eqb k 3 ≡ x → eqb k 4 ≡ y → eqb k 5 ≡ z → (x || y || z) ≡ true → A
      go true y z p q r s = deleted (eqb-true k 3 p)
      go false true z p q r s = binary (eqb-true k 4 q)
      go false false true p q r s = text (eqb-true k 5 r)
      go false false false p q r s = absurd (let z : ◌≡◌ {A = ℕ} 0 1 = cc in omega arith)

  pub only-binary : simple k ≡ true → k ≢ 3 → k ≢ 5 → k ≡ 4
  only-binary h n m = by-simple h (λ e. absurd (n e)) (λ e. e) (λ e. absurd (m e))

  pub simple-item : simple k ≡ true → is_item k ≡ true
  unfolding is_item
  simple-item h = by-simple h (λ e. rw e) (λ e. rw e) (λ e. rw e)

-- ---- a row

module _ (b : Block) where
  pub limits-within : in_limits b ≡ true → (b.clock + b.length.0 ≤ max_clock) × (b.part.place + b.part.bytes.0 < brim)
  unfolding in_limits
  limits-within h =
      let p = and_both (leb (b.clock + b.length.0) max_clock) (ltb (b.part.place + b.part.bytes.0) brim) h in
      (leb-true (b.clock + b.length.0) max_clock p.0, ltb-true (b.part.place + b.part.bytes.0) brim p.1)

  pub limits-sane : in_limits b ≡ true → sane b (rest_of b 0 0) ≡ true
  limits-sane h =
      let w = limits-within h in
      within-sane b (rest_of b 0 0) (record { some = omega arith; units = omega arith; end = w.0; bytes = omega arith; place = w.1 })

  whole_is : cut_at b (rest_of b 0 0) ≡ b
  unfolding cut_at is_whole
  whole_is = rw (eq-eqb b.length.0 b.length.0 refl)

  pub plain-limits : plain b ≡ true → in_limits b ≡ true
  unfolding plain
  plain-limits h = (and_both (in_limits b) _ h).0

  -- whole and with no head it has its own tokens
  pub plain_row : (u : List ℕ) → plain b ≡ true → row_tokens u 0 (rest_of b 0 0) b ≡ block_tokens u b
  plain_row u h =
      row-some u b 0 (rest_of b 0 0) (limits-sane (plain-limits h))
      ∙ ap (λ (ts : List Token). ts ++ block_tokens u (cut_at b (rest_of b 0 0))) (head-none u b 0 0 refl)
      ∙ ap (block_tokens u) whole_is

  -- ---- plain, as the tests come

  pub plain-far : in_limits b ≡ false → false ≡ plain b
  unfolding plain
  plain-far h = rw h

  pub plain-gc : in_limits b ≡ true → b.kind ≡ 1 → true ≡ plain b
  unfolding plain
  plain-gc h e = rw (h, eq-eqb b.kind 1 e)

  pub plain_other : in_limits b ≡ true → b.kind ≢ 1 → simple b.kind ≡ false → false ≡ plain b
  unfolding plain
  plain_other h n s = rw (h, ne_eqb b.kind 1 n, s)

  pub plain-linked : in_limits b ≡ true → b.kind ≢ 1 → simple b.kind ≡ true → linked b ≡ plain b
  unfolding plain
  plain-linked h n s = rw (h, ne_eqb b.kind 1 n, s)

  -- a GC, or an item beside others
  pub by-plain : {A : Type 0} → plain b ≡ true → (b.kind ≡ 1 → A) → (b.kind ≢ 1 → simple b.kind ≡ true → linked b ≡ true → A) → A
  unfolding plain
  by-plain {A} h gc item = go (eqb b.kind 1) refl (and_both (in_limits b) _ h).1
    where
      go : (x : Bool) → eqb b.kind 1 ≡ x → (x || (simple b.kind && linked b)) ≡ true → A
      go true e s = gc (eqb-true b.kind 1 e)
      go false e s = let p = and_both (simple b.kind) (linked b) s in item (eqb-false b.kind 1 e) p.0 p.1

  -- ---- its tokens

  item : (u : List ℕ) → b.kind ≢ 1 → simple b.kind ≡ true → block_tokens u b ≡ info (info_byte b) ∷ (place_tokens u b ++ content_tokens u b)
  item u n s =
      block-item u b n (by-simple b.kind s (λ e m. absurd (omega arith)) (λ e m. absurd (omega arith)) (λ e m. absurd (omega arith)))
      (simple-item b.kind s)

  pub plain-item : (u : List ℕ) → b.kind ≢ 1 → simple b.kind ≡ true → linked b ≡ true
      → block_tokens u b ≡ info (info_byte b) ∷ ((left_tokens b ++ right_tokens b) ++ content_tokens u b)
  plain-item u n s l = item u n s ∙ ap (λ (ts : List Token). info (info_byte b) ∷ (ts ++ content_tokens u b)) (place-beside u b l)

  content-keyless : (u : List ℕ) → simple b.kind ≡ true → keyless (content_tokens u b) ≡ true
  content-keyless u s =
      let t = bytes_in u b.part in
      by-simple b.kind s (λ e. ap keyless (content-deleted u b e) ∙ one_field lens b.length.0)
      (λ e. ap keyless (content-binary u b (λ n. absurd (omega arith)) e) ∙ one-buf t)
      (λ e. ap keyless (content-text u b (λ n. absurd (omega arith)) (λ n. absurd (omega arith)) e) ∙ one-text t b.length.0)

  -- no key is among them
  pub plain-keyless : (u : List ℕ) → plain b ≡ true → keyless (block_tokens u b) ≡ true
  plain-keyless u h =
      by-plain h (λ e. ap keyless (block-gc u b e) ∙ field-field infos 0 lens b.length.0)
      (λ n s l. ap keyless (item u n s)
      ∙ keyless-append (info (info_byte b) ∷ []) (place_tokens u b ++ content_tokens u b) (one_field infos (info_byte b))
      (keyless-append (place_tokens u b) (content_tokens u b) (place-keyless u b) (content-keyless u s)))

  -- ---- what is measured of it

  module _ (u : List ℕ) where
    abbrev pub Told : Bool → List ℕ → List ℕ → Type 0
    Told r w w₁ = (r ≡ plain b) × Gauged (pick (plain b) (block_tokens u b) []) w w₁

    pub passed_over : {w : List ℕ} → Tidy w → false ≡ plain b → Told false w w
    passed_over tidy h = (h, gauged-is (ap (λ (x : Bool). pick x (block_tokens u b) []) (sym h)) (gauged-none tidy))

    pub measured : {w w₁ : List ℕ} → true ≡ plain b → Gauged (block_tokens u b) w w₁ → Told true w w₁
    measured h g = (h, gauged-is (ap (λ (x : Bool). pick x (block_tokens u b) []) (sym h)) g)
