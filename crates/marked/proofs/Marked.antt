-- The tokens of marked contents: one law a case; and which tokens are no keys.
use Prim.Native.Nat.{ℕ}
use mathlib.Core.Path.{◌≡◌, refl}
use mathlib.Core.Logic.{◌≢◌}
use mathlib.Core.Bool.{true, false}
use mathlib.Core.List.{List, [], ◌∷◌}
use borrow.Author.Tests.{eq-eqb, ne_eqb}
use Rattle.block.specs.declared.Block.{Block}
use Rattle.block.specs.Kinds.{is_named}
use Rattle.readings.specs.Sound.{bytes_in}
use Rattle.tokens.specs.Tokens.{field, text, len, var, buf, value, values}
use Rattle.tokens.specs.TokensInner.{type_number}
use Rattle.tokens.specs.KeysInner.{is_key, keyless}
use Rattle.marked.specs.Marked.{mark, format_tokens, type_tokens, marked_tokens}

-- ---- by the kind

module _ (u : List ℕ) (b : Block) where
  pub marked-format : b.kind ≡ 6 → marked_tokens u b ≡ format_tokens u b
  unfolding marked_tokens
  marked-format h = rw (eq-eqb b.kind 6 h)

  pub marked-type : b.kind ≢ 6 → b.kind ≡ 7 → marked_tokens u b ≡ type_tokens u b
  unfolding marked_tokens
  marked-type n h = rw (ne_eqb b.kind 6 n, eq-eqb b.kind 7 h)

  pub marked-any : b.kind ≢ 6 → b.kind ≢ 7 → b.kind ≡ 8 → marked_tokens u b ≡ len b.length.0 ∷ (values (bytes_in u b.part) ∷ [])
  unfolding marked_tokens
  marked-any n m h = rw (ne_eqb b.kind 6 n, ne_eqb b.kind 7 m, eq-eqb b.kind 8 h)

  pub marked-none : b.kind ≢ 6 → b.kind ≢ 7 → b.kind ≢ 8 → marked_tokens u b ≡ []
  unfolding marked_tokens
  marked-none n m l = rw (ne_eqb b.kind 6 n, ne_eqb b.kind 7 m, ne_eqb b.kind 8 l)

  pub format-is : format_tokens u b ≡ mark u b.mark ∷ (value (bytes_in u b.part) ∷ [])
  unfolding format_tokens
  format-is = refl

  pub type-named : is_named b.type_number ≡ true → type_tokens u b ≡ type_number b.type_number ∷ (mark u b.mark ∷ [])
  unfolding type_tokens
  type-named h = rw h

  pub type-plain : is_named b.type_number ≡ false → type_tokens u b ≡ type_number b.type_number ∷ []
  unfolding type_tokens
  type-plain h = rw h

-- ---- no keys

pub one_field : (j v : ℕ) → keyless (field j v ∷ []) ≡ true
unfolding keyless is_key
one_field j v = refl

pub one-text : (b : List ℕ) (n : ℕ) → keyless (text b n ∷ []) ≡ true
unfolding keyless is_key
one-text b n = refl

pub one-buf : (b : List ℕ) → keyless (buf b ∷ []) ≡ true
unfolding keyless is_key
one-buf b = refl

pub one_value : (b : List ℕ) → keyless (value b ∷ []) ≡ true
unfolding keyless is_key
one_value b = refl

pub field-values : (j v : ℕ) (b : List ℕ) → keyless (field j v ∷ (values b ∷ [])) ≡ true
unfolding keyless is_key
field-values j v b = refl

pub field-field : (j v k n : ℕ) → keyless (field j v ∷ (field k n ∷ [])) ≡ true
unfolding keyless is_key
field-field j v k n = refl

pub field-var : (j v n : ℕ) → keyless (field j v ∷ (var n ∷ [])) ≡ true
unfolding keyless is_key
field-var j v n = refl
