-- The tokens of a block, part by part: one law a case.
use Prim.Native.Nat.{ℕ, ◌+◌}
use mathlib.Core.Path.{◌≡◌}
use mathlib.Core.Logic.{◌≢◌}
use mathlib.Core.Bool.{true, false}
use mathlib.Core.List.{List, [], ◌∷◌, ◌++◌}
use borrow.Author.Tests.{eq-eqb, ne_eqb}
use Rattle.numbers.specs.Number.{pick}
use Rattle.block.specs.declared.Block.{Block}
use Rattle.readings.specs.Sound.{bytes_in, linked}
use Rattle.tokens.specs.Tokens.{client, left, right, info, parent_info, text, len, var, buf}
use Rattle.block.specs.Kinds.{is_item}
use Rattle.kept.specs.declared.cursor.Ends.{Ends}
use Rattle.kept.specs.Plan.{sane, cut_at}
use Rattle.records.specs.Records.{content_number, info_byte, name, left_tokens, right_tokens, parent_tokens, key_tokens}
use Rattle.records.specs.Records.{place_tokens, marked_tokens, content_tokens, block_tokens}
use Rattle.records.specs.Stops.{head_tokens, row_tokens}

-- ---- numbers

pub info-byte-is : (b : Block) (c l r k : ℕ) → c ≡ content_number b.kind → l ≡ pick b.has_left 128 0 → r ≡ pick b.has_right 64 0
    → k ≡ pick b.has_key 32 0
    → c + l + r + k ≡ info_byte b
unfolding info_byte
info-byte-is b c l r k hc hl hr hk = rw (hc, hl, hr, hk)

module _ (b : Block) where
  pub linked-left : b.has_left ≡ true → true ≡ linked b
  unfolding linked
  linked-left h = rw h

  pub linked-right : b.has_left ≡ false → b.has_right ≡ linked b
  unfolding linked
  linked-right h = rw h

-- ---- where an item stands

module _ (u : List ℕ) (b : Block) where
  pub left-none : b.has_left ≡ false → left_tokens b ≡ []
  unfolding left_tokens
  left-none h = rw h

  pub left-some : b.has_left ≡ true → left_tokens b ≡ client b.left_client ∷ (left b.left_clock ∷ [])
  unfolding left_tokens
  left-some h = rw h

  pub right-none : b.has_right ≡ false → right_tokens b ≡ []
  unfolding right_tokens
  right-none h = rw h

  pub right-some : b.has_right ≡ true → right_tokens b ≡ client b.right_client ∷ (right b.right_clock ∷ [])
  unfolding right_tokens
  right-some h = rw h

  pub parent-named : b.has_name ≡ true → parent_tokens u b ≡ parent_info 1 ∷ (name u b.name ∷ [])
  unfolding parent_tokens
  parent-named h = rw h

  pub parent-by-id : b.has_name ≡ false → parent_tokens u b ≡ parent_info 0 ∷ (client b.parent_client ∷ (left b.parent_clock ∷ []))
  unfolding parent_tokens
  parent-by-id h = rw h

  pub key-none : b.has_key ≡ false → key_tokens u b ≡ []
  unfolding key_tokens
  key-none h = rw h

  pub key-some : b.has_key ≡ true → key_tokens u b ≡ name u b.key ∷ []
  unfolding key_tokens
  key-some h = rw h

  pub place-beside : linked b ≡ true → place_tokens u b ≡ left_tokens b ++ right_tokens b
  unfolding place_tokens
  place-beside h = rw h

  pub place_inside : linked b ≡ false → place_tokens u b ≡ parent_tokens u b ++ key_tokens u b
  unfolding place_tokens
  place_inside h = rw h

  -- ---- what it holds

  pub content-deleted : b.kind ≡ 3 → content_tokens u b ≡ len b.length.0 ∷ []
  unfolding content_tokens
  content-deleted h = rw (eq-eqb b.kind 3 h)

  pub content-binary : b.kind ≢ 3 → b.kind ≡ 4 → content_tokens u b ≡ buf (bytes_in u b.part) ∷ []
  unfolding content_tokens
  content-binary n h = rw (ne_eqb b.kind 3 n, eq-eqb b.kind 4 h)

  pub content-text : b.kind ≢ 3 → b.kind ≢ 4 → b.kind ≡ 5 → content_tokens u b ≡ text (bytes_in u b.part) b.length.0 ∷ []
  unfolding content_tokens
  content-text n m h = rw (ne_eqb b.kind 3 n, ne_eqb b.kind 4 m, eq-eqb b.kind 5 h)

  pub content-marked : b.kind ≢ 3 → b.kind ≢ 4 → b.kind ≢ 5 → content_tokens u b ≡ marked_tokens u b
  unfolding content_tokens
  content-marked n m l = rw (ne_eqb b.kind 3 n, ne_eqb b.kind 4 m, ne_eqb b.kind 5 l)

  -- ---- a block

  pub block-gc : b.kind ≡ 1 → block_tokens u b ≡ info 0 ∷ (len b.length.0 ∷ [])
  unfolding block_tokens
  block-gc h = rw (eq-eqb b.kind 1 h)

  pub block-skip : b.kind ≢ 1 → b.kind ≡ 2 → block_tokens u b ≡ info 10 ∷ (var b.length.0 ∷ [])
  unfolding block_tokens
  block-skip n h = rw (ne_eqb b.kind 1 n, eq-eqb b.kind 2 h)

  pub block-item : b.kind ≢ 1 → b.kind ≢ 2 → is_item b.kind ≡ true → block_tokens u b ≡ info (info_byte b) ∷ (place_tokens u b ++ content_tokens u b)
  unfolding block_tokens
  block-item n m h = rw (ne_eqb b.kind 1 n, ne_eqb b.kind 2 m, h)

  pub block_none : b.kind ≢ 1 → b.kind ≢ 2 → is_item b.kind ≡ false → block_tokens u b ≡ []
  unfolding block_tokens
  block_none n m h = rw (ne_eqb b.kind 1 n, ne_eqb b.kind 2 m, h)

  -- ---- a row that a plan names

  pub head-none : (count from : ℕ) → count ≡ 0 → head_tokens count from b ≡ []
  unfolding head_tokens
  head-none count from h = rw (eq-eqb count 0 h)

  pub head-some : (count from : ℕ) → count ≢ 0 → head_tokens count from b ≡ var count ∷ (client b.client ∷ (var (b.clock + from) ∷ []))
  unfolding head_tokens
  head-some count from n = rw (ne_eqb count 0 n)

  pub row-none : (count : ℕ) (e : Ends) → sane b e ≡ false → row_tokens u count e b ≡ []
  unfolding row_tokens
  row-none count e h = rw h

  pub row-some : (count : ℕ) (e : Ends) → sane b e ≡ true → row_tokens u count e b ≡ head_tokens count e.from.0 b ++ block_tokens u (cut_at b e)
  unfolding row_tokens
  row-some count e h = rw h
