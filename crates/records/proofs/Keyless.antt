-- There are no keys in a section's head, nor in where an item stands, nor in a row that has no mark.
use Prim.Native.Nat.{ℕ}
use native.Mathlib.Omega.{arith}
use mathlib.Core.Path.{◌≡◌, refl}
use mathlib.Core.Bool.{Bool, true, false, ◌||◌, ◌&&◌}
use mathlib.Core.List.{List, [], ◌∷◌}
use lib.Dec.{eqb}
use Rattle.numbers.specs.Number.{pick}
use Rattle.text.specs.declared.Part.{Part}
use Rattle.block.specs.declared.Block.{Block}
use Rattle.block.specs.Kinds.{is_gc, is_skip, is_item, is_deleted, is_binary, is_text, is_format, is_type, is_any, is_named}
use Rattle.block.specs.KindsInner.{is_marked}
use Rattle.readings.specs.Sound.{bytes_in, linked}
use Rattle.kept.specs.declared.cursor.Ends.{Ends}
use Rattle.kept.specs.Kept.{piece}
use Rattle.kept.specs.Cut.{is_whole, front, behind}
use Rattle.kept.specs.Plan.{sane, part_at, cut_at}
use Rattle.tokens.specs.Tokens.{Token, len, values}
use Rattle.tokens.specs.TokensInner.{type_number}
use Rattle.tokens.specs.KeysInner.{is_key, keyless}
use Rattle.tokens.proofs.Keys.{keyless-append}
use Rattle.marked.specs.Marked.{mark, format_tokens, type_tokens, marked_tokens}
use Rattle.records.specs.Records.{left_tokens, right_tokens, parent_tokens, key_tokens, place_tokens, content_tokens, block_tokens}
use Rattle.records.specs.Stops.{head_tokens, row_tokens}

either : (x : Bool) (a c : List Token) → keyless a ≡ true → keyless c ≡ true → keyless (pick x a c) ≡ true
either true a c p q = p
either false a c p q = q

module _ (u : List ℕ) (b : Block) where
  left_keyless : keyless (left_tokens b) ≡ true
  unfolding keyless is_key left_tokens
  left_keyless = either b.has_left _ _ refl refl

  right-keyless : keyless (right_tokens b) ≡ true
  unfolding keyless is_key right_tokens
  right-keyless = either b.has_right _ _ refl refl

  parent-keyless : keyless (parent_tokens u b) ≡ true
  unfolding keyless is_key parent_tokens
  parent-keyless = either b.has_name _ _ refl refl

  key-keyless : keyless (key_tokens u b) ≡ true
  unfolding keyless is_key key_tokens
  key-keyless = either b.has_key _ _ refl refl

  pub place-keyless : keyless (place_tokens u b) ≡ true
  unfolding place_tokens
  place-keyless =
      either (linked b) _ _ (keyless-append (left_tokens b) (right_tokens b) left_keyless right-keyless)
      (keyless-append (parent_tokens u b) (key_tokens u b) parent-keyless key-keyless)

pub head-keyless : (count from : ℕ) (b : Block) → keyless (head_tokens count from b) ≡ true
unfolding keyless is_key head_tokens
head-keyless count from b = either (eqb count 0) _ _ refl refl

-- ---- a row that has no mark

no : {A : Type 0} → true ≡ false → A
no p = absurd (let z : ◌≡◌ {A = ℕ} 0 1 = cc in omega arith)

abbrev Unmarked : Block → Type 0
Unmarked b = is_marked b.kind b.type_number ≡ false

module _ (u : List ℕ) (b : Block) (h : Unmarked b) where
  marked-keyless : keyless (marked_tokens u b) ≡ true
  unfolding marked_tokens format_tokens type_tokens is_marked keyless is_key
  marked-keyless = go (is_format b.kind) (is_type b.kind) (is_named b.type_number) (is_any b.kind) h
    where
      go : (f t n a : Bool) → (f || (t && n)) ≡ false
          → keyless (pick f (format_tokens u b) (pick t (type_number b.type_number ∷ pick n (mark u b.mark ∷ []) []) (pick a (len b.length.0 ∷ (values (bytes_in u b.part) ∷ [])) [])))
          ≡ true
      go true t n a h = no h
      go false true true a h = no h
      go false true false a h = refl
      go false false n true h = refl
      go false false n false h = refl

  content-keyless : keyless (content_tokens u b) ≡ true
  unfolding content_tokens keyless is_key
  content-keyless =
      either (is_deleted b.kind) _ _ refl (either (is_binary b.kind) _ _ refl (either (is_text b.kind) _ _ refl marked-keyless))

  block-keyless : keyless (block_tokens u b) ≡ true
  unfolding block_tokens keyless is_key
  block-keyless =
      either (is_gc b.kind) _ _ refl
      (either (is_skip b.kind) _ _ refl
      (either (is_item b.kind) _ _ (keyless-append (place_tokens u b) (content_tokens u b) (place-keyless u b) content-keyless) refl))

-- however it is cut
module _ (u : List ℕ) (b : Block) (h : Unmarked b) where
  cut-keyless : (e : Ends) → keyless (block_tokens u (cut_at b e)) ≡ true
  unfolding cut_at
  cut-keyless e = go (is_whole (piece b e.from.0 e.to.0)) (eqb e.from.0 0) (part_at b e)
    where
      go : (x y : Bool) (p : Part) → keyless (block_tokens u (pick x b (pick y (front e.to.0 p b) (behind e.from.0 e.to.0 p b)))) ≡ true
      go true y p = block-keyless u b h
      go false true p = block-keyless u (front e.to.0 p b) h
      go false false p = block-keyless u (behind e.from.0 e.to.0 p b) h

  pub row_keyless : (count : ℕ) (e : Ends) → keyless (row_tokens u count e b) ≡ true
  unfolding row_tokens keyless
  row_keyless count e =
      either (sane b e) _ _ (keyless-append (head_tokens count e.from.0 b) (block_tokens u (cut_at b e)) (head-keyless count e.from.0 b) (cut-keyless e)) refl
