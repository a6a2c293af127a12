-- The tokens of a diff are few: seven a piece, three a section, four a range, and two.
use Prim.Native.Nat.{ℕ, ◌+◌, ◌*◌, ◌≤◌}
use mathlib.Core.Path.{◌≡◌, refl, ap}
use mathlib.Core.Bool.{Bool, true, false}
use mathlib.Core.List.{List, [], ◌∷◌}
use native.Mathlib.Omega.{arith}
use lib.ListN.{length, length-append}
use Rattle.numbers.specs.Number.{pick}
use Rattle.numbers.specs.Limits.{max_update, max_count}
use Rattle.block.specs.declared.Block.{Block}
use Rattle.block.specs.Kinds.{is_gc, is_skip, is_deleted, is_binary, is_text, is_format, is_type, is_any, is_item, is_named}
use Rattle.ranges.specs.Ranges.{Range}
use Rattle.readings.specs.Sound.{linked}
use Rattle.readings.specs.Groups.{groups}
use Rattle.readings.specs.GroupsInner.{joined}
use Rattle.readings.proofs.Columns.{chosen}
use Rattle.readings.proofs.Groups.{groups-joined, groups-length}
use Rattle.tokens.specs.Tokens.{Token}
use Rattle.tokens.specs.TokensInner.{type_number}
use Rattle.kept.specs.Kept.{Piece, Section}
use Rattle.kept.specs.KeptInner.{piece_count}
use Rattle.kept.specs.Cut.{cut_row}
use Rattle.records.specs.Records.{left_tokens, right_tokens, parent_tokens, key_tokens, place_tokens, mark, format_tokens, type_tokens, marked_tokens, content_tokens, block_tokens, pieces_tokens, section_tokens, sections_tokens, ranges_tokens, client_tokens, owner_of, delete_tokens, update_tokens}
use Rattle.written.specs.Kept.{Kept}

-- ---- a record

abbrev Few : ℕ → List Token → Type 0
Few n ts = length ts ≤ n

module _ (u : List ℕ) (b : Block) where
  left-few : length (left_tokens b) ≤ 2
  unfolding left_tokens
  left-few = chosen (Few 2) b.has_left (λ _. omega arith) (λ _. omega arith)

  right-few : length (right_tokens b) ≤ 2
  unfolding right_tokens
  right-few = chosen (Few 2) b.has_right (λ _. omega arith) (λ _. omega arith)

  parent-few : length (parent_tokens u b) ≤ 3
  unfolding parent_tokens
  parent-few = chosen (Few 3) b.has_name (λ _. omega arith) (λ _. omega arith)

  key-few : length (key_tokens u b) ≤ 1
  unfolding key_tokens
  key-few = chosen (Few 1) b.has_key (λ _. omega arith) (λ _. omega arith)

  place-few : length (place_tokens u b) ≤ 4
  unfolding place_tokens
  place-few =
      chosen (Few 4) (linked b)
      (λ _. omega (arith, length-append (left_tokens b) (right_tokens b), left-few, right-few))
      (λ _. omega (arith, length-append (parent_tokens u b) (key_tokens u b), parent-few, key-few))

  type-few : length (type_tokens u b) ≤ 2
  unfolding type_tokens
  type-few = go (is_named b.type_number)
    where
      go : (x : Bool) → length (type_number b.type_number ∷ pick x (mark u b.mark ∷ []) []) ≤ 2
      go true = omega arith
      go false = omega arith

  marked-few : length (marked_tokens u b) ≤ 2
  unfolding marked_tokens format_tokens
  marked-few =
      chosen (Few 2) (is_format b.kind) (λ _. omega arith)
      (λ _. chosen (Few 2) (is_type b.kind) (λ _. type-few) (λ _. chosen (Few 2) (is_any b.kind) (λ _. omega arith) (λ _. omega arith)))

  content-few : length (content_tokens u b) ≤ 2
  unfolding content_tokens
  content-few =
      chosen (Few 2) (is_deleted b.kind) (λ _. omega arith)
      (λ _. chosen (Few 2) (is_binary b.kind) (λ _. omega arith) (λ _. chosen (Few 2) (is_text b.kind) (λ _. omega arith) (λ _. marked-few)))

  block-few : length (block_tokens u b) ≤ 7
  unfolding block_tokens
  block-few =
      chosen (Few 7) (is_gc b.kind) (λ _. omega arith)
      (λ _. chosen (Few 7) (is_skip b.kind) (λ _. omega arith)
      (λ _. chosen (Few 7) (is_item b.kind)
      (λ _. omega (arith, length-append (place_tokens u b) (content_tokens u b), place-few, content-few)) (λ _. omega arith)))

-- ---- sections

module _ (u : List ℕ) where
  pieces-few : (ps : List Piece) → length (pieces_tokens u ps) ≤ 7 * length ps
  unfolding pieces_tokens
  pieces-few [] = omega arith
  pieces-few (p ∷ ps) = omega (arith, length-append (block_tokens u (cut_row u p)) (pieces_tokens u ps), block-few u (cut_row u p), pieces-few ps)

  section-few : (s : Section) → length (section_tokens u s) ≤ 3 + 7 * length s.pieces
  unfolding section_tokens
  section-few s = omega (arith, pieces-few s.pieces)

  sections-few : (ss : List Section) → length (sections_tokens u ss) ≤ 3 * length ss + 7 * piece_count ss
  unfolding sections_tokens piece_count
  sections-few [] = omega arith
  sections-few (s ∷ ss) = omega (arith, length-append (section_tokens u s) (sections_tokens u ss), section-few s, sections-few ss)

-- ---- the delete set

module _ (form : ℕ) where
  ranges-few : (rs : List Range) (end : ℕ) → length (ranges_tokens form end rs) ≡ 2 * length rs
  unfolding ranges_tokens
  ranges-few [] end = refl
  ranges-few (r ∷ rs) end = omega (arith, ranges-few rs (r.clock + r.len))

  clients-few : (gs : List (List Range)) → length (client_tokens form gs) ≤ 2 * length gs + 2 * length (joined gs)
  unfolding client_tokens joined
  clients-few [] = omega arith
  clients-few ([] ∷ gs) = omega (arith, clients-few gs)
  clients-few ((r ∷ rs) ∷ gs) =
      omega (
        arith,
        length-append (ranges_tokens form 0 (r ∷ rs)) (client_tokens form gs),
        ranges-few (r ∷ rs) 0,
        clients-few gs,
        length-append (r ∷ rs) (joined gs),
      )

  deletes-few : (rs : List Range) → length (delete_tokens form rs) ≤ 1 + 4 * length rs
  unfolding delete_tokens
  deletes-few rs = omega (arith, clients-few (groups owner_of rs), groups-length owner_of rs, ap length (groups-joined owner_of rs))

  -- ---- all of it

  pub few-tokens : (u : List ℕ) (ss : List Section) (rs : List Range) → length u ≤ max_update → Kept form u ss → length rs ≤ length u
      → length (update_tokens form u ss rs) ≤ max_count
  unfolding update_tokens
  few-tokens u ss rs short k ranges =
      omega (arith, length-append (sections_tokens u ss) (delete_tokens form rs), sections-few u ss, k.count, k.pieces, deletes-few rs)
