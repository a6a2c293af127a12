-- The tokens of a diff are few: what all of them take stays far below 2^54 bytes.
use Prim.Native.Nat.{ℕ, ◌+◌, ◌*◌, ◌≤◌, ◌<◌, ◌^◌}
use mathlib.Core.Path.{◌≡◌, refl, ap}
use mathlib.Core.List.{List, [], ◌∷◌}
use native.Mathlib.Omega.{arith}
use lib.ListN.{length, length-append}
use Rattle.numbers.specs.Limits.{max_update, max_clients, max_blocks}
use Rattle.block.specs.declared.Block.{Block}
use Rattle.block.specs.Kinds.{is_gc, is_skip, is_deleted, is_binary, is_text, is_format, is_type, is_any, is_item, is_named}
use Rattle.vector.specs.Vector.{Entry}
use Rattle.ranges.specs.Ranges.{Range}
use Rattle.readings.specs.Sound.{linked}
use Rattle.readings.specs.Groups.{groups}
use Rattle.readings.specs.GroupsInner.{joined}
use Rattle.readings.proofs.Columns.{chosen}
use Rattle.readings.proofs.Groups.{groups-joined, groups-length}
use Rattle.tokens.specs.Tokens.{Token}
use Rattle.tokens.proofs.Fitting.{size_of, size_all, size-append}
use Rattle.kept.specs.Kept.{Piece, Section, client_of, sections_of}
use Rattle.kept.specs.KeptInner.{piece_count}
use Rattle.kept.specs.Cut.{cut_row}
use Rattle.kept.proofs.SectionsKept.{sections-length, sections-count}
use Rattle.records.specs.Records.{left_tokens, right_tokens, parent_tokens, key_tokens, place_tokens, format_tokens, type_tokens, marked_tokens, content_tokens, block_tokens, pieces_tokens, section_tokens, sections_tokens, ranges_tokens, client_tokens, owner_of, delete_tokens, update_tokens}
use Rattle.writing.proofs.SmallLegal.{part_length}

-- ---- a record

abbrev Below : ℕ → List Token → Type 0
Below n ts = size_all ts ≤ n

module _ (u : List ℕ) (b : Block) where
  left-size : size_all (left_tokens b) ≤ 20
  unfolding left_tokens size_all size_of
  left-size = chosen (Below 20) b.has_left (λ _. omega arith) (λ _. omega arith)

  right-size : size_all (right_tokens b) ≤ 20
  unfolding right_tokens size_all size_of
  right-size = chosen (Below 20) b.has_right (λ _. omega arith) (λ _. omega arith)

  parent-size : size_all (parent_tokens u b) ≤ 30 + length u
  unfolding parent_tokens size_all size_of
  parent-size = chosen (Below (30 + length u)) b.has_name (λ _. omega (arith, part_length u b.name)) (λ _. omega arith)

  key-size : size_all (key_tokens u b) ≤ 10 + length u
  unfolding key_tokens size_all size_of
  key-size = chosen (Below (10 + length u)) b.has_key (λ _. omega (arith, part_length u b.key)) (λ _. omega arith)

  place-size : size_all (place_tokens u b) ≤ 40 + 2 * length u
  unfolding place_tokens
  place-size =
      chosen (Below (40 + 2 * length u)) (linked b)
      (λ _. omega (arith, size-append (left_tokens b) (right_tokens b), left-size, right-size))
      (λ _. omega (arith, size-append (parent_tokens u b) (key_tokens u b), parent-size, key-size))

  format-size : size_all (format_tokens u b) ≤ 30 + 2 * length u
  unfolding format_tokens size_all size_of
  format-size = omega (arith, part_length u b.mark, part_length u b.part)

  type-size : size_all (type_tokens u b) ≤ 30 + length u
  unfolding type_tokens size_all size_of
  type-size = chosen (λ (ts : List Token). 10 + size_all ts ≤ 30 + length u) (is_named b.type_number) (λ _. omega (arith, part_length u b.mark)) (λ _. omega arith)

  abbrev Content : List Token → Type 0
  Content = Below (30 + 2 * length u)

  marked-size : size_all (marked_tokens u b) ≤ 30 + 2 * length u
  unfolding marked_tokens size_all size_of
  marked-size =
      chosen Content (is_format b.kind) (λ _. format-size)
      (λ _. chosen Content (is_type b.kind) (λ _. omega (arith, type-size))
      (λ _. chosen Content (is_any b.kind) (λ _. omega (arith, part_length u b.part)) (λ _. omega arith)))

  content-size : size_all (content_tokens u b) ≤ 30 + 2 * length u
  unfolding content_tokens size_all size_of
  content-size =
      chosen Content (is_deleted b.kind) (λ _. omega arith)
      (λ _. chosen Content (is_binary b.kind) (λ _. omega (arith, part_length u b.part))
      (λ _. chosen Content (is_text b.kind) (λ _. omega (arith, part_length u b.part)) (λ _. marked-size)))

  pub block_size : size_all (block_tokens u b) ≤ 80 + 4 * length u
  unfolding block_tokens size_all size_of
  block_size =
      chosen (Below (80 + 4 * length u)) (is_gc b.kind) (λ _. omega arith)
      (λ _. chosen (Below (80 + 4 * length u)) (is_skip b.kind) (λ _. omega arith)
      (λ _. chosen (Below (80 + 4 * length u)) (is_item b.kind)
      (λ _. omega (arith, size-append (place_tokens u b) (content_tokens u b), place-size, content-size)) (λ _. omega arith)))

-- ---- sections

module _ (u : List ℕ) (few : length u ≤ max_update) where
  pieces-size : (ps : List Piece) → size_all (pieces_tokens u ps) ≤ 67108940 * length ps
  unfolding pieces_tokens size_all
  pieces-size [] = omega arith
  pieces-size (p ∷ ps) =
      omega (arith, size-append (block_tokens u (cut_row u p)) (pieces_tokens u ps), few, block_size u (cut_row u p), pieces-size ps)

  section-size : (s : Section) → size_all (section_tokens u s) ≤ 30 + 67108940 * length s.pieces
  unfolding section_tokens size_all size_of
  section-size s = omega (arith, pieces-size s.pieces)

  pub sections-size : (ss : List Section) → size_all (sections_tokens u ss) ≤ 30 * length ss + 67108940 * piece_count ss
  unfolding sections_tokens size_all piece_count
  sections-size [] = omega arith
  sections-size (s ∷ ss) = omega (arith, size-append (section_tokens u s) (sections_tokens u ss), section-size s, sections-size ss)

-- ---- the delete set

module _ (form : ℕ) where
  ranges-size : (rs : List Range) (end : ℕ) → size_all (ranges_tokens form end rs) ≡ 20 * length rs
  unfolding ranges_tokens size_all size_of
  ranges-size [] end = refl
  ranges-size (r ∷ rs) end = omega (arith, ranges-size rs (r.clock + r.len))

  clients-size : (gs : List (List Range)) → size_all (client_tokens form gs) ≤ 20 * length gs + 20 * length (joined gs)
  unfolding client_tokens joined size_all size_of
  clients-size [] = omega arith
  clients-size ([] ∷ gs) = omega (arith, clients-size gs)
  clients-size ((r ∷ rs) ∷ gs) =
      omega (
        arith,
        size-append (ranges_tokens form 0 (r ∷ rs)) (client_tokens form gs),
        ranges-size (r ∷ rs) 0,
        clients-size gs,
        length-append (r ∷ rs) (joined gs),
      )

  pub deletes-size : (rs : List Range) → size_all (delete_tokens form rs) ≤ 10 + 40 * length rs
  unfolding delete_tokens size_all size_of
  deletes-size rs = omega (arith, clients-size (groups owner_of rs), groups-length owner_of rs, ap length (groups-joined owner_of rs))

  -- ---- all of it

  pub few-diff : (u : List ℕ) (v : List Entry) (bs : List Block) (rs : List Range) → length u ≤ max_update → length bs ≤ max_blocks
      → length (groups client_of bs) ≤ max_clients → length rs ≤ length u → size_all (update_tokens form u (sections_of v bs) rs) < 2 ^ 54
  unfolding update_tokens size_all size_of
  few-diff u v bs rs few blocks clients ranges =
      omega (
        arith,
        size-append (sections_tokens u (sections_of v bs)) (delete_tokens form rs),
        sections-size u few (sections_of v bs),
        sections-length v bs,
        sections-count v bs,
        deletes-size rs,
      )
