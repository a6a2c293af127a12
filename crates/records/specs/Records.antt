-- The tokens of an update: sections, each with its count, its client, its first clock and its blocks; then the delete set. A block's tokens are what
-- reading draws of it: info; ids if 128 and 64; if neither, parent info with a name or an id, and a key if 32; then the content.
use Rattle.std.specs.Prelude.{ℕ, ◌+◌, ◌-◌, Bool, List, [], ◌∷◌, ◌++◌, eqb, length}
use Rattle.numbers.specs.Number.{pick}
use Rattle.text.specs.declared.Part.{Part}
use Rattle.text.specs.Utf8.{counted_in}
use Rattle.block.specs.declared.Block.{Block}
use Rattle.block.specs.Kinds.{is_gc, is_skip, is_deleted, is_binary, is_text, is_item}
unfoldable pub use Rattle.block.specs.KindsInner.{content_number}
use Rattle.ranges.specs.Ranges.{Range}
use Rattle.readings.specs.Sound.{bytes_in, linked}
use Rattle.readings.specs.Groups.{groups}
use Rattle.tokens.specs.Tokens.{Token, client, left, right, info, parent_info, text, len, var, buf}
pub use Rattle.marked.specs.Marked.{mark}
unfoldable pub use Rattle.marked.specs.Marked.{format_tokens, type_tokens, marked_tokens}
use Rattle.kept.specs.Kept.{Piece, Section}
use Rattle.kept.specs.Cut.{cut_row}

-- ---- a block, its parts in u

abbrev pub bit : Bool → ℕ → ℕ
bit there n = pick there n 0

unfoldable pub info_byte : Block → ℕ
info_byte b = content_number b.kind + bit b.has_left 128 + bit b.has_right 64 + bit b.has_key 32

abbrev pub name : List ℕ → Part → Token
name u p = text (bytes_in u p) (counted_in (bytes_in u p)).units.0

unfoldable pub left_tokens : Block → List Token
left_tokens b = pick b.has_left (client b.left_client ∷ (left b.left_clock ∷ [])) []

unfoldable pub right_tokens : Block → List Token
right_tokens b = pick b.has_right (client b.right_client ∷ (right b.right_clock ∷ [])) []

unfoldable pub parent_tokens : List ℕ → Block → List Token
parent_tokens u b =
    pick b.has_name (parent_info 1 ∷ (name u b.name ∷ [])) (parent_info 0 ∷ (client b.parent_client ∷ (left b.parent_clock ∷ [])))

unfoldable pub key_tokens : List ℕ → Block → List Token
key_tokens u b = pick b.has_key (name u b.key ∷ []) []

-- with a left or a right id, neither parent nor key is spelled
unfoldable pub place_tokens : List ℕ → Block → List Token
place_tokens u b = pick (linked b) (left_tokens b ++ right_tokens b) (parent_tokens u b ++ key_tokens u b)

unfoldable pub content_tokens : List ℕ → Block → List Token
content_tokens u b =
    pick (is_deleted b.kind) (len b.length.0 ∷ [])
    (pick (is_binary b.kind) (buf (bytes_in u b.part) ∷ [])
    (pick (is_text b.kind) (text (bytes_in u b.part) b.length.0 ∷ []) (marked_tokens u b)))

-- GC is 0 and a length field, Skip is 10 and its length among the rest, an item its info byte, its place and its content
unfoldable pub block_tokens : List ℕ → Block → List Token
block_tokens u b =
    pick (is_gc b.kind) (info 0 ∷ (len b.length.0 ∷ []))
    (pick (is_skip b.kind) (info 10 ∷ (var b.length.0 ∷ []))
    (pick (is_item b.kind) (info (info_byte b) ∷ (place_tokens u b ++ content_tokens u b)) []))

-- ---- sections

unfoldable pub pieces_tokens : List ℕ → List Piece → List Token
pieces_tokens u [] = []
pieces_tokens u (p ∷ ps) = block_tokens u (cut_row u p) ++ pieces_tokens u ps

unfoldable pub section_start : List Piece → ℕ
section_start [] = 0
section_start (p ∷ ps) = p.row.clock + p.from

unfoldable pub section_tokens : List ℕ → Section → List Token
section_tokens u s = var (length s.pieces) ∷ (client s.client ∷ (var (section_start s.pieces) ∷ pieces_tokens u s.pieces))

unfoldable pub sections_tokens : List ℕ → List Section → List Token
sections_tokens u [] = []
sections_tokens u (s ∷ ss) = section_tokens u s ++ sections_tokens u ss

-- ---- the delete set, ranges of a client together

-- in form 2 a clock is the increase since the range before ended, and a length is stored less one
unfoldable pub clock_from : ℕ → ℕ → Range → ℕ
clock_from form end r = pick (eqb form 1) r.clock (r.clock - end)

unfoldable pub length_of : ℕ → Range → ℕ
length_of form r = pick (eqb form 1) r.len (r.len - 1)

unfoldable pub ranges_tokens : ℕ → ℕ → List Range → List Token
ranges_tokens form end [] = []
ranges_tokens form end (r ∷ rs) = var (clock_from form end r) ∷ (var (length_of form r) ∷ ranges_tokens form (r.clock + r.len) rs)

unfoldable pub client_tokens : ℕ → List (List Range) → List Token
client_tokens form [] = []
client_tokens form ([] ∷ gs) = client_tokens form gs
client_tokens form ((r ∷ rs) ∷ gs) = var r.client ∷ (var (length (r ∷ rs)) ∷ (ranges_tokens form 0 (r ∷ rs) ++ client_tokens form gs))

abbrev pub owner_of : Range → ℕ
owner_of r = r.client

unfoldable pub delete_tokens : ℕ → List Range → List Token
delete_tokens form rs = var (length (groups owner_of rs)) ∷ client_tokens form (groups owner_of rs)

-- ---- an update

unfoldable pub update_tokens : ℕ → List ℕ → List Section → List Range → List Token
update_tokens form u ss rs = var (length ss) ∷ (sections_tokens u ss ++ delete_tokens form rs)
