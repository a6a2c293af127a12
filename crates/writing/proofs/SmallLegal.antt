-- The tokens of a diff are legal: every value is one of its column's.
use Prim.Native.Nat.{ℕ, ◌+◌, ◌≤◌}
use mathlib.Core.Path.{◌≡◌, refl}
use mathlib.Core.Bool.{Bool, true, false, cond}
use mathlib.Core.List.{List, [], ◌∷◌}
use native.Mathlib.Omega.{arith}
use lib.Dec.{eqb}
use lib.ListN.{length, take, length-take, length-drop}
use borrow.Author.Tests.{le-leb, eqb-true}
use Rattle.numbers.specs.Number.{pick}
use Rattle.numbers.specs.Limits.{max_clock, max_value, max_update}
use Rattle.text.specs.declared.Part.{Part}
use Rattle.text.specs.Utf8.{counted_in, well_formed, units_of}
use Rattle.text.proofs.Laws.{units-le-bytes}
use Rattle.runs.specs.Runs.{coding}
use Rattle.block.specs.declared.Id.{Id}
use Rattle.block.specs.declared.Block.{Block}
use Rattle.block.specs.Kinds.{TYPE, is_gc, is_skip, is_deleted, is_binary, is_text, is_format, is_type, is_any, is_item, is_named}
use Rattle.block.specs.Row.{no_id, left_id, right_id, parent_id}
use Rattle.vector.specs.Vector.{Entry}
use Rattle.ranges.specs.Ranges.{Range}
use Rattle.readings.specs.Sound.{bytes_in, linked, All}
use Rattle.readings.specs.SoundInner.{Sound, SoundId, Ordered}
use Rattle.readings.specs.Groups.{groups}
use Rattle.readings.proofs.Columns.{chosen}
use Rattle.tokens.specs.Tokens.{Token, column_in, client, left, right, info, parent_info, text, len, var, buf, key, value, values}
use Rattle.tokens.specs.TokensInner.{type_number}
use Rattle.tokens.proofs.Fitting.{legal, legal_all, legal-append}
use Rattle.kept.specs.Kept.{Piece, Section, sections_of}
use Rattle.kept.specs.KeptInner.{rows_of, Whole, Pieces, SoundSection}
use Rattle.kept.specs.Cut.{is_whole, shortened, begun_later, cut_row}
use Rattle.kept.specs.CutInner.{id_before}
use Rattle.kept.proofs.SectionsKept.{sections-sound}
use Rattle.records.specs.Records.{content_number, info_byte, bit, name, left_tokens, right_tokens, parent_tokens, key_tokens, place_tokens, mark, format_tokens, type_tokens, marked_tokens, content_tokens, block_tokens, pieces_tokens, section_start, section_tokens, sections_tokens, clock_from, length_of, ranges_tokens, client_tokens, owner_of, delete_tokens, update_tokens}

-- ---- tokens

abbrev pub Legals : List Token → Type 0
Legals ts = legal_all ts ≡ true

none-legal : Legals []
unfolding legal_all
none-legal = refl

more-legal : (t : Token) (ts : List Token) → legal t ≡ true → Legals ts → Legals (t ∷ ts)
unfolding legal_all
more-legal t ts p q = rw (p, q) refl

client-legal : (v : ℕ) → v ≤ max_value → legal (client v) ≡ true
unfolding legal column_in coding
client-legal v h = le-leb v max_value h

left-legal : (v : ℕ) → v ≤ max_clock → legal (left v) ≡ true
unfolding legal column_in coding
left-legal v h = le-leb v max_clock h

right-legal : (v : ℕ) → v ≤ max_clock → legal (right v) ≡ true
unfolding legal column_in coding
right-legal v h = le-leb v max_clock h

info-legal : (v : ℕ) → v ≤ 255 → legal (info v) ≡ true
unfolding legal column_in coding
info-legal v h = le-leb v 255 h

parent-info-legal : (v : ℕ) → v ≤ 255 → legal (parent_info v) ≡ true
unfolding legal column_in coding
parent-info-legal v h = le-leb v 255 h

len-legal : (v : ℕ) → v ≤ max_value → legal (len v) ≡ true
unfolding legal column_in coding
len-legal v h = le-leb v max_value h

text-legal : (b : List ℕ) (n : ℕ) → n ≤ max_value → legal (text b n) ≡ true
unfolding legal column_in coding
text-legal b n h = le-leb n max_value h

key-legal : (b : List ℕ) (n : ℕ) → n ≤ max_value → legal (key b n) ≡ true
unfolding legal column_in coding
key-legal b n h = le-leb n max_value h

type-legal : (v : ℕ) → v ≤ max_value → legal (type_number v) ≡ true
unfolding legal column_in coding
type-legal v h = le-leb v max_value h

value-legal : (b : List ℕ) → legal (value b) ≡ true
unfolding legal
value-legal b = refl

values-legal : (b : List ℕ) → legal (values b) ≡ true
unfolding legal
values-legal b = refl

var-legal : (v : ℕ) (ts : List Token) → Legals ts → Legals (var v ∷ ts)
unfolding legal
var-legal v ts h = more-legal (var v) ts refl h

buf-legal : (b : List ℕ) → Legals (buf b ∷ [])
unfolding legal
buf-legal b = more-legal (buf b) [] refl none-legal

-- ---- parts of an update

pub part_length : (u : List ℕ) (p : Part) → length (bytes_in u p) ≤ length u
unfolding bytes_in
part_length u p = omega (arith, length-drop p.place (take (p.place + p.bytes.0) u), length-take (p.place + p.bytes.0) u)

counted-le : (s : List ℕ) → (counted_in s).units.0 ≤ length s
unfolding counted_in
counted-le s = go (well_formed s)
  where
    go : (t : Bool) → pick t (units_of s) 0 ≤ length s
    go true = units-le-bytes s
    go false = omega arith

name-legal : (u : List ℕ) → length u ≤ max_update → (p : Part) → legal (name u p) ≡ true
name-legal u few p = text-legal (bytes_in u p) _ (omega (arith, few, part_length u p, counted-le (bytes_in u p)))

mark-legal : (u : List ℕ) → length u ≤ max_update → (p : Part) → legal (mark u p) ≡ true
mark-legal u few p = key-legal (bytes_in u p) _ (omega (arith, few, part_length u p, counted-le (bytes_in u p)))

-- ---- a record

pub record ModestId (i : Id) : Type 0 where
  pub client : i.client ≤ max_value
  pub clock : i.clock ≤ max_clock

-- its numbers are within the limits
pub record Modest (b : Block) : Type 0 where
  pub left : ModestId (left_id b)
  pub right : ModestId (right_id b)
  pub parent : ModestId (parent_id b)
  pub length : b.length.0 ≤ max_clock
  pub type : b.type_number ≤ max_value

bit_le : (t : Bool) (n : ℕ) → bit t n ≤ n
bit_le true n = omega arith
bit_le false n = omega arith

content-number : (kind : ℕ) → content_number kind ≤ 8
unfolding content_number
content-number kind = go (is_deleted kind) (is_binary kind) (is_text kind) (is_format kind) (is_type kind) (is_any kind)
  where
    go : (x y z f t a : Bool) → cond x 1 (cond y 3 (cond z 4 (cond f 6 (cond t 7 (cond a 8 0))))) ≤ 8
    go true y z f t a = omega arith
    go false true z f t a = omega arith
    go false false true f t a = omega arith
    go false false false true t a = omega arith
    go false false false false true a = omega arith
    go false false false false false true = omega arith
    go false false false false false false = omega arith

info-byte : (b : Block) → info_byte b ≤ 255
unfolding info_byte
info-byte b = omega (arith, content-number b.kind, bit_le b.has_left 128, bit_le b.has_right 64, bit_le b.has_key 32)

module _ (u : List ℕ) (few : length u ≤ max_update) (b : Block) (m : Modest b) where
  lefts-legal : Legals (left_tokens b)
  unfolding left_tokens
  lefts-legal =
      chosen Legals b.has_left
      (λ _. more-legal _ _ (client-legal b.left_client m.left.client) (more-legal _ _ (left-legal b.left_clock m.left.clock) none-legal))
      (λ _. none-legal)

  rights-legal : Legals (right_tokens b)
  unfolding right_tokens
  rights-legal =
      chosen Legals b.has_right
      (λ _. more-legal _ _ (client-legal b.right_client m.right.client) (more-legal _ _ (right-legal b.right_clock m.right.clock) none-legal))
      (λ _. none-legal)

  parents-legal : Legals (parent_tokens u b)
  unfolding parent_tokens
  parents-legal =
      chosen Legals b.has_name
      (λ _. more-legal _ _ (parent-info-legal 1 (omega arith)) (more-legal _ _ (name-legal u few b.name) none-legal))
      (λ _. more-legal _ _ (parent-info-legal 0 (omega arith))
      (more-legal _ _ (client-legal b.parent_client m.parent.client) (more-legal _ _ (left-legal b.parent_clock m.parent.clock) none-legal)))

  keys-legal : Legals (key_tokens u b)
  unfolding key_tokens
  keys-legal = chosen Legals b.has_key (λ _. more-legal _ _ (name-legal u few b.key) none-legal) (λ _. none-legal)

  place-legal : Legals (place_tokens u b)
  unfolding place_tokens
  place-legal =
      chosen Legals (linked b) (λ _. legal-append (left_tokens b) (right_tokens b) lefts-legal rights-legal)
      (λ _. legal-append (parent_tokens u b) (key_tokens u b) parents-legal keys-legal)

  length-fits : b.length.0 ≤ max_value
  length-fits = omega (arith, m.length)

  format-legal : Legals (format_tokens u b)
  unfolding format_tokens
  format-legal = more-legal _ _ (mark-legal u few b.mark) (more-legal _ _ (value-legal (bytes_in u b.part)) none-legal)

  typed-legal : Legals (type_tokens u b)
  unfolding type_tokens
  typed-legal =
      more-legal _ _ (type-legal b.type_number m.type)
      (chosen Legals (is_named b.type_number) (λ _. more-legal _ _ (mark-legal u few b.mark) none-legal) (λ _. none-legal))

  marked-legal : Legals (marked_tokens u b)
  unfolding marked_tokens
  marked-legal =
      chosen Legals (is_format b.kind) (λ _. format-legal)
      (λ _. chosen Legals (is_type b.kind) (λ _. typed-legal)
      (λ _. chosen Legals (is_any b.kind)
      (λ _. more-legal _ _ (len-legal b.length.0 length-fits) (more-legal _ _ (values-legal (bytes_in u b.part)) none-legal)) (λ _. none-legal)))

  content-legal : Legals (content_tokens u b)
  unfolding content_tokens
  content-legal =
      chosen Legals (is_deleted b.kind) (λ _. more-legal _ _ (len-legal b.length.0 length-fits) none-legal)
      (λ _. chosen Legals (is_binary b.kind) (λ _. buf-legal (bytes_in u b.part))
      (λ _. chosen Legals (is_text b.kind) (λ _. more-legal _ _ (text-legal (bytes_in u b.part) b.length.0 length-fits) none-legal) (λ _. marked-legal)))

  pub block-legal : Legals (block_tokens u b)
  unfolding block_tokens
  block-legal =
      chosen Legals (is_gc b.kind)
      (λ _. more-legal _ _ (info-legal 0 (omega arith)) (more-legal _ _ (len-legal b.length.0 length-fits) none-legal))
      (λ _. chosen Legals (is_skip b.kind) (λ _. more-legal _ _ (info-legal 10 (omega arith)) (var-legal b.length.0 [] none-legal))
      (λ _. chosen Legals (is_item b.kind)
      (λ _. more-legal _ _ (info-legal (info_byte b) (info-byte b)) (legal-append (place_tokens u b) (content_tokens u b) place-legal content-legal))
      (λ _. none-legal)))

-- ---- a piece of a row

pub record Lies (p : Piece) : Type 0 where
  pub from : p.from ≤ p.row.length.0
  pub to : p.to ≤ p.row.length.0

modest-id : (there : Bool) (i : Id) → SoundId there i → ModestId i
modest-id there i s = record { client = s.client; clock = s.clock }

no-id : ModestId no_id
no-id = record { client = omega arith; clock = omega arith }

module _ (u : List ℕ) (p : Piece) (sound : Sound u p.row) (lies : Lies p) where
  before-modest : ModestId (id_before p)
  before-modest =
      chosen ModestId (is_item p.row.kind)
      (λ _. record { client = sound.client; clock = omega (arith, sound.end, lies.from) })
      (λ _. no-id)

  row_type : p.row.type_number ≤ max_value
  row_type = go (is_type p.row.kind) refl
    where
      go : (t : Bool) → is_type p.row.kind ≡ t → p.row.type_number ≤ max_value
      go true e = omega (arith, (sound.stored.type (eqb-true p.row.kind TYPE e)).1)
      go false e = omega (arith, sound.stored.untyped e)

  row-modest : Modest p.row
  row-modest =
      record {
        left = modest-id _ _ sound.left;
        right = modest-id _ _ sound.right;
        parent = modest-id _ _ sound.parent;
        length = omega (arith, sound.end);
        type = row_type;
      }

  short-modest : Modest (shortened u p)
  short-modest = record { left = row-modest.left; right = row-modest.right; parent = row-modest.parent; length = omega (arith, sound.end, lies.to); type = row_type }

  later-modest : Modest (begun_later u p)
  later-modest = record { left = before-modest; right = row-modest.right; parent = no-id; length = omega (arith, sound.end, lies.to); type = row_type }

  pub cut-modest : Modest (cut_row u p)
  unfolding cut_row
  cut-modest = chosen Modest (is_whole p) (λ _. row-modest) (λ _. chosen Modest (eqb p.from 0) (λ _. short-modest) (λ _. later-modest))

-- ---- sections

whole-lies : (ps : List Piece) → All Whole ps → All Lies ps
whole-lies [] w = tt
whole-lies (p ∷ ps) w = (record { from = omega (arith, w.0.from); to = omega (arith, w.0.to) }, whole-lies ps w.1)

pieces-lie : (ps : List Piece) → Pieces ps → All Lies ps
unfolding Pieces
pieces-lie [] h = absurd h
pieces-lie (p ∷ ps) h = (record { from = h.0.from; to = omega (arith, h.0.to) }, whole-lies ps h.1)

module _ (u : List ℕ) (few : length u ≤ max_update) where
  pieces-legal : (ps : List Piece) → All Lies ps → All (Sound u) (rows_of ps) → Legals (pieces_tokens u ps)
  unfolding pieces_tokens
  pieces-legal [] l s = none-legal
  pieces-legal (p ∷ ps) l s =
      legal-append (block_tokens u (cut_row u p)) (pieces_tokens u ps)
      (block-legal u few (cut_row u p) (cut-modest u p s.0 l.0)) (pieces-legal ps l.1 s.1)

  client-fits : (c : ℕ) (ps : List Piece) → Pieces ps → All (λ (b : Block). b.client ≡ c) (rows_of ps) → All (Sound u) (rows_of ps) → c ≤ max_value
  unfolding Pieces
  client-fits c [] h e s = absurd h
  client-fits c (p ∷ ps) h e s = omega (arith, e.0, s.0.client)

  section-legal : (s : Section) → SoundSection u s → Legals (section_tokens u s)
  unfolding section_tokens
  section-legal s h =
      var-legal (length s.pieces) _
      (more-legal _ _ (client-legal s.client (client-fits s.client s.pieces h.pieces h.client h.sound))
      (var-legal (section_start s.pieces) _ (pieces-legal s.pieces (pieces-lie s.pieces h.pieces) h.sound)))

  pub sections-legal : (ss : List Section) → All (SoundSection u) ss → Legals (sections_tokens u ss)
  unfolding sections_tokens
  sections-legal [] h = none-legal
  sections-legal (s ∷ ss) h = legal-append (section_tokens u s) (sections_tokens u ss) (section-legal s h.0) (sections-legal ss h.1)

-- ---- the delete set: numbers that have no column

module _ (form : ℕ) where
  ranges-legal : (rs : List Range) (end : ℕ) → Legals (ranges_tokens form end rs)
  unfolding ranges_tokens
  ranges-legal [] end = none-legal
  ranges-legal (r ∷ rs) end = var-legal (clock_from form end r) _ (var-legal (length_of form r) _ (ranges-legal rs (r.clock + r.len)))

  clients-legal : (gs : List (List Range)) → Legals (client_tokens form gs)
  unfolding client_tokens
  clients-legal [] = none-legal
  clients-legal ([] ∷ gs) = clients-legal gs
  clients-legal ((r ∷ rs) ∷ gs) =
      var-legal r.client _ (var-legal (length (r ∷ rs)) _
      (legal-append (ranges_tokens form 0 (r ∷ rs)) (client_tokens form gs) (ranges-legal (r ∷ rs) 0) (clients-legal gs)))

  pub deletes-legal : (rs : List Range) → Legals (delete_tokens form rs)
  unfolding delete_tokens
  deletes-legal rs = var-legal (length (groups owner_of rs)) _ (clients-legal (groups owner_of rs))

  -- ---- all of it

  pub legal-diff : (u : List ℕ) (v : List Entry) (bs : List Block) (rs : List Range) → length u ≤ max_update → All (Sound u) bs → Ordered bs
      → legal_all (update_tokens form u (sections_of v bs) rs) ≡ true
  unfolding update_tokens
  legal-diff u v bs rs few sound ordered =
      var-legal (length (sections_of v bs)) _
      (legal-append (sections_tokens u (sections_of v bs)) (delete_tokens form rs)
      (sections-legal u few (sections_of v bs) (sections-sound v bs ordered u sound)) (deletes-legal rs))
