-- That a block, a section, the delete set and an update are put down as they always have been.
use Prim.Native.Nat.{ℕ, ◌+◌, ◌-◌}
use mathlib.Core.Path.{◌≡◌, refl, sym}
use mathlib.Core.Bool.{Bool, true, false, cond, ◌&&◌, ◌||◌}
use mathlib.Core.List.{List, [], ◌∷◌, map}
use lib.Dec.{ltb, eqb}
use lib.ListN.{length, length-map}
use Rattle.numbers.specs.Number.{pick, unsigned}
use Rattle.text.specs.declared.Part.{Part}
use Rattle.text.specs.Utf8 as utf8
use Rattle.text.specs.Utf8.{well_formed, units_of, counted_in}
use Rattle.block.specs.declared.Block.{Block}
use Rattle.block.specs.Kinds.{is_named}
use Rattle.block.specs.KindsInner.{content_number}
use Rattle.ranges.specs.Ranges.{Range}
use Rattle.readings.specs.Groups.{groups}
use Rattle.readings.specs.Sound.{bytes_in, linked}
use Rattle.kept.specs.Cut.{cut_row}
use Rattle.tokens.specs.Tokens as tokens
use Rattle.tokens.specs.Tokens.{Token}
use Rattle.marked.specs.Marked.{format_tokens, type_tokens, marked_tokens}
use Rattle.records.specs.Records as records
use Rattle.records.specs.Records.{info_byte, left_tokens, right_tokens, parent_tokens, key_tokens, place_tokens, content_tokens, block_tokens}
use Rattle.records.specs.Records.{pieces_tokens, section_start, section_tokens, sections_tokens}
use Rattle.records.specs.Records.{clock_from, length_of, ranges_tokens, client_tokens, delete_tokens, update_tokens}
use Rattle.meaning.specs.Reads.{when◌then◌else◌}
use Rattle.meaning.specs.Line.{units, bytes_of}
use Rattle.meaning.proofs.Line.{both, units-same}
use Rattle.meaning_written.specs.Diff.{each, cut, Put, text, key, plain, units_in, place, content, block, section, range_puts, client_puts, update}
use Rattle.meaning_written.proofs.Kept.{piece_of, section_of, either}
use Rattle.meaning_written.proofs.Cut.{item-same, cut-same}
use Rattle.meaning_written.proofs.Puts.{lane_of, Is, Are, a-number, a-text, a_key, a-var, a-buf, a-value, some-values, none, more, append}

-- a choice that is made alike
on : (b : Bool) {ps qs : List Put} {ts us : List Token} → Are ts ps → Are us qs → Are (pick b ts us) (when b then ps else qs)
on b p q = both (λ ps ts. Are ts ps) b p q

-- a content's number, and what it holds
abbrev Holds : ℕ × List Put → List Token → ℕ → Type 0
Holds new ts n = (n ≡ new.0) × Are ts new.1

held : (b : Bool) {x y : ℕ × List Put} {ts us : List Token} {m n : ℕ} → Holds x ts m → Holds y us n → Holds (when b then x else y) (pick b ts us) (cond b m n)
unfolding when◌then◌else◌
held true p q = p
held false p q = q

bit-same : (b : Bool) (n : ℕ) → records.bit b n ≡ (when b then n else 0)
unfolding when◌then◌else◌
bit-same true n = refl
bit-same false n = refl

-- ---- a block

module _ (u : List ℕ) where
  units_in_lem : (p : Part) → (counted_in (bytes_in u p)).units.0 ≡ units_in u p
  unfolding counted_in bytes_in when◌then◌else◌
  units_in_lem p = go (well_formed (bytes_of u p)) refl
    where
      go : (b : Bool) → well_formed (bytes_of u p) ≡ b → utf8.pick b (units_of (bytes_of u p)) 0 ≡ (when b then units (bytes_of u p) else 0)
      go true h = sym (units-same (bytes_of u p) h)
      go false h = refl

  a-name : (p : Part) → Is (records.name u p) (text (bytes_of u p) (units_in u p))
  unfolding bytes_in
  a-name p = rw (units_in_lem p) (a-text (bytes_of u p) (units_in u p))

  a-mark : (p : Part) → Is (records.mark u p) (key (bytes_of u p) (units_in u p))
  unfolding bytes_in
  a-mark p = rw (units_in_lem p) (a_key (bytes_of u p) (units_in u p))

  place_same : (b : Block) → Are (place_tokens u b) (place u b)
  unfolding place_tokens linked left_tokens right_tokens parent_tokens key_tokens place lane_of
  place_same b =
      rw (either b.has_left b.has_right)
      (on (b.has_left || b.has_right)
      (append (on b.has_left (more (a-number 1 b.left_client) (more (a-number 2 b.left_clock) none)) none)
      (on b.has_right (more (a-number 1 b.right_client) (more (a-number 3 b.right_clock) none)) none))
      (append (on b.has_name (more (a-number 6 1) (more (a-name b.name) none))
      (more (a-number 6 0) (more (a-number 1 b.parent_client) (more (a-number 2 b.parent_clock) none))))
      (on b.has_key (more (a-name b.key) none) none)))

  content-same : (b : Block) → Holds (content u b) (content_tokens u b) (content_number b.kind)
  unfolding content content_tokens marked_tokens format_tokens type_tokens content_number is_named bytes_in lane_of
  content-same b =
      let n : ℕ = b.length.0 in
      let stored : List ℕ = bytes_of u b.part in
      let type : ℕ = b.type_number in
      held (eqb b.kind 3) (refl, more (a-number 8 n) none)
      (held (eqb b.kind 4) (refl, more (a-buf stored) none)
      (held (eqb b.kind 5) (refl, more (a-text stored n) none)
      (held (eqb b.kind 6) (refl, more (a-mark b.mark) (more (a-value stored) none))
      (held (eqb b.kind 7) (refl, more (a-number 7 type) (on (eqb type 3 || eqb type 5) (more (a-mark b.mark) none) none))
      (held (eqb b.kind 8) (refl, more (a-number 8 n) (more (some-values stored) none)) (refl, none))))))

  block_same : (b : Block) → Are (block_tokens u b) (block u b)
  unfolding block_tokens block info_byte lane_of
  block_same b =
      let n : ℕ = b.length.0 in
      on (eqb b.kind 1) (more (a-number 4 0) (more (a-number 8 n) none))
      (on (eqb b.kind 2) (more (a-number 4 10) (more (a-var n) none))
      (rw (item-same b.kind, (content-same b).0, bit-same b.has_left 128, bit-same b.has_right 64, bit-same b.has_key 32)
      (on (ltb 2 b.kind && ltb b.kind 9) (more (a-number 4 _) (append (place_same b) (content-same b).1)) none)))

  -- ---- a section

  pieces-same : (ps : List (Block × ℕ)) → Are (pieces_tokens u (map piece_of ps)) (each (block u) (map (cut u) ps))
  unfolding pieces_tokens each
  pieces-same [] = none
  pieces-same (p ∷ ps) = rw (← cut-same u p) (append (block_same (cut_row u (piece_of p))) (pieces-same ps))

  section-same : (s : ℕ × List (Block × ℕ)) → Are (section_tokens u (section_of s)) (section u s)
  unfolding section_tokens section_start section lane_of
  section-same s =
      rw (length-map s.1 piece_of, length-map s.1 (cut u))
      (more (a-var (length s.1)) (more (a-number 1 s.0) (more (go s.1) (pieces-same s.1))))
    where
      go : (ps : List (Block × ℕ)) → Is (tokens.var (section_start (map piece_of ps))) (plain (unsigned (elim ps [ [] ↦ 0 | p ∷ qs ↦ p.0.clock + p.1 ])))
      go [] = a-var 0
      go (p ∷ ps) = a-var (p.0.clock + p.1)

  sections-put : (ss : List (ℕ × List (Block × ℕ))) → Are (sections_tokens u (map section_of ss)) (each (section u) ss)
  unfolding sections_tokens each
  sections-put [] = none
  sections-put (s ∷ ss) = append (section-same s) (sections-put ss)

-- ---- the delete set

a-choice : (b : Bool) (m n : ℕ) → Is (tokens.var (pick b m n)) (plain (unsigned (when b then m else n)))
a-choice b m n = both (λ new old. Is (tokens.var old) (plain (unsigned new))) b (a-var m) (a-var n)

ranges-same : (form end : ℕ) (rs : List Range) → Are (ranges_tokens form end rs) (range_puts form end rs)
unfolding ranges_tokens clock_from length_of range_puts
ranges-same form end [] = none
ranges-same form end (r ∷ rs) =
    more (a-choice (eqb form 1) r.clock (r.clock - end)) (more (a-choice (eqb form 1) r.len (r.len - 1)) (ranges-same form (r.clock + r.len) rs))

clients-same : (form : ℕ) (gs : List (List Range)) → Are (client_tokens form gs) (each (client_puts form) gs)
unfolding client_tokens client_puts each
clients-same form [] = none
clients-same form ([] ∷ gs) = clients-same form gs
clients-same form ((r ∷ rs) ∷ gs) =
    more (a-var r.client) (more (a-var (length (r ∷ rs))) (append (ranges-same form 0 (r ∷ rs)) (clients-same form gs)))

-- ---- an update

pub update_same : (form : ℕ) (u : List ℕ) (ss : List (ℕ × List (Block × ℕ))) (rs : List Range)
    → Are (update_tokens form u (map section_of ss) rs) (update form u ss rs)
unfolding update_tokens delete_tokens update
update_same form u ss rs =
    let gs = groups (λ (r : Range). r.client) rs in
    rw (length-map ss section_of) (more (a-var (length ss)) (append (sections-put u ss) (more (a-var (length gs)) (clients-same form gs))))
