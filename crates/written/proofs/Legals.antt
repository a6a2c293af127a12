-- The tokens of a writable record can be written and read again.
use Prim.Native.Nat.{ℕ, ◌+◌, ◌≤◌}
use mathlib.Core.Path.{◌≡◌, refl}
use mathlib.Core.Bool.{Bool, true, false}
use mathlib.Core.List.{List, [], ◌∷◌, ◌++◌}
use native.Mathlib.Omega.{arith}
use lib.ListN.{length, take, length-take, length-drop}
use borrow.Author.Tests.{eqb-true}
use Rattle.numbers.specs.Number.{pick}
use Rattle.numbers.specs.Limits.{max_update}
use Rattle.text.specs.declared.Part.{Part}
use Rattle.text.specs.Utf8.{well_formed, units_of, counted_in}
use Rattle.text.proofs.Laws.{units-le-bytes}
use Rattle.block.specs.declared.Id.{Id}
use Rattle.block.specs.declared.Block.{Block}
use Rattle.block.specs.Row.{left_id, right_id, parent_id}
use Rattle.block.specs.Kinds.{TEXT, FORMAT, TYPE, ANY, is_gc, is_skip, is_deleted, is_binary, is_text, is_format, is_type, is_any, is_item, is_named}
use Rattle.readings.specs.Sound.{bytes_in, linked}
use Rattle.readings.specs.SoundInner.{SoundId, Sound, Valued}
use Rattle.readings.proofs.Columns.{chosen}
use Rattle.tokens.specs.Tokens.{Token, client, left, right, info, parent_info, text, len, var, buf, value, values}
use Rattle.draws.specs.Draws.{most, is_field, LegalText, LegalValue, Legal, AllLegal}
use Rattle.records.specs.Records.{info_byte, name, left_tokens, right_tokens, parent_tokens, key_tokens, place_tokens, mark, format_tokens, type_tokens, marked_tokens, content_tokens, block_tokens}
use Rattle.written.specs.Written.{keyless, reread, Writable}
use Rattle.written.proofs.Infos.{info-says}
use Rattle.written.proofs.Values.{values-all}
use Rattle.written.proofs.Holdings.{Holding, reread-holds}

module _ (form : ℕ) where
  abbrev pub Fit : List Token → Type 0
  Fit ts = AllLegal form ts

  pub legal-append : (xs ys : List Token) → AllLegal form xs → AllLegal form ys → AllLegal form (xs ++ ys)
  unfolding AllLegal
  legal-append [] ys g h = h
  legal-append (x ∷ xs) ys g h = (g.0, legal-append xs ys g.1 h)

  pub none-legal : AllLegal form []
  unfolding AllLegal
  none-legal = tt

-- ---- parts of an update

module _ (form : ℕ) (u : List ℕ) (few : length u ≤ max_update) where
  part_length : (p : Part) → length (bytes_in u p) ≤ length u
  unfolding bytes_in
  part_length p = omega (arith, length-drop p.place (take (p.place + p.bytes.0) u), length-take (p.place + p.bytes.0) u)

  text-legal : (p : Part) (n : ℕ) → well_formed (bytes_in u p) ≡ true → units_of (bytes_in u p) ≡ n → LegalText (bytes_in u p) n
  text-legal p n w e = (w, e, omega (arith, part_length p, units-le-bytes (bytes_in u p)))

  counted-legal : (p : Part) → well_formed (bytes_in u p) ≡ true → LegalText (bytes_in u p) (counted_in (bytes_in u p)).units.0
  unfolding counted_in
  counted-legal p w = text-legal p (counted_in (bytes_in u p)).units.0 w (rw w)

  name-legal : (p : Part) → well_formed (bytes_in u p) ≡ true → Legal form (name u p)
  unfolding Legal
  name-legal p w = counted-legal p w

  mark-legal : (p : Part) → well_formed (bytes_in u p) ≡ true → Legal form (mark u p)
  unfolding Legal
  mark-legal p w = counted-legal p w

  buf-legal : (p : Part) → Legal form (buf (bytes_in u p))
  unfolding Legal
  buf-legal p = omega (arith, part_length p)

  -- ---- a block

  module _ (b : Block) where
    left-legal : (there : Bool) (i : Id) → SoundId there i → AllLegal form (client i.client ∷ (left i.clock ∷ []))
    unfolding AllLegal Legal is_field most
    left-legal there i sound = ((refl, sound.client), ((refl, sound.clock), tt))

    right-legal : (there : Bool) (i : Id) → SoundId there i → AllLegal form (client i.client ∷ (right i.clock ∷ []))
    unfolding AllLegal Legal is_field most
    right-legal there i sound = ((refl, sound.client), ((refl, sound.clock), tt))

    ids-legal : SoundId b.has_left (left_id b) → SoundId b.has_right (right_id b) → AllLegal form (left_tokens b ++ right_tokens b)
    unfolding left_tokens right_tokens
    ids-legal l r =
        legal-append form (left_tokens b) (right_tokens b)
        (chosen (Fit form) b.has_left (λ _. left-legal b.has_left (left_id b) l) (λ _. none-legal form))
        (chosen (Fit form) b.has_right (λ _. right-legal b.has_right (right_id b) r) (λ _. none-legal form))

    named-legal : well_formed (bytes_in u b.name) ≡ true → AllLegal form (parent_info 1 ∷ (name u b.name ∷ []))
    unfolding AllLegal Legal is_field most
    named-legal w = ((refl, omega arith), (name-legal b.name w, tt))

    parent-legal : SoundId b.has_parent (parent_id b) → AllLegal form (parent_info 0 ∷ (client b.parent_client ∷ (left b.parent_clock ∷ [])))
    unfolding AllLegal Legal is_field most
    parent-legal sound = ((refl, omega arith), left-legal b.has_parent (parent_id b) sound)

    key-legal : well_formed (bytes_in u b.key) ≡ true → AllLegal form (key_tokens u b)
    unfolding key_tokens AllLegal
    key-legal w = chosen (Fit form) b.has_key (λ _. (name-legal b.key w, tt)) (λ _. tt)

    root-legal : Sound u b → AllLegal form (parent_tokens u b ++ key_tokens u b)
    unfolding parent_tokens
    root-legal sound =
        legal-append form (parent_tokens u b) (key_tokens u b)
        (chosen (Fit form) b.has_name (λ _. named-legal sound.name.formed) (λ _. parent-legal sound.parent)) (key-legal sound.key.formed)

    -- what of it is spelled stands in the record as it is reread
    place-legal : Sound u (reread b) → AllLegal form (place_tokens u b)
    unfolding reread place_tokens
    place-legal sound = go (linked b) sound
      where
        go : (x : Bool) → Sound u (pick x (keyless b) b) → AllLegal form (pick x (left_tokens b ++ right_tokens b) (parent_tokens u b ++ key_tokens u b))
        go true w = ids-legal w.left w.right
        go false w = root-legal w

    -- ---- its length and its content

    module _ (f : Holding u b) where
      length-legal : AllLegal form (len b.length.0 ∷ [])
      unfolding AllLegal Legal is_field most
      length-legal = ((refl, omega (arith, f.end)), tt)

      string-legal : b.kind ≡ TEXT → AllLegal form (text (bytes_in u b.part) b.length.0 ∷ [])
      unfolding AllLegal Legal
      string-legal e = let t = f.stored.text e in (text-legal b.part b.length.0 t.0 t.1, tt)

      -- its value as the form has it
      value-legal : Valued form u b → b.kind ≡ FORMAT → Legal form (value (bytes_in u b.part))
      unfolding Legal LegalValue
      value-legal v e =
          (λ one. (v.text e one, omega (arith, part_length b.part)), λ two. values-all u 1 b.part f.stored.lies (v.value e two))

      format-legal : Valued form u b → b.kind ≡ FORMAT → AllLegal form (format_tokens u b)
      unfolding format_tokens AllLegal
      format-legal v e = (mark-legal b.mark f.mark.formed, (value-legal v e, tt))

      node-legal : AllLegal form (pick (is_named b.type_number) (mark u b.mark ∷ []) [])
      unfolding AllLegal
      node-legal = chosen (Fit form) (is_named b.type_number) (λ _. (mark-legal b.mark f.mark.formed, tt)) (λ _. tt)

      type-legal : b.kind ≡ TYPE → AllLegal form (type_tokens u b)
      unfolding type_tokens AllLegal Legal is_field most
      type-legal e = ((refl, omega (arith, (f.stored.type e).1)), node-legal)

      list-legal : b.kind ≡ ANY → AllLegal form (len b.length.0 ∷ (values (bytes_in u b.part) ∷ []))
      unfolding AllLegal Legal is_field most
      list-legal e = ((refl, omega (arith, f.end)), ((b.length.0, values-all u b.length.0 b.part f.stored.lies (f.stored.any e)), tt))

      marked-legal : Valued form u b → AllLegal form (marked_tokens u b)
      unfolding marked_tokens
      marked-legal v =
          chosen (Fit form) (is_format b.kind) (λ e. format-legal v (eqb-true b.kind FORMAT e))
          (λ _. chosen (Fit form) (is_type b.kind) (λ e. type-legal (eqb-true b.kind TYPE e))
          (λ _. chosen (Fit form) (is_any b.kind) (λ e. list-legal (eqb-true b.kind ANY e)) (λ _. none-legal form)))

      content-legal : Valued form u b → AllLegal form (content_tokens u b)
      unfolding content_tokens AllLegal
      content-legal v =
          chosen (Fit form) (is_deleted b.kind) (λ _. length-legal)
          (λ _. chosen (Fit form) (is_binary b.kind) (λ _. (buf-legal b.part, tt))
          (λ _. chosen (Fit form) (is_text b.kind) (λ e. string-legal (eqb-true b.kind TEXT e)) (λ _. marked-legal v)))

      gc-legal : AllLegal form (info 0 ∷ (len b.length.0 ∷ []))
      unfolding AllLegal Legal is_field most
      gc-legal = ((refl, omega arith), length-legal)

      skip-legal : AllLegal form (info 10 ∷ (var b.length.0 ∷ []))
      unfolding AllLegal Legal is_field most
      skip-legal = ((refl, omega arith), (omega (arith, f.end), tt))

    item-legal : Writable form u b → is_item b.kind ≡ true → AllLegal form (info (info_byte b) ∷ (place_tokens u b ++ content_tokens u b))
    unfolding AllLegal Legal is_field most
    item-legal w l = (
      (refl, (info-says b l).byte),
      legal-append form (place_tokens u b) (content_tokens u b) (place-legal w.0) (content-legal (reread-holds u b w.0) w.1),
    )

    pub block-legal : Writable form u b → AllLegal form (block_tokens u b)
    unfolding block_tokens
    block-legal w =
        let f = reread-holds u b w.0 in
        chosen (Fit form) (is_gc b.kind) (λ _. gc-legal f)
        (λ _. chosen (Fit form) (is_skip b.kind) (λ _. skip-legal f)
        (λ _. chosen (Fit form) (is_item b.kind) (item-legal w) (λ _. none-legal form)))
