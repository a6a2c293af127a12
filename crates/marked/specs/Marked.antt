-- The tokens of the contents that have a mark, a type number or plain values: a format, a type, a list of plain values. Parts are in u.
use Rattle.std.specs.Prelude.{ℕ, List, [], ◌∷◌}
use Rattle.numbers.specs.Number.{pick}
use Rattle.text.specs.declared.Part.{Part}
use Rattle.text.specs.Utf8.{counted_in}
use Rattle.block.specs.declared.Block.{Block}
use Rattle.block.specs.Kinds.{is_format, is_type, is_any, is_named}
use Rattle.readings.specs.Sound.{bytes_in}
use Rattle.tokens.specs.Tokens.{Token, len, key, value, values}
use Rattle.tokens.specs.TokensInner.{type_number}

-- a mark's key, or a node name
abbrev pub mark : List ℕ → Part → Token
mark u p = key (bytes_in u p) (counted_in (bytes_in u p)).units.0

unfoldable pub format_tokens : List ℕ → Block → List Token
format_tokens u b = mark u b.mark ∷ (value (bytes_in u b.part) ∷ [])

unfoldable pub type_tokens : List ℕ → Block → List Token
type_tokens u b = type_number b.type_number ∷ pick (is_named b.type_number) (mark u b.mark ∷ []) []

-- of a format, a type, a list of plain values
unfoldable pub marked_tokens : List ℕ → Block → List Token
marked_tokens u b =
    pick (is_format b.kind) (format_tokens u b)
    (pick (is_type b.kind) (type_tokens u b) (pick (is_any b.kind) (len b.length.0 ∷ (values (bytes_in u b.part) ∷ [])) []))
