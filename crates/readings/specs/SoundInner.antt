-- Beside Sound: what inner functions say and proofs need. No promise comes to it.
use Rattle.std.specs.Prelude.{ℕ, ◌+◌, ◌≤◌, ◌<◌, ◌≡◌, ◌⊎◌, ◌≢◌, Bool, true, false, List, [], ◌∷◌, eqb, length}
use Rattle.numbers.specs.Number.{pick}
use Rattle.numbers.specs.Limits.{max_clock, max_value}
use Rattle.text.specs.declared.Part.{Part}
use Rattle.text.specs.Utf8.{well_formed, units_of}
use Rattle.block.specs.declared.Id.{Id}
use Rattle.block.specs.declared.Block.{Block}
use Rattle.block.specs.Row.{no_id, no_part, left_id, right_id, parent_id}
use Rattle.block.specs.Kinds.{BINARY, TEXT, FORMAT, TYPE, ANY, is_type, is_item, max_type}
use Rattle.block.specs.KindsInner.{is_block, has_part, is_marked}
use Rattle.anys.specs.declared.Skipped.TheVariants.{At}
use Rattle.anys.specs.Any.{anys}
use Rattle.readings.specs.Sound.{All, bytes_in, linked}

-- ---- a part and an id

abbrev pub Lies : List ℕ → Part → Type 0
Lies u p = p.place + p.bytes.0 ≤ length u

pub record SoundId (there : Bool) (i : Id) : Type 0 where
  pub client : i.client ≤ max_value
  pub clock : i.clock ≤ max_clock
  pub absent : there ≡ false → i ≡ no_id

pub record SoundText (u : List ℕ) (there : Bool) (p : Part) : Type 0 where
  pub lies : Lies u p
  pub formed : well_formed (bytes_in u p) ≡ true
  pub absent : there ≡ false → p ≡ no_part

-- ---- a block

-- GC and Skip have nothing beside their length; an item has ids beside it, or else a parent, by name or by id, and perhaps a key
pub record Shape (b : Block) : Type 0 where
  pub bare : is_item b.kind ≡ false → (linked b ≡ false) × (b.has_parent ≡ false) × (b.has_name ≡ false) × (b.has_key ≡ false)
  pub rootless : is_item b.kind ≡ true → linked b ≡ true → (b.has_parent ≡ false) × (b.has_name ≡ false) × (b.has_key ≡ false)
  pub rooted : is_item b.kind ≡ true → linked b ≡ false → b.has_name ≡ pick b.has_parent false true

-- so many plain values are a part, which ends where they end; an unknown kind among them would be blamed anywhere
abbrev pub AreValues : List ℕ → ℕ → Part → Type 0
AreValues u n p = anys u 0 n p.place ≡ At (p.place + p.bytes.0)

-- a part where the kind has one
pub record Stored (u : List ℕ) (b : Block) : Type 0 where
  pub lies : Lies u b.part
  pub nothing : has_part b.kind ≡ false → b.part ≡ no_part
  pub binary : b.kind ≡ BINARY → b.length.0 ≡ 1
  pub format : b.kind ≡ FORMAT → b.length.0 ≡ 1
  pub type : b.kind ≡ TYPE → (b.length.0 ≡ 1) × (b.type_number ≤ max_type)
  pub untyped : is_type b.kind ≡ false → b.type_number ≡ 0
  pub any : b.kind ≡ ANY → AreValues u b.length.0 b.part
  pub text : b.kind ≡ TEXT → (well_formed (bytes_in u b.part) ≡ true) × (units_of (bytes_in u b.part) ≡ b.length.0)
  pub some : is_item b.kind ≡ true → 0 < b.length.0

pub record Sound (u : List ℕ) (b : Block) : Type 0 where
  pub client : b.client ≤ max_value
  pub end : b.clock + b.length.0 ≤ max_clock
  pub kind : is_block b.kind ≡ true
  pub left : SoundId b.has_left (left_id b)
  pub right : SoundId b.has_right (right_id b)
  pub parent : SoundId b.has_parent (parent_id b)
  pub name : SoundText u b.has_name b.name
  pub key : SoundText u b.has_key b.key
  pub mark : SoundText u (is_marked b.kind b.type_number) b.mark
  pub shape : Shape b
  pub stored : Stored u b

-- the value of a format, as the form of the update has it: a text in form 1, one plain value in form 2
pub record Valued (form : ℕ) (u : List ℕ) (b : Block) : Type 0 where
  pub text : b.kind ≡ FORMAT → eqb form 1 ≡ true → well_formed (bytes_in u b.part) ≡ true
  pub value : b.kind ≡ FORMAT → eqb form 1 ≡ false → AreValues u 1 b.part

-- ---- blocks in a row

-- a block starts where its client's block before it ended
unfoldable pub Follows : Block → List Block → Type 0
Follows b [] = Unit {0}
Follows b (c ∷ cs) = c.client ≡ b.client → c.clock ≡ b.clock + b.length.0

-- a client's blocks stand together
unfoldable pub Stays : Block → List Block → Type 0
Stays b [] = Unit {0}
Stays b (c ∷ cs) = (c.client ≡ b.client) ⊎ All (λ (d : Block). d.client ≢ b.client) (c ∷ cs)

unfoldable pub Ordered : List Block → Type 0
Ordered [] = Unit {0}
Ordered (b ∷ bs) = Follows b bs × Stays b bs × Ordered bs

-- blocks of one client, each starting where the one before ended
unfoldable pub Adjoins : Block → List Block → Type 0
Adjoins b [] = Unit {0}
Adjoins b (c ∷ cs) = (c.client ≡ b.client) × (c.clock ≡ b.clock + b.length.0)

unfoldable pub Chain : List Block → Type 0
Chain [] = Unit {0}
Chain (b ∷ bs) = Adjoins b bs × Chain bs
