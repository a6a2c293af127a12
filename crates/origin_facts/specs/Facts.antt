-- What a line says of its value's base, of its run and of its bytes.
use Rattle.std.specs.Prelude.{ℕ, ◌+◌, ◌≤◌, ◌≡◌, ◌⊎◌, List, [], ◌∷◌, false, get_or, take}
use Rattle.numbers.specs.declared.Read.TheVariants as read
use Rattle.numbers.specs.Number.{read_unsigned, read_signed}
use Rattle.grammar.specs.Grammar as grammar
use Rattle.grammar.specs.Grammar.{Number, Field}
use Rattle.grammar.specs.Course.{Drawn, got, not}
use Rattle.decoder.specs.States.{Numbers, Differences, Octets, Texts, State}
use Rattle.origins.specs.declared.Stand.{Stand}
use Rattle.origins.specs.declared.Rise.{Rise}
use Rattle.origins.specs.declared.Line.{Line}
use Rattle.origins.specs.Origins.{no_rise, number_times, difference_times, byte_times}

abbrev pub All : {A : Type 0} → (A → Type 0) → List A → Type 0
All P [] = Unit {0}
All P (a ∷ rest) = P a × All P rest

-- of what was drawn, and where reading stands then
unfoldable pub On : {S X : Type 0} → (X → S → Type 0) → Drawn S X → Type 0
On P (got a t) = P a t
On P (not why) = Unit {0}

-- ---- a base and a difference

-- the value is its base plus or minus the difference
abbrev pub Sums : ℕ → Rise → Type 0
Sums v r = ((r.sign ≡ 1) × (v ≡ r.base + r.size)) ⊎ ((r.sign ≡ 2) × (v + r.size ≡ r.base))

abbrev pub Summed : Line → Type 0
Summed l = Sums l.value l.rise

abbrev pub Plain : Line → Type 0
Plain l = l.rise ≡ no_rise

-- left and right clocks are differences, other numbers are none
unfoldable pub AddsAs : Number → Line → Type 0
AddsAs grammar.left_clock l = Summed l
AddsAs grammar.right_clock l = Summed l
AddsAs grammar.client l = Plain l
AddsAs grammar.info l = Plain l
AddsAs grammar.parent_info l = Plain l
AddsAs grammar.len l = Plain l
AddsAs grammar.type_number l = Plain l
AddsAs grammar.byte l = Plain l
AddsAs (grammar.up_to most) l = Plain l
AddsAs grammar.any l = Plain l
AddsAs (grammar.delete_clock end) l = Plain l
AddsAs grammar.delete_len l = Plain l

-- a key's number is one, its text none
unfoldable pub AddsFirst : List Line → Type 0
AddsFirst [] = ⊥
AddsFirst (l ∷ rest) = Summed l × All Plain rest

unfoldable pub Adds : Field → List Line → Type 0
Adds (grammar.number n) ls = All (AddsAs n) ls
Adds grammar.key ls = AddsFirst ls
Adds grammar.text ls = All Plain ls
Adds grammar.bytes ls = All Plain ls
Adds (grammar.value blame) ls = All Plain ls
Adds (grammar.values blame n) ls = All Plain ls

-- ---- a run

-- a value of a run is one of its values
unfoldable pub Numbered : Stand → Type 0
Numbered x = x.source ≡ 1 → (1 ≤ x.which) × (x.which ≤ x.of)

-- no more values are left of a run than it has
abbrev pub NumbersWithin : List ℕ → Numbers → Type 0
NumbersWithin u c = let s = take c.to u in c.place.count ≤ number_times s (read_signed s c.place.from)

abbrev pub DifferencesWithin : List ℕ → Differences → Type 0
DifferencesWithin u c = let s = take c.to u in c.place.count ≤ difference_times s (read_signed s c.place.from)

abbrev pub BytesWithin : List ℕ → Octets → Type 0
BytesWithin u c = c.place.endless ≡ false → c.place.count ≤ byte_times (take c.to u) c.place.from

abbrev pub TextsWithin : List ℕ → Texts → Type 0
TextsWithin u c = NumbersWithin u (record { place = c.place.units; to = c.to })

-- so it is in all columns
pub record Within (u : List ℕ) (s : State) : Type 0 where
  pub key : DifferencesWithin u s.key
  pub client : NumbersWithin u s.client
  pub left : DifferencesWithin u s.left
  pub right : DifferencesWithin u s.right
  pub info : BytesWithin u s.info
  pub text : TextsWithin u s.text
  pub parent : BytesWithin u s.parent
  pub types : NumbersWithin u s.types
  pub len : NumbersWithin u s.len

-- ---- bytes in line

-- a number's bytes, from its place on, as many as there are, are its spelling
abbrev pub Spells : List ℕ → ℕ → Stand → Type 0
Spells u v x = read_unsigned u x.place ≡ read.Number v (x.place + x.bytes)

-- an info byte is a byte
abbrev pub IsByte : List ℕ → ℕ → Stand → Type 0
IsByte u v x = (x.bytes ≡ 1) × (v ≡ get_or u x.place 0)

unfoldable pub SpeltIn : List ℕ → Number → ℕ → Stand → Type 0
SpeltIn u grammar.byte v x = IsByte u v x
SpeltIn u grammar.info v x = IsByte u v x
SpeltIn u (grammar.up_to most) v x = Spells u v x
SpeltIn u grammar.any v x = Spells u v x
SpeltIn u grammar.client v x = Spells u v x
SpeltIn u grammar.left_clock v x = Spells u v x
SpeltIn u grammar.right_clock v x = Spells u v x
SpeltIn u grammar.parent_info v x = Spells u v x
SpeltIn u grammar.len v x = Spells u v x
SpeltIn u (grammar.delete_clock end) v x = Spells u v x
SpeltIn u grammar.delete_len v x = Spells u v x
SpeltIn u grammar.type_number v x = Spells u v x

-- what leads stored bytes is the spelling of their length, and they begin behind it
abbrev pub Leads : List ℕ → Line → Type 0
Leads u l =
    let x = l.stand in
    (read_unsigned u x.place ≡ read.Number l.part.bytes.0 l.part.place) × (x.place + x.bytes ≡ l.part.place)
