-- The runs of a column stand in a row: a value is drawn from the run of the value before it, or from one that begins where that run's bytes ended.
use Rattle.std.specs.Prelude.{ℕ, ◌+◌, ◌≤◌, ◌<◌, ◌≡◌, ◌⊎◌, List, length}
use Rattle.columns.specs.declared.number.Place as number-place
use Rattle.columns.specs.declared.number.Answer as number-answer
use Rattle.columns.specs.declared.number.Answer.TheVariants as number
use Rattle.columns.specs.declared.difference.Place as difference-place
use Rattle.columns.specs.declared.difference.Answer as difference-answer
use Rattle.columns.specs.declared.difference.Answer.TheVariants as difference
use Rattle.columns.specs.declared.byte.Place as byte-place
use Rattle.columns.specs.declared.byte.Answer as byte-answer
use Rattle.columns.specs.declared.byte.Answer.TheVariants as byte
use Rattle.string.specs.declared.Place as string-place
use Rattle.string.specs.declared.Answer as string-answer
use Rattle.string.specs.declared.Answer.TheVariants as string

-- a run's bytes go from `from` to `at`; those of the next draw, within the n bytes of the column
abbrev pub Follows : ℕ → ℕ → ℕ → ℕ → ℕ → Type 0
Follows n from at from₁ at₁ = (((from₁ ≡ from) × (at₁ ≡ at)) ⊎ ((from₁ ≡ at) × (at < at₁))) × (at₁ ≤ n)

unfoldable pub NumberFollows : List ℕ → number-place.Place → number-answer.Answer → Type 0
NumberFollows s c (number.Next v p) = Follows (length s) c.from c.at p.from p.at
NumberFollows s c (number.Bad why) = Unit {0}

unfoldable pub DifferenceFollows : List ℕ → difference-place.Place → difference-answer.Answer → Type 0
DifferenceFollows s c (difference.Next v p) = Follows (length s) c.from c.at p.from p.at
DifferenceFollows s c (difference.Bad why) = Unit {0}

unfoldable pub ByteFollows : List ℕ → byte-place.Place → byte-answer.Answer → Type 0
ByteFollows s c (byte.Next v p) = Follows (length s) c.from c.at p.from p.at
ByteFollows s c (byte.Bad why) = Unit {0}

-- a text's bytes begin where those of the text before ended; its units follow as numbers do
unfoldable pub TextFollows : List ℕ → string-place.Place → string-answer.Answer → Type 0
TextFollows s c (string.Next t p) =
    (t.place ≡ c.at) × (p.at ≡ t.place + t.bytes.0) × Follows (length s) c.units.from c.units.at p.units.from p.units.at
TextFollows s c (string.Bad why) = Unit {0}
