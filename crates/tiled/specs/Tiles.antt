-- Draws in line tile the bytes that they are drawn from: one begins where the one before ended, and the line of each has its bytes, all of them and
-- no others.
use Rattle.std.specs.Prelude.{ℕ, ◌+◌, ◌≤◌, ◌≡◌, List, [], ◌∷◌}
use Rattle.grammar.specs.Grammar as grammar
use Rattle.grammar.specs.Grammar.{Field, Answer}
use Rattle.grammar.specs.Course.{CourseTo, thing, over, stopped}
use Rattle.origins.specs.declared.Line.{Line}
use Rattle.origins.specs.Origins.{line_at}
use Rattle.explainer.specs.Watch.{Seen, drew, kept}

-- the bytes from s to t: the number that leads stored bytes, if any, and these bytes
abbrev pub Stored : Line → ℕ → ℕ → Type 0
Stored l s t = (l.stand.place ≡ s) × (s + l.stand.bytes ≡ l.part.place) × (l.part.place + l.part.bytes.0 ≡ t)

-- the bytes from s to t: a number's own, or stored ones
unfoldable pub Has : Field → Line → ℕ → ℕ → Type 0
Has (grammar.number n) l s t = (l.stand.place ≡ s) × (s + l.stand.bytes ≡ t)
Has grammar.text l s t = Stored l s t
Has grammar.bytes l s t = Stored l s t
Has grammar.key l s t = Stored l s t
Has (grammar.value blame) l s t = Stored l s t
Has (grammar.values blame n) l s t = Stored l s t

-- the draws from one place to another; the number of a draw's role does not matter
unfoldable pub Tiles : {E : Type 0} → ℕ → List (Seen ℕ E) → ℕ → Type 0
Tiles from [] to = from ≡ to
Tiles from (kept e ∷ rest) to = Tiles from rest to
Tiles from (drew f a s t ∷ rest) to = (s ≡ from) × (s ≤ t) × ((code : ℕ) → Has f (line_at code f a s t) s t) × Tiles t rest to

-- a run that comes to its end, at a place
unfoldable pub Ends : {S E A : Type 0} → CourseTo S E A → S → Type 0
Ends (thing e p c) t = Ends c t
Ends (over a s) t = s ≡ t
Ends (stopped why) t = ⊥
