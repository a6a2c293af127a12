-- Beside String: what inner functions say and proofs need. No promise comes to it.
use Rattle.std.specs.Prelude.{ℕ, zero, suc, ◌+◌, ◌-◌, ◌≤◌, ◌≡◌, ◌⊎◌, List, [], ◌∷◌, length}
use Rattle.std.proofs.Math.Seq.{slice}
use Rattle.numbers.specs.declared.Refusal.{Refusal}
use Rattle.numbers.specs.Number.{none}
use Rattle.text.specs.declared.Taken.{Taken}
use Rattle.text.specs.declared.Taken.TheVariants as units
use Rattle.string.specs.declared.Place.{Place}
use Rattle.string.specs.declared.Answer.{Answer}
use Rattle.string.specs.declared.Answer.TheVariants.{Next, Bad}
use Rattle.string.specs.String.{next_text}

-- ---- the next text: its unit length, then its characters

-- what is taken from a place on lies in the bytes, or is nothing
unfoldable pub TookWithin : List ℕ → ℕ → Taken → Type 0
TookWithin s at (units.Took b) = (at + b.0 ≤ length s) ⊎ (b.0 ≡ 0)
TookWithin s at (units.Refused why) = Unit {0}

abbrev pub why_text : Answer → Refusal
why_text (Next p c) = none
why_text (Bad why) = why

-- ---- reading on

-- the texts drawn, and the refusal that ended them; `none` where none did
pub record Texts : Type 0 where
  pub texts : List (List ℕ)
  pub refusal : Refusal

unfoldable pub and_then : List ℕ → Answer → (Place → Texts) → Texts
and_then s (Next p c) f = record { texts = slice p.place (p.place + p.bytes.0) s ∷ (f c).texts; refusal = (f c).refusal }
and_then s (Bad why) f = record { texts = []; refusal = why }

-- at most k texts from a place on
unfoldable pub read_texts : ℕ → List ℕ → Place → Texts
read_texts zero s c = record { texts = []; refusal = none }
read_texts (suc k) s c = and_then s (next_text s c) (λ d. read_texts k s d)
