-- Texts written in one pass: one text more taken, and what their writer promises.
use Rattle.std.specs.Prelude.{ℕ, ◌+◌, ◌≤◌, ◌≡◌, List, true, false, length, drop}
use Rattle.numbers.specs.declared.Written.{Written}
use Rattle.numbers.specs.Number.{pick}
use Rattle.numbers.specs.Output.{written, put}
use Rattle.text.specs.declared.Taken.{Taken}
use Rattle.text.specs.declared.Taken.TheVariants as units
use Rattle.text.specs.Utf8.{take_units, took}
use Rattle.string.specs.String.{text_column, why_texts}
use Rattle.once.specs.declared.Taking.{Taking}

-- the text of u units at `at` has u bytes
abbrev pub TookPlain : List ℕ → ℕ → ℕ → Type 0
TookPlain s at u = (at + u ≤ length s) × (take_units 7 u (drop at s) ≡ took u)

-- one text more
unfoldable pub took_text : Taking → Taken → Taking
took_text t (units.Took b) = record { at = t.at + b.0; found = true }
took_text t (units.Refused why) = record { at = t.at; found = false }

unfoldable pub take_next : List ℕ → Taking → ℕ → Taking
take_next s t u = pick t.found (took_text t (take_units 7 u (drop t.at s))) t

-- the writer of texts: its answer, and what the bytes lent hold then
abbrev pub WritesTexts : List ℕ → List ℕ → List ℕ → Written → List ℕ → Type 0
WritesTexts t us e r x = (r ≡ written (why_texts t us) (length e) (text_column t us)) × (x ≡ put (why_texts t us) (length e) (text_column t us))
