-- The promises of the public calls: what is given, and the reader that is left, as equations of the inputs.
use Rattle.std.specs.Prelude.{◌≡◌, List, ℕ}
use Rattle.std.specs.Borrow.{Bor}
use Rattle.readers.specs.declared.Kind.{Kind}
use Rattle.readers.specs.declared.Column.{Column}
use Rattle.readers.specs.declared.Opened.{Opened}
use Rattle.readers.specs.declared.Answer.{Answer}
use Rattle.readers.specs.Readers.{start_of, reader, answer_of, after}

-- the reader holds the bytes that were lent, themselves
unfoldable pub opened : Bor (List ℕ) → Kind → Opened
opened s k = record { refusal = (start_of s.now k).refusal; column = reader s (start_of s.now k).place }

abbrev pub Open : Bor (List ℕ) → Kind → Opened → Type 0
Open s k r = r ≡ opened s k

abbrev pub Next : Column → Answer → Column → Type 0
Next c r d = (r ≡ answer_of c) × (d ≡ after c)
