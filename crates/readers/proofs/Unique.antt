-- No other answer fits: two answers that keep a call's promise for the same inputs are the same, and so are the readers that they leave.
use Prim.Native.Nat.{ℕ}
use mathlib.Core.Path.{◌≡◌, sym, ◌∙◌}
use mathlib.Core.List.{List}
use denote.Ref.{Bor}
use Rattle.readers.specs.declared.Kind.{Kind}
use Rattle.readers.specs.declared.Column.{Column}
use Rattle.readers.specs.declared.Opened.{Opened}
use Rattle.readers.specs.declared.Answer.{Answer}
use Rattle.readers.specs.Promises.{Open, Next}

pub only-open : (s : Bor (List ℕ)) (k : Kind) (r r' : Opened) → Open s k r → Open s k r' → r ≡ r'
only-open s k r r' p q = p ∙ sym q

pub only_next : (c : Column) (r r' : Answer) (d d' : Column) → Next c r d → Next c r' d' → (r ≡ r') × (d ≡ d')
only_next c r r' d d' p q = (p.0 ∙ sym q.0, p.1 ∙ sym q.1)
