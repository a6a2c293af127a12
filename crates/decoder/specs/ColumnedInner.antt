-- Beside Columned: what inner functions say and proofs need. No promise comes to it.
use Rattle.std.specs.Prelude.{ℕ, List, eqb}
use Rattle.numbers.specs.Number.{pick}
use Rattle.grammar.specs.Course.{Reader}
use Rattle.decoder.specs.Line.{line}
use Rattle.decoder.specs.States.{State}
use Rattle.decoder.specs.Columned.{columned, onto}

-- ---- either form over a state of form 2: form 1 moves its place alone

unfoldable pub fields : ℕ → List ℕ → Reader State
fields form u f s = pick (eqb form 1) (onto s (line 1 u f s.at)) (columned u f s)
