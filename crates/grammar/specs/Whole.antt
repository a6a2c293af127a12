-- All of it could be read, and the state after it is s.
use Rattle.std.specs.Prelude.{◌≡◌}
use Rattle.grammar.specs.Course.{CourseTo, thing, over, stopped}

unfoldable pub Ends : {S E A : Type 0} → CourseTo S E A → S → Type 0
Ends (thing e p c) s = Ends c s
Ends (over a t) s = t ≡ s
Ends (stopped why) s = ⊥
