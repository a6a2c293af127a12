-- Bytes appended behind an update change nothing of what is read of it, but where it was refused for want of bytes.
use Rattle.std.specs.Prelude.{◌≡◌, ◌≢◌}
use Rattle.grammar.specs.Course.{CourseTo, thing, over, stopped}

-- a run of u, and one of u with bytes behind it: the same, but where the first ends for want of bytes (1)
unfoldable pub Stays : {S E A : Type 0} → CourseTo S E A → CourseTo S E A → Type 0
Stays (thing e p c) y = (d : CourseTo _ _ _) × (y ≡ thing e p d) × Stays c d
Stays (over a s) y = y ≡ over a s
Stays (stopped why) y = (why.number ≢ 1) → y ≡ stopped why
