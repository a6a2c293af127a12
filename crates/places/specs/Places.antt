-- Where a refusal of reading blames the update.
use Rattle.std.specs.Prelude.{ℕ, ◌<◌, ◌≡◌, ◌⊎◌, List, length}
use Rattle.numbers.specs.declared.Refusal.{Refusal}
use Rattle.grammar.specs.Course.{CourseTo, thing, over, stopped}

-- a refusal of reading u blames a byte of it; refusal 1 may blame its end
unfoldable pub Blames : List ℕ → Refusal → Type 0
Blames u why = (why.place < length u) ⊎ ((why.number ≡ 1) × (why.place ≡ length u))

-- of a run: each thing kept has a byte of u for its place, and a refusal blames u
unfoldable pub BlamesIn : {S E A : Type 0} → List ℕ → CourseTo S E A → Type 0
BlamesIn u (thing e p c) = (p < length u) × BlamesIn u c
BlamesIn u (over a s) = Unit {0}
BlamesIn u (stopped why) = Blames u why
