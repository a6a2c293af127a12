-- What gathering rows does: a section's head read, its blocks, all sections, and the rows that are left in the words lent.
use Rattle.std.specs.Prelude.{Option, Some, None}
use Rattle.std.specs.Prelude.{ℕ, suc, ◌+◌, ◌-◌, ◌*◌, ◌≤◌, ◌≡◌, false, List, [], ◌∷◌, ◌++◌, length, take, Result, Ok, Err}
use Rattle.numbers.specs.declared.Refusal.{Refusal}
use Rattle.numbers.specs.Words.{among}
use Rattle.numbers.specs.Limits.{max_clock, max_clients, max_blocks}
use Rattle.block.specs.declared.Block.{Block}
use Rattle.grammar.specs.Grammar.{◌>>=◌}
use Rattle.grammar.specs.Course as course
use Rattle.grammar.specs.Course.{CourseTo, stopped, run, things, ending}
use Rattle.grammar.specs.Blocks.{blocks, sections}
use Rattle.decoder.specs.States.{State}
use Rattle.decoder.specs.ColumnedInner.{fields}
use Rattle.decoder.specs.Update.{rest_places, blocks_of}
use Rattle.cells.specs.Cells.{state_in, why_in}
use Rattle.summary.specs.Words.{words_in}
use Rattle.tally.specs.Tally.{clients_in, inserted_in, rows_by, kept}
use Rattle.gathered.specs.RowsOf.{first_clock, last_end, rows_of, Told, rows, refused}

-- blocks whose ends are clocks
unfoldable pub Ends : List Block → Type 0
Ends [] = Unit {0}
Ends (b ∷ bs) = (b.clock + b.length.0 ≤ max_clock) × Ends bs

-- blocks that can be gathered: of 64 clients at most
pub record Gatherable (bs : List Block) : Type 0 where
  pub ends : Ends bs
  pub few : length (rows_of bs) ≤ 64

-- ---- what is to come

-- n sections, with these clients seen and room for so many blocks, from the words w on
unfoldable pub sections_from : ℕ → List ℕ → ℕ → List ℕ → ℕ → List ℕ → CourseTo State Block (Unit {0})
sections_from form u n cs room w = run (fields form u) (sections n cs room) (state_in w)

-- k blocks of client c from clock t on
unfoldable pub blocks_from : ℕ → List ℕ → ℕ → ℕ → ℕ → List ℕ → CourseTo State Block (Unit {0})
blocks_from form u k c t w = run (fields form u) (blocks k c t) (state_in w)

-- how it ends: the state after it, or why not
unfoldable pub outcome : CourseTo State Block (Unit {0}) → course.Drawn State (Unit {0})
outcome c = ending c (λ s. course.got tt s) (λ why. course.not why)

-- and the place of that state
unfoldable pub end_of : CourseTo State Block (Unit {0}) → Result ℕ Refusal
end_of c = ending c (λ s. Ok s.at) (λ why. Err why)

-- the section count of an update, to the words w
unfoldable pub Begins : ℕ → List ℕ → List ℕ → Option ℕ → Type 0
Begins form u w (Some n) = (blocks_of form u ≡ rest_places (sections_from form u n [] max_blocks w)) × (n ≤ max_clients)
Begins form u w None = blocks_of form u ≡ stopped (why_in w)

-- ---- a section's head: w, o before it and w₁, o₁ after it, where `seen` words of o are the sections before

abbrev pub Same : List ℕ → List ℕ → Type 0
Same cs ds = (x : ℕ) → among x cs ≡ among x ds

pub record Opens (form : ℕ) (u w o : List ℕ) (seen room : ℕ) (w₁ o₁ : List ℕ) (k c t : ℕ) : Type 0 where
  pub told : (n : ℕ) (cs : List ℕ) → Same cs (clients_in (take seen o))
      → sections_from form u (suc n) cs room w
      ≡ run (fields form u) (blocks k c t >>= λ _. sections n (cs ++ (c ∷ [])) (room - k)) (state_in w₁)
  pub few : k ≤ room
  pub low : t ≤ max_clock
  pub new : among c (clients_in (take seen o)) ≡ false
  pub order : take (seen + 1) o₁ ≡ inserted_in c seen (take seen o)

unfoldable pub Headed : ℕ → List ℕ → List ℕ → List ℕ → ℕ → ℕ → List ℕ → List ℕ → Result (ℕ × ℕ × ℕ) Refusal → Type 0
Headed form u w o seen room w₁ o₁ (Ok (k, c, t)) = Opens form u w o seen room w₁ o₁ k c t
Headed form u w o seen room w₁ o₁ (Err why) =
    (n : ℕ) (cs : List ℕ) → Same cs (clients_in (take seen o)) → sections_from form u (suc n) cs room w ≡ stopped why

-- ---- its blocks, to the words w: the first's clock, the last's end, how many

unfoldable pub Tallies : CourseTo State Block (Unit {0}) → List ℕ → Result (ℕ × ℕ × ℕ) Refusal → Type 0
Tallies c w (Ok (f, e, n)) =
    (f ≡ first_clock (things c)) × (e ≡ last_end (things c)) × (n ≡ length (things c)) × (outcome c ≡ course.got tt (state_in w))
Tallies c w (Err why) = outcome c ≡ course.not why

-- ---- all sections, into rows w in the order of the words o

unfoldable pub Scans : CourseTo State Block (Unit {0}) → List ℕ → List ℕ → Result (ℕ × ℕ) Refusal → Type 0
Scans c w o (Ok (n, at)) = (n ≤ 64) × (kept (rows_by w (take n o)) ≡ rows_of (things c)) × (end_of c ≡ Ok at)
Scans c w o (Err why) = end_of c ≡ Err why

-- the rows of an update, in the words w
unfoldable pub Tells : Told → List ℕ → Result ℕ Refusal → Type 0
Tells (rows rs) w g = (g ≡ Ok (length rs)) × (take (4 * length rs) w ≡ words_in rs) × (length rs ≤ 64)
Tells (refused why) w g = g ≡ Err why
