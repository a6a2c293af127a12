-- Beside Telling: what inner functions say and proofs need. No promise comes to it.
use Rattle.std.specs.Prelude.{Option, Some, None}
use Rattle.std.specs.Prelude.{ℕ, ◌≤◌, ◌≡◌, List, eqb}
use Rattle.numbers.specs.declared.Refusal.{Refusal}
use Rattle.numbers.specs.Number.{pick}
use Rattle.numbers.specs.Limits.{max_clients, max_clock}
use Rattle.grammar.specs.Grammar as grammar
use Rattle.grammar.specs.Grammar.{Field, Answer}
use Rattle.grammar.specs.Course.{got, not}
use Rattle.decoder.specs.States.{State}
use Rattle.decoder.specs.ColumnedInner.{fields}
use Rattle.cells.specs.Cells.{state_in, Small}
use Rattle.roles.specs.declared.Role.{Role}
use Rattle.roles.specs.declared.Role.TheVariants.{Sections, Blocks, Client, FirstClock, Info, SkipLength, GcLength, LeftClient, LeftClock, RightClient, RightClock, ParentInfo, ParentName, ParentClient, ParentClock, Key, DeletedLength, Binary, Text, MarkKey, MarkValue, TypeNumber, NodeName, ListLength, ListValues, Ended, Over}
use Rattle.roles.specs.declared.Plan.{Plan}
use Rattle.origins.specs.declared.Line.{Line}
use Rattle.origins.specs.Origins.{lines_in_line, lines_in}
use Rattle.origins.specs.Sheets.{lines_from, Above}
use Rattle.telling.specs.Telling.{heard}

-- ---- the field that a plan draws next

unfoldable pub field_of : Role → Plan → Field
field_of Sections q = grammar.number (grammar.up_to max_clients)
field_of Blocks q = grammar.number (grammar.up_to q.room)
field_of Client q = grammar.number grammar.client
field_of FirstClock q = grammar.number (grammar.up_to max_clock)
field_of Info q = grammar.number grammar.info
field_of SkipLength q = grammar.number (grammar.up_to max_clock)
field_of GcLength q = grammar.number grammar.len
field_of LeftClient q = grammar.number grammar.client
field_of LeftClock q = grammar.number grammar.left_clock
field_of RightClient q = grammar.number grammar.client
field_of RightClock q = grammar.number grammar.right_clock
field_of ParentInfo q = grammar.number grammar.parent_info
field_of ParentName q = grammar.text
field_of ParentClient q = grammar.number grammar.client
field_of ParentClock q = grammar.number grammar.left_clock
field_of Key q = grammar.text
field_of DeletedLength q = grammar.number grammar.len
field_of Binary q = grammar.bytes
field_of Text q = grammar.text
field_of MarkKey q = grammar.key
field_of MarkValue q = grammar.value q.place
field_of TypeNumber q = grammar.number grammar.type_number
field_of NodeName q = grammar.key
field_of ListLength q = grammar.number grammar.len
field_of ListValues q = grammar.values q.place q.length
field_of Ended q = grammar.bytes
field_of Over q = grammar.bytes

abbrev pub field_at : Plan → Field
field_at q = field_of q.role q

-- ---- a draw, from words w to words v, told from line i of the sheet sh on

-- the lines of an answer, as the form has them
unfoldable pub lines_of : ℕ → List ℕ → ℕ → (f : Field) → Answer f → State → State → List Line
lines_of form u code f a s t = pick (eqb form 1) (lines_in_line code f a s.at t.at) (lines_in u code f a s t)

-- what was drawn
pub record Draws (form : ℕ) (u : List ℕ) (code : ℕ) (f : Field) (w v sh : List ℕ) (i value place n : ℕ) : Type 0 where
  pub answer : Answer f
  pub drawn : fields form u f (state_in w) ≡ got answer (state_in v)
  pub hears : heard f answer ≡ (value, place)
  pub lines : lines_from sh i n ≡ lines_of form u code f answer (state_in w) (state_in v)
  pub few : (1 ≤ n) × (n ≤ 2)

pub record Draws-not (form : ℕ) (u : List ℕ) (f : Field) (w : List ℕ) : Type 0 where
  pub why : Refusal
  pub refused : fields form u f (state_in w) ≡ not why

unfoldable pub Says : ℕ → List ℕ → ℕ → Field → List ℕ → List ℕ → List ℕ → ℕ → Option (ℕ × ℕ × ℕ) → Type 0
Says form u code f w v sh i (Some (value, place, n)) = Draws form u code f w v sh i value place n
Says form u code f w v sh i None = Draws-not form u f w

abbrev pub Tells : ℕ → List ℕ → ℕ → Field → List ℕ → List ℕ → List ℕ → List ℕ → ℕ → Option (ℕ × ℕ × ℕ) → Type 0
Tells form u code f w v sh sh₁ i x = Small v × Above i sh sh₁ × Says form u code f w v sh₁ i x
