-- The blocks of an update followed draw by draw, in either form over one state: what of it its loop decides, and what it finds.
use Rattle.std.specs.Prelude.{ℕ, ◌-◌, ◌≡◌, ◌≢◌, Bool, true, false, List, eqb}
use Rattle.numbers.specs.Number.{pick}
use Rattle.grammar.specs.Course.{CourseTo, ending, run}
use Rattle.grammar.specs.Blocks.{all_blocks}
use Rattle.decoder.specs.States.{State}
use Rattle.decoder.specs.ColumnedInner.{fields}
use Rattle.decoder.specs.Update.{blocks_of}
use Rattle.roles.specs.declared.Plan.{Plan}
use Rattle.roles.specs.Roles.{start, code_of}
use Rattle.roles.specs.RolesInner.{is_kept}
use Rattle.origins.specs.declared.Line.{Line}
use Rattle.telling.specs.TellingInner.{lines_of}
use Rattle.origins.specs.Sheets.{line_in, Above}
use Rattle.explainer.specs.Watch.{watch}
use Rattle.explainer.specs.Explanation.{clock_line, found, blank}

-- it does not end in a refusal
unfoldable pub is_whole : {S E A : Type 0} → CourseTo S E A → Bool
is_whole c = ending c (λ s. true) (λ why. false)

-- all blocks of the update can be read
abbrev pub Readable : ℕ → List ℕ → Type 0
Readable form u = is_whole (blocks_of form u) ≡ true

-- from a state on
abbrev pub Reads : ℕ → List ℕ → State → Type 0
Reads form u s = is_whole (run (fields form u) all_blocks s) ≡ true

-- the line of a sheet that a draw is told at, by its role's number; `own` is the next of the block's own
unfoldable pub line_for : ℕ → ℕ → ℕ
line_for code own = pick (eqb code 1) 0 (pick (eqb code 2) 0 (pick (eqb code 3) 1 (pick (eqb code 4) 2 (pick (eqb code 6) 4 own))))

-- the sheet behind a block's clock, which is put with its info byte
pub record Placed (q : Plan) (own : ℕ) (sh sh₁ : List ℕ) (i : ℕ) : Type 0 where
  pub line : i ≡ line_for (code_of q.role) own
  pub above : Above 3 sh sh₁
  pub other : code_of q.role ≢ 6 → sh₁ ≡ sh
  pub clock : code_of q.role ≡ 6 → line_in sh₁ 3 ≡ clock_line q

-- where a block has ended: it is the one sought; how many are ahead of that behind it
unfoldable pub is_found : Plan → ℕ → Bool
is_found q ahead = pick (eqb ahead 0) (is_kept q) false

unfoldable pub ahead_of : Plan → ℕ → ℕ
ahead_of q ahead = pick (is_kept q) (ahead - 1) ahead

-- the lines of kept block n, from a state on
unfoldable pub followed : ℕ → List ℕ → ℕ → State → List Line
followed form u n s = found (lines_of form u) start blank n (watch (fields form u) all_blocks s)
