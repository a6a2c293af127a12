-- The lines of an explanation, read as a record, are the row that reading gives.
use Prim.Native.Nat.{ℕ, zero, suc}
use mathlib.Core.Path.{◌≡◌, refl, sym, ap, ◌∙◌}
use mathlib.Core.Logic.{◌≢◌}
use mathlib.Core.Bool.{Bool, true, false}
use mathlib.Core.List.{List, []}
use lib.Dec.{eqb}
use borrow.Author.Tests.{eqb-true, eqb-false, ne_eqb}
use Rattle.block.specs.declared.Block.{Block}
use Rattle.block.specs.Row.{no_block}
use Rattle.grammar.specs.Blocks.{all_blocks}
use Rattle.grammar.specs.Course.{Drawn, got, not, CourseTo, thing, over, stopped, on_drawn, run}
use Rattle.decoder.specs.States.{State}
use Rattle.decoder.specs.Columned.{columned}
use Rattle.decoder.specs.ColumnedInner.{fields}
use Rattle.decoder.specs.Opening.{opened_of}
use Rattle.decoder.specs.Update.{rest_places, in_columns, blocks_of}
use Rattle.decoder.proofs.Laws.{run-columned}
use Rattle.cells.specs.Cells.{at_in, state_in}
use Rattle.content.specs.Content.{nth}
use Rattle.roles.specs.Roles.{start}
use Rattle.explainer.specs.Explanation.{blank, on_opened, explanation}
use Rattle.explainer.specs.Record.{row_by, row_of}
use Rattle.explainer.specs.Following.{followed}
use Rattle.explainer.proofs.Labels.{all_fit}
use Rattle.explainer.proofs.Forms.{column-found, first_byte, line-explains}
use Rattle.explained.specs.Told.{Values-are-fields}
use Rattle.explained.proofs.Telling.{Tells-row, nth_in, rows}

pub nth-placed : (n : ℕ) (c : CourseTo State Block (Unit {0})) → nth_in n c ≡ nth n (rest_places c)
unfolding nth_in nth rest_places
nth-placed zero (thing b p c) = refl
nth-placed (suc n) (thing b p c) = nth-placed n c
nth-placed zero (over a s) = refl
nth-placed (suc n) (over a s) = refl
nth-placed zero (stopped why) = refl
nth-placed (suc n) (stopped why) = refl

-- from a state on
followed-row : (form : ℕ) (u : List ℕ) (n : ℕ) (s : State) → row_of (followed form u n s) ≡ nth n (rest_places (run (fields form u) all_blocks s))
unfolding followed Tells-row
followed-row form u n s = rows form u all_blocks start no_block blank n s (all_fit no_block) tt ∙ nth-placed n (run (fields form u) all_blocks s)

opened-row : (form : ℕ) (u : List ℕ) (n : ℕ) → form ≢ 1 → (d : Drawn State (Unit {0})) → row_of (on_opened u n d) ≡ nth n (rest_places (on_drawn d (λ _ s. run (columned u) all_blocks s)))
unfolding on_opened on_drawn followed row_by rest_places nth
opened-row form u n other (got a s) =
    sym (ap row_of (column-found form u other all_blocks start blank n s)) ∙ followed-row form u n s ∙ ap (λ (c : CourseTo State Block (Unit {0})). nth n (rest_places c)) (run-columned form u other all_blocks s)
opened-row form u zero other (not why) = refl
opened-row form u (suc n) other (not why) = refl

columned-row : (form : ℕ) (u : List ℕ) (n : ℕ) → form ≢ 1 → row_of (explanation form u n) ≡ nth n (blocks_of form u)
unfolding explanation blocks_of in_columns
columned-row form u n other = rw (ne_eqb form 1 other) (opened-row form u n other (opened_of u))

pub at_first : at_in [] ≡ 0
unfolding at_in
at_first = refl

-- what the lines of block n say is its row; where there is no block n, no line says anything
pub values-are-fields : Values-are-fields
values-are-fields form u n = go (eqb form 1) refl
  where
    go : (x : Bool) → eqb form 1 ≡ x → row_of (explanation form u n) ≡ nth n (blocks_of form u)
    go true e = ap row_of (sym (line-explains form u [] (eqb-true form 1 e) at_first n)) ∙ followed-row form u n (state_in []) ∙ ap (nth n) (sym (first_byte form u [] (eqb-true form 1 e) at_first))
    go false e = columned-row form u n (eqb-false form 1 e)
