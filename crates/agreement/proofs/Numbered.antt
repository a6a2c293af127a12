-- What is refused of an update has a number from 1 to 8.
use Prim.Native.Nat.{ℕ, zero, suc}
use mathlib.Core.List.{List, [], ◌∷◌, ◌++◌}
use lib.Dec.{eqb}
use Rattle.text.specs.declared.Part.{Part}
use Rattle.grammar.specs.Grammar.{◌>>=◌}
use Rattle.grammar.specs.Course.{Drawn, got, not, CourseTo, thing, over, stopped, on_drawn, run}
use Rattle.grammar.specs.Blocks.{all_blocks}
use Rattle.grammar.specs.Deletes.{all_ranges}
use Rattle.grammar.specs.Numbered as numbered
use Rattle.grammar.specs.Numbered.{Refuses, Owns}
use Rattle.grammar.proofs.Numbered.{stops, all-blocks-own, all-ranges-own}
use Rattle.decoder.specs.Line.{line}
use Rattle.decoder.specs.States.{State}
use Rattle.decoder.specs.Columned.{columned}
use Rattle.decoder.specs.Opening.{cut, heads, standing, on_heads, opened_of}
use Rattle.decoder.specs.Update.{rest_places, in_columns, blocks_of, delete_set}
use Rattle.pieces.proofs.Forgets.{chosen}
use Rattle.agreement.specs.Numbered.{Low, Stops}
use Rattle.agreement.proofs.Lines.{Right, line-numbered}
use Rattle.agreement.proofs.Columns as columns

-- ---- opening

cut-owns : (n : ℕ) (ps : List Part) → Owns Low (cut n ps)
unfolding cut ◌>>=◌ Owns
cut-owns zero ps = tt
cut-owns (suc n) ps = λ p. cut-owns n (ps ++ (p ∷ []))

heads-own : Owns Low heads
unfolding heads ◌>>=◌ Owns
heads-own = λ a. cut-owns 9 []

opened-right : (u : List ℕ) → Right (opened_of u)
unfolding opened_of on_heads numbered.Stops Refuses
opened-right u = go (run (line 2 u) heads 0) (line-numbered 2 u heads heads-own 0)
  where
    go : (c : CourseTo ℕ (Unit {0}) (List Part)) → Stops c → Right (on_heads u c)
    go (thing e p c) h = go c h
    go (over ps at) h = columns.opened-right u (standing ps at)
    go (stopped why) h = h

-- ---- blocks and ranges

placed-stops : {E A : Type 0} (c : CourseTo State E A) → Stops c → Stops (rest_places c)
unfolding rest_places numbered.Stops
placed-stops (thing e p c) h = placed-stops c h
placed-stops (over a s) h = tt
placed-stops (stopped why) h = h

columns-numbered : (u : List ℕ) → Stops (in_columns u)
unfolding in_columns on_drawn Refuses numbered.Stops
columns-numbered u = go (opened_of u) (opened-right u)
  where
    go : (d : Drawn State (Unit {0})) → Right d → Stops (on_drawn d (λ x s. run (columned u) all_blocks s))
    go (got x s) h = stops Low (columned u) (λ f t. columns.columned-right u t f) all_blocks all-blocks-own s
    go (not why) h = h

pub blocks-numbered : (u : List ℕ) (form : ℕ) → Stops (blocks_of form u)
unfolding blocks_of
blocks-numbered u form = chosen Stops (eqb form 1) (line-numbered 1 u all_blocks all-blocks-own 0) (placed-stops (in_columns u) (columns-numbered u))

pub deletes-numbered : (form : ℕ) (u : List ℕ) (at : ℕ) → Stops (delete_set form u at)
unfolding delete_set
deletes-numbered form u at = line-numbered form u all_ranges all-ranges-own at
