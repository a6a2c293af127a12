-- The lines that were noted, read as a record, are the row that was told, draw by draw.
use Prim.Native.Nat.{ℕ, zero, suc}
use mathlib.Core.Path.{◌≡◌, refl, sym, ap, subst, ◌∙◌}
use mathlib.Core.Logic.{◌≢◌}
use mathlib.Core.Bool.{Bool, true, false}
use mathlib.Core.List.{List, ◌∷◌, ◌++◌}
use lib.Dec.{eqb}
use borrow.Author.Tests.{ne_eqb, eqb-true, eqb-false}
use Rattle.numbers.specs.Number.{pick}
use Rattle.block.specs.declared.Block.{Block}
use Rattle.block.specs.Row.{no_block, no_part}
use Rattle.block.specs.Rows.{plain}
use Rattle.grammar.specs.Grammar.{Field, Answer, Grammar, ask, emit, stop, done}
use Rattle.grammar.specs.Course.{Drawn, got, not, CourseTo, thing, over, stopped, on_drawn, run}
use Rattle.decoder.specs.States.{State}
use Rattle.decoder.specs.ColumnedInner.{fields}
use Rattle.roles.specs.declared.Role.{Role}
use Rattle.roles.specs.declared.Role.TheVariants as role
use Rattle.roles.specs.declared.Plan.{Plan}
use Rattle.roles.specs.Roles.{go_to, sectioned, announced, onward, headed, informed, info_role, plan_after, after, moved_on, code_of, is_ended, block_role, section_role}
use Rattle.roles.specs.RolesInner.{is_over}
use Rattle.origins.specs.declared.Line.{Line}
use Rattle.telling.specs.Telling.{heard}
use Rattle.telling.specs.TellingInner.{field_of, field_at, lines_of}
use Rattle.explainer.specs.Watch.{on_seen, watch}
use Rattle.explainer.specs.Explanation.{Sheet, noted, clock_line, found}
use Rattle.explainer.specs.Record.{head_row, id_row, content_row, name_row, rowed, row_by, row_of}
use Rattle.explainer.proofs.Fits.{part_of, begun, told, Fits, onward-goes, settled_here, settled-ended}
use Rattle.explainer.proofs.Labels.{Final}
use Rattle.explainer.proofs.Going.{most, Own, OwnOrOver, Goes, own-goes, info-goes}
use Rattle.explainer.proofs.Holding.{own_code, clock-same, noted-own, ended-role}
use Rattle.explainer.proofs.Turns.{meets, found-onward}
use Rattle.explained.proofs.Rows.{row-append, own-client, lines-row}

-- of a block under way: its head's lines tell its client, and all its lines its row
pub record Row-told (q : Plan) (b : Block) (h : Sheet) : Type 0 where
  pub client : (row_by h.head no_block).client ≡ b.client
  pub row : row_by (clock_line q ∷ h.own) (row_by h.head no_block) ≡ b

unfoldable pub Tells-row : Role → Plan → Block → Sheet → Type 0
Tells-row role.Sections q b h = Unit {0}
Tells-row role.Blocks q b h = Unit {0}
Tells-row role.Client q b h = Unit {0}
Tells-row role.FirstClock q b h = (row_by h.head no_block).client ≡ b.client
Tells-row role.Info q b h = (row_by h.head no_block).client ≡ b.client
Tells-row role.SkipLength q b h = Row-told q b h
Tells-row role.GcLength q b h = Row-told q b h
Tells-row role.LeftClient q b h = Row-told q b h
Tells-row role.LeftClock q b h = Row-told q b h
Tells-row role.RightClient q b h = Row-told q b h
Tells-row role.RightClock q b h = Row-told q b h
Tells-row role.ParentInfo q b h = Row-told q b h
Tells-row role.ParentName q b h = Row-told q b h
Tells-row role.ParentClient q b h = Row-told q b h
Tells-row role.ParentClock q b h = Row-told q b h
Tells-row role.Key q b h = Row-told q b h
Tells-row role.DeletedLength q b h = Row-told q b h
Tells-row role.Binary q b h = Row-told q b h
Tells-row role.Text q b h = Row-told q b h
Tells-row role.MarkKey q b h = Row-told q b h
Tells-row role.MarkValue q b h = Row-told q b h
Tells-row role.TypeNumber q b h = Row-told q b h
Tells-row role.NodeName q b h = Row-told q b h
Tells-row role.ListLength q b h = Row-told q b h
Tells-row role.ListValues q b h = Row-told q b h
Tells-row role.Ended q b h = Row-told q b h
Tells-row role.Over q b h = Unit {0}

row-own : (r : Role) (q : Plan) (b : Block) (h : Sheet) → OwnOrOver r → Row-told q b h → Tells-row r q b h
unfolding Tells-row OwnOrOver
row-own role.Sections q b h o x = absurd o
row-own role.Blocks q b h o x = absurd o
row-own role.Client q b h o x = absurd o
row-own role.FirstClock q b h o x = absurd o
row-own role.Info q b h o x = absurd o
row-own role.SkipLength q b h o x = x
row-own role.GcLength q b h o x = x
row-own role.LeftClient q b h o x = x
row-own role.LeftClock q b h o x = x
row-own role.RightClient q b h o x = x
row-own role.RightClock q b h o x = x
row-own role.ParentInfo q b h o x = x
row-own role.ParentName q b h o x = x
row-own role.ParentClient q b h o x = x
row-own role.ParentClock q b h o x = x
row-own role.Key q b h o x = x
row-own role.DeletedLength q b h o x = x
row-own role.Binary q b h o x = x
row-own role.Text q b h o x = x
row-own role.MarkKey q b h o x = x
row-own role.MarkValue q b h o x = x
row-own role.TypeNumber q b h o x = x
row-own role.NodeName q b h o x = x
row-own role.ListLength q b h o x = x
row-own role.ListValues q b h o x = x
row-own role.Ended q b h o x = x
row-own role.Over q b h o x = tt

section-row : (n : ℕ) (q : Plan) (b : Block) (h : Sheet) → Tells-row (section_role n) q b h
unfolding section_role Tells-row
section-row n q b h = go (eqb n 0)
  where
    go : (x : Bool) → Tells-row (pick x role.Over role.Blocks) q b h
    go true = tt
    go false = tt

block_row : (k n : ℕ) (q : Plan) (b : Block) (h : Sheet) → (row_by h.head no_block).client ≡ b.client → Tells-row (block_role k n) q b h
unfolding block_role Tells-row
block_row k n q b h e = go (eqb k 0)
  where
    go : (x : Bool) → Tells-row (pick x (section_role n) role.Info) q b h
    go true = section-row n q b h
    go false = e

-- ---- a draw

module _ (form : ℕ) (u : List ℕ) where
  -- of a block's own
  own_row : (r : Role) (q : Plan) (b : Block) (h : Sheet) (a : Answer (field_of r q)) (s t : State) → fields form u (field_of r q) s ≡ got a t → Own r → code_of r ≢ 0 → code_of r ≢ 28 → Row-told q b h
      → (v p : ℕ) → Tells-row (plan_after r q v p).role (plan_after r q v p) (rowed (code_of r) (heard (field_of r q) a).0 (part_of (field_of r q) a) b) (noted (code_of r) (lines_of form u (code_of r) (field_of r q) a s t) h)
  unfolding is_ended go_to row_by
  own_row r q b h a s t e o n0 n28 x v p = row-own (plan_after r q v p).role (plan_after r q v p) _ _ goes.own
      (subst (λ (y : Sheet). Row-told (plan_after r q v p) b₁ y) (sym (noted-own (code_of r) ls h (own_code r o n0))) (record {
        client = x.client ∙ sym (own-client r o (heard (field_of r q) a).0 (part_of (field_of r q) a) b);
        row = ap (λ (l : Line). row_by (l ∷ (h.own ++ ls)) (row_by h.head no_block)) (sym (clock-same q (plan_after r q v p) goes.first goes.clock))
            ∙ row-append (clock_line q ∷ h.own) ls (row_by h.head no_block) ∙ ap (row_by ls) x.row ∙ lines-row form u r q a s t b e n0 n28;
      }))
    where
      ls : List Line
      ls = lines_of form u (code_of r) (field_of r q) a s t

      b₁ : Block
      b₁ = rowed (code_of r) (heard (field_of r q) a).0 (part_of (field_of r q) a) b

      goes : Goes (most (field_of r q)) r q (plan_after r q v p)
      goes = own-goes r q v p o (ne_eqb (code_of r) 0 n0)

  -- by the role; b is the row behind what an info byte begins
  draw-row : (r : Role) (q : Plan) (b : Block) (h : Sheet) (a : Answer (field_of r q)) (s t : State) → fields form u (field_of r q) s ≡ got a t → code_of r ≢ 0 → code_of r ≢ 28 → Tells-row r q b h
      → (v p : ℕ) → Tells-row (plan_after r q v p).role (plan_after r q v p) (rowed (code_of r) (heard (field_of r q) a).0 (part_of (field_of r q) a) (pick (eqb (code_of r) 6) (rowed 5 q.clock no_part b) b)) (noted (code_of r) (lines_of form u (code_of r) (field_of r q) a s t) h)
  unfolding Tells-row plan_after code_of Own sectioned announced go_to headed onward informed noted rowed head_row id_row content_row name_row row_by clock_line field_of heard part_of
  draw-row role.Sections q b h a s t e n0 n28 x v p = section-row v _ _ _
  draw-row role.Blocks q b h a s t e n0 n28 x v p = tt
  draw-row role.Client q b h a s t e n0 n28 x v p =
      ap (λ (y : Block). y.client) (row-append h.head (lines_of form u 3 (field_of role.Client q) a s t) no_block ∙ lines-row form u role.Client q a s t (row_by h.head no_block) e n0 n28)
  draw-row role.FirstClock q b h a s t e n0 n28 x v p = block_row q.blocks q.sections _ _ _
      (ap (λ (y : Block). y.client) (row-append h.head (lines_of form u 4 (field_of role.FirstClock q) a s t) no_block ∙ lines-row form u role.FirstClock q a s t (row_by h.head no_block) e n0 n28) ∙ x)
  draw-row role.Info q b h a s t e n0 n28 x v p = row-own (info_role v) _ _ _ (info-goes q v p).own (record {
    client = x;
    row = lines-row form u role.Info q a s t (rowed 5 q.clock no_part (row_by h.head no_block)) e n0 n28 ∙ ap (λ (c : ℕ). plain c q.clock 0 0) x;
  })
  draw-row role.SkipLength q b h a s t e n0 n28 x v p = own_row role.SkipLength q b h a s t e tt n0 n28 x v p
  draw-row role.GcLength q b h a s t e n0 n28 x v p = own_row role.GcLength q b h a s t e tt n0 n28 x v p
  draw-row role.LeftClient q b h a s t e n0 n28 x v p = own_row role.LeftClient q b h a s t e tt n0 n28 x v p
  draw-row role.LeftClock q b h a s t e n0 n28 x v p = own_row role.LeftClock q b h a s t e tt n0 n28 x v p
  draw-row role.RightClient q b h a s t e n0 n28 x v p = own_row role.RightClient q b h a s t e tt n0 n28 x v p
  draw-row role.RightClock q b h a s t e n0 n28 x v p = own_row role.RightClock q b h a s t e tt n0 n28 x v p
  draw-row role.ParentInfo q b h a s t e n0 n28 x v p = own_row role.ParentInfo q b h a s t e tt n0 n28 x v p
  draw-row role.ParentName q b h a s t e n0 n28 x v p = own_row role.ParentName q b h a s t e tt n0 n28 x v p
  draw-row role.ParentClient q b h a s t e n0 n28 x v p = own_row role.ParentClient q b h a s t e tt n0 n28 x v p
  draw-row role.ParentClock q b h a s t e n0 n28 x v p = own_row role.ParentClock q b h a s t e tt n0 n28 x v p
  draw-row role.Key q b h a s t e n0 n28 x v p = own_row role.Key q b h a s t e tt n0 n28 x v p
  draw-row role.DeletedLength q b h a s t e n0 n28 x v p = own_row role.DeletedLength q b h a s t e tt n0 n28 x v p
  draw-row role.Binary q b h a s t e n0 n28 x v p = own_row role.Binary q b h a s t e tt n0 n28 x v p
  draw-row role.Text q b h a s t e n0 n28 x v p = own_row role.Text q b h a s t e tt n0 n28 x v p
  draw-row role.MarkKey q b h a s t e n0 n28 x v p = own_row role.MarkKey q b h a s t e tt n0 n28 x v p
  draw-row role.MarkValue q b h a s t e n0 n28 x v p = own_row role.MarkValue q b h a s t e tt n0 n28 x v p
  draw-row role.TypeNumber q b h a s t e n0 n28 x v p = own_row role.TypeNumber q b h a s t e tt n0 n28 x v p
  draw-row role.NodeName q b h a s t e n0 n28 x v p = own_row role.NodeName q b h a s t e tt n0 n28 x v p
  draw-row role.ListLength q b h a s t e n0 n28 x v p = own_row role.ListLength q b h a s t e tt n0 n28 x v p
  draw-row role.ListValues q b h a s t e n0 n28 x v p = own_row role.ListValues q b h a s t e tt n0 n28 x v p
  draw-row role.Ended q b h a s t e n0 n28 x v p = absurd (n0 refl)
  draw-row role.Over q b h a s t e n0 n28 x v p = absurd (n28 refl)

  -- of a field f that the plan p draws
  behind-row : (p : Plan) (b : Block) (h : Sheet) (f : Field) → field_at p ≡ f → (a : Answer f) (s t : State) → fields form u f s ≡ got a t → code_of p.role ≢ 0 → code_of p.role ≢ 28 → Tells-row p.role p b h
      → Tells-row (after p (heard f a).0 (heard f a).1).role (after p (heard f a).0 (heard f a).1) (told p f a b) (noted (code_of p.role) (lines_of form u (code_of p.role) f a s t) h)
  unfolding after told begun
  behind-row p b h f e = subst (λ (g : Field). (a : Answer g) (s t : State) → fields form u g s ≡ got a t → code_of p.role ≢ 0 → code_of p.role ≢ 28 → Tells-row p.role p b h → Tells-row (after p (heard g a).0 (heard g a).1).role (after p (heard g a).0 (heard g a).1) (told p g a b) (noted (code_of p.role) (lines_of form u (code_of p.role) g a s t) h)) e
      (λ a s t d n0 n28 x. draw-row p.role p b h a s t d n0 n28 x (heard (field_at p) a).0 (heard (field_at p) a).1)

-- ---- from a block's end onward

ended-row : (q : Plan) (b : Block) (h : Sheet) → is_ended q ≡ true → Tells-row q.role q b h → Row-told q b h
unfolding is_ended Tells-row
ended-row q b h e x = subst (λ (r : Role). Tells-row r q b h) (ended-role q.role (eqb-true (code_of q.role) 0 e)) x

onward-row : (q : Plan) (b : Block) (h : Sheet) → Row-told q b h → Tells-row (onward q).role (onward q) b h
unfolding onward
onward-row q b h x = block_row q.blocks q.sections _ b h x.client

settled-row : (q : Plan) (b : Block) (h : Sheet) → Tells-row q.role q b h → Tells-row (moved_on q).role (moved_on q) b h
settled-row q b h x = go (is_ended q) refl
  where
    go : (y : Bool) → is_ended q ≡ y → Tells-row (moved_on q).role (moved_on q) b h
    go true e = subst (λ (p : Plan). Tells-row p.role p b h) (sym (settled-ended q e)) (onward-row q b h (ended-row q b h e x))
    go false e = subst (λ (p : Plan). Tells-row p.role p b h) (sym (settled_here q e)) x

pub settled-goes : (q : Plan) → is_ended (moved_on q) ≡ false
settled-goes q = go (is_ended q) refl
  where
    go : (y : Bool) → is_ended q ≡ y → is_ended (moved_on q) ≡ false
    go true e = ap is_ended (settled-ended q e) ∙ onward-goes q
    go false e = ap is_ended (settled_here q e) ∙ e

-- ---- all that is read

-- kept block n of a run, from 0; the row that has none where there are not so many
unfoldable pub nth_in : {S : Type 0} → ℕ → CourseTo S Block (Unit {0}) → Block
nth_in zero (thing b p c) = b
nth_in (suc n) (thing b p c) = nth_in n c
nth_in n (over a s) = no_block
nth_in n (stopped why) = no_block

module _ (form : ℕ) (u : List ℕ) where
  pub rows : (x : Grammar Block (Unit {0})) (q : Plan) (b : Block) (h : Sheet) (n : ℕ) (s : State) → Fits Final q b x → Tells-row q.role q b h
      → row_of (found (lines_of form u) q h n (watch (fields form u) x s)) ≡ nth_in n (run (fields form u) x s)
  unfolding watch on_seen found run on_drawn nth_in row_by Fits is_ended is_over
  rows (ask f k) q b h n s fit x = go (fields form u f s) refl (λ a p c i t. rows (k a) p c i n t)
    where
      go : (d : Drawn State (Answer f)) → fields form u f s ≡ d
          → ((a : Answer f) (p : Plan) (c : Block) (i : Sheet) (t : State) → Fits Final p c (k a) → Tells-row p.role p c i → row_of (found (lines_of form u) p i n (watch (fields form u) (k a) t)) ≡ nth_in n (run (fields form u) (k a) t))
          → row_of (found (lines_of form u) q h n (on_seen f s d (λ a t. watch (fields form u) (k a) t))) ≡ nth_in n (on_drawn d (λ a t. run (fields form u) (k a) t))
      go (got a t) e more = more a _ _ _ t (fit.3 a (meets form u f s a t e))
          (behind-row form u (moved_on q) b h f fit.2 a s t e (eqb-false (code_of (moved_on q).role) 0 (settled-goes q)) (eqb-false (code_of (moved_on q).role) 28 fit.1) (settled-row q b h x))
      go (not why) e more = refl
  rows (emit e p y) q b h zero s fit x = row-append h.head (clock_line q ∷ h.own) no_block ∙ (ended-row q b h fit.0 x).row ∙ sym fit.4
  rows (emit e p y) q b h (suc n) s fit x =
      ap row_of (found-onward (lines_of form u) (fields form u) q b h n y s fit.0 fit.5) ∙ rows y (onward q) b h n s fit.5 (onward-row q b h (ended-row q b h fit.0 x))
  rows (stop c p) q b h n s fit x = refl
  rows (done a) q b h n s fit x = refl
