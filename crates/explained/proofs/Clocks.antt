-- A block's clock, as its lines tell it: the section's first clock and the size of what was added.
use Prim.Native.Nat.{ℕ, zero, suc, ◌≤◌}
use native.Mathlib.Omega.{arith}
use mathlib.Core.Path.{◌≡◌, refl, sym, ap, subst, ◌∙◌}
use mathlib.Core.Logic.{◌≢◌}
use mathlib.Core.Bool.{Bool, true, false}
use mathlib.Core.List.{List, [], ◌∷◌, ◌++◌}
use lib.Dec.{eqb}
use borrow.Author.Tests.{ne_eqb, eqb-true, eqb-false}
use Rattle.numbers.specs.Number.{pick}
use Rattle.numbers.specs.Limits.{max_clock}
use Rattle.text.specs.declared.Part.{Part}
use Rattle.block.specs.declared.Block.{Block}
use Rattle.block.specs.Row.{no_block, no_part}
use Rattle.grammar.specs.Grammar as grammar
use Rattle.grammar.specs.Grammar.{Number, Field, Answer, Grammar, ask, emit, stop, done}
use Rattle.grammar.specs.Blocks.{all_blocks}
use Rattle.grammar.specs.Course.{Drawn, got, not, CourseTo, on_drawn, run}
use Rattle.decoder.specs.States.{State}
use Rattle.decoder.specs.Columned.{columned}
use Rattle.decoder.specs.ColumnedInner.{fields}
use Rattle.decoder.specs.Opening.{opened_of}
use Rattle.decoder.specs.Update.{rest_places, in_columns, blocks_of}
use Rattle.decoder.proofs.Laws.{run-columned}
use Rattle.cells.specs.Cells.{state_in}
use Rattle.content.specs.Content.{nth}
use Rattle.roles.specs.declared.Role.{Role}
use Rattle.roles.specs.declared.Role.TheVariants as role
use Rattle.roles.specs.declared.Plan.{Plan}
use Rattle.roles.specs.Roles.{start, go_to, sectioned, announced, onward, headed, informed, info_role, plan_after, after, moved_on, code_of, is_ended, block_role, section_role}
use Rattle.roles.specs.RolesInner.{is_over}
use Rattle.origins.specs.declared.Line.{Line}
use Rattle.origins.specs.Origins.{plain_line, line_at, lines_in_line, number_line, lines_in}
use Rattle.telling.specs.Telling.{heard}
use Rattle.telling.specs.TellingInner.{field_of, field_at, lines_of}
use Rattle.explainer.specs.Watch.{on_seen, watch}
use Rattle.explainer.specs.Explanation.{Sheet, blank, noted, clock_line, found, on_opened, explanation}
use Rattle.explainer.specs.Record.{head_row, id_row, content_row, name_row, rowed}
use Rattle.explainer.specs.Following.{followed}
use Rattle.explainer.proofs.Fits.{part_of, begun, told, Fits, settled_here, settled-ended}
use Rattle.explainer.proofs.Labels.{Final, all_fit}
use Rattle.explainer.proofs.Going.{most, Own, OwnOrOver, Goes, own-goes, info-goes}
use Rattle.explainer.proofs.Holding.{own_code, noted-own, ended-role}
use Rattle.explainer.proofs.Turns.{meets, found-onward}
use Rattle.explainer.proofs.Forms.{column-found, first_byte, line-explains}
use Rattle.explained.specs.Told.{Clock-told, Clock-is}
use Rattle.explained.proofs.Telling.{nth_in, settled-goes}
use Rattle.explained.proofs.Values.{nth-placed, at_first}

-- ---- the head's lines, as far as they were drawn

pub record One (h : Sheet) : Type 0 where
  pub count : Line
  pub lines : h.head ≡ count ∷ []

pub record Two (h : Sheet) : Type 0 where
  pub count : Line
  pub client : Line
  pub lines : h.head ≡ count ∷ client ∷ []

pub record Three (q : Plan) (h : Sheet) : Type 0 where
  pub count : Line
  pub client : Line
  pub first : Line
  pub lines : h.head ≡ count ∷ client ∷ first ∷ []
  pub named : first.field ≡ 4
  pub is : first.value ≡ q.first

abbrev pub Clocked : Plan → Block → Sheet → Type 0
Clocked q b h = Three q h × (b.clock ≡ q.clock)

unfoldable pub Tells-clock : Role → Plan → Block → Sheet → Type 0
Tells-clock role.Sections q b h = Unit {0}
Tells-clock role.Blocks q b h = Unit {0}
Tells-clock role.Client q b h = One h
Tells-clock role.FirstClock q b h = Two h
Tells-clock role.Info q b h = Three q h
Tells-clock role.SkipLength q b h = Clocked q b h
Tells-clock role.GcLength q b h = Clocked q b h
Tells-clock role.LeftClient q b h = Clocked q b h
Tells-clock role.LeftClock q b h = Clocked q b h
Tells-clock role.RightClient q b h = Clocked q b h
Tells-clock role.RightClock q b h = Clocked q b h
Tells-clock role.ParentInfo q b h = Clocked q b h
Tells-clock role.ParentName q b h = Clocked q b h
Tells-clock role.ParentClient q b h = Clocked q b h
Tells-clock role.ParentClock q b h = Clocked q b h
Tells-clock role.Key q b h = Clocked q b h
Tells-clock role.DeletedLength q b h = Clocked q b h
Tells-clock role.Binary q b h = Clocked q b h
Tells-clock role.Text q b h = Clocked q b h
Tells-clock role.MarkKey q b h = Clocked q b h
Tells-clock role.MarkValue q b h = Clocked q b h
Tells-clock role.TypeNumber q b h = Clocked q b h
Tells-clock role.NodeName q b h = Clocked q b h
Tells-clock role.ListLength q b h = Clocked q b h
Tells-clock role.ListValues q b h = Clocked q b h
Tells-clock role.Ended q b h = Clocked q b h
Tells-clock role.Over q b h = Unit {0}

clock-own : (r : Role) (q : Plan) (b : Block) (h : Sheet) → OwnOrOver r → Clocked q b h → Tells-clock r q b h
unfolding Tells-clock OwnOrOver
clock-own role.Sections q b h o x = absurd o
clock-own role.Blocks q b h o x = absurd o
clock-own role.Client q b h o x = absurd o
clock-own role.FirstClock q b h o x = absurd o
clock-own role.Info q b h o x = absurd o
clock-own role.SkipLength q b h o x = x
clock-own role.GcLength q b h o x = x
clock-own role.LeftClient q b h o x = x
clock-own role.LeftClock q b h o x = x
clock-own role.RightClient q b h o x = x
clock-own role.RightClock q b h o x = x
clock-own role.ParentInfo q b h o x = x
clock-own role.ParentName q b h o x = x
clock-own role.ParentClient q b h o x = x
clock-own role.ParentClock q b h o x = x
clock-own role.Key q b h o x = x
clock-own role.DeletedLength q b h o x = x
clock-own role.Binary q b h o x = x
clock-own role.Text q b h o x = x
clock-own role.MarkKey q b h o x = x
clock-own role.MarkValue q b h o x = x
clock-own role.TypeNumber q b h o x = x
clock-own role.NodeName q b h o x = x
clock-own role.ListLength q b h o x = x
clock-own role.ListValues q b h o x = x
clock-own role.Ended q b h o x = x
clock-own role.Over q b h o x = tt

-- what a block's own line puts leaves the clock
own-clock : (r : Role) → Own r → (v : ℕ) (p : Part) (b : Block) → (rowed (code_of r) v p b).clock ≡ b.clock
unfolding Own code_of rowed head_row id_row content_row name_row
own-clock role.Sections o v p b = absurd o
own-clock role.Blocks o v p b = absurd o
own-clock role.Client o v p b = absurd o
own-clock role.FirstClock o v p b = absurd o
own-clock role.Info o v p b = absurd o
own-clock role.SkipLength o v p b = refl
own-clock role.GcLength o v p b = refl
own-clock role.LeftClient o v p b = refl
own-clock role.LeftClock o v p b = refl
own-clock role.RightClient o v p b = refl
own-clock role.RightClock o v p b = refl
own-clock role.ParentInfo o v p b = refl
own-clock role.ParentName o v p b = refl
own-clock role.ParentClient o v p b = refl
own-clock role.ParentClock o v p b = refl
own-clock role.Key o v p b = refl
own-clock role.DeletedLength o v p b = refl
own-clock role.Binary o v p b = refl
own-clock role.Text o v p b = refl
own-clock role.MarkKey o v p b = refl
own-clock role.MarkValue o v p b = refl
own-clock role.TypeNumber o v p b = refl
own-clock role.NodeName o v p b = refl
own-clock role.ListLength o v p b = refl
own-clock role.ListValues o v p b = refl
own-clock role.Ended o v p b = refl
own-clock role.Over o v p b = absurd o

section-clock : (n : ℕ) (q : Plan) (b : Block) (h : Sheet) → Tells-clock (section_role n) q b h
unfolding section_role Tells-clock
section-clock n q b h = go (eqb n 0)
  where
    go : (x : Bool) → Tells-clock (pick x role.Over role.Blocks) q b h
    go true = tt
    go false = tt

block-clock : (k n : ℕ) (q : Plan) (b : Block) (h : Sheet) → Three q h → Tells-clock (block_role k n) q b h
unfolding block_role Tells-clock
block-clock k n q b h e = go (eqb k 0)
  where
    go : (x : Bool) → Tells-clock (pick x (section_role n) role.Info) q b h
    go true = section-clock n q b h
    go false = e

three-same : (q q₁ : Plan) (h : Sheet) → q₁.first ≡ q.first → Three q h → Three q₁ h
three-same q q₁ h e x = record { count = x.count; client = x.client; first = x.first; lines = x.lines; named = x.named; is = x.is ∙ sym e }

-- ---- a draw

module _ (form : ℕ) (u : List ℕ) where
  -- the line of a number
  pub record Single (code v : ℕ) (ls : List Line) : Type 0 where
    pub line : Line
    pub lines : ls ≡ line ∷ []
    pub field : line.field ≡ code
    pub value : line.value ≡ v

  single : (code : ℕ) (n : Number) (a : ℕ × ℕ) (s t : State) → Single code a.0 (lines_of form u code (grammar.number n) a s t)
  unfolding lines_of lines_in line_at plain_line number_line
  single code n a s t = go (eqb form 1)
    where
      go : (x : Bool) → Single code a.0 (pick x (lines_in_line code (grammar.number n) a s.at t.at) (lines_in u code (grammar.number n) a s t))
      go true = record { line = plain_line code a.0 s.at t.at; lines = refl; field = refl; value = refl }
      go false = record { line = number_line u code n a.0 s.at _ t; lines = refl; field = refl; value = refl }

  own-clocked : (r : Role) (q : Plan) (b : Block) (h : Sheet) (ls : List Line) (v p : ℕ) (w : ℕ) (part : Part) → Own r → code_of r ≢ 0 → Clocked q b h
      → Tells-clock (plan_after r q v p).role (plan_after r q v p) (rowed (code_of r) w part b) (noted (code_of r) ls h)
  unfolding is_ended go_to
  own-clocked r q b h ls v p w part o n0 x = clock-own (plan_after r q v p).role (plan_after r q v p) _ _ goes.own (
    subst (λ (y : Sheet). Three (plan_after r q v p) y) (sym (noted-own (code_of r) ls h (own_code r o n0))) (three-own (three-same q (plan_after r q v p) h goes.first x.0)),
    own-clock r o w part b ∙ x.1 ∙ sym goes.clock,
  )
    where
      goes : Goes (most (field_of r q)) r q (plan_after r q v p)
      goes = own-goes r q v p o (ne_eqb (code_of r) 0 n0)

      three-own : Three (plan_after r q v p) h → Three (plan_after r q v p) (record { head = h.head; own = h.own ++ ls })
      three-own y = record { count = y.count; client = y.client; first = y.first; lines = y.lines; named = y.named; is = y.is }

  draw-clock : (r : Role) (q : Plan) (b : Block) (h : Sheet) (a : Answer (field_of r q)) (s t : State) → code_of r ≢ 0 → code_of r ≢ 28 → Tells-clock r q b h
      → Tells-clock (plan_after r q (heard (field_of r q) a).0 (heard (field_of r q) a).1).role (plan_after r q (heard (field_of r q) a).0 (heard (field_of r q) a).1) (rowed (code_of r) (heard (field_of r q) a).0 (part_of (field_of r q) a) (pick (eqb (code_of r) 6) (rowed 5 q.clock no_part b) b)) (noted (code_of r) (lines_of form u (code_of r) (field_of r q) a s t) h)
  unfolding Tells-clock plan_after code_of Own sectioned announced go_to headed onward informed noted rowed head_row id_row content_row name_row field_of heard part_of
  draw-clock role.Sections q b h a s t n0 n28 x = section-clock a.0 _ _ _
  draw-clock role.Blocks q b h a s t n0 n28 x = let l = single 2 (grammar.up_to q.room) a s t in record { count = l.line; lines = l.lines }
  draw-clock role.Client q b h a s t n0 n28 x =
      let l = single 3 grammar.client a s t in
      record { count = x.count; client = l.line; lines = ap (λ (y : List Line). y ++ lines_of form u 3 (grammar.number grammar.client) a s t) x.lines ∙ ap (λ (y : List Line). x.count ∷ y) l.lines }
  draw-clock role.FirstClock q b h a s t n0 n28 x =
      let l = single 4 (grammar.up_to max_clock) a s t in
      block-clock q.blocks q.sections _ _ _ (record { count = x.count; client = x.client; first = l.line; lines = ap (λ (y : List Line). y ++ lines_of form u 4 (grammar.number (grammar.up_to max_clock)) a s t) x.lines ∙ ap (λ (y : List Line). x.count ∷ x.client ∷ y) l.lines; named = l.field; is = l.value })
  draw-clock role.Info q b h a s t n0 n28 x = clock-own (info_role a.0) _ _ _ (info-goes q a.0 a.1).own
      (record { count = x.count; client = x.client; first = x.first; lines = x.lines; named = x.named; is = x.is }, refl)
  draw-clock role.SkipLength q b h a s t n0 n28 x = own-clocked role.SkipLength q b h (lines_of form u (code_of role.SkipLength) (field_of role.SkipLength q) a s t) (heard (field_of role.SkipLength q) a).0 (heard (field_of role.SkipLength q) a).1 (heard (field_of role.SkipLength q) a).0 (part_of (field_of role.SkipLength q) a) tt n0 x
  draw-clock role.GcLength q b h a s t n0 n28 x = own-clocked role.GcLength q b h (lines_of form u (code_of role.GcLength) (field_of role.GcLength q) a s t) (heard (field_of role.GcLength q) a).0 (heard (field_of role.GcLength q) a).1 (heard (field_of role.GcLength q) a).0 (part_of (field_of role.GcLength q) a) tt n0 x
  draw-clock role.LeftClient q b h a s t n0 n28 x = own-clocked role.LeftClient q b h (lines_of form u (code_of role.LeftClient) (field_of role.LeftClient q) a s t) (heard (field_of role.LeftClient q) a).0 (heard (field_of role.LeftClient q) a).1 (heard (field_of role.LeftClient q) a).0 (part_of (field_of role.LeftClient q) a) tt n0 x
  draw-clock role.LeftClock q b h a s t n0 n28 x = own-clocked role.LeftClock q b h (lines_of form u (code_of role.LeftClock) (field_of role.LeftClock q) a s t) (heard (field_of role.LeftClock q) a).0 (heard (field_of role.LeftClock q) a).1 (heard (field_of role.LeftClock q) a).0 (part_of (field_of role.LeftClock q) a) tt n0 x
  draw-clock role.RightClient q b h a s t n0 n28 x = own-clocked role.RightClient q b h (lines_of form u (code_of role.RightClient) (field_of role.RightClient q) a s t) (heard (field_of role.RightClient q) a).0 (heard (field_of role.RightClient q) a).1 (heard (field_of role.RightClient q) a).0 (part_of (field_of role.RightClient q) a) tt n0 x
  draw-clock role.RightClock q b h a s t n0 n28 x = own-clocked role.RightClock q b h (lines_of form u (code_of role.RightClock) (field_of role.RightClock q) a s t) (heard (field_of role.RightClock q) a).0 (heard (field_of role.RightClock q) a).1 (heard (field_of role.RightClock q) a).0 (part_of (field_of role.RightClock q) a) tt n0 x
  draw-clock role.ParentInfo q b h a s t n0 n28 x = own-clocked role.ParentInfo q b h (lines_of form u (code_of role.ParentInfo) (field_of role.ParentInfo q) a s t) (heard (field_of role.ParentInfo q) a).0 (heard (field_of role.ParentInfo q) a).1 (heard (field_of role.ParentInfo q) a).0 (part_of (field_of role.ParentInfo q) a) tt n0 x
  draw-clock role.ParentName q b h a s t n0 n28 x = own-clocked role.ParentName q b h (lines_of form u (code_of role.ParentName) (field_of role.ParentName q) a s t) (heard (field_of role.ParentName q) a).0 (heard (field_of role.ParentName q) a).1 (heard (field_of role.ParentName q) a).0 (part_of (field_of role.ParentName q) a) tt n0 x
  draw-clock role.ParentClient q b h a s t n0 n28 x = own-clocked role.ParentClient q b h (lines_of form u (code_of role.ParentClient) (field_of role.ParentClient q) a s t) (heard (field_of role.ParentClient q) a).0 (heard (field_of role.ParentClient q) a).1 (heard (field_of role.ParentClient q) a).0 (part_of (field_of role.ParentClient q) a) tt n0 x
  draw-clock role.ParentClock q b h a s t n0 n28 x = own-clocked role.ParentClock q b h (lines_of form u (code_of role.ParentClock) (field_of role.ParentClock q) a s t) (heard (field_of role.ParentClock q) a).0 (heard (field_of role.ParentClock q) a).1 (heard (field_of role.ParentClock q) a).0 (part_of (field_of role.ParentClock q) a) tt n0 x
  draw-clock role.Key q b h a s t n0 n28 x = own-clocked role.Key q b h (lines_of form u (code_of role.Key) (field_of role.Key q) a s t) (heard (field_of role.Key q) a).0 (heard (field_of role.Key q) a).1 (heard (field_of role.Key q) a).0 (part_of (field_of role.Key q) a) tt n0 x
  draw-clock role.DeletedLength q b h a s t n0 n28 x = own-clocked role.DeletedLength q b h (lines_of form u (code_of role.DeletedLength) (field_of role.DeletedLength q) a s t) (heard (field_of role.DeletedLength q) a).0 (heard (field_of role.DeletedLength q) a).1 (heard (field_of role.DeletedLength q) a).0 (part_of (field_of role.DeletedLength q) a) tt n0 x
  draw-clock role.Binary q b h a s t n0 n28 x = own-clocked role.Binary q b h (lines_of form u (code_of role.Binary) (field_of role.Binary q) a s t) (heard (field_of role.Binary q) a).0 (heard (field_of role.Binary q) a).1 (heard (field_of role.Binary q) a).0 (part_of (field_of role.Binary q) a) tt n0 x
  draw-clock role.Text q b h a s t n0 n28 x = own-clocked role.Text q b h (lines_of form u (code_of role.Text) (field_of role.Text q) a s t) (heard (field_of role.Text q) a).0 (heard (field_of role.Text q) a).1 (heard (field_of role.Text q) a).0 (part_of (field_of role.Text q) a) tt n0 x
  draw-clock role.MarkKey q b h a s t n0 n28 x = own-clocked role.MarkKey q b h (lines_of form u (code_of role.MarkKey) (field_of role.MarkKey q) a s t) (heard (field_of role.MarkKey q) a).0 (heard (field_of role.MarkKey q) a).1 (heard (field_of role.MarkKey q) a).0 (part_of (field_of role.MarkKey q) a) tt n0 x
  draw-clock role.MarkValue q b h a s t n0 n28 x = own-clocked role.MarkValue q b h (lines_of form u (code_of role.MarkValue) (field_of role.MarkValue q) a s t) (heard (field_of role.MarkValue q) a).0 (heard (field_of role.MarkValue q) a).1 (heard (field_of role.MarkValue q) a).0 (part_of (field_of role.MarkValue q) a) tt n0 x
  draw-clock role.TypeNumber q b h a s t n0 n28 x = own-clocked role.TypeNumber q b h (lines_of form u (code_of role.TypeNumber) (field_of role.TypeNumber q) a s t) (heard (field_of role.TypeNumber q) a).0 (heard (field_of role.TypeNumber q) a).1 (heard (field_of role.TypeNumber q) a).0 (part_of (field_of role.TypeNumber q) a) tt n0 x
  draw-clock role.NodeName q b h a s t n0 n28 x = own-clocked role.NodeName q b h (lines_of form u (code_of role.NodeName) (field_of role.NodeName q) a s t) (heard (field_of role.NodeName q) a).0 (heard (field_of role.NodeName q) a).1 (heard (field_of role.NodeName q) a).0 (part_of (field_of role.NodeName q) a) tt n0 x
  draw-clock role.ListLength q b h a s t n0 n28 x = own-clocked role.ListLength q b h (lines_of form u (code_of role.ListLength) (field_of role.ListLength q) a s t) (heard (field_of role.ListLength q) a).0 (heard (field_of role.ListLength q) a).1 (heard (field_of role.ListLength q) a).0 (part_of (field_of role.ListLength q) a) tt n0 x
  draw-clock role.ListValues q b h a s t n0 n28 x = own-clocked role.ListValues q b h (lines_of form u (code_of role.ListValues) (field_of role.ListValues q) a s t) (heard (field_of role.ListValues q) a).0 (heard (field_of role.ListValues q) a).1 (heard (field_of role.ListValues q) a).0 (part_of (field_of role.ListValues q) a) tt n0 x
  draw-clock role.Ended q b h a s t n0 n28 x = absurd (n0 refl)
  draw-clock role.Over q b h a s t n0 n28 x = absurd (n28 refl)

  behind-clock : (p : Plan) (b : Block) (h : Sheet) (f : Field) → field_at p ≡ f → (a : Answer f) (s t : State) → code_of p.role ≢ 0 → code_of p.role ≢ 28 → Tells-clock p.role p b h
      → Tells-clock (after p (heard f a).0 (heard f a).1).role (after p (heard f a).0 (heard f a).1) (told p f a b) (noted (code_of p.role) (lines_of form u (code_of p.role) f a s t) h)
  unfolding after told begun
  behind-clock p b h f e = subst (λ (g : Field). (a : Answer g) (s t : State) → code_of p.role ≢ 0 → code_of p.role ≢ 28 → Tells-clock p.role p b h → Tells-clock (after p (heard g a).0 (heard g a).1).role (after p (heard g a).0 (heard g a).1) (told p g a b) (noted (code_of p.role) (lines_of form u (code_of p.role) g a s t) h)) e (λ a s t n0 n28 x. draw-clock p.role p b h a s t n0 n28 x)

-- ---- from a block's end onward

ended-clock : (q : Plan) (b : Block) (h : Sheet) → is_ended q ≡ true → Tells-clock q.role q b h → Clocked q b h
unfolding is_ended Tells-clock
ended-clock q b h e x = subst (λ (r : Role). Tells-clock r q b h) (ended-role q.role (eqb-true (code_of q.role) 0 e)) x

onward-clock : (q : Plan) (b : Block) (h : Sheet) → Three q h → Tells-clock (onward q).role (onward q) b h
unfolding onward
onward-clock q b h x = block-clock q.blocks q.sections _ b h (three-same q _ h refl x)

settled-clock : (q : Plan) (b : Block) (h : Sheet) → Tells-clock q.role q b h → Tells-clock (moved_on q).role (moved_on q) b h
settled-clock q b h x = go (is_ended q) refl
  where
    go : (y : Bool) → is_ended q ≡ y → Tells-clock (moved_on q).role (moved_on q) b h
    go true e = subst (λ (p : Plan). Tells-clock p.role p b h) (sym (settled-ended q e)) (onward-clock q b h (ended-clock q b h e x).0)
    go false e = subst (λ (p : Plan). Tells-clock p.role p b h) (sym (settled_here q e)) x

-- ---- all that is read

-- no line, or lines that tell the clock of b
abbrev pub Says : List Line → Block → Type 0
Says ls b = ls ≢ [] → Clock-told ls b

said : (q : Plan) (b e : Block) (h : Sheet) → q.first ≤ q.clock → e ≡ b → Clocked q b h → Clock-told (h.head ++ (clock_line q ∷ h.own)) e
unfolding clock_line
said q b e h low same x = record {
  count = x.0.count;
  client = x.0.client;
  first = x.0.first;
  clock = clock_line q;
  own = h.own;
  lines = ap (λ (y : List Line). y ++ (clock_line q ∷ h.own)) x.0.lines;
  named = (x.0.named, refl);
  base = sym x.0.is;
  sum = omega (arith, low, x.0.is);
  is = ap (λ (y : Block). y.clock) same ∙ x.1;
}

module _ (form : ℕ) (u : List ℕ) where
  clocks : (x : Grammar Block (Unit {0})) (q : Plan) (b : Block) (h : Sheet) (n : ℕ) (s : State) → Fits Final q b x → Tells-clock q.role q b h
      → Says (found (lines_of form u) q h n (watch (fields form u) x s)) (nth_in n (run (fields form u) x s))
  unfolding watch on_seen found run on_drawn nth_in Fits is_ended is_over
  clocks (ask f k) q b h n s fit x = go (fields form u f s) refl (λ a p c i t. clocks (k a) p c i n t)
    where
      go : (d : Drawn State (Answer f)) → fields form u f s ≡ d
          → ((a : Answer f) (p : Plan) (c : Block) (i : Sheet) (t : State) → Fits Final p c (k a) → Tells-clock p.role p c i → Says (found (lines_of form u) p i n (watch (fields form u) (k a) t)) (nth_in n (run (fields form u) (k a) t)))
          → Says (found (lines_of form u) q h n (on_seen f s d (λ a t. watch (fields form u) (k a) t))) (nth_in n (on_drawn d (λ a t. run (fields form u) (k a) t)))
      go (got a t) e more = more a _ _ _ t (fit.3 a (meets form u f s a t e))
          (behind-clock form u (moved_on q) b h f fit.2 a s t (eqb-false (code_of (moved_on q).role) 0 (settled-goes q)) (eqb-false (code_of (moved_on q).role) 28 fit.1) (settled-clock q b h x))
      go (not why) e more = λ no. absurd (no refl)
  clocks (emit e p y) q b h zero s fit x = λ _. said q b e h fit.3 fit.4 (ended-clock q b h fit.0 x)
  clocks (emit e p y) q b h (suc n) s fit x = subst (λ (ls : List Line). Says ls (nth_in n (run (fields form u) y s))) (sym (found-onward (lines_of form u) (fields form u) q b h n y s fit.0 fit.5))
      (clocks y (onward q) b h n s fit.5 (onward-clock q b h (ended-clock q b h fit.0 x).0))
  clocks (stop c p) q b h n s fit x = λ no. absurd (no refl)
  clocks (done a) q b h n s fit x = λ no. absurd (no refl)

followed-clock : (form : ℕ) (u : List ℕ) (n : ℕ) (s : State) → Says (followed form u n s) (nth n (rest_places (run (fields form u) all_blocks s)))
unfolding followed Tells-clock
followed-clock form u n s = subst (λ (b : Block). Says (followed form u n s) b) (nth-placed n (run (fields form u) all_blocks s)) (clocks form u all_blocks start no_block blank n s (all_fit no_block) tt)

opened-clock : (form : ℕ) (u : List ℕ) (n : ℕ) → form ≢ 1 → (d : Drawn State (Unit {0})) → Says (on_opened u n d) (nth n (rest_places (on_drawn d (λ _ s. run (columned u) all_blocks s))))
unfolding on_opened on_drawn followed
opened-clock form u n other (got a s) =
    subst (λ (ls : List Line). Says ls (nth n (rest_places (run (columned u) all_blocks s)))) (column-found form u other all_blocks start blank n s)
    (subst (λ (c : CourseTo State Block (Unit {0})). Says (followed form u n s) (nth n (rest_places c))) (run-columned form u other all_blocks s) (followed-clock form u n s))
opened-clock form u n other (not why) = λ no. absurd (no refl)

columned-clock : (form : ℕ) (u : List ℕ) (n : ℕ) → form ≢ 1 → Says (explanation form u n) (nth n (blocks_of form u))
unfolding explanation blocks_of in_columns
columned-clock form u n other = rw (ne_eqb form 1 other) (opened-clock form u n other (opened_of u))

-- where block n has lines, its clock is the first clock of its section and the size of its clock's line
pub clock-is : Clock-is
clock-is form u n = go (eqb form 1) refl
  where
    go : (x : Bool) → eqb form 1 ≡ x → Says (explanation form u n) (nth n (blocks_of form u))
    go true e = subst (λ (ls : List Line). Says ls (nth n (blocks_of form u))) (line-explains form u [] (eqb-true form 1 e) at_first n)
        (subst (λ (c : CourseTo ℕ Block (Unit {0})). Says (followed form u n (state_in [])) (nth n c)) (sym (first_byte form u [] (eqb-true form 1 e) at_first)) (followed-clock form u n (state_in [])))
    go false e = columned-clock form u n (eqb-false form 1 e)
