-- What the sheet's words hold of the lines that were noted, by what is drawn next.
use Prim.Native.Nat.{ℕ, suc, ◌+◌, ◌-◌, ◌≤◌}
use native.Mathlib.Omega.{arith}
use mathlib.Core.Path.{◌≡◌, refl, sym, ap, subst, ◌∙◌}
use mathlib.Core.Logic.{◌≢◌}
use mathlib.Core.Bool.{Bool, true, false}
use mathlib.Core.List.{List, ◌∷◌, ◌++◌}
use lib.Dec.{eqb}
use borrow.Author.Tests.{ne_eqb, eqb-true, eqb-false, le-ltb}
use Rattle.numbers.specs.Number.{pick}
use Rattle.roles.specs.declared.Role.{Role}
use Rattle.roles.specs.declared.Role.TheVariants as role
use Rattle.roles.specs.declared.Plan.{Plan}
use Rattle.roles.specs.Roles.{go_to, sectioned, announced, onward, headed, informed, info_role, plan_after, code_of, is_ended, block_role, section_role}
use Rattle.origins.specs.declared.Line.{Line}
use Rattle.origins.specs.Sheets.{line_in, lines_from, Above}
use Rattle.telling.specs.TellingInner.{field_of}
use Rattle.explainer.specs.Explanation.{Sheet, noted, clock_line}
use Rattle.explainer.specs.Following.{line_for, Placed}
use Rattle.explainer.proofs.Going.{weight, most, Own, OwnOrOver, Goes, own-goes, info-goes}
use Rattle.explainer.proofs.Sheets.{lines_stay, lines_join}

-- of a block under way: its head's lines, its clock's, its own up to the next, and room for those to come
pub record Held (r : Role) (q : Plan) (h : Sheet) (sh : List ℕ) (own : ℕ) : Type 0 where
  pub head : h.head ≡ lines_from sh 0 3
  pub clock : line_in sh 3 ≡ clock_line q
  pub lines : h.own ≡ lines_from sh 4 (own - 4)
  pub from : 4 ≤ own
  pub room : own + weight r ≤ 14

unfoldable pub Holds : Role → Plan → Sheet → List ℕ → ℕ → Type 0
Holds role.Sections q h sh own = Unit {0}
Holds role.Blocks q h sh own = 1 ≤ q.sections
Holds role.Client q h sh own = h.head ≡ lines_from sh 0 1
Holds role.FirstClock q h sh own = h.head ≡ lines_from sh 0 2
Holds role.Info q h sh own = h.head ≡ lines_from sh 0 3
Holds role.SkipLength q h sh own = Held role.SkipLength q h sh own
Holds role.GcLength q h sh own = Held role.GcLength q h sh own
Holds role.LeftClient q h sh own = Held role.LeftClient q h sh own
Holds role.LeftClock q h sh own = Held role.LeftClock q h sh own
Holds role.RightClient q h sh own = Held role.RightClient q h sh own
Holds role.RightClock q h sh own = Held role.RightClock q h sh own
Holds role.ParentInfo q h sh own = Held role.ParentInfo q h sh own
Holds role.ParentName q h sh own = Held role.ParentName q h sh own
Holds role.ParentClient q h sh own = Held role.ParentClient q h sh own
Holds role.ParentClock q h sh own = Held role.ParentClock q h sh own
Holds role.Key q h sh own = Held role.Key q h sh own
Holds role.DeletedLength q h sh own = Held role.DeletedLength q h sh own
Holds role.Binary q h sh own = Held role.Binary q h sh own
Holds role.Text q h sh own = Held role.Text q h sh own
Holds role.MarkKey q h sh own = Held role.MarkKey q h sh own
Holds role.MarkValue q h sh own = Held role.MarkValue q h sh own
Holds role.TypeNumber q h sh own = Held role.TypeNumber q h sh own
Holds role.NodeName q h sh own = Held role.NodeName q h sh own
Holds role.ListLength q h sh own = Held role.ListLength q h sh own
Holds role.ListValues q h sh own = Held role.ListValues q h sh own
Holds role.Ended q h sh own = Held role.Ended q h sh own
Holds role.Over q h sh own = Unit {0}

holds-own : (r : Role) (q : Plan) (h : Sheet) (sh : List ℕ) (own : ℕ) → OwnOrOver r → Held r q h sh own → Holds r q h sh own
unfolding Holds OwnOrOver
holds-own role.Sections q h sh own o x = absurd o
holds-own role.Blocks q h sh own o x = absurd o
holds-own role.Client q h sh own o x = absurd o
holds-own role.FirstClock q h sh own o x = absurd o
holds-own role.Info q h sh own o x = absurd o
holds-own role.SkipLength q h sh own o x = x
holds-own role.GcLength q h sh own o x = x
holds-own role.LeftClient q h sh own o x = x
holds-own role.LeftClock q h sh own o x = x
holds-own role.RightClient q h sh own o x = x
holds-own role.RightClock q h sh own o x = x
holds-own role.ParentInfo q h sh own o x = x
holds-own role.ParentName q h sh own o x = x
holds-own role.ParentClient q h sh own o x = x
holds-own role.ParentClock q h sh own o x = x
holds-own role.Key q h sh own o x = x
holds-own role.DeletedLength q h sh own o x = x
holds-own role.Binary q h sh own o x = x
holds-own role.Text q h sh own o x = x
holds-own role.MarkKey q h sh own o x = x
holds-own role.MarkValue q h sh own o x = x
holds-own role.TypeNumber q h sh own o x = x
holds-own role.NodeName q h sh own o x = x
holds-own role.ListLength q h sh own o x = x
holds-own role.ListValues q h sh own o x = x
holds-own role.Ended q h sh own o x = x
holds-own role.Over q h sh own o x = tt

pub held-own : (r : Role) (q : Plan) (h : Sheet) (sh : List ℕ) (own : ℕ) → Own r → Holds r q h sh own → Held r q h sh own
unfolding Holds Own
held-own role.Sections q h sh own o x = absurd o
held-own role.Blocks q h sh own o x = absurd o
held-own role.Client q h sh own o x = absurd o
held-own role.FirstClock q h sh own o x = absurd o
held-own role.Info q h sh own o x = absurd o
held-own role.SkipLength q h sh own o x = x
held-own role.GcLength q h sh own o x = x
held-own role.LeftClient q h sh own o x = x
held-own role.LeftClock q h sh own o x = x
held-own role.RightClient q h sh own o x = x
held-own role.RightClock q h sh own o x = x
held-own role.ParentInfo q h sh own o x = x
held-own role.ParentName q h sh own o x = x
held-own role.ParentClient q h sh own o x = x
held-own role.ParentClock q h sh own o x = x
held-own role.Key q h sh own o x = x
held-own role.DeletedLength q h sh own o x = x
held-own role.Binary q h sh own o x = x
held-own role.Text q h sh own o x = x
held-own role.MarkKey q h sh own o x = x
held-own role.MarkValue q h sh own o x = x
held-own role.TypeNumber q h sh own o x = x
held-own role.NodeName q h sh own o x = x
held-own role.ListLength q h sh own o x = x
held-own role.ListValues q h sh own o x = x
held-own role.Ended q h sh own o x = x
held-own role.Over q h sh own o x = absurd o

-- the number of a role of a block's own
pub own_code : (r : Role) → Own r → code_of r ≢ 0 → 7 ≤ code_of r
unfolding Own code_of
own_code role.Sections o e = absurd o
own_code role.Blocks o e = absurd o
own_code role.Client o e = absurd o
own_code role.FirstClock o e = absurd o
own_code role.Info o e = absurd o
own_code role.SkipLength o e = omega arith
own_code role.GcLength o e = omega arith
own_code role.LeftClient o e = omega arith
own_code role.LeftClock o e = omega arith
own_code role.RightClient o e = omega arith
own_code role.RightClock o e = omega arith
own_code role.ParentInfo o e = omega arith
own_code role.ParentName o e = omega arith
own_code role.ParentClient o e = omega arith
own_code role.ParentClock o e = omega arith
own_code role.Key o e = omega arith
own_code role.DeletedLength o e = omega arith
own_code role.Binary o e = omega arith
own_code role.Text o e = omega arith
own_code role.MarkKey o e = omega arith
own_code role.MarkValue o e = omega arith
own_code role.TypeNumber o e = omega arith
own_code role.NodeName o e = omega arith
own_code role.ListLength o e = omega arith
own_code role.ListValues o e = omega arith
own_code role.Ended o e = absurd (e refl)
own_code role.Over o e = absurd o

pub clock-same : (q q₁ : Plan) → q₁.first ≡ q.first → q₁.clock ≡ q.clock → clock_line q ≡ clock_line q₁
unfolding clock_line
clock-same q q₁ f c = rw (f, c) refl

-- a line of a block's own is noted behind the others
pub noted-own : (c : ℕ) (ls : List Line) (h : Sheet) → 7 ≤ c → noted c ls h ≡ record { head = h.head; own = h.own ++ ls }
unfolding noted code_of
noted-own c ls h high = rw (ne_eqb c 2 (λ x. omega (arith, x, high)), le-ltb c 5 (omega (arith, high)), ne_eqb c 6 (λ x. omega (arith, x, high))) refl

line-own : (c own : ℕ) → 7 ≤ c → line_for c own ≡ own
unfolding line_for
line-own c own high = rw (ne_eqb c 1 (λ x. omega (arith, x, high)), ne_eqb c 2 (λ x. omega (arith, x, high)), ne_eqb c 3 (λ x. omega (arith, x, high)), ne_eqb c 4 (λ x. omega (arith, x, high)), ne_eqb c 6 (λ x. omega (arith, x, high))) refl

section-holds : (n : ℕ) (q : Plan) (h : Sheet) (sh : List ℕ) (own : ℕ) → q.sections ≡ n → Holds (section_role n) q h sh own
unfolding section_role Holds
section-holds n q h sh own is = go (eqb n 0) refl
  where
    go : (x : Bool) → eqb n 0 ≡ x → Holds (pick x role.Over role.Blocks) q h sh own
    go true e = tt
    go false e = omega (arith, eqb-false n 0 e, is)

-- before a block, or a section
pub block-holds : (k n : ℕ) (q : Plan) (h : Sheet) (sh : List ℕ) (own : ℕ) → q.sections ≡ n → h.head ≡ lines_from sh 0 3 → Holds (block_role k n) q h sh own
unfolding block_role Holds
block-holds k n q h sh own is e = go (eqb k 0)
  where
    go : (x : Bool) → Holds (pick x (section_role n) role.Info) q h sh own
    go true = section-holds n q h sh own is
    go false = e

-- a draw from plan q for role r, told at line i of the sheet sh₁ in k lines ls
module _ (r : Role) (q : Plan) (h : Sheet) (own : ℕ) (sh sh₁ sh₂ : List ℕ) (i k : ℕ) (ls : List Line) (e : q.role ≡ r) (placed : Placed q own sh sh₁ i) (above : Above i sh₁ sh₂)
    (lines : lines_from sh₂ i k ≡ ls) (some : 1 ≤ k) where
  there : i ≡ line_for (code_of r) own
  there = placed.line ∙ ap (λ (x : Role). line_for (code_of x) own) e

  unplaced : code_of r ≢ 6 → sh₁ ≡ sh
  unplaced ne = placed.other (λ x. ne (sym (ap code_of e) ∙ x))

  -- from line j on
  beyond : (j : ℕ) → line_for (code_of r) own ≡ j → code_of r ≢ 6 → Above j sh sh₂
  beyond j at ne = subst (λ (x : List ℕ). Above j x sh₂) (unplaced ne) (subst (λ (x : ℕ). Above x sh₁ sh₂) (there ∙ at) above)

  told_at : (j n : ℕ) → line_for (code_of r) own ≡ j → k ≡ n → ls ≡ lines_from sh₂ j n
  told_at j n at kn = sym lines ∙ ap (λ (x : ℕ). lines_from sh₂ x k) (there ∙ at) ∙ ap (λ (x : ℕ). lines_from sh₂ j x) kn

  -- of a block's own
  module _ (o : Own r) (ne : code_of r ≢ 0) (v p : ℕ) (few : k ≤ most (field_of r q)) (held : Held r q h sh own) where
    high : 7 ≤ code_of r
    high = own_code r o ne

    here : line_for (code_of r) own ≡ own
    here = line-own (code_of r) own high

    behind-own : Above own sh sh₂
    behind-own = beyond own here (λ x. omega (arith, x, high))

    goes : Goes (most (field_of r q)) r q (plan_after r q v p)
    unfolding is_ended go_to
    goes = own-goes r q v p o (ne_eqb (code_of r) 0 ne)

    own-lines : h.own ++ ls ≡ lines_from sh₂ 4 (i + k - 4)
    own-lines =
        ap (λ (x : List Line). x ++ ls) (held.lines ∙ sym (lines_stay own sh sh₂ behind-own 4 (own - 4) (omega (arith, held.from))))
        ∙ ap (λ (x : List Line). lines_from sh₂ 4 (own - 4) ++ x) (told_at (4 + (own - 4)) k (here ∙ (let z : own ≡ 4 + (own - 4) = omega (arith, held.from) in z)) refl)
        ∙ lines_join sh₂ 4 (own - 4) k ∙ ap (λ (x : ℕ). lines_from sh₂ 4 x) (let z : own - 4 + k ≡ i + k - 4 = omega (arith, held.from, there ∙ here) in z)

    own_turn : Holds (plan_after r q v p).role (plan_after r q v p) (noted (code_of r) ls h) sh₂ (i + k)
    own_turn = holds-own (plan_after r q v p).role (plan_after r q v p) _ sh₂ (i + k) goes.own
        (subst (λ (x : Sheet). Held (plan_after r q v p).role (plan_after r q v p) x sh₂ (i + k)) (sym (noted-own (code_of r) ls h high)) (record {
          head = held.head ∙ sym (lines_stay own sh sh₂ behind-own 0 3 (omega (arith, held.from)));
          clock = behind-own.same 3 (omega (arith, held.from)) ∙ held.clock ∙ clock-same q (plan_after r q v p) goes.first goes.clock;
          lines = own-lines;
          from = omega (arith, there ∙ here, held.from);
          room = omega (arith, there ∙ here, held.room, goes.less, few);
        }))

-- by the role
module _ (q : Plan) (h : Sheet) (own : ℕ) (sh sh₁ sh₂ : List ℕ) (i k : ℕ) (ls : List Line) (placed : Placed q own sh sh₁ i) (above : Above i sh₁ sh₂)
    (lines : lines_from sh₂ i k ≡ ls) (some : 1 ≤ k) (v p : ℕ) where
  pub draw-holds : (r : Role) → q.role ≡ r → code_of r ≢ 0 → code_of r ≢ 28 → Holds r q h sh own → k ≤ most (field_of r q)
      → Holds (plan_after r q v p).role (plan_after r q v p) (noted (code_of r) ls h) sh₂ (i + k)
  unfolding Holds plan_after go_to announced noted code_of Own most field_of sectioned headed onward informed line_for weight clock_line
  draw-holds role.Sections e n0 n28 x few = section-holds v _ _ sh₂ (i + k) refl
  draw-holds role.Blocks e n0 n28 x few = told_at role.Blocks q h own sh sh₁ sh₂ i k ls e placed above lines some 0 1 refl (omega (arith, some, few))
  draw-holds role.Client e n0 n28 x few =
      ap (λ (y : List Line). y ++ ls) (x ∙ sym (lines_stay 1 sh sh₂ (beyond role.Client q h own sh sh₁ sh₂ i k ls e placed above lines some 1 refl (λ z. omega (arith, z))) 0 1 (omega arith)))
      ∙ ap (λ (y : List Line). lines_from sh₂ 0 1 ++ y) (told_at role.Client q h own sh sh₁ sh₂ i k ls e placed above lines some 1 1 refl (omega (arith, some, few)))
      ∙ lines_join sh₂ 0 1 1
  draw-holds role.FirstClock e n0 n28 x few = block-holds q.blocks q.sections _ _ sh₂ (i + k) refl
      (ap (λ (y : List Line). y ++ ls) (x ∙ sym (lines_stay 2 sh sh₂ (beyond role.FirstClock q h own sh sh₁ sh₂ i k ls e placed above lines some 2 refl (λ z. omega (arith, z))) 0 2 (omega arith)))
      ∙ ap (λ (y : List Line). lines_from sh₂ 0 2 ++ y) (told_at role.FirstClock q h own sh sh₁ sh₂ i k ls e placed above lines some 2 1 refl (omega (arith, some, few)))
      ∙ lines_join sh₂ 0 2 1)
  draw-holds role.Info e n0 n28 x few = holds-own (info_role v) _ _ sh₂ (i + k) goes.own (record {
    head = x ∙ sym (lines_stay 3 sh sh₁ placed.above 0 3 (omega arith)) ∙ sym (lines_stay 4 sh₁ sh₂ from-four 0 3 (omega arith));
    clock = from-four.same 3 (omega arith) ∙ placed.clock (ap code_of e);
    lines = told_at role.Info q h own sh sh₁ sh₂ i k ls e placed above lines some 4 (i + k - 4) refl (omega (arith, at-four));
    from = omega (arith, at-four);
    room = omega (arith, at-four, goes.less, few);
  })
    where
      at-four : i ≡ 4
      at-four = there role.Info q h own sh sh₁ sh₂ i k ls e placed above lines some

      from-four : Above 4 sh₁ sh₂
      from-four = subst (λ (j : ℕ). Above j sh₁ sh₂) at-four above

      goes : Goes 1 role.Info q (informed (info_role v) v p q)
      goes = info-goes q v p
  draw-holds role.SkipLength e n0 n28 x few = own_turn role.SkipLength q h own sh sh₁ sh₂ i k ls e placed above lines some tt n0 v p few x
  draw-holds role.GcLength e n0 n28 x few = own_turn role.GcLength q h own sh sh₁ sh₂ i k ls e placed above lines some tt n0 v p few x
  draw-holds role.LeftClient e n0 n28 x few = own_turn role.LeftClient q h own sh sh₁ sh₂ i k ls e placed above lines some tt n0 v p few x
  draw-holds role.LeftClock e n0 n28 x few = own_turn role.LeftClock q h own sh sh₁ sh₂ i k ls e placed above lines some tt n0 v p few x
  draw-holds role.RightClient e n0 n28 x few = own_turn role.RightClient q h own sh sh₁ sh₂ i k ls e placed above lines some tt n0 v p few x
  draw-holds role.RightClock e n0 n28 x few = own_turn role.RightClock q h own sh sh₁ sh₂ i k ls e placed above lines some tt n0 v p few x
  draw-holds role.ParentInfo e n0 n28 x few = own_turn role.ParentInfo q h own sh sh₁ sh₂ i k ls e placed above lines some tt n0 v p few x
  draw-holds role.ParentName e n0 n28 x few = own_turn role.ParentName q h own sh sh₁ sh₂ i k ls e placed above lines some tt n0 v p few x
  draw-holds role.ParentClient e n0 n28 x few = own_turn role.ParentClient q h own sh sh₁ sh₂ i k ls e placed above lines some tt n0 v p few x
  draw-holds role.ParentClock e n0 n28 x few = own_turn role.ParentClock q h own sh sh₁ sh₂ i k ls e placed above lines some tt n0 v p few x
  draw-holds role.Key e n0 n28 x few = own_turn role.Key q h own sh sh₁ sh₂ i k ls e placed above lines some tt n0 v p few x
  draw-holds role.DeletedLength e n0 n28 x few = own_turn role.DeletedLength q h own sh sh₁ sh₂ i k ls e placed above lines some tt n0 v p few x
  draw-holds role.Binary e n0 n28 x few = own_turn role.Binary q h own sh sh₁ sh₂ i k ls e placed above lines some tt n0 v p few x
  draw-holds role.Text e n0 n28 x few = own_turn role.Text q h own sh sh₁ sh₂ i k ls e placed above lines some tt n0 v p few x
  draw-holds role.MarkKey e n0 n28 x few = own_turn role.MarkKey q h own sh sh₁ sh₂ i k ls e placed above lines some tt n0 v p few x
  draw-holds role.MarkValue e n0 n28 x few = own_turn role.MarkValue q h own sh sh₁ sh₂ i k ls e placed above lines some tt n0 v p few x
  draw-holds role.TypeNumber e n0 n28 x few = own_turn role.TypeNumber q h own sh sh₁ sh₂ i k ls e placed above lines some tt n0 v p few x
  draw-holds role.NodeName e n0 n28 x few = own_turn role.NodeName q h own sh sh₁ sh₂ i k ls e placed above lines some tt n0 v p few x
  draw-holds role.ListLength e n0 n28 x few = own_turn role.ListLength q h own sh sh₁ sh₂ i k ls e placed above lines some tt n0 v p few x
  draw-holds role.ListValues e n0 n28 x few = own_turn role.ListValues q h own sh sh₁ sh₂ i k ls e placed above lines some tt n0 v p few x
  draw-holds role.Ended e n0 n28 x few = absurd (n0 refl)
  draw-holds role.Over e n0 n28 x few = absurd (n28 refl)

-- ---- what the loop asks of it

-- one role alone is a block's end
pub ended-role : (r : Role) → code_of r ≡ 0 → r ≡ role.Ended
unfolding code_of
ended-role role.Sections e = absurd (omega (arith, e))
ended-role role.Blocks e = absurd (omega (arith, e))
ended-role role.Client e = absurd (omega (arith, e))
ended-role role.FirstClock e = absurd (omega (arith, e))
ended-role role.Info e = absurd (omega (arith, e))
ended-role role.SkipLength e = absurd (omega (arith, e))
ended-role role.GcLength e = absurd (omega (arith, e))
ended-role role.LeftClient e = absurd (omega (arith, e))
ended-role role.LeftClock e = absurd (omega (arith, e))
ended-role role.RightClient e = absurd (omega (arith, e))
ended-role role.RightClock e = absurd (omega (arith, e))
ended-role role.ParentInfo e = absurd (omega (arith, e))
ended-role role.ParentName e = absurd (omega (arith, e))
ended-role role.ParentClient e = absurd (omega (arith, e))
ended-role role.ParentClock e = absurd (omega (arith, e))
ended-role role.Key e = absurd (omega (arith, e))
ended-role role.DeletedLength e = absurd (omega (arith, e))
ended-role role.Binary e = absurd (omega (arith, e))
ended-role role.Text e = absurd (omega (arith, e))
ended-role role.MarkKey e = absurd (omega (arith, e))
ended-role role.MarkValue e = absurd (omega (arith, e))
ended-role role.TypeNumber e = absurd (omega (arith, e))
ended-role role.NodeName e = absurd (omega (arith, e))
ended-role role.ListLength e = absurd (omega (arith, e))
ended-role role.ListValues e = absurd (omega (arith, e))
ended-role role.Ended e = refl
ended-role role.Over e = absurd (omega (arith, e))

pub ended_held : (q : Plan) (h : Sheet) (sh : List ℕ) (own : ℕ) → is_ended q ≡ true → Holds q.role q h sh own → Held role.Ended q h sh own
unfolding is_ended Holds
ended_held q h sh own e x = subst (λ (r : Role). Holds r q h sh own) (ended-role q.role (eqb-true (code_of q.role) 0 e)) x

pub ended-weight : (q : Plan) → is_ended q ≡ true → 2 ≤ weight q.role
unfolding is_ended weight
ended-weight q e = omega (arith, ap weight (ended-role q.role (eqb-true (code_of q.role) 0 e)))

pub onward-holds : (q : Plan) (h : Sheet) (sh : List ℕ) (own : ℕ) → Held role.Ended q h sh own → Holds (onward q).role (onward q) h sh own
unfolding onward
onward-holds q h sh own held = block-holds q.blocks q.sections _ h sh own refl held.head

-- the lines of the block that ended, all of them
pub all_lines : (q : Plan) (h : Sheet) (sh : List ℕ) (own : ℕ) → Held role.Ended q h sh own → lines_from sh 0 own ≡ h.head ++ (clock_line q ∷ h.own)
unfolding lines_from
all_lines q h sh own held =
    ap (λ (n : ℕ). lines_from sh 0 n) (let e : own ≡ 3 + suc (own - 4) = omega (arith, held.from) in e) ∙ sym (lines_join sh 0 3 (suc (own - 4)))
    ∙ ap (λ (x : List Line). x ++ (line_in sh 3 ∷ lines_from sh 4 (own - 4))) (sym held.head) ∙ ap (λ (l : Line). h.head ++ (l ∷ lines_from sh 4 (own - 4))) held.clock
    ∙ ap (λ (x : List Line). h.head ++ (clock_line q ∷ x)) (sym held.lines)

-- each line of the sheet has room for two
pub line_low : (r : Role) (q : Plan) (h : Sheet) (sh : List ℕ) (own : ℕ) → code_of r ≢ 28 → Holds r q h sh own → line_for (code_of r) own ≤ 14
unfolding Holds line_for code_of
line_low role.Sections q h sh own n x = omega arith
line_low role.Blocks q h sh own n x = omega arith
line_low role.Client q h sh own n x = omega arith
line_low role.FirstClock q h sh own n x = omega arith
line_low role.Info q h sh own n x = omega arith
line_low role.SkipLength q h sh own n x = omega (arith, x.room)
line_low role.GcLength q h sh own n x = omega (arith, x.room)
line_low role.LeftClient q h sh own n x = omega (arith, x.room)
line_low role.LeftClock q h sh own n x = omega (arith, x.room)
line_low role.RightClient q h sh own n x = omega (arith, x.room)
line_low role.RightClock q h sh own n x = omega (arith, x.room)
line_low role.ParentInfo q h sh own n x = omega (arith, x.room)
line_low role.ParentName q h sh own n x = omega (arith, x.room)
line_low role.ParentClient q h sh own n x = omega (arith, x.room)
line_low role.ParentClock q h sh own n x = omega (arith, x.room)
line_low role.Key q h sh own n x = omega (arith, x.room)
line_low role.DeletedLength q h sh own n x = omega (arith, x.room)
line_low role.Binary q h sh own n x = omega (arith, x.room)
line_low role.Text q h sh own n x = omega (arith, x.room)
line_low role.MarkKey q h sh own n x = omega (arith, x.room)
line_low role.MarkValue q h sh own n x = omega (arith, x.room)
line_low role.TypeNumber q h sh own n x = omega (arith, x.room)
line_low role.NodeName q h sh own n x = omega (arith, x.room)
line_low role.ListLength q h sh own n x = omega (arith, x.room)
line_low role.ListValues q h sh own n x = omega (arith, x.room)
line_low role.Ended q h sh own n x = omega (arith, x.room)
line_low role.Over q h sh own n x = absurd (n refl)
