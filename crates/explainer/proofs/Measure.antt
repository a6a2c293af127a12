-- Each turn of following comes nearer to the end.
use Prim.Native.Nat.{ℕ, ◌+◌, ◌*◌, ◌-◌, ◌<◌, ◌≤◌}
use native.Mathlib.Omega.{arith}
use mathlib.Core.Path.{◌≡◌, refl, ap}
use mathlib.Core.Logic.{◌≢◌}
use mathlib.Core.Bool.{Bool, true, false}
use mathlib.Core.List.{List}
use lib.Dec.{eqb}
use borrow.Author.Tests.{ne_eqb, eqb-false}
use Rattle.numbers.specs.Number.{pick}
use Rattle.roles.specs.declared.Role.{Role}
use Rattle.roles.specs.declared.Role.TheVariants as role
use Rattle.roles.specs.declared.Plan.{Plan}
use Rattle.roles.specs.Roles.{go_to, sectioned, announced, onward, headed, plan_after, code_of, is_ended, block_role, section_role}
use Rattle.grammar.specs.Grammar.{Answer}
use Rattle.telling.specs.Telling.{heard}
use Rattle.telling.specs.TellingInner.{field_of}
use Rattle.explainer.specs.Explanation.{Sheet}
use Rattle.explainer.proofs.Fits.{Within, Meets}
use Rattle.explainer.proofs.Going.{weight, left, most, Own, Goes, own-goes, info-goes}
use Rattle.explainer.proofs.Holding.{Holds}

section-weight : (n : ℕ) → weight (section_role n) ≤ 1
unfolding section_role weight
section-weight n = go (eqb n 0)
  where
    go : (x : Bool) → weight (pick x role.Over role.Blocks) ≤ 1
    go true = omega arith
    go false = omega arith

-- a block less, or no block and little more
block-weight : (k n : ℕ) → 32 * (k - 1) + weight (block_role k n) ≤ 32 * k + 1
unfolding block_role weight
block-weight k n = go (eqb k 0) refl
  where
    go : (x : Bool) → eqb k 0 ≡ x → 32 * (k - 1) + weight (pick x (section_role n) role.Info) ≤ 32 * k + 1
    go true e = omega (arith, section-weight n)
    go false e = omega (arith, eqb-false k 0 e)

pub onward-less : (q : Plan) → 2 ≤ weight q.role → left (onward q) < left q
unfolding left onward
onward-less q h = omega (arith, block-weight q.blocks q.sections, h)

head-less : (q : Plan) (c : ℕ) → 3 ≤ weight q.role → left (headed c q) < left q
unfolding left headed onward
head-less q c h = omega (arith, block-weight q.blocks q.sections, h)

goes-less : (n : ℕ) (r : Role) (q q₁ : Plan) → q.role ≡ r → 1 ≤ n → Goes n r q q₁ → left q₁ < left q
unfolding left
goes-less n r q q₁ e some g = omega (arith, g.sections, g.blocks, g.room, g.less, ap weight e, some)

own-less : (r : Role) (q : Plan) (v p : ℕ) → q.role ≡ r → Own r → code_of r ≢ 0 → 1 ≤ most (field_of r q) → left (plan_after r q v p) < left q
unfolding is_ended go_to
own-less r q v p e o ne some = goes-less (most (field_of r q)) r q _ e some (own-goes r q v p o (ne_eqb (code_of r) 0 ne))

pub draw-less : (r : Role) (q : Plan) (a : Answer (field_of r q)) (h : Sheet) (sh : List ℕ) (own : ℕ) → Meets (field_of r q) a → q.role ≡ r → code_of r ≢ 0 → code_of r ≢ 28 → Holds r q h sh own
    → left (plan_after r q (heard (field_of r q) a).0 (heard (field_of r q) a).1) < left q
unfolding plan_after go_to announced sectioned headed field_of heard Meets Within Holds Own most weight left code_of
draw-less role.Sections q a h sh own m e n0 n28 x = omega (arith, m, section-weight a.0, ap weight e)
draw-less role.Blocks q a h sh own m e n0 n28 x = omega (arith, m, x, ap weight e)
draw-less role.Client q a h sh own m e n0 n28 x = omega (arith, ap weight e)
draw-less role.FirstClock q a h sh own m e n0 n28 x = head-less q a.0 (omega (arith, ap weight e))
draw-less role.Info q a h sh own m e n0 n28 x = goes-less 1 role.Info q _ e (omega arith) (info-goes q a.0 a.1)
draw-less role.SkipLength q a h sh own m e n0 n28 x = own-less role.SkipLength q (heard (field_of role.SkipLength q) a).0 (heard (field_of role.SkipLength q) a).1 e tt n0 (omega arith)
draw-less role.GcLength q a h sh own m e n0 n28 x = own-less role.GcLength q (heard (field_of role.GcLength q) a).0 (heard (field_of role.GcLength q) a).1 e tt n0 (omega arith)
draw-less role.LeftClient q a h sh own m e n0 n28 x = own-less role.LeftClient q (heard (field_of role.LeftClient q) a).0 (heard (field_of role.LeftClient q) a).1 e tt n0 (omega arith)
draw-less role.LeftClock q a h sh own m e n0 n28 x = own-less role.LeftClock q (heard (field_of role.LeftClock q) a).0 (heard (field_of role.LeftClock q) a).1 e tt n0 (omega arith)
draw-less role.RightClient q a h sh own m e n0 n28 x = own-less role.RightClient q (heard (field_of role.RightClient q) a).0 (heard (field_of role.RightClient q) a).1 e tt n0 (omega arith)
draw-less role.RightClock q a h sh own m e n0 n28 x = own-less role.RightClock q (heard (field_of role.RightClock q) a).0 (heard (field_of role.RightClock q) a).1 e tt n0 (omega arith)
draw-less role.ParentInfo q a h sh own m e n0 n28 x = own-less role.ParentInfo q (heard (field_of role.ParentInfo q) a).0 (heard (field_of role.ParentInfo q) a).1 e tt n0 (omega arith)
draw-less role.ParentName q a h sh own m e n0 n28 x = own-less role.ParentName q (heard (field_of role.ParentName q) a).0 (heard (field_of role.ParentName q) a).1 e tt n0 (omega arith)
draw-less role.ParentClient q a h sh own m e n0 n28 x = own-less role.ParentClient q (heard (field_of role.ParentClient q) a).0 (heard (field_of role.ParentClient q) a).1 e tt n0 (omega arith)
draw-less role.ParentClock q a h sh own m e n0 n28 x = own-less role.ParentClock q (heard (field_of role.ParentClock q) a).0 (heard (field_of role.ParentClock q) a).1 e tt n0 (omega arith)
draw-less role.Key q a h sh own m e n0 n28 x = own-less role.Key q (heard (field_of role.Key q) a).0 (heard (field_of role.Key q) a).1 e tt n0 (omega arith)
draw-less role.DeletedLength q a h sh own m e n0 n28 x = own-less role.DeletedLength q (heard (field_of role.DeletedLength q) a).0 (heard (field_of role.DeletedLength q) a).1 e tt n0 (omega arith)
draw-less role.Binary q a h sh own m e n0 n28 x = own-less role.Binary q (heard (field_of role.Binary q) a).0 (heard (field_of role.Binary q) a).1 e tt n0 (omega arith)
draw-less role.Text q a h sh own m e n0 n28 x = own-less role.Text q (heard (field_of role.Text q) a).0 (heard (field_of role.Text q) a).1 e tt n0 (omega arith)
draw-less role.MarkKey q a h sh own m e n0 n28 x = own-less role.MarkKey q (heard (field_of role.MarkKey q) a).0 (heard (field_of role.MarkKey q) a).1 e tt n0 (omega arith)
draw-less role.MarkValue q a h sh own m e n0 n28 x = own-less role.MarkValue q (heard (field_of role.MarkValue q) a).0 (heard (field_of role.MarkValue q) a).1 e tt n0 (omega arith)
draw-less role.TypeNumber q a h sh own m e n0 n28 x = own-less role.TypeNumber q (heard (field_of role.TypeNumber q) a).0 (heard (field_of role.TypeNumber q) a).1 e tt n0 (omega arith)
draw-less role.NodeName q a h sh own m e n0 n28 x = own-less role.NodeName q (heard (field_of role.NodeName q) a).0 (heard (field_of role.NodeName q) a).1 e tt n0 (omega arith)
draw-less role.ListLength q a h sh own m e n0 n28 x = own-less role.ListLength q (heard (field_of role.ListLength q) a).0 (heard (field_of role.ListLength q) a).1 e tt n0 (omega arith)
draw-less role.ListValues q a h sh own m e n0 n28 x = own-less role.ListValues q (heard (field_of role.ListValues q) a).0 (heard (field_of role.ListValues q) a).1 e tt n0 (omega arith)
draw-less role.Ended q a h sh own m e n0 n28 x = absurd (n0 refl)
draw-less role.Over q a h sh own m e n0 n28 x = absurd (n28 refl)
