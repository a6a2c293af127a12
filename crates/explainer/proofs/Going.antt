-- How a plan goes on behind a draw of a block: the block's own numbers stay, and at most so many lines are still to come.
use Prim.Native.Nat.{ℕ, ◌+◌, ◌*◌, ◌%◌, ◌≤◌}
use native.Mathlib.Omega.{arith}
use mathlib.Core.Path.{◌≡◌, refl}
use mathlib.Core.Bool.{Bool, true, false}
use lib.Dec.{eqb, ltb}
use Rattle.numbers.specs.Number.{pick}
use Rattle.block.specs.Kinds.{is_named, max_type}
use Rattle.grammar.specs.Grammar as grammar
use Rattle.grammar.specs.Grammar.{Field}
use Rattle.roles.specs.declared.Role.{Role}
use Rattle.roles.specs.declared.Role.TheVariants as role
use Rattle.roles.specs.declared.Plan.{Plan}
use Rattle.roles.specs.Roles.{go_to, informed, lengthened, info_role, content_role, to_right, to_parent, to_node, plan_after, code_of, is_ended}
use Rattle.telling.specs.TellingInner.{field_of}
use Rattle.explainer.proofs.Fits.{not-both}

-- of a block: two, and the lines that it may still have
unfoldable pub weight : Role → ℕ
weight role.Sections = 5000
weight role.Blocks = 1
weight role.Client = 4
weight role.FirstClock = 3
weight role.Info = 10
weight role.SkipLength = 3
weight role.GcLength = 3
weight role.LeftClient = 9
weight role.LeftClock = 8
weight role.RightClient = 7
weight role.RightClock = 6
weight role.ParentInfo = 9
weight role.ParentName = 7
weight role.ParentClient = 8
weight role.ParentClock = 7
weight role.Key = 6
weight role.DeletedLength = 3
weight role.Binary = 3
weight role.Text = 3
weight role.MarkKey = 5
weight role.MarkValue = 3
weight role.TypeNumber = 5
weight role.NodeName = 4
weight role.ListLength = 4
weight role.ListValues = 3
weight role.Ended = 2
weight role.Over = 0

-- sections, then blocks, then draws
unfoldable pub left : Plan → ℕ
left q = 64 * q.sections + 32 * (q.blocks + q.room) + weight q.role

-- how many lines a field may have
unfoldable pub most : Field → ℕ
most (grammar.number n) = 1
most grammar.text = 1
most grammar.bytes = 1
most grammar.key = 2
most (grammar.value blame) = 1
most (grammar.values blame n) = 1

-- behind an info byte, up to the block's end
unfoldable pub Own : Role → Type 0
Own role.Sections = ⊥
Own role.Blocks = ⊥
Own role.Client = ⊥
Own role.FirstClock = ⊥
Own role.Info = ⊥
Own role.SkipLength = Unit {0}
Own role.GcLength = Unit {0}
Own role.LeftClient = Unit {0}
Own role.LeftClock = Unit {0}
Own role.RightClient = Unit {0}
Own role.RightClock = Unit {0}
Own role.ParentInfo = Unit {0}
Own role.ParentName = Unit {0}
Own role.ParentClient = Unit {0}
Own role.ParentClock = Unit {0}
Own role.Key = Unit {0}
Own role.DeletedLength = Unit {0}
Own role.Binary = Unit {0}
Own role.Text = Unit {0}
Own role.MarkKey = Unit {0}
Own role.MarkValue = Unit {0}
Own role.TypeNumber = Unit {0}
Own role.NodeName = Unit {0}
Own role.ListLength = Unit {0}
Own role.ListValues = Unit {0}
Own role.Ended = Unit {0}
Own role.Over = ⊥

-- or refused
unfoldable pub OwnOrOver : Role → Type 0
OwnOrOver role.Sections = ⊥
OwnOrOver role.Blocks = ⊥
OwnOrOver role.Client = ⊥
OwnOrOver role.FirstClock = ⊥
OwnOrOver role.Info = ⊥
OwnOrOver role.SkipLength = Unit {0}
OwnOrOver role.GcLength = Unit {0}
OwnOrOver role.LeftClient = Unit {0}
OwnOrOver role.LeftClock = Unit {0}
OwnOrOver role.RightClient = Unit {0}
OwnOrOver role.RightClock = Unit {0}
OwnOrOver role.ParentInfo = Unit {0}
OwnOrOver role.ParentName = Unit {0}
OwnOrOver role.ParentClient = Unit {0}
OwnOrOver role.ParentClock = Unit {0}
OwnOrOver role.Key = Unit {0}
OwnOrOver role.DeletedLength = Unit {0}
OwnOrOver role.Binary = Unit {0}
OwnOrOver role.Text = Unit {0}
OwnOrOver role.MarkKey = Unit {0}
OwnOrOver role.MarkValue = Unit {0}
OwnOrOver role.TypeNumber = Unit {0}
OwnOrOver role.NodeName = Unit {0}
OwnOrOver role.ListLength = Unit {0}
OwnOrOver role.ListValues = Unit {0}
OwnOrOver role.Ended = Unit {0}
OwnOrOver role.Over = Unit {0}

-- what a draw of a block leaves
pub record Goes (most : ℕ) (r : Role) (q q₁ : Plan) : Type 0 where
  pub sections : q₁.sections ≡ q.sections
  pub blocks : q₁.blocks ≡ q.blocks
  pub room : q₁.room ≡ q.room
  pub first : q₁.first ≡ q.first
  pub clock : q₁.clock ≡ q.clock
  pub less : weight q₁.role + most ≤ weight r
  pub own : OwnOrOver q₁.role

abbrev Light : ℕ → Role → Type 0
Light n r = (weight r ≤ n) × OwnOrOver r

content-light : (n : ℕ) → Light 5 (content_role n)
unfolding content_role weight OwnOrOver
content-light n = go (eqb n 1) (eqb n 3) (eqb n 4) (eqb n 6) (eqb n 7) (eqb n 8)
  where
    go : (b1 b3 b4 b6 b7 b8 : Bool) → Light 5 (pick b1 role.DeletedLength (pick b3 role.Binary (pick b4 role.Text (pick b6 role.MarkKey (pick b7 role.TypeNumber (pick b8 role.ListLength role.Over))))))
    go true b3 b4 b6 b7 b8 = (omega arith, tt)
    go false true b4 b6 b7 b8 = (omega arith, tt)
    go false false true b6 b7 b8 = (omega arith, tt)
    go false false false true b7 b8 = (omega arith, tt)
    go false false false false true b8 = (omega arith, tt)
    go false false false false false true = (omega arith, tt)
    go false false false false false false = (omega arith, tt)

info-light : (i : ℕ) → Light 9 (info_role i)
unfolding info_role weight OwnOrOver
info-light i = go (eqb i 10) (eqb i 0) (ltb i 64) (ltb i 128)
  where
    go : (x y z w : Bool) → Light 9 (pick x role.SkipLength (pick y role.GcLength (pick z role.ParentInfo (pick w role.RightClient role.LeftClient))))
    go true y z w = (omega arith, tt)
    go false true z w = (omega arith, tt)
    go false false true w = (omega arith, tt)
    go false false false true = (omega arith, tt)
    go false false false false = (omega arith, tt)

-- the plan with another role, and another length
to-role : (m : ℕ) (r r₁ : Role) (q : Plan) → weight r₁ + m ≤ weight r → OwnOrOver r₁ → Goes m r q (go_to r₁ q)
unfolding go_to
to-role m r r₁ q less own = record { sections = refl; blocks = refl; room = refl; first = refl; clock = refl; less = less; own = own }

to-length : (m n : ℕ) (r r₁ : Role) (q : Plan) → weight r₁ + m ≤ weight r → OwnOrOver r₁ → Goes m r q (lengthened r₁ n q)
unfolding lengthened
to-length m n r r₁ q less own = record { sections = refl; blocks = refl; room = refl; first = refl; clock = refl; less = less; own = own }

to-content : (r : Role) (q : Plan) → 6 ≤ weight r → Goes 1 r q (go_to (content_role (q.info % 32)) q)
to-content r q h = to-role 1 r (content_role (q.info % 32)) q (let l = content-light (q.info % 32) in omega (arith, l.0, h)) (content-light (q.info % 32)).1

to-key : (r : Role) (q : Plan) → 7 ≤ weight r → Goes 1 r q (pick (ltb q.info 32) (go_to (content_role (q.info % 32)) q) (go_to role.Key q))
unfolding weight OwnOrOver
to-key r q h = go (ltb q.info 32)
  where
    go : (x : Bool) → Goes 1 r q (pick x (go_to (content_role (q.info % 32)) q) (go_to role.Key q))
    go true = to-content r q (omega (arith, h))
    go false = to-role 1 r role.Key q (omega (arith, h)) tt

-- behind a draw of a block's own
pub own-goes : (r : Role) (q : Plan) (v p : ℕ) → Own r → is_ended (go_to r q) ≡ false → Goes (most (field_of r q)) r q (plan_after r q v p)
unfolding Own OwnOrOver weight most field_of plan_after is_ended code_of go_to to_right to_parent to_node
own-goes role.Sections q v p o e = absurd o
own-goes role.Blocks q v p o e = absurd o
own-goes role.Client q v p o e = absurd o
own-goes role.FirstClock q v p o e = absurd o
own-goes role.Info q v p o e = absurd o
own-goes role.SkipLength q v p o e = to-length 1 v role.SkipLength role.Ended q (omega arith) tt
own-goes role.GcLength q v p o e = to-length 1 v role.GcLength role.Ended q (omega arith) tt
own-goes role.LeftClient q v p o e = to-role 1 role.LeftClient role.LeftClock q (omega arith) tt
own-goes role.LeftClock q v p o e = go (ltb (q.info % 128) 64)
  where
    go : (x : Bool) → Goes 1 role.LeftClock q (pick x (go_to (content_role (q.info % 32)) q) (go_to role.RightClient q))
    go true = to-content role.LeftClock q (omega arith)
    go false = to-role 1 role.LeftClock role.RightClient q (omega arith) tt
own-goes role.RightClient q v p o e = to-role 1 role.RightClient role.RightClock q (omega arith) tt
own-goes role.RightClock q v p o e = to-content role.RightClock q (omega arith)
own-goes role.ParentInfo q v p o e = go (eqb v 1)
  where
    go : (x : Bool) → Goes 1 role.ParentInfo q (pick x (go_to role.ParentName q) (go_to role.ParentClient q))
    go true = to-role 1 role.ParentInfo role.ParentName q (omega arith) tt
    go false = to-role 1 role.ParentInfo role.ParentClient q (omega arith) tt
own-goes role.ParentName q v p o e = to-key role.ParentName q (omega arith)
own-goes role.ParentClient q v p o e = to-role 1 role.ParentClient role.ParentClock q (omega arith) tt
own-goes role.ParentClock q v p o e = to-key role.ParentClock q (omega arith)
own-goes role.Key q v p o e = to-content role.Key q (omega arith)
own-goes role.DeletedLength q v p o e = to-length 1 v role.DeletedLength role.Ended q (omega arith) tt
own-goes role.Binary q v p o e = to-length 1 1 role.Binary role.Ended q (omega arith) tt
own-goes role.Text q v p o e = to-length 1 v role.Text role.Ended q (omega arith) tt
own-goes role.MarkKey q v p o e = to-role 2 role.MarkKey role.MarkValue q (omega arith) tt
own-goes role.MarkValue q v p o e = to-length 1 1 role.MarkValue role.Ended q (omega arith) tt
own-goes role.TypeNumber q v p o e = go (ltb max_type v) (is_named v)
  where
    go : (x y : Bool) → Goes 1 role.TypeNumber q (pick x (go_to role.Over q) (pick y (go_to role.NodeName q) (lengthened role.Ended 1 q)))
    go true y = to-role 1 role.TypeNumber role.Over q (omega arith) tt
    go false true = to-role 1 role.TypeNumber role.NodeName q (omega arith) tt
    go false false = to-length 1 1 role.TypeNumber role.Ended q (omega arith) tt
own-goes role.NodeName q v p o e = to-length 2 1 role.NodeName role.Ended q (omega arith) tt
own-goes role.ListLength q v p o e = to-length 1 v role.ListLength role.ListValues q (omega arith) tt
own-goes role.ListValues q v p o e = to-role 1 role.ListValues role.Ended q (omega arith) tt
own-goes role.Ended q v p o e = absurd (not-both e)
own-goes role.Over q v p o e = absurd o

-- behind an info byte
pub info-goes : (q : Plan) (v p : ℕ) → Goes 1 role.Info q (informed (info_role v) v p q)
unfolding weight informed
info-goes q v p = let l = info-light v in record { sections = refl; blocks = refl; room = refl; first = refl; clock = refl; less = omega (arith, l.0); own = l.1 }
