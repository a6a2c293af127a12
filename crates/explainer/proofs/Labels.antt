-- The plan's labels fit the grammar of an update's blocks.
use Prim.Native.Nat.{ℕ, zero, suc, ◌+◌, ◌-◌, ◌%◌, ◌≤◌}
use native.Mathlib.Omega.{arith}
use mathlib.Core.Path.{◌≡◌, refl, sym, ap, subst, ◌∙◌}
use mathlib.Core.Bool.{Bool, true, false, not, ◌||◌}
use mathlib.Core.List.{List, [], ◌∷◌, ◌++◌}
use lib.Dec.{eqb, ltb}
use borrow.Author.Tests.{ltb-true, ltb-false, le-ltb, ne_eqb}
use Rattle.numbers.specs.Number.{pick}
use Rattle.numbers.specs.Words.{among}
use Rattle.numbers.specs.Limits.{max_clock, max_blocks}
use Rattle.block.specs.declared.Block.{Block}
use Rattle.block.specs.Row.{no_part}
use Rattle.block.specs.Rows.{plain, with_left, with_right, with_parent, with_name, with_key, with_mark, with_type, with_content}
use Rattle.block.specs.Kinds.{GC, SKIP, TYPE, is_item, is_named, max_type}
use Rattle.grammar.specs.Grammar.{Grammar, ask, emit, stop, done}
use Rattle.grammar.specs.Grammar.{◌>>=◌}
use Rattle.grammar.specs.Grammar as grammar
use Rattle.grammar.specs.Blocks as blocks
use Rattle.roles.specs.declared.Role.{Role}
use Rattle.roles.specs.declared.Role.TheVariants as role
use Rattle.roles.specs.declared.Plan.{Plan}
use Rattle.roles.specs.Roles.{start, go_to, sectioned, announced, onward, headed, informed, lengthened, info_role, content_role, to_right, to_parent, to_node, plan_after, after, code_of, moved_on, is_ended, block_role, section_role}
use Rattle.roles.specs.RolesInner.{is_over, is_kept, is_bare}
use Rattle.telling.specs.Telling.{heard}
use Rattle.telling.specs.TellingInner.{field_of}
use Rattle.explainer.specs.Record.{head_row, id_row, content_row, name_row, rowed}
use Rattle.explainer.proofs.Fits.{Within, Meets, part_of, begun, told, Passed, Fits, fits-bind, fits_more, not-both, onward-goes, settled_here, settled-ended, never, fits-settled}

or-first : (a b : Bool) → a ≡ true → a || b ≡ true
or-first true b e = refl
or-first false b e = never e

either : (a b : Bool) → b ≡ true → a || b ≡ true
either true b e = refl
either false b e = e

neither : (a b : Bool) → a ≡ false → b ≡ false → a || b ≡ false
neither true b e f = never (sym e)
neither false b e f = f

-- ---- a block of a client, of a section with s sections and k blocks behind it, m blocks of room, first clock first, clock c, info i at place p

unfoldable pub plan_at : (s k m first c i p : ℕ) → Role → ℕ → Plan
plan_at s k m first c i p r n = record { role = r; sections = s; blocks = k; room = m; first = first; clock = c; info = i; place = p; length = n }

module _ (s k m first c i p client : ℕ) where
  abbrev pub at : Role → ℕ → Plan
  at = plan_at s k m first c i p

  -- where its content begins
  abbrev pub here : Plan
  here = at (content_role (i % 32)) 0

  -- the block b ended: it lasts as long as the plan says, is kept where the plan says so, and is the row that was told
  pub record Ends (q : Plan) (r b : Block) : Type 0 where
    pub plan : q ≡ at role.Ended b.length.0
    pub kind : is_item b.kind ≡ not (is_bare i)
    pub row : b ≡ r
    pub of : b.client ≡ client

  module _ (item : is_bare i ≡ false) where
    content-fits : (b : Block) → b.client ≡ client → Fits Ends here b (blocks.content i p b)
    unfolding Fits plan_at content_role blocks.content blocks.content_of blocks.deleted blocks.binary blocks.string blocks.format blocks.type blocks.node blocks.any_list ◌>>=◌ moved_on is_ended is_over code_of after plan_after field_of heard part_of begun told rowed head_row id_row content_row name_row go_to lengthened to_node Meets Within is_item
    content-fits b o = go (eqb (i % 32) 1) (eqb (i % 32) 3) (eqb (i % 32) 4) (eqb (i % 32) 6) (eqb (i % 32) 7) (eqb (i % 32) 8)
      where
        type_row : ℕ → Block
        type_row v = with_type v (with_content TYPE (record { 0 = 1 }) no_part b)

        node : (high named : Bool) (v x : ℕ)
            → Fits Ends (pick high (at role.Over 0) (pick named (at role.NodeName 0) (at role.Ended 1))) (type_row v) (pick high (stop 5 p) (pick named (ask grammar.key (λ k. done (with_mark k (type_row v)))) (done (type_row v))))
        node true named v x = tt
        node false true v x = (never, refl, refl, λ a _. record { plan = refl; kind = sym (ap not item); row = refl; of = o })
        node false false v x = record { plan = refl; kind = sym (ap not item); row = refl; of = o }

        go : (b1 b3 b4 b6 b7 b8 : Bool)
            → Fits Ends (at (pick b1 role.DeletedLength (pick b3 role.Binary (pick b4 role.Text (pick b6 role.MarkKey (pick b7 role.TypeNumber (pick b8 role.ListLength role.Over)))))) 0) b
            (pick b1 (blocks.deleted b) (pick b3 (blocks.binary b) (pick b4 (blocks.string b) (pick b6 (blocks.format p b) (pick b7 (blocks.type p b) (pick b8 (blocks.any_list p b) (stop 5 p)))))))
        go true b3 b4 b6 b7 b8 = (never, refl, refl, λ a _. record { plan = refl; kind = sym (ap not item); row = refl; of = o })
        go false true b4 b6 b7 b8 = (never, refl, refl, λ a _. record { plan = refl; kind = sym (ap not item); row = refl; of = o })
        go false false true b6 b7 b8 = (never, refl, refl, λ a _. record { plan = refl; kind = sym (ap not item); row = refl; of = o })
        go false false false true b7 b8 = (never, refl, refl, λ a _. (never, refl, refl, λ a₁ _. record { plan = refl; kind = sym (ap not item); row = refl; of = o }))
        go false false false false true b8 = (never, refl, refl, λ a _. node (ltb max_type a.0) (is_named a.0) a.0 a.1)
        go false false false false false true = (never, refl, refl, λ a _. (never, refl, refl, λ a₁ _. record { plan = refl; kind = sym (ap not item); row = refl; of = o }))
        go false false false false false false = tt

  -- what stands before the content: then is what follows it
  module _ (P : Plan → Block → Block → Type 0) (then : (b : Block) → b.client ≡ client → P here b b) where
    key_fits : (b : Block) → b.client ≡ client → Fits P (pick (ltb i 32) here (at role.Key 0)) b (blocks.key i b)
    unfolding Fits plan_at blocks.key ◌>>=◌ moved_on is_ended is_over code_of after plan_after field_of heard part_of begun told rowed head_row id_row content_row name_row go_to Meets
    key_fits b o = go (ltb i 32)
      where
        go : (x : Bool) → Fits P (pick x here (at role.Key 0)) b (pick x (done b) (ask grammar.text (λ a. done (with_key a.0 b))))
        go true = then b o
        go false = (never, refl, refl, λ a _. then (with_key a.0 b) o)

    right-fits : (b : Block) → b.client ≡ client → Fits P (pick (ltb (i % 128) 64) here (at role.RightClient 0)) b (blocks.right i b)
    unfolding Fits plan_at blocks.right blocks.an_id ◌>>=◌ moved_on is_ended is_over code_of after plan_after field_of heard part_of begun told rowed head_row id_row content_row name_row go_to Meets Within
    right-fits b o = go (ltb (i % 128) 64)
      where
        go : (x : Bool) → Fits P (pick x here (at role.RightClient 0)) b (pick x (done b) (blocks.an_id grammar.right_clock >>= λ id. done (with_right id b)))
        go true = then b o
        go false = (never, refl, refl, λ a _. (never, refl, refl, λ a₁ _. then (with_right (record { client = a.0; clock = a₁.0 }) b) o))

    left-fits : (b : Block) → b.client ≡ client → Fits P (at role.LeftClient 0) b ((blocks.an_id grammar.left_clock >>= λ id. done (with_left id b)) >>= blocks.right i)
    unfolding Fits plan_at blocks.an_id ◌>>=◌ moved_on is_ended is_over code_of after plan_after field_of heard part_of begun told rowed head_row id_row content_row name_row go_to to_right Meets Within
    left-fits b o = (never, refl, refl, λ a _. (never, refl, refl, λ a₁ _. right-fits (with_left (record { client = a.0; clock = a₁.0 }) b) o))

    parent-fits : (b : Block) → b.client ≡ client → Fits P (at role.ParentInfo 0) b (blocks.parent b >>= blocks.key i)
    unfolding Fits plan_at blocks.parent blocks.parent_after blocks.an_id ◌>>=◌ moved_on is_ended is_over code_of after plan_after field_of heard part_of begun told rowed head_row id_row content_row name_row go_to to_parent Meets Within
    parent-fits b o = (never, refl, refl, λ a _. go (eqb a.0 1))
      where
        go : (x : Bool)
            → Fits P (pick x (at role.ParentName 0) (at role.ParentClient 0)) b
            (pick x (ask grammar.text (λ a. done (with_name a.0 b))) (blocks.an_id grammar.left_clock >>= λ id. done (with_parent id b)) >>= blocks.key i)
        go true = (never, refl, refl, λ a _. key_fits (with_name a.0 b) o)
        go false = (never, refl, refl, λ a _. (never, refl, refl, λ a₁ _. key_fits (with_parent (record { client = a.0; clock = a₁.0 }) b) o))

    place-fits : (b : Block) → b.client ≡ client → Fits P (at (pick (ltb i 64) role.ParentInfo (pick (ltb i 128) role.RightClient role.LeftClient)) 0) b (blocks.place i b)
    unfolding blocks.place blocks.left ◌>>=◌
    place-fits b o = go (ltb i 64) refl (ltb i 128) refl
      where
        go : (x : Bool) → ltb i 64 ≡ x → (y : Bool) → ltb i 128 ≡ y
            → Fits P (at (pick x role.ParentInfo (pick y role.RightClient role.LeftClient)) 0) b
            (pick x (blocks.parent b >>= blocks.key i) (pick y (done b) (blocks.an_id grammar.left_clock >>= λ id. done (with_left id b)) >>= blocks.right i))
        go true ex y ey = parent-fits b o
        go false ex true ey = subst (λ (z : Bool). Fits P (pick z here (at role.RightClient 0)) b (blocks.right i b)) high (right-fits b o)
          where
            high : ltb (i % 128) 64 ≡ false
            high = le-ltb (i % 128) 64 (omega (arith, ltb-false i 64 ex, ltb-true i 128 ey))
        go false ex false ey = left-fits b o

  item-fits : is_bare i ≡ false → (b : Block) → b.client ≡ client → Fits Ends (at (pick (ltb i 64) role.ParentInfo (pick (ltb i 128) role.RightClient role.LeftClient)) 0) b (blocks.an_item i p b)
  unfolding blocks.an_item
  item-fits item b o = fits-bind Ends (blocks.place i b) (blocks.content i p) _ b (place-fits (λ q r b₁. Fits Ends q r (blocks.content i p b₁)) (content-fits item) b o)

  body-fits : Fits Ends (at (info_role i) 0) (plain client c 0 0) (blocks.body client c i p)
  unfolding Fits plan_at info_role blocks.body blocks.bare ◌>>=◌ moved_on is_ended is_over code_of after plan_after field_of heard part_of begun told rowed head_row id_row content_row name_row lengthened Meets Within is_item is_bare
  body-fits = go (eqb i 10) refl (eqb i 0) refl
    where
      go : (x : Bool) → eqb i 10 ≡ x → (y : Bool) → eqb i 0 ≡ y
          → Fits Ends (at (pick x role.SkipLength (pick y role.GcLength (pick (ltb i 64) role.ParentInfo (pick (ltb i 128) role.RightClient role.LeftClient)))) 0) (plain client c 0 0)
          (pick x (blocks.bare client c SKIP (grammar.up_to max_clock)) (pick y (blocks.bare client c GC grammar.len) (blocks.an_item i p (plain client c 0 0))))
      go true ex y ey = (never, refl, refl, λ a _. record { plan = refl; kind = sym (ap not (either (eqb i 0) (eqb i 10) ex)); row = refl; of = refl })
      go false ex true ey = (never, refl, refl, λ a _. record { plan = refl; kind = sym (ap not (or-first (eqb i 0) (eqb i 10) ey)); row = refl; of = refl })
      go false ex false ey = item-fits (neither (eqb i 0) (eqb i 10) ey ex) (plain client c 0 0) refl

-- ---- a block, and the place of its info byte

module _ (s k m first c client : ℕ) where
  pub record Block-ends (q : Plan) (r : Block) (b : Block × ℕ) : Type 0 where
    pub info : ℕ
    pub ends : Ends s k m first c info b.1 client q r b.0

  block-fits : (r : Block) → r.client ≡ client → Fits Block-ends (plan_at s k m first c 0 0 role.Info 0) r (blocks.block client c)
  unfolding Fits plan_at blocks.block ◌>>=◌ moved_on is_ended is_over code_of after plan_after field_of heard part_of begun told rowed head_row id_row content_row name_row informed Meets Within
  block-fits r o = (
    never,
    refl,
    refl,
    λ a _. fits-bind Block-ends (blocks.body client c a.0 a.1) (λ b. done (b, a.1)) _ _
        (fits_more (λ q r₁ b e. record { info = a.0; ends = e }) (blocks.body client c a.0 a.1) _ _
        (subst (λ (x : ℕ). Fits (Ends s k m first c a.0 a.1 client) (plan_at s k m first c a.0 a.1 (info_role a.0) 0) (plain x c 0 0) (blocks.body client c a.0 a.1)) (sym o)
        (body-fits s k m first c a.0 a.1 client))),
  )

-- ---- blocks

-- before n blocks of a section, or, where none is left, before s sections
unfoldable pub before : (s n m first c : ℕ) → Plan
before s n m first c = record { role = block_role n s; sections = s; blocks = n - 1; room = m; first = first; clock = c; info = 0; place = 0; length = 0 }

before-one : (s k m first c : ℕ) → before s (suc k) m first c ≡ plan_at s k m first c 0 0 role.Info 0
unfolding before plan_at block_role
before-one s k m first c = rw (ne_eqb (suc k) 0 (λ e. omega (arith, e))) (ap (λ (j : ℕ). plan_at s j m first c 0 0 role.Info 0) (let e : suc k - 1 ≡ k = omega arith in e))

before-goes : (s n m first c : ℕ) → is_ended (before s n m first c) ≡ false
unfolding before is_ended block_role section_role code_of
before-goes s n m first c = go (eqb n 0) (eqb s 0)
  where
    go : (x y : Bool) → eqb (code_of (pick x (pick y role.Over role.Blocks) role.Info)) 0 ≡ false
    go true true = refl
    go true false = refl
    go false y = refl

-- a block that ended, and what follows it: more, from its end on
module _ (s k m first c client : ℕ) (P : Plan → Block → Unit {0} → Type 0) (more : ℕ → Grammar Block (Unit {0}))
    (goes : (n : ℕ) (r : Block) (q : Plan) → r.client ≡ client → first ≤ c + n → Passed q → moved_on q ≡ before s k m first (c + n) → Fits P q r (more (c + n))) (low : first ≤ c) where
  abbrev next : Block × ℕ → Grammar Block (Unit {0})
  next b = pick (ltb max_clock (c + b.0.length.0)) (stop 3 b.1) (blocks.unless_dropped b.0 b.1 (more (c + b.0.length.0)))

  behind-block : (q : Plan) (r : Block) (b : Block × ℕ) → Block-ends s k m first c client q r b → Fits P q r (next b)
  unfolding Fits blocks.unless_dropped plan_at is_ended code_of moved_on onward before is_kept blocks.dropped
  behind-block q r b h = subst (λ (x : Plan). Fits P x r (next b)) (sym h.ends.plan) (go (ltb max_clock (c + n)) refl (blocks.dropped b.0) refl)
    where
      n : ℕ
      n = b.0.length.0

      ended : Plan
      ended = plan_at s k m first c h.info b.1 role.Ended n

      is-ended : is_ended ended ≡ true
      is-ended = refl

      settles : moved_on ended ≡ before s k m first (c + n)
      settles = refl

      kept-is : is_kept ended ≡ not (blocks.dropped b.0)
      kept-is = by (eqb n 0)
        where
          twice : (x : Bool) → x ≡ not (not x)
          twice true = refl
          twice false = refl

          by : (x : Bool) → pick x (is_bare h.info) true ≡ not (pick x (is_item b.0.kind) false)
          by true = twice (is_bare h.info) ∙ sym (ap not h.ends.kind)
          by false = refl

      own : r.client ≡ client
      own = ap (λ (x : Block). x.client) (sym h.ends.row) ∙ h.ends.of

      go : (x : Bool) → ltb max_clock (c + n) ≡ x → (d : Bool) → blocks.dropped b.0 ≡ d
          → Fits P ended r (pick x (stop 3 b.1) (pick d (more (c + n)) (emit b.0 b.1 (more (c + n)))))
      go true ex d ed = tt
      go false ex true ed = goes n r ended own (omega (arith, low)) (λ e. (kept-is ∙ ap not ed, ltb-false max_clock (c + n) ex)) settles
      go false ex false ed = (
        is-ended,
        kept-is ∙ ap not ed,
        ltb-false max_clock (c + n) ex,
        low,
        h.ends.row,
        goes n r (onward ended) own (omega (arith, low)) (λ e. absurd (not-both (sym e ∙ onward-goes ended))) (settled_here (onward ended) (onward-goes ended) ∙ sym (settled-ended ended is-ended) ∙ settles),
      )

  one-more-fits : (r : Block) (q : Plan) → r.client ≡ client → Passed q → moved_on q ≡ before s (suc k) m first c → Fits P q r (blocks.block client c >>= next)
  unfolding blocks.block ◌>>=◌
  one-more-fits r q own passed settles =
      fits-settled P (plan_at s k m first c 0 0 role.Info 0) q r _ _ passed (settles ∙ before-one s k m first c) info-goes
      (fits-bind P (blocks.block client c) next _ r (fits_more behind-block (blocks.block client c) _ _ (block-fits s k m first c client r own)))
    where
      info-goes : is_ended (plan_at s k m first c 0 0 role.Info 0) ≡ false
      info-goes = ap is_ended (sym (before-one s k m first c)) ∙ before-goes s (suc k) m first c

module _ (s m first client : ℕ) (P : Plan → Block → Unit {0} → Type 0) where
  -- behind all blocks of a section
  pub record Behind (q : Plan) : Type 0 where
    pub passed : Passed q
    pub clock : ℕ
    pub settles : moved_on q ≡ before s 0 m first clock

  module _ (then : (q : Plan) (r : Block) → Behind q → P q r tt) where
    blocks-fit : (k c : ℕ) (r : Block) (q : Plan) → r.client ≡ client → first ≤ c → Passed q → moved_on q ≡ before s k m first c → Fits P q r (blocks.blocks k client c)
    unfolding Fits blocks.blocks
    blocks-fit zero c r q own low passed settles = then q r (record { passed = passed; clock = c; settles = settles })
    blocks-fit (suc k) c r q own low passed settles = one-more-fits s k m first c client P (λ n. blocks.blocks k client n) (λ n. blocks-fit k (c + n)) low r q own passed settles

-- ---- sections

-- where the grammar is done, so is the plan
abbrev pub Final : Plan → Block → Unit {0} → Type 0
Final q r x = Passed q × (is_over (moved_on q) ≡ true)

before-section : (n m first c : ℕ) → before (suc n) 0 m first c ≡ plan_at (suc n) 0 m first c 0 0 role.Blocks 0
unfolding before plan_at block_role section_role
before-section n m first c = rw (ne_eqb (suc n) 0 (λ e. omega (arith, e))) refl

-- the plan behind a section's head
behind-head : (n k m first c clock : ℕ) → headed clock (go_to role.FirstClock (announced k (plan_at (suc n) 0 m first c 0 0 role.Blocks 0))) ≡ before n k (m - k) clock clock
unfolding headed go_to announced onward before plan_at
behind-head n k m first c clock =
    ap (λ (j : ℕ). before j k (m - k) clock (clock + 0)) (let e : suc n - 1 ≡ n = omega arith in e)
    ∙ ap (λ (j : ℕ). before n k (m - k) clock j) (let e : clock + 0 ≡ clock = omega arith in e)

-- what follows a section's block count, and its client
abbrev behind-client : (n m : ℕ) (seen : List ℕ) → ℕ → ℕ × ℕ → Grammar Block (Unit {0})
behind-client n m seen k c =
    pick (among c.0 seen) (stop 4 c.1)
    (ask (grammar.number (grammar.up_to max_clock)) (λ a. blocks.blocks k c.0 a.0 >>= λ _. blocks.sections n (seen ++ (c.0 ∷ [])) (m - k)))

-- a section's head, and what follows it
module _ (n m : ℕ) (seen : List ℕ)
    (goes : (seen : List ℕ) (m first c : ℕ) (r : Block) (q : Plan) → Passed q → moved_on q ≡ before n 0 m first c → Fits Final q r (blocks.sections n seen m)) where
  blocks-then : (k client clock : ℕ) (cs : List ℕ) (r : Block) (q : Plan) → r.client ≡ client → q ≡ before n k (m - k) clock clock
      → Fits Final q r (blocks.blocks k client clock >>= λ _. blocks.sections n cs (m - k))
  blocks-then k client clock cs r q own e =
      fits-bind Final (blocks.blocks k client clock) (λ _. blocks.sections n cs (m - k)) q r
      (blocks-fit n (m - k) clock client (λ q₁ r₁ _. Fits Final q₁ r₁ (blocks.sections n cs (m - k))) (λ q₁ r₁ b. goes cs (m - k) clock b.clock r₁ q₁ b.passed b.settles) k clock r q own (omega arith) (λ x. absurd (not-both (sym x ∙ goes_on))) (settled_here q goes_on ∙ e))
    where
      goes_on : is_ended q ≡ false
      goes_on = ap is_ended e ∙ before-goes n k (m - k) clock clock

  head-fits : (first c : ℕ) (r : Block)
      → Fits Final (plan_at (suc n) 0 m first c 0 0 role.Blocks 0) r (ask (grammar.number (grammar.up_to m)) (λ a. ask (grammar.number grammar.client) (λ x. behind-client n m seen a.0 x)))
  unfolding Fits plan_at moved_on is_ended is_over code_of after plan_after field_of heard part_of begun told rowed head_row id_row content_row name_row go_to announced Meets Within
  head-fits first c r = (never, refl, refl, λ a _. (never, refl, refl, λ x _. go (among x.0 seen) a.0 x))
    where
      go : (y : Bool) (k : ℕ) (x : ℕ × ℕ)
          → Fits Final (go_to role.FirstClock (announced k (plan_at (suc n) 0 m first c 0 0 role.Blocks 0))) (plain x.0 0 0 0)
          (pick y (stop 4 x.1) (ask (grammar.number (grammar.up_to max_clock)) (λ a. blocks.blocks k x.0 a.0 >>= λ _. blocks.sections n (seen ++ (x.0 ∷ [])) (m - k))))
      go true k x = tt
      go false k x = (never, refl, refl, λ a _. blocks-then k x.0 a.0 (seen ++ (x.0 ∷ [])) (plain x.0 0 0 0) _ refl (behind-head n k m first c a.0))

none_over : (m first c : ℕ) → is_over (before 0 0 m first c) ≡ true
unfolding is_over before block_role section_role code_of
none_over m first c = refl

sections-fit : (n : ℕ) (seen : List ℕ) (m first c : ℕ) (r : Block) (q : Plan) → Passed q → moved_on q ≡ before n 0 m first c → Fits Final q r (blocks.sections n seen m)
unfolding Fits blocks.sections ◌>>=◌
sections-fit zero seen m first c r q passed settles = (passed, ap is_over settles ∙ none_over m first c)
sections-fit (suc n) seen m first c r q passed settles =
    fits-settled Final (plan_at (suc n) 0 m first c 0 0 role.Blocks 0) q r (grammar.number (grammar.up_to m)) (λ a. ask (grammar.number grammar.client) (λ x. behind-client n m seen a.0 x)) passed (settles ∙ before-section n m first c)
    (ap is_ended (sym (before-section n m first c)) ∙ before-goes (suc n) 0 m first c) (head-fits n m seen (λ cs. sections-fit n cs) first c r)

sectioned-is : (n : ℕ) → sectioned n start ≡ before n 0 max_blocks 0 0
unfolding sectioned before block_role
sectioned-is n = refl

-- all of them
pub all_fit : (r : Block) → Fits Final start r blocks.all_blocks
unfolding Fits blocks.all_blocks ◌>>=◌ moved_on is_ended is_over code_of after plan_after field_of heard part_of begun told Meets Within
all_fit r = (never, refl, refl, λ a _. sections-fit a.0 [] max_blocks 0 0 _ _ (λ e. absurd (not-both (sym e ∙ goes_on a.0))) (settled_here _ (goes_on a.0) ∙ sectioned-is a.0))
  where
    goes_on : (n : ℕ) → is_ended (sectioned n start) ≡ false
    goes_on n = ap is_ended (sectioned-is n) ∙ before-goes n 0 max_blocks 0 0
