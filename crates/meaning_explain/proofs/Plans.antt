-- The blocks of an update, read by fields that tell: what the grammar keeps, read with the plan and a sheet beside it.
use Prim.Native.Nat.{ℕ, zero, suc, ◌+◌, ◌-◌, ◌%◌, ◌<◌}
use mathlib.Core.Path.{◌≡◌, refl, sym, ap, ◌∙◌}
use mathlib.Core.Bool.{Bool, true, false, ◌&&◌, ◌||◌}
use mathlib.Core.List.{List, [], ◌∷◌, ◌++◌, append_assoc, append-nil}
use mathlib.Core.Option.{Option, some, none}
use native.Mathlib.Omega.{arith}
use lib.Dec.{ltb, leb, eqb}
use lib.ListN.{length}
use borrow.Author.Tests.{ltb-true, ltb-false, le-leb, lt-leb, le-ltb, ne_eqb}
use Rattle.numbers.specs.Number.{pick}
use Rattle.numbers.specs.Words.{among}
use Rattle.text.specs.declared.Part.{Part}
use Rattle.block.specs.declared.Id.{Id}
use Rattle.block.specs.declared.Block.{Block}
use Rattle.block.specs.Rows.{plain}
use Rattle.block.specs.Kinds.{is_item, is_named}
use Rattle.grammar.specs.Grammar as grammar
use Rattle.grammar.specs.Grammar.{Number, up_to, client, left_clock, right_clock, info, parent_info, type_number, len}
use Rattle.grammar.specs.Grammar.{Field, number, text, Answer, Grammar, stop, draw}
use Rattle.grammar.specs.Grammar.{◌>>=◌}
use Rattle.grammar.specs.Course as course
use Rattle.grammar.specs.Blocks as old
use Rattle.roles.specs.declared.Role.{Role}
use Rattle.roles.specs.declared.Role.TheVariants as role
use Rattle.roles.specs.declared.Plan.{Plan}
use Rattle.roles.specs.Roles.{plan, start, go_to, section_role, sectioned, announced, block_role, onward, headed, informed, lengthened, info_role, content_role}
use Rattle.roles.specs.Roles.{to_right, to_parent, to_node, plan_after, after, code_of, is_ended, moved_on}
use Rattle.origins.specs.declared.Line.{Line}
use Rattle.telling.specs.Telling.{heard}
use Rattle.meaning.specs.Reads.{when◌then◌else◌, got, Reads, on, done, refuse}
use Rattle.meaning.specs.Fields.{Fields}
use Rattle.meaning.specs.Blocks.{no_part, row, optional, an_id, parent, type, content, item, body, blocks, sections, all_blocks}
use Rattle.meaning.proofs.Blocks.{Any, Ranked, dropped-same, among-more, Content}
use Rattle.meaning_explain.specs.Explain.{Sheet, sheet, noted, value_for}
use Rattle.meaning_explain.proofs.Traces.{closed, World, traced, Notes, Same, Tells}
use Rattle.meaning_explain.proofs.Traces.{same-done, same_stop, same-bind, same-field, same_end, same_after, same_then}
use Rattle.meaning_explain.proofs.Traces.{tells-done, tells-stop, tells-if, tells-from, tells-bind, tells-unless, tells-after, tells-then}
use Rattle.meaning_explain.proofs.Traces.{tells-room, tells_both, tells_all}

-- fields that tell what a world tells
pub record Telling {S T : Type 0} (W : World S T) (F : Fields (S × Sheet)) : Type 0 where
  pub number : (role most : ℕ) → Notes W role (grammar.number (grammar.up_to most)) (λ a. a) (F.number role most)
  pub client : (role : ℕ) → Notes W role (grammar.number grammar.client) (λ a. a) (F.client role)
  pub left_clock : (role : ℕ) → Notes W role (grammar.number grammar.left_clock) (λ a. a) (F.left_clock role)
  pub right_clock : (role : ℕ) → Notes W role (grammar.number grammar.right_clock) (λ a. a) (F.right_clock role)
  pub info : (role : ℕ) → Notes W role (grammar.number grammar.info) (λ a. a) (F.info role)
  pub parent_info : (role : ℕ) → Notes W role (grammar.number grammar.parent_info) (λ a. a) (F.parent_info role)
  pub type_number : (role : ℕ) → Notes W role (grammar.number grammar.type_number) (λ a. a) (F.type_number role)
  pub len : (role : ℕ) → Notes W role (grammar.number grammar.len) (λ a. a) (F.len role)
  pub text : (role : ℕ) → Notes W role grammar.text (λ a. (a.0, a.1.0)) (F.text role)
  pub bytes : (role : ℕ) → Notes W role grammar.bytes (λ p. p) (F.bytes role)
  pub key : (role : ℕ) → Notes W role grammar.key (λ p. p) (F.key role)
  pub value : (role blame : ℕ) → Notes W role (grammar.value blame) (λ p. p) (F.value role blame)
  pub values : (role blame n : ℕ) → Notes W role (grammar.values blame n) (λ p. p) (F.values role blame n)
  pub kept : (x : S × Sheet) → F.kept x ≡ got tt (x.0, closed x.1)
  -- what is good stays so; a number's line is for its role, and has its value
  pub stays : (x : Field) (a : Answer x) (t s : T) → W.Good t → W.reads x t ≡ course.got a s → W.Good s
  pub first : (role : ℕ) (n : Number) (a : ℕ × ℕ) (t s : T) (rest : List Line)
      → value_for 4 (W.tell role (grammar.number n) a t s ++ rest) ≡ (when eqb role 4 then a.0 else value_for 4 rest)
  -- a kept block is where the plan is
  pub fine : (q : Plan) (h : Sheet) (b : Block) → q.clock ≡ b.clock → value_for 4 h.head ≡ q.first → W.ok q h b ≡ true

-- the plan is p, in a section whose first clock is `first`
pub record In (first : ℕ) (p q : Plan) (y : Sheet) : Type 0 where
  pub at : q ≡ p
  pub head : value_for 4 y.head ≡ first

-- the number of the role that a plan draws next; it is none of a section's head
abbrev Labels : ℕ → Plan → Type 0
Labels role q = (code_of (moved_on q).role ≡ role) × (eqb role 2 ≡ false) × (ltb role 5 ≡ false)

-- before n blocks of a section, or, where none is left, before s sections
unfoldable pub before : (s n m first c : ℕ) → Plan
before s n m first c = plan (block_role n s) s (n - 1) m first c 0 0 0

pub record Before (s n m first c : ℕ) (q : Plan) (y : Sheet) : Type 0 where
  pub at : moved_on q ≡ before s n m first c
  pub head : value_for 4 y.head ≡ first

-- before s sections
pub record Between (s m : ℕ) (q : Plan) (y : Sheet) : Type 0 where
  pub first : ℕ
  pub clock : ℕ
  pub at : moved_on q ≡ before s 0 m first clock

-- in a section's head, which has no first clock yet
pub record Heading (p q : Plan) (y : Sheet) : Type 0 where
  pub at : q ≡ p
  pub head : (rest : List Line) → value_for 4 (y.head ++ rest) ≡ value_for 4 rest

module _ {S T : Type 0} (W : World S T) (F : Fields (S × Sheet)) (T' : Telling W F) where
  -- ---- a block of a section with ss sections and k blocks behind it, m blocks of room, first clock `first`, clock c, info i at place p
  module _ (ss k m first c i p : ℕ) where
    abbrev at : Role → ℕ → Plan
    at r n = plan r ss k m first c i p n

    -- where its content begins
    abbrev within : Plan
    within = at (content_role (i % 32)) 0

    abbrev Means : {A B : Type 0} → Plan → (A → Type 0) → (A → B) → (A → Plan) → Reads (S × Sheet) A → Grammar Block B → Type 0
    Means q P f q' m g = Same W (In first q) P f (λ a. In first (q' a)) m g

    gives : {A B : Type 0} {q : Plan} {P : A → Type 0} {f : A → B} {q' : A → Plan} (a : A) → P a → q ≡ q' a → Means q P f q' (done a) (grammar.done (f a))
    gives a p e = same-done a p (λ q x pre. record { at = pre.at ∙ e; head = pre.head })

    picks : {A B : Type 0} {q q₁ : Plan} {P : A → Type 0} {f : A → B} {q' : A → Plan} (b : Bool) {m m' : Reads (S × Sheet) A} {g g' : Grammar Block B}
        → Means q P f q' m g → Means q₁ P f q' m' g' → Means (pick b q q₁) P f q' (when b then m else m') (pick b g g')
    unfolding when◌then◌else◌
    picks true x y = x
    picks false x y = y

    chooses : {A B : Type 0} {r r₁ : Role} {P : A → Type 0} {f : A → B} {q' : A → Plan} (b : Bool) {m m' : Reads (S × Sheet) A} {g g' : Grammar Block B}
        → Means (at r 0) P f q' m g → Means (at r₁ 0) P f q' m' g' → Means (at (pick b r r₁) 0) P f q' (when b then m else m') (pick b g g')
    unfolding when◌then◌else◌
    chooses true x y = x
    chooses false x y = y

    -- a draw: of the role with that number, which is none of a section's head
    draws : {A : Type 0} {q' : A → Plan} (role : ℕ) (r : Role) (n : ℕ) (x : Field) {m : Reads (S × Sheet) A} (f : A → Answer x) (seen : Answer x → A)
        → ((a : Answer x) → f (seen a) ≡ a) → Notes W role x seen m → Labels role (at r n)
        → ((a : Answer x) → after (moved_on (at r n)) (heard x a).0 (heard x a).1 ≡ q' (seen a)) → Means (at r n) Any f q' m (draw x)
    unfolding noted when◌then◌else◌
    draws {q'} role r n x {m} f seen back notes (labelled, no-count, no-head) goes =
        same-field role m x f seen back notes (T'.stays x) (λ q y pre. ap (λ (q : Plan). code_of (moved_on q).role) pre.at ∙ labelled)
        (λ q y a t s pre. record {
          at = ap (λ (q : Plan). after (moved_on q) (heard x a).0 (heard x a).1) pre.at ∙ goes a;
          head = same_head (W.tell role x a t s) y ∙ pre.head;
        })
      where
        same_head : (ls : List Line) (y : Sheet) → value_for 4 (noted role ls y).head ≡ value_for 4 y.head
        same_head ls y = rw (no-count, no-head) (go (eqb role 6))
          where
            go : (b : Bool) → value_for 4 (when b then sheet y.head ls y.kept else sheet y.head (y.own ++ ls) y.kept).head ≡ value_for 4 y.head
            go true = refl
            go false = refl

    -- what is given as it is read
    field : (x : Field) {q' : Answer x → Plan} (role : ℕ) (r : Role) (n : ℕ) {m : Reads (S × Sheet) (Answer x)}
        → Notes W role x (λ a. a) m → Labels role (at r n)
        → ((a : Answer x) → after (moved_on (at r n)) (heard x a).0 (heard x a).1 ≡ q' a) → Means (at r n) Any (λ a. a) q' m (draw x)
    field x role r n notes labels goes = draws role r n x (λ a. a) (λ a. a) (λ a. refl) notes labels goes

    text-means : {q' : Part × ℕ → Plan} (role : ℕ) (r : Role) → Labels role (at r 0)
        → ((p : Part) (n : ℕ) → after (moved_on (at r 0)) n 0 ≡ q' (p, n)) → Means (at r 0) Any (λ a. (a.0, record { 0 = a.1 })) q' (F.text role) (draw text)
    unfolding heard
    text-means role r labels goes =
        draws role r 0 text (λ a. (a.0, record { 0 = a.1 })) (λ a. (a.0, a.1.0)) (λ a. refl) (T'.text role) labels (λ a. goes a.0 a.1.0)

    id-means : (q' : Plan) (role role₁ : ℕ) (r r₁ : Role) (x : Number) (m : Reads (S × Sheet) (ℕ × ℕ)) → Notes W role₁ (number x) (λ a. a) m
        → Labels role (at r 0) → ((v p : ℕ) → after (moved_on (at r 0)) v p ≡ at r₁ 0)
        → Labels role₁ (at r₁ 0) → ((v p : ℕ) → after (moved_on (at r₁ 0)) v p ≡ q')
        → Means (at r 0) Any (λ i. i) (λ i. q') (an_id F (F.client role) m) (old.an_id x)
    unfolding an_id old.an_id heard
    id-means q' role role₁ r r₁ x m notes labels goes labels₁ goes₁ =
        same-bind _ (field (number client) role r 0 (T'.client role) labels (λ a. goes a.0 a.1)) (λ a _.
        same-bind _ (field (number x) role₁ r₁ 0 notes labels₁ (λ a. goes₁ a.0 a.1)) (λ b _. gives _ tt refl))

    -- ---- where an item stands

    -- the tests ask on one side whether it is there, on the other whether it is not
    optional-means : {A B : Type 0} (f : Option A → B) (least v : ℕ) {q q₁ q' : Plan} {m : Reads (S × Sheet) A} (g : Grammar Block B)
        → (ltb v least ≡ true → q ≡ q') → Means q₁ Any (λ a. f (some a)) (λ _. q') m g
        → Means (pick (ltb v least) q q₁) Any f (λ _. q') (optional (leb least v) m) (pick (ltb v least) (grammar.done (f none)) g)
    unfolding optional when◌then◌else◌
    optional-means f least v {q} {q₁} {q'} {m} g skips x = go (ltb v least) refl
      where
        go : (b : Bool) → ltb v least ≡ b → Means (pick b q q₁) Any f (λ _. q') (optional (leb least v) m) (pick b (grammar.done (f none)) g)
        go true e = rw (lt-leb least v (ltb-true v least e)) (gives none tt (skips e))
        go false e = rw (le-leb least v (ltb-false v least e)) (same_end g (same-bind _ x (λ a _. gives (some a) tt refl)))

    pick_at : (b : Bool) (r r₁ : Role) → pick b (at r 0) (at r₁ 0) ≡ at (pick b r r₁) 0
    pick_at true r r₁ = refl
    pick_at false r r₁ = refl

    -- behind a left id, and behind a parent
    abbrev rightward : Plan
    rightward = pick (ltb (i % 128) 64) within (at role.RightClient 0)

    abbrev keyward : Plan
    keyward = pick (ltb i 32) within (at role.Key 0)

    -- of a row as it is read: its clock is the plan's
    abbrev Held : Block → Type 0
    Held b = Ranked b.kind × (b.clock ≡ c)

    -- the row of a client before its content
    module _ (who : ℕ) where
      abbrev begun : Option Id → Option Id → Option Id → Option Part → Option Part → Block
      begun left right above name key = row who c 0 0 left right above name key no_part no_part 0

      left-means : ltb i 64 ≡ false
          → Means (pick (ltb i 128) (at role.RightClient 0) (at role.LeftClient 0)) Any (λ l. begun l none none none none) (λ _. rightward)
          (optional (leb 128 i) (an_id F (F.client 9) (F.left_clock 10))) (old.left i (begun none none none none none))
      unfolding old.left row moved_on is_ended code_of after plan_after go_to to_right
      left-means high =
          optional-means _ 128 i _ skips (same_then _ (id-means rightward 9 10 role.LeftClient role.LeftClock left_clock (F.left_clock 10) (T'.left_clock 10)
          (refl, refl, refl) (λ v p. refl) (refl, refl, refl) (λ v p. refl)))
        where
          skips : ltb i 128 ≡ true → at role.RightClient 0 ≡ rightward
          skips e = rw (le-ltb (i % 128) 64 (omega (arith, ltb-false i 64 high, ltb-true i 128 e)))

      right-means : (l : Option Id)
          → Means rightward Any (λ r. begun l r none none none) (λ _. within) (optional (leb 64 (i % 128)) (an_id F (F.client 11) (F.right_clock 12)))
          (old.right i (begun l none none none none))
      unfolding old.right row moved_on is_ended code_of after plan_after go_to
      right-means l =
          optional-means _ 64 (i % 128) _ (λ e. refl) (same_then _ (id-means within 11 12 role.RightClient role.RightClock right_clock (F.right_clock 12)
          (T'.right_clock 12) (refl, refl, refl) (λ v p. refl) (refl, refl, refl) (λ v p. refl)))

      parent-means : Means (at role.ParentInfo 0) Any (λ x. begun none none x.0 x.1 none) (λ _. keyward) (parent F)
          (old.parent (begun none none none none none))
      unfolding parent old.parent old.parent_after row moved_on is_ended code_of after plan_after go_to to_parent heard
      parent-means =
          same-bind _ (field (number parent_info) 13 role.ParentInfo 0 (T'.parent_info 13) (refl, refl, refl) (λ a. refl)) (λ v _.
          picks (eqb v.0 1) (same-bind _ (text-means 14 role.ParentName (refl, refl, refl) (λ p n. refl)) (λ p _. gives _ tt refl))
          (same-bind _ (id-means keyward 15 16 role.ParentClient role.ParentClock left_clock (F.left_clock 16) (T'.left_clock 16)
          (refl, refl, refl) (λ v p. refl) (refl, refl, refl) (λ v p. refl)) (λ i _. gives _ tt refl)))

      key-means : (above : Option Id) (name : Option Part)
          → Means keyward Any (λ k. begun none none above name k) (λ _. within) (optional (leb 32 i) (λ s. on (F.text 17 s) (λ p. done p.0)))
          (old.key i (begun none none above name none))
      unfolding old.key row moved_on is_ended code_of after plan_after go_to
      key-means above name =
          optional-means _ 32 i _ (λ e. refl) (same-bind _ (text-means 17 role.Key (refl, refl, refl) (λ p n. refl)) (λ p _. gives _ tt refl))

      -- ---- what it holds

      module _ (left right above : Option Id) (name key : Option Part) where
        abbrev holding : Content → Block
        holding (kind, n, p, mark, t) = row who c n kind left right above name key p mark t

        type-means : Means (at role.TypeNumber 0) Any (λ x. holding (7, 1, no_part, x.1, x.0)) (λ _. at role.Ended 1) (type F p)
            (old.type p (begun left right above name key))
        unfolding type old.type old.node row is_named moved_on is_ended code_of after plan_after go_to to_node lengthened heard
        type-means =
            same-bind _ (field (number type_number) 23 role.TypeNumber 0 (T'.type_number 23) (refl, refl, refl) (λ a. refl)) (λ (t : ℕ × ℕ) _.
            same_end _ (same-bind _
            (picks (ltb 6 t.0) (same_stop 5 p)
            (picks (eqb t.0 3 || eqb t.0 5)
            (same_then _ (field grammar.key 24 role.NodeName 0 (T'.key 24) (refl, refl, refl) (λ a. refl)))
            (gives no_part tt refl)))
            (λ name _. gives _ tt refl)))

        content-means : Means within (λ x. Ranked x.0) holding (λ x. at role.Ended x.1) (content F (i % 32) p)
            (old.content_of (i % 32) p (begun left right above name key))
        unfolding content old.content_of old.deleted old.binary old.string old.format old.any_list row is_item content_role
            moved_on is_ended code_of after plan_after go_to lengthened heard
        content-means =
            let n = i % 32 in
            chooses (eqb n 1) (same-bind _ (field (number len) 18 role.DeletedLength 0 (T'.len 18) (refl, refl, refl) (λ a. refl)) (λ v _. gives _ refl refl))
            (chooses (eqb n 3)
            (same-bind _ (field grammar.bytes 19 role.Binary 0 (T'.bytes 19) (refl, refl, refl) (λ a. refl)) (λ v _. gives _ refl refl))
            (chooses (eqb n 4) (same-bind _ (text-means 20 role.Text (refl, refl, refl) (λ p n. refl)) (λ v _. gives _ refl refl))
            (chooses (eqb n 6)
            (same-bind _ (field grammar.key 21 role.MarkKey 0 (T'.key 21) (refl, refl, refl) (λ a. refl)) (λ k _.
            same-bind _ (field (grammar.value p) 22 role.MarkValue 0 (T'.value 22 p) (refl, refl, refl) (λ a. refl)) (λ v _. gives _ refl refl)))
            (chooses (eqb n 7) (same_end _ (same-bind _ type-means (λ x _. gives _ refl refl)))
            (chooses (eqb n 8)
            (same-bind _ (field (number len) 25 role.ListLength 0 (T'.len 25) (refl, refl, refl) (λ a. refl)) (λ v _.
            same-bind _ (field (grammar.values p v.0) 26 role.ListValues v.0 (T'.values 26 p v.0) (refl, refl, refl) (λ a. refl))
            (λ w _. gives _ refl refl)))
            (same_stop 5 p))))))

        filled-means : Means within Held (λ b. b) (λ b. at role.Ended b.length.0) (λ s. on (content F (i % 32) p s) (λ x. done (holding x)))
            (old.content_of (i % 32) p (begun left right above name key))
        unfolding row
        filled-means = same_end _ (same-bind _ content-means (λ x h. gives (holding x) (h, refl) refl))

      -- ---- an item: with a left or a right id, neither parent nor key is spelled

      abbrev ended : Block → Plan
      ended b = at role.Ended b.length.0

      rooted-means : Means (at role.ParentInfo 0) Held (λ b. b) ended
          (λ s. on (parent F s) (λ x s. on (optional (leb 32 i) (λ s. on (F.text 17 s) (λ p. done p.0)) s) (λ k s.
          on (content F (i % 32) p s) (λ y. done (holding none none x.0 x.1 k y)))))
          (old.parent (begun none none none none none) >>= old.key i >>= old.content i p)
      unfolding old.content
      rooted-means =
          same_after _ _ _ (same-bind _ parent-means (λ x _.
          same-bind _ (key-means x.0 x.1) (λ k _. filled-means none none x.0 x.1 k)))

      beside-means : ltb i 64 ≡ false → Means (pick (ltb i 128) (at role.RightClient 0) (at role.LeftClient 0)) Held (λ b. b) ended
          (λ s. on (optional (leb 128 i) (an_id F (F.client 9) (F.left_clock 10)) s) (λ l s.
          on (optional (leb 64 (i % 128)) (an_id F (F.client 11) (F.right_clock 12)) s) (λ r s.
          on (content F (i % 32) p s) (λ y. done (holding l r none none none y)))))
          (old.left i (begun none none none none none) >>= old.right i >>= old.content i p)
      unfolding old.content
      beside-means high =
          same_after _ _ _ (same-bind _ (left-means high) (λ l _. same-bind _ (right-means l) (λ r _. filled-means l r none none none)))

      item-means : Means (at (pick (ltb i 64) role.ParentInfo (pick (ltb i 128) role.RightClient role.LeftClient)) 0) Held (λ b. b) ended
          (item F who c i p) (old.an_item i p (plain who c 0 0))
      unfolding item old.an_item old.place row optional when◌then◌else◌ on
      item-means = go (ltb i 64) refl
        where
          go : (b : Bool) → ltb i 64 ≡ b
              → Means (at (pick b role.ParentInfo (pick (ltb i 128) role.RightClient role.LeftClient)) 0) Held (λ b. b) ended
              (item F who c i p) (old.an_item i p (plain who c 0 0))
          go true e =
              let low : i < 64 = ltb-true i 64 e in
              rw (e, lt-leb 128 i (omega arith), lt-leb 64 (i % 128) (omega arith)) rooted-means
          go false e = rw (e, ← pick_at (ltb i 128) role.RightClient role.LeftClient) (beside-means e)

      body-means : Means (at (info_role i) 0) Held (λ b. b) ended (body F who c i p) (old.body who c i p)
      unfolding body old.body old.bare row is_item info_role moved_on is_ended code_of after plan_after lengthened heard
      body-means =
          chooses (eqb i 10)
          (same-bind _ (field (number (up_to 2147483647)) 7 role.SkipLength 0 (T'.number 7 2147483647) (refl, refl, refl) (λ a. refl))
          (λ n _. gives _ (refl, refl) refl))
          (chooses (eqb i 0)
          (same-bind _ (field (number len) 8 role.GcLength 0 (T'.len 8) (refl, refl, refl) (λ a. refl)) (λ n _. gives _ (refl, refl) refl)) item-means)

  -- ---- blocks

  behind-block : (ss k m first c i p n : ℕ) (y : Sheet) (q : Plan) → In first (plan role.Ended ss k m first c i p n) q y → Before ss k m first (c + n) q y
  unfolding before moved_on is_ended code_of onward
  behind-block ss k m first c i p n y q pre = record { at = ap moved_on pre.at; head = pre.head }

  -- an end is a clock, an item of length 0 is dropped
  block-tells : {Post : Plan → Sheet → Type 0} (ss k m first c i p rows : ℕ) (b : Block) → Ranked b.kind → b.clock ≡ c
      → (read : ℕ → Reads (S × Sheet) (List Block)) (g : Grammar Block (Unit {0}))
      → ((n : ℕ) → Tells W n (Before ss k m first (c + b.length.0)) Post (read n) g)
      → Tells W rows (In first (plan role.Ended ss k m first c i p b.length.0)) Post
      (when ltb 2147483647 (c + b.length.0) then refuse 3 p else
      when eqb b.length.0 0 && ltb 2 b.kind then read rows else
      when eqb rows 0 then refuse 8 p else (λ s. on (F.kept s) (λ _ s. on (read (rows - 1) s) (λ bs. done (b ∷ bs)))))
      (pick (ltb 2147483647 (c + b.length.0)) (stop 3 p) (old.unless_dropped b p g))
  unfolding old.unless_dropped
  block-tells ss k m first c i p rows b ranked clocked read g more =
      let n = b.length.0 in
      rw (dropped-same b ranked) (tells-if (ltb 2147483647 (c + n)) (tells-stop 3 p)
      (tells-if (eqb n 0 && ltb 2 b.kind) (tells-from (λ q y pre. behind-block ss k m first c i p n y q pre) (more rows))
      (tells-room F.kept T'.kept rows b p read g
      (λ q y pre. (
        T'.fine q y b (ap (λ (q : Plan). q.clock) pre.at ∙ sym clocked) (pre.head ∙ sym (ap (λ (q : Plan). q.first) pre.at)),
        behind-block ss k m first c i p n (closed y) q (record { at = pre.at; head = pre.head }),
      )) more)))

  before-one : (s k m first c : ℕ) → before s (suc k) m first c ≡ plan role.Info s k m first c 0 0 0
  unfolding before block_role
  before-one s k m first c =
      let less : suc k - 1 ≡ k = omega arith in
      rw (ne_eqb (suc k) 0 (λ e. omega (arith, e)), less)

  info-means : (s k m first c : ℕ)
      → Same W (Before s (suc k) m first c) Any (λ a. a) (λ a. In first (plan (info_role a.0) s k m first c a.0 a.1 0)) (F.info 6) (draw (number info))
  unfolding heard after plan_after informed code_of noted when◌then◌else◌
  info-means s k m first c =
      same-field 6 (F.info 6) (number info) (λ a. a) (λ a. a) (λ a. refl) (T'.info 6) (T'.stays (number info))
      (λ q y pre. ap (λ (q : Plan). code_of q.role) (pre.at ∙ before-one s k m first c))
      (λ q y a t s' pre. record { at = ap (λ (q : Plan). after q a.0 a.1) (pre.at ∙ before-one s k m first c); head = pre.head })

  blocks-tells : (s m first k who c rows : ℕ) → Tells W rows (Before s k m first c) (Between s m) (blocks F k who c rows) (old.blocks k who c)
  unfolding blocks old.blocks old.block
  blocks-tells s m first zero who c rows = tells-done rows (λ q y pre. record { first = first; clock = c; at = pre.at })
  blocks-tells s m first (suc k) who c rows =
      tells-after _ _ _ (tells-bind _ (info-means s k m first c) (λ x _.
      tells-then _ (λ b. (b, x.1)) _ (tells-bind _ (body-means s k m first c x.0 x.1 who) (λ b h.
      block-tells s k m first c x.0 x.1 rows b h.0 h.1 (λ n. blocks F k who (c + b.length.0) n) (old.blocks k who (c + b.length.0))
      (λ n. blocks-tells s m first k who (c + b.length.0) n)))))

  -- ---- sections

  before-section : (n m first c : ℕ) → before (suc n) 0 m first c ≡ plan role.Blocks (suc n) 0 m first c 0 0 0
  unfolding before block_role section_role
  before-section n m first c = rw (ne_eqb (suc n) 0 (λ e. omega (arith, e)))

  count-means : (n m : ℕ)
      → Same W (Between (suc n) m) Any (λ a. a) (λ a. Heading (plan role.Client n a.0 (m - a.0) 0 0 0 0 0)) (F.number 2 m) (draw (number (up_to m)))
  unfolding heard after plan_after announced code_of noted when◌then◌else◌
  count-means n m =
      same-field 2 (F.number 2 m) (number (up_to m)) (λ a. a) (λ a. a) (λ a. refl) (T'.number 2 m) (T'.stays (number (up_to m)))
      (λ q y pre. ap (λ (q : Plan). code_of q.role) (pre.at ∙ before-section n m pre.first pre.clock))
      (λ q y a t s pre. record {
        at = ap (λ (q : Plan). after q a.0 a.1) (pre.at ∙ before-section n m pre.first pre.clock)
            ∙ ap (λ (j : ℕ). plan role.Client j a.0 (m - a.0) 0 0 0 0 0) (let e : suc n - 1 ≡ n = omega arith in e);
        head = λ rest. T'.first 2 (up_to m) a t s rest;
      })

  client-means : (n k m : ℕ)
      → Same W (Heading (plan role.Client n k m 0 0 0 0 0)) Any (λ a. a) (λ a. Heading (plan role.FirstClock n k m 0 0 0 0 0))
      (F.client 3) (draw (number client))
  unfolding heard after plan_after go_to code_of noted when◌then◌else◌ moved_on is_ended
  client-means n k m =
      same-field 3 (F.client 3) (number client) (λ a. a) (λ a. a) (λ a. refl) (T'.client 3) (T'.stays (number client))
      (λ q y pre. ap (λ (q : Plan). code_of (moved_on q).role) pre.at)
      (λ q y a t s pre. record {
        at = ap (λ (q : Plan). after (moved_on q) a.0 a.1) pre.at;
        head = λ rest.
            ap (value_for 4) (append_assoc y.head (W.tell 3 (number client) a t s) rest) ∙ pre.head (W.tell 3 (number client) a t s ++ rest)
            ∙ T'.first 3 client a t s rest;
      })

  before-goes : (s n m first c : ℕ) → moved_on (before s n m first c) ≡ before s n m first c
  unfolding before moved_on is_ended block_role section_role code_of
  before-goes s n m first c = go (eqb n 0) (eqb s 0)
    where
      go : (x y : Bool) → moved_on (plan (pick x (pick y role.Over role.Blocks) role.Info) s (n - 1) m first c 0 0 0)
          ≡ plan (pick x (pick y role.Over role.Blocks) role.Info) s (n - 1) m first c 0 0 0
      go true true = refl
      go true false = refl
      go false y = refl

  headed-is : (n k m clock : ℕ) → headed clock (plan role.FirstClock n k m 0 0 0 0 0) ≡ before n k m clock clock
  unfolding headed onward before
  headed-is n k m clock = ap (λ (j : ℕ). before n k m clock j) (let e : clock + 0 ≡ clock = omega arith in e)

  clock-means : (n k m : ℕ)
      → Same W (Heading (plan role.FirstClock n k m 0 0 0 0 0)) Any (λ a. a) (λ a. Before n k m a.0 a.0)
      (F.number 4 2147483647) (draw (number (up_to 2147483647)))
  unfolding heard after plan_after code_of noted when◌then◌else◌ moved_on is_ended value_for
  clock-means n k m =
      same-field 4 (F.number 4 2147483647) (number (up_to 2147483647)) (λ a. a) (λ a. a) (λ a. refl) (T'.number 4 2147483647)
      (T'.stays (number (up_to 2147483647))) (λ q y pre. ap (λ (q : Plan). code_of (moved_on q).role) pre.at)
      (λ q y a t s pre. record {
        at = ap (λ (q : Plan). moved_on (after (moved_on q) a.0 a.1)) pre.at ∙ ap moved_on (headed-is n k m a.0) ∙ before-goes n k m a.0 a.0;
        head = pre.head (W.tell 4 (number (up_to 2147483647)) a t s)
            ∙ ap (value_for 4) (sym (append-nil (W.tell 4 (number (up_to 2147483647)) a t s))) ∙ T'.first 4 (up_to 2147483647) a t s [];
      })

  sections-tells : (n : ℕ) (seen : ℕ → Bool) (clients : List ℕ) → ((d : ℕ) → seen d ≡ among d clients) → (room rows : ℕ)
      → Tells W rows (Between n room) (λ q y. Unit {0}) (sections F n seen room rows) (old.sections n clients room)
  unfolding sections old.sections
  sections-tells zero seen clients e room rows = tells-done rows (λ q y pre. tt)
  sections-tells (suc n) seen clients e room rows =
      tells-bind _ (count-means n room) (λ (k : ℕ × ℕ) _.
      tells-bind _ (client-means n k.0 (room - k.0)) (λ (c : ℕ × ℕ) _.
      rw (e c.0) (tells-unless (among c.0 clients) 4 c.1 _ (clock-means n k.0 (room - k.0))
      (λ (clock : ℕ × ℕ) _.
      tells_both (blocks-tells n (room - k.0) clock.0 k.0 c.0 clock.0 rows) (λ bs.
      sections-tells n (λ d. eqb c.0 d || seen d) (clients ++ (c.0 ∷ []))
      (λ d. ap (λ (x : Bool). eqb c.0 d || x) (e d) ∙ among-more c.0 d clients)
      (room - k.0) (rows - length bs))))))

  sections-means : Same W (λ q y. q ≡ start) Any (λ a. a) (λ a. Between a.0 65535) (F.number 1 64) (draw (number (up_to 64)))
  unfolding heard after plan_after code_of moved_on is_ended sectioned before block_role
  sections-means =
      same-field 1 (F.number 1 64) (number (up_to 64)) (λ a. a) (λ a. a) (λ a. refl) (T'.number 1 64) (T'.stays (number (up_to 64)))
      (λ q y pre. ap (λ (q : Plan). code_of (moved_on q).role) pre)
      (λ q y a t s pre. record {
        first = 0;
        clock = 0;
        at = ap (λ (q : Plan). moved_on (after (moved_on q) a.0 a.1)) pre ∙ before-goes a.0 0 65535 0 0;
      })

  all-tells : (rows : ℕ) → Tells W rows (λ q y. q ≡ start) (λ q y. Unit {0}) (all_blocks F rows) old.all_blocks
  unfolding all_blocks old.all_blocks among
  all-tells rows = tells-bind _ sections-means (λ n _. sections-tells n.0 (λ _. false) [] (λ d. refl) 65535 rows)

  pub blocks-traced : (rows : ℕ) (t : T) → W.Good t → (x : Sheet) → all_blocks F rows (W.view t, x) ≡ traced W rows start x old.all_blocks t
  blocks-traced rows t good x = tells_all (all-tells rows) t good start x refl
