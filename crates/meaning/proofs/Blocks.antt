-- The blocks of an update, read by fields that are alike to a reader of the grammar: what the grammar keeps, with that reader.
use Prim.Native.Nat.{ℕ, zero, suc, ◌+◌, ◌-◌, ◌%◌, ◌<◌}
use mathlib.Core.Path.{◌≡◌, refl, ap, ◌∙◌}
use mathlib.Core.Bool.{Bool, true, false, ◌&&◌, ◌||◌}
use mathlib.Core.List.{List, [], ◌∷◌, ◌++◌}
use mathlib.Core.Option.{Option, some, none}
use native.Mathlib.Omega.{arith}
use lib.Dec.{ltb, leb, eqb}
use lib.ListN.{length}
use borrow.Author.Tests.{ltb-true, ltb-false, le-leb, lt-leb}
use Rattle.numbers.specs.Number.{pick}
use Rattle.numbers.specs.Words.{among}
use Rattle.text.specs.declared.Part.{Part}
use Rattle.block.specs.declared.Id.{Id}
use Rattle.block.specs.declared.Block.{Block}
use Rattle.block.specs.Rows.{plain}
use Rattle.block.specs.Kinds.{is_item, is_named}
use Rattle.grammar.specs.Grammar as grammar
use Rattle.grammar.specs.Grammar.{Number, up_to, client, left_clock, right_clock, info, parent_info, type_number, len}
use Rattle.grammar.specs.Grammar.{Field, number, text, Answer, Grammar, stop, draw}
use Rattle.grammar.specs.Grammar.{◌>>=◌}
use Rattle.grammar.specs.Course.{Reader, run, fit}
use Rattle.grammar.specs.Blocks as old
use Rattle.meaning.specs.Reads.{when◌then◌else◌, Reads, on, done, refuse}
use Rattle.meaning.specs.Fields.{Fields}
use Rattle.meaning.specs.Blocks.{no_part, row, optional, an_id, parent, type, content, item, body, blocks, sections, all_blocks}
use Rattle.meaning.specs.Alike.{Alike, drawn_as, collect}
use Rattle.meaning.proofs.Courses.{Same, same-done, same_stop, same_if, same-bind, same-field, same_end, same_after, same_then}
use Rattle.meaning.proofs.Courses.{Tells, tells-done, tells-stop, tells-if, tells-bind, tells-unless, tells-after, tells-then}
use Rattle.meaning.proofs.Courses.{tells-room, tells_both, tells_all}

-- of whatever is read
abbrev pub Any : {A : Type 0} → A → Type 0
Any a = Unit {0}

-- a kind that says with its number whether it is an item
abbrev pub Ranked : ℕ → Type 0
Ranked kind = is_item kind ≡ ltb 2 kind

-- of a row as it is read
abbrev Held : Block → Type 0
Held b = Ranked b.kind

pub dropped-same : (b : Block) → Ranked b.kind → old.dropped b ≡ (eqb b.length.0 0 && ltb 2 b.kind)
unfolding old.dropped
dropped-same b h = rw h (go (eqb b.length.0 0))
  where
    go : (x : Bool) → pick x (ltb 2 b.kind) false ≡ (x && ltb 2 b.kind)
    go true = refl
    go false = refl

-- a client more was seen
pub among-more : (c d : ℕ) (seen : List ℕ) → (eqb c d || among d seen) ≡ among d (seen ++ (c ∷ []))
unfolding among
among-more c d [] = go (eqb c d)
  where
    go : (x : Bool) → (x || false) ≡ pick x true false
    go true = refl
    go false = refl
among-more c d (w ∷ ws) = go (eqb w d) (eqb c d) ∙ ap (λ (x : Bool). pick (eqb w d) true x) (among-more c d ws)
  where
    go : (x y : Bool) → (y || pick x true (among d ws)) ≡ pick x true (y || among d ws)
    go true true = refl
    go true false = refl
    go false y = refl

-- what an item holds: kind, length, stored part, mark and type number
abbrev pub Content : Type 0
Content = ℕ × ℕ × Part × Part × ℕ

module _ {S T : Type 0} (view : T → S) (F : Fields S) (R : Reader T) (alike : Alike view F R) where
  -- ---- fields

  abbrev Means : {A B : Type 0} → (A → Type 0) → (A → B) → Reads S A → Grammar Block B → Type 0
  Means P f m g = Same view R P f m g

  field-same : (x : Field) {m : Reads S (Answer x)} → ((t : T) → m (view t) ≡ drawn_as (λ a. a) view (R x t)) → Means Any (λ a. a) m (draw x)
  field-same x {m} e = same-field m x (λ a. a) (λ a. a) (λ a. refl) e

  text_same : (role : ℕ) → Means Any (λ a. (a.0, record { 0 = a.1 })) (F.text role) (draw text)
  text_same role = same-field (F.text role) text _ (λ a. (a.0, a.1.0)) (λ a. refl) (alike.text role)

  id_same : (role : ℕ) (m : Reads S (ℕ × ℕ)) (n : Number) → ((t : T) → m (view t) ≡ drawn_as (λ a. a) view (R (number n) t))
      → Means Any (λ i. i) (an_id F (F.client role) m) (old.an_id n)
  unfolding an_id old.an_id
  id_same role m n e = same-bind _ (field-same (number client) (alike.client role)) (λ c _. same-bind _ (field-same (number n) e) (λ k _. same-done _ tt))

  -- ---- where an item stands

  -- the tests ask on one side whether it is there, on the other whether it is not
  optional-same : {A B : Type 0} (f : Option A → B) (least i : ℕ) {m : Reads S A} (g : Grammar Block B) → Means Any (λ a. f (some a)) m g
      → Means Any f (optional (leb least i) m) (pick (ltb i least) (grammar.done (f none)) g)
  unfolding optional when◌then◌else◌
  optional-same f least i {m} g x = go (ltb i least) refl
    where
      go : (b : Bool) → ltb i least ≡ b → Means Any f (optional (leb least i) m) (pick b (grammar.done (f none)) g)
      go true e = rw (lt-leb least i (ltb-true i least e)) (same-done none tt)
      go false e = rw (le-leb least i (ltb-false i least e)) (same_end g (same-bind _ x (λ a _. same-done (some a) tt)))

  -- a row before its content
  module _ (c clock : ℕ) where
    abbrev begun : Option Id → Option Id → Option Id → Option Part → Option Part → Block
    begun left right above name key = row c clock 0 0 left right above name key no_part no_part 0

    left-same : (i : ℕ) → Means Any (λ l. begun l none none none none) (optional (leb 128 i) (an_id F (F.client 9) (F.left_clock 10)))
        (old.left i (begun none none none none none))
    unfolding old.left row
    left-same i = optional-same _ 128 i _ (same_then _ (id_same 9 _ left_clock (alike.left_clock 10)))

    right-same : (l : Option Id) (i : ℕ)
        → Means Any (λ r. begun l r none none none) (optional (leb 64 (i % 128)) (an_id F (F.client 11) (F.right_clock 12)))
        (old.right i (begun l none none none none))
    unfolding old.right row
    right-same l i = optional-same _ 64 (i % 128) _ (same_then _ (id_same 11 _ right_clock (alike.right_clock 12)))

    parent-same : Means Any (λ x. begun none none x.0 x.1 none) (parent F) (old.parent (begun none none none none none))
    unfolding parent old.parent old.parent_after row
    parent-same =
        same-bind _ (field-same (number parent_info) (alike.parent_info 13)) (λ v _.
        same_if (eqb v.0 1) (same-bind _ (text_same 14) (λ p _. same-done _ tt))
        (same-bind _ (id_same 15 _ left_clock (alike.left_clock 16)) (λ i _. same-done _ tt)))

    key-same : (above : Option Id) (name : Option Part) (i : ℕ)
        → Means Any (λ k. begun none none above name k) (optional (leb 32 i) (λ s. on (F.text 17 s) (λ p. done p.0)))
        (old.key i (begun none none above name none))
    unfolding old.key row
    key-same above name i = optional-same _ 32 i _ (same-bind _ (text_same 17) (λ p _. same-done _ tt))

    -- ---- what it holds

    module _ (left right above : Option Id) (name key : Option Part) where
      abbrev holding : Content → Block
      holding (kind, n, p, mark, t) = row c clock n kind left right above name key p mark t

      type-same : (at : ℕ) → Means Any (λ x. holding (7, 1, no_part, x.1, x.0)) (type F at) (old.type at (begun left right above name key))
      unfolding type old.type old.node row is_named
      type-same at =
          same-bind _ (field-same (number type_number) (alike.type_number 23)) (λ (t : ℕ × ℕ) _.
          same_end _ (same-bind _
          (same_if (ltb 6 t.0) (same_stop 5 at)
          (same_if (eqb t.0 3 || eqb t.0 5) (same_then _ (field-same grammar.key (alike.key 24))) (same-done no_part tt)))
          (λ name _. same-done _ tt)))

      content-same : (n at : ℕ) → Means (λ x. Ranked x.0) holding (content F n at) (old.content_of n at (begun left right above name key))
      unfolding content old.content_of old.deleted old.binary old.string old.format old.any_list row is_item
      content-same n at =
          same_if (eqb n 1) (same-bind _ (field-same (number len) (alike.len 18)) (λ v _. same-done _ refl))
          (same_if (eqb n 3) (same-bind _ (field-same grammar.bytes (alike.bytes 19)) (λ p _. same-done _ refl))
          (same_if (eqb n 4) (same-bind _ (text_same 20) (λ p _. same-done _ refl))
          (same_if (eqb n 6)
          (same-bind _ (field-same grammar.key (alike.key 21)) (λ k _.
          same-bind _ (field-same (grammar.value at) (alike.value 22 at)) (λ v _. same-done _ refl)))
          (same_if (eqb n 7) (same_end _ (same-bind _ (type-same at) (λ x _. same-done _ refl)))
          (same_if (eqb n 8)
          (same-bind _ (field-same (number len) (alike.len 25)) (λ v _.
          same-bind _ (field-same (grammar.values at v.0) (alike.values 26 at v.0)) (λ w _. same-done _ refl)))
          (same_stop 5 at))))))

      filled-same : (n at : ℕ) → Means Held (λ b. b) (λ s. on (content F n at s) (λ x. done (holding x)))
          (old.content_of n at (begun left right above name key))
      unfolding row
      filled-same n at = same_end _ (same-bind _ (content-same n at) (λ x h. same-done (holding x) h))

    -- ---- an item: with a left or a right id, neither parent nor key is spelled

    rooted-same : (i at : ℕ)
        → Means Held (λ b. b)
        (λ s. on (parent F s) (λ x s. on (optional (leb 32 i) (λ s. on (F.text 17 s) (λ p. done p.0)) s) (λ k s.
        on (content F (i % 32) at s) (λ y. done (holding none none x.0 x.1 k y)))))
        (old.parent (begun none none none none none) >>= old.key i >>= old.content i at)
    unfolding old.content
    rooted-same i at =
        same_after _ _ _ (same-bind _ parent-same (λ x _.
        same-bind _ (key-same x.0 x.1 i) (λ k _. filled-same none none x.0 x.1 k (i % 32) at)))

    beside_same : (i at : ℕ)
        → Means Held (λ b. b)
        (λ s. on (optional (leb 128 i) (an_id F (F.client 9) (F.left_clock 10)) s) (λ l s.
        on (optional (leb 64 (i % 128)) (an_id F (F.client 11) (F.right_clock 12)) s) (λ r s.
        on (content F (i % 32) at s) (λ y. done (holding l r none none none y)))))
        (old.left i (begun none none none none none) >>= old.right i >>= old.content i at)
    unfolding old.content
    beside_same i at =
        same_after _ _ _ (same-bind _ (left-same i) (λ l _.
        same-bind _ (right-same l i) (λ r _. filled-same l r none none none (i % 32) at)))

    item-same : (i at : ℕ) → Means Held (λ b. b) (item F c clock i at) (old.an_item i at (plain c clock 0 0))
    unfolding item old.an_item old.place row optional when◌then◌else◌ on
    item-same i at = go (ltb i 64) refl
      where
        go : (b : Bool) → ltb i 64 ≡ b → Means Held (λ b. b) (item F c clock i at) (old.an_item i at (plain c clock 0 0))
        go true e =
            let low : i < 64 = ltb-true i 64 e in
            rw (e, lt-leb 128 i (omega arith), lt-leb 64 (i % 128) (omega arith)) (rooted-same i at)
        go false e = rw e (beside_same i at)

    body_same : (i at : ℕ) → Means Held (λ b. b) (body F c clock i at) (old.body c clock i at)
    unfolding body old.body old.bare row is_item
    body_same i at =
        same_if (eqb i 10) (same-bind _ (field-same (number (up_to 2147483647)) (alike.number 7 2147483647)) (λ n _. same-done _ refl))
        (same_if (eqb i 0) (same-bind _ (field-same (number len) (alike.len 8)) (λ n _. same-done _ refl)) (item-same i at))

  -- ---- blocks and sections

  -- an end is a clock, an item of length 0 is dropped
  block-tells : (rows clock : ℕ) (b : Block) (at : ℕ) → Held b → (m : ℕ → Reads S (List Block)) (g : Grammar Block (Unit {0}))
      → ((n : ℕ) → Tells view R n (m n) g)
      → Tells view R rows
      (when ltb 2147483647 (clock + b.length.0) then refuse 3 at else
      when eqb b.length.0 0 && ltb 2 b.kind then m rows else
      when eqb rows 0 then refuse 8 at else (λ s. on (F.kept s) (λ _ s. on (m (rows - 1) s) (λ bs. done (b ∷ bs)))))
      (pick (ltb 2147483647 (clock + b.length.0)) (stop 3 at) (old.unless_dropped b at g))
  unfolding old.unless_dropped
  block-tells rows clock b at h m g more =
      rw (dropped-same b h) (tells-if (ltb 2147483647 (clock + b.length.0)) (tells-stop 3 at)
      (tells-if (eqb b.length.0 0 && ltb 2 b.kind) (more rows) (tells-room F.kept alike.kept rows b at m g more)))

  blocks-tells : (k c clock rows : ℕ) → Tells view R rows (blocks F k c clock rows) (old.blocks k c clock)
  unfolding blocks old.blocks old.block
  blocks-tells zero c clock rows = tells-done rows
  blocks-tells (suc k) c clock rows =
      tells-after _ _ _ (tells-bind _ (field-same (number info) (alike.info 6)) (λ x _.
      tells-then _ (λ b. (b, x.1)) _ (tells-bind _ (body_same c clock x.0 x.1) (λ b h.
      block-tells rows clock b x.1 h (λ n. blocks F k c (clock + b.length.0) n) (old.blocks k c (clock + b.length.0))
      (λ n. blocks-tells k c (clock + b.length.0) n)))))

  sections-tells : (n : ℕ) (seen : ℕ → Bool) (clients : List ℕ) → ((d : ℕ) → seen d ≡ among d clients) → (room rows : ℕ)
      → Tells view R rows (sections F n seen room rows) (old.sections n clients room)
  unfolding sections old.sections
  sections-tells zero seen clients e room rows = tells-done rows
  sections-tells (suc n) seen clients e room rows =
      tells-bind _ (field-same (number (up_to room)) (alike.number 2 room)) (λ (k : ℕ × ℕ) _.
      tells-bind _ (field-same (number client) (alike.client 3)) (λ (c : ℕ × ℕ) _.
      rw (e c.0) (tells-unless (among c.0 clients) 4 c.1 _ (field-same (number (up_to 2147483647)) (alike.number 4 2147483647))
      (λ (clock : ℕ × ℕ) _.
      tells_both (blocks-tells k.0 c.0 clock.0 rows) (λ bs.
      sections-tells n (λ d. eqb c.0 d || seen d) (clients ++ (c.0 ∷ []))
      (λ d. ap (λ (x : Bool). eqb c.0 d || x) (e d) ∙ among-more c.0 d clients)
      (room - k.0) (rows - length bs))))))

  all-tells : (rows : ℕ) → Tells view R rows (all_blocks F rows) old.all_blocks
  unfolding all_blocks old.all_blocks among
  all-tells rows = tells-bind _ (field-same (number (up_to 64)) (alike.number 1 64)) (λ n _. sections-tells n.0 (λ _. false) [] (λ d. refl) 65535 rows)

pub blocks-alike : {S T : Type 0} (view : T → S) (F : Fields S) (R : Reader T)
    → Alike view F R → (rows : ℕ) (t : T) → all_blocks F rows (view t) ≡ collect view (fit rows (run R old.all_blocks t))
blocks-alike view F R alike rows t = tells_all (all-tells view F R alike rows) t
