-- A block as it is read is sound, and its value is as its form has it, if its end is a clock and it is not dropped.
use Prim.Native.Nat.{ℕ, ◌+◌, ◌%◌, ◌≤◌, ◌<◌}
use mathlib.Core.Path.{◌≡◌, refl, sym, ap, subst, ◌∙◌}
use mathlib.Core.Bool.{Bool, true, false}
use mathlib.Core.List.{List}
use native.Mathlib.Omega.{arith}
use lib.Dec.{ltb, eqb}
use borrow.Author.Tests.{ltb-true, ltb-false, eqb-true, eqb-false}
use Rattle.numbers.specs.Number.{pick}
use Rattle.numbers.specs.Limits.{max_value, max_clock}
use Rattle.text.specs.declared.Part.{Part}
use Rattle.text.specs.declared.Units.{Units}
use Rattle.text.specs.Utf8.{well_formed, after, settled}
use Rattle.block.specs.declared.Block.{Block}
use Rattle.block.specs.Row.{no_id, no_part, left_id, right_id, parent_id}
use Rattle.block.specs.Kinds.{GC, SKIP, DELETED, BINARY, TEXT, FORMAT, TYPE, ANY, is_format, is_type, is_item, max_type, is_named}
use Rattle.block.specs.KindsInner.{is_bare, is_block, has_part, is_marked}
use Rattle.block.specs.Rows.{plain, with_right, with_key, mark_is, with_content}
use Rattle.grammar.specs.Grammar as fields
use Rattle.grammar.specs.Grammar.{Number, Grammar}
use Rattle.grammar.specs.Grammar.{◌>>=◌}
use Rattle.grammar.specs.Blocks as grammar
use Rattle.readings.specs.Sound.{bytes_in, linked}
use Rattle.readings.specs.SoundInner.{Lies, SoundId, SoundText, Shape, Stored, Sound, Valued}
use Rattle.readings.proofs.Walks as walks
use Rattle.readings.proofs.Columns.{clash, chosen, WholeText}
use Rattle.readings.proofs.Fields.{GoodNumber, Word, Good, values-lie}

-- an item that is dropped ends where it starts, and one that is kept does not
pub dropped-empty : (b : Block) → grammar.dropped b ≡ true → b.length.0 ≡ 0
unfolding grammar.dropped
dropped-empty b e = go (eqb b.length.0 0) refl e
  where
    go : (t : Bool) → eqb b.length.0 0 ≡ t → pick t (is_item b.kind) false ≡ true → b.length.0 ≡ 0
    go true q e = eqb-true b.length.0 0 q
    go false q e = clash (sym e)

kept-some : (b : Block) → grammar.dropped b ≡ false → is_item b.kind ≡ true → 0 < b.length.0
unfolding grammar.dropped
kept-some b e l = go (eqb b.length.0 0) refl e
  where
    go : (t : Bool) → eqb b.length.0 0 ≡ t → pick t (is_item b.kind) false ≡ false → 0 < b.length.0
    go true q e = clash (sym l ∙ e)
    go false q e = omega (arith, eqb-false b.length.0 0 q)

module _ (form : ℕ) (u : List ℕ) where
  abbrev Comes : {A : Type 0} → (A → Type 0) → Grammar Block A → Type 0
  Comes P x = walks.Comes (Good u (eqb form 1)) P x

  bind : {A B : Type 0} (P : A → Type 0) (Q : B → Type 0) (x : Grammar Block A) (g : A → Grammar Block B) → Comes P x → ((a : A) → P a → Comes Q (g a))
      → Comes Q (x >>= g)
  bind P Q x g h then = walks.comes-bind (Good u (eqb form 1)) P Q x g h then

  -- ---- an id, a text, and nothing

  id-comes : (n : Number) → ((v : ℕ) → GoodNumber n v → v ≤ max_clock) → Comes (SoundId true) (grammar.an_id n)
  unfolding walks.Comes ◌>>=◌ grammar.an_id Good GoodNumber
  id-comes n clock = λ c i k j. record { client = i; clock = clock k.0 j; absent = λ e. clash e }

  left-id : Comes (SoundId true) (grammar.an_id fields.left_clock)
  unfolding GoodNumber
  left-id = id-comes fields.left_clock (λ v l. l)

  right-id : Comes (SoundId true) (grammar.an_id fields.right_clock)
  unfolding GoodNumber
  right-id = id-comes fields.right_clock (λ v l. l)

  named : (p : Part) (n : ℕ) → WholeText u p n → SoundText u true p
  unfolding bytes_in
  named p n w = record { lies = w.lies; formed = w.formed; absent = λ e. clash e }

  unnamed : SoundText u false no_part
  unfolding bytes_in well_formed after settled
  unnamed = record { lies = omega arith; formed = refl; absent = λ e. refl }

  -- a mark that is there, and one that is not
  marked : (there : Bool) (p : Part) → there ≡ true → Word u p → SoundText u there p
  marked there p e w = record { lies = w.lies; formed = w.formed; absent = λ n. clash (sym e ∙ n) }

  unmarked : (there : Bool) (p : Part) → SoundText u false p → SoundText u there p
  unmarked there p s = record { lies = s.lies; formed = s.formed; absent = λ _. s.absent refl }

  no-id : SoundId false no_id
  no-id = record { client = omega arith; clock = omega arith; absent = λ e. refl }

  module _ (c k : ℕ) (most : c ≤ max_value) where
    -- the fields beside content, drawn for the block of client c at clock k
    record Frame (b : Block) : Type 0 where
      client : b.client ≡ c
      clock : b.clock ≡ k
      left : SoundId b.has_left (left_id b)
      right : SoundId b.has_right (right_id b)
      parent : SoundId b.has_parent (parent_id b)
      name : SoundText u b.has_name b.name
      key : SoundText u b.has_key b.key
      mark : SoundText u false b.mark
      untyped : b.type_number ≡ 0

    plain-frame : (n kind : ℕ) → Frame (plain c k n kind)
    plain-frame n kind = record { client = refl; clock = refl; left = no-id; right = no-id; parent = no-id; name = unnamed; key = unnamed; mark = unnamed; untyped = refl }

    abbrev Unrooted : Block → Type 0
    Unrooted b = (b.has_parent ≡ false) × (b.has_name ≡ false) × (b.has_key ≡ false)

    abbrev Rooted : Block → Type 0
    Rooted b = b.has_name ≡ pick b.has_parent false true

    record Placed (b : Block) : Type 0 where
      frame : Frame b
      rootless : linked b ≡ true → Unrooted b
      rooted : linked b ≡ false → Rooted b

    -- ---- ids beside it: behind the left id, and behind both

    abbrev Left : ℕ → Block → Type 0
    Left info b = Frame b × Unrooted b × (128 ≤ info → b.has_left ≡ true)

    left-comes : (info : ℕ) → Comes (Left info) (grammar.left info (plain c k 0 0))
    unfolding walks.Comes grammar.left
    left-comes info =
        chosen (Comes (Left info)) (ltb info 128) (λ e. (plain-frame 0 0, (refl, refl, refl), λ l. absurd (omega (arith, ltb-true info 128 e, l))))
        (λ e. bind (SoundId true) (Left info) (grammar.an_id fields.left_clock) _ left-id (λ i sound.
        let f = plain-frame 0 0 in (
          record { client = refl; clock = refl; left = sound; right = f.right; parent = f.parent; name = f.name; key = f.key; mark = f.mark; untyped = refl },
          (refl, refl, refl),
          λ l. refl,
        )))

    linked-placed : (b : Block) → Frame b → Unrooted b → linked b ≡ true → Placed b
    linked-placed b f r l = record { frame = f; rootless = λ _. r; rooted = λ e. clash (sym l ∙ e) }

    right-comes : (info : ℕ) → 64 ≤ info → (b : Block) → Left info b → Comes Placed (grammar.right info b)
    unfolding walks.Comes grammar.right linked
    right-comes info big b l =
        let f = l.0 in
        chosen (Comes Placed) (ltb (info % 128) 64)
        (λ e. linked-placed b f l.1 (ap (λ (x : Bool). pick x true b.has_right) (l.2 (omega (arith, ltb-true (info % 128) 64 e)))))
        (λ e. bind (SoundId true) Placed (grammar.an_id fields.right_clock) _ right-id (λ i sound.
        linked-placed (with_right i b)
        (record { client = f.client; clock = f.clock; left = f.left; right = sound; parent = f.parent; name = f.name; key = f.key; mark = f.mark; untyped = f.untyped })
        l.1 (either b.has_left)))
      where
        either : (x : Bool) → pick x true true ≡ true
        either true = refl
        either false = refl

    -- ---- a parent, and a key

    abbrev Parent : Block → Type 0
    Parent b = Frame b × (linked b ≡ false) × Rooted b

    parent-comes : Comes Parent (grammar.parent (plain c k 0 0))
    unfolding walks.Comes ◌>>=◌ grammar.parent grammar.parent_after linked Good
    parent-comes = λ v _.
        chosen (Comes Parent) (eqb v.0 1)
        (λ e a w.
        let name : SoundText u true a.0 = named a.0 a.1.0 w in
        (record { client = refl; clock = refl; left = no-id; right = no-id; parent = no-id; name = name; key = unnamed; mark = unnamed; untyped = refl }, refl, refl))
        (λ e. bind (SoundId true) Parent (grammar.an_id fields.left_clock) _ left-id (λ i sound.
        (record { client = refl; clock = refl; left = no-id; right = no-id; parent = sound; name = unnamed; key = unnamed; mark = unnamed; untyped = refl }, refl, refl)))

    rooted-placed : (b : Block) → Frame b → linked b ≡ false → Rooted b → Placed b
    rooted-placed b f n r = record { frame = f; rootless = λ e. clash (sym e ∙ n); rooted = λ _. r }

    key-comes : (info : ℕ) (b : Block) → Parent b → Comes Placed (grammar.key info b)
    unfolding walks.Comes ◌>>=◌ grammar.key linked Good
    key-comes info b r =
        let f = r.0 in
        chosen (Comes Placed) (ltb info 32) (λ e. rooted-placed b f r.1 r.2)
        (λ e a w. rooted-placed (with_key a.0 b)
        (record { client = f.client; clock = f.clock; left = f.left; right = f.right; parent = f.parent; name = f.name; key = named a.0 a.1.0 w; mark = f.mark; untyped = f.untyped })
        r.1 r.2)

    place-comes : (info : ℕ) → Comes Placed (grammar.place info (plain c k 0 0))
    unfolding grammar.place
    place-comes info =
        chosen (Comes Placed) (ltb info 64)
        (λ e. bind Parent Placed (grammar.parent (plain c k 0 0)) (grammar.key info) parent-comes (key-comes info))
        (λ e. bind (Left info) Placed (grammar.left info (plain c k 0 0)) (grammar.right info) (left-comes info) (right-comes info (ltb-false info 64 e)))

    -- ---- the block, if its end is a clock and it is not dropped

    pub record Body (b : Block) : Type 0 where
      pub client : b.client ≡ c
      pub clock : b.clock ≡ k
      pub sound : k + b.length.0 ≤ max_clock → grammar.dropped b ≡ false → Sound u b × Valued form u b

    -- what content gives a block; an item that is kept has some length
    record Filled (b : Block) : Type 0 where
      mark : SoundText u (is_marked b.kind b.type_number) b.mark
      stored : (is_item b.kind ≡ true → 0 < b.length.0) → Stored u b
      valued : Valued form u b

    abbrev holding : ℕ → Units → Part → Part → ℕ → Block → Block
    holding kind n p m type b = mark_is m type (with_content kind n p b)

    framed : (kind : ℕ) (n : Units) (p m : Part) (type : ℕ) (b : Block) → Frame b → is_block kind ≡ true → Shape (holding kind n p m type b)
        → Filled (holding kind n p m type b) → Body (holding kind n p m type b)
    framed kind n p m type b f is shape filled =
        record {
          client = f.client;
          clock = f.clock;
          sound = λ l d. (
            record {
              client = omega (arith, f.client);
              end = omega (arith, f.clock);
              kind = is;
              left = f.left;
              right = f.right;
              parent = f.parent;
              name = f.name;
              key = f.key;
              mark = filled.mark;
              shape = shape;
              stored = filled.stored (kept-some (holding kind n p m type b) d);
            },
            filled.valued,
          );
        }

    -- ---- by kind

    unvalued : (b : Block) → is_format b.kind ≡ false → Valued form u b
    unvalued b l =
        let no : b.kind ≡ FORMAT → true ≡ false = λ q. sym (ap (λ (x : ℕ). is_format x) q) ∙ l in
        record { text = λ q _. clash (no q); value = λ q _. clash (no q) }

    -- no part, no mark, no type
    empty : (b : Block) → has_part b.kind ≡ false → is_type b.kind ≡ false → b.part ≡ no_part → SoundText u false b.mark → b.type_number ≡ 0 → Filled b
    unfolding has_part
    empty b l t e mark untyped =
        record {
          mark = unmarked (is_marked b.kind b.type_number) b.mark mark;
          stored = λ some. record {
            lies = subst (λ (p : Part). Lies u p) (sym e) (omega arith);
            nothing = λ _. e;
            binary = λ q. clash (sym (ap has_part q) ∙ l);
            format = λ q. clash (sym (ap has_part q) ∙ l);
            type = λ q. clash (sym (ap (λ (x : ℕ). is_type x) q) ∙ t);
            untyped = λ _. untyped;
            any = λ q. clash (sym (ap has_part q) ∙ l);
            text = λ q. clash (sym (ap has_part q) ∙ l);
            some = some;
          };
          valued = record { text = λ q _. clash (sym (ap has_part q) ∙ l); value = λ q _. clash (sym (ap has_part q) ∙ l) };
        }

    -- ---- an item

    module _ (b : Block) (h : Placed b) where
      item-body : (kind : ℕ) (n : Units) (p m : Part) (type : ℕ) → is_item kind ≡ true → is_block kind ≡ true → Filled (holding kind n p m type b)
          → Body (holding kind n p m type b)
      unfolding linked
      item-body kind n p m type l is filled =
          framed kind n p m type b h.frame is (record { bare = λ q. clash (sym l ∙ q); rootless = λ _. h.rootless; rooted = λ _. h.rooted }) filled

      -- no mark and no type
      abbrev only : ℕ → Units → Part → Block
      only kind n p = holding kind n p b.mark b.type_number b

      deleted-comes : Comes Body (grammar.deleted b)
      unfolding walks.Comes ◌>>=◌ grammar.deleted is_bare is_item is_block has_part
      deleted-comes = λ v _.
          item-body DELETED (record { 0 = v.0 }) no_part b.mark b.type_number refl refl
          (empty (only DELETED (record { 0 = v.0 }) no_part) refl refl refl h.frame.mark h.frame.untyped)

      binary-comes : Comes Body (grammar.binary b)
      unfolding walks.Comes ◌>>=◌ grammar.binary Good is_bare is_item is_block has_part is_marked
      binary-comes = λ p l.
          item-body BINARY (record { 0 = 1 }) p b.mark b.type_number refl refl (record {
            mark = h.frame.mark;
            stored = λ some. record {
              lies = l;
              nothing = λ e. clash e;
              binary = λ _. refl;
              format = λ e. absurd (omega arith);
              type = λ e. absurd (omega arith);
              untyped = λ _. h.frame.untyped;
              any = λ e. absurd (omega arith);
              text = λ e. absurd (omega arith);
              some = some;
            };
            valued = unvalued (only BINARY (record { 0 = 1 }) p) refl;
          })

      string-comes : Comes Body (grammar.string b)
      unfolding walks.Comes ◌>>=◌ grammar.string Good bytes_in is_bare is_item is_block has_part is_marked
      string-comes = λ a w.
          item-body TEXT a.1 a.0 b.mark b.type_number refl refl (record {
            mark = h.frame.mark;
            stored = λ some. record {
              lies = w.lies;
              nothing = λ e. clash e;
              binary = λ e. absurd (omega arith);
              format = λ e. absurd (omega arith);
              type = λ e. absurd (omega arith);
              untyped = λ _. h.frame.untyped;
              any = λ e. absurd (omega arith);
              text = λ _. (w.formed, w.units);
              some = some;
            };
            valued = unvalued (only TEXT a.1 a.0) refl;
          })

      format-comes : (at : ℕ) → Comes Body (grammar.format at b)
      unfolding walks.Comes ◌>>=◌ grammar.format Good is_bare is_item is_block has_part is_marked
      format-comes at = λ m w p v.
          item-body FORMAT (record { 0 = 1 }) p m b.type_number refl refl (record {
            mark = marked true m refl w;
            stored = λ some. record {
              lies = v.lies;
              nothing = λ e. clash e;
              binary = λ e. absurd (omega arith);
              format = λ _. refl;
              type = λ e. absurd (omega arith);
              untyped = λ _. h.frame.untyped;
              any = λ e. absurd (omega arith);
              text = λ e. absurd (omega arith);
              some = some;
            };
            valued = record { text = λ _. v.text; value = λ _. v.value };
          })

      type-body : (n : ℕ) (m : Part) → n ≤ max_type → SoundText u (is_named n) m → Body (holding TYPE (record { 0 = 1 }) no_part m n b)
      unfolding is_bare is_item is_block has_part is_marked
      type-body n m low mark =
          item-body TYPE (record { 0 = 1 }) no_part m n refl refl (record {
            mark = mark;
            stored = λ some. record {
              lies = omega arith;
              nothing = λ _. refl;
              binary = λ e. absurd (omega arith);
              format = λ e. absurd (omega arith);
              type = λ _. (refl, low);
              untyped = λ e. clash e;
              any = λ e. absurd (omega arith);
              text = λ e. absurd (omega arith);
              some = some;
            };
            valued = unvalued (holding TYPE (record { 0 = 1 }) no_part m n b) refl;
          })

      type-comes : (at : ℕ) → Comes Body (grammar.type at b)
      unfolding walks.Comes ◌>>=◌ grammar.type grammar.node Good
      type-comes at = λ n _.
          chosen (Comes Body) (ltb max_type n.0) (λ _. tt)
          (λ l. chosen (Comes Body) (is_named n.0) (λ e m w. type-body n.0 m (ltb-false max_type n.0 l) (marked (is_named n.0) m e w))
          (λ _. type-body n.0 b.mark (ltb-false max_type n.0 l) (unmarked (is_named n.0) b.mark h.frame.mark)))

      any-comes : (at : ℕ) → Comes Body (grammar.any_list at b)
      unfolding walks.Comes ◌>>=◌ grammar.any_list Good is_bare is_item is_block has_part is_marked
      any-comes at = λ n _ p v.
          item-body ANY (record { 0 = n.0 }) p b.mark b.type_number refl refl (record {
            mark = h.frame.mark;
            stored = λ some. record {
              lies = values-lie u n.0 p (some refl) v;
              nothing = λ e. clash e;
              binary = λ e. absurd (omega arith);
              format = λ e. absurd (omega arith);
              type = λ e. absurd (omega arith);
              untyped = λ _. h.frame.untyped;
              any = λ _. v;
              text = λ e. absurd (omega arith);
              some = some;
            };
            valued = unvalued (only ANY (record { 0 = n.0 }) p) refl;
          })

      content-comes : (info at : ℕ) → Comes Body (grammar.content info at b)
      unfolding walks.Comes grammar.content grammar.content_of
      content-comes info at =
          chosen (Comes Body) (eqb (info % 32) 1) (λ _. deleted-comes)
          (λ _. chosen (Comes Body) (eqb (info % 32) 3) (λ _. binary-comes)
          (λ _. chosen (Comes Body) (eqb (info % 32) 4) (λ _. string-comes)
          (λ _. chosen (Comes Body) (eqb (info % 32) 6) (λ _. format-comes at)
          (λ _. chosen (Comes Body) (eqb (info % 32) 7) (λ _. type-comes at)
          (λ _. chosen (Comes Body) (eqb (info % 32) 8) (λ _. any-comes at) (λ _. tt))))))

    bare-body : (n kind : ℕ) → is_item kind ≡ false → is_block kind ≡ true → has_part kind ≡ false → is_type kind ≡ false → Body (plain c k n kind)
    unfolding linked
    bare-body n kind l is none type =
        framed kind (record { 0 = n }) no_part no_part 0 (plain c k 0 0) (plain-frame 0 0) is
        (record { bare = λ _. (refl, refl, refl, refl); rootless = λ q. clash (sym q ∙ l); rooted = λ q. clash (sym q ∙ l) })
        (empty (plain c k n kind) none type refl unnamed refl)

    body-comes : (info at : ℕ) → Comes Body (grammar.body c k info at)
    unfolding walks.Comes ◌>>=◌ grammar.body grammar.bare grammar.an_item is_bare is_item is_block has_part
    body-comes info at =
        chosen (Comes Body) (eqb info 10) (λ _ v _. bare-body v.0 SKIP refl refl refl refl)
        (λ _. chosen (Comes Body) (eqb info 0) (λ _ v _. bare-body v.0 GC refl refl refl refl)
        (λ _. bind Placed Body (grammar.place info (plain c k 0 0)) (grammar.content info at) (place-comes info) (λ b h. content-comes b h info at)))

    pub block-comes : walks.Comes (Good u (eqb form 1)) {E = Block} (λ (a : Block × ℕ). Body a.0) (grammar.block c k)
    unfolding walks.Comes ◌>>=◌ grammar.block
    block-comes = λ i _. bind Body (λ (a : Block × ℕ). Body a.0) (grammar.body c k i.0 i.1) _ (body-comes i.0 i.1) (λ b h. h)
