-- Content read again: a length, bytes, a text, a mark's key and value, a type, or plain values.
use Prim.Native.Nat.{ℕ, ◌%◌}
use mathlib.Core.Path.{◌≡◌, refl, sym, ap, ap₂, ◌∙◌}
use mathlib.Core.Bool.{Bool, true, false}
use mathlib.Core.List.{List, [], ◌∷◌}
use mathlib.Core.Logic.{inl, inr}
use borrow.Author.Tests.{le-ltb}
use Rattle.numbers.specs.Number.{pick}
use Rattle.text.specs.declared.Part.{Part}
use Rattle.block.specs.declared.Block.{Block}
use Rattle.block.specs.Row.{no_part}
use Rattle.block.specs.Rows.{with_content, with_mark, with_type, mark_is}
use Rattle.block.specs.Kinds.{DELETED, BINARY, TEXT, FORMAT, TYPE, ANY, is_format, is_type, is_item, max_type, is_named}
use Rattle.block.specs.KindsInner.{has_part, is_marked}
use Rattle.block.proofs.OfKinds.{AnItem, item-kinds}
use Rattle.grammar.specs.Grammar as grammar
use Rattle.grammar.specs.Grammar.{draw, done}
use Rattle.grammar.specs.Grammar.{◌>>=◌}
use Rattle.grammar.specs.Course.{Reader, over, run}
use Rattle.grammar.specs.Blocks.{deleted, binary, string, format, node, type, any_list, content_of, content}
use Rattle.readings.specs.Sound.{bytes_in}
use Rattle.tokens.specs.Tokens.{text, len, buf, value, values}
use Rattle.tokens.specs.TokensInner.{type_number}
use Rattle.draws.specs.Draws.{lane_field, Draws}
use Rattle.records.specs.Records.{content_number, mark, format_tokens, type_tokens, marked_tokens, content_tokens}
use Rattle.written.proofs.Courses.{draw-on}
use Rattle.written.proofs.Ids.{Finds}
use Rattle.written.proofs.Roots.{nothing-in}
use Rattle.written.proofs.Values.{values-all}
use Rattle.written.proofs.Holdings.{Holding}

-- an item is made up of its place and its content: a part, a mark, and the numbers of b
abbrev pub filled : Block → Part → Part → Block → Block
filled b p q c = mark_is q b.type_number (with_content b.kind b.length p c)

-- before its content an item has no mark and no type
pub record Unfilled (c : Block) : Type 0 where
  pub mark : c.mark ≡ no_part
  pub type : c.type_number ≡ 0

module _ {S : Type 0} (r : Reader S) (d u : List ℕ) (b : Block) (info place : ℕ) (c : Block) (s m : S) where
  -- what content reading finds behind an info byte with the content number
  pub record Found : Type 0 where
    pub part : Part
    pub mark : Part
    pub is : Finds r (content info place c) s (filled b part mark c) m
    pub same : bytes_in d part ≡ bytes_in u b.part
    pub marked : bytes_in d mark ≡ bytes_in u b.mark

  module _ (low : info % 32 ≡ content_number b.kind) (holds : Holding u b) (new : Unfilled c) where
    -- the grammar of a kind finds b with this part and this mark
    abbrev Fills : ℕ → Part → Part → Type 0
    Fills kind p q = Finds r (content_of (content_number kind) place c) s (mark_is q b.type_number (with_content kind b.length p c)) m

    filled_is : (kind : ℕ) (p q : Part) → b.kind ≡ kind → Fills kind p q → Finds r (content info place c) s (filled b p q c) m
    unfolding content
    filled_is kind p q e is =
        ap (λ (n : ℕ). run {E = Block} r (content_of n place c) s) (low ∙ ap content_number e) ∙ is
        ∙ ap (λ (k : ℕ). over (mark_is q b.type_number (with_content k b.length p c)) m) (sym e)

    -- ---- no type

    untyped : is_type b.kind ≡ false → c.type_number ≡ b.type_number
    untyped t = new.type ∙ sym (holds.stored.untyped t)

    -- no mark either
    unmarked : (kind : ℕ) (p : Part) → b.kind ≡ kind → is_format kind ≡ false → is_type kind ≡ false
        → Finds r (content_of (content_number kind) place c) s (with_content kind b.length p c) m → bytes_in d p ≡ bytes_in u b.part → Found
    unfolding is_marked
    unmarked kind p e f t is same =
        record {
          part = p;
          mark = c.mark;
          is = filled_is kind p c.mark e
              (is ∙ ap (λ (n : ℕ). over (mark_is c.mark n (with_content kind b.length p c)) m) (untyped (rw e t)));
          same = same;
          marked = rw (new.mark, holds.mark.absent (rw (e, f, t))) (nothing-in d u);
        }

    deleted-read : b.kind ≡ DELETED → Draws r d s (content_tokens u b) m → Found
    unfolding content_of content_number content_tokens deleted has_part Draws lane_field run
    deleted-read e h =
        let k : Draws r d s (len b.length.0 ∷ []) m = rw e at h in
        unmarked DELETED no_part e refl refl
        (draw-on r (grammar.number grammar.len) (b.length.0, k.0) s k.1 _ k.2 ∙ ap (over (with_content DELETED b.length no_part c)) k.3)
        (rw (holds.stored.nothing (rw e)) (nothing-in d u))

    binary-read : b.kind ≡ BINARY → Draws r d s (content_tokens u b) m → Found
    unfolding content_of content_number content_tokens binary Draws run
    binary-read e h =
        let k : Draws r d s (buf (bytes_in u b.part) ∷ []) m = rw e at h in
        unmarked BINARY k.0 e refl refl
        (draw-on r grammar.bytes k.0 s k.1 _ k.2
        ∙ ap₂ (λ (n : ℕ) (t : S). over (with_content BINARY (record { 0 = n }) k.0 c) t) (sym (holds.stored.binary e)) k.4)
        k.3

    string-read : b.kind ≡ TEXT → Draws r d s (content_tokens u b) m → Found
    unfolding content_of content_number content_tokens string Draws run
    string-read e h =
        let k : Draws r d s (text (bytes_in u b.part) b.length.0 ∷ []) m = rw e at h in
        unmarked TEXT k.0 e refl refl
        (draw-on r grammar.text (k.0, b.length) s k.1 _ k.2 ∙ ap (over (with_content TEXT b.length k.0 c)) k.4) k.3

    -- as many values as it has units
    any-read : b.kind ≡ ANY → Draws r d s (content_tokens u b) m → Found
    unfolding content_of content_number content_tokens marked_tokens any_list Draws lane_field run
    any-read e h =
        let k : Draws r d s (len b.length.0 ∷ (values (bytes_in u b.part) ∷ [])) m = rw e at h in
        let v = k.3 in
        let are = values-all u b.length.0 b.part holds.stored.lies (holds.stored.any e) in
        unmarked ANY v.0 e refl refl
        (draw-on r (grammar.number grammar.len) (b.length.0, k.0) s k.1 _ k.2
        ∙ draw-on r (grammar.values place b.length.0) v.0 k.1 v.1 _ (v.2 place b.length.0 are)
        ∙ ap (over (with_content ANY b.length v.0 c)) v.4)
        v.3

    -- ---- a mark

    format_read : b.kind ≡ FORMAT → Draws r d s (content_tokens u b) m → Found
    unfolding content_of content_number content_tokens marked_tokens format_tokens format Draws run
    format_read e h =
        let k : Draws r d s (mark u b.mark ∷ (value (bytes_in u b.part) ∷ [])) m = rw e at h in
        let v = k.4 in
        record {
          part = v.0;
          mark = k.0;
          is = filled_is FORMAT v.0 k.0 e
              (draw-on r grammar.key k.0 s k.1 _ k.2
              ∙ draw-on r (grammar.value place) v.0 k.1 v.1 _ (v.2 place)
              ∙ ap (λ (n : ℕ). over (mark_is k.0 n (with_content FORMAT (record { 0 = 1 }) v.0 c)) v.1) (untyped (rw e))
              ∙ ap₂ (λ (n : ℕ) (t : S). over (mark_is k.0 b.type_number (with_content FORMAT (record { 0 = n }) v.0 c)) t)
              (sym (holds.stored.format e)) v.4);
          same = v.3;
          marked = k.3;
        }

    -- ---- a type, which may have a node name

    -- what is found behind its number, where f has it
    record Node (x : Bool) (f : Block) (t : S) : Type 0 where
      mark : Part
      is : Finds r (pick x (draw grammar.key >>= λ k. done (with_mark k f)) (done f)) t (mark_is mark f.type_number f) m
      marked : bytes_in d mark ≡ bytes_in u b.mark

    node-read : (x : Bool) (f : Block) (t : S) → f.mark ≡ no_part → (x ≡ false → b.mark ≡ no_part)
        → Draws r d t (pick x (mark u b.mark ∷ []) []) m → Node x f t
    unfolding Draws run
    node-read true f t none absent h =
        record { mark = h.0; is = draw-on r grammar.key h.0 t h.1 _ h.2 ∙ ap (over (with_mark h.0 f)) h.4; marked = h.3 }
    node-read false f t none absent h = record { mark = f.mark; is = ap (over f) h; marked = rw (none, absent refl) (nothing-in d u) }

    type-read : b.kind ≡ TYPE → Draws r d s (content_tokens u b) m → Found
    unfolding content_of content_number content_tokens marked_tokens type_tokens type node has_part is_marked Draws lane_field
    type-read e h =
        let n : ℕ = b.type_number in
        let k : Draws r d s (type_number n ∷ pick (is_named n) (mark u b.mark ∷ []) []) m = rw e at h in
        let one = holds.stored.type e in
        let f : Block = with_type n (with_content TYPE (record { 0 = 1 }) no_part c) in
        let unnamed : is_named n ≡ false → b.mark ≡ no_part = λ x. holds.mark.absent (rw (e, x)) in
        let x = node-read (is_named n) f k.1 new.mark unnamed k.3 in
        record {
          part = no_part;
          mark = x.mark;
          is = filled_is TYPE no_part x.mark e
              (draw-on r (grammar.number grammar.type_number) (n, k.0) s k.1 _ k.2 ∙ rw (le-ltb max_type n one.1) x.is
              ∙ ap (λ (i : ℕ). over (mark_is x.mark n (with_content TYPE (record { 0 = i }) no_part c)) m) (sym one.0));
          same = rw (holds.stored.nothing (rw e)) (nothing-in d u);
          marked = x.marked;
        }

    pub content-read : is_item b.kind ≡ true → Draws r d s (content_tokens u b) m → Found
    content-read l h = go (item-kinds b.kind l)
      where
        go : AnItem b.kind → Found
        go (inl e) = deleted-read e h
        go (inr (inl e)) = binary-read e h
        go (inr (inr (inl e))) = string-read e h
        go (inr (inr (inr (inl e)))) = format_read e h
        go (inr (inr (inr (inr (inl e))))) = type-read e h
        go (inr (inr (inr (inr (inr e))))) = any-read e h
