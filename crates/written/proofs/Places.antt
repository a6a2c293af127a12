-- What stands beside an item's content, read again: its ids, or a parent and perhaps a key.
use Prim.Native.Nat.{ℕ}
use mathlib.Core.Path.{◌≡◌, refl, sym, ap, subst, ◌∙◌}
use mathlib.Core.Bool.{Bool, true, false, ◌||◌}
use mathlib.Core.List.{List, ◌++◌}
use lib.Dec.{ltb}
use Rattle.numbers.specs.Number.{pick}
use Rattle.text.specs.declared.Part.{Part}
use Rattle.block.specs.declared.Id.{Id}
use Rattle.block.specs.declared.Block.{Block}
use Rattle.block.specs.Row.{no_id, no_part, left_id, right_id, parent_id}
use Rattle.block.specs.Rows.{plain}
use Rattle.block.specs.Kinds.{is_deleted, is_binary, is_text, is_format, is_type, is_any, is_item}
use Rattle.block.specs.KindsInner.{is_marked}
use Rattle.block.proofs.OfKinds.{item-part}
use Rattle.grammar.specs.Course.{Reader}
use Rattle.grammar.specs.Blocks.{place}
use Rattle.readings.specs.Sound.{bytes_in, linked}
use Rattle.readings.specs.SoundInner.{Sound}
use Rattle.readings.proofs.Columns.{clash}
use Rattle.draws.specs.Draws.{Draws}
use Rattle.draws.proofs.Splits.{split}
use Rattle.records.specs.Records.{info_byte, left_tokens, right_tokens, parent_tokens, key_tokens, place_tokens}
use Rattle.written.specs.Written.{Alike, keyless}
use Rattle.written.proofs.Infos.{info-says}
use Rattle.written.proofs.Courses.{then-on}
use Rattle.written.proofs.Ids.{beside, Finds, left-read, right-read}
use Rattle.written.proofs.Roots.{rooted, nothing-in, parent-read, key-read}
use Rattle.written.proofs.Contents.{filled, Unfilled}

-- what is no item has no type and no mark
no-marks : (k : ℕ) → is_item k ≡ false → (is_format k ≡ false) × (is_type k ≡ false)
unfolding is_item
no-marks k = go (is_deleted k) (is_binary k) (is_text k) (is_format k) (is_type k) (is_any k)
  where
    go : (x y z f t a : Bool) → (x || y || z || f || t || a) ≡ false → (f ≡ false) × (t ≡ false)
    go true y z f t a h = clash h
    go false true z f t a h = clash h
    go false false true f t a h = clash h
    go false false false true t a h = clash h
    go false false false false true a h = clash h
    go false false false false false a h = (refl, refl)

no-mark : (k type : ℕ) → is_item k ≡ false → is_marked k type ≡ false
unfolding is_marked
no-mark k type l = rw ((no-marks k l).0, (no-marks k l).1)

-- an id that is not there, by its client and its clock
no-client : (i : Id) → i ≡ no_id → i.client ≡ 0
no-client i e = ap (λ (j : Id). j.client) e

no-clock : (i : Id) → i ≡ no_id → i.clock ≡ 0
no-clock i e = ap (λ (j : Id). j.clock) e

-- b before anything of it is read, with its ids, and with a parent's name and a key that lie in the new update
abbrev pub bare : Block → Block
bare b = plain b.client b.clock 0 0

abbrev pub with_ids : Block → Block
with_ids b = beside b.client b.clock b.has_left (left_id b) b.has_right (right_id b)

abbrev pub with_root : Block → Part → Part → Block
with_root b p q = rooted b.client b.clock b.has_parent (parent_id b) b.has_name p b.has_key q

module _ {S : Type 0} (r : Reader S) (d u : List ℕ) (b : Block) where
  -- from s to m a block's place is read, and with content of the same bytes the block is like c
  pub record Placed (c : Block) (s m : S) : Type 0 where
    pub block : Block
    pub is : Finds r (place (info_byte b) (bare b)) s block m
    pub new : Unfilled block
    pub alike : (p q : Part) → bytes_in d p ≡ bytes_in u b.part → bytes_in d q ≡ bytes_in u b.mark → Alike d (filled b p q block) u c

  -- ---- ids beside it

  module _ (some : linked b ≡ true) (sound : Sound u (keyless b)) (l : is_item b.kind ≡ true) where
    linked-alike : (p q : Part) → bytes_in d p ≡ bytes_in u b.part → bytes_in d q ≡ bytes_in u b.mark → Alike d (filled b p q (with_ids b)) u (keyless b)
    unfolding linked
    linked-alike p q e f =
        let none = sound.shape.rootless l some in
        let away = sound.parent.absent none.0 in
        record {
          same = rw (none.0, no-client (parent_id b) away, no-clock (parent_id b) away, none.1);
          name = nothing-in d u ∙ ap (bytes_in u) (sym (sound.name.absent none.1));
          key = nothing-in d u;
          part = e;
          mark = f;
        }

    pub linked-place : (s m : S) → Draws r d s (place_tokens u b) m → Placed (keyless b) s m
    unfolding place_tokens left_tokens right_tokens place linked
    linked-place s m h =
        let k : Draws r d s (left_tokens b ++ right_tokens b) m = rw some at h in
        let two = split r d (left_tokens b) (right_tokens b) s m k in
        let says = info-says b l in
        let ids : ltb (info_byte b) 64 ≡ false = says.ids ∙ ap (λ (x : Bool). pick x false true) some in
        let v = info_byte b in
        let left = left-read r d b.client b.clock v b.has_left (left_id b) sound.left.absent says.left s two.between two.first in
        let right = right-read r d b.client b.clock v b.has_left (left_id b) b.has_right (right_id b) sound.right.absent says.right in
        record {
          block = with_ids b;
          is = rw ids (then-on r _ _ s two.between _ left ∙ right two.between m two.then);
          new = record { mark = refl; type = refl };
          alike = linked-alike;
        }

  -- ---- a parent, and perhaps a key

  module _ (none : linked b ≡ false) (sound : Sound u b) where
    no-ids : (b.has_left ≡ false) × (b.has_right ≡ false)
    unfolding linked
    no-ids = go b.has_left none
      where
        go : (x : Bool) → pick x true b.has_right ≡ false → (x ≡ false) × (b.has_right ≡ false)
        go true e = clash e
        go false e = (refl, e)

    rooted-alike : (n k p q : Part) → bytes_in d n ≡ bytes_in u b.name → bytes_in d k ≡ bytes_in u b.key → bytes_in d p ≡ bytes_in u b.part
        → bytes_in d q ≡ bytes_in u b.mark → Alike d (filled b p q (with_root b n k)) u b
    rooted-alike n k p q named keyed e f =
        let left = sound.left.absent no-ids.0 in
        let right = sound.right.absent no-ids.1 in
        record {
          same =
              rw (no-ids.0, no-ids.1, no-client (left_id b) left, no-clock (left_id b) left, no-client (right_id b) right, no-clock (right_id b) right);
          name = named;
          key = keyed;
          part = e;
          mark = f;
        }

    pub rooted-place : is_item b.kind ≡ true → (s m : S) → Draws r d s (place_tokens u b) m → Placed b s m
    unfolding place_tokens parent_tokens key_tokens place linked
    rooted-place l s m h =
        let k : Draws r d s (parent_tokens u b ++ key_tokens u b) m = rw none at h in
        let two = split r d (parent_tokens u b) (key_tokens u b) s m k in
        let says = info-says b l in
        let ids : ltb (info_byte b) 64 ≡ true = says.ids ∙ ap (λ (x : Bool). pick x false true) none in
        let parent = parent-read r d u b.client b.clock b.has_parent (parent_id b) b.has_name b.name in
        let root = parent (sound.shape.rooted l none) sound.parent.absent sound.name.absent s two.between two.first in
        let text = key-read r d u b.client b.clock (info_byte b) b.has_parent (parent_id b) b.has_name root.0 b.has_key b.key in
        let key = text sound.key.absent (says.key none) two.between m two.then in
        record {
          block = with_root b root.0 key.0;
          is = rw ids (then-on r _ _ s two.between _ root.1 ∙ key.1);
          new = record { mark = refl; type = refl };
          alike = λ p q e f. rooted-alike root.0 key.0 p q root.2 key.2 e f;
        }

    -- ---- GC and Skip have only a length

    pub bare_alike : is_item b.kind ≡ false → Alike d (plain b.client b.clock b.length.0 b.kind) u b
    bare_alike l =
        let none = sound.shape.bare l in
        let away = sound.parent.absent none.1 in
        let absent : (p : Part) → p ≡ no_part → bytes_in d no_part ≡ bytes_in u p = λ p e. rw e (nothing-in d u) in
        let same : filled b no_part no_part (with_root b no_part no_part) ≡ plain b.client b.clock b.length.0 b.kind =
        rw (none.1, none.2, none.3, no-client (parent_id b) away, no-clock (parent_id b) away, sound.stored.untyped (no-marks b.kind l).1) in
        subst (λ (x : Block). Alike d x u b) same
        (rooted-alike no_part no_part no_part no_part (absent b.name (sound.name.absent none.2)) (absent b.key (sound.key.absent none.3))
        (absent b.part (sound.stored.nothing (item-part b.kind l))) (absent b.mark (sound.mark.absent (no-mark b.kind b.type_number l))))
