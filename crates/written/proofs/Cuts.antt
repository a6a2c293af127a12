-- What is cut out of a sound row, at either end, can be written: a part of a text is a text and has so many units, and one of a list so many values.
use Prim.Native.Nat.{ℕ, ◌+◌, ◌-◌}
use mathlib.Core.Path.{◌≡◌, refl, sym, ap, subst, ◌∙◌}
use mathlib.Core.Bool.{Bool, true, false}
use mathlib.Core.List.{List}
use mathlib.Core.Logic.{◌⊎◌, inl, inr}
use native.Mathlib.Omega.{arith}
use lib.Dec.{eqb}
use borrow.Author.Tests.{eq-eqb, eqb-true}
use Rattle.numbers.specs.Number.{pick}
use Rattle.columns.proofs.Back.{both}
use Rattle.text.specs.Utf8.{well_formed, after, settled}
use Rattle.block.specs.declared.Block.{Block}
use Rattle.block.specs.Row.{no_id, no_part}
use Rattle.block.specs.Kinds.{TEXT, ANY, is_text, is_any, is_item}
use Rattle.block.specs.KindsInner.{has_part}
use Rattle.block.proofs.OfKinds.{part-text, part-any}
use Rattle.block.proofs.Rows.{same_key}
use Rattle.readings.specs.Sound.{bytes_in, linked}
use Rattle.readings.specs.SoundInner.{Lies, SoundId, SoundText, Stored, Sound, Valued}
use Rattle.readings.proofs.Columns.{chosen}
use Rattle.kept.specs.Kept.{Piece}
use Rattle.kept.specs.KeptInner.{Whole, Inside}
use Rattle.kept.specs.Cut.{cut_part, is_whole, part_of, shortened, begun_later, cut_row, torn}
use Rattle.kept.specs.CutInner.{id_before}
use Rattle.kept.proofs.Lists.{IsList, list-part, list-piece}
use Rattle.written.specs.Written.{keyless, reread, Writable}
use Rattle.written.specs.Kept.{KeptPiece}
use Rattle.written.proofs.Texts.{clash, IsText, later-text}

-- ---- nothing

unnamed : (u : List ℕ) → SoundText u false no_part
unfolding bytes_in well_formed after settled
unnamed u = record { lies = omega arith; formed = refl; absent = λ e. refl }

no-id : SoundId false no_id
no-id = record { client = omega arith; clock = omega arith; absent = λ e. refl }

-- ---- a sound row is sound without its key, so it can be written

sound-keyless : (u : List ℕ) (b : Block) → Sound u b → Sound u (keyless b)
unfolding linked
sound-keyless u b s =
    let shape = s.shape in
    let stored = s.stored in
    record {
      client = s.client;
      end = s.end;
      kind = s.kind;
      left = s.left;
      right = s.right;
      parent = s.parent;
      name = s.name;
      key = unnamed u;
      mark = s.mark;
      shape = record {
        bare = λ l. let x = shape.bare l in (x.0, x.1, x.2, refl);
        rootless = λ l e. let x = shape.rootless l e in (x.0, x.1, refl);
        rooted = shape.rooted;
      };
      stored = record {
        lies = stored.lies;
        nothing = stored.nothing;
        binary = stored.binary;
        format = stored.format;
        type = stored.type;
        untyped = stored.untyped;
        any = stored.any;
        text = stored.text;
        some = stored.some;
      };
    }

pub sound-writable : (form : ℕ) (u : List ℕ) (b : Block) → Sound u b → Valued form u b → Writable form u b
unfolding reread
sound-writable form u b s v = (chosen (Sound u) (linked b) (λ _. sound-keyless u b s) (λ _. s), v)

keyless-writable : (form : ℕ) (u : List ℕ) (b : Block) → Sound u (keyless b) → (linked b ≡ false → (b.has_key ≡ false) × (b.key ≡ no_part))
    → Valued form u b → Writable form u b
unfolding reread
keyless-writable form u b s none v =
    (chosen (Sound u) (linked b) (λ _. s) (λ e. subst (Sound u) (same_key b false no_part (sym (none e).0) (sym (none e).1)) s), v)

-- ---- a piece that is not all of its row

whole-test : (p : Piece) → p.from ≡ 0 → p.to ≡ p.row.length.0 → is_whole p ≡ true
unfolding is_whole
whole-test p e f = rw (eq-eqb p.from 0 e, eq-eqb p.to p.row.length.0 f)

whole-ends : (p : Piece) → is_whole p ≡ true → (p.from ≡ 0) × (p.to ≡ p.row.length.0)
unfolding is_whole
whole-ends p h =
    let x = both (eqb p.from 0) (eqb p.to p.row.length.0) h in
    (eqb-true p.from 0 x.0, eqb-true p.to p.row.length.0 x.1)

module _ (form : ℕ) (u : List ℕ) (p : Piece) (kept : KeptPiece form u p) (part : is_whole p ≡ false) (inside : Inside p) where
  abbrev row : Block
  row = p.row

  abbrev sound : Sound u p.row
  sound = kept.sound

  abbrev left : ℕ
  left = p.to - p.from

  text-is : row.kind ≡ TEXT → IsText u (cut_part u row.part p.from left) left
  unfolding torn
  text-is e = later-text u row.part p.from left sound.stored.lies (rw (part, eq-eqb row.kind TEXT e) at kept.clean)

  part-is : row.kind ≡ TEXT → part_of u p ≡ cut_part u row.part p.from left
  unfolding part_of
  part-is e = rw (eq-eqb row.kind TEXT e)

  list-is : row.kind ≡ ANY → IsList u (part_of u p) left
  list-is e = list-piece u p e sound (omega (arith, inside.some)) inside.most

  same-part : is_text row.kind ≡ false → is_any row.kind ≡ false → part_of u p ≡ row.part
  unfolding part_of
  same-part e f = rw (e, f)

  part_lies : Lies u (part_of u p)
  unfolding part_of
  part_lies =
      chosen (Lies u) (is_text row.kind) (λ e. (text-is (eqb-true row.kind TEXT e)).lies)
      (λ _. chosen (Lies u) (is_any row.kind)
      (λ e. let a = eqb-true row.kind ANY e in subst (Lies u) (list-part u p a) (list-is a).lies) (λ _. sound.stored.lies))

  -- what has one unit is not cut: a binary, a format, a type
  no_one : {A : Type 0} → row.length.0 ≡ 1 → A
  no_one one = clash (sym (whole-test p (omega (arith, inside.some, inside.most)) (omega (arith, inside.some, inside.most))) ∙ part)

  part-stored : (b : Block) → b.kind ≡ row.kind → b.part ≡ part_of u p → b.type_number ≡ row.type_number → b.length.0 ≡ left → Stored u b
  part-stored b k q t n =
      let same : has_part b.kind ≡ false → has_part row.kind ≡ false = λ l. sym (ap has_part k) ∙ l in
      record {
        lies = subst (Lies u) (sym q) part_lies;
        nothing = λ l. q ∙ same-part (part-text row.kind (same l)) (part-any row.kind (same l)) ∙ sound.stored.nothing (same l);
        binary = λ e. no_one (sound.stored.binary (sym k ∙ e));
        format = λ e. no_one (sound.stored.format (sym k ∙ e));
        type = λ e. no_one (sound.stored.type (sym k ∙ e)).0;
        untyped = λ l. t ∙ sound.stored.untyped (rw k at l);
        any = λ e. rw (q, n) (list-is (sym k ∙ e)).values;
        text = λ e. let x = text-is (sym k ∙ e) in rw (q, part-is (sym k ∙ e), n) (x.formed, x.units);
        some = λ l. omega (arith, inside.some);
      }

  part-valued : (b : Block) → b.kind ≡ row.kind → Valued form u b
  part-valued b k = record { text = λ e _. no_one (sound.stored.format (sym k ∙ e)); value = λ e _. no_one (sound.stored.format (sym k ∙ e)) }

  -- ---- it begins with its row

  front-writable : p.from ≡ 0 → Writable form u (shortened u p)
  unfolding linked
  front-writable e =
      sound-writable form u (shortened u p)
      (record {
        client = sound.client;
        end = omega (arith, sound.end, inside.most);
        kind = sound.kind;
        left = sound.left;
        right = sound.right;
        parent = sound.parent;
        name = sound.name;
        key = sound.key;
        mark = sound.mark;
        shape = record { bare = sound.shape.bare; rootless = sound.shape.rootless; rooted = sound.shape.rooted };
        stored = part-stored (shortened u p) refl refl refl (omega arith);
      })
      (part-valued (shortened u p) refl)

  -- ---- it begins later

  later-stored : Stored u (keyless (begun_later u p))
  later-stored = part-stored (keyless (begun_later u p)) refl refl refl refl

  item-id : is_item row.kind ≡ true → SoundId (is_item row.kind) (id_before p)
  item-id l = rw l (record { client = sound.client; clock = omega (arith, sound.end, inside.some, inside.most); absent = λ e. clash e })

  item-linked : is_item row.kind ≡ true → linked (begun_later u p) ≡ true
  unfolding linked
  item-linked l = rw l

  later-item : is_item row.kind ≡ true → Sound u (keyless (begun_later u p))
  unfolding linked
  later-item l =
      record {
        client = sound.client;
        end = omega (arith, sound.end, inside.some, inside.most);
        kind = sound.kind;
        left = item-id l;
        right = sound.right;
        parent = no-id;
        name = unnamed u;
        key = unnamed u;
        mark = sound.mark;
        shape = record { bare = λ m. clash (sym l ∙ m); rootless = λ m e. (refl, refl, refl); rooted = λ m e. clash (sym (item-linked l) ∙ e) };
        stored = later-stored;
      }

  -- what is bare has no ids

  no-right : is_item row.kind ≡ false → row.has_right ≡ false
  unfolding linked
  no-right l = go row.has_left (sound.shape.bare l).0
    where
      go : (x : Bool) → pick x true row.has_right ≡ false → row.has_right ≡ false
      go true e = clash e
      go false e = e

  bare-id : is_item row.kind ≡ false → SoundId (is_item row.kind) (id_before p)
  bare-id l = rw l no-id

  bare-unlinked : is_item row.kind ≡ false → linked (begun_later u p) ≡ false
  unfolding linked
  bare-unlinked l = rw l (no-right l)

  later-bare : is_item row.kind ≡ false → Sound u (keyless (begun_later u p))
  unfolding linked
  later-bare l =
      record {
        client = sound.client;
        end = omega (arith, sound.end, inside.some, inside.most);
        kind = sound.kind;
        left = bare-id l;
        right = sound.right;
        parent = no-id;
        name = unnamed u;
        key = unnamed u;
        mark = sound.mark;
        shape = record {
          bare = λ m. (bare-unlinked l, refl, refl, refl);
          rootless = λ m e. clash (sym m ∙ l);
          rooted = λ m e. clash (sym m ∙ l);
        };
        stored = later-stored;
      }

  later-writable : Writable form u (begun_later u p)
  later-writable = go (is_item row.kind) refl
    where
      valued : Valued form u (begun_later u p)
      valued = part-valued (begun_later u p) refl

      go : (x : Bool) → is_item row.kind ≡ x → Writable form u (begun_later u p)
      go true e = keyless-writable form u (begun_later u p) (later-item e) (λ f. clash (sym (item-linked e) ∙ f)) valued
      go false e =
          let none = (sound.shape.bare e).3 in
          keyless-writable form u (begun_later u p) (later-bare e) (λ f. (none, sound.key.absent none)) valued

-- ---- any piece that is kept

module _ (form : ℕ) (u : List ℕ) (p : Piece) (kept : KeptPiece form u p) where
  -- what is left of it can be written, has the row's client, and lies between its ends
  pub record CutOut (b : Block) : Type 0 where
    pub writable : Writable form u b
    pub client : b.client ≡ p.row.client
    pub clock : b.clock ≡ p.row.clock + p.from
    pub end : p.row.clock + p.from + b.length.0 ≡ p.row.clock + p.to

  not-whole : is_whole p ≡ false → Inside p
  not-whole h = go kept.ends
    where
      go : Whole p ⊎ Inside p → Inside p
      go (inl w) = clash (sym (whole-test p w.from w.to) ∙ h)
      go (inr i) = i

  pub cut_out : CutOut (cut_row u p)
  unfolding cut_row
  cut_out =
      chosen CutOut (is_whole p)
      (λ w.
      let e = whole-ends p w in
      let out = sound-writable form u p.row kept.sound kept.valued in
      record { writable = out; client = refl; clock = omega (arith, e.0); end = omega (arith, e.0, e.1) })
      (λ h.
      let i = not-whole h in
      chosen CutOut (eqb p.from 0)
      (λ x.
      let e = eqb-true p.from 0 x in
      record { writable = front-writable form u p kept h i e; client = refl; clock = omega (arith, e); end = omega (arith, e) })
      (λ _. record { writable = later-writable form u p kept h i; client = refl; clock = refl; end = omega (arith, i.some) }))
