-- A sound row that is cut: the units behind the cut take all bytes that are left, of a text as of a list, so only the cut of a text can lie inside a pair,
-- and what is left of the row is the piece's record.
use Prim.Native.Nat.{ℕ, ◌+◌, ◌-◌, ◌≤◌, ◌<◌}
use mathlib.Core.Path.{◌≡◌, refl, sym, ap, ap₂, ◌∙◌}
use mathlib.Core.Bool.{Bool, true, false, ◌||◌}
use mathlib.Core.List.{List, [], append-nil}
use native.Mathlib.Omega.{arith}
use lib.Dec.{eqb}
use lib.ListN.{length, drop, length-drop}
use lib.Seq.{length-slice}
use borrow.Author.Tests.{eqb-true, eq-eqb}
use Rattle.numbers.specs.Number.{pick}
use Rattle.text.specs.declared.Part.{Part}
use Rattle.text.specs.declared.Taken.{Taken}
use Rattle.text.specs.declared.Taken.TheVariants as units
use Rattle.text.specs.Utf8.{well_formed, units_of, took, take_units}
use Rattle.text.proofs.Cutting.{cut, found}
use Rattle.block.specs.declared.Block.{Block}
use Rattle.block.specs.Kinds.{TEXT, ANY, is_text, is_any}
use Rattle.readings.specs.Sound.{bytes_in}
use Rattle.readings.specs.SoundInner.{Lies, Sound}
use Rattle.parts.specs.Brim.{brim}
use Rattle.kept.specs.Kept.{Piece, piece, whole_piece}
use Rattle.kept.specs.Cut.{bytes_for, broken, bytes_before, cut_part, span, cut_list, torn_text, is_whole, part_of, front, behind, shortened, begun_later, cut_row, torn}
use Rattle.kept.specs.Plan.{cut_in, cuts, skip_for, sane, part_at, cut_at, rest_of}
use Rattle.kept.proofs.Sane.{within-sane}
use Rattle.kept.proofs.Lists.{IsList, list-row, span-within, span_rest}
use Rattle.kept.proofs.SectionsRun.{torn_at}

not-broken : (r : Taken) → broken r ≡ false → r ≡ took (bytes_for r)
unfolding broken bytes_for
not-broken (units.Took b) e = refl
not-broken (units.Refused why) e = absurd (let z : ◌≡◌ {A = ℕ} 0 1 = cc in omega arith)

part_length : (u : List ℕ) (p : Part) → Lies u p → length (bytes_in u p) ≡ p.bytes.0
unfolding bytes_in
part_length u p l = length-slice p.place (p.place + p.bytes.0) u l ∙ omega arith

-- ---- the text of a sound row

module _ (u : List ℕ) (b : Block) (sound : Sound u b) where
  -- behind a cut after n units and e bytes
  record Rest (n e : ℕ) : Type 0 where
    within : e ≤ b.part.bytes.0
    taken : take_units 9 (b.length.0 - n) (drop e (bytes_in u b.part)) ≡ took (b.part.bytes.0 - e)

  rest-taken : (n e : ℕ) → b.kind ≡ TEXT → take_units 9 n (bytes_in u b.part) ≡ took e → Rest n e
  rest-taken n e kind p =
      let t = bytes_in u b.part in
      let whole = sound.stored.text kind in
      let c = cut 9 n e t p in
      let formed : well_formed (drop e t) ≡ true = c.back ∙ whole.0 in
      let left : units_of (drop e t) ≡ b.length.0 - n = omega (arith, c.rest, whole.1) in
      let bytes : length t ≡ b.part.bytes.0 = part_length u b.part sound.stored.lies in
      let size : length (drop e t) ≡ b.part.bytes.0 - e = length-drop e t ∙ ap (λ (x : ℕ). x - e) bytes in
      record {
        within = omega (arith, c.within);
        taken = ap₂ (take_units 9) (sym left) (sym (append-nil (drop e t))) ∙ found 9 (drop e t) [] formed ∙ ap took size;
      }

  -- ---- torn

  torn-text : (n : ℕ) → b.kind ≡ TEXT → torn_text u b.part n (b.length.0 - n) ≡ broken (take_units 9 n (bytes_in u b.part))
  unfolding torn_text broken
  torn-text n kind = go (broken (take_units 9 n (bytes_in u b.part))) refl
    where
      go : (t : Bool) → broken (take_units 9 n (bytes_in u b.part)) ≡ t
          → pick t true (broken (take_units 9 (b.length.0 - n) (drop (bytes_before (bytes_in u b.part) n) (bytes_in u b.part)))) ≡ t
      go true e = refl
      go false e = ap broken (rest-taken n (bytes_before (bytes_in u b.part) n) kind (not-broken (take_units 9 n (bytes_in u b.part)) e)).taken

  pub torn-first : (n : ℕ) → torn u (piece b n b.length.0) ≡ torn_at u b n
  unfolding torn is_whole torn_at cuts cut_in
  torn-first n = rw (eq-eqb b.length.0 b.length.0 refl) (go (eqb n 0) (is_text b.kind) refl)
    where
      go : (x y : Bool) → is_text b.kind ≡ y
          → pick (pick x true false) false (pick y (torn_text u b.part n (b.length.0 - n)) false)
          ≡ pick (pick x false y) (broken (take_units 9 n (bytes_in u b.part))) false
      go true y e = refl
      go false true e = torn-text n (eqb-true b.kind TEXT e)
      go false false e = refl

  pub torn-whole : torn u (whole_piece b) ≡ false
  unfolding torn is_whole
  torn-whole = rw (eq-eqb b.length.0 b.length.0 refl)

  -- ---- what is left of it

  -- a cut in the row that is not torn
  module _ (n : ℕ) (inside : n ≤ b.length.0) (whole : torn_at u b n ≡ false) where
    text-cuts : eqb n 0 ≡ false → is_text b.kind ≡ true → cuts b n ≡ true
    unfolding cuts
    text-cuts some kind = rw some kind

    -- what falls away: of a text, of a list, of all else

    skip-text : eqb n 0 ≡ false → is_text b.kind ≡ true → take_units 9 n (bytes_in u b.part) ≡ took (skip_for u b n)
    unfolding skip_for torn_at cut_in
    skip-text some kind =
        rw (some, kind) (not-broken (take_units 9 n (bytes_in u b.part)) (rw (text-cuts some kind) at whole))

    skip-list : eqb n 0 ≡ false → is_any b.kind ≡ true → skip_for u b n ≡ span u b.part.place n
    unfolding skip_for
    skip-list some kind = rw (some, eqb-true b.kind ANY kind)

    skip-none : is_text b.kind ≡ false → is_any b.kind ≡ false → skip_for u b n ≡ 0
    unfolding skip_for
    skip-none text any = rw (text, any) (go (eqb n 0))
      where
        go : (x : Bool) → ◌≡◌ {A = ℕ} (pick x 0 0) 0
        go true = refl
        go false = refl

    skip-nothing : eqb n 0 ≡ true → skip_for u b n ≡ 0
    unfolding skip_for
    skip-nothing none = rw none

    a-list : is_any b.kind ≡ true → IsList u b.part b.length.0
    a-list kind = list-row u (whole_piece b) (eqb-true b.kind ANY kind) sound

    pub skip-within : skip_for u b n ≤ b.part.bytes.0
    skip-within = go (eqb n 0) refl (is_text b.kind) refl (is_any b.kind) refl
      where
        go : (x : Bool) → eqb n 0 ≡ x → (y : Bool) → is_text b.kind ≡ y → (z : Bool) → is_any b.kind ≡ z → skip_for u b n ≤ b.part.bytes.0
        go true e y f z g = omega (arith, skip-nothing e)
        go false e true f z g = (rest-taken n (skip_for u b n) (eqb-true b.kind TEXT f) (skip-text e f)).within
        go false e false f true g = omega (arith, skip-list e g, span-within u b.part b.length.0 (a-list g) n inside)
        go false e false f false g = omega (arith, skip-none f g)

    pub first-sane : length u < brim → sane b (rest_of b n (skip_for u b n)) ≡ true
    first-sane short =
        within-sane b (rest_of b n (skip_for u b n))
        (record {
          some = inside;
          units = omega arith;
          end = sound.end;
          bytes = omega (arith, skip-within);
          place = omega (arith, sound.stored.lies);
        })

    abbrev part_with : ℕ → ℕ → Part
    part_with x y = record { place = b.part.place + x; bytes = record { 0 = y } }

    part_left : eqb n 0 ≡ false → part_at b (rest_of b n (skip_for u b n)) ≡ part_of u (piece b n b.length.0)
    unfolding part_at part_of cut_part cut_list bytes_for
    part_left some = go (is_text b.kind) refl (is_any b.kind) refl
      where
        go : (x : Bool) → is_text b.kind ≡ x → (y : Bool) → is_any b.kind ≡ y
            → pick (x || y) (part_with (skip_for u b n) (b.part.bytes.0 - skip_for u b n)) b.part
            ≡ pick x (cut_part u b.part n (b.length.0 - n)) (pick y (cut_list u b.part n (b.length.0 - n)) b.part)
        go true k y l =
            let t = bytes_in u b.part in
            let e = skip_for u b n in
            let p = skip-text some k in
            let first : e ≡ bytes_before t n = sym (ap bytes_for p) in
            let rest : b.part.bytes.0 - e ≡ bytes_before (drop (bytes_before t n) t) (b.length.0 - n) =
            sym (ap bytes_for (rest-taken n e (eqb-true b.kind TEXT k) p).taken) ∙ ap (λ (x : ℕ). bytes_before (drop x t) (b.length.0 - n)) first in
            ap₂ part_with first rest
        go false k true l =
            let first = skip-list some l in
            let rest : b.part.bytes.0 - skip_for u b n ≡ span u (b.part.place + span u b.part.place n) (b.length.0 - n) =
            ap (λ (x : ℕ). b.part.bytes.0 - x) first ∙ sym (span_rest u b.part b.length.0 (a-list l) n inside) in
            ap₂ part_with first rest
        go false k false l = refl

    -- the piece that is left is the row cut
    pub first-left : cut_at b (rest_of b n (skip_for u b n)) ≡ cut_row u (piece b n b.length.0)
    unfolding cut_at cut_row is_whole
    first-left = rw (eq-eqb b.length.0 b.length.0 refl) (go (eqb n 0) refl)
      where
        p : Piece
        p = piece b n b.length.0

        part : Part
        part = part_at b (rest_of b n (skip_for u b n))

        go : (x : Bool) → eqb n 0 ≡ x
            → pick (pick x true false) b (pick x (front b.length.0 part b) (behind n b.length.0 part b))
            ≡ pick (pick x true false) b (pick x (shortened u p) (begun_later u p))
        go true e = refl
        go false e = ap (λ (q : Part). behind n b.length.0 q b) (part_left e)

  -- ---- a whole row

  pub whole-sane : length u < brim → sane b (rest_of b 0 0) ≡ true
  whole-sane short =
      within-sane b (rest_of b 0 0)
      (record { some = omega arith; units = omega arith; end = sound.end; bytes = omega arith; place = omega (arith, sound.stored.lies) })

  pub whole-left : cut_at b (rest_of b 0 0) ≡ cut_row u (whole_piece b)
  unfolding cut_at cut_row is_whole
  whole-left = rw (eq-eqb b.length.0 b.length.0 refl)
