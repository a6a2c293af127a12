-- What stores into the words of a row do to the row: the fields whose words they are change, and the others are as before.
use Prim.Native.Nat.{ℕ, ◌+◌, ◌≤◌, ◌<◌}
use mathlib.Core.Path.{◌≡◌, refl, sym, ap, subst, ◌∙◌}
use mathlib.Core.List.{List, [], ◌∷◌}
use mathlib.Core.Bool.{Bool, true, false}
use mathlib.Core.Logic.{◌≢◌}
use native.Mathlib.Omega.{arith}
use lib.ListN.{length, get_or, set, length-set}
use lib.Seq.{get_or-set_other, get_or-set_same}
use Rattle.numbers.specs.Number.{pick}
use Rattle.numbers.specs.Words.{among}
use Rattle.text.specs.declared.Part.{Part}
use Rattle.block.specs.Row.{no_part}
use Rattle.block.specs.Rows.{with_mark, with_type, with_content}
use Rattle.cells.specs.Cells.{Beside, part_in}
use Rattle.cells.proofs.States.{beside-put}
use Rattle.fields.proofs.Laws as fields
use Rattle.held.specs.Row.{id_in, row_in, Narrow}

-- ---- only the words ks changed, from r to q

pub record Only (ks r q : List ℕ) : Type 0 where
  pub size : length q ≡ length r
  pub same : (j : ℕ) → among j ks ≡ false → get_or q j 0 ≡ get_or r j 0

among-other : (ks : List ℕ) (j n : ℕ) → among n ks ≡ true → among j ks ≡ false → j ≢ n
among-other ks j n a b e =
    let x : true ≡ false = sym a ∙ ap (λ (m : ℕ). among m ks) (sym e) ∙ b in
    absurd (let z : ◌≡◌ {A = ℕ} 0 1 = ap (λ (x : Bool). pick x 0 1) x in omega arith)

module _ (ks r : List ℕ) where
  pub only_none : Only ks r r
  only_none = record { size = refl; same = λ j h. refl }

  pub only_set : (q : List ℕ) (n a : ℕ) → among n ks ≡ true → Only ks r q → Only ks r (set q n a)
  only_set q n a h o = record { size = length-set q n a ∙ o.size; same = λ j k. get_or-set_other q n j a 0 (among-other ks j n h k) ∙ o.same j k }

  pub only-beside : (k : ℕ) (q : List ℕ) → among k ks ≡ true → among (k + 1) ks ≡ true → Beside k r q → Only ks r q
  only-beside k q a b e =
      subst (Only ks r) (sym e) (only_set (set r k (get_or q k 0)) (k + 1) (get_or q (k + 1) 0) b (only_set r k (get_or q k 0) a only_none))

-- ---- small words stay small

module _ (ks r q : List ℕ) (o : Only ks r q) (n : Narrow r) where
  pub size-kept : length q ≡ 24
  size-kept = o.size ∙ n.size

  pub kept : (j m : ℕ) → among j ks ≡ false → get_or r j 0 ≤ m → get_or q j 0 ≤ m
  kept j m h b = subst (λ (x : ℕ). x ≤ m) (sym (o.same j h)) b

  -- what is no clock changed
  pub narrow-bare : among 1 ks ≡ false → get_or q 3 0 ≤ 255 → among 6 ks ≡ false → among 9 ks ≡ false → among 12 ks ≡ false → get_or q 23 0 ≤ 65535 → Narrow q
  narrow-bare a b c d e f =
      record { size = size-kept; clock = kept 1 _ a n.clock; kind = b; left = kept 6 _ c n.left; right = kept 9 _ d n.right; parent = kept 12 _ e n.parent; type = f }

  -- nor a kind or a type number
  pub narrow-parts : among 1 ks ≡ false → among 3 ks ≡ false → among 6 ks ≡ false → among 9 ks ≡ false → among 12 ks ≡ false → among 23 ks ≡ false → Narrow q
  narrow-parts a b c d e f = narrow-bare a (kept 3 _ b n.kind) c d e (kept 23 _ f n.type)

-- ---- what a row holds

abbrev pub CONTENTS : List ℕ
CONTENTS = 2 ∷ 3 ∷ 19 ∷ 20 ∷ []

abbrev MARKS : List ℕ
MARKS = 21 ∷ 22 ∷ []

abbrev TYPES : List ℕ
TYPES = 23 ∷ []

module _ (r q : List ℕ) (n : Narrow r) where
  -- a length and a kind, of a row whose part may have changed
  pub content-put : (len kind : ℕ) → Only CONTENTS r q → kind ≤ 255
      → (let z = set (set q 2 len) 3 kind in Narrow z × (row_in z ≡ with_content kind (record { 0 = len }) (part_in q 19) (row_in r)))
  unfolding among row_in id_in part_in
  content-put len kind o b =
      let y = set q 2 len in
      let z = set y 3 kind in
      let p : Only CONTENTS r z = only_set CONTENTS r y 3 kind refl (only_set CONTENTS r q 2 len refl o) in
      let size = size-kept CONTENTS r q o n in
      let two : get_or z 2 0 ≡ len = get_or-set_other y 3 2 kind 0 (λ x. omega arith) ∙ get_or-set_same q 2 len 0 (omega (arith, size)) in
      let three : get_or z 3 0 ≡ kind = get_or-set_same y 3 kind 0 (omega (arith, size, length-set q 2 len)) in
      let first : get_or z 19 0 ≡ get_or q 19 0 = get_or-set_other y 3 19 kind 0 (λ x. omega arith) ∙ get_or-set_other q 2 19 len 0 (λ x. omega arith) in
      let second : get_or z 20 0 ≡ get_or q 20 0 = get_or-set_other y 3 20 kind 0 (λ x. omega arith) ∙ get_or-set_other q 2 20 len 0 (λ x. omega arith) in (
        narrow-bare CONTENTS r z p n refl (rw three b) refl refl refl (kept CONTENTS r z p n 23 _ refl n.type),
        rw (two, three, first, second, p.same 0 refl, p.same 1 refl, p.same 4 refl, p.same 5 refl, p.same 6 refl, p.same 7 refl, p.same 8 refl, p.same 9 refl, p.same 10 refl, p.same 11 refl, p.same 12 refl, p.same 13 refl, p.same 14 refl, p.same 15 refl, p.same 16 refl, p.same 17 refl, p.same 18 refl, p.same 21 refl, p.same 22 refl, p.same 23 refl) refl,
      )

  -- the part is in words 19 and 20
  pub part-narrow : Beside 19 r q → Narrow q
  unfolding among
  part-narrow e =
      let ks : List ℕ = 19 ∷ 20 ∷ [] in
      narrow-parts ks r q (only-beside ks r 19 q refl refl e) n refl refl refl refl refl refl

  pub part-put : (len kind : ℕ) → Beside 19 r q → kind ≤ 255
      → (let z = set (set q 2 len) 3 kind in Narrow z × (row_in z ≡ with_content kind (record { 0 = len }) (part_in q 19) (row_in r)))
  unfolding among
  part-put len kind e b = content-put len kind (only-beside CONTENTS r 19 q refl refl e) b

  -- the mark is in words 21 and 22
  pub mark-put : Beside 21 r q → Narrow q × (row_in q ≡ with_mark (part_in q 21) (row_in r))
  unfolding among row_in id_in part_in
  mark-put e =
      let p : Only MARKS r q = only-beside MARKS r 21 q refl refl e in
      (narrow-parts MARKS r q p n refl refl refl refl refl refl, rw (p.same 0 refl, p.same 1 refl, p.same 2 refl, p.same 3 refl, p.same 4 refl, p.same 5 refl, p.same 6 refl, p.same 7 refl, p.same 8 refl, p.same 9 refl, p.same 10 refl, p.same 11 refl, p.same 12 refl, p.same 13 refl, p.same 14 refl, p.same 15 refl, p.same 16 refl, p.same 17 refl, p.same 18 refl, p.same 19 refl, p.same 20 refl, p.same 23 refl) refl)

module _ (r : List ℕ) (n : Narrow r) where
  -- no part, put in words 19 and 20
  pub deleted-put : (len kind : ℕ) → kind ≤ 255
      → (let z = set (set (set (set r 19 0) 20 0) 2 len) 3 kind in Narrow z × (row_in z ≡ with_content kind (record { 0 = len }) no_part (row_in r)))
  deleted-put len kind b =
      let room : 19 + 1 < length r = omega (arith, n.size) in
      let p = part-put r (set (set r 19 0) 20 0) n len kind (beside-put 19 0 0 r room) b in
      (p.0, p.1 ∙ ap (λ (part : Part). with_content kind (record { 0 = len }) part (row_in r)) (fields.part-put 19 0 0 r room))

  -- a type number
  pub type_put : (t : ℕ) → t ≤ 65535 → Narrow (set r 23 t) × (row_in (set r 23 t) ≡ with_type t (row_in r))
  unfolding among row_in id_in part_in
  type_put t b =
      let z = set r 23 t in
      let p : Only TYPES r z = only_set TYPES r r 23 t refl (only_none TYPES r) in
      let it : get_or z 23 0 ≡ t = get_or-set_same r 23 t 0 (omega (arith, n.size)) in
      (narrow-bare TYPES r z p n refl (kept TYPES r z p n 3 _ refl n.kind) refl refl refl (rw it b), rw (it, p.same 0 refl, p.same 1 refl, p.same 2 refl, p.same 3 refl, p.same 4 refl, p.same 5 refl, p.same 6 refl, p.same 7 refl, p.same 8 refl, p.same 9 refl, p.same 10 refl, p.same 11 refl, p.same 12 refl, p.same 13 refl, p.same 14 refl, p.same 15 refl, p.same 16 refl, p.same 17 refl, p.same 18 refl, p.same 19 refl, p.same 20 refl, p.same 21 refl, p.same 22 refl) refl)
