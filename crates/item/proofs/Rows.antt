-- What stores into the words of a row do to where it stands: a left id, a right one, a parent, a name, a key; and a row that is begun.
use Prim.Native.Nat.{ℕ, ◌≤◌, ◌<◌}
use mathlib.Core.Path.{◌≡◌, refl, sym, ap, ◌∙◌}
use mathlib.Core.List.{List, [], ◌∷◌, ◌++◌}
use mathlib.Core.Bool.{false}
use native.Mathlib.Omega.{arith}
use lib.ListN.{length, get_or, set, drop}
use lib.Seq.{get_or-set_other, get_or-set_same, sets, sets-eq, length-sets}
use Rattle.numbers.specs.Words.{among}
use Rattle.block.specs.declared.Block.{Block}
use Rattle.block.specs.Rows.{plain, with_left, with_right, with_parent, with_name, with_key, with_content}
use Rattle.cells.specs.Cells.{Beside, part_in}
use Rattle.held.proofs.Rows.{Only, only_none, only_set, only-beside, size-kept, kept, narrow-parts, CONTENTS, content-put}
use Rattle.item.specs.Row.{id_in, row_in, Narrow, Begun}

-- ---- a clock that is small

module _ (ks r q : List ℕ) (o : Only ks r q) (n : Narrow r) (a : among 1 ks ≡ false) (b : among 3 ks ≡ false) (t : among 23 ks ≡ false) where
  narrow-left : get_or q 6 0 ≤ 4294967295 → among 9 ks ≡ false → among 12 ks ≡ false → Narrow q
  narrow-left c d e =
      record { size = size-kept ks r q o n; clock = kept ks r q o n 1 _ a n.clock; kind = kept ks r q o n 3 _ b n.kind; left = c; right = kept ks r q o n 9 _ d n.right; parent = kept ks r q o n 12 _ e n.parent; type = kept ks r q o n 23 _ t n.type }

  narrow-right : among 6 ks ≡ false → get_or q 9 0 ≤ 4294967295 → among 12 ks ≡ false → Narrow q
  narrow-right c d e =
      record { size = size-kept ks r q o n; clock = kept ks r q o n 1 _ a n.clock; kind = kept ks r q o n 3 _ b n.kind; left = kept ks r q o n 6 _ c n.left; right = d; parent = kept ks r q o n 12 _ e n.parent; type = kept ks r q o n 23 _ t n.type }

  narrow-parent : among 6 ks ≡ false → among 9 ks ≡ false → get_or q 12 0 ≤ 4294967295 → Narrow q
  narrow-parent c d e =
      record { size = size-kept ks r q o n; clock = kept ks r q o n 1 _ a n.clock; kind = kept ks r q o n 3 _ b n.kind; left = kept ks r q o n 6 _ c n.left; right = kept ks r q o n 9 _ d n.right; parent = e; type = kept ks r q o n 23 _ t n.type }

-- ---- a field put, with its flag behind it

abbrev LEFTS : List ℕ
LEFTS = 4 ∷ 5 ∷ 6 ∷ []

abbrev RIGHTS : List ℕ
RIGHTS = 7 ∷ 8 ∷ 9 ∷ []

abbrev PARENTS : List ℕ
PARENTS = 10 ∷ 11 ∷ 12 ∷ []

abbrev NAMES : List ℕ
NAMES = 13 ∷ 14 ∷ 15 ∷ []

abbrev KEYS : List ℕ
KEYS = 16 ∷ 17 ∷ 18 ∷ []

module _ (r q : List ℕ) (n : Narrow r) where
  flag : (ks : List ℕ) (i : ℕ) → Only ks r q → i < 24 → get_or (set q i 1) i 0 ≡ 1
  flag ks i o l = get_or-set_same q i 1 0 (omega (arith, size-kept ks r q o n))

  -- a left id, whether or not its flag is set
  pub left-put : Beside 5 r q → get_or q 6 0 ≤ 4294967295 → Narrow q × Narrow (set q 4 1) × (row_in (set q 4 1) ≡ with_left (id_in q 5) (row_in r))
  unfolding among row_in id_in part_in
  left-put e b =
      let o : Only LEFTS r q = only-beside LEFTS r 5 q refl refl e in
      let z = set q 4 1 in
      let p : Only LEFTS r z = only_set LEFTS r q 4 1 refl o in
      let five : get_or z 5 0 ≡ get_or q 5 0 = get_or-set_other q 4 5 1 0 (λ x. omega arith) in
      let six : get_or z 6 0 ≡ get_or q 6 0 = get_or-set_other q 4 6 1 0 (λ x. omega arith) in (
        narrow-left LEFTS r q o n refl refl refl b refl refl,
        narrow-left LEFTS r z p n refl refl refl (rw six b) refl refl,
        rw (flag LEFTS 4 o (omega arith), five, six, p.same 0 refl, p.same 1 refl, p.same 2 refl, p.same 3 refl, p.same 7 refl, p.same 8 refl, p.same 9 refl, p.same 10 refl, p.same 11 refl, p.same 12 refl, p.same 13 refl, p.same 14 refl, p.same 15 refl, p.same 16 refl, p.same 17 refl, p.same 18 refl, p.same 19 refl, p.same 20 refl, p.same 21 refl, p.same 22 refl, p.same 23 refl) refl,
      )

  pub right-put : Beside 8 r q → get_or q 9 0 ≤ 4294967295 → Narrow q × Narrow (set q 7 1) × (row_in (set q 7 1) ≡ with_right (id_in q 8) (row_in r))
  unfolding among row_in id_in part_in
  right-put e b =
      let o : Only RIGHTS r q = only-beside RIGHTS r 8 q refl refl e in
      let z = set q 7 1 in
      let p : Only RIGHTS r z = only_set RIGHTS r q 7 1 refl o in
      let eight : get_or z 8 0 ≡ get_or q 8 0 = get_or-set_other q 7 8 1 0 (λ x. omega arith) in
      let nine : get_or z 9 0 ≡ get_or q 9 0 = get_or-set_other q 7 9 1 0 (λ x. omega arith) in (
        narrow-right RIGHTS r q o n refl refl refl refl b refl,
        narrow-right RIGHTS r z p n refl refl refl refl (rw nine b) refl,
        rw (flag RIGHTS 7 o (omega arith), eight, nine, p.same 0 refl, p.same 1 refl, p.same 2 refl, p.same 3 refl, p.same 4 refl, p.same 5 refl, p.same 6 refl, p.same 10 refl, p.same 11 refl, p.same 12 refl, p.same 13 refl, p.same 14 refl, p.same 15 refl, p.same 16 refl, p.same 17 refl, p.same 18 refl, p.same 19 refl, p.same 20 refl, p.same 21 refl, p.same 22 refl, p.same 23 refl) refl,
      )

  pub parent-put : Beside 11 r q → get_or q 12 0 ≤ 4294967295 → Narrow q × Narrow (set q 10 1) × (row_in (set q 10 1) ≡ with_parent (id_in q 11) (row_in r))
  unfolding among row_in id_in part_in
  parent-put e b =
      let o : Only PARENTS r q = only-beside PARENTS r 11 q refl refl e in
      let z = set q 10 1 in
      let p : Only PARENTS r z = only_set PARENTS r q 10 1 refl o in
      let eleven : get_or z 11 0 ≡ get_or q 11 0 = get_or-set_other q 10 11 1 0 (λ x. omega arith) in
      let twelve : get_or z 12 0 ≡ get_or q 12 0 = get_or-set_other q 10 12 1 0 (λ x. omega arith) in (
        narrow-parent PARENTS r q o n refl refl refl refl refl b,
        narrow-parent PARENTS r z p n refl refl refl refl refl (rw twelve b),
        rw (flag PARENTS 10 o (omega arith), eleven, twelve, p.same 0 refl, p.same 1 refl, p.same 2 refl, p.same 3 refl, p.same 4 refl, p.same 5 refl, p.same 6 refl, p.same 7 refl, p.same 8 refl, p.same 9 refl, p.same 13 refl, p.same 14 refl, p.same 15 refl, p.same 16 refl, p.same 17 refl, p.same 18 refl, p.same 19 refl, p.same 20 refl, p.same 21 refl, p.same 22 refl, p.same 23 refl) refl,
      )

  pub name-put : Beside 14 r q → Narrow q × Narrow (set q 13 1) × (row_in (set q 13 1) ≡ with_name (part_in q 14) (row_in r))
  unfolding among row_in id_in part_in
  name-put e =
      let o : Only NAMES r q = only-beside NAMES r 14 q refl refl e in
      let z = set q 13 1 in
      let p : Only NAMES r z = only_set NAMES r q 13 1 refl o in
      let first : get_or z 14 0 ≡ get_or q 14 0 = get_or-set_other q 13 14 1 0 (λ x. omega arith) in
      let second : get_or z 15 0 ≡ get_or q 15 0 = get_or-set_other q 13 15 1 0 (λ x. omega arith) in (
        narrow-parts NAMES r q o n refl refl refl refl refl refl,
        narrow-parts NAMES r z p n refl refl refl refl refl refl,
        rw (flag NAMES 13 o (omega arith), first, second, p.same 0 refl, p.same 1 refl, p.same 2 refl, p.same 3 refl, p.same 4 refl, p.same 5 refl, p.same 6 refl, p.same 7 refl, p.same 8 refl, p.same 9 refl, p.same 10 refl, p.same 11 refl, p.same 12 refl, p.same 16 refl, p.same 17 refl, p.same 18 refl, p.same 19 refl, p.same 20 refl, p.same 21 refl, p.same 22 refl, p.same 23 refl) refl,
      )

  pub key-put : Beside 17 r q → Narrow q × Narrow (set q 16 1) × (row_in (set q 16 1) ≡ with_key (part_in q 17) (row_in r))
  unfolding among row_in id_in part_in
  key-put e =
      let o : Only KEYS r q = only-beside KEYS r 17 q refl refl e in
      let z = set q 16 1 in
      let p : Only KEYS r z = only_set KEYS r q 16 1 refl o in
      let first : get_or z 17 0 ≡ get_or q 17 0 = get_or-set_other q 16 17 1 0 (λ x. omega arith) in
      let second : get_or z 18 0 ≡ get_or q 18 0 = get_or-set_other q 16 18 1 0 (λ x. omega arith) in (
        narrow-parts KEYS r q o n refl refl refl refl refl refl,
        narrow-parts KEYS r z p n refl refl refl refl refl refl,
        rw (flag KEYS 16 o (omega arith), first, second, p.same 0 refl, p.same 1 refl, p.same 2 refl, p.same 3 refl, p.same 4 refl, p.same 5 refl, p.same 6 refl, p.same 7 refl, p.same 8 refl, p.same 9 refl, p.same 10 refl, p.same 11 refl, p.same 12 refl, p.same 13 refl, p.same 14 refl, p.same 15 refl, p.same 19 refl, p.same 20 refl, p.same 21 refl, p.same 22 refl, p.same 23 refl) refl,
      )

-- ---- rows without a part

module _ (r : List ℕ) (n : Narrow r) (len kind : ℕ) (b : kind ≤ 255) where
  -- of a row that is begun
  pub bare-put : Begun r → (let z = set (set r 2 len) 3 kind in Narrow z × (row_in z ≡ plain (row_in r).client (row_in r).clock len kind))
  unfolding row_in part_in
  bare-put e =
      let p = content-put r r n len kind (only_none CONTENTS r) b in
      (p.0, p.1 ∙ ap (λ (b : Block). with_content kind (record { 0 = len }) b.part b) e)

-- nothing but a client and a clock
module _ (r : List ℕ) (client clock : ℕ) (l : length r ≡ 24) where
  abbrev begun_words : List ℕ
  begun_words = client ∷ clock ∷ 0 ∷ 0 ∷ 0 ∷ 0 ∷ 0 ∷ 0 ∷ 0 ∷ 0 ∷ 0 ∷ 0 ∷ 0 ∷ 0 ∷ 0 ∷ 0 ∷ 0 ∷ 0 ∷ 0 ∷ 0 ∷ 0 ∷ 0 ∷ 0 ∷ 0 ∷ []

  begun-words : sets r 0 begun_words ≡ begun_words ++ drop 24 r
  begun-words = sets-eq begun_words r 0 (omega arith)

  pub begun-put : clock ≤ 4294967295 → Narrow (sets r 0 begun_words) × (row_in (sets r 0 begun_words) ≡ plain client clock 0 0)
  unfolding row_in id_in part_in
  begun-put b = rw begun-words (
    record { size = size; clock = b; kind = omega arith; left = omega arith; right = omega arith; parent = omega arith; type = omega arith },
    refl,
  )
    where
      size : length (begun_words ++ drop 24 r) ≡ 24
      size = ap length (sym begun-words) ∙ length-sets r 0 begun_words ∙ l

pub begun-is : (q : List ℕ) (client clock : ℕ) → row_in q ≡ plain client clock 0 0 → Begun q
begun-is q client clock e = e ∙ sym (ap (λ (b : Block). plain b.client b.clock 0 0) e)
